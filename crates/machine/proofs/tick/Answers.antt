-- `machine::tick` meets its contract. Assumes nothing.
use mathlib.Core.Path.{ap, ◌∙◌}
use Rattle.questions.specs.declared.Question.{Question}
use Rattle.outcomes.specs.declared.Outcome.{Outcome}
use Rattle.outcomes.specs.Outcomes.{answered}
use Rattle.contract.specs.Tree.{Contract}
use Rattle.contract.specs.Decode.{contract_of}
use Rattle.machine.specs.Steps.{ticked}
use Rattle.machine.proofs.Gates.{refused_first, stepped, ticks_so}
use Rattle.machine.proofs.tick.Goals as goal

pub returns-in-Err : goal.returns-in-Err
returns-in-Err c =
    c.refuse.ensures ∙ refused_first c.args.table.now c.args.room c.args.s _ c.admit.ensures (λ (x : Contract). ticked x c.args.s) c.in-Err.q c.in-Err.is

pub returns : goal.returns
returns c =
    c.answer.ensures ∙ ap (λ (o : Outcome Question). answered o c.tick_on-r.new.s) c.passage.ensures ∙ c.tick_on-r.ensures ∙ ticks_so (contract_of c.args.table.now) c.args.s c.first_due-due.ensures ∙ stepped c.args.table.now c.args.room c.args.s _ c.admit.ensures _ c.in_default.is (λ (x : Contract). ticked x c.args.s)
