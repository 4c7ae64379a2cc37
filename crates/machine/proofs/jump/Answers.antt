-- `machine::jump` meets its contract. Assumes nothing.
use mathlib.Core.Path.{ap, ◌∙◌}
use lib.IntN.{ℤ}
use mir.Facts.{to_z-of_z}
use Rattle.questions.specs.declared.Question.{Question}
use Rattle.outcomes.specs.declared.Outcome.{Outcome}
use Rattle.outcomes.specs.Outcomes.{answered}
use Rattle.contract.specs.Tree.{Contract}
use Rattle.contract.specs.Decode.{contract_of}
use Rattle.machine.specs.Steps.{jumped}
use Rattle.machine.proofs.Gates.{refused_first, stepped}
use Rattle.machine.proofs.jump.Goals as goal

pub returns-in-Err : goal.returns-in-Err
returns-in-Err c =
    c.refuse.ensures ∙ refused_first c.args.table.now c.args.room c.args.s _ c.admit.ensures (λ (x : Contract). jumped x c.args.s c.args.to) c.in-Err.q c.in-Err.is

pub returns : goal.returns
returns c =
    let k = contract_of c.args.table.now in
    c.answer.ensures
    ∙ ap (λ (o : Outcome Question). answered o c.jump_on-r.new.s) c.passage.ensures ∙ c.jump_on-r.ensures ∙ ap (λ (z : ℤ). jumped k c.args.s z) (to_z-of_z c.ranges.to)
    ∙ stepped c.args.table.now c.args.room c.args.s _ c.admit.ensures _ c.in_default.is
    (λ (x : Contract). jumped x c.args.s c.args.to)
