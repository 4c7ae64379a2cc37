-- `machine::Whole::take_request` meets its contract. Assumes nothing.
use mathlib.Core.Path.{◌≡◌, sym, ap, ◌∙◌}
use borrow.Author.Rules.{rules}
use lib.IntN.{ℤ}
use mir.Syntax.{w64}
use mir.Val.{to_z, of_z}
use Rattle.std.specs.Prelude.{Ok}
use Rattle.contract.specs.Decode.{contract_of}
use Rattle.lines.specs.Lines.{asked}
use Rattle.lines.specs.declared.Request.{Request}
use Rattle.questions.specs.declared.Question.{Question}
use Rattle.outcomes.specs.declared.Outcome.{Outcome}
use Rattle.outcomes.specs.Outcomes.{answered}
use Rattle.machine.specs.Steps.{jumped}
use Rattle.machine.proofs.Gates.{ticks_so}
use Rattle.machine.proofs.Replies.{quiet_as}
use Rattle.machine.proofs.Taken.{does_tick, does_jump}
use Rattle.machine.proofs.Whole.take_request.Goals as goal

pub returns-in-Tick : goal.returns-in-Tick
returns-in-Tick c =
    let l = c.args.line.now in
    let e = sym c.requires.request ∙ ap (λ (r : Request). Ok r) c.in-Tick.is in
    quiet_as _ c.silent.ensures c.requires.no_labels (ap (λ (o : Outcome Question). answered o c.tick_on.new.s) c.passage.ensures ∙ c.tick_on.ensures ∙ ticks_so (contract_of c.args.self.now.terms.table.now) c.args.s.now (sym c.requires.at_rest) ∙ does_tick (contract_of c.args.self.now.terms.table.now) c.args.s.now l (asked l) e)

pub returns-in-Jump : goal.returns-in-Jump
returns-in-Jump c =
    let w = contract_of c.args.self.now.terms.table.now in
    let l = c.args.line.now in
    let to : to_z w64 (of_z w64 c.in-Jump.to) ≡ c.in-Jump.to = search rules in
    let e = sym c.requires.request ∙ ap (λ (r : Request). Ok r) c.in-Jump.is in
    quiet_as _ c.silent-in-Jump.ensures c.requires.no_labels (ap (λ (o : Outcome Question). answered o c.jump_on.new.s) c.passage-in-Jump.ensures ∙ c.jump_on.ensures ∙ ap (λ (y : ℤ). jumped w c.args.s.now y) to ∙ does_jump w c.args.s.now l (asked l) e)
