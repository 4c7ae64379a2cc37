-- `machine::jump_on` meets its contract. Assumes nothing.
use mathlib.Core.Path.{sym, ap, ◌∙◌}
use Prim.Native.Nat.{ℕ, ◌+◌, ◌-◌}
use mir.Facts.{to_z-of_z}
use Rattle.std.proofs.lemmas.Result.{err_from_is_err_and}
use Rattle.std.specs.Prelude.{Result, Err}
use Rattle.questions.specs.declared.Question.{Question}
use Rattle.contract.specs.Decode.{contract_of}
use Rattle.state.specs.States.{times_until_due}
use Rattle.outcomes.specs.Outcomes.{answered}
use Rattle.machine.specs.Private.{passage}
use Rattle.machine.proofs.Gates.{rests}
use Rattle.machine.proofs.Tests.{too_early, in_time}
use Rattle.machine.proofs.Ticks.{jump_away, jump_past, jump_on}
use Rattle.machine.proofs.jump_on.Goals as goal

pub returns-in_err-at_rest : goal.returns-in_err-at_rest
returns-in_err-at_rest c =
    let p = err_from_is_err_and c.from_residual.result c.from_residual.ensures.1 in
    ap (λ (r : Result Unit Question). answered (passage r) c.args.s.now) (p.1 ∙ ap Err p.2) ∙ jump_away _ c.args.s.now c.args.to _ c.requires (sym c.in_err-at_rest.was ∙ c.at_rest.ensures)

pub returns-in_default : goal.returns-in_default
returns-in_default c =
    let r = rests c.args.s.now _ (sym c.in_ok-at_rest.was ∙ c.at_rest.ensures) in
    jump_past _ c.args.s.now c.args.to _ c.requires r.0 r.1
    (too_early _ c.not_before.ensures (to_z-of_z c.ranges.to) c.in_default.is)

pub returns : goal.returns
returns c =
    let k = contract_of c.args.table.now in
    let x = c.args.s.now in
    let r = rests x _ (sym c.in_ok-at_rest.was ∙ c.at_rest.ensures) in
    let e = in_time _ c.not_before.ensures (to_z-of_z c.ranges.to) c.in-Some.is in
    jump_on k x c.args.to _ c.requires r.0 r.1 e.0 _ (c.next_stop-stop.ensures ∙ ap (λ (m : ℕ). x.clock + times_until_due k (m - x.clock) x) e.1) _ c.pass.ensures
