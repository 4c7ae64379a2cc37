-- `machine::play` meets its contract. Assumes nothing.
use mathlib.Core.Path.{ap, ◌∙◌}
use Rattle.std.proofs.lemmas.Result.{err_from_is_err_and}
use Rattle.std.specs.Prelude.{Err}
use Rattle.machine.proofs.Playing.{play_stopped, play_went}
use Rattle.machine.proofs.play.Goals as goal

pub returns-in_err-terms : goal.returns-in_err-terms
returns-in_err-terms c =
    let e = err_from_is_err_and c.from_residual.result c.from_residual.ensures.1 in
    let p = play_stopped c.args.table.now c.args.s c.args.input.now _ _ c.label_room-room.ensures _ c.admit.ensures _ c.in_err-terms.was c.args.numbers.now c.args.integers.now in
    record { value = e.1 ∙ ap Err e.2 ∙ p.0; numbers_after = p.1.0; integers_after = p.1.1 }

pub returns : goal.returns
returns c =
    let p = play_went c.args.table.now c.args.s c.args.input.now _ _ c.label_room-room.ensures _ c.admit.ensures _ c.in_ok-terms.was _ c.args.numbers.now _ c.args.integers.now _ c.play_on.ensures in
    record { value = p.0; numbers_after = p.1.0; integers_after = p.1.1 }
