-- `cursors::stop` meets its contract. Assumes nothing.
use mathlib.Core.List.{[]}
use Prim.Native.Nat.{◌%◌}
use native.Mathlib.Omega.{arith}
use Rattle.cursors.proofs.Packs.{refusal_stops, refusal_step_in}
use Rattle.cursors.proofs.stop.Goals as goal

pub returns : goal.returns
returns c =
    let a = c.args in
    record { value = refusal_step_in [] a.question (a.place % 32768) (omega arith) (omega arith); stops = refusal_stops a.question (a.place % 32768) }
