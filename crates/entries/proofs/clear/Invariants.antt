-- `entries::clear` meets its contract. The invariant of its loop: all before start is zeros. Assumes nothing.
use mathlib.Core.Path.{◌≡◌}
use Prim.Native.Nat.{◌-◌, ◌≤◌}
use lib.ListN.{length, take}
use Rattle.contract.specs.Encode.{zeros}
use Rattle.entries.proofs.clear.Given as goal

abbrev pub invariant-loop-start : goal.invariant-loop-start
invariant-loop-start l =
    (l.start ≤ length l.initial.table) × (take l.start l.table ≡ zeros l.start)

abbrev pub decreases-loop-start : goal.decreases-loop-start
decreases-loop-start l =
    length l.initial.table - l.start
