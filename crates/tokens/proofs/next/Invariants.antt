-- `tokens::next` meets its contract. The invariant: the place and the gap from there on make the same sum all along. Assumes nothing.
use mathlib.Core.Path.{◌≡◌}
use mathlib.Core.Bool.{false}
use Prim.Native.Nat.{◌+◌, ◌-◌}
use lib.ListN.{length, drop}
use Rattle.tokens.specs.Classes.{gap}
use Rattle.tokens.proofs.next.Given as goal

abbrev pub invariant-loop-i : goal.invariant-loop-i
invariant-loop-i l =
    l.i + gap false (drop l.i l.text) ≡ l.at + gap false (drop l.at l.text)

abbrev pub decreases-loop-i : goal.decreases-loop-i
decreases-loop-i l =
    length l.text - l.i
