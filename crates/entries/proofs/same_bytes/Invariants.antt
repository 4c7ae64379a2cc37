-- `entries::same_bytes` meets its contract. Assumes nothing.
use mathlib.Core.Path.{◌≡◌}
use lib.ListN.{drop}
use Rattle.laws.specs.Bytes.{same_bytes}
use Rattle.entries.proofs.same_bytes.Given as goal

abbrev pub invariant-loop-i : goal.invariant-loop-i
invariant-loop-i l = same_bytes l.a l.b ≡ same_bytes (drop l.i l.a) (drop l.i l.b)
