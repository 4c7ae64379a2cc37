-- The place and the run from there on make the same sum all along. Assumes nothing.
use Rattle.std.proofs.Common.{◌≡◌, ◌+◌, drop}
use Rattle.tokens.specs.Classes.{run}
use Rattle.tokens.proofs.run_end.Given as goal

abbrev pub invariant-loop-i : goal.invariant-loop-i
invariant-loop-i g l = l.i + run g.p (drop l.i l.text) ≡ l.at + run g.p (drop l.at l.text)
