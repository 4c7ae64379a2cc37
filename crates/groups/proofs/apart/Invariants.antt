-- `groups::apart` meets its contract. Assumes nothing.
use Rattle.groups.specs.Groups.{max_names}
use Rattle.groups.proofs.Loops.{Filled}
use Rattle.groups.proofs.apart.Given as goal

abbrev pub invariant-loop-k : goal.invariant-loop-k
invariant-loop-k l = Filled max_names (λ k. k) l.firsts l.k
