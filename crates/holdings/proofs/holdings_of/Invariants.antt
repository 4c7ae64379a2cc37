-- `holdings::holdings_of` meets its contract. Assumes nothing.
use Prim.Native.Nat.{◌+◌}
use Rattle.holdings.specs.Holdings.{holdings_of}
use Rattle.holdings.proofs.Copies.{Copied}
use Rattle.holdings.proofs.holdings_of.Given as goal

abbrev pub invariant-loop-j : goal.invariant-loop-j
invariant-loop-j l = Copied (holdings_of l.held l.assets) l.out 20 (16 + l.j)
