-- The proof of the cycle of calls {operation, value}. The measure is twice the node's number, and 1 more at `value`. Assumes nothing.
use Prim.Native.Nat.{◌+◌, ◌*◌}
use Rattle.evaluation.proofs.Memory.+value.Given as goal

abbrev pub decreases-operation : goal.decreases-operation
decreases-operation l = l.k * 2

abbrev pub decreases-value : goal.decreases-value
decreases-value l = l.k * 2 + 1
