-- The proof of the cycle of calls {truth}. The measure is the node's number. Assumes nothing.
use Rattle.evaluation.proofs.Memory.+truth.Given as goal

abbrev pub decreases-truth : goal.decreases-truth
decreases-truth l = l.k
