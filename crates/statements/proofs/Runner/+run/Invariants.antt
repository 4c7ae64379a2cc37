-- Running a block, the statement at its end and the block of a conditional, which call each other: block falls to perform at the node before
-- its end, that to branch, and that to block with its node as the end. Assumes nothing.
use Prim.Native.Nat.{◌+◌, ◌*◌}
use Rattle.statements.proofs.Runner.+run.Given as goal

abbrev pub decreases-branch : goal.decreases-branch
decreases-branch l = 3 * l.k + 1

abbrev pub decreases-perform : goal.decreases-perform
decreases-perform l = 3 * l.k + 2

abbrev pub decreases-run : goal.decreases-run
decreases-run l = 3 * l.end
