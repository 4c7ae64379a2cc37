-- A block is walked from its last node back: the block before the last statement and that of a conditional end further back. Assumes nothing.
use Rattle.groups.proofs.Walk.+walk.Given as goal

abbrev pub decreases-walk : goal.decreases-walk
decreases-walk l = l.end
