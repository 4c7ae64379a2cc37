-- The measure of the cycle of calls {put_block} is the node after the block. Assumes nothing.
use Rattle.trial_listing.proofs.listing.Listed.+put_block.Given as goal

abbrev pub decreases-put_block : goal.decreases-put_block
decreases-put_block l = l.end
