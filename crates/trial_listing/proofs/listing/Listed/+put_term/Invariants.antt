-- The measure of the cycle of calls {put_term} is the node after the term. Assumes nothing.
use Rattle.trial_listing.proofs.listing.Listed.+put_term.Given as goal

abbrev pub decreases-put_term : goal.decreases-put_term
decreases-put_term l = l.end
