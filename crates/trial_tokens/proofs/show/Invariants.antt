-- `trial_tokens::show` meets its contract: a token ends after the place asked, so less text is left. Assumes nothing.
use Prim.Native.Nat.{◌-◌}
use lib.ListN.{length}
use Rattle.trial_tokens.proofs.show.Given as goal

abbrev pub decreases-loop-token : goal.decreases-loop-token
decreases-loop-token g l = length l.text - l.at
