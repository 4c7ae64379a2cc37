-- `tokens::between` meets its contract. Assumes nothing.
use Rattle.std.proofs.Common.{refl}
use Rattle.tokens.proofs.Parts.{cut_or}
use Rattle.tokens.proofs.between.Goals as goal

pub returns : goal.returns
returns c = cut_or _ _ _ _ _ c.unwrap_or.ensures refl c.get.ensures.lookup
