-- `holdings::none_negative` meets its contract. Assumes nothing.
use Rattle.std.proofs.Common.{pos, ◌∙◌, rules}
use Rattle.std.specs.Int.Signed.{le_z}
use Rattle.std.proofs.lemmas.Iterator.{YieldsList-from_slice}
use Rattle.std.proofs.lemmas.Iterator.Search.{all_from_yields_List}
use Rattle.holdings.proofs.Copies.{all_every}
use Rattle.holdings.proofs.none_negative.Goals as goal

pub returns : goal.returns
returns c =
    all_from_yields_List (le_z (pos 0)) _ _ c.all.result c.all.ensures.ran (YieldsList-from_slice c.args.assets.now cc) (λ x b q k. search rules)
    ∙ all_every (le_z (pos 0)) c.args.assets.now
