-- `tokens::name_kind` meets its contract. Assumes nothing.
use Rattle.std.proofs.Common.{rules, tests, ◌∙◌}
use Rattle.std.proofs.lemmas.Iterator.{YieldsList-from_slice}
use Rattle.std.proofs.lemmas.Iterator.Consumers.{YieldsList-at, YieldsList-from_copied}
use Rattle.std.proofs.lemmas.Iterator.Search.{find_from_yields_List}
use Rattle.laws.specs.Bytes.{same_bytes}
use Rattle.words.specs.Words.{spelled}
use Rattle.tokens.specs.Tokens.{reserved}
use Rattle.tokens.proofs.Reserved.{kind_is}
use Rattle.tokens.proofs.name_kind.Goals as goal

pub returns : goal.returns
returns c =
    let w = c.args.name.now in
    let road = YieldsList-from_copied (YieldsList-at c.copied.ensures.source (YieldsList-from_slice reserved c.iter.ensures.rest)) in
    c.unwrap_or.ensures ∙ kind_is w reserved _ (find_from_yields_List (λ k. same_bytes w (spelled k)) _ _ _ c.find.ensures.ran road (λ x b q k. search (rules, tests)))
