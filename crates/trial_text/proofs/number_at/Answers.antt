-- The word that the split gives at a place is the word there. Assumes nothing.
use Rattle.std.proofs.Common.{lit<, sym}
use Rattle.std.proofs.lemmas.Iterator.Consumers.{nth_from_yields_List}
use Rattle.std.proofs.lemmas.Iterator.Splits.{YieldsList-from_str_split}
use Rattle.trial_text.proofs.number_at.Goals as goal

pub returns-in-Some : goal.returns-in-Some
returns-in-Some g c =
    let found = nth_from_yields_List _ _ c.args.k c.nth.ensures.ran (YieldsList-from_str_split 32 c.args.text.now (lit< tt) c.split.ensures.text c.split.ensures.has_more c.split.ensures.pattern) in
    rw (sym found) (rw c.in-Some.is c.number.ensures)

pub returns-in-None : goal.returns-in-None
returns-in-None g c =
    let found = nth_from_yields_List _ _ c.args.k c.nth.ensures.ran (YieldsList-from_str_split 32 c.args.text.now (lit< tt) c.split.ensures.text c.split.ensures.has_more c.split.ensures.pattern) in
    rw (sym found) (rw c.in-None.is c.default.ensures)
