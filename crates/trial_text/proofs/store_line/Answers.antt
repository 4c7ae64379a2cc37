-- A line is cut at its first space, or has one word. Assumes nothing.
use Rattle.std.proofs.Common.{Some, None, lit<}
use Rattle.std.proofs.lemmas.Str.Pattern.{split_once_first, split_parts}
use Rattle.trial_text.proofs.Words.{natural_read}
use Rattle.trial_text.proofs.Storing.{stored_behind, stored_none}
use Rattle.trial_text.proofs.store_line.Goals as goal

pub returns-in-Some : goal.returns-in-Some
returns-in-Some c =
    let cut = split_once_first 32 c.args.line.now (Some (c.in-Some.place, c.in-Some.words)) c.in-Some.ensures.cases (lit< tt) in
    let read = c.number.ensures in
    let from = natural_read 64 c.in-Some.place.now read.0 c.number.result read.1.0 read.2 in
    stored_behind c.args.line.now c.in-Some.place.now c.in-Some.words.now c.args.numbers.now c.number.result cut.0 cut.1 cut.2 from c.store.ensures

pub returns-in_default : goal.returns-in_default
returns-in_default c = stored_none c.args.line.now c.args.numbers.now (split_parts 32 c.args.line.now None c.in_default.ensures.cases (lit< tt))
