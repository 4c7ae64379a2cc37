-- `results::reports::put_arrow` meets its contract. Assumes nothing.
use Rattle.words.specs.Words.{spelled}
use Rattle.results.proofs.Assembled.{arrow_piece}
use Rattle.results.proofs.reports.put_arrow.Goals as goal

pub returns-clause-written : goal.returns-clause-written
unfolding spelled
returns-clause-written c =
    arrow_piece c.args.kind c.requires c.put_word.ensures c.put_mark.ensures c.put_word-2.ensures
