-- `results::reports::put_refused` meets its contract. Assumes nothing.
use Rattle.results.proofs.Assembled.{refused_piece}
use Rattle.words.specs.Words.{spelled}
use Rattle.results.proofs.reports.put_refused.Goals as goal

pub returns-clause-written : goal.returns-clause-written
unfolding spelled
returns-clause-written c =
    refused_piece c.ranges.n.fits c.requires c.put_word.ensures c.put_word-2.ensures c.put_number.ensures
