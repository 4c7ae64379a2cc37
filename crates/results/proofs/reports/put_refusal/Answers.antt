-- `results::reports::put_refusal` meets its contract. Assumes nothing.
use Rattle.results.proofs.Assembled.{refused_line}
use Rattle.words.specs.Words.{spelled}
use Rattle.results.proofs.reports.put_refusal.Goals as goal

pub returns-clause-written : goal.returns-clause-written
unfolding spelled
returns-clause-written c =
    refused_line c.ranges.n.fits c.requires c.put_refused.ensures.written c.put_word.ensures
