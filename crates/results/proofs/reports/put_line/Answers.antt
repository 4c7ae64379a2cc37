-- `results::reports::put_line` meets its contract. Assumes nothing.
use borrow.Author.Rules.{rules}
use Rattle.results.proofs.Assembled.{sent_ready, sent_as, refused_as, failed_as}
use Rattle.results.proofs.reports.put_line.Goals as goal

pub returns-in-Refused-clause-written : goal.returns-in-Refused-clause-written
returns-in-Refused-clause-written c = refused_as _ _ c.in-Refused.is c.put_refusal.ensures.written

pub returns-in-Failed-clause-written : goal.returns-in-Failed-clause-written
returns-in-Failed-clause-written c = failed_as _ _ c.in-Failed.is c.put_failed.ensures.written

pub put_sent-requires : goal.put_sent-requires
put_sent-requires c = sent_ready c.in-Sent.is (search rules) c.requires

pub returns-in-Sent-clause-written : goal.returns-in-Sent-clause-written
returns-in-Sent-clause-written c = sent_as _ c.in-Sent.is (search rules) c.put_sent.ensures.written
