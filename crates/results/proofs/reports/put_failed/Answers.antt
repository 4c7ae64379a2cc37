-- `results::reports::put_failed` meets its contract. Assumes nothing.
use native.Mathlib.Omega.{arith}
use Rattle.printing.proofs.Puts.{kept}
use Rattle.results.proofs.Assembled.{rule_short, failed_line}
use Rattle.words.specs.Words.{spelled}
use Rattle.results.proofs.reports.put_failed.Goals as goal

pub put_refused-requires : goal.put_refused-requires
put_refused-requires c =
    let p = c.put_rule.ensures.written in
    omega (arith, p.place, kept p, rule_short 2, c.requires)

pub returns-clause-written : goal.returns-clause-written
unfolding spelled
returns-clause-written c =
    failed_line c.ranges.n.fits c.requires c.put_rule.ensures.written c.put_refused.ensures.written c.put_word.ensures
