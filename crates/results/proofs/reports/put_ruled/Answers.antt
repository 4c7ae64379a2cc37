-- `results::reports::put_ruled` meets its contract. Assumes nothing.
use native.Mathlib.Omega.{arith}
use Rattle.results.proofs.Assembled.{ready_state, ruled_line}
use Rattle.words.specs.Words.{spelled}
use Rattle.results.proofs.reports.put_ruled.Goals as goal

pub overflow_mul-state : goal.overflow_mul-state
overflow_mul-state c = record { fits = omega (arith, (ready_state c.args.terms.now.whole c.requires).low) }

pub overflow_add-state : goal.overflow_add-state
overflow_add-state c = record { fits = omega (arith, (ready_state c.args.terms.now.whole c.requires).low) }

pub returns-clause-written : goal.returns-clause-written
unfolding spelled
returns-clause-written c =
    ruled_line c.args.terms.now.whole c.requires c.ranges.clock.fits c.put_rule.ensures.written c.put_name.ensures c.put_word.ensures c.put_word-2.ensures c.put_number.ensures c.put_word-3.ensures
