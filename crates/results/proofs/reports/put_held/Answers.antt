-- `results::reports::put_held` meets its contract. Assumes nothing.
use native.Mathlib.Omega.{arith}
use Rattle.results.proofs.Assembled.{ready_asset, held_line}
use Rattle.words.specs.Words.{spelled}
use Rattle.results.proofs.reports.put_held.Goals as goal

pub overflow_mul-asset : goal.overflow_mul-asset
overflow_mul-asset c = record { fits = omega (arith, (ready_asset c.args.terms.now.whole c.requires).low) }

pub overflow_add-asset : goal.overflow_add-asset
overflow_add-asset c = record { fits = omega (arith, (ready_asset c.args.terms.now.whole c.requires).low) }

pub returns-clause-written : goal.returns-clause-written
unfolding spelled
returns-clause-written c =
    held_line c.args.terms.now.whole c.requires c.ranges.amount.fits c.put_name.ensures c.put_word.ensures c.put_word-2.ensures c.put_word-3.ensures c.put_number.ensures c.put_word-4.ensures
