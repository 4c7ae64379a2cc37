-- `results::reports::put_sent` meets its contract. Assumes nothing.
use native.Mathlib.Omega.{arith}
use mir.Facts.{to_z-of_z}
use Rattle.numbers.proofs.Whole.{again}
use Rattle.printing.proofs.Puts.{kept}
use Rattle.results.proofs.Assembled.{ready_value, ready_party, value_short, sent_line}
use Rattle.words.specs.Words.{spelled}
use Rattle.results.proofs.reports.put_sent.Goals as goal

pub put_value-requires : goal.put_value-requires
put_value-requires c = ready_value c.args.terms.now.whole c.ranges.value c.requires

pub put_arrow-requires : goal.put_arrow-requires
put_arrow-requires c =
    let p = c.put_value.ensures.written in
    omega (arith, p.place, kept p, value_short c.args.terms.now.whole (again c.ranges.value) (ready_value c.args.terms.now.whole c.ranges.value c.requires), c.requires.room)

pub overflow_mul-party : goal.overflow_mul-party
overflow_mul-party c = record { fits = omega (arith, (ready_party c.args.terms.now.whole c.requires).low) }

pub overflow_add-party : goal.overflow_add-party
overflow_add-party c = record { fits = omega (arith, (ready_party c.args.terms.now.whole c.requires).low) }

pub returns-clause-written : goal.returns-clause-written
unfolding spelled
returns-clause-written c =
    sent_line c.args.terms.now.whole (to_z-of_z c.ranges.value) c.ranges.value c.requires c.put_value.ensures.written c.put_arrow.ensures.written c.put_name.ensures
    c.put_word.ensures
