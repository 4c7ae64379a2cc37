-- `results::reports::put_value` meets its contract. Assumes nothing.
use mathlib.Core.Path.{ap, ◌∙◌}
use native.Mathlib.Omega.{arith}
use lib.IntN.{nat_abs}
use mir.Facts.{to_z-of_z}
use Rattle.numbers.proofs.Whole.{again}
use Rattle.results.proofs.Assembled.{ready_string, string_value, number_value}
use Rattle.words.specs.Words.{spelled}
use Rattle.results.proofs.reports.put_value.Goals as goal

pub overflow_mul-row : goal.overflow_mul-row
overflow_mul-row c =
    let row = ready_string c.args.terms.now.whole c.requires c.if-kind-eq-STRING.true c.unsigned_abs.result (c.unsigned_abs.ensures.value ∙ ap nat_abs (to_z-of_z c.ranges.value)) in
    record { fits = omega (arith, row.low) }

pub overflow_add-row : goal.overflow_add-row
overflow_add-row c =
    let row = ready_string c.args.terms.now.whole c.requires c.if-kind-eq-STRING.true c.unsigned_abs.result (c.unsigned_abs.ensures.value ∙ ap nat_abs (to_z-of_z c.ranges.value)) in
    record { fits = omega (arith, row.low) }

pub returns-then-kind-eq-STRING-clause-written : goal.returns-then-kind-eq-STRING-clause-written
unfolding spelled
returns-then-kind-eq-STRING-clause-written c =
    string_value c.args.terms.now.whole c.if-kind-eq-STRING.true (c.unsigned_abs.ensures.value ∙ ap nat_abs (to_z-of_z c.ranges.value)) c.requires c.put_word.ensures c.put_name.ensures
    c.put_word-then-kind-eq-STRING.ensures

pub returns-else-kind-eq-STRING-clause-written : goal.returns-else-kind-eq-STRING-clause-written
returns-else-kind-eq-STRING-clause-written c =
    number_value c.args.terms.now.table.now c.args.kind c.if-kind-eq-STRING.false (to_z-of_z c.ranges.value) (again c.ranges.value) c.requires.room c.put_integer.ensures
