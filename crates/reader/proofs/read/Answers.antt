-- `reader::read` meets its contract. Assumes nothing.
use mathlib.Core.Path.{sym, ap, ◌∙◌}
use Rattle.reading.specs.Reading.{asked, answer_of, table_of}
use Rattle.reading_laws.proofs.Settled.{too_long, wrong_table, read_accepted, read_refused}
use Rattle.reading_laws.proofs.Asked.{refusal_read}
use Rattle.reader.proofs.read.Goals as goal

pub returns-then-text-gt-TEXT : goal.returns-then-text-gt-TEXT
unfolding asked
returns-then-text-gt-TEXT c =
    let q = too_long _ _ c.if-text-gt-TEXT.true in
    record { value = sym (ap answer_of q); table_after = c.clear.ensures ∙ sym (ap (table_of _) q); refusal = q }

pub returns-then-table-ne-TABLE : goal.returns-then-table-ne-TABLE
unfolding asked
returns-then-table-ne-TABLE c =
    let q = wrong_table _ _ c.if-text-gt-TEXT.false (λ e. c.if-table-ne-TABLE.true (c.clear.auto.table ∙ e)) in
    record { value = sym (ap answer_of q); table_after = c.clear.ensures ∙ sym (ap (table_of _) q); refusal = q }

pub returns-then-is_err : goal.returns-then-is_err
returns-then-is_err c =
    let p = read_refused _ _ _ _ c.clear.ensures c.if-text-gt-TEXT.false (sym c.clear.auto.table ∙ c.if-table-ne-TABLE.false) _ c.pass_over-answer.ensures _ (sym c.is_err.ensures.value ∙ c.if-is_err.true) c.clear-then-is_err.ensures (c.pass_over-answer.auto.table ∙ c.clear.auto.table) in
    record { value = p.0; table_after = p.1; refusal = refusal_read _ _ _ p.0 }

pub returns-else-is_err : goal.returns-else-is_err
returns-else-is_err c =
    let p = read_accepted _ _ _ _ c.clear.ensures c.if-text-gt-TEXT.false (sym c.clear.auto.table ∙ c.if-table-ne-TABLE.false) _ c.pass_over-answer.ensures (sym c.is_err.ensures.value ∙ c.if-is_err.false) in
    record { value = p.0; table_after = p.1; refusal = refusal_read _ _ _ p.0 }
