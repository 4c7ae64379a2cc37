-- `reader::settle` meets its contract. Assumes nothing.
use mathlib.Core.Path.{ap, ◌∙◌}
use Rattle.std.specs.Prelude.{Err}
use Rattle.entries.specs.Draft.{Draft}
use Rattle.reading_laws.proofs.Settled.{settled_refused, settled_accepted}
use Rattle.reader.proofs.settle.Goals as goal

pub returns-then-question-ne0-clause-value : goal.returns-then-question-ne0-clause-value
returns-then-question-ne0-clause-value c =
    ap Err c.by_number.ensures ∙ (settled_refused _ c.args.lent.now.table.now _ c.note-question.ensures _ c.if-question-ne0.true c.note-place.ensures).0

pub returns-then-question-ne0-clause-table_after : goal.returns-then-question-ne0-clause-table_after
returns-then-question-ne0-clause-table_after c =
    (settled_refused _ c.args.lent.now.table.now _ c.note-question.ensures _ c.if-question-ne0.true c.note-place.ensures).1

pub returns : goal.returns
returns c =
    let w = c.write_counts.ensures in
    let p = settled_accepted _ _ _ c.note-question.ensures _ _ c.if-question-ne0.false c.word-initial.ensures (ap (λ (p : Draft). p.table) w.value) in
    record { value = p.0; table_after = p.1; same_lists = w.same_lists }
