-- `heads::parts::Functions::function` meets its contract. Assumes nothing.
use Rattle.cursors.specs.Packed.{cursor_in}
use Rattle.reading_laws.proofs.Exits as parts
use Rattle.cursors.proofs.Tested as packed
use Rattle.heads.proofs.parts.Functions.function.Goals as goal

pub returns-then-stops-clause-value : goal.returns-then-stops-clause-value
returns-then-stops-clause-value c =
    let z = c.args in
    parts.function_unfit z.self.now.text.now (cursor_in z.self.now.text.now z.c) z.lent.now.table.now z.lent.now.notes.now _ _ _ c.note-i.ensures c.nodes-first.ensures
    c.note-event.ensures _ _ _ c.function_head-after_head.ensures.value _ _ _ _ (packed.halts z.self.now.text.now _ _ c.stops.ensures c.if-stops.true)

pub returns-then-stops-2-clause-value : goal.returns-then-stops-2-clause-value
returns-then-stops-2-clause-value c =
    let z = c.args in
    parts.function_stops z.self.now.text.now (cursor_in z.self.now.text.now z.c) z.lent.now.table.now z.lent.now.notes.now _ _ _ c.note-i.ensures c.nodes-first.ensures
    c.note-event.ensures _ _ _ c.function_head-after_head.ensures.value _ (packed.keeps z.self.now.text.now _ _ c.stops.ensures c.if-stops.false) _ _ _
    c.function_parts-after_parts.ensures.value _ _ _ _ (packed.halts z.self.now.text.now _ _ c.stops-2.ensures c.if-stops-2.true)

pub returns-clause-value : goal.returns-clause-value
returns-clause-value c =
    let z = c.args in
    parts.function_ends z.self.now.text.now (cursor_in z.self.now.text.now z.c) z.lent.now.table.now z.lent.now.notes.now _ _ _ c.note-i.ensures c.nodes-first.ensures
    c.note-event.ensures _ _ _ c.function_head-after_head.ensures.value _ (packed.keeps z.self.now.text.now _ _ c.stops.ensures c.if-stops.false) _ _ _
    c.function_parts-after_parts.ensures.value _ _ _ _ (packed.keeps z.self.now.text.now _ _ c.stops-2.ensures c.if-stops-2.false) c.function_end.ensures.value
