-- `bodies::parts::Body::body_item` meets its contract. Assumes nothing.
use Rattle.cursors.specs.Packed.{cursor_in}
use Rattle.reading_laws.proofs.Exits as parts
use Rattle.cursors.proofs.Tested as packed
use Rattle.cursors.proofs.Clipped.{agrees}
use Rattle.bodies.proofs.parts.Body.body_item.Goals as goal

pub returns-then-kind_of-eq-OPEN_PAREN-clause-value : goal.returns-then-kind_of-eq-OPEN_PAREN-clause-value
returns-then-kind_of-eq-OPEN_PAREN-clause-value c =
    let z = c.args in
    parts.item_test z.self.now.text.now z.self.now.from (cursor_in z.self.now.text.now z.c) z.lent.now.table.now z.lent.now.notes.now _ _ _ (packed.kind_is z.self.now.text.now z.c
    _ _ c.kind_of.ensures c.if-kind_of-eq-OPEN_PAREN.true) c.body_conditional.ensures.value

pub returns-then-stops-clause-value : goal.returns-then-stops-clause-value
returns-then-stops-clause-value c =
    let short = c.args.self.now.short in
    let z = c.args in
    parts.item_stops z.self.now.text.now z.self.now.from (cursor_in z.self.now.text.now z.c) z.lent.now.table.now z.lent.now.notes.now (packed.kind_not z.self.now.text.now z.c _ _
    c.kind_of.ensures c.if-kind_of-eq-OPEN_PAREN.false) _ c.nodes-before.ensures _ (packed.counted_at z.self.now.text.now 9 z.c _ _ _ c.start_of.ensures
    c.count.ensures) _ _ _ (agrees _ _ _ _ _ short c.expression-after.ensures.value c.expression-after.ensures.lists) _ _ _ _ (packed.halts z.self.now.text.now _ _ c.stops.ensures c.if-stops.true)

pub returns-clause-value : goal.returns-clause-value
returns-clause-value c =
    let short = c.args.self.now.short in
    let z = c.args in
    parts.item_goes z.self.now.text.now z.self.now.from (cursor_in z.self.now.text.now z.c) z.lent.now.table.now z.lent.now.notes.now (packed.kind_not z.self.now.text.now z.c _ _
    c.kind_of.ensures c.if-kind_of-eq-OPEN_PAREN.false) _ c.nodes-before.ensures _ (packed.counted_at z.self.now.text.now 9 z.c _ _ _ c.start_of.ensures
    c.count.ensures) _ _ _ (agrees _ _ _ _ _ short c.expression-after.ensures.value c.expression-after.ensures.lists) _ _ _ _ (packed.keeps z.self.now.text.now _ _ c.stops.ensures c.if-stops.false)
    c.body_rest.ensures.value
