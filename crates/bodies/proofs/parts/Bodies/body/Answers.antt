-- `bodies::parts::Bodies::body` meets its contract. Assumes nothing.
use Rattle.cursors.specs.Packed.{cursor_in}
use Rattle.reading_laws.proofs.Exits as parts
use Rattle.cursors.proofs.Tested as packed
use Rattle.cursors.proofs.Clipped.{tokened}
use Rattle.bodies.proofs.parts.Bodies.body.Goals as goal

pub returns-then-stops-clause-value : goal.returns-then-stops-clause-value
returns-then-stops-clause-value c =
    let short = c.args.self.now.short in
    let z = c.args in
    parts.body_unfit z.self.now.text.now (cursor_in z.self.now.text.now z.c) z.lent.now.table.now z.lent.now.notes.now _ c.nodes-from.ensures _ (tokened _ _ _ _ short c.token-opened.ensures) _ _ _
    _ (packed.halts z.self.now.text.now _ _ c.stops.ensures c.if-stops.true)

pub returns-then-stops-2-clause-value : goal.returns-then-stops-2-clause-value
returns-then-stops-2-clause-value c =
    let short = c.args.self.now.short in
    let z = c.args in
    parts.body_refused z.self.now.text.now (cursor_in z.self.now.text.now z.c) z.lent.now.table.now z.lent.now.notes.now _ c.nodes-from.ensures _ (tokened _ _ _ _ short c.token-opened.ensures) _
    (packed.keeps z.self.now.text.now _ _ c.stops.ensures c.if-stops.false) _ _ _ c.set.ensures c.set-2.ensures
    c.set-3.ensures _ _ _ c.body_items-after.ensures.value _ _ _ _ (packed.halts z.self.now.text.now _ _ c.stops-2.ensures c.if-stops-2.true)

pub returns-clause-value : goal.returns-clause-value
returns-clause-value c =
    let short = c.args.self.now.short in
    let z = c.args in
    parts.body_closes z.self.now.text.now (cursor_in z.self.now.text.now z.c) z.lent.now.table.now z.lent.now.notes.now _ c.nodes-from.ensures _ (tokened _ _ _ _ short c.token-opened.ensures) _
    (packed.keeps z.self.now.text.now _ _ c.stops.ensures c.if-stops.false) _ _ _ c.set.ensures c.set-2.ensures
    c.set-3.ensures _ _ _ c.body_items-after.ensures.value _ _ (packed.keeps z.self.now.text.now _ _ c.stops-2.ensures c.if-stops-2.false)
    (tokened _ _ _ _ short c.token.ensures)
