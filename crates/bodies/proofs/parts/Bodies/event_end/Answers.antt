-- `bodies::parts::Bodies::event_end` meets its contract. Assumes nothing.
use Rattle.cursors.specs.Packed.{cursor_in}
use Rattle.reading_laws.proofs.Exits as parts
use Rattle.cursors.proofs.Tested as packed
use Rattle.cursors.proofs.Clipped.{passed, stated, tokened}
use Rattle.bodies.proofs.parts.Bodies.event_end.Goals as goal

pub returns-then-stops-clause-value : goal.returns-then-stops-clause-value
returns-then-stops-clause-value c =
    let short = c.args.self.now.short in
    let z = c.args in
    parts.event_end_unfit z.self.now.text.now z.i z.state z.before z.from (cursor_in z.self.now.text.now z.c) z.lent.now.table.now z.lent.now.notes.now _
    (tokened _ _ _ _ short c.token-mark.ensures) _ _ _ _ (packed.halts z.self.now.text.now _ _ c.stops.ensures c.if-stops.true)

pub returns-then-stops-2-clause-value : goal.returns-then-stops-2-clause-value
returns-then-stops-2-clause-value c =
    let short = c.args.self.now.short in
    let z = c.args in
    parts.event_end_stops z.self.now.text.now z.i z.state z.before z.from (cursor_in z.self.now.text.now z.c) z.lent.now.table.now z.lent.now.notes.now _
    (tokened _ _ _ _ short c.token-mark.ensures) _ (packed.keeps z.self.now.text.now _ _ c.stops.ensures c.if-stops.false) _ (stated _ _ _ short c.state_at-name.ensures) _ _ _ _ (packed.halts
    z.self.now.text.now _ _ c.stops-2.ensures c.if-stops-2.true)

pub returns-clause-value : goal.returns-clause-value
returns-clause-value c =
    let short = c.args.self.now.short in
    let z = c.args in
    packed.as_on z.self.now.text.now _ _ _ _ c.past.ensures.goes
    (parts.event_end_on z.self.now.text.now z.i z.state z.before z.from (cursor_in z.self.now.text.now z.c) z.lent.now.table.now z.lent.now.notes.now _
    (tokened _ _ _ _ short c.token-mark.ensures) _ (packed.keeps z.self.now.text.now _ _ c.stops.ensures c.if-stops.false) _ (stated _ _ _ short c.state_at-name.ensures) _ _ _ _ _ _ _ _ _ _
    (packed.keeps z.self.now.text.now _ _ c.stops-2.ensures c.if-stops-2.false) c.nodes_since-handler.ensures c.mention_state-last.ensures.number c.mention_state-last.ensures.value c.nodes-node.ensures c.put.ensures.value
    c.event_row.ensures (passed z.self.now.text.now _ _ short c.past.ensures.value))
