-- `bodies::parts::Bodies::event` meets its contract. Assumes nothing.
use Rattle.cursors.specs.Packed.{cursor_in}
use Rattle.reading_laws.proofs.Exits as parts
use Rattle.cursors.proofs.Tested as packed
use Rattle.cursors.proofs.Clipped.{passed, stated, tokened}
use Rattle.bodies.proofs.parts.Bodies.event.Goals as goal

pub returns-then-stops-clause-value : goal.returns-then-stops-clause-value
returns-then-stops-clause-value c =
    let short = c.args.self.now.short in
    let z = c.args in
    parts.event_unfit z.self.now.text.now z.place z.before (cursor_in z.self.now.text.now z.c) z.lent.now.table.now z.lent.now.notes.now _ (tokened _ _ _ _ short c.token-mark.ensures) _ _ _
    _ (packed.halts z.self.now.text.now _ _ c.stops.ensures c.if-stops.true)

pub returns-then-stops-2-clause-value : goal.returns-then-stops-2-clause-value
returns-then-stops-2-clause-value c =
    let short = c.args.self.now.short in
    let z = c.args in
    parts.event_stops z.self.now.text.now z.place z.before (cursor_in z.self.now.text.now z.c) z.lent.now.table.now z.lent.now.notes.now _ (tokened _ _ _ _ short c.token-mark.ensures) _
    (packed.keeps z.self.now.text.now _ _ c.stops.ensures c.if-stops.false) _ (stated _ _ _ short c.state_at-name.ensures) _ _ _ _ (packed.halts z.self.now.text.now _ _
    c.stops-2.ensures c.if-stops-2.true)

pub returns-then-stops-3-clause-value : goal.returns-then-stops-3-clause-value
returns-then-stops-3-clause-value c =
    let short = c.args.self.now.short in
    let z = c.args in
    parts.event_refused z.self.now.text.now z.place z.before (cursor_in z.self.now.text.now z.c) z.lent.now.table.now z.lent.now.notes.now _ (tokened _ _ _ _ short c.token-mark.ensures) _
    (packed.keeps z.self.now.text.now _ _ c.stops.ensures c.if-stops.false) _ (stated _ _ _ short c.state_at-name.ensures) _ (packed.keeps z.self.now.text.now _ _
    c.stops-2.ensures c.if-stops-2.false) _ _ c.note-i.ensures c.nodes-from.ensures _ c.count.ensures _ _ _
    c.mention_state-state.ensures.number c.mention_state-state.ensures.value _ c.set.ensures _
    (passed z.self.now.text.now _ _ short c.past.ensures.value) _ _ _ c.braces-after.ensures.value _ _ _ _ (packed.halts
    z.self.now.text.now _ _ c.stops-3.ensures c.if-stops-3.true)

pub returns-clause-value : goal.returns-clause-value
returns-clause-value c =
    let short = c.args.self.now.short in
    let z = c.args in
    parts.event_ends z.self.now.text.now z.place z.before (cursor_in z.self.now.text.now z.c) z.lent.now.table.now z.lent.now.notes.now _ (tokened _ _ _ _ short c.token-mark.ensures) _
    (packed.keeps z.self.now.text.now _ _ c.stops.ensures c.if-stops.false) _ (stated _ _ _ short c.state_at-name.ensures) _ (packed.keeps z.self.now.text.now _ _
    c.stops-2.ensures c.if-stops-2.false) _ _ c.note-i.ensures c.nodes-from.ensures _ c.count.ensures _ _ _
    c.mention_state-state.ensures.number c.mention_state-state.ensures.value _ c.set.ensures _
    (passed z.self.now.text.now _ _ short c.past.ensures.value) _ _ _ c.braces-after.ensures.value _ _ _ _ (packed.keeps
    z.self.now.text.now _ _ c.stops-3.ensures c.if-stops-3.false) c.event_end.ensures.value
