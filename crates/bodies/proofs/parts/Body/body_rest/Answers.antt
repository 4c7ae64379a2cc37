-- `bodies::parts::Body::body_rest` meets its contract. Assumes nothing.
use mathlib.Core.Path.{sym, ap, ◌∙◌}
use Rattle.std.specs.Prelude.{set}
use Rattle.cursors.specs.Packed.{cursor_in}
use Rattle.reading_laws.proofs.Exits as parts
use Rattle.cursors.proofs.Tested as packed
use Rattle.bodies.proofs.Actions.{event_at}
use Rattle.bodies.proofs.parts.Body.body_rest.Goals as goal

pub returns-then-stops-clause-value : goal.returns-then-stops-clause-value
returns-then-stops-clause-value c =
    let z = c.args in
    parts.rest_refused z.self.now.text.now z.self.now.from (cursor_in z.self.now.text.now z.first) z.before (cursor_in z.self.now.text.now z.c) z.lent.now.table.now
    z.lent.now.notes.now (packed.kind_is z.self.now.text.now z.c _ _ c.kind_of.ensures c.if-kind_of-eq-EVENT_MARK.true) _ _ _ (event_at z.self.now.text.now
    z.first _ _ _ _ _ _ _ c.start_of.ensures c.event-after.ensures.value) _ _ _ _ (packed.halts z.self.now.text.now _ _ c.stops.ensures
    c.if-stops.true)

pub returns-then-kind_of-eq-EVENT_MARK-clause-value : goal.returns-then-kind_of-eq-EVENT_MARK-clause-value
returns-then-kind_of-eq-EVENT_MARK-clause-value c =
    let z = c.args in
    packed.as_on z.self.now.text.now _ _ _ _ (sym c.stops.ensures ∙ c.if-stops.false)
    (parts.rest_event z.self.now.text.now z.self.now.from (cursor_in z.self.now.text.now z.first) z.before (cursor_in z.self.now.text.now z.c) z.lent.now.table.now
    z.lent.now.notes.now (packed.kind_is z.self.now.text.now z.c _ _ c.kind_of.ensures c.if-kind_of-eq-EVENT_MARK.true) _ _ _ (event_at z.self.now.text.now
    z.first _ _ _ _ _ _ _ c.start_of.ensures c.event-after.ensures.value) _ _ (packed.keeps z.self.now.text.now _ _ c.stops.ensures
    c.if-stops.false) c.one_more.ensures)

pub returns-then-note-ne0-clause-value : goal.returns-then-note-ne0-clause-value
returns-then-note-ne0-clause-value c =
    let z = c.args in
    parts.rest_late z.self.now.text.now z.self.now.from (cursor_in z.self.now.text.now z.first) z.before (cursor_in z.self.now.text.now z.c) z.lent.now.table.now
    z.lent.now.notes.now (packed.kind_not z.self.now.text.now z.c _ _ c.kind_of.ensures c.if-kind_of-eq-EVENT_MARK.false) _ c.note.ensures _ _ _ c.if-note-ne0.true
    c.unfit.ensures.value

pub returns-then-stops-2-clause-value : goal.returns-then-stops-2-clause-value
returns-then-stops-2-clause-value c =
    let z = c.args in
    parts.rest_stops z.self.now.text.now z.self.now.from (cursor_in z.self.now.text.now z.first) z.before (cursor_in z.self.now.text.now z.c) z.lent.now.table.now
    z.lent.now.notes.now (packed.kind_not z.self.now.text.now z.c _ _ c.kind_of.ensures c.if-kind_of-eq-EVENT_MARK.false) _ c.note.ensures c.if-note-ne0.false _ _ _
    c.action-after.ensures.value _ _ _ _ (packed.halts z.self.now.text.now _ _ c.stops-2.ensures c.if-stops-2.true)

pub returns-clause-value : goal.returns-clause-value
returns-clause-value c =
    let z = c.args in
    packed.as_on z.self.now.text.now _ _ _ _ (sym c.stops-2.ensures ∙ c.if-stops-2.false)
    (parts.rest_grows z.self.now.text.now z.self.now.from (cursor_in z.self.now.text.now z.first) z.before (cursor_in z.self.now.text.now z.c) z.lent.now.table.now
    z.lent.now.notes.now (packed.kind_not z.self.now.text.now z.c _ _ c.kind_of.ensures c.if-kind_of-eq-EVENT_MARK.false) _ c.note.ensures c.if-note-ne0.false _ _
    _ c.action-after.ensures.value _ _ (packed.keeps z.self.now.text.now _ _ c.stops-2.ensures c.if-stops-2.false) (c.set.ensures ∙ ap (set c.action-after.new.lent.notes.now 604) c.nodes_since-written.ensures))
