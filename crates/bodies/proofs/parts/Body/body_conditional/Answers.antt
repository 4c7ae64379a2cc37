-- `bodies::parts::Body::body_conditional` meets its contract. Assumes nothing.
use mathlib.Core.Path.{sym, ap, ◌∙◌}
use Rattle.std.specs.Prelude.{set}
use Rattle.cursors.specs.Packed.{cursor_in}
use Rattle.reading_laws.proofs.Exits as parts
use Rattle.cursors.proofs.Tested as packed
use Rattle.bodies.proofs.parts.Body.body_conditional.Goals as goal

pub returns-then-note-ne0-clause-value : goal.returns-then-note-ne0-clause-value
returns-then-note-ne0-clause-value c =
    let z = c.args in
    parts.body_late z.self.now.text.now z.self.now.from (cursor_in z.self.now.text.now z.c) z.lent.now.table.now z.lent.now.notes.now _ c.note.ensures _ _ _
    c.if-note-ne0.true c.unfit.ensures.value

pub returns-then-stops-clause-value : goal.returns-then-stops-clause-value
returns-then-stops-clause-value c =
    let z = c.args in
    parts.body_stops z.self.now.text.now z.self.now.from (cursor_in z.self.now.text.now z.c) z.lent.now.table.now z.lent.now.notes.now _ c.note.ensures c.if-note-ne0.false _ _
    _ c.conditional-after.ensures.value _ _ _ _ (packed.halts z.self.now.text.now _ _ c.stops.ensures c.if-stops.true)

pub returns-clause-value : goal.returns-clause-value
returns-clause-value c =
    let z = c.args in
    packed.as_on z.self.now.text.now _ _ _ _ (sym c.stops.ensures ∙ c.if-stops.false)
    (parts.body_grows_lem z.self.now.text.now z.self.now.from (cursor_in z.self.now.text.now z.c) z.lent.now.table.now z.lent.now.notes.now _ c.note.ensures c.if-note-ne0.false _
    _ _ c.conditional-after.ensures.value _ _ (packed.keeps z.self.now.text.now _ _ c.stops.ensures c.if-stops.false) (c.set.ensures ∙ ap (set c.conditional-after.new.lent.notes.now 604) c.nodes_since-written.ensures))
