-- `heads::parts::Functions::function_end` meets its contract. Assumes nothing.
use Rattle.cursors.specs.Packed.{cursor_in}
use Rattle.reading_laws.proofs.Exits as parts
use Rattle.cursors.proofs.Tested as packed
use Rattle.cursors.proofs.Clipped.{agrees, passed, stated, tokened}
use Rattle.heads.proofs.parts.Functions.function_end.Goals as goal

pub returns-then-stops-clause-value : goal.returns-then-stops-clause-value
returns-then-stops-clause-value c =
    let short = c.args.self.now.short in
    let z = c.args in
    parts.end_refused z.self.now.text.now z.i z.first z.event (cursor_in z.self.now.text.now z.c) z.lent.now.table.now z.lent.now.notes.now _
    c.nodes_since-condition.ensures _ _ _ (agrees _ _ _ _ _ short c.body-after.ensures.value c.body-after.ensures.lists) _ _ _ _ (packed.halts z.self.now.text.now _ _ c.stops.ensures c.if-stops.true)

pub returns-then-stops-2-clause-value : goal.returns-then-stops-2-clause-value
returns-then-stops-2-clause-value c =
    let short = c.args.self.now.short in
    let z = c.args in
    parts.end_unfit z.self.now.text.now z.i z.first z.event (cursor_in z.self.now.text.now z.c) z.lent.now.table.now z.lent.now.notes.now _
    c.nodes_since-condition.ensures _ _ _ (agrees _ _ _ _ _ short c.body-after.ensures.value c.body-after.ensures.lists) _ (packed.keeps z.self.now.text.now _ _ c.stops.ensures c.if-stops.false) _
    (tokened _ _ _ _ short c.token-mark.ensures) _ _ _ _ (packed.halts z.self.now.text.now _ _ c.stops-2.ensures c.if-stops-2.true)

pub returns-then-stops-3-clause-value : goal.returns-then-stops-3-clause-value
returns-then-stops-3-clause-value c =
    let short = c.args.self.now.short in
    let z = c.args in
    parts.end_no_state z.self.now.text.now z.i z.first z.event (cursor_in z.self.now.text.now z.c) z.lent.now.table.now z.lent.now.notes.now _
    c.nodes_since-condition.ensures _ _ _ (agrees _ _ _ _ _ short c.body-after.ensures.value c.body-after.ensures.lists) _ (packed.keeps z.self.now.text.now _ _ c.stops.ensures c.if-stops.false) _
    (tokened _ _ _ _ short c.token-mark.ensures) _ (packed.keeps z.self.now.text.now _ _ c.stops-2.ensures c.if-stops-2.false) _ (stated _ _ _ short c.state_at-name.ensures) _ _ _ _ (packed.halts
    z.self.now.text.now _ _ c.stops-3.ensures c.if-stops-3.true)

pub returns-clause-value : goal.returns-clause-value
returns-clause-value c =
    let short = c.args.self.now.short in
    let z = c.args in
    packed.as_on z.self.now.text.now _ _ _ _ c.past.ensures.goes
    (parts.end_on z.self.now.text.now z.i z.first z.event (cursor_in z.self.now.text.now z.c) z.lent.now.table.now z.lent.now.notes.now _
    c.nodes_since-condition.ensures _ _ _ (agrees _ _ _ _ _ short c.body-after.ensures.value c.body-after.ensures.lists) _ (packed.keeps z.self.now.text.now _ _ c.stops.ensures c.if-stops.false) _
    (tokened _ _ _ _ short c.token-mark.ensures) _ (packed.keeps z.self.now.text.now _ _ c.stops-2.ensures c.if-stops-2.false) _ (stated _ _ _ short c.state_at-name.ensures) _ _ _ _ _ _ _ _ _
    (packed.keeps z.self.now.text.now _ _ c.stops-3.ensures c.if-stops-3.false) c.mention_state-last.ensures.number c.mention_state-last.ensures.value c.note-many.ensures c.note-events.ensures c.function_rest.ensures.value (passed z.self.now.text.now _ _ short c.past.ensures.value))
