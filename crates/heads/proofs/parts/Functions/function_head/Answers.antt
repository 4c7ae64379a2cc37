-- `heads::parts::Functions::function_head` meets its contract. Assumes nothing.
use Rattle.cursors.specs.Packed.{cursor_in}
use Rattle.reading_laws.proofs.Exits as parts
use Rattle.cursors.proofs.Tested as packed
use Rattle.heads.proofs.FunctionHeads.{party_number, party_used_lem, head_at}
use Rattle.cursors.proofs.Clipped.{passed, stated, tokened}
use Rattle.heads.proofs.parts.Functions.function_head.Goals as goal

pub returns-then-stops-clause-value : goal.returns-then-stops-clause-value
returns-then-stops-clause-value c =
    let short = c.args.self.now.short in
    let z = c.args in
    parts.head_unfit z.self.now.text.now (cursor_in z.self.now.text.now z.c) z.lent.now.table.now z.lent.now.notes.now _ (stated _ _ _ short c.state_at-state_name.ensures) _ _ _ _ (packed.halts
    z.self.now.text.now _ _ c.stops.ensures c.if-stops.true)

pub returns-then-stops-2-clause-value : goal.returns-then-stops-2-clause-value
returns-then-stops-2-clause-value c =
    let short = c.args.self.now.short in
    let z = c.args in
    parts.head_no_party z.self.now.text.now (cursor_in z.self.now.text.now z.c) z.lent.now.table.now z.lent.now.notes.now _ (stated _ _ _ short c.state_at-state_name.ensures) _ (packed.keeps
    z.self.now.text.now _ _ c.stops.ensures c.if-stops.false) _ (passed z.self.now.text.now _ _ short c.past.ensures.value) _
    c.name_here-party.ensures _ _ _ _ (packed.halts z.self.now.text.now _ _ c.stops-2.ensures c.if-stops-2.true)

pub returns-then-stops-3-clause-value : goal.returns-then-stops-3-clause-value
returns-then-stops-3-clause-value c =
    let short = c.args.self.now.short in
    let z = c.args in
    parts.head_no_colon z.self.now.text.now (cursor_in z.self.now.text.now z.c) z.lent.now.table.now z.lent.now.notes.now _ (stated _ _ _ short c.state_at-state_name.ensures) _ (packed.keeps
    z.self.now.text.now _ _ c.stops.ensures c.if-stops.false) _ (passed z.self.now.text.now _ _ short c.past.ensures.value) _
    c.name_here-party.ensures _ (packed.keeps z.self.now.text.now _ _ c.stops-2.ensures c.if-stops-2.false) _ (passed z.self.now.text.now _ _ short c.past-2.ensures.value) _ (tokened _ _ _ _ short c.token-past.ensures) _ _ _ _ (packed.halts z.self.now.text.now _ _ c.stops-3.ensures
    c.if-stops-3.true)

pub returns-then-stops-4-clause-value : goal.returns-then-stops-4-clause-value
returns-then-stops-4-clause-value c =
    let short = c.args.self.now.short in
    let z = c.args in
    parts.head_no_name z.self.now.text.now (cursor_in z.self.now.text.now z.c) z.lent.now.table.now z.lent.now.notes.now _ (stated _ _ _ short c.state_at-state_name.ensures) _ (packed.keeps
    z.self.now.text.now _ _ c.stops.ensures c.if-stops.false) _ (passed z.self.now.text.now _ _ short c.past.ensures.value)
    _ c.name_here-party.ensures _ (packed.keeps z.self.now.text.now _ _ c.stops-2.ensures c.if-stops-2.false) _ (passed z.self.now.text.now _ _ short c.past-2.ensures.value) _ (tokened _ _ _ _ short c.token-past.ensures) _ (packed.keeps z.self.now.text.now _ _ c.stops-3.ensures c.if-stops-3.false) _
    c.name_here-name.ensures _ _ _ _ (packed.halts z.self.now.text.now _ _ c.stops-4.ensures c.if-stops-4.true)

pub returns-clause-value : goal.returns-clause-value
returns-clause-value c =
    let short = c.args.self.now.short in
    let z = c.args in
    packed.as_on z.self.now.text.now _ _ _ _ c.past-3.ensures.goes
    (parts.head_on z.self.now.text.now (cursor_in z.self.now.text.now z.c) z.lent.now.table.now z.lent.now.notes.now _ (stated _ _ _ short c.state_at-state_name.ensures) _ (packed.keeps
    z.self.now.text.now _ _ c.stops.ensures c.if-stops.false) _ (passed z.self.now.text.now _ _ short c.past.ensures.value)
    _ c.name_here-party.ensures _ (packed.keeps z.self.now.text.now _ _ c.stops-2.ensures c.if-stops-2.false) _ (passed z.self.now.text.now _ _ short c.past-2.ensures.value) _ (tokened _ _ _ _ short c.token-past.ensures) _ (packed.keeps z.self.now.text.now _ _ c.stops-3.ensures
    c.if-stops-3.false) _ c.name_here-name.ensures _ _ _ _ _ _ _ _ _ (packed.keeps z.self.now.text.now _ _ c.stops-4.ensures c.if-stops-4.false)
    c.mention_state-state.ensures.number c.mention_state-state.ensures.value (party_number z.self.now.text.now _ _ _ _ _
    c.name_at.ensures.text c.name_at.ensures.word c.use_party-number.ensures.value) (party_used_lem z.self.now.text.now _ _ _ _ _ _
    c.name_at.ensures.text c.name_at.ensures.start c.name_at.ensures.end c.use_party-number.ensures.notes_after) (head_at z.self.now.text.now z.c _ _ _ _ _ _ _ _ _
    c.name_at-name_at.ensures.text c.start_of.ensures c.name_at-name_at.ensures.start c.name_at-name_at.ensures.end _ c.head.ensures.value) (passed z.self.now.text.now _ _ short c.past-3.ensures.value))
