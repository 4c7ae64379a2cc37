-- `heads::parts::Functions::parameter_names` meets its contract. Assumes nothing.
use Rattle.cursors.specs.Packed.{cursor_in}
use Rattle.reading_laws.proofs.Exits as parts
use Rattle.cursors.proofs.Tested as packed
use Rattle.cursors.proofs.Clipped.{agrees, passed, tokened}
use Rattle.heads.proofs.parts.Functions.parameter_names.Goals as goal

pub returns-then-kind_of-closing-clause-value : goal.returns-then-kind_of-closing-clause-value
returns-then-kind_of-closing-clause-value c =
    let short = c.args.self.now.short in
    let z = c.args in
    packed.as_on z.self.now.text.now _ _ _ _ c.past.ensures.goes
    (parts.names_none z.self.now.text.now z.closing z.kind (cursor_in z.self.now.text.now z.c) z.lent.now.table.now z.lent.now.notes.now _ (packed.kind_is
    z.self.now.text.now z.c _ _ c.kind_of.ensures c.if-kind_of-closing.true) (passed z.self.now.text.now _ _ short c.past.ensures.value))

pub returns-then-stops-clause-value : goal.returns-then-stops-clause-value
returns-then-stops-clause-value c =
    let short = c.args.self.now.short in
    let z = c.args in
    parts.names_stop z.self.now.text.now z.closing z.kind (cursor_in z.self.now.text.now z.c) z.lent.now.table.now z.lent.now.notes.now (packed.kind_not
    z.self.now.text.now z.c _ _ c.kind_of.ensures c.if-kind_of-closing.false) _ _ _ (agrees _ _ _ _ _ short c.names-after.ensures.value c.names-after.ensures.lists) _ _ _ _ (packed.halts z.self.now.text.now _ _
    c.stops.ensures c.if-stops.true)

pub returns-clause-value : goal.returns-clause-value
returns-clause-value c =
    let short = c.args.self.now.short in
    let z = c.args in
    parts.names_close z.self.now.text.now z.closing z.kind (cursor_in z.self.now.text.now z.c) z.lent.now.table.now z.lent.now.notes.now (packed.kind_not
    z.self.now.text.now z.c _ _ c.kind_of.ensures c.if-kind_of-closing.false) _ _ _ (agrees _ _ _ _ _ short c.names-after.ensures.value c.names-after.ensures.lists) _ _ (packed.keeps z.self.now.text.now _ _
    c.stops.ensures c.if-stops.false) (tokened _ _ _ _ short c.token.ensures)
