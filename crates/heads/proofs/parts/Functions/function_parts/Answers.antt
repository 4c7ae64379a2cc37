-- `heads::parts::Functions::function_parts` meets its contract. Assumes nothing.
use Rattle.cursors.specs.Packed.{cursor_in}
use Rattle.reading_laws.proofs.Exits as parts
use Rattle.cursors.proofs.Tested as packed
use Rattle.heads.proofs.parts.Functions.function_parts.Goals as goal

pub returns-then-stops-clause-value : goal.returns-then-stops-clause-value
returns-then-stops-clause-value c =
    let z = c.args in
    parts.parts_unfit z.self.now.text.now (cursor_in z.self.now.text.now z.c) z.lent.now.table.now z.lent.now.notes.now _ _ _ c.parameters_in-after_values.ensures.value _ _ _ _
    (packed.halts z.self.now.text.now _ _ c.stops.ensures c.if-stops.true)

pub returns-then-stops-2-clause-value : goal.returns-then-stops-2-clause-value
returns-then-stops-2-clause-value c =
    let z = c.args in
    parts.parts_stop z.self.now.text.now (cursor_in z.self.now.text.now z.c) z.lent.now.table.now z.lent.now.notes.now _ _ _ c.parameters_in-after_values.ensures.value _ (packed.keeps
    z.self.now.text.now _ _ c.stops.ensures c.if-stops.false) _ _ _ c.parameters_in-after_parameters.ensures.value _ _ _ _ (packed.halts z.self.now.text.now _ _
    c.stops-2.ensures c.if-stops-2.true)

pub returns-clause-value : goal.returns-clause-value
returns-clause-value c =
    let z = c.args in
    parts.parts_last z.self.now.text.now (cursor_in z.self.now.text.now z.c) z.lent.now.table.now z.lent.now.notes.now _ _ _ c.parameters_in-after_values.ensures.value _ (packed.keeps
    z.self.now.text.now _ _ c.stops.ensures c.if-stops.false) _ _ _ c.parameters_in-after_parameters.ensures.value _ _ _ _ (packed.keeps z.self.now.text.now _ _
    c.stops-2.ensures c.if-stops-2.false) c.precondition.ensures.value
