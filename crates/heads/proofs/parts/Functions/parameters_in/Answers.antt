-- `heads::parts::Functions::parameters_in` meets its contract. Assumes nothing.
use Rattle.cursors.specs.Packed.{cursor_in}
use Rattle.reading_laws.proofs.Exits as parts
use Rattle.cursors.proofs.Tested as packed
use Rattle.cursors.proofs.Clipped.{passed}
use Rattle.heads.proofs.parts.Functions.parameters_in.Goals as goal

pub returns-then-kind_of-opening-clause-value : goal.returns-then-kind_of-opening-clause-value
returns-then-kind_of-opening-clause-value c =
    let short = c.args.self.now.short in
    let z = c.args in
    parts.listed z.self.now.text.now z.opening z.closing z.kind (cursor_in z.self.now.text.now z.c) _ _ _ _ _ (packed.kind_is z.self.now.text.now z.c _ _
    c.kind_of.ensures c.if-kind_of-opening.true) (passed z.self.now.text.now _ _ short c.past.ensures.value)
    c.parameter_names.ensures.value

pub returns-clause-value : goal.returns-clause-value
returns-clause-value c =
    let z = c.args in
    packed.as_on z.self.now.text.now _ _ _ _ c.requires
    (parts.unlisted z.self.now.text.now z.opening z.closing z.kind (cursor_in z.self.now.text.now z.c) _ _ (packed.kind_not z.self.now.text.now z.c _ _
    c.kind_of.ensures c.if-kind_of-opening.false))
