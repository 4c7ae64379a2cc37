-- `heads::parts::Functions::precondition` meets its contract. Assumes nothing.
use Rattle.cursors.specs.Packed.{cursor_in}
use Rattle.reading_laws.proofs.Exits as parts
use Rattle.cursors.proofs.Tested as packed
use Rattle.cursors.proofs.Clipped.{agrees, closed, passed}
use Rattle.heads.proofs.parts.Functions.precondition.Goals as goal

pub returns-then-kind_of-eq-OPEN_PAREN-clause-value : goal.returns-then-kind_of-eq-OPEN_PAREN-clause-value
returns-then-kind_of-eq-OPEN_PAREN-clause-value c =
    let short = c.args.self.now.short in
    let z = c.args in
    parts.preconditioned z.self.now.text.now (cursor_in z.self.now.text.now z.c) _ _ _ _ _ _ (packed.kind_is z.self.now.text.now z.c _ _ c.kind_of.ensures
    c.if-kind_of-eq-OPEN_PAREN.true) (passed z.self.now.text.now _ _ short c.past.ensures.value) (agrees _ _ _ _ _ short c.condition-inner.ensures.value c.condition-inner.ensures.lists) (closed _ _ _ short c.close.ensures)

pub returns-clause-value : goal.returns-clause-value
returns-clause-value c =
    let z = c.args in
    packed.as_on z.self.now.text.now _ _ _ _ c.requires
    (parts.unconditioned z.self.now.text.now (cursor_in z.self.now.text.now z.c) _ _ (packed.kind_not z.self.now.text.now z.c _ _ c.kind_of.ensures
    c.if-kind_of-eq-OPEN_PAREN.false))
