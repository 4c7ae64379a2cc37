-- `clauses::lists::Lists::line` meets its contract. Assumes nothing.
use mathlib.Core.Path.{sym, ap, ◌∙◌}
use borrow.Author.Tests.{eq-eqb, ne_eqb}
use Rattle.laws.proofs.Choice.{pick_true, pick_false}
use Rattle.reading_laws.specs.Walk as walk
use Rattle.reading_laws.specs.Walk.{Cursor}
use Rattle.reading_laws.proofs.AgreesWith.{leaves_same, is_on}
use Rattle.cursors.proofs.Packs.{step_in_on}
use Rattle.cursors.proofs.Tested.{kind_is, kind_not}
use Rattle.cursors.proofs.Clipped.{passed}
use Rattle.clauses.proofs.lists.Lists.line.Goals as goal

pub returns-then-kind_of-word-clause-value : goal.returns-then-kind_of-word-clause-value
unfolding walk.line
returns-then-kind_of-word-clause-value c =
    let short = c.args.self.now.short in
    let g = c.args in
    leaves_same _ _ _ _ _
    (ap (λ (x : Cursor). walk.names g.self.now.text.now g.kind x (walk.draft g.lent.now.table.now g.lent.now.notes.now)) (passed g.self.now.text.now _ g.c short c.past.ensures.value)
    ∙ sym (pick_true _ _ _ (eq-eqb _ _ (kind_is g.self.now.text.now g.c _ _ c.kind_of.ensures c.if-kind_of-word.true))))
    c.names.ensures.value

pub returns-clause-value : goal.returns-clause-value
unfolding walk.line
returns-clause-value c =
    is_on _ _ _ _ _ (pick_false _ _ _ (ne_eqb _ _ (kind_not c.args.self.now.text.now c.args.c _ _ c.kind_of.ensures c.if-kind_of-word.false))) (step_in_on c.args.self.now.text.now _ c.requires)
