-- `clauses::lists::Lists::clause` meets its contract. Assumes nothing.
use borrow.Author.Tests.{ne_eqb}
use Rattle.laws.proofs.Choice.{pick_false}
use Rattle.reading_laws.specs.Walk as walk
use Rattle.reading_laws.proofs.AgreesWith.{leaves_same, is_stop_lem}
use Rattle.cursors.proofs.Tested.{kind_not}
use Rattle.clauses.proofs.NameLists.{clause_begin}
use Rattle.cursors.proofs.Clipped.{passed}
use Rattle.clauses.proofs.lists.Lists.clause.Goals as goal

pub returns-then-kind_of-ne-NAME-clause-value : goal.returns-then-kind_of-ne-NAME-clause-value
unfolding walk.clause
returns-then-kind_of-ne-NAME-clause-value c =
    is_stop_lem _ _ _ _ _ _ (pick_false _ _ _ (ne_eqb _ _ (kind_not c.args.self.now.text.now c.args.c _ _ c.kind_of.ensures c.if-kind_of-ne-NAME.true))) c.unfit.ensures.value

pub returns-clause-value : goal.returns-clause-value
returns-clause-value c =
    let short = c.args.self.now.short in
    leaves_same _ _ _ _ _
    (clause_begin c.args.self.now.text.now c.args.c _ _ _ _ _ _ _ _ _ c.kind_of.ensures c.if-kind_of-ne-NAME.false c.name_at.ensures.text c.name_at.ensures.start c.name_at.ensures.end (passed _ _ _ short c.past.ensures.value) c.clause_party.ensures.value)
    c.clause_from.ensures.value
