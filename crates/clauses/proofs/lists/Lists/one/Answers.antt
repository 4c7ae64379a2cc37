-- `clauses::lists::Lists::one` meets its contract. Assumes nothing.
use Rattle.reading_laws.proofs.AgreesWith.{is_on, is_stop_lem}
use Rattle.cursors.proofs.Packs.{step_in_on}
use Rattle.cursors.proofs.Tested.{kind_not}
use Rattle.cursors.proofs.Clipped.{passed}
use Rattle.clauses.proofs.NameLists.{one_misfit, one_read}
use Rattle.clauses.proofs.lists.Lists.one.Goals as goal

pub returns-then-kind_of-ne-NAME-clause-value : goal.returns-then-kind_of-ne-NAME-clause-value
returns-then-kind_of-ne-NAME-clause-value c =
    is_stop_lem _ _ _ _ _ _ (one_misfit c.args.self.now.text.now c.args.listed _ _ (kind_not c.args.self.now.text.now c.args.c _ _ c.kind_of.ensures c.if-kind_of-ne-NAME.true)) c.unfit.ensures.value

pub returns-clause-value : goal.returns-clause-value
returns-clause-value c =
    let short = c.args.self.now.short in
    is_on _ _ _ _ _
    (one_read c.args.self.now.text.now c.args.listed c.args.c _ _ _ _ _ _ _ _ _ c.kind_of.ensures c.if-kind_of-ne-NAME.false c.name_at.ensures.text c.name_at.ensures.start c.name_at.ensures.end (passed _ _ _ short c.past.ensures.value) c.enter.ensures.value)
    (step_in_on c.args.self.now.text.now _ c.past.ensures.goes)
