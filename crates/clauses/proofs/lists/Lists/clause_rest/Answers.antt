-- `clauses::lists::Lists::clause_rest` meets its contract. Assumes nothing.
use mathlib.Core.Path.{refl, sym, ◌∙◌}
use borrow.Author.Tests.{eq-eqb, ne_eqb}
use Rattle.laws.proofs.Choice.{pick_true, pick_false}
use Rattle.reading_laws.specs.Walk as walk
use Rattle.reading_laws.proofs.AgreesWith.{goes, went, handed, follow_on, follow_stop}
use Rattle.cursors.proofs.Packs.{step_in_on, step_in_stop}
use Rattle.cursors.proofs.Tested.{kind_is, kind_not}
use Rattle.cursors.proofs.Clipped.{passed}
use Rattle.clauses.proofs.lists.Lists.clause_rest.Goals as goal

pub returns-then-kind_of-eq-UNDERSCORE-clause-value : goal.returns-then-kind_of-eq-UNDERSCORE-clause-value
unfolding walk.clause_rest
returns-then-kind_of-eq-UNDERSCORE-clause-value c =
    let short = c.args.self.now.short in
    goes _ _ _ _ _ _ _ (pick_true _ _ _ (eq-eqb _ _ (kind_is c.args.self.now.text.now c.args.c _ _ c.kind_of.ensures c.if-kind_of-eq-UNDERSCORE.true))) (step_in_on c.args.self.now.text.now _ c.past.ensures.goes) (passed c.args.self.now.text.now _ c.args.c short c.past.ensures.value) refl c.clause_end.ensures

pub returns-then-stops-clause-value : goal.returns-then-stops-clause-value
unfolding walk.clause_rest
returns-then-stops-clause-value c =
    handed _ _ _ _ _ _ _ _ _ c.fields-after.ensures.value (step_in_stop c.args.self.now.text.now _ (sym c.stops.ensures ∙ c.if-stops.true))
    (λ e. pick_false _ _ _ (ne_eqb _ _ (kind_not c.args.self.now.text.now c.args.c _ _ c.kind_of.ensures c.if-kind_of-eq-UNDERSCORE.false)) ∙ follow_stop _ _ _ _ e)

pub returns-clause-value : goal.returns-clause-value
unfolding walk.clause_rest
returns-clause-value c =
    goes _ _ _ _ _ _ _
    (pick_false _ _ _ (ne_eqb _ _ (kind_not c.args.self.now.text.now c.args.c _ _ c.kind_of.ensures c.if-kind_of-eq-UNDERSCORE.false)) ∙ follow_on _ _ _ _ (went _ _ _ _ _ c.fields-after.ensures.value (step_in_on c.args.self.now.text.now _ (sym c.stops.ensures ∙ c.if-stops.false))))
    (step_in_on c.args.self.now.text.now _ (sym c.stops.ensures ∙ c.if-stops.false)) refl refl c.clause_end-2.ensures
