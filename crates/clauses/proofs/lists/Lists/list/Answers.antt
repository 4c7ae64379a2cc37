-- `clauses::lists::Lists::list` meets its contract. Assumes nothing.
use mathlib.Core.Path.{refl, sym, ◌∙◌}
use Rattle.reading_laws.proofs.AgreesWith.{is_on, went, handed, follow_on, follow_stop}
use Rattle.cursors.proofs.Packs.{step_in_on, step_in_stop}
use Rattle.cursors.proofs.Tested.{kind_is, kind_not}
use Rattle.cursors.proofs.Clipped.{passed}
use Rattle.cursors.proofs.Following.{still_same}
use Rattle.clauses.specs.Private.{list_of}
use Rattle.clauses.proofs.NameLists.{list_turn, list_refused, list_stop, listed_on, further}
use Rattle.clauses.proofs.lists.Lists.list.Goals as goal

pub returns-then-stops-clause-value : goal.returns-then-stops-clause-value
unfolding list_of
returns-then-stops-clause-value c =
    handed _ _ _ _ _ _ _ _ _ c.one-first.ensures.value (step_in_stop c.args.self.now.text.now _ (sym c.stops.ensures ∙ c.if-stops.true)) (λ e. follow_stop _ _ _ _ e)

pub loop-listed-init : goal.loop-listed-init
loop-listed-init c =
    let s = c.args.self.now.text.now in
    let go = sym c.stops.ensures ∙ c.if-stops.false in
    (refl, (go, (listed_on s c.args.listed _ _ _ _ (went _ _ _ _ _ c.one-first.ensures.value (step_in_on s _ go)), ((refl, refl), (refl, refl)))))

pub returns-then-stops-2-clause-value : goal.returns-then-stops-2-clause-value
unfolding list_of
returns-then-stops-2-clause-value c =
    let short = c.args.self.now.short in
    let s = c.args.self.now.text.now in
    handed _ _ _ _ _ _ _ _ _ c.one-next.ensures.value (step_in_stop s _ (sym c.stops-in-loop-listed.ensures ∙ c.if-stops-2.true))
    (λ e. follow_on _ _ _ _ (went _ _ _ _ _ c.one-first.ensures.value (step_in_on s _ (sym c.stops.ensures ∙ c.if-stops.false)))
    ∙ sym c.loop-listed.invariant.0
    ∙ list_refused s c.args.listed _ _ _ _ _ _ c.loop-listed.invariant.1.1.0 (kind_is s _ _ _ c.kind_of.ensures c.loop-listed-test.true) (passed s _ _ short c.past.ensures.value) e)

pub loop-listed-preserved : goal.loop-listed-preserved
loop-listed-preserved c =
    let short = c.args.self.now.short in
    let s = c.args.self.now.text.now in
    let go = sym c.stops-in-loop-listed.ensures ∙ c.if-stops-2.false in
    let on = went _ _ _ _ _ c.one-next.ensures.value (step_in_on s _ go) in (
      list_turn s c.args.listed _ _ _ _ _ _ c.loop-listed.invariant.1.1.0 (kind_is s _ _ _ c.kind_of.ensures c.loop-listed-test.true) (passed s _ _ short c.past.ensures.value) on
          ∙ c.loop-listed.invariant.0,
      (go, (listed_on s c.args.listed _ _ _ _ on, still_same c.one-first.new.lent c.loop-listed.lent c.one-next.new.lent c.loop-listed.invariant.1.1.1 c.one-next.ensures.same_lists)),
    )

pub loop-listed-smaller : goal.loop-listed-smaller
loop-listed-smaller c =
    let short = c.args.self.now.short in
    let s = c.args.self.now.text.now in
    further s c.args.listed _ _ _ _ _ c.loop-listed.invariant.1.1.0 (kind_is s _ _ _ c.kind_of.ensures c.loop-listed-test.true) (passed s _ _ short c.past.ensures.value)
    (went _ _ _ _ _ c.one-next.ensures.value (step_in_on s _ (sym c.stops-in-loop-listed.ensures ∙ c.if-stops-2.false)))

pub returns-clause-value : goal.returns-clause-value
unfolding list_of
returns-clause-value c =
    let s = c.args.self.now.text.now in
    is_on _ _ _ _ _
    (follow_on _ _ _ _ (went _ _ _ _ _ c.one-first.ensures.value (step_in_on s _ (sym c.stops.ensures ∙ c.if-stops.false)))
    ∙ sym c.loop-listed.invariant.0 ∙ list_stop s c.args.listed _ _ _ (kind_not s _ _ _ c.kind_of.ensures c.loop-listed-test.false))
    (step_in_on s _ c.loop-listed.invariant.1.0)
