-- `clauses::lists::Lists::clauses` meets its contract. Assumes nothing.
use Prim.Native.Nat.{ℕ}
use native.Mathlib.Omega.{arith}
use lib.ListN.{length}
use mathlib.Core.Path.{sym, ap, ◌∙◌}
use Rattle.reading_laws.specs.Walk as walk
use Rattle.cursors.specs.Packed.{cursor_in}
use Rattle.cursors.proofs.Turns.{fewer}
use Rattle.cursors.proofs.Following.{still_same}
use Rattle.reading_laws.proofs.AgreesWith.{is_on, went, handed}
use Rattle.reading_laws.proofs.Listed.{clauses_turn, clauses_refused, clauses_stop, clauses_end}
use Rattle.cursors.proofs.Packs.{step_in_on, step_in_stop}
use Rattle.cursors.proofs.Tested.{kind_is, kind_not}
use Rattle.clauses.proofs.lists.Lists.clauses.Goals as goal

pub returns-then-kind_of-clause-value : goal.returns-then-kind_of-clause-value
returns-then-kind_of-clause-value c =
    is_on _ _ _ _ _ (sym c.loop.invariant.0 ∙ clauses_stop _ _ _ _ (kind_not c.args.self.now.text.now _ _ _ c.kind_of.ensures c.if-kind_of.true)) (step_in_on c.args.self.now.text.now _ c.loop.invariant.1.0)

pub returns-then-stops-clause-value : goal.returns-then-stops-clause-value
returns-then-stops-clause-value c =
    handed _ _ _ _ _ _ _ _ _ c.clause-next.ensures.value (step_in_stop c.args.self.now.text.now _ (sym c.stops.ensures ∙ c.if-stops.true))
    (λ e. sym c.loop.invariant.0 ∙ clauses_refused _ _ _ _ _ _ (omega (arith, c.loop-test.true)) (kind_is c.args.self.now.text.now _ _ _ c.kind_of.ensures c.if-kind_of.false) e)

pub loop-preserved : goal.loop-preserved
loop-preserved c = (
  ap (λ (k : ℕ). walk.clauses c.args.self.now.text.now k (cursor_in c.args.self.now.text.now c.clause-next.result) (walk.draft c.clause-next.new.lent.table.now c.clause-next.new.lent.notes.now)) (fewer (length c.args.self.now.text.now) c.loop.counter)
      ∙ clauses_turn _ _ _ _ _ _ (omega (arith, c.loop-test.true)) (kind_is c.args.self.now.text.now _ _ _ c.kind_of.ensures c.if-kind_of.false) (went _ _ _ _ _ c.clause-next.ensures.value (step_in_on c.args.self.now.text.now _ (sym c.stops.ensures ∙ c.if-stops.false))) ∙ c.loop.invariant.0,
  (sym c.stops.ensures ∙ c.if-stops.false, still_same c.args.lent.now c.loop.lent c.clause-next.new.lent c.loop.invariant.1.1 c.clause-next.ensures.same_lists),
)

pub returns-clause-value : goal.returns-clause-value
returns-clause-value c =
    is_on _ _ _ _ _ (sym c.loop.invariant.0 ∙ clauses_end _ _ _ _ (omega (arith, c.loop-test.false))) (step_in_on c.args.self.now.text.now _ c.loop.invariant.1.0)
