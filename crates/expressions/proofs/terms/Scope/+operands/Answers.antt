-- The parsers of expressions and conditions, which call each other, meet their contracts. Assumes nothing.
use Rattle.entries.specs.Lending.{draft_in}
use lib.ListN.{length}
use Rattle.cursors.proofs.Turns.{fewer}
use Prim.Native.Nat.{ℕ, ◌-◌}
use native.Mathlib.Omega.{arith}
use mathlib.Core.Path.{refl, sym, ap, ◌∙◌}
use Rattle.cursors.specs.Packed.{cursor_in}
use Rattle.reading_laws.specs.Walk as walk
use Rattle.reading_laws.specs.Walk.{Stop}
use Rattle.reading_laws.proofs.AgreesWith.{leaves_same}
use Rattle.expressions.proofs.Ranks.{weight_zero, weight_one, weight_two, weight_three, weight_low, weight_high, row_none, enclosed_open}
use Rattle.expressions.proofs.PackedRanks.{ends_on, row_ends, row_stops, row_turns, chain_stops, chain_rests, chain_ends, factor_leaf, factor_opens, simple_opens, simple_words, simple_compares, enclosed_stops, primary_stops, primary_ends, compare_stops, compare_unfits, compare_halts, compare_ends}
use Rattle.cursors.proofs.Clipped.{closed, passed, stopped}
use Rattle.expressions.specs.Private.{rank_number}
use mathlib.Core.Logic.{inl, inr}
use Rattle.expressions.proofs.terms.Scope.+operands.Goals.{simple-in-5, simple-in-6}
use Rattle.expressions.proofs.terms.Scope.+operands.Goals as goal

pub chain-returns-then-stops-clause-value : goal.chain-returns-then-stops-clause-value
chain-returns-then-stops-clause-value t c =
    let g = c.args in
    chain_stops g.self.now.text.now (rank_number g.rank) (walk.operand_at g.self.now.text.now g.self.now.handler g.self.now.levels (rank_number g.rank)) _ _ _ _ _ c.operand-first.ensures.value _ _ (sym c.stops.ensures ∙ c.if-stops.true)

pub chain-returns-then-is_operator-clause-value : goal.chain-returns-then-is_operator-clause-value
chain-returns-then-is_operator-clause-value t c =
    let g = c.args in
    chain_rests g.self.now.text.now (rank_number g.rank) (walk.operand_at g.self.now.text.now g.self.now.handler g.self.now.levels (rank_number g.rank)) _ _ _ _ _ c.operand-first.ensures.value _ _ _ _ (sym c.stops.ensures ∙ c.if-stops.false) c.nodes-before.ensures c.rest.ensures.value

pub chain-returns-clause-value : goal.chain-returns-clause-value
chain-returns-clause-value t c =
    let g = c.args in
    chain_ends g.self.now.text.now (rank_number g.rank) (walk.operand_at g.self.now.text.now g.self.now.handler g.self.now.levels (rank_number g.rank)) _ _ _ _ _ c.operand-first.ensures.value _ (sym c.stops.ensures ∙ c.if-stops.false) c.kind_of.ensures (sym c.is_operator.ensures ∙ c.if-is_operator.false)

pub comparison-returns-then-stops-clause-value : goal.comparison-returns-then-stops-clause-value
unfolding walk.operand_at
comparison-returns-then-stops-clause-value t c =
    let g = c.args in
    compare_stops g.self.now.text.now g.self.now.handler g.self.now.levels _ _ _ _ _ c.chain-first.ensures.value _ _ (sym c.stops.ensures ∙ c.if-stops.true)

pub comparison-returns-clause-value : goal.comparison-returns-clause-value
unfolding walk.operand_at
comparison-returns-clause-value t c =
    let short = c.args.self.now.short in
    let g = c.args in
    compare_ends g.self.now.text.now g.self.now.handler g.self.now.levels _ _ _ _ _ c.chain-first.ensures.value (sym c.stops.ensures ∙ c.if-stops.false) _ c.kind_of-kind.ensures (sym c.is_comparison.ensures ∙ c.if-not-is_comparison.false) _ _
    c.start_of.ensures c.count.ensures _ (passed _ _ _ short c.past.ensures.value) _ _ _ c.chain-second.ensures.value _ _ _ _ (sym c.stops-2.ensures ∙ c.if-stops-2.false) c.operator_node.ensures c.nodes-before.ensures c.put.ensures.value

pub comparison-chain-first-requires : goal.comparison-chain-first-requires
comparison-chain-first-requires t c =
    (omega (arith, c.decreases, weight_two 2 refl), c.requires)

pub comparison-chain-second-requires : goal.comparison-chain-second-requires
comparison-chain-second-requires t c =
    (omega (arith, c.decreases, weight_two 2 refl), c.past.ensures.goes)

pub factor-returns-clause-value : goal.factor-returns-clause-value
factor-returns-clause-value t c =
    let g = c.args in
    factor_leaf g.self.now.text.now g.self.now.handler g.self.now.levels g.c _ c.kind_of.ensures _ _ _ _ c.if-kind_of-eq-OPEN_PAREN.false c.leaf.ensures.value

pub enclosed-chain-inner-requires : goal.enclosed-chain-inner-requires
enclosed-chain-inner-requires t c =
    (omega (arith, c.decreases, c.if-self-eq0.false, weight_high (rank_number c.args.rank)), c.past.ensures.goes)

pub enclosed-returns-then-self-eq0-clause-value : goal.enclosed-returns-then-self-eq0-clause-value
enclosed-returns-then-self-eq0-clause-value t c =
    let g = c.args in
    enclosed_stops g.self.now.text.now g.self.now.handler g.self.now.levels (rank_number g.rank) g.c _ _ _ _ _ c.if-self-eq0.true c.start_of.ensures (stopped _ _ _ _ c.start_of.ensures c.stop.ensures.value ∙ ap (λ (q : ℕ). Stop q c.start_of.result) c.number.ensures) c.stop.ensures.stops

pub enclosed-returns-clause-value : goal.enclosed-returns-clause-value
enclosed-returns-clause-value t c =
    let short = c.args.self.now.short in
    let g = c.args in
    enclosed_open g.self.now.text.now g.self.now.handler g.self.now.levels (rank_number g.rank) _ _ _ _ _ _ _ c.if-self-eq0.false (passed _ _ _ short c.past.ensures.value) c.chain-inner.ensures.value (closed _ _ _ short c.close.ensures)

pub primary-returns-then-stops-clause-value : goal.primary-returns-then-stops-clause-value
primary-returns-then-stops-clause-value t c =
    let g = c.args in
    primary_stops g.self.now.text.now g.self.now.handler g.self.now.levels (walk.inside_condition g.self.now.text.now g.self.now.handler g.self.now.levels) (cursor_in g.self.now.text.now g.c) g.lent.now.table.now g.lent.now.notes.now _ _ c.count_nots-nots.ensures _ _ _ c.simple-after.ensures.value _ _ (sym c.stops.ensures ∙ c.if-stops.true)

pub primary-returns-clause-value : goal.primary-returns-clause-value
primary-returns-clause-value t c =
    let g = c.args in
    primary_ends g.self.now.text.now g.self.now.handler g.self.now.levels (walk.inside_condition g.self.now.text.now g.self.now.handler g.self.now.levels) (cursor_in g.self.now.text.now g.c) g.lent.now.table.now g.lent.now.notes.now _ _ c.count_nots-nots.ensures _ _ _ c.simple-after.ensures.value _ _ _ (sym c.stops.ensures ∙ c.if-stops.false) c.nodes-before.ensures c.negate.ensures.value

pub rest-returns-then-stops-clause-value : goal.rest-returns-then-stops-clause-value
rest-returns-then-stops-clause-value t c =
    let short = c.args.self.now.short in
    let g = c.args in
    let l = c.loop in
    leaves_same _ _ _ _ _ l.invariant.0 (row_stops g.self.now.text.now (rank_number g.rank) (walk.operand_at g.self.now.text.now g.self.now.handler g.self.now.levels (rank_number g.rank)) g.before (length g.self.now.text.now - l.counter) l.here _ c.kind_of-kind.ensures l.lent.table.now l.lent.notes.now _ _ _ _ _ _
    (omega (arith, c.loop-test.true)) (sym c.is_operator.ensures ∙ c.if-not-is_operator.false) c.start_of.ensures c.count.ensures (passed _ _ _ short c.past.ensures.value) c.operand-next.ensures.value _ _ (sym c.stops.ensures ∙ c.if-stops.true))

pub rest-loop-preserved : goal.rest-loop-preserved
rest-loop-preserved t c =
    let short = c.args.self.now.short in
    let g = c.args in
    let l = c.loop in (
      ap (λ (k : ℕ). walk.row_from g.self.now.text.now (rank_number g.rank) (walk.operand_at g.self.now.text.now g.self.now.handler g.self.now.levels (rank_number g.rank)) g.before k (cursor_in g.self.now.text.now c.operand-next.result) (draft_in c.put.new.self)) (fewer (length c.args.self.now.text.now) c.loop.counter)
          ∙ row_turns g.self.now.text.now (rank_number g.rank) (walk.operand_at g.self.now.text.now g.self.now.handler g.self.now.levels (rank_number g.rank)) g.before (length g.self.now.text.now - l.counter) l.here _ c.kind_of-kind.ensures l.lent.table.now l.lent.notes.now _ _ _ _ _ _ (omega (arith, c.loop-test.true))
          (sym c.is_operator.ensures ∙ c.if-not-is_operator.false) c.start_of.ensures c.count.ensures (passed _ _ _ short c.past.ensures.value) c.operand-next.ensures.value _ _ _ (sym c.stops.ensures ∙ c.if-stops.false) c.operator_node.ensures c.put.ensures.value ∙ l.invariant.0,
      (
        (c.put.ensures.same_lists.0.0 ∙ c.operand-next.ensures.same_lists.0.0 ∙ l.invariant.1.0.0, c.put.ensures.same_lists.0.1 ∙ c.operand-next.ensures.same_lists.0.1 ∙ l.invariant.1.0.1),
        (c.put.ensures.same_lists.1.0 ∙ c.operand-next.ensures.same_lists.1.0 ∙ l.invariant.1.1.0, c.put.ensures.same_lists.1.1 ∙ c.operand-next.ensures.same_lists.1.1 ∙ c.count.auto.notes ∙ l.invariant.1.1.1),
      ),
      sym c.stops.ensures ∙ c.if-stops.false,
    )

pub rest-returns-clause-value : goal.rest-returns-clause-value
rest-returns-clause-value t c =
    let g = c.args in
    let l = c.loop in
    leaves_same _ _ _ _ _ l.invariant.0 (ends_on g.self.now.text.now _ l.here _ _ (row_none g.self.now.text.now (rank_number g.rank) (walk.operand_at g.self.now.text.now g.self.now.handler g.self.now.levels (rank_number g.rank)) g.before (length g.self.now.text.now - l.counter) (cursor_in g.self.now.text.now l.here) _ (omega (arith, c.loop-test.false))) l.invariant.2)

pub simple-returns-in-20-clause-value : goal.simple-returns-in-20-clause-value
simple-returns-in-20-clause-value t c =
    let g = c.args in
    simple_opens g.self.now.text.now g.self.now.handler g.self.now.levels g.c _ c.kind_of.ensures _ _ _ _ c.in-20.is c.enclosed.ensures.value

pub simple-returns-in_default-clause-value : goal.simple-returns-in_default-clause-value
simple-returns-in_default-clause-value t c =
    let g = c.args in
    simple_compares g.self.now.text.now g.self.now.handler g.self.now.levels g.c _ c.kind_of.ensures (walk.inside_condition g.self.now.text.now g.self.now.handler g.self.now.levels) _ _ _ _
    c.in_default.in_default-own.rest.0.0.1 c.in_default.in_default-own.rest.0.1 c.in_default.in_default-own.rest.1 c.comparison.ensures.value

pub simple-returns-clause-value : goal.simple-returns-clause-value
simple-returns-clause-value t c =
    let short = c.args.self.now.short in
    let g = c.args in
    let j = c.match-kind_of in
    simple_words g.self.now.text.now g.self.now.handler g.self.now.levels g.c _ c.kind_of.ensures (walk.inside_condition g.self.now.text.now g.self.now.handler g.self.now.levels) g.lent.now.table.now g.lent.now.notes.now _ _ _ _ _
    (elim j.branch [ simple-in-5 w ↦ inl (w.in-5.is, w.truth-is) | simple-in-6 w ↦ inr (w.in-6.is, w.truth-is) ])
    c.start_of.ensures c.put_leaf.ensures.value (passed _ _ _ short c.past.ensures.value) c.past.ensures.goes

pub operand-chain-requires : goal.operand-chain-requires
operand-chain-requires t c =
    (omega (arith, c.decreases, weight_zero _ (ap rank_number c.in-Or.is), weight_one 1 refl), c.requires)

pub operand-primary-requires : goal.operand-primary-requires
operand-primary-requires t c =
    (omega (arith, c.decreases, weight_one _ (ap rank_number c.in-And.is)), c.requires)

pub operand-chain-requires-in-Sum : goal.operand-chain-requires-in-Sum
operand-chain-requires-in-Sum t c =
    (omega (arith, c.decreases, weight_two _ (ap rank_number c.in-Sum.is), weight_three 3 refl), c.requires)

pub operand-factor-requires : goal.operand-factor-requires
operand-factor-requires t c =
    (omega (arith, c.decreases, weight_low (rank_number c.args.rank)), c.requires)

pub factor-returns-then-kind_of-eq-OPEN_PAREN-clause-value : goal.factor-returns-then-kind_of-eq-OPEN_PAREN-clause-value
factor-returns-then-kind_of-eq-OPEN_PAREN-clause-value t c =
    let g = c.args in
    factor_opens g.self.now.text.now g.self.now.handler g.self.now.levels g.c _ c.kind_of.ensures _ _ _ _ c.if-kind_of-eq-OPEN_PAREN.true c.enclosed.ensures.value

pub comparison-returns-then-stops-2-clause-value : goal.comparison-returns-then-stops-2-clause-value
unfolding walk.operand_at
comparison-returns-then-stops-2-clause-value t c =
    let short = c.args.self.now.short in
    let g = c.args in
    compare_halts g.self.now.text.now g.self.now.handler g.self.now.levels _ _ _ _ _ c.chain-first.ensures.value (sym c.stops.ensures ∙ c.if-stops.false) _ c.kind_of-kind.ensures (sym c.is_comparison.ensures ∙ c.if-not-is_comparison.false) _ _
    c.start_of.ensures c.count.ensures _ (passed _ _ _ short c.past.ensures.value) _ _ _ c.chain-second.ensures.value _ _ (sym c.stops-2.ensures ∙ c.if-stops-2.true)

pub comparison-returns-then-not-is_comparison-clause-value : goal.comparison-returns-then-not-is_comparison-clause-value
unfolding walk.operand_at
comparison-returns-then-not-is_comparison-clause-value t c =
    let g = c.args in
    compare_unfits g.self.now.text.now g.self.now.handler g.self.now.levels _ _ _ _ _ c.chain-first.ensures.value (sym c.stops.ensures ∙ c.if-stops.false) _ c.kind_of-kind.ensures _ _ _ (sym c.is_comparison.ensures ∙ c.if-not-is_comparison.true) c.unfit.ensures.value

pub rest-returns-then-not-is_operator-clause-value : goal.rest-returns-then-not-is_operator-clause-value
rest-returns-then-not-is_operator-clause-value t c =
    let g = c.args in
    let l = c.loop in
    leaves_same _ _ _ _ _ l.invariant.0 (row_ends g.self.now.text.now (rank_number g.rank) (walk.operand_at g.self.now.text.now g.self.now.handler g.self.now.levels (rank_number g.rank)) g.before (length g.self.now.text.now - l.counter) l.here _ c.kind_of-kind.ensures _ _ (sym c.is_operator.ensures ∙ c.if-not-is_operator.true) l.invariant.2)
