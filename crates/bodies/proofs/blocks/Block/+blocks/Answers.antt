-- The parsers of statements and blocks, which call each other, meet their contracts. Assumes nothing.
use Prim.Native.Nat.{ℕ, ◌%◌}
use native.Mathlib.Omega.{arith}
use lib.ListN.{length}
use Rattle.cursors.proofs.Turns.{fewer}
use Rattle.cursors.proofs.Following.{still_same}
use mathlib.Core.Path.{sym, ◌∙◌, ap}
use Rattle.reading_laws.specs.Walk as walk
use Rattle.reading_laws.specs.Walk.{draft, Stop}
use Rattle.cursors.specs.Packed.{cursor_in}
use Rattle.reading_laws.proofs.Blocks as blocks
use Rattle.cursors.proofs.Packs.{step_in_on, step_in_stop}
use Rattle.cursors.proofs.Tested.{leaves_step_in, kind_is, kind_not, counted_at, refused_at, starts_is}
use Rattle.cursors.proofs.Clipped.{agrees, closed, stopped, tokened}
use Rattle.bodies.proofs.blocks.Block.+blocks.Goals as goal

pub braces-returns-then-stops-clause-value : goal.braces-returns-then-stops-clause-value
braces-returns-then-stops-clause-value t c =
    let short = c.args.self.now.short in
    let z = c.args in
    blocks.braces_unfit z.self.now.text.now z.self.now.handler z.self.now.levels (walk.conditional z.self.now.text.now z.self.now.handler z.self.now.levels) (cursor_in z.self.now.text.now z.c) z.lent.now.table.now z.lent.now.notes.now _ _ c.nodes-from.ensures (tokened _ _ _ _ short c.token-opened.ensures) _ _ _ _ (step_in_stop z.self.now.text.now _ (sym c.stops.ensures ∙ c.if-stops.true))

pub braces-returns-then-stops-2-clause-value : goal.braces-returns-then-stops-2-clause-value
braces-returns-then-stops-2-clause-value t c =
    let short = c.args.self.now.short in
    let z = c.args in
    blocks.braces_stops z.self.now.text.now z.self.now.handler z.self.now.levels (walk.conditional z.self.now.text.now z.self.now.handler z.self.now.levels) (cursor_in z.self.now.text.now z.c) z.lent.now.table.now z.lent.now.notes.now _ _ c.nodes-from.ensures (tokened _ _ _ _ short c.token-opened.ensures) _ (step_in_on z.self.now.text.now _ (sym c.stops.ensures ∙ c.if-stops.false)) _ _ _ c.statements-after.ensures.value _ _ _ _
    (step_in_stop z.self.now.text.now _ (sym c.stops-2.ensures ∙ c.if-stops-2.true))

pub braces-returns-clause-value : goal.braces-returns-clause-value
braces-returns-clause-value t c =
    let short = c.args.self.now.short in
    let z = c.args in
    blocks.braces_close z.self.now.text.now z.self.now.handler z.self.now.levels (walk.conditional z.self.now.text.now z.self.now.handler z.self.now.levels) (cursor_in z.self.now.text.now z.c) z.lent.now.table.now z.lent.now.notes.now _ _ c.nodes-from.ensures (tokened _ _ _ _ short c.token-opened.ensures) _
    (step_in_on z.self.now.text.now _ (sym c.stops.ensures ∙ c.if-stops.false)) _ _ _ c.statements-after.ensures.value _ _ (step_in_on z.self.now.text.now _ (sym c.stops-2.ensures ∙ c.if-stops-2.false)) (tokened _ _ _ _ short c.token.ensures)

pub conditional-returns-then-self-eq0-clause-value : goal.conditional-returns-then-self-eq0-clause-value
conditional-returns-then-self-eq0-clause-value t c =
    let z = c.args in
    leaves_step_in _ _ _ _ _ (refused_at z.self.now.text.now z.c _ _ _ c.start_of-place.ensures c.stop.ensures.stops (stopped _ _ _ _ c.start_of-place.ensures (c.stop.ensures.value ∙ ap (λ (q : ℕ). Stop q (c.start_of-place.result % 32768)) c.number.ensures)))
    (blocks.conditional_deep z.self.now.text.now z.self.now.handler z.self.now.levels z.self.now.from (cursor_in z.self.now.text.now z.c) _ _ _ c.if-self-eq0.true)

pub conditional-returns-then-stops-clause-value : goal.conditional-returns-then-stops-clause-value
conditional-returns-then-stops-clause-value t c =
    let short = c.args.self.now.short in
    let z = c.args in
    blocks.conditional_unfit z.self.now.text.now z.self.now.handler z.self.now.levels z.self.now.from (cursor_in z.self.now.text.now z.c) z.lent.now.table.now z.lent.now.notes.now c.if-self-eq0.false _ (tokened _ _ _ _ short c.token-opened.ensures) _ _ _ _ (step_in_stop z.self.now.text.now _ (sym c.stops.ensures ∙ c.if-stops.true))

pub conditional-returns-then-stops-2-clause-value : goal.conditional-returns-then-stops-2-clause-value
conditional-returns-then-stops-2-clause-value t c =
    let short = c.args.self.now.short in
    let z = c.args in
    blocks.conditional_open z.self.now.text.now z.self.now.handler z.self.now.levels z.self.now.from (cursor_in z.self.now.text.now z.c) z.lent.now.table.now z.lent.now.notes.now c.if-self-eq0.false _ (tokened _ _ _ _ short c.token-opened.ensures) _
    (step_in_on z.self.now.text.now _ (sym c.stops.ensures ∙ c.if-stops.false)) _ _ (counted_at z.self.now.text.now _ z.c _ _ _ c.start_of-place.ensures c.count.ensures) (counted_at z.self.now.text.now _ z.c _ _ _ c.start_of-place.ensures c.count-2.ensures) _ _ _ _
    (agrees _ _ _ _ _ short c.condition-inner.ensures.value c.condition-inner.ensures.lists) (closed _ _ _ short c.close-closed.ensures) _ _ _ _ (step_in_stop z.self.now.text.now _ (sym c.stops-2.ensures ∙ c.if-stops-2.true))

pub conditional-returns-then-stops-3-clause-value : goal.conditional-returns-then-stops-3-clause-value
conditional-returns-then-stops-3-clause-value t c =
    let short = c.args.self.now.short in
    let z = c.args in
    blocks.conditional_stops z.self.now.text.now z.self.now.handler z.self.now.levels z.self.now.from (cursor_in z.self.now.text.now z.c) z.lent.now.table.now z.lent.now.notes.now c.if-self-eq0.false _ (tokened _ _ _ _ short c.token-opened.ensures) _
    (step_in_on z.self.now.text.now _ (sym c.stops.ensures ∙ c.if-stops.false)) _ _ (counted_at z.self.now.text.now _ z.c _ _ _ c.start_of-place.ensures c.count.ensures) (counted_at z.self.now.text.now _ z.c _ _ _ c.start_of-place.ensures c.count-2.ensures) _ _ _ _
    (agrees _ _ _ _ _ short c.condition-inner.ensures.value c.condition-inner.ensures.lists) (closed _ _ _ short c.close-closed.ensures) _ (step_in_on z.self.now.text.now _ (sym c.stops-2.ensures ∙ c.if-stops-2.false)) _ _ _ c.braces-after.ensures.value _ _ _ _ (step_in_stop z.self.now.text.now _ (sym c.stops-3.ensures ∙ c.if-stops-3.true))

pub conditional-returns-clause-value : goal.conditional-returns-clause-value
conditional-returns-clause-value t c =
    let short = c.args.self.now.short in
    let z = c.args in
    leaves_step_in _ _ _ _ _ (step_in_on z.self.now.text.now _ (sym c.stops-3.ensures ∙ c.if-stops-3.false))
    (blocks.conditional_on z.self.now.text.now z.self.now.handler z.self.now.levels z.self.now.from (cursor_in z.self.now.text.now z.c) z.lent.now.table.now z.lent.now.notes.now c.if-self-eq0.false _ (tokened _ _ _ _ short c.token-opened.ensures) _
    (step_in_on z.self.now.text.now _ (sym c.stops.ensures ∙ c.if-stops.false)) _ _ (counted_at z.self.now.text.now _ z.c _ _ _ c.start_of-place.ensures c.count.ensures) (counted_at z.self.now.text.now _ z.c _ _ _ c.start_of-place.ensures c.count-2.ensures) _ _ _ _
    (agrees _ _ _ _ _ short c.condition-inner.ensures.value c.condition-inner.ensures.lists) (closed _ _ _ short c.close-closed.ensures) _ (step_in_on z.self.now.text.now _ (sym c.stops-2.ensures ∙ c.if-stops-2.false)) _ _ _ c.braces-after.ensures.value _ _ _ _ _
    (step_in_on z.self.now.text.now _ (sym c.stops-3.ensures ∙ c.if-stops-3.false)) c.nodes-before.ensures c.nodes_since-block.ensures c.put.ensures.value)

pub statement-returns-then-kind_of-eq-OPEN_PAREN-clause-value : goal.statement-returns-then-kind_of-eq-OPEN_PAREN-clause-value
statement-returns-then-kind_of-eq-OPEN_PAREN-clause-value t c =
    let z = c.args in
    blocks.statement_test z.self.now.text.now z.self.now.handler z.self.now.levels (walk.conditional z.self.now.text.now z.self.now.handler z.self.now.levels) z.self.now.from (cursor_in z.self.now.text.now z.c) z.lent.now.table.now z.lent.now.notes.now _ _ _ (kind_is z.self.now.text.now z.c _ _ c.kind_of.ensures c.if-kind_of-eq-OPEN_PAREN.true) c.conditional.ensures.value

pub statement-returns-then-stops-clause-value : goal.statement-returns-then-stops-clause-value
statement-returns-then-stops-clause-value t c =
    let short = c.args.self.now.short in
    let z = c.args in
    blocks.statement_stops z.self.now.text.now z.self.now.handler z.self.now.levels (walk.conditional z.self.now.text.now z.self.now.handler z.self.now.levels) z.self.now.from (cursor_in z.self.now.text.now z.c) z.lent.now.table.now z.lent.now.notes.now _
    (kind_not z.self.now.text.now z.c _ _ c.kind_of.ensures c.if-kind_of-eq-OPEN_PAREN.false) (counted_at z.self.now.text.now _ z.c _ _ _ c.start_of.ensures c.count.ensures) _ _ _ _ _ _ _ (agrees _ _ _ _ _ short c.expression-after.ensures.value c.expression-after.ensures.lists) (step_in_stop z.self.now.text.now _ (sym c.stops.ensures ∙ c.if-stops.true))

pub statement-returns-clause-value : goal.statement-returns-clause-value
statement-returns-clause-value t c =
    let short = c.args.self.now.short in
    let z = c.args in
    blocks.statement_acts z.self.now.text.now z.self.now.handler z.self.now.levels (walk.conditional z.self.now.text.now z.self.now.handler z.self.now.levels) z.self.now.from (cursor_in z.self.now.text.now z.c) z.lent.now.table.now z.lent.now.notes.now _
    (kind_not z.self.now.text.now z.c _ _ c.kind_of.ensures c.if-kind_of-eq-OPEN_PAREN.false) (counted_at z.self.now.text.now _ z.c _ _ _ c.start_of.ensures c.count.ensures) _ _ _ _ _ _ _ (agrees _ _ _ _ _ short c.expression-after.ensures.value c.expression-after.ensures.lists) (step_in_on z.self.now.text.now _ (sym c.stops.ensures ∙ c.if-stops.false)) c.action.ensures.value

pub statements-returns-then-not-is_start-clause-value : goal.statements-returns-then-not-is_start-clause-value
statements-returns-then-not-is_start-clause-value t c =
    let z = c.args in
    leaves_step_in _ _ _ _ _ (step_in_on z.self.now.text.now _ c.loop.invariant.1.0)
    (blocks.block_ends z.self.now.text.now z.self.now.handler z.self.now.levels (walk.conditional z.self.now.text.now z.self.now.handler z.self.now.levels) z.self.now.from _ _ _ _ _ c.loop.invariant.0 (starts_is z.self.now.text.now _ _ _ _ c.kind_of.ensures c.is_start.ensures (c.if-not-is_start.true)))

pub statements-returns-then-stops-clause-value : goal.statements-returns-then-stops-clause-value
statements-returns-then-stops-clause-value t c =
    let z = c.args in
    blocks.block_stops z.self.now.text.now z.self.now.handler z.self.now.levels (walk.conditional z.self.now.text.now z.self.now.handler z.self.now.levels) z.self.now.from _ _ _ _ _ c.loop.invariant.0 _ _ _ _ _ _ _ (omega (arith, c.loop-test.true))
    (starts_is z.self.now.text.now _ _ _ _ c.kind_of.ensures c.is_start.ensures (c.if-not-is_start.false)) c.statement-next.ensures.value (step_in_stop z.self.now.text.now _ (sym c.stops.ensures ∙ c.if-stops.true))

pub statements-loop-preserved : goal.statements-loop-preserved
statements-loop-preserved t c =
    let z = c.args in
    let go = sym c.stops.ensures ∙ c.if-stops.false in (
      ap (λ (k : ℕ). walk.statements z.self.now.text.now z.self.now.handler z.self.now.levels (walk.conditional z.self.now.text.now z.self.now.handler z.self.now.levels) z.self.now.from k (cursor_in z.self.now.text.now c.statement-next.result) (draft c.statement-next.new.lent.table.now c.statement-next.new.lent.notes.now)) (fewer (length c.args.self.now.text.now) c.loop.counter)
          ∙ blocks.block_turn z.self.now.text.now z.self.now.handler z.self.now.levels (walk.conditional z.self.now.text.now z.self.now.handler z.self.now.levels) z.self.now.from _ _ _ _ _ c.loop.invariant.0 _ _ _ _ (omega (arith, c.loop-test.true)) (starts_is z.self.now.text.now _ _ _ _ c.kind_of.ensures c.is_start.ensures (c.if-not-is_start.false)) c.statement-next.ensures.value (step_in_on z.self.now.text.now _ go),
      (go, still_same c.args.lent.now c.loop.lent c.statement-next.new.lent c.loop.invariant.1.1 c.statement-next.ensures.same_lists),
    )

pub statements-returns-clause-value : goal.statements-returns-clause-value
statements-returns-clause-value t c =
    let z = c.args in
    leaves_step_in _ _ _ _ _ (step_in_on z.self.now.text.now _ c.loop.invariant.1.0) (blocks.block_out z.self.now.text.now z.self.now.handler z.self.now.levels (walk.conditional z.self.now.text.now z.self.now.handler z.self.now.levels) z.self.now.from _ _ _ _ _ c.loop.invariant.0 (omega (arith, c.loop-test.false)))
