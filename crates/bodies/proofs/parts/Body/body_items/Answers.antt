-- `bodies::parts::Body::body_items` meets its contract. Assumes nothing.
use Rattle.reading_laws.specs.Walk as walk
use Prim.Native.Nat.{ℕ}
use native.Mathlib.Omega.{arith}
use lib.ListN.{length}
use Rattle.cursors.specs.Packed.{cursor_in}
use Rattle.reading_laws.specs.Walk.{draft}
use Rattle.cursors.proofs.Turns.{fewer}
use Rattle.cursors.proofs.Following.{still_same}
use mathlib.Core.Path.{sym, ◌∙◌, ap}
use Rattle.reading_laws.proofs.Exits as parts
use Rattle.cursors.proofs.Tested as packed
use Rattle.bodies.proofs.parts.Body.body_items.Goals as goal

pub returns-then-not-is_start-clause-value : goal.returns-then-not-is_start-clause-value
returns-then-not-is_start-clause-value c =
    let z = c.args in
    packed.as_on z.self.now.text.now _ _ _ _ c.loop.invariant.1.1
    (parts.items_end z.self.now.text.now z.self.now.from _ _ _ _ _ c.loop.invariant.0 (packed.starts_is z.self.now.text.now _ _ _ _ c.kind_of.ensures
    c.is_start.ensures (c.if-not-is_start.true)))

pub returns-then-stops-clause-value : goal.returns-then-stops-clause-value
returns-then-stops-clause-value c =
    let z = c.args in
    parts.items_stop z.self.now.text.now z.self.now.from _ _ _ _ _ c.loop.invariant.0 _ _ _ _ _ _ _ (omega (arith, c.loop-test.true)) (packed.starts_is z.self.now.text.now _
    _ _ _ c.kind_of.ensures c.is_start.ensures (c.if-not-is_start.false)) c.body_item-next.ensures.value (packed.halts z.self.now.text.now _ _
    c.stops.ensures c.if-stops.true)

pub loop-preserved : goal.loop-preserved
loop-preserved c =
    let z = c.args in (
      ap (λ (k : ℕ). walk.body_items z.self.now.text.now z.self.now.from k (cursor_in z.self.now.text.now c.body_item-next.result) (draft c.body_item-next.new.lent.table.now c.body_item-next.new.lent.notes.now)) (fewer (length c.args.self.now.text.now) c.loop.counter)
          ∙ parts.items_turn z.self.now.text.now z.self.now.from _ _ _ _ _ c.loop.invariant.0 _ _ _ _ (omega (arith, c.loop-test.true)) (packed.starts_is z.self.now.text.now _ _ _ _
          c.kind_of.ensures c.is_start.ensures (c.if-not-is_start.false)) c.body_item-next.ensures.value (packed.keeps z.self.now.text.now _ _
          c.stops.ensures c.if-stops.false),
      (
        still_same c.args.lent.now c.loop.lent c.body_item-next.new.lent c.loop.invariant.1.0 c.body_item-next.ensures.same_lists,
        sym c.stops.ensures ∙
            c.if-stops.false,
      ),
    )

pub returns-clause-value : goal.returns-clause-value
returns-clause-value c =
    let z = c.args in
    packed.as_on z.self.now.text.now _ _ _ _ c.loop.invariant.1.1
    (parts.items_out z.self.now.text.now z.self.now.from _ _ _ _ _ c.loop.invariant.0 (omega (arith, c.loop-test.false)))
