-- `heads::parts::Functions::functions` meets its contract. Assumes nothing.
use Rattle.reading_laws.specs.Walk as walk
use Prim.Native.Nat.{ℕ}
use native.Mathlib.Omega.{arith}
use lib.ListN.{length}
use Rattle.cursors.specs.Packed.{cursor_in}
use Rattle.reading_laws.specs.Walk.{draft}
use Rattle.cursors.proofs.Turns.{fewer}
use Rattle.cursors.proofs.Following.{still_same}
use mathlib.Core.Path.{sym, ◌∙◌, ap}
use Rattle.reading_laws.proofs.Exits as parts
use Rattle.cursors.proofs.Tested as packed
use Rattle.heads.proofs.parts.Functions.functions.Goals as goal

pub returns-then-kind_of-ne-AT_SIGN-clause-value : goal.returns-then-kind_of-ne-AT_SIGN-clause-value
returns-then-kind_of-ne-AT_SIGN-clause-value c =
    let z = c.args in
    packed.as_on z.self.now.text.now _ _ _ _ c.loop.invariant.1.1
    (parts.functions_end z.self.now.text.now _ _ _ _ _ c.loop.invariant.0 (packed.kind_not z.self.now.text.now _ _ _ c.kind_of.ensures c.if-kind_of-ne-AT_SIGN.true))

pub returns-then-stops-clause-value : goal.returns-then-stops-clause-value
returns-then-stops-clause-value c =
    let z = c.args in
    parts.functions_stop z.self.now.text.now _ _ _ _ _ c.loop.invariant.0 _ _ _ _ _ _ _ (omega (arith, c.loop-test.true)) (packed.kind_is z.self.now.text.now _ _ _
    c.kind_of.ensures c.if-kind_of-ne-AT_SIGN.false) c.function-next.ensures.value (packed.halts z.self.now.text.now _ _ c.stops.ensures c.if-stops.true)

pub loop-preserved : goal.loop-preserved
loop-preserved c =
    let z = c.args in (
      ap (λ (k : ℕ). walk.functions z.self.now.text.now k (cursor_in z.self.now.text.now c.function-next.result) (draft c.function-next.new.lent.table.now c.function-next.new.lent.notes.now)) (fewer (length c.args.self.now.text.now) c.loop.counter)
          ∙ parts.functions_turn z.self.now.text.now _ _ _ _ _ c.loop.invariant.0 _ _ _ _ (omega (arith, c.loop-test.true)) (packed.kind_is z.self.now.text.now _ _ _
          c.kind_of.ensures c.if-kind_of-ne-AT_SIGN.false) c.function-next.ensures.value (packed.keeps z.self.now.text.now _ _ c.stops.ensures c.if-stops.false),
      (
        still_same c.args.lent.now c.loop.lent c.function-next.new.lent c.loop.invariant.1.0 c.function-next.ensures.same_lists,
        sym c.stops.ensures ∙
            c.if-stops.false,
      ),
    )

pub returns-clause-value : goal.returns-clause-value
returns-clause-value c =
    let z = c.args in
    packed.as_on z.self.now.text.now _ _ _ _ c.loop.invariant.1.1
    (parts.functions_out z.self.now.text.now _ _ _ _ _ c.loop.invariant.0 (omega (arith, c.loop-test.false)))
