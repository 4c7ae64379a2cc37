-- `expressions::terms::Scope::count_nots` meets its contract. Assumes nothing.
use Prim.Native.Nat.{ℕ}
use native.Mathlib.Omega.{arith}
use lib.ListN.{length}
use mathlib.Core.Path.{◌≡◌, ap, ◌∙◌}
use Rattle.reading_laws.specs.Walk.{draft}
use Rattle.cursors.specs.Packed.{cursor_in}
use Rattle.reading_laws.proofs.Operators.{nots_stop, nots_end}
use Rattle.expressions.proofs.PackedTerms.{another}
use Rattle.cursors.proofs.Clipped.{passed}
use Rattle.expressions.proofs.terms.Scope.count_nots.Goals as goal

pub returns-then-kind_of-ne-NOT : goal.returns-then-kind_of-ne-NOT
unfolding cursor_in
returns-then-kind_of-ne-NOT c =
    let z = c.args in
    let l = c.loop-many in
    record {
      goes = l.invariant.1;
      same = nots_stop z.self.now.text.now z.notes.now (cursor_in z.self.now.text.now z.c) l.notes (cursor_in z.self.now.text.now l.here) l.many l.invariant.0 (λ e. c.if-kind_of-ne-NOT.true (c.kind_of.ensures ∙ e));
    }

pub loop-many-preserved : goal.loop-many-preserved
loop-many-preserved c =
    let short = c.args.self.now.short in
    let z = c.args in
    let l = c.loop-many in (
      another z.self.now.text.now z.notes.now z.c l.notes l.here l.many l.invariant.0 _ _ c.loop-many-test.true c.kind_of.ensures c.if-kind_of-ne-NOT.false c.start_of.ensures _ c.count.ensures _ (passed _ _ _ short c.past-here.ensures.value),
      c.past-here.ensures.goes,
      c.count.auto.notes ∙ l.invariant.2,
    )

pub returns : goal.returns
returns c =
    let z = c.args in
    let l = c.loop-many in
    let all : l.many ≡ length z.self.now.text.now = omega (arith, c.loop-many-test.false, l.auto.many-end) in
    record {
      goes = l.invariant.1;
      same = λ t go. nots_end z.self.now.text.now z.notes.now (cursor_in z.self.now.text.now z.c) l.notes (cursor_in z.self.now.text.now l.here) l.many l.invariant.0 c.loop-many-test.false t go
          ∙ ap (λ (k : ℕ). go k (cursor_in z.self.now.text.now l.here) (draft t l.notes)) all;
    }
