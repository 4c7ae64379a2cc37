-- `expressions::terms::Scope::leaf` meets its contract. Assumes nothing.
use mathlib.Core.Path.{sym, ap, ◌∙◌}
use mathlib.Core.Path.{◌≡◌}
use Prim.Native.Nat.{ℕ}
use native.Mathlib.Omega.{arith}
use Rattle.entries.specs.Draft.{name_in}
use Rattle.entries.specs.Lending.{draft_in}
use Rattle.expressions.proofs.PackedTerms.{leaf_unfit, leaf_name, leaf_number, leaf_string, leaf_now}
use Rattle.cursors.proofs.Clipped.{passed}
use Rattle.expressions.proofs.terms.Scope.leaf.Goals.{in-200, in-201, in-202, in-4}
use Rattle.expressions.proofs.terms.Scope.leaf.Goals as goal

-- a kind that is one number is no other
other : (k a b : ℕ) → k ≡ a → (a ≡ b → ⊥) → k ≡ b → ⊥
other k a b is f e = f (sym is ∙ e)

pub returns-in_default-clause-value : goal.returns-in_default-clause-value
returns-in_default-clause-value c =
    let z = c.args in
    leaf_unfit z.self.now.text.now z.self.now.handler z.c _ z.lent.now.table.now z.lent.now.notes.now c.kind_of.ensures _ _ _ c.in_default.in_default-own.rest.0.0.0.1 c.in_default.in_default-own.rest.0.0.1 c.in_default.in_default-own.rest.0.1 c.in_default.in_default-own.rest.1 c.unfit.ensures.value

pub returns-clause-value : goal.returns-clause-value
returns-clause-value c =
    let short = c.args.self.now.short in
    let z = c.args in
    let next = passed _ _ _ short c.past.ensures.value in
    let s = z.self.now.text.now in
    let h = z.self.now.handler in
    let t = z.lent.now.table.now in
    let n = z.lent.now.notes.now in
    let l = c.match-kind_of.lent in
    elim c.match-kind_of.branch [
      | in-200 w ↦ leaf_name s h z.c _ t n c.kind_of.ensures _ next c.past.ensures.goes l.table.now l.notes.now
          _ _ w.in-200.is w.start_of.ensures (w.named-name.ensures ∙ (λ i. name_in (w.name_at.ensures.text i) n h (w.name_at.ensures.word i))) (ap draft_in w.lent-is ∙ w.put_name.ensures.value)
      | in-201 w ↦ leaf_number s h z.c _ t n c.kind_of.ensures _ next c.past.ensures.goes l.table.now l.notes.now
          _ _ _ (λ e. other _ 201 200 w.in-201.is (omega arith) e) w.in-201.is w.start_of-in-201.ensures w.value_of.ensures w.start_of-in-201-2.ensures (ap draft_in w.lent-is ∙ w.put_leaf.ensures.value)
      | in-202 w ↦ leaf_string s h z.c _ t n c.kind_of.ensures _ next c.past.ensures.goes l.table.now l.notes.now
          (λ e. other _ 202 200 w.in-202.is (omega arith) e) (λ e. other _ 202 201 w.in-202.is (omega arith) e) w.in-202.is (ap draft_in w.lent-is ∙ w.string_leaf.ensures.value)
      | in-4 w ↦ leaf_now s h z.c _ t n c.kind_of.ensures _ next c.past.ensures.goes l.table.now l.notes.now
          _ (λ e. other _ 4 200 w.in-4.is (omega arith) e) (λ e. other _ 4 201 w.in-4.is (omega arith) e) (λ e. other _ 4 202 w.in-4.is (omega arith) e) w.in-4.is w.start_of-in-4.ensures (ap draft_in w.lent-is ∙ w.put_leaf-in-4.ensures.value)
    ]
