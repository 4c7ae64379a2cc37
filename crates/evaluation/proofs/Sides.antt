-- A condition is refused by question q exactly if a comparison that is worked out in it is, or a broken part; else it is what plain logic
-- says. Assumes nothing.
use mathlib.Core.Path.{◌≡◌, refl, sym, ap, subst, ◌∙◌}
use mathlib.Core.Logic.{◌↔◌}
use mathlib.Core.Bool.{Bool, true, false, not, ◌&&◌, ◌||◌}
use Rattle.std.specs.Prelude.{Ok, Err}
use Rattle.questions.specs.declared.Question.{Question}
use Rattle.numbers.specs.Numbers.{Truth}
use Rattle.numbers.specs.declared.Comparison.{Comparison}
use Rattle.numbers.proofs.Answers.{undecided}
use Rattle.contract.specs.Tree.{Expression, Condition, truth, compare, negation, both, either, broken_condition}
use Rattle.evaluation.specs.Memory.{Memory}
use Rattle.evaluation.specs.Meaning.{value_of, comparison, negated, conjunction, disjunction, truth_of}
use Rattle.evaluation.specs.Sides.{WorkedOut, itself, in_negation, left_of_and, right_of_and, left_of_or, right_of_or, RefusedBy, at_comparison, at_broken, is_true, plainly}

module _ (m : Memory) where
  -- what refuses a part that is worked out refuses the whole
  refused_in : {d c : Condition} {q : Question} → WorkedOut m d c → truth_of m d ≡ Err q → truth_of m c ≡ Err q
  unfolding truth_of
  refused_in itself e = e
  refused_in (in_negation u) e = ap negated (refused_in u e)
  refused_in (left_of_and {b = b} u) e = ap (λ (t : Truth). conjunction t (truth_of m b)) (refused_in u e)
  refused_in (right_of_and {b = b} q u) e = ap (λ (t : Truth). conjunction t (truth_of m b)) q ∙ refused_in u e
  refused_in (left_of_or {b = b} u) e = ap (λ (t : Truth). disjunction t (truth_of m b)) (refused_in u e)
  refused_in (right_of_or {b = b} q u) e = ap (λ (t : Truth). disjunction t (truth_of m b)) q ∙ refused_in u e

  refused_of : {c : Condition} {q : Question} → RefusedBy m c q → truth_of m c ≡ Err q
  unfolding truth_of
  refused_of (at_comparison u e) = refused_in u e
  refused_of (at_broken u) = refused_in u refl

  -- where all that is worked out in d is worked out in c, what refuses d refuses c
  refused_through : {c d : Condition} {q : Question} → ((x : Condition) → WorkedOut m x d → WorkedOut m x c) → RefusedBy m d q → RefusedBy m c q
  refused_through f (at_comparison u e) = at_comparison (f _ u) e
  refused_through f (at_broken u) = at_broken (f _ u)

  -- how a condition comes out
  data Comes (c : Condition) : Truth → Type 0 where
    refuses : {q : Question} → RefusedBy m c q → Comes c (Err q)
    gives : {h : Bool} → plainly m c ≡ h → Comes c (Ok h)

  of_comparison : (o : Comparison) (a b : Expression) (t : Truth) → comparison o (value_of m a) (value_of m b) ≡ t → Comes (compare o a b) t
  unfolding plainly
  of_comparison o a b (Ok h) e = gives (ap is_true e)
  of_comparison o a b (Err q) e = refuses (at_comparison itself e)

  of_negation : (a : Condition) (t : Truth) → Comes a t → Comes (negation a) (negated t)
  unfolding plainly
  of_negation a (Ok h) (gives p) = gives (ap not p)
  of_negation a (Err q) (refuses r) = refuses (refused_through (λ x u. in_negation u) r)

  of_and : (a b : Condition) (t u : Truth) → truth_of m a ≡ t → Comes a t → Comes b u → Comes (both a b) (conjunction t u)
  unfolding plainly
  of_and a b (Ok true) (Ok h) q (gives p) (gives s) = gives (ap (λ (k : Bool). k && plainly m b) p ∙ s)
  of_and a b (Ok true) (Err k) q (gives p) (refuses r) = refuses (refused_through (λ x v. right_of_and q v) r)
  of_and a b (Ok false) u q (gives p) y = gives (ap (λ (k : Bool). k && plainly m b) p)
  of_and a b (Err k) u q (refuses r) y = refuses (refused_through (λ x v. left_of_and v) r)

  of_or : (a b : Condition) (t u : Truth) → truth_of m a ≡ t → Comes a t → Comes b u → Comes (either a b) (disjunction t u)
  unfolding plainly
  of_or a b (Ok true) u q (gives p) y = gives (ap (λ (k : Bool). k || plainly m b) p)
  of_or a b (Ok false) (Ok h) q (gives p) (gives s) = gives (ap (λ (k : Bool). k || plainly m b) p ∙ s)
  of_or a b (Ok false) (Err k) q (gives p) (refuses r) = refuses (refused_through (λ x v. right_of_or q v) r)
  of_or a b (Err k) u q (refuses r) y = refuses (refused_through (λ x v. left_of_or v) r)

  comes : (c : Condition) → Comes c (truth_of m c)
  unfolding truth_of plainly
  comes (truth b) = gives refl
  comes (compare o a b) = of_comparison o a b _ refl
  comes (negation a) = of_negation a (truth_of m a) (comes a)
  comes (both a b) = of_and a b (truth_of m a) (truth_of m b) refl (comes a) (comes b)
  comes (either a b) = of_or a b (truth_of m a) (truth_of m b) refl (comes a) (comes b)
  comes broken_condition = refuses (at_broken itself)

  refusal : {c : Condition} {q : Question} → Comes c (Err q) → RefusedBy m c q
  refusal (refuses r) = r

  decision : {c : Condition} {h : Bool} → Comes c (Ok h) → plainly m c ≡ h
  decision (gives p) = p

  undisputed : (c : Condition) {h : Bool} (t : Truth) → truth_of m c ≡ t → Comes c t → ((q : Question) → RefusedBy m c q → ⊥) → plainly m c ≡ h → truth_of m c ≡ Ok h
  undisputed c (Ok k) q (gives p) f e = q ∙ ap Ok (sym p ∙ e)
  undisputed c (Err k) q (refuses r) f e = absurd (f k r)

  pub refused_exactly : (c : Condition) (q : Question) → (truth_of m c ≡ Err q) ↔ RefusedBy m c q
  refused_exactly c q = (λ e. refusal (subst (Comes c) e (comes c)), refused_of)

  pub decided_exactly : (c : Condition) (h : Bool) → (truth_of m c ≡ Ok h) ↔ (((q : Question) → RefusedBy m c q → ⊥) × (plainly m c ≡ h))
  decided_exactly c h =
      (λ e. (λ n r. undecided (refused_of r) e, decision (subst (Comes c) e (comes c))), λ p. undisputed c (truth_of m c) refl (comes c) p.0 p.1)
