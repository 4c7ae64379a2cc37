-- The statements of a function or a handler in a state: the machine meets no refusal exactly if Table 3 leads to the end, and meets the no
-- that Table 3 sticks at. Assumes nothing.
use mathlib.Core.Path.{◌≡◌, refl, sym, ap, subst, ◌∙◌}
use mathlib.Core.Bool.{true}
use mathlib.Core.List.{List, [], append-nil}
use Prim.Native.Nat.{ℕ, ◌+◌, ◌≤◌}
use native.Mathlib.Omega.{arith}
use lib.ListN.{length, take, length-map, length-take}
use lib.IntN.{ℤ}
use Rattle.std.specs.Prelude.{None, Some}
use Rattle.std.proofs.lemmas.Option.{none-some}
use Rattle.questions.specs.declared.Question.{Question}
use Rattle.machine.proofs.Gates.{same_question}
use Rattle.contract.specs.Fits.{Scope, block_in}
use Rattle.laws.proofs.Members.{repeated_length}
use Rattle.contract.specs.Tree.{Block}
use Rattle.contract.specs.Sizes.{statements}
use Rattle.evaluation.specs.Memory.{Memory}
use Rattle.state.specs.declared.State.{State}
use Rattle.statements.specs.declared.Label.{Label}
use Rattle.statements.specs.Running.{Work, max_labels, memory_in, ran}
use Rattle.outcomes.specs.Outcomes.{no_label}
use Rattle.machine.specs.Steps.{begun}
use Rattle.history.proofs.RefusalNumbers.{Stops}
use Rattle.published.specs.Published.{as_published, Statement, in_order, bound, memory_at, Statements}
use Rattle.published.proofs.Runs.{one_run, not_stuck, one_stop}
use Rattle.published.proofs.Actions.{labels_of, Limited}
use Rattle.published.proofs.Blocks.{Sticks, at, Ends, finishes, fails, ran_ends}

-- the work that statements lead to from a state
abbrev pub ran_in : (ℕ → ℕ) → State → List ℤ → List ℕ → Block → Work
ran_in u s v ps b = ran u v s.clock (begun s ps) b

-- a block of a contract that a table can hold
pub record Fit (b : Block) : Type 0 where
  pub scope : Scope
  pub limited : Limited scope
  pub inside : block_in scope b ≡ true
  pub few : statements b ≤ max_labels

module _ (u : ℕ → ℕ) (s : State) (v : List ℤ) (ps : List ℕ) (b : Block) (f : Fit b) where
  body_ends : Ends v s.clock (begun s ps) (in_order b) (0 + statements b) (ran_in u s v ps b)
  body_ends = ran_ends v s.clock u f.scope f.limited b f.inside (omega (arith, f.few)) (record { labels_length = repeated_length max_labels no_label; few = omega arith }) refl

  pub body_runs : (ran_in u s v ps b).refusal ≡ None
      → Statements (bound (memory_at s) v ps) (in_order b) (labels_of (ran_in u s v ps b)) (memory_in v s.clock (ran_in u s v ps b)) []
  body_runs z = go body_ends
    where
      go : Ends v s.clock (begun s ps) (in_order b) (0 + statements b) (ran_in u s v ps b)
          → Statements (bound (memory_at s) v ps) (in_order b) (labels_of (ran_in u s v ps b)) (memory_in v s.clock (ran_in u s v ps b)) []
      go (finishes ls z o e r) =
          let m = bound (memory_at s) v ps in
          let m' = memory_in v s.clock (ran_in u s v ps b) in
          subst (λ (l : List Label). Statements m (in_order b) l m' []) (sym e)
          (subst (λ (x : List Statement). Statements m x ls m' []) (append-nil (in_order b)) (r []))
      go (fails {q = q} e k r) = absurd (none-some q (sym z ∙ e))

  -- the labels are as many as they are counted
  pub body_counts : (ran_in u s v ps b).refusal ≡ None → (ran_in u s v ps b).count ≡ length (labels_of (ran_in u s v ps b))
  body_counts z = go body_ends
    where
      go : Ends v s.clock (begun s ps) (in_order b) (0 + statements b) (ran_in u s v ps b) → (ran_in u s v ps b).count ≡ length (labels_of (ran_in u s v ps b))
      go (finishes ls z o e r) = omega (arith, length-map (take (ran_in u s v ps b).count (ran_in u s v ps b).labels) as_published, length-take (ran_in u s v ps b).count (ran_in u s v ps b).labels, o.labels_length, o.few, f.few)
      go (fails {q = q} e k r) = absurd (none-some q (sym z ∙ e))

  pub body_sticks : (q : Question) → (ran_in u s v ps b).refusal ≡ Some q → Sticks (bound (memory_at s) v ps) (in_order b) q
  body_sticks q a = go body_ends
    where
      go : Ends v s.clock (begun s ps) (in_order b) (0 + statements b) (ran_in u s v ps b) → Sticks (bound (memory_at s) v ps) (in_order b) q
      go (finishes ls z o e r) = absurd (none-some q (sym z ∙ a))
      go (fails {q = p} e k r) =
          subst (Sticks (bound (memory_at s) v ps) (in_order b)) (same_question p q (sym e ∙ a))
          (subst (λ (x : List Statement). Sticks (bound (memory_at s) v ps) x p) (append-nil (in_order b)) (r []))

  pub body_stops : (q : Question) → (ran_in u s v ps b).refusal ≡ Some q → Stops q
  body_stops q a = go body_ends
    where
      go : Ends v s.clock (begun s ps) (in_order b) (0 + statements b) (ran_in u s v ps b) → Stops q
      go (finishes ls z o e r) = absurd (none-some q (sym z ∙ a))
      go (fails {q = p} e k r) = subst Stops (same_question p q (sym e ∙ a)) k

  runs_or_sticks : {ls : List Label} {m : Memory} {n : Question} → Statements (bound (memory_at s) v ps) (in_order b) ls m [] → Sticks (bound (memory_at s) v ps) (in_order b) n → ⊥
  runs_or_sticks r (at r' k) = not_stuck r r' k

  -- a run to the end is the machine's
  pub run_is : {ls : List Label} {m : Memory} → Statements (bound (memory_at s) v ps) (in_order b) ls m []
      → ((ran_in u s v ps b).refusal ≡ None) × (labels_of (ran_in u s v ps b) ≡ ls) × (memory_in v s.clock (ran_in u s v ps b) ≡ m)
  run_is {ls} {m} r = go body_ends
    where
      go : Ends v s.clock (begun s ps) (in_order b) (0 + statements b) (ran_in u s v ps b)
          → ((ran_in u s v ps b).refusal ≡ None) × (labels_of (ran_in u s v ps b) ≡ ls) × (memory_in v s.clock (ran_in u s v ps b) ≡ m)
      go (finishes l z o e x) = let d = one_run (body_runs z) r in (z, d.0, d.1)
      go (fails {q = q} e k x) = absurd (runs_or_sticks r (body_sticks q e))

  one_sticks : {n k : Question} → Sticks (bound (memory_at s) v ps) (in_order b) n → Sticks (bound (memory_at s) v ps) (in_order b) k → n ≡ k
  one_sticks (at r q) (at r' q') = one_stop r q r' q'

  -- a run that sticks is refused, by the question that it meets
  pub stick_refused : {n : Question} → Sticks (bound (memory_at s) v ps) (in_order b) n → (ran_in u s v ps b).refusal ≡ None → ⊥
  stick_refused k z = runs_or_sticks (body_runs z) k

  pub stick_is : {n : Question} → Sticks (bound (memory_at s) v ps) (in_order b) n → (ran_in u s v ps b).refusal ≡ Some n
  stick_is {n} k = go body_ends
    where
      go : Ends v s.clock (begun s ps) (in_order b) (0 + statements b) (ran_in u s v ps b) → (ran_in u s v ps b).refusal ≡ Some n
      go (finishes ls z o e r) = absurd (stick_refused k z)
      go (fails {q = q} e g r) = e ∙ ap Some (one_sticks (body_sticks q e) k)
