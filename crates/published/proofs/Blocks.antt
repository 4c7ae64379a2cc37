-- A block of the machine runs as the rules of Table 3 do, to the end or to a statement that meets the no that the machine met. Assumes nothing.
use mathlib.Core.Path.{◌≡◌, refl, sym, ap, subst, ◌∙◌}
use mathlib.Core.Bool.{true, false, ◌&&◌}
use mathlib.Core.List.{List, [], ◌∷◌, ◌++◌, append-nil, append_assoc}
use Prim.Native.Nat.{ℕ, ◌+◌, ◌≤◌}
use native.Mathlib.Omega.{arith}
use lib.IntN.{ℤ}
use Rattle.laws.proofs.Choice.{by_cases, true_false}
use Rattle.std.specs.Prelude.{None, Some, is_none, Ok, Err}
use Rattle.questions.specs.declared.Question.{Question}
use Rattle.numbers.specs.Numbers.{Truth}
use Rattle.contract.specs.Fits.{Scope, condition_in, action_in, block_in}
use Rattle.laws.proofs.Truths.{both_left, both_right}
use Rattle.contract.specs.Tree.{Condition, Block, none, perform, conditional, broken_block}
use Rattle.contract.specs.Sizes.{statements}
use Rattle.evaluation.specs.Memory.{Memory}
use Rattle.evaluation.specs.Meaning.{truth_of}
use Rattle.statements.specs.declared.Label.{Label}
use Rattle.statements.specs.Running.{Work, max_labels, memory_in, onward, by_truth, ran}
use Rattle.history.proofs.RefusalNumbers.{Stops, TruthStops, truth_stops}
use Rattle.published.specs.Published.{Statement, when, in_order, cond_true, cond_false, Statements, stop, next, Meets, condition_meets}
use Rattle.published.proofs.Runs.{then}
use Rattle.published.proofs.Actions.{labels_of, Room, Limited, Acted, goes, sticks, performed_acts}

-- a run comes to a statement that answers question q by no
pub data Sticks (m : Memory) (ss : List Statement) (q : Question) : Type 0 where
  at : {ls : List Label} {m' : Memory} {s : Statement} {ss' : List Statement} → Statements m ss ls m' (s ∷ ss') → Meets m' s q → Sticks m ss q

sticks_later : {m m' : Memory} {ss ss' : List Statement} {ls : List Label} {q : Question} → Statements m ss ls m' ss' → Sticks m' ss' q → Sticks m ss q
sticks_later r (at r' k) = at (then r r') k

module _ (v : List ℤ) (t : ℕ) where
  -- from work w, statements ss give this work, whatever follows them
  pub data Ends (w : Work) (ss : List Statement) (most : ℕ) (w' : Work) : Type 0 where
    finishes : (ls : List Label) → w'.refusal ≡ None → Room most w' → labels_of w' ≡ labels_of w ++ ls
        → ((rest : List Statement) → Statements (memory_in v t w) (ss ++ rest) ls (memory_in v t w') rest) → Ends w ss most w'
    fails : {q : Question} → w'.refusal ≡ Some q → Stops q → ((rest : List Statement) → Sticks (memory_in v t w) (ss ++ rest) q) → Ends w ss most w'

  acted_ends : {w w' : Work} {s : Statement} {n : ℕ} → Acted v t w s n w' → Ends w (s ∷ []) n w'
  acted_ends {w} {w'} {s} {n} (goes ls z o e r) =
      finishes ls z o e (λ rest. subst (λ (l : List Label). Statements (memory_in v t w) (s ∷ rest) l (memory_in v t w') rest) (append-nil ls) (next (r rest) stop))
  acted_ends (sticks z x k) = fails z k (λ rest. at stop x)

  -- statements after others
  after : {w y y' : Work} (ss : List Statement) {ss' : List Statement} {n : ℕ} (ls : List Label) → labels_of y ≡ labels_of w ++ ls
      → ((rest : List Statement) → Statements (memory_in v t w) (ss ++ rest) ls (memory_in v t y) rest)
      → Ends y ss' n y' → Ends w (ss ++ ss') n y'
  after {w} {y} {y'} ss {ss'} ls e r (finishes ls' z o' e' r') =
      finishes (ls ++ ls') z o' (e' ∙ ap (λ (l : List Label). l ++ ls') e ∙ append_assoc (labels_of w) ls ls')
      (λ rest. subst (λ (x : List Statement). Statements (memory_in v t w) x (ls ++ ls') (memory_in v t y') rest) (sym (append_assoc ss ss' rest)) (then (r (ss' ++ rest)) (r' rest)))
  after {w} {y' = y'} ss {ss'} ls e r (fails {q = q} z k r') =
      fails z k (λ rest. subst (λ (x : List Statement). Sticks (memory_in v t w) x q) (sym (append_assoc ss ss' rest)) (sticks_later (r (ss' ++ rest)) (r' rest)))

  -- the work goes on if no refusal was met
  onward_ends : {w y : Work} {ss ss' : List Statement} {k n : ℕ} (f : Work → Work) → Ends w ss k y
      → (Room k y → y.refusal ≡ None → Ends y ss' n (f y)) → Ends w (ss ++ ss') n (onward y f)
  unfolding onward
  onward_ends {w} {y} {ss} {ss'} {n = n} f (finishes ls z o e r) g =
      by_cases (Ends w (ss ++ ss') n) _ _ _ (λ _. after ss ls e r (g o z)) (λ h. true_false (sym (ap is_none z) ∙ h))
  onward_ends {w} {y} {ss} {ss'} {n = n} f (fails {q = q} z k r) g =
      by_cases (Ends w (ss ++ ss') n) _ _ _ (λ h. true_false (sym h ∙ ap is_none z))
      (λ _. fails z k (λ rest. subst (λ (x : List Statement). Sticks (memory_in v t w) x q) (sym (append_assoc ss ss' rest)) (r (ss' ++ rest))))

  when_ends : {w y : Work} {n k : ℕ} (c : Condition) (s : Block) → w.refusal ≡ None → Room k w → k ≤ n → Ends w (in_order s) n y
      → (x : Truth) → TruthStops x → truth_of (memory_in v t w) c ≡ x → Ends w (when c s ∷ []) n (by_truth w x y)
  when_ends {w} c s z o l g (Err q) k h = fails refl k (λ rest. at stop (condition_meets h))
  when_ends {w} c s z o l (finishes ls z' o' e r) (Ok true) k h = finishes ls z' o' e (λ rest. next (cond_true h) (r rest))
  when_ends {w} c s z o l (fails e k' r) (Ok true) k h = fails e k' (λ rest. sticks_later (next (cond_true h) stop) (r rest))
  when_ends {w} c s z o l g (Ok false) k h =
      finishes [] z (record { labels_length = o.labels_length; few = omega (arith, o.few) }) (sym (append-nil (labels_of w))) (λ rest. next (cond_false h) stop)

  -- there may be more labels
  more_labels : {y : Work} {x : Work} {ss : List Statement} {k n : ℕ} → k ≤ n → Ends y ss k x → Ends y ss n x
  more_labels l (finishes ls z o e r) = finishes ls z (record { labels_length = o.labels_length; few = omega (arith, o.few) }) e r
  more_labels l (fails z k r) = fails z k r

  -- each statement sends at most one label
  pub ran_ends : {m : ℕ} {w : Work} (g : ℕ → ℕ) (c : Scope) → Limited c → (b : Block) → block_in c b ≡ true → m + statements b ≤ max_labels → Room m w → w.refusal ≡ None
      → Ends w (in_order b) (m + statements b) (ran g v t w b)
  unfolding ran statements in_order block_in
  ran_ends {m} {w} g c k none i h o z = finishes [] z (record { labels_length = o.labels_length; few = omega (arith, o.few) }) (sym (append-nil (labels_of w))) (λ rest. stop)
  ran_ends {m} {w} g c k (perform b a) i h o z =
      onward_ends _ (ran_ends g c k b (both_left (block_in c b) (action_in c a) i) (omega arith) o z)
      (λ o' z'. more_labels (omega arith) (acted_ends (performed_acts v t o' z' (omega arith) g c k a (both_right (block_in c b) (action_in c a) i))))
  ran_ends {m} {w} g c k (conditional b u s) i h o z =
      let j = both_right (block_in c b) (condition_in c u && block_in c s) i in
      onward_ends _ (ran_ends g c k b (both_left (block_in c b) (condition_in c u && block_in c s) i) (omega arith) o z)
      (λ o' z'. when_ends u s z' o' (omega arith) (more_labels (omega arith) (ran_ends {m = m + statements b} {w = ran g v t w b} g c k s (both_right (condition_in c u) (block_in c s) j) (omega arith) o' z'))
      (truth_of (memory_in v t (ran g v t w b)) u) (truth_stops c (memory_in v t (ran g v t w b)) u (both_left (condition_in c u) (block_in c s) j)) refl)
  ran_ends {m} {w} g c k broken_block i h o z = true_false (sym i)
