-- Table 3 leads to one end only, or to one no. Assumes nothing.
use mathlib.Core.Path.{◌≡◌, refl, sym, ap, subst}
use mathlib.Core.List.{List, [], ◌∷◌, ◌++◌, append_assoc}
use Prim.Native.Nat.{ℕ, ◌+◌, ◌-◌}
use Rattle.questions.specs.declared.Question.{Question}
use Rattle.numbers.specs.declared.Value.{Value}
use Rattle.numbers.proofs.Answers.{same_value, same_amount, true_not_false}
use Rattle.evaluation.specs.Memory.{Memory}
use Rattle.statements.specs.declared.Label.{Label}
use Rattle.published.specs.Published.{Statement, act, when, amount_of, with_amount, with_value, sends, pays, Table3, value_send, asset_send, field_update, asset_update, asset_update_self, cond_true, cond_false, Statements, stop, next, Meets}
use Rattle.published.proofs.Meeting.{meets_stuck, one_no}

-- one run after another
pub then : {m m' m'' : Memory} {ss ss' ss'' : List Statement} {ls ls' : List Label}
    → Statements m ss ls m' ss' → Statements m' ss' ls' m'' ss'' → Statements m ss (ls ++ ls') m'' ss''
then stop r = r
then {m = m} {m'' = m''} {ss = ss} {ss'' = ss''} {ls' = ls'} (next {ls = a} {ls' = b} x r) r' =
    subst (λ (l : List Label). Statements m ss l m'' ss'') (sym (append_assoc a b ls')) (next x (then r r'))

-- ---- the rules are a function of what is left

-- what a rule gives
pub record Same (ls ls' : List Label) (m m' : Memory) (ss ss' : List Statement) : Type 0 where
  pub labels : ls ≡ ls'
  pub memory : m ≡ m'
  pub statements : ss ≡ ss'

one_end : {m m1 m2 : Memory} {ss s1 s2 : List Statement} {l1 l2 : List Label} → Table3 m ss l1 m1 s1 → Table3 m ss l2 m2 s2 → Same l1 l2 m1 m2 s1 s2
one_end (value_send {a = a} h) (value_send h') = record { labels = ap (λ (v : Value). sends v a ∷ []) (same_value h h'); memory = refl; statements = refl }
one_end (asset_send {m = m} {h = k} {a = a} h l) (asset_send h' l') =
    record { labels = ap (λ (n : ℕ). pays n a ∷ []) (same_amount h h'); memory = ap (λ (n : ℕ). with_amount m k (amount_of m k - n)) (same_amount h h'); statements = refl }
one_end (field_update {m = m} {x = x} h) (field_update h') = record { labels = refl; memory = ap (with_value m x) (same_value h h'); statements = refl }
one_end (asset_update {m = m} {h = a} {k = b} h l d f) (asset_update h' l' d' f') =
    record {
      labels = refl;
      memory = ap (λ (n : ℕ). with_amount (with_amount m a (amount_of m a - n)) b (amount_of m b + n)) (same_amount h h');
      statements = refl;
    }
one_end (asset_update h l d f) (asset_update_self h' l' d') = absurd (d d')
one_end (asset_update_self h l d) (asset_update h' l' d' f') = absurd (d' d)
one_end (asset_update_self h l d) (asset_update_self h' l' d') = record { labels = refl; memory = refl; statements = refl }
one_end (cond_true h) (cond_true h') = record { labels = refl; memory = refl; statements = refl }
one_end (cond_true h) (cond_false h') = absurd (true_not_false h h')
one_end (cond_false h) (cond_true h') = absurd (true_not_false h' h)
one_end (cond_false h) (cond_false h') = record { labels = refl; memory = refl; statements = refl }

-- no rule is for no statement
abbrev Carried : List Statement → Type 0
Carried [] = ⊥
Carried (act a ∷ rest) = Unit {0}
Carried (when t s ∷ rest) = Unit {0}

carried : {m m' : Memory} {ss ss' : List Statement} {ls : List Label} → Table3 m ss ls m' ss' → Carried ss
carried (value_send h) = tt
carried (asset_send h l) = tt
carried (field_update h) = tt
carried (asset_update h l d f) = tt
carried (asset_update_self h l d) = tt
carried (cond_true h) = tt
carried (cond_false h) = tt

-- where nothing is left, the run is at its end
at_end : {m m' : Memory} {ss ss' : List Statement} {ls : List Label} → ss ≡ [] → Statements m ss ls m' ss' → Same [] ls m m' ss ss'
at_end e stop = record { labels = refl; memory = refl; statements = refl }
at_end e (next x r) = absurd (subst Carried e (carried x))

module _ {m1 m2 m3 : Memory} {s1 s2 s3 : List Statement} {l1 l2 l3 : List Label} where
  moved_over : Same l1 l2 m1 m2 s1 s2 → Statements m2 s2 l3 m3 s3 → Statements m1 s1 l3 m3 s3
  moved_over e r =
      subst (λ (n : Memory). Statements n s1 l3 m3 s3) (sym e.memory) (subst (λ (ss : List Statement). Statements m2 ss l3 m3 s3) (sym e.statements) r)

-- two runs to the end give the same
pub one_run : {m m1 m2 : Memory} {ss : List Statement} {l1 l2 : List Label} → Statements m ss l1 m1 [] → Statements m ss l2 m2 [] → (l1 ≡ l2) × (m1 ≡ m2)
one_run stop r = let e = at_end refl r in (e.labels, e.memory)
one_run (next x r) stop = absurd (carried x)
one_run (next x r) (next x' r') =
    let e = one_end x x' in
    let d = one_run r (moved_over e r') in
    (λ i. e.labels i ++ d.0 i, d.1)

-- a run to the end comes to no statement that meets a no
pub not_stuck : {m m1 m2 : Memory} {ss xs : List Statement} {x : Statement} {l1 l2 : List Label} {n : Question}
    → Statements m ss l1 m1 [] → Statements m ss l2 m2 (x ∷ xs) → Meets m2 x n → ⊥
not_stuck stop (next x r) k = carried x
not_stuck (next x r) stop k = (meets_stuck k _).no_rule x
not_stuck (next x r) (next x' r') k = not_stuck r (moved_over (one_end x x') r') k

-- two runs that come to a no meet the same
pub one_stop : {m m1 m2 : Memory} {ss xs ys : List Statement} {x y : Statement} {l1 l2 : List Label} {n k : Question}
    → Statements m ss l1 m1 (x ∷ xs) → Meets m1 x n → Statements m ss l2 m2 (y ∷ ys) → Meets m2 y k → n ≡ k
one_stop stop q stop q' = one_no q q'
one_stop stop q (next x r) q' = absurd ((meets_stuck q _).no_rule x)
one_stop (next x r) q stop q' = absurd ((meets_stuck q' _).no_rule x)
one_stop (next x r) q (next x' r') q' = one_stop r q (moved_over (one_end x x') r') q'
