-- How many groups have their first name below a number. Assumes nothing.
use mathlib.Core.Path.{◌≡◌, sym, ap, ◌∙◌}
use mathlib.Core.Bool.{Bool, true, false}
use mathlib.Core.Logic.{◌≢◌}
use Prim.Native.Nat.{ℕ, zero, suc, ◌<◌, ◌≤◌}
use native.Mathlib.Omega.{arith}
use lib.Dec.{eqb, ltb}
use borrow.Author.Tests.{eqb-true, eqb-false, ltb-true, ltb-false}
use Rattle.laws.proofs.Choice.{pick_true, pick_false, by_cases}
use Rattle.contract_laws.proofs.Inversions.{by_test}
use Rattle.groups.specs.Groups.{begins, firsts_below}

module _ (is : ℕ → Bool) (first : ℕ → ℕ) where
  abbrev starts : ℕ → Bool
  starts = begins is first

  abbrev below : ℕ → ℕ
  below = firsts_below is first

  below_step : (n : ℕ) → below n ≤ below (suc n)
  unfolding firsts_below
  below_step n = by_cases (λ (m : ℕ). below n ≤ m) (starts n) (suc (below n)) (below n) (λ _. omega arith) (λ _. omega arith)

  pub below_more : (m n : ℕ) → m ≤ n → below m ≤ below n
  below_more m zero h = let z : m ≡ 0 = omega arith in let q : below m ≡ below 0 = ap below z in omega arith
  below_more m (suc n) h =
      by_test (eqb m (suc n)) (λ e. let q : below m ≡ below (suc n) = ap below (eqb-true _ _ e) in omega arith)
      (λ e. let ne : m ≢ suc n = eqb-false _ _ e in let a : below m ≤ below n = below_more m n (omega arith) in let b : below n ≤ below (suc n) = below_step n in omega arith)

  pub below_first : (n : ℕ) → starts n ≡ true → below (suc n) ≡ suc (below n)
  unfolding firsts_below
  below_first n e = pick_true (starts n) (suc (below n)) (below n) e

  pub below_other : (n : ℕ) → starts n ≡ false → below (suc n) ≡ below n
  unfolding firsts_below
  below_other n e = pick_false (starts n) (suc (below n)) (below n) e

  pub below_few : (n : ℕ) → below n ≤ n
  unfolding firsts_below
  below_few zero = omega arith
  below_few (suc n) =
      let r : below n ≤ n = below_few n in
      by_cases (λ (m : ℕ). m ≤ suc n) (starts n) (suc (below n)) (below n) (λ _. omega arith) (λ _. omega arith)

  -- the numbers of first names rise with them
  pub rises : (m n : ℕ) → starts n ≡ true → m < n → below (suc m) < below (suc n)
  rises m n e h = let a : below (suc m) ≤ below n = below_more (suc m) n (omega arith) in let b : below (suc n) ≡ suc (below n) = below_first n e in omega arith

  pub one_first : (m n : ℕ) → starts m ≡ true → starts n ≡ true → below (suc m) ≡ below (suc n) → m ≡ n
  one_first m n d e q =
      by_test (ltb m n) (λ t. let r : below (suc m) < below (suc n) = rises m n e (ltb-true m n t) in absurd (omega arith))
      (λ t. by_test (ltb n m) (λ u. let r : below (suc n) < below (suc m) = rises n m d (ltb-true n m u) in absurd (omega arith))
      (λ u. let a : n ≤ m = ltb-false m n t in let b : m ≤ n = ltb-false n m u in omega arith))

  -- a first name below n with a number
  pub record Numbered (n g : ℕ) : Type 0 where
    pub name : ℕ
    pub few : name < n
    pub is_first : starts name ≡ true
    pub number : below (suc name) ≡ g

  pub each_numbered : (n g : ℕ) → 1 ≤ g → g ≤ below n → Numbered n g
  unfolding firsts_below
  each_numbered zero g a b = absurd (omega arith)
  each_numbered (suc n) g a b = by_test (starts n) (yes (each_numbered n g a)) (no (each_numbered n g a))
    where
      wider : Numbered n g → Numbered (suc n) g
      wider r = record { name = r.name; few = (let q : r.name < n = r.few in omega arith); is_first = r.is_first; number = r.number }

      yes : (g ≤ below n → Numbered n g) → starts n ≡ true → Numbered (suc n) g
      yes r e =
          let s : below (suc n) ≡ suc (below n) = below_first n e in
          by_test (eqb g (suc (below n))) (λ q. record { name = n; few = omega arith; is_first = e; number = s ∙ sym (eqb-true _ _ q) })
          (λ q. let ne : g ≢ suc (below n) = eqb-false _ _ q in wider (r (omega arith)))

      no : (g ≤ below n → Numbered n g) → starts n ≡ false → Numbered (suc n) g
      no r e =
          let s : below (suc n) ≡ below n = below_other n e in
          wider (r (omega arith))
