-- What a text without a finding keeps: each item is judged fine after those before it. Assumes nothing.
use mathlib.Core.Path.{◌≡◌, refl}
use mathlib.Core.Bool.{Bool, true, false, ◌&&◌, ◌||◌}
use mathlib.Core.List.{List, [], ◌∷◌, ◌++◌}
use Prim.Native.Nat.{ℕ}
use native.Mathlib.Omega.{arith}
use lib.Dec.{eqb, leb, ltb}
use Rattle.laws.specs.Choice.{pick}
use Rattle.laws.proofs.Choice.{by_cases}
use Rattle.reading.specs.Items.{Item}
use Rattle.reading.specs.Rules.{Finding, fine, breaks, lesser, or_breaks, judge, judged}
use Rattle.reading.specs.Resolve.{latest_first}

-- ---- findings

pub breaks_fine : {X : Type 0} (q p : ℕ) → breaks q p ≡ fine → X
breaks_fine q p e = let z : ◌≡◌ {A = ℕ} 0 1 = cc in absurd (omega arith)

pub lesser_left : (f g : Finding) → lesser f g ≡ fine → f ≡ fine
lesser_left fine g e = refl
lesser_left (breaks q p) fine e = e
lesser_left (breaks q p) (breaks r o) e = by_cases (λ x. x ≡ fine → breaks q p ≡ fine) (ltb p o || (eqb p o && leb q r)) (breaks q p) (breaks r o) (λ _ h. h) (λ _ h. breaks_fine r o h) e

pub lesser_right : (f g : Finding) → lesser f g ≡ fine → g ≡ fine
lesser_right fine g e = e
lesser_right (breaks q p) fine e = refl
lesser_right (breaks q p) (breaks r o) e = by_cases (λ x. x ≡ fine → breaks r o ≡ fine) (ltb p o || (eqb p o && leb q r)) (breaks q p) (breaks r o) (λ _ h. breaks_fine q p h) (λ _ h. h) e

pub test_holds : (b : Bool) (q p : ℕ) → or_breaks b q p ≡ fine → b ≡ true
unfolding pick
test_holds true q p e = refl
test_holds false q p e = breaks_fine q p e

-- ---- items after others

pub latest_append : (b xs ys : List Item) → latest_first b (xs ++ ys) ≡ latest_first (latest_first b xs) ys
unfolding latest_first
latest_append b [] ys = refl
latest_append b (x ∷ xs) ys = latest_append (x ∷ b) xs ys

module _ (s : List ℕ) where
  -- each item keeps the questions after those before it
  abbrev pub Clean : List Item → List Item → Type 0
  Clean b [] = Unit {0}
  Clean b (i ∷ is) = (judge s b i ≡ fine) × Clean (i ∷ b) is

  pub judged_clean : (b : List Item) (f : Finding) (is : List Item) → judged s b f is ≡ fine → (f ≡ fine) × Clean b is
  unfolding judged
  judged_clean b f [] e = (e, tt)
  judged_clean b f (i ∷ is) e =
      let r = judged_clean (i ∷ b) (lesser f (judge s b i)) is e in
      (lesser_left f (judge s b i) r.0, (lesser_right f (judge s b i) r.0, r.1))

  pub clean_first : (b xs ys : List Item) → Clean b (xs ++ ys) → Clean b xs
  clean_first b [] ys c = tt
  clean_first b (x ∷ xs) ys c = (c.0, clean_first (x ∷ b) xs ys c.1)

  pub clean_second : (b xs ys : List Item) → Clean b (xs ++ ys) → Clean (latest_first b xs) ys
  unfolding latest_first
  clean_second b [] ys c = c
  clean_second b (x ∷ xs) ys c = clean_second (x ∷ b) xs ys c.1
