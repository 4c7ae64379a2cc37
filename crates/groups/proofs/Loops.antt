-- Turns of loops. Assumes nothing.
use mathlib.Core.Path.{◌≡◌, refl, sym, ap, ◌∙◌}
use mathlib.Core.Bool.{Bool, true, false}
use mathlib.Core.List.{List, [], ◌∷◌, ◌++◌, map}
use mathlib.Core.Logic.{◌≢◌}
use Prim.Native.Nat.{ℕ, ◌+◌, ◌<◌, ◌≤◌, min, max}
use native.Mathlib.Omega.{arith}
use lib.ListN.{length, get_or, set, take, drop, length-set, length-append, length-map, length-take, length-drop}
use lib.Seq.{set-get_or}
use lib.Dec.{eqb, leb}
use borrow.Author.Tests.{eq-eqb, ne_eqb, eqb-true, eqb-false, leb-true, leb-false}
use Rattle.std.proofs.lemmas.List.{get_or_default, get_or_past, get_or-set_same, get_or-set_other, ext_get_or}
use Rattle.std.proofs.lemmas.List.Edits.{map_over_more}
use Rattle.laws.specs.Choice.{pick}
use Rattle.laws.proofs.Choice.{pick_true, pick_false, by_cases}
use Rattle.contract.specs.Decode.{each_from}
use Rattle.contract_laws.proofs.Members.{length_each, get_or_each}
use Rattle.contract_laws.proofs.Inversions.{by_test}
use Rattle.groups.specs.Groups.{max_names, merged}

-- ---- a number in place of another

module _ (xs ys : List ℕ) (i from to : ℕ) where
  abbrev f : ℕ → ℕ
  f x = pick (eqb x from) to x

  module _ (h : i < length xs) (inv : ys ≡ map f (take i xs) ++ drop i xs) where
    here : i < length ys
    here = omega (arith, ap length inv, length-append (map f (take i xs)) (drop i xs), length-map (take i xs) f, length-take i xs, length-drop i xs)

    turn : set ys i (f (get_or ys i 0)) ≡ map f (take (i + 1) xs) ++ drop (i + 1) xs
    turn = map_over_more f xs ys i (get_or ys i 0) h inv (get_or_default ys i 0 (get_or ys i 0) here)

    pub turn_changed : get_or ys i 0 ≡ from → set ys i to ≡ map f (take (i + 1) xs) ++ drop (i + 1) xs
    turn_changed e = ap (λ (x : ℕ). set ys i x) (sym (pick_true _ _ _ (eq-eqb _ _ e))) ∙ turn

    pub turn_left : get_or ys i 0 ≢ from → ys ≡ map f (take (i + 1) xs) ++ drop (i + 1) xs
    turn_left e = sym (set-get_or ys i 0) ∙ ap (λ (x : ℕ). set ys i x) (sym (pick_false _ _ _ (ne_eqb _ _ e))) ∙ turn

-- ---- groups that are one already

merged_one : (l : List ℕ) (a b : ℕ) → a ≡ b → map (λ x. pick (eqb x (max a b)) (min a b) x) l ≡ l
merged_one [] a b e = refl
merged_one (x ∷ l) a b e =
    let p : max a b ≡ a = omega arith in
    let q : min a b ≡ a = omega arith in
    (λ i. by_cases (λ (z : ℕ). z ≡ x) (eqb x (max a b)) (min a b) x (λ t. q ∙ sym p ∙ sym (eqb-true _ _ t)) (λ _. refl) i ∷ merged_one l a b e i)

pub merged_alike : (l : List ℕ) (a b : ℕ) → a ≡ b → l ≡ merged l a b
unfolding merged
merged_alike l a b e = sym (merged_one l a b e)

-- a place past the end
pub at_most : (l : List ℕ) (n : ℕ) → length l ≡ max_names → get_or l (min n max_names) 0 ≡ get_or l n 0
at_most l n e = go (leb n max_names) refl
  where
    go : (b : Bool) → leb n max_names ≡ b → get_or l (min n max_names) 0 ≡ get_or l n 0
    go true t = let h : n ≤ max_names = leb-true _ _ t in let q : min n max_names ≡ n = omega arith in ap (λ (k : ℕ). get_or l k 0) q
    go false t = let h : max_names < n = leb-false _ _ t in get_or_past l (min n max_names) 0 (omega arith) ∙ sym (get_or_past l n 0 (omega arith))

-- ---- a list filled from its start

module _ (n : ℕ) (g : ℕ → ℕ) where
  -- the first i of its places have what they should
  pub record Filled (xs : List ℕ) (i : ℕ) : Type 0 where
    pub many : length xs ≡ n
    pub same : (j : ℕ) → j < i → get_or xs j 0 ≡ g j

  pub filled_none : (xs : List ℕ) → length xs ≡ n → Filled xs 0
  filled_none xs l = record { many = l; same = λ j h. absurd (omega arith) }

  pub filled_more : (xs : List ℕ) (i x : ℕ) → i < n → x ≡ g i → Filled xs i → Filled (set xs i x) (i + 1)
  filled_more xs i x h e f =
      let m : length xs ≡ n = f.many in
      record {
        many = length-set xs i x ∙ m;
        same = λ j l.
            by_test (eqb j i)
            (λ t. let q : j ≡ i = eqb-true _ _ t in ap (λ (k : ℕ). get_or (set xs i x) k 0) q ∙ get_or-set_same xs i x 0 (omega arith) ∙ e ∙ ap g (sym q))
            (λ t. let ne : j ≢ i = eqb-false _ _ t in get_or-set_other xs i j x 0 ne ∙ f.same j (omega arith));
      }

  pub filled_all : (xs : List ℕ) (i : ℕ) → n ≤ i → Filled xs i → xs ≡ each_from 0 n g
  filled_all xs i h f =
      let m : length xs ≡ n = f.many in
      ext_get_or 0 xs (each_from 0 n g) (m ∙ sym (length_each 0 n g))
      (λ j k. let z : 0 + j ≡ j = omega arith in f.same j (omega arith) ∙ sym (get_or_each 0 n g j 0 (omega arith) ∙ ap g z))
