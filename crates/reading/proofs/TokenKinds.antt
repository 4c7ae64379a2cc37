-- Tests of a token's kind against some kinds. Assumes nothing.
use mathlib.Core.Path.{◌≡◌, refl, sym, subst, ◌∙◌}
use mathlib.Core.Bool.{Bool, true, false, not}
use mathlib.Core.List.{List, [], ◌∷◌}
use Prim.Native.Nat.{ℕ}
use lib.Dec.{eqb}
use borrow.Author.Tests.{eqb-true, eq-eqb}
use Rattle.laws.specs.Choice.{pick}
use Rattle.laws.specs.Lists.{every}
use Rattle.laws.proofs.Choice.{true_false, pick_true, pick_false}
use Rattle.laws.proofs.Truths.{both_left, both_right, not_true}
use Rattle.reading.specs.Grammar.{is_one_of}

-- each of a list
abbrev pub Each : {A : Type 0} → (A → Type 0) → List A → Type 0
Each P [] = Unit {0}
Each P (x ∷ xs) = P x × Each P xs

-- what holds of each of these kinds holds of one of them
pub one_of : (P : ℕ → Type 0) (ks : List ℕ) (k : ℕ) → Each P ks → is_one_of ks k ≡ true → P k
unfolding is_one_of
one_of P [] k e o = true_false (sym o)
one_of P (j ∷ ks) k e o = go (eqb k j) refl o (one_of P ks k e.1)
  where
    go : (t : Bool) → eqb k j ≡ t → pick t true (is_one_of ks k) ≡ true → (is_one_of ks k ≡ true → P k) → P k
    go true q h r = subst P (sym (eqb-true k j q)) e.0
    go false q h r = r (sym (pick_false false true (is_one_of ks k) refl) ∙ h)

each_of : (P : ℕ → Type 0) (t : ℕ → Bool) → ((k : ℕ) → t k ≡ true → P k) → (ks : List ℕ) → every t ks ≡ true → Each P ks
unfolding every
each_of P t f [] e = tt
each_of P t f (k ∷ ks) e = (f k (both_left (t k) (every t ks) e), each_of P t f ks (both_right (t k) (every t ks) e))

-- no kind is in both lists
abbrev pub apart : List ℕ → List ℕ → Bool
apart ks js = every (λ j. not (is_one_of ks j)) js

pub other : (ks js : List ℕ) (k : ℕ) → apart ks js ≡ true → is_one_of js k ≡ true → is_one_of ks k ≡ false
other ks js k a o = one_of (λ j. is_one_of ks j ≡ false) js k (each_of (λ j. is_one_of ks j ≡ false) (λ j. not (is_one_of ks j)) (λ j e. not_true (is_one_of ks j) e) js a) o

-- a kind of some is one of more
pub wider : (ks js : List ℕ) (k : ℕ) → every (is_one_of ks) js ≡ true → is_one_of js k ≡ true → is_one_of ks k ≡ true
wider ks js k a o = one_of (λ j. is_one_of ks j ≡ true) js k (each_of (λ j. is_one_of ks j ≡ true) (is_one_of ks) (λ j e. e) js a) o

-- one kind alone
pub is_kind : (j k : ℕ) → eqb k j ≡ true → is_one_of (j ∷ []) k ≡ true
unfolding is_one_of
is_kind j k e = pick_true _ _ _ e

pub kind_is : (j k : ℕ) → is_one_of (j ∷ []) k ≡ true → k ≡ j
kind_is j k o = one_of (λ i. i ≡ j) (j ∷ []) k (refl, tt) o

pub kind_test : (j k : ℕ) → is_one_of (j ∷ []) k ≡ true → eqb k j ≡ true
kind_test j k o = eq-eqb k j (kind_is j k o)

pub kind_not : (i : ℕ) (ks : List ℕ) (k : ℕ) → every (λ j. not (eqb j i)) ks ≡ true → is_one_of ks k ≡ true → eqb k i ≡ false
kind_not i ks k a o = one_of (λ j. eqb j i ≡ false) ks k (each_of (λ j. eqb j i ≡ false) (λ j. not (eqb j i)) (λ j e. not_true (eqb j i) e) ks a) o

pub one_fewer : (j : ℕ) (ks : List ℕ) (k : ℕ) → eqb k j ≡ false → is_one_of (j ∷ ks) k ≡ true → is_one_of ks k ≡ true
unfolding is_one_of
one_fewer j ks k e o = sym (pick_false _ _ _ e) ∙ o
