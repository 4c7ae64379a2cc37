-- What holds of each element of a list, and the lists of kept elements. Assumes nothing.
use mathlib.Core.Path.{◌≡◌, refl}
use mathlib.Core.Bool.{Bool, true, false}
use mathlib.Core.List.{List, [], ◌∷◌, ◌++◌}
use Prim.Native.Nat.{ℕ, zero, suc, ◌<◌, ◌≤◌}
use native.Mathlib.Omega.{arith}
use lib.ListN.{length, get_or, take, drop, length-append, length-take, length-drop}
use Rattle.laws.specs.Choice.{pick}
use Rattle.laws.specs.Lists.{keep}
use Rattle.state.proofs.Kept.{without}

pub data Each {A : Type 0} (P : A → Type 0) : List A → Type 0 where
  none : Each P []
  more : {x : A} {xs : List A} → P x → Each P xs → Each P (x ∷ xs)

module _ {A : Type 0} {P : A → Type 0} where
  pub each_append : {a b : List A} → Each P a → Each P b → Each P (a ++ b)
  each_append none f = f
  each_append (more p e) f = more p (each_append e f)

  pub each_take : (n : ℕ) {l : List A} → Each P l → Each P (take n l)
  each_take zero e = none
  each_take (suc n) none = none
  each_take (suc n) (more p e) = more p (each_take n e)

  pub each_drop : (n : ℕ) {l : List A} → Each P l → Each P (drop n l)
  each_drop zero e = e
  each_drop (suc n) none = none
  each_drop (suc n) (more p e) = each_drop n e

  pub each_get_or : {l : List A} → Each P l → (i : ℕ) (d : A) → i < length l → P (get_or l i d)
  each_get_or none i d h = absurd (omega arith)
  each_get_or (more p e) zero d h = p
  each_get_or (more p e) (suc i) d h = each_get_or e i d (omega arith)

  pub each_of : (l : List A) (d : A) → ((i : ℕ) → i < length l → P (get_or l i d)) → Each P l
  each_of [] d f = none
  each_of (x ∷ xs) d f = more (f 0 (omega arith)) (each_of xs d (λ i h. f (suc i) (omega arith)))

-- what is kept passed the test
pub each_keep : {A : Type 0} {P Q : A → Type 0} (p : A → Bool) → ((x : A) → P x → p x ≡ true → Q x) → {l : List A} → Each P l → Each Q (keep p l)
unfolding keep pick
each_keep p f none = none
each_keep {A} {P} {Q} p f (more {x} {xs} q e) = go (p x) refl (each_keep p f e)
  where
    go : (t : Bool) → p x ≡ t → Each Q (keep p xs) → Each Q (pick t (x ∷ keep p xs) (keep p xs))
    go true r k = more (f x q r) k
    go false r k = k

pub without_length : {A : Type 0} (i : ℕ) (l : List A) → length (without i l) ≤ length l
without_length i l = simp (length-append, length-take, length-drop) (omega arith)

pub without_count : {A : Type 0} (i : ℕ) (l : List A) → i < length l → suc (length (without i l)) ≡ length l
without_count i l h = simp (length-append, length-take, length-drop) (omega arith)
