-- What each member of a list gives, in a row. Assumes nothing.
use mathlib.Core.Path.{◌≡◌, refl, ap}
use mathlib.Core.List.{List, [], ◌∷◌}
use Prim.Native.Nat.{ℕ, zero, suc, ◌<◌}
use native.Mathlib.Omega.{arith}
use lib.ListN.{length, get_or}
use Rattle.reading.specs.Resolve.{each_of}

pub length_each : {A B : Type 0} (f : A → B) (xs : List A) → length (each_of f xs) ≡ length xs
unfolding each_of
length_each f [] = refl
length_each f (x ∷ xs) = ap suc (length_each f xs)

pub each_at : {A B : Type 0} (f : A → B) (xs : List A) (n : ℕ) (a : A) (b : B) → n < length xs → get_or (each_of f xs) n b ≡ f (get_or xs n a)
unfolding each_of
each_at f [] n a b h = absurd (omega arith)
each_at f (x ∷ xs) zero a b h = refl
each_at f (x ∷ xs) (suc n) a b h = each_at f xs n a b (omega arith)
