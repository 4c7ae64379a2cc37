-- A test of every member of a list, turn by turn. Assumes nothing.
use mathlib.Core.Path.{◌≡◌, ap, ◌∙◌}
use mathlib.Core.Bool.{Bool, true, false, ◌&&◌}
use mathlib.Core.List.{List}
use Prim.Native.Nat.{ℕ, ◌+◌, ◌<◌, ◌≤◌}
use native.Mathlib.Numerals.{add-one}
use lib.ListN.{length, get_or, drop, drop_of_length-le}
use lib.Seq.{drop-cons}
use Rattle.laws.specs.Lists.{every}

module _ {A : Type 0} (p : A → Bool) (l : List A) (i : ℕ) (d : A) where
  first : i < length l → every p (drop i l) ≡ (p (get_or l i d) && every p (drop (i + 1) l))
  unfolding every
  first h = rw (add-one) (ap (every p) (drop-cons l i d h))

  pub every_more : i < length l → p (get_or l i d) ≡ true → every p (drop i l) ≡ every p (drop (i + 1) l)
  every_more h e = first h ∙ rw e

  pub every_not : i < length l → p (get_or l i d) ≡ false → every p (drop i l) ≡ false
  every_not h e = first h ∙ rw e

  pub every_done : length l ≤ i → every p (drop i l) ≡ true
  unfolding every
  every_done h = ap (every p) (drop_of_length-le l h)
