-- The group of a name past the last one. Assumes nothing.
use mathlib.Core.Path.{◌≡◌, refl, sym, ap, ◌∙◌}
use mathlib.Core.Bool.{Bool, true, false}
use mathlib.Core.List.{List}
use Prim.Native.Nat.{ℕ, ◌<◌, ◌≤◌, min}
use native.Mathlib.Omega.{arith}
use lib.ListN.{length, get_or, get_or-eq_default}
use lib.Dec.{leb}
use borrow.Author.Tests.{leb-true, leb-false}

-- no list is so long that the greatest place is in it
pub past_names : (l : List ℕ) (i : ℕ) → length l ≤ 18446744073709551615 → get_or l (min i 18446744073709551615) 0 ≡ get_or l i 0
past_names l i h = go (leb i 18446744073709551615) refl
  where
    go : (b : Bool) → leb i 18446744073709551615 ≡ b → get_or l (min i 18446744073709551615) 0 ≡ get_or l i 0
    go true e = let k : i ≤ 18446744073709551615 = leb-true _ _ e in ap (λ (j : ℕ). get_or l j 0) (omega arith)
    go false e =
        let k : 18446744073709551615 < i = leb-false _ _ e in
        get_or-eq_default l 0 (omega arith) ∙ sym (get_or-eq_default l 0 (omega arith))
