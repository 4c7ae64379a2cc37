-- Lists of zeros. Assumes nothing.
use mathlib.Core.Path.{◌≡◌, refl, ap, ◌∙◌}
use mathlib.Core.List.{List, ◌∷◌, ◌++◌}
use Prim.Native.Nat.{ℕ, zero, suc, ◌+◌}
use native.Mathlib.Nat.{zero-add, suc-add}
use lib.ListN.{length}
use Rattle.contract.specs.Encode.{zeros}

pub length_zeros : (n : ℕ) → length (zeros n) ≡ n
unfolding zeros
length_zeros zero = refl
length_zeros (suc n) = ap suc (length_zeros n)

pub zeros_more : (n m : ℕ) → zeros (n + m) ≡ zeros n ++ zeros m
unfolding zeros
zeros_more zero m = ap zeros (zero-add m)
zeros_more (suc n) m = ap zeros (suc-add n m) ∙ ap (λ (r : List ℕ). 0 ∷ r) (zeros_more n m)
