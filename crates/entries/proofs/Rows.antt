-- Words stored one after the other. Assumes nothing.
use mathlib.Core.Path.{◌≡◌, refl, sym, ap, ◌∙◌}
use mathlib.Core.List.{List, ◌∷◌, ◌++◌}
use Prim.Native.Nat.{ℕ, zero, suc, ◌+◌, ◌-◌, ◌≤◌}
use native.Mathlib.Omega.{arith}
use lib.ListN.{length, set, take, drop, drop_of_length-le}
use lib.Seq.{sets, take-length}
use Rattle.std.specs.Prelude.{replicate}
use Rattle.std.proofs.lemmas.Slice.{take-put_mid}
use borrow.Rule.Slice.PartMut.{mid_of, put_mid, mid_len, same_len_mid}
use Rattle.contract.specs.Encode.{zeros}
use Rattle.contract.proofs.Zeros.{length_zeros, zeros_more}
use Rattle.entries.specs.Draft.{rowed}

-- ---- words from o on, of which i are stored
module _ (t w : List ℕ) (o : ℕ) where
  pub stores_end : (i : ℕ) → length w ≤ i → t ≡ sets t (o + i) (drop i w)
  stores_end i h = ap (sets t (o + i)) (sym (drop_of_length-le w h))

-- a word's length before its bytes
pub row_all : (t w : List ℕ) (o : ℕ) (u v : List ℕ) → v ≡ set u o (length w) → t ≡ sets v (o + 1) w → t ≡ rowed u o w
unfolding rowed
row_all t w o u v e f =
    f ∙ ap (λ (v : List ℕ). sets v (o + 1) w) e ∙ ap (λ (k : ℕ). sets (set u o (length w)) k w) (omega arith)

-- ---- a list of zeros
pub zeros_all : (n : ℕ) → replicate n 0 ≡ zeros n
unfolding zeros
zeros_all zero = refl
zeros_all (suc n) = ap (λ (l : List ℕ). 0 ∷ l) (zeros_all n)

-- the part from a up to e, once all before it is zeros
module _ (a e : ℕ) (l ys : List ℕ) (h : a ≤ e) (k : e ≤ length l) (t : take a l ≡ zeros a) (y : ys ≡ replicate (length (mid_of a (e - a) l)) 0) where
  pub clear_part : (n : ℕ) → n ≡ e → take n (put_mid a (e - a) l ys) ≡ zeros n
  clear_part n m =
      let z : ys ≡ zeros (e - a) = y ∙ zeros_all _ ∙ ap zeros (mid_len a e l k) in
      let w : length ys ≡ e - a = ap length z ∙ length_zeros _ in
      take-put_mid a (e - a) l ys n (omega (arith, m, w, h)) (omega (arith, h, k))
      ∙ (λ j. t j ++ z j)
      ∙ sym (zeros_more a (e - a))
      ∙ ap zeros (omega (arith, m, h))

  pub clear_last : (n : ℕ) → n ≡ e → n ≡ length l → put_mid a (e - a) l ys ≡ zeros n
  clear_last n m d =
      let w : length ys ≡ length (mid_of a (e - a) l) = ap length (y ∙ zeros_all _) ∙ length_zeros _ in
      sym (ap (λ (j : ℕ). take j (put_mid a (e - a) l ys)) (d ∙ sym (same_len_mid a (e - a) l ys w)) ∙ take-length (put_mid a (e - a) l ys))
      ∙ clear_part n m
