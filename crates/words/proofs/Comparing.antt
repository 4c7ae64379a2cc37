-- A text compared with a word, byte by byte. Assumes nothing.
use Rattle.std.proofs.Common.{◌≡◌, refl, ap, arith, ℕ, ◌+◌, Bool, true, false, List, [], ◌∷◌, length, get_or, drop, eqb, ltb, ◌&&◌}
use Rattle.std.specs.List.{list_all, enumerate_from}
use lib.ListN.{drop_of_length-le}
use borrow.Author.Tests.{ltb-true, ltb-false}
use Rattle.laws.specs.Choice.{pick}
use Rattle.laws.specs.Bytes.{same_bytes, starts_with}
use Rattle.laws.proofs.Lists.{cons_at}

-- whether byte b of a word is the text's, k bytes from p on
abbrev pub stands : List ℕ → ℕ → ℕ × ℕ → Bool
stands s p x = pick (ltb (p + x.0) (length s)) (eqb (get_or s (p + x.0) 0) x.1) false

near : (a b : Bool) → a && b ≡ pick a b false
unfolding pick
near true b = refl
near false b = refl

pub stands_all : (w s : List ℕ) (p j : ℕ) → list_all (stands s p) (enumerate_from j w) ≡ starts_with (drop (p + j) s) w
unfolding starts_with pick
stands_all [] s p j = refl
stands_all (y ∷ w) s p j = go (ltb (p + j) (length s)) refl (stands_all w s p (j + 1))
  where
    go : (b : Bool) → ltb (p + j) (length s) ≡ b → list_all (stands s p) (enumerate_from (j + 1) w) ≡ starts_with (drop (p + (j + 1)) s) w
        → pick b (eqb (get_or s (p + j) 0) y) false && list_all (stands s p) (enumerate_from (j + 1) w) ≡ starts_with (drop (p + j) s) (y ∷ w)
    go true e r =
        let n : p + (j + 1) ≡ p + j + 1 = omega arith in
        rw (cons_at s (p + j) (ltb-true _ _ e), ← n, ← r) (near (eqb (get_or s (p + j) 0) y) _)
    go false e r = rw (drop_of_length-le s (ltb-false _ _ e)) refl

-- of lists of one length, the same is to begin with
pub same_starts : (a b : List ℕ) → length a ≡ length b → same_bytes a b ≡ starts_with a b
unfolding same_bytes starts_with
same_starts [] [] e = refl
same_starts [] (y ∷ ys) e = refl
same_starts (x ∷ xs) [] e = absurd (omega arith)
same_starts (x ∷ xs) (y ∷ ys) e =
    ap (λ (t : Bool). pick (eqb x y) t false) (same_starts xs ys (omega arith))
