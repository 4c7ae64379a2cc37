-- Bytes packed into words, and the rows of parameters. Assumes nothing.
use mathlib.Core.Path.{◌≡◌, refl, sym, ap, ◌∙◌}
use mathlib.Core.List.{List, [], ◌∷◌}
use Prim.Native.Nat.{ℕ, zero, suc, ◌+◌, ◌*◌}
use native.Mathlib.Omega.{arith}
use native.Mathlib.Nat.{add-zero}
use lib.ListN.{length, get_or, take, drop}
use lib.Seq.{sets, get_or-drop, drop-drop}
use Rattle.std.specs.Int.{from_le_bytes, w64}
use Rattle.contract.specs.Encode.{packed, packs, packed_row}

-- ---- bytes

-- so many bytes of a word from byte i on, as one number
abbrev run : List ℕ → ℕ → ℕ → ℕ
run w n i = packed (take n (drop i w))

none_taken : (n : ℕ) → packed (take n []) ≡ 0
unfolding packed
none_taken zero = refl
none_taken (suc n) = refl

first_taken : (n : ℕ) (l : List ℕ) → packed (take (suc n) l) ≡ get_or l 0 0 + packed (take n (drop 1 l)) * 256
unfolding packed
first_taken n [] = let z = none_taken n in omega arith
first_taken n (x ∷ l) = refl

no_run : (w : List ℕ) (i : ℕ) → run w 0 i ≡ 0
unfolding packed
no_run w i = refl

-- the first byte, then the others
pub run_more : (w : List ℕ) (n i : ℕ) → run w (suc n) i ≡ get_or w i 0 + run w n (i + 1) * 256
run_more w n i =
    first_taken n (drop i w)
    ∙ (λ x. (get_or-drop i w 0 0 ∙ ap (λ (k : ℕ). get_or w k 0) (add-zero i)) x + packed (take n (drop-drop 1 i w x)) * 256)

-- eight bytes from i on, the first lowest, as the library makes a number of them
pub eight_packed : (w : List ℕ) (i a b d e f g h k : ℕ) → a ≡ get_or w (i + 0) 0 → b ≡ get_or w (i + 1) 0 → d ≡ get_or w (i + 2) 0
    → e ≡ get_or w (i + 3) 0 → f ≡ get_or w (i + 4) 0 → g ≡ get_or w (i + 5) 0 → h ≡ get_or w (i + 6) 0 → k ≡ get_or w (i + 7) 0
    → from_le_bytes w64 (a ∷ b ∷ d ∷ e ∷ f ∷ g ∷ h ∷ k ∷ []) ≡ run w 8 i
eight_packed w i a b d e f g h k pa pb pd pe pf pg ph pk =
    omega (arith, more 7 0, more 6 1, more 5 2, more 4 3, more 3 4, more 2 5, more 1 6, more 0 7, no_run w (i + 7 + 1), ap (run w 8) (add-zero i))
  where
    more : (n j : ℕ) → run w (suc n) (i + j) ≡ get_or w (i + j) 0 + run w n (i + (j + 1)) * 256
    more n j = run_more w n (i + j) ∙ ap (λ (k : ℕ). get_or w (i + j) 0 + run w n k * 256) (omega arith)

-- ---- a packed row

row_words : (w : List ℕ) → packed_row w ≡ length w ∷ run w 8 0 ∷ run w 8 8 ∷ run w 8 16 ∷ run w 8 24 ∷ []
unfolding packed_row packs
row_words w =
    let a : drop 8 (drop 8 w) ≡ drop 16 w = drop-drop 8 8 w in
    let b : drop 8 (drop 16 w) ≡ drop 24 w = drop-drop 8 16 w in
    λ x. length w ∷ run w 8 0 ∷ run w 8 8 ∷ packed (take 8 (a x)) ∷ packed (take 8 ((ap (drop 8) a ∙ b) x)) ∷ []

pub packed_written : (t t₁ w : List ℕ) (o a b d e : ℕ) → a ≡ run w 8 0 → b ≡ run w 8 8 → d ≡ run w 8 16 → e ≡ run w 8 24
    → t₁ ≡ sets t o (length w ∷ a ∷ b ∷ d ∷ e ∷ []) → t₁ ≡ sets t o (packed_row w)
packed_written t t₁ w o a b d e f g h i u =
    u ∙ (λ j. sets t o (length w ∷ f j ∷ g j ∷ h j ∷ i j ∷ [])) ∙ ap (sets t o) (sym (row_words w))
