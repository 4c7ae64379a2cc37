-- Words that stand in a table from a place on. Assumes nothing.
use mathlib.Core.Path.{◌≡◌, sym, ap, subst, ◌∙◌}
use mathlib.Core.List.{List, [], ◌∷◌, ◌++◌}
use Prim.Native.Nat.{ℕ, ◌+◌, ◌<◌, ◌≤◌}
use native.Mathlib.Omega.{arith}
use native.Mathlib.Nat.{zero-add, add-zero}
use lib.ListN.{length, get_or, take, drop, length-append, length-take, length-drop, get_or-append}
use lib.Seq.{get_or-append-add, get_or-take, get_or-drop, ext_get_or}

-- the words l stand in w from o on
pub record Stands (w : List ℕ) (o : ℕ) (l : List ℕ) : Type 0 where
  pub word : (j : ℕ) → j < length l → get_or w (o + j) 0 ≡ get_or l j 0
  pub ends : o + length l ≤ length w

pub first_part : {w : List ℕ} {o : ℕ} (a b : List ℕ) → Stands w o (a ++ b) → Stands w o a
first_part a b s =
    record {
      word = λ j h. s.word j (simp length-append (omega arith)) ∙ get_or-append a b 0 j h;
      ends = omega (arith, s.ends, length-append a b);
    }

pub second_part : {w : List ℕ} {o : ℕ} (a b : List ℕ) → Stands w o (a ++ b) → Stands w (o + length a) b
second_part {w} {o} a b s =
    record {
      word = λ j h.
          let e : o + length a + j ≡ o + (length a + j) = omega arith in
          ap (λ (i : ℕ). get_or w i 0) e ∙ s.word (length a + j) (simp length-append (omega arith)) ∙ get_or-append-add a b j 0;
      ends = omega (arith, s.ends, length-append a b);
    }

-- the same place by another name
pub moved : {w : List ℕ} {o p : ℕ} {l : List ℕ} → o ≡ p → Stands w o l → Stands w p l
moved {w} {o} {p} {l} e s = subst (λ (i : ℕ). Stands w i l) e s

-- the same words by another name
pub same_words : {w : List ℕ} {o : ℕ} {l m : List ℕ} → l ≡ m → Stands w o l → Stands w o m
same_words {w} {o} e s = subst (λ (x : List ℕ). Stands w o x) e s

-- a list stands in itself
pub whole : (w : List ℕ) → Stands w 0 w
whole w =
    record {
      word = λ j h. ap (λ (i : ℕ). get_or w i 0) (zero-add j);
      ends = omega arith;
    }

-- the first word, and the words after it
pub first_word : {w : List ℕ} {o : ℕ} (x : ℕ) (l : List ℕ) → Stands w o (x ∷ l) → get_or w o 0 ≡ x
first_word {w} {o} x l s = ap (λ (i : ℕ). get_or w i 0) (sym (add-zero o)) ∙ s.word 0 (omega arith)

pub next_words : {w : List ℕ} {o : ℕ} (x : ℕ) (l : List ℕ) → Stands w o (x ∷ l) → Stands w (o + 1) l
next_words x l s = second_part (x ∷ []) l s

-- what stands there, taken out
pub taken : {w : List ℕ} {o : ℕ} (l : List ℕ) → Stands w o l → take (length l) (drop o w) ≡ l
taken {w} {o} l s =
    let n : length (take (length l) (drop o w)) ≡ length l = simp (length-take, length-drop) (omega (arith, s.ends)) in
    ext_get_or 0 (take (length l) (drop o w)) l n λ i h.
    get_or-take (length l) (drop o w) i 0 (omega arith) ∙ get_or-drop o w i 0 ∙ s.word i (omega arith)
