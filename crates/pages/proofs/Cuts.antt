-- Lists cut into sixties, and rows of equal length taken from those that stand end to end. Assumes nothing.
use mathlib.Core.Path.{◌≡◌, refl, sym, ap, ◌∙◌}
use mathlib.Core.Bool.{Bool, true}
use mathlib.Core.List.{List, [], ◌∷◌, ◌++◌, append_assoc, append-nil}
use Prim.Native.Nat.{ℕ, zero, suc, ◌+◌, ◌-◌, ◌*◌, ◌<◌, ◌≤◌, min}
use native.Mathlib.Omega.{arith}
use lib.ListN.{length, get_or, take, drop, length-take, length-drop, take-append-drop}
use lib.Seq.{take_at, take_all, take-take, take-add, drop-append-add, get_or-take, get_or-drop}
use Rattle.laws.specs.Lists.{every}
use Rattle.laws.proofs.Members.{every_head, every_tail, every_first, every_second}
use Rattle.contract.specs.Encode.{joined}
use Rattle.pages.specs.Page.{sixty, blank_line, blank_lines}
use Rattle.pages.specs.Promises.{sixties}

-- ---- sixties

module _ {A : Type 0} where
  pub every_sixty : (p : A → Bool) (n : ℕ) (es : List A) → every p es ≡ true → every p (sixty n es) ≡ true
  every_sixty p n es h =
      let rest = drop (60 * n) es in
      let r : every p rest ≡ true = every_second p (take (60 * n) es) rest (ap (every p) (take-append-drop (60 * n) es) ∙ h) in
      every_first p (take 60 rest) (drop 60 rest) (ap (every p) (take-append-drop 60 rest) ∙ r)

  pub sixty_long : (n : ℕ) (es : List A) → length (sixty n es) ≡ min 60 (length es - 60 * n)
  sixty_long n es = length-take 60 (drop (60 * n) es) ∙ ap (min 60) (length-drop (60 * n) es)

  pub sixty_own : (n : ℕ) (es : List A) → sixty 0 (sixty n es) ≡ sixty n es
  sixty_own n es = take-take 60 60 (drop (60 * n) es) (omega arith)

  pub sixty_at : (n : ℕ) (es : List A) (i : ℕ) (d : A) → i < 60 → get_or (sixty n es) i d ≡ get_or es (60 * n + i) d
  sixty_at n es i d h = get_or-take 60 (drop (60 * n) es) i d h ∙ get_or-drop (60 * n) es i d

  pub sixties_first : (k : ℕ) (es : List A) → sixties k es ≡ take (60 * k) es
  unfolding sixties
  sixties_first zero es = refl
  sixties_first (suc k) es =
      let e : 60 * k + 60 ≡ 60 * suc k = omega arith in
      ap (λ (l : List A). l ++ sixty k es) (sixties_first k es) ∙ sym (take-add (60 * k) 60 es) ∙ ap (λ (m : ℕ). take m es) e

  pub sixties_all : (k : ℕ) (es : List A) → length es ≤ 60 * k → sixties k es ≡ es
  sixties_all k es h = sixties_first k es ∙ take_all (60 * k) es h

-- ---- rows

module _ {A : Type 0} (row : A → List ℕ) where
  pub joined_append : (xs ys : List A) → joined row (xs ++ ys) ≡ joined row xs ++ joined row ys
  unfolding joined
  joined_append [] ys = refl
  joined_append (x ∷ xs) ys =
      ap (λ (l : List ℕ). row x ++ l) (joined_append xs ys) ∙ sym (append_assoc (row x) (joined row xs) (joined row ys))

  pub joined_one : (x : A) → joined row (x ∷ []) ≡ row x
  unfolding joined
  joined_one x = append-nil (row x)

  module _ (right : A → Bool) (long : (x : A) → right x ≡ true → length (row x) ≡ 85) where
    -- row i of those that stand end to end
    pub row_at : (es : List A) → every right es ≡ true → (rest : List ℕ) (i : ℕ) (d : A) → i < length es
        → take 85 (drop (85 * i) (joined row es ++ rest)) ≡ row (get_or es i d)
    unfolding joined
    row_at [] h rest i d l = absurd (omega arith)
    row_at (x ∷ es) h rest zero d l =
        ap (take 85) (append_assoc (row x) (joined row es) rest)
        ∙ take_at (row x) (joined row es ++ rest) 85 (long x (every_head right x es h))
    row_at (x ∷ es) h rest (suc i) d l =
        let e : 85 * suc i ≡ length (row x) + 85 * i = omega (arith, long x (every_head right x es h)) in
        ap (take 85)
        ((λ j. drop (e j) (append_assoc (row x) (joined row es) rest j))
        ∙ drop-append-add (row x) (joined row es ++ rest) (85 * i))
        ∙ row_at es (every_tail right x es h) rest i d (omega arith)

-- line i of blank lines
pub blank_at : length blank_line ≡ 85 → (k : ℕ) (rest : List ℕ) (i : ℕ) → i < k → take 85 (drop (85 * i) (blank_lines k ++ rest)) ≡ blank_line
unfolding blank_lines
blank_at b zero rest i l = absurd (omega arith)
blank_at b (suc k) rest zero l =
    ap (take 85) (append_assoc blank_line (blank_lines k) rest) ∙ take_at blank_line (blank_lines k ++ rest) 85 b
blank_at b (suc k) rest (suc i) l =
    let e : 85 * suc i ≡ length blank_line + 85 * i = omega (arith, b) in
    ap (take 85) ((λ j. drop (e j) (append_assoc blank_line (blank_lines k) rest j)) ∙ drop-append-add blank_line (blank_lines k ++ rest) (85 * i))
    ∙ blank_at b k rest i (omega arith)
