-- Runs of stores, and the numbers of fields and parts, one after the other. Assumes nothing.
use mathlib.Core.Path.{◌≡◌, refl, sym, ap, ◌∙◌}
use mathlib.Core.List.{List, [], ◌∷◌, ◌++◌, append_assoc}
use Prim.Native.Nat.{ℕ, suc, ◌+◌, ◌*◌}
use native.Mathlib.Nat.{add-zero}
use native.Mathlib.Omega.{arith}
use lib.ListN.{length, set}
use lib.Seq.{sets}
use lib.IntN.{ℤ}
use Rattle.lines.specs.Lines.{Field, Part}
use Rattle.lines.specs.Answers.{verb_number, fields_of, heads_of, spans_of, values_of}

pub sets_append : {A : Type 0} (l : List A) (i : ℕ) (xs ys : List A) → sets l i (xs ++ ys) ≡ sets (sets l i xs) (i + length xs) ys
sets_append l i [] ys = ap (λ (k : ℕ). sets l k ys) (sym (add-zero i))
sets_append l i (x ∷ xs) ys = sets_append (set l i x) (suc i) xs ys ∙ ap (λ (k : ℕ). sets (sets (set l i x) (suc i) xs) k ys) (omega arith)

pub spans_append : (xs ys : List Field) → spans_of (xs ++ ys) ≡ spans_of xs ++ spans_of ys
unfolding spans_of
spans_append [] ys = refl
spans_append (x ∷ xs) ys = ap (λ (l : List ℕ). x.name.start ∷ x.name.end ∷ l) (spans_append xs ys)

pub values_append : (xs ys : List Field) → values_of (xs ++ ys) ≡ values_of xs ++ values_of ys
unfolding values_of
values_append [] ys = refl
values_append (x ∷ xs) ys = ap (λ (l : List ℤ). x.value ∷ l) (values_append xs ys)

pub heads_append : (xs ys : List Part) → heads_of (xs ++ ys) ≡ heads_of xs ++ heads_of ys
unfolding heads_of
heads_append [] ys = refl
heads_append (x ∷ xs) ys =
    ap (λ (l : List ℕ). x.party.start ∷ x.party.end ∷ verb_number x.verb ∷ length x.fields ∷ l) (heads_append xs ys)

pub fields_append : (xs ys : List Part) → fields_of (xs ++ ys) ≡ fields_of xs ++ fields_of ys
unfolding fields_of
fields_append [] ys = refl
fields_append (x ∷ xs) ys = ap (λ (l : List Field). x.fields ++ l) (fields_append xs ys) ∙ sym (append_assoc x.fields (fields_of xs) (fields_of ys))

pub spans_length : (xs : List Field) → length (spans_of xs) ≡ 2 * length xs
unfolding spans_of
spans_length [] = refl
spans_length (x ∷ xs) = omega (arith, spans_length xs)

pub values_length : (xs : List Field) → length (values_of xs) ≡ length xs
unfolding values_of
values_length [] = refl
values_length (x ∷ xs) = omega (arith, values_length xs)

pub heads_length : (xs : List Part) → length (heads_of xs) ≡ 4 * length xs
unfolding heads_of
heads_length [] = refl
heads_length (x ∷ xs) = omega (arith, heads_length xs)

-- stores after the fields or the parts read before
pub spans_more : (old : List ℕ) (from : ℕ) (xs ys : List Field) → sets old (2 * from) (spans_of (xs ++ ys)) ≡ sets (sets old (2 * from) (spans_of xs)) (2 * (from + length xs)) (spans_of ys)
spans_more old from xs ys =
    ap (sets old (2 * from)) (spans_append xs ys)
    ∙ sets_append old (2 * from) (spans_of xs) (spans_of ys)
    ∙ ap (λ (k : ℕ). sets (sets old (2 * from) (spans_of xs)) k (spans_of ys)) (omega (arith, spans_length xs))

pub values_more : (old : List ℤ) (from : ℕ) (xs ys : List Field) → sets old from (values_of (xs ++ ys)) ≡ sets (sets old from (values_of xs)) (from + length xs) (values_of ys)
values_more old from xs ys =
    ap (sets old from) (values_append xs ys)
    ∙ sets_append old from (values_of xs) (values_of ys)
    ∙ ap (λ (k : ℕ). sets (sets old from (values_of xs)) k (values_of ys)) (omega (arith, values_length xs))

pub heads_more : (old : List ℕ) (xs ys : List Part) → sets old 0 (heads_of (xs ++ ys)) ≡ sets (sets old 0 (heads_of xs)) (4 * length xs) (heads_of ys)
heads_more old xs ys =
    ap (sets old 0) (heads_append xs ys)
    ∙ sets_append old 0 (heads_of xs) (heads_of ys)
    ∙ ap (λ (k : ℕ). sets (sets old 0 (heads_of xs)) k (heads_of ys)) (omega (arith, heads_length xs))

-- the four stores of a part's head
pub four_stores : {A : Type 0} (l : List A) (i : ℕ) {l₁ l₂ l₃ l₄ : List A} (a b c d : A) → l₁ ≡ set l i a → l₂ ≡ set l₁ (i + 1) b → l₃ ≡ set l₂ (i + 2) c → l₄ ≡ set l₃ (i + 3) d → l₄ ≡ sets l i (a ∷ b ∷ c ∷ d ∷ [])
four_stores l i a b c d q₁ q₂ q₃ q₄ =
    let e₁ : i + 1 ≡ suc i = omega arith in
    let e₂ : i + 2 ≡ suc (suc i) = omega arith in
    let e₃ : i + 3 ≡ suc (suc (suc i)) = omega arith in
    q₄
    ∙ ap (λ (t : List _). set t (i + 3) d) (q₃ ∙ ap (λ (t : List _). set t (i + 2) c) (q₂ ∙ ap (λ (t : List _). set t (i + 1) b) q₁))
    ∙ (λ j. set (set (set (set l i a) (e₁ j) b) (e₂ j) c) (e₃ j) d)
