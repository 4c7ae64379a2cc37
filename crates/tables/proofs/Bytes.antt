-- Names and strings, as the code finds them. Assumes nothing.
use Rattle.std.proofs.Common.{◌≡◌, refl, sym, ap, ◌∙◌, ℕ, zero, suc, ◌+◌, ◌-◌, ◌≤◌, ◌<◌, List, Bool, ◌&&◌, length, take, drop, arith}
use lib.ListN.{get_or, length-drop}
use lib.Seq.{drop-cons, get_or-take, get_or-drop, length-take-le}
use borrow.Author.Tests.{le-leb}
use Rattle.std.specs.List.{list_all}
use Rattle.laws.specs.Lists.{all_below}
use Rattle.laws.proofs.Ranges.{first_others, all_same}
use Rattle.tokens.specs.Classes.{is_letter, is_name_byte, is_string_byte}
use Rattle.contract.specs.Table.{word_at}
use Rattle.contract.specs.Decode.{word_of}
use Rattle.contract.specs.Check.{ranges, name_ok, string_ok}

-- a test of n numbers in a row
all_places : (p : ℕ → Bool) (n i : ℕ) (l : List ℕ) → i + n ≤ length l → list_all p (take n (drop i l)) ≡ all_below n (λ j. p (get_or l (i + j) 0))
unfolding all_below
all_places p zero i l h = refl
all_places p (suc n) i l h =
    let a : i ≡ i + 0 = omega arith in
    let b : (j : ℕ) → suc i + j ≡ i + suc j = λ j. omega arith in
    ap (λ (m : List ℕ). list_all p (take (suc n) m)) (drop-cons l i 0 (omega arith))
    ∙ (λ t. p (get_or l (a t) 0) && (all_places p n (suc i) l (omega arith) ∙ λ s. all_below n (λ j. p (get_or l (b j s) 0))) t)
    ∙ sym (first_others (λ j. p (get_or l (i + j) 0)) n)

pub string_as : (w : List ℕ) (o : ℕ) → o + 65 ≤ length w → word_at w o ≤ 64 → list_all is_string_byte (word_of w o) ≡ string_ok w o
unfolding string_ok
string_as w o h k =
    all_places is_string_byte (word_at w o) (o + 1) w (omega arith)
    ∙ λ t. sym (le-leb (word_at w o) 64 k) t && all_below (word_at w o) (λ j. is_string_byte (word_at w (o + 1 + j)))

module _ (w : List ℕ) (o : ℕ) (h : o + 33 ≤ length w) (k : word_at w o ≤ 32) where
  letters : length (word_of w o) ≡ word_at w o
  letters = length-take-le (word_at w o) (drop (o + 1) w) (omega (arith, length-drop (o + 1) w))

  letter_at : (j : ℕ) → j < word_at w o → get_or (word_of w o) j 0 ≡ word_at w (o + 1 + j)
  letter_at j l = get_or-take (word_at w o) (drop (o + 1) w) j 0 l ∙ get_or-drop (o + 1) w j 0

  pub name_as : 0 < word_at w o → (is_letter (get_or (word_of w o) 0 0) && list_all is_name_byte (take (length (word_of w o) - 1) (drop 1 (word_of w o)))) ≡ name_ok w o
  unfolding name_ok ranges
  name_as l =
      let m : word_at w o - 1 ≡ length (word_of w o) - 1 = omega (arith, letters) in
      let first : get_or (word_of w o) 0 0 ≡ word_at w (o + 1) = letter_at 0 l ∙ (let e : o + 1 + 0 ≡ o + 1 = omega arith in ap (word_at w) e) in
      let place : (j : ℕ) → o + 1 + (1 + j) ≡ o + 2 + j = λ j. omega arith in
      let others : list_all is_name_byte (take (length (word_of w o) - 1) (drop 1 (word_of w o))) ≡ all_below (word_at w o - 1) (λ j. is_name_byte (word_at w (o + 2 + j))) =
      all_places is_name_byte (length (word_of w o) - 1) 1 (word_of w o) (omega (arith, letters))
      ∙ ap (λ (n : ℕ). all_below n (λ j. is_name_byte (get_or (word_of w o) (1 + j) 0))) (sym m)
      ∙ all_same (word_at w o - 1) _ _ (λ j b. ap is_name_byte (letter_at (1 + j) (omega arith) ∙ ap (word_at w) (place j)))
      in
      (λ t. (sym (le-leb 1 (word_at w o) l) t && sym (le-leb (word_at w o) 32 k) t) && (is_letter (first t) && others t))
