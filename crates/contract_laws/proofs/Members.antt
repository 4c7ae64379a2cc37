-- Rows that the check accepts hold right words: lists made by `each_from`, and words taken out of a table. Assumes nothing.
use mathlib.Core.Path.{◌≡◌, refl, sym, ap, ◌∙◌}
use mathlib.Core.Bool.{Bool, true}
use mathlib.Core.List.{List, [], ◌∷◌}
use Prim.Native.Nat.{ℕ, zero, suc, ◌+◌, ◌-◌, ◌<◌, ◌≤◌}
use native.Mathlib.Omega.{arith}
use native.Mathlib.Nat.{zero-add}
use lib.ListN.{length, get_or, take, drop, length-take, get_or-eq_default}
use lib.Seq.{drop-cons, get_or-take, get_or-drop}
use lib.Dec.{leb, ltb}
use borrow.Author.Tests.{ltb-true, ltb-false, lt-ltb, le-leb, leb-true}
use Rattle.laws.specs.Choice.{pick}
use Rattle.laws.proofs.Choice.{true_false}
use Rattle.tokens.specs.Classes.{within, is_letter, is_name_byte, is_string_byte}
use Rattle.contract.specs.Limits.{max_name, max_string}
use Rattle.contract.specs.Fits.{total, is_name, is_string}
use Rattle.laws.proofs.Truths.{link, both_left, both_right, both_true}
use Rattle.laws.specs.Lists.{every, all_below}
use Rattle.contract.specs.Table.{word_at}
use Rattle.contract.specs.Decode.{each_from, word_of}
use Rattle.contract.specs.Check.{ranges, name_ok, string_ok}
use Rattle.contract_laws.proofs.Inversions.{by_test, ranges_of}
use Rattle.laws.proofs.Members.{below_at}

-- ---- f i, f (i + 1), ..

module _ {A : Type 0} where
  pub length_each : (i n : ℕ) (f : ℕ → A) → length (each_from i n f) ≡ n
  unfolding each_from
  length_each i zero f = refl
  length_each i (suc n) f = ap suc (length_each (suc i) n f)

  pub get_or_each : (i n : ℕ) (f : ℕ → A) (j : ℕ) (d : A) → j < n → get_or (each_from i n f) j d ≡ f (i + j)
  unfolding each_from
  get_or_each i zero f j d h = absurd (omega arith)
  get_or_each i (suc n) f zero d h = let e : i ≡ i + 0 = omega arith in ap f e
  get_or_each i (suc n) f (suc j) d h = let e : suc i + j ≡ i + suc j = omega arith in get_or_each (suc i) n f j d (omega arith) ∙ ap f e

  pub every_each : (p : A → Bool) (i n : ℕ) (f : ℕ → A) → ((j : ℕ) → j < n → p (f (i + j)) ≡ true) → every p (each_from i n f) ≡ true
  unfolding each_from every
  every_each p i zero f h = refl
  every_each p i (suc n) f h =
      let e : i ≡ i + 0 = omega arith in
      both_true _ _ (ap (λ (k : ℕ). p (f k)) e ∙ h 0 (omega arith))
      (every_each p (suc i) n f λ j l.
      let q : suc i + j ≡ i + suc j = omega arith in
      ap (λ (k : ℕ). p (f k)) q ∙ h (suc j) (omega arith))

  pub every_row : (p : A → Bool) (n : ℕ) (f : ℕ → A) → ((j : ℕ) → j < n → p (f j) ≡ true) → every p (each_from 0 n f) ≡ true
  every_row p n f h = every_each p 0 n f λ j l. ap (λ (k : ℕ). p (f k)) (zero-add j) ∙ h j l

  -- a total by its running sums
  pub total_each : (g : A → ℕ) (i n : ℕ) (f : ℕ → A) (r : ℕ → ℕ) → ((j : ℕ) → j < n → r (suc j) ≡ r j + g (f (i + j))) → r 0 + total g (each_from i n f) ≡ r n
  unfolding each_from total
  total_each g i zero f r h = omega arith
  total_each g i (suc n) f r h =
      let e : i + 0 ≡ i = omega arith in
      let a : r 1 ≡ r 0 + g (f i) = h 0 (omega arith) ∙ ap (λ (k : ℕ). r 0 + g (f k)) e in
      let b : r 1 + total g (each_from (suc i) n f) ≡ r (suc n) =
      total_each g (suc i) n f (λ j. r (suc j)) λ j l.
      let q : i + suc j ≡ suc i + j = omega arith in
      h (suc j) (omega arith) ∙ ap (λ (k : ℕ). r (suc j) + g (f k)) q in
      omega arith

  pub total_row : (g : A → ℕ) (n : ℕ) (f : ℕ → A) (r : ℕ → ℕ) → ((j : ℕ) → j < n → r (suc j) ≡ r j + g (f j)) → r 0 + total g (each_from 0 n f) ≡ r n
  total_row g n f r h = total_each g 0 n f r λ j l. h j l ∙ ap (λ (k : ℕ). r j + g (f k)) (sym (zero-add j))

-- ---- words taken out of a table

every_get_or : (p : ℕ → Bool) (l : List ℕ) → ((j : ℕ) → j < length l → p (get_or l j 0) ≡ true) → every p l ≡ true
unfolding every
every_get_or p [] h = refl
every_get_or p (x ∷ l) h = both_true _ _ (h 0 (omega arith)) (every_get_or p l λ j i. h (suc j) (omega arith))

pub taken_few : (n o : ℕ) (w : List ℕ) → length (take n (drop o w)) ≤ n
taken_few n o w = simp length-take (omega arith)

pub every_taken : (p : ℕ → Bool) (n o : ℕ) (w : List ℕ) → ((j : ℕ) → j < n → p (word_at w (o + j)) ≡ true) → every p (take n (drop o w)) ≡ true
every_taken p n o w h =
    every_get_or p (take n (drop o w)) λ j l.
    let i : j < n = omega (arith, taken_few n o w) in
    ap p (get_or-take n (drop o w) j 0 i ∙ get_or-drop o w j 0) ∙ h j i

-- ---- names and strings

letter_some : (w : List ℕ) (k : ℕ) → is_letter (word_at w k) ≡ true → k < length w
unfolding is_letter within pick
letter_some w k e =
    by_test (ltb k (length w)) (ltb-true k (length w)) λ t.
    true_false (sym e ∙ ap is_letter (get_or-eq_default w 0 (ltb-false k (length w) t)))

pub name_in : (w : List ℕ) (o : ℕ) → name_ok w o ≡ true → is_name (word_of w o) ≡ true
unfolding name_ok is_name
name_in w o e =
    let n = word_at w o in
    let t = link (ranges 1 n max_name ∷ is_letter (word_at w (o + 1)) ∷ all_below (n - 1) (λ j. is_name_byte (word_at w (o + 2 + j))) ∷ []) e in
    let r = ranges_of 1 n max_name (t 0) in
    let a : 1 ≤ n = r.0 in
    let b : n ≤ max_name = r.1 in
    let c : n ≡ suc (n - 1) = omega arith in
    let q : word_of w o ≡ word_at w (o + 1) ∷ take (n - 1) (drop (suc (o + 1)) w) =
    λ i. take (c i) (drop-cons w (o + 1) 0 (letter_some w (o + 1) (t 1)) i) in
    ap is_name q
    ∙ both_true _ _ (t 1)
    (both_true _ _
    (every_taken is_name_byte (n - 1) (suc (o + 1)) w λ j h.
    let i : suc (o + 1) + j ≡ o + 2 + j = omega arith in
    ap (λ (k : ℕ). is_name_byte (word_at w k)) i ∙ below_at (λ j. is_name_byte (word_at w (o + 2 + j))) (n - 1) (t 2) j h)
    (lt-ltb (length (take (n - 1) (drop (suc (o + 1)) w))) max_name (omega (arith, taken_few (n - 1) (suc (o + 1)) w))))

pub string_in : (w : List ℕ) (o : ℕ) → string_ok w o ≡ true → is_string (word_of w o) ≡ true
unfolding string_ok is_string
string_in w o e =
    let n = word_at w o in
    let p : ℕ → Bool = λ j. is_string_byte (word_at w (o + 1 + j)) in
    let b : n ≤ max_string = leb-true n max_string (both_left (leb n max_string) (all_below n p) e) in
    both_true _ _
    (every_taken is_string_byte n (o + 1) w (below_at p n (both_right (leb n max_string) (all_below n p) e)))
    (le-leb (length (word_of w o)) max_string (omega (arith, taken_few n (o + 1) w)))
