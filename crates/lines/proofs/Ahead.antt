-- A parser that is done stands further on in the line, and within it. Assumes nothing.
use mathlib.Core.Path.{◌≡◌, refl, sym, ap, ◌∙◌}
use mathlib.Core.Bool.{Bool, true, false}
use mathlib.Core.List.{List, [], ◌∷◌}
use Prim.Native.Nat.{ℕ, ◌+◌, ◌<◌, ◌≤◌}
use native.Mathlib.Omega.{arith}
use lib.ListN.{length, get_or, drop, length-drop, get_or-eq_default}
use lib.Dec.{ltb, eqb}
use lib.IntN.{ℤ, pos, neg_ℤ}
use borrow.Author.Tests.{ltb-true, ltb-false}
use Rattle.laws.specs.Choice.{pick}
use Rattle.laws.specs.Bytes.{bytes, starts_with}
use Rattle.laws.proofs.Choice.{true_false, pick_true, pick_false}
use Rattle.numbers.specs.Numbers.{within}
use Rattle.tokens.specs.Classes.{within as in_range, is_letter, is_digit, is_name_byte, run, decimal}
use Rattle.tokens.proofs.Laws.{run_go, run_within}
use Rattle.lines.specs.Lines.{Span, Field, Parsed, done, no, and_then, give, skipped, is_next, mark, name_from, name, digits, integer, field}

pub record Ahead (s : List ℕ) (at n : ℕ) : Type 0 where
  pub more : at < n
  pub inside : n ≤ length s

pub taken : {A : Type 0} {a : A} {n : ℕ} (b : Bool) (p : Parsed A) → pick b p no ≡ done a n → (b ≡ true) × (p ≡ done a n)
unfolding pick
taken true p e = (refl, e)
taken false p e = let z : ◌≡◌ {A = ℕ} 0 1 = cc in absurd (omega arith)

-- a byte of a class to which 0 does not belong stands within the line
pub stands : (p : ℕ → Bool) (s : List ℕ) (i : ℕ) → p 0 ≡ false → p (get_or s i 0) ≡ true → i < length s
stands p s i z e = go (ltb i (length s)) refl
  where
    go : (b : Bool) → ltb i (length s) ≡ b → i < length s
    go true q = ltb-true i (length s) q
    go false q = true_false (sym e ∙ ap p (get_or-eq_default s 0 (ltb-false i (length s) q)) ∙ z)

pub starts_short : (t m : List ℕ) → starts_with t m ≡ true → length m ≤ length t
unfolding starts_with pick
starts_short t [] e = omega arith
starts_short [] (y ∷ ys) e = true_false (sym e)
starts_short (x ∷ xs) (y ∷ ys) e = go (eqb x y) e (starts_short xs ys)
  where
    go : (b : Bool) → pick b (starts_with xs ys) false ≡ true → (starts_with xs ys ≡ true → length ys ≤ length xs) → length (y ∷ ys) ≤ length (x ∷ xs)
    go true q f = let h : length ys ≤ length xs = f q in omega arith
    go false q f = true_false (sym q)

digit_zero : is_digit 0 ≡ false
unfolding is_digit in_range pick
digit_zero = refl

letter_zero : is_letter 0 ≡ false
unfolding is_letter in_range pick
letter_zero = refl

pub letter_name : (b : ℕ) → is_letter b ≡ true → is_name_byte b ≡ true
unfolding is_name_byte
letter_name b e = pick_true _ _ _ e

module _ (s : List ℕ) where
  pub skipped_on : (at : ℕ) → at ≤ skipped s at
  unfolding skipped
  skipped_on at = omega arith

  pub mark_ahead : {n : ℕ} (b : ℕ) (m : List ℕ) (at : ℕ) → mark s (b ∷ m) at ≡ done tt n → Ahead s at n
  unfolding mark is_next
  mark_ahead {n} b m at e =
      let t = taken (is_next s (b ∷ m) at) (done tt (skipped s at + length (b ∷ m))) e in
      let q : skipped s at + length (b ∷ m) ≡ n = cc in
      let l : length (b ∷ m) ≤ length (drop (skipped s at) s) = starts_short (drop (skipped s at) s) (b ∷ m) t.0 in
      record {
        more = omega (arith, skipped_on at);
        inside = omega (arith, length-drop (skipped s at) s);
      }

  digits_ahead : {z : ℤ} {n : ℕ} (sign : ℤ → ℤ) (i : ℕ) → digits s sign i ≡ done z n → Ahead s i n
  unfolding digits
  digits_ahead {z} {n} sign i e =
      let t = taken (is_digit (get_or s i 0)) _ e in
      let u = taken (within (sign (pos (decimal 0 (drop i s))))) _ t.1 in
      let q : i + run is_digit (drop i s) ≡ n = cc in
      let h : i < length s = stands is_digit s i digit_zero t.0 in
      record {
        more = omega (arith, run_go s i h is_digit t.0);
        inside = omega (arith, run_within is_digit s i (omega arith));
      }

  pub integer_ahead : {z : ℤ} {n : ℕ} (at : ℕ) → integer s at ≡ done z n → Ahead s at n
  unfolding integer
  integer_ahead {z} {n} at e = go (is_next s (bytes "-") at) e
    where
      go : (b : Bool) → pick b (digits s neg_ℤ (skipped s at + 1)) (digits s (λ y. y) (skipped s at)) ≡ done z n → Ahead s at n
      go true q =
          let a = digits_ahead neg_ℤ (skipped s at + 1) (sym (pick_true _ _ _ refl) ∙ q) in
          record { more = omega (arith, skipped_on at, a.more); inside = a.inside }
      go false q =
          let a = digits_ahead (λ y. y) (skipped s at) (sym (pick_false _ _ _ refl) ∙ q) in
          record { more = omega (arith, skipped_on at, a.more); inside = a.inside }

  pub name_ahead : {x : Span} {n : ℕ} (at : ℕ) → name s at ≡ done x n → Ahead s at n
  unfolding name name_from
  name_ahead {x} {n} at e =
      let i = skipped s at in
      let t = taken (is_letter (get_or s i 0)) _ e in
      let q : i + run is_name_byte (drop i s) ≡ n = cc in
      let h : i < length s = stands is_letter s i letter_zero t.0 in
      record {
        more = omega (arith, skipped_on at, run_go s i h is_name_byte (letter_name (get_or s i 0) t.0));
        inside = omega (arith, run_within is_name_byte s i (omega arith));
      }

module _ (s : List ℕ) where
  pub name_span : {x : Span} {n : ℕ} (at : ℕ) → name s at ≡ done x n → (x.start ≡ skipped s at) × (x.end ≡ n) × (n ≡ skipped s at + run is_name_byte (drop (skipped s at) s)) × (is_letter (get_or s (skipped s at) 0) ≡ true)
  unfolding name name_from
  name_span {x} {n} at e =
      let i = skipped s at in
      let j = i + run is_name_byte (drop i s) in
      let t = taken (is_letter (get_or s i 0)) (done (record { start = i; end = j }) j) e in
      let q : record { start = i; end = j } ≡ x = cc in
      let p : j ≡ n = cc in
      (sym (ap (λ (y : Span). y.start) q), sym (ap (λ (y : Span). y.end) q) ∙ p, sym p, t.0)

-- ---- one parser after the other

pub record Then {A B : Type 0} (p : Parsed A) (f : A → ℕ → Parsed B) (b : B) (n : ℕ) : Type 0 where
  pub got : A
  pub place : ℕ
  pub first : p ≡ done got place
  pub rest : f got place ≡ done b n

pub then_done : {A B : Type 0} {b : B} {n : ℕ} (p : Parsed A) (f : A → ℕ → Parsed B) → and_then p f ≡ done b n → Then p f b n
then_done (done a m) f e = record { got = a; place = m; first = refl; rest = e }
then_done no f e = let z : ◌≡◌ {A = ℕ} 0 1 = cc in absurd (omega arith)

module _ (s : List ℕ) where
  pub mark_size : {n : ℕ} (m : List ℕ) (at : ℕ) → mark s m at ≡ done tt n → at + length m ≤ n
  unfolding mark
  mark_size {n} m at e =
      let t = taken (is_next s m at) (done tt (skipped s at + length m)) e in
      let q : skipped s at + length m ≡ n = cc in
      omega (arith, skipped_on s at)

  after_name : Span → ℕ → Parsed Field
  after_name x i = and_then (mark s (bytes "|->") i) (λ u j. and_then (integer s j) (λ z. give (record { name = x; value = z })))

  after_arrow : Span → ℕ → Parsed Field
  after_arrow x j = and_then (integer s j) (λ z. give (record { name = x; value = z }))

  -- a field: a name, three bytes, an integer
  pub field_size : {x : Field} {n : ℕ} (at : ℕ) → field s at ≡ done x n → (at + 5 ≤ n) × (n ≤ length s)
  unfolding field after_name after_arrow
  field_size {x} {n} at e =
      let a = then_done (name s at) after_name e in
      let b = then_done (mark s (bytes "|->") a.place) (λ u. after_arrow a.got) a.rest in
      let d = then_done (integer s b.place) (λ z. give (record { name = a.got; value = z })) b.rest in
      let q : d.place ≡ n = cc in
      let i = integer_ahead s b.place d.first in (
        omega (arith, (name_ahead s at a.first).more, mark_size (bytes "|->") a.place b.first, i.more),
        omega (arith, i.inside),
      )

  pub field_ahead : {x : Field} {n : ℕ} (at : ℕ) → field s at ≡ done x n → Ahead s at n
  field_ahead at e = record { more = omega (arith, (field_size at e).0); inside = (field_size at e).1 }
