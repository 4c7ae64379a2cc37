-- The names of parameters, as the code finds them. Assumes nothing.
use mathlib.Core.Path.{◌≡◌, refl, sym, ap, ◌∙◌}
use mathlib.Core.Bool.{Bool, true, false, ◌&&◌}
use mathlib.Core.List.{List}
use Prim.Native.Nat.{ℕ, zero, suc, ◌+◌, ◌-◌, ◌*◌, ◌≤◌}
use native.Mathlib.Omega.{arith}
use lib.ListN.{length, take, length-take}
use lib.Dec.{ltb, leb}
use borrow.Author.Tests.{leb-true, le-leb, lt-ltb}
use Rattle.std.specs.List.{list_all, range_with_len}
use native.Mathlib.Numerals.{add-one}
use Rattle.laws.specs.Lists.{every, all_below}
use Rattle.tokens.specs.Classes.{is_letter, is_name_byte}
use Rattle.contract.specs.Fits.{is_name}
use Rattle.contract.specs.Table.{word_at, function_word, packed_words, parameters_start, values_of, parameters_of}
use Rattle.contract.proofs.Passed.{function_passed}
use Rattle.contract.specs.Decode.{each_from, packed_byte, packed_word}
use Rattle.contract.specs.Check.{ranges, function_ok, packed_ok, parameters_ok}

and_true : (a : Bool) → (a && true) ≡ a
and_true true = refl
and_true false = refl

-- the first n of f i, f (i + 1), .. pass p
every_first : (p : ℕ → Bool) (f : ℕ → ℕ) (n m i : ℕ) → n ≤ m → every p (take n (each_from i m f)) ≡ list_all (λ j. p (f j)) (range_with_len i n)
unfolding every each_from
every_first p f zero m i h = refl
every_first p f (suc n) zero i h = absurd (omega arith)
every_first p f (suc n) (suc m) i h = rw (add-one i) (ap (λ (b : Bool). p (f i) && b) (every_first p f n m (suc i) (omega arith)))

module _ (f : ℕ → ℕ) where
  name_as : (n : ℕ) → (leb n 32 && is_name (take n (each_from 0 32 f))) ≡ (ranges 1 n 32 && (is_letter (f 0) && list_all (λ j. is_name_byte (f j)) (range_with_len 1 (n - 1))))
  unfolding ranges is_name each_from
  name_as zero = refl
  name_as (suc n) =
      go (leb (suc n) 32) refl
      ∙ ap (λ (b : Bool). (b && leb (suc n) 32) && (is_letter (f 0) && list_all (λ j. is_name_byte (f j)) (range_with_len 1 (suc n - 1)))) (sym (le-leb 1 (suc n) (omega arith)))
    where
      go : (b : Bool) → leb (suc n) 32 ≡ b
          → (b && (is_letter (f 0) && (every is_name_byte (take n (each_from 1 31 f)) && ltb (length (take n (each_from 1 31 f))) 32))) ≡ (b && (is_letter (f 0) && list_all (λ j. is_name_byte (f j)) (range_with_len 1 (suc n - 1))))
      go true e =
          let h : suc n ≤ 32 = leb-true (suc n) 32 e in
          let z : n ≡ suc n - 1 = omega arith in
          let l : length (take n (each_from 1 31 f)) ≤ n = simp length-take (omega arith) in
          ap (λ (b : Bool). is_letter (f 0) && b)
          (ap (λ (b : Bool). every is_name_byte (take n (each_from 1 31 f)) && b) (lt-ltb (length (take n (each_from 1 31 f))) 32 (omega arith))
          ∙ and_true _
          ∙ every_first is_name_byte f n 31 1 (omega arith)
          ∙ ap (λ (k : ℕ). list_all (λ j. is_name_byte (f j)) (range_with_len 1 k)) z)
      go false e = refl

pub packed_is : (w : List ℕ) (o : ℕ)
    → packed_ok w o ≡ (ranges 1 (word_at w o) 32 && (is_letter (packed_byte w o 0) && list_all (λ j. is_name_byte (packed_byte w o j)) (range_with_len 1 (word_at w o - 1))))
unfolding packed_ok packed_word
packed_is w o = name_as (packed_byte w o) (word_at w o)

-- the rows of function i
pub parameters_as : (w : List ℕ) (i : ℕ) {v p : ℕ} → v ≡ function_word w i 3 → p ≡ function_word w i 4
    → (all_below v (λ j. packed_ok w (parameters_start + (i * 12 + j) * 5)) && all_below p (λ j. packed_ok w (parameters_start + (i * 12 + 8 + j) * 5))) ≡ parameters_ok w i
unfolding parameters_ok
parameters_as w i e f =
    let a : (j : ℕ) → parameters_start + (i * 12 + j) * 5 ≡ values_of i + j * packed_words = λ j. omega arith in
    let b : (j : ℕ) → parameters_start + (i * 12 + 8 + j) * 5 ≡ parameters_of i + j * packed_words = λ j. omega arith in
    λ t. all_below (e t) (λ j. packed_ok w (a j t)) && all_below (f t) (λ j. packed_ok w (b j t))

-- a function that passes has few of them
pub parameters_few : (w : List ℕ) (i : ℕ) → function_ok w i ≡ true → (function_word w i 3 ≤ 8) × (function_word w i 4 ≤ 4)
parameters_few w i e = let p = function_passed w i e in (p.values, p.parameters)
