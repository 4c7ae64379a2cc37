-- The words of the questions: how long they are, and which numbers have none. Assumes nothing.
use mathlib.Core.Path.{◌≡◌, refl, sym, ap, ◌∙◌}
use mathlib.Core.Bool.{Bool, true, false, ◌||◌}
use mathlib.Core.List.{List, [], ◌∷◌}
use Prim.Native.Nat.{ℕ, zero, suc, ◌+◌, ◌<◌, ◌≤◌}
use Prim.Native.String.{String}
use native.Mathlib.Omega.{arith}
use native.Mathlib.Nat.{add-zero}
use lib.ListN.{length, get_or, get_or-eq_default}
use lib.Dec.{eqb, ltb, leb}
use borrow.Author.Tests.{ne_eqb, ltb-true, ltb-false, leb-true}
use Rattle.laws.specs.Bytes.{bytes}
use Rattle.laws.specs.Lists.{every}
use Rattle.laws.proofs.Choice.{pick_false, by_cases}
use Rattle.laws.proofs.Truths.{both_left, both_right, either_true}
use Rattle.question_words.specs.Words.{Row, table, words_in, words_of}

-- ---- length

-- whether a row's words have at most 64 bytes
abbrev short : Row → Bool
short row = leb (length (bytes row.words)) 64

short_in : (rows : List Row) (n : ℕ) → every short rows ≡ true → length (bytes (words_in rows n)) ≤ 64
unfolding words_in every
short_in [] n e = omega arith
short_in (row ∷ rows) n e =
    by_cases (λ (w : String). length (bytes w) ≤ 64) (eqb row.number n) _ _
    (λ _. leb-true (length (bytes row.words)) 64 (both_left (short row) (every short rows) e))
    (λ _. short_in rows n (both_right (short row) (every short rows) e))

-- no words are longer than 64 bytes
pub words_short : (n : ℕ) → length (words_of n) ≤ 64
unfolding words_of every
words_short n = short_in table n refl

-- ---- numbers without words

-- whether a row's number is not from a up to b
abbrev pub outside : ℕ → ℕ → Row → Bool
outside a b row = ltb row.number a || leb b row.number

none_in : (rows : List Row) (a b n : ℕ) → a ≤ n → n < b → every (outside a b) rows ≡ true → words_in rows n ≡ ""
unfolding words_in every
none_in [] a b n h k e = refl
none_in (row ∷ rows) a b n h k e =
    let d : row.number ≡ n → ⊥ =
    λ q. either_true (ltb row.number a) (leb b row.number) (both_left (outside a b row) (every (outside a b) rows) e)
    (λ t. let l = ltb-true row.number a t in omega arith)
    (λ t. let l = leb-true b row.number t in omega arith)
    in
    pick_false _ _ _ (ne_eqb row.number n d) ∙ none_in rows a b n h k (both_right (outside a b row) (every (outside a b) rows) e)

no_words : (a b n : ℕ) → a ≤ n → n < b → every (outside a b) table ≡ true → words_of n ≡ []
unfolding words_of
no_words a b n h k e = ap bytes (none_in table a b n h k e)

-- ---- words by number

-- the words of m numbers from a on
abbrev pub words_from : ℕ → ℕ → List (List ℕ)
words_from a zero = []
words_from a (suc m) = words_of a ∷ words_from (suc a) m

from_long : (a m : ℕ) → length (words_from a m) ≡ m
from_long a zero = refl
from_long a (suc m) = ap suc (from_long (suc a) m)

from_at : (a m k : ℕ) → k < m → get_or (words_from a m) k [] ≡ words_of (a + k)
from_at a zero k h = absurd (omega arith)
from_at a (suc m) zero h = sym (ap words_of (add-zero a))
from_at a (suc m) (suc k) h =
    let e : suc a + k ≡ a + suc k = omega arith in
    from_at (suc a) m k (omega arith) ∙ ap words_of e

-- the words of a number below m
pub words_at : (m n : ℕ) → n < m → get_or (words_from 0 m) n [] ≡ words_of n
words_at m n h = from_at 0 m n h ∙ ap words_of (omega arith)

-- no number past the last has words
pub words_past : (n : ℕ) → 63 ≤ n → n < 256 → words_of n ≡ []
unfolding every
words_past n h k = no_words 63 256 n h k refl

-- a table of the first 63 has the words of each number of a byte, past its end none
pub words_all : (n : ℕ) → n < 256 → get_or (words_from 0 63) n [] ≡ words_of n
words_all n h = go (ltb n 63) refl
  where
    go : (b : Bool) → ltb n 63 ≡ b → get_or (words_from 0 63) n [] ≡ words_of n
    go true e = words_at 63 n (ltb-true n 63 e)
    go false e = let k = ltb-false n 63 e in get_or-eq_default (words_from 0 63) [] {n = n} (omega (arith, from_long 0 63)) ∙ sym (words_past n k h)
