-- The fixed words end to end: from each start to the next, or to the end, stands the word. Assumes nothing.
use Rattle.std.proofs.Common.{◌≡◌, refl, sym, ap, ◌∙◌, arith, ℕ, zero, suc, ◌+◌, ◌-◌, ◌<◌, ◌≤◌, Bool, true, false, not, List, [], ◌∷◌, ◌++◌, map, length, get_or, take, drop, ltb}
use Rattle.std.specs.Prelude.{flat_map, scan, sum_by}
use Rattle.std.proofs.Math.ListN.{get_or-map}
use Rattle.std.proofs.lemmas.List.Sums.{sum_by-cons}
use mathlib.Core.List.{append_assoc}
use lib.ListN.{length-append}
use native.Mathlib.Numerals.{add-one}
use lib.Seq.{take-append_seam, drop-append_seam}
use borrow.Author.Tests.{ltb-true, ltb-false}
use Rattle.laws.specs.Choice.{pick}
use Rattle.laws.specs.Lists.{every, all_below}
use Rattle.laws.specs.Bytes.{bytes, same_bytes}
use Rattle.laws.proofs.Choice.{true_false}
use Rattle.laws.proofs.Bytes.{same_refl}
use Rattle.laws.proofs.Truths.{not_true}
use Rattle.laws.proofs.Members.{every_at, below_at}
use Rattle.words.specs.Words.{spellings, spelled}
use Rattle.words.specs.Packed.{packed, starts, start_in, word_in, StoredWords}

-- ---- any lists, end to end from n on

module _ {X : Type 0} (f : X → List ℕ) where
  -- where the k-th starts, the end where there is none
  abbrev begins : ℕ → List X → ℕ → ℕ
  begins n xs k = get_or (scan (λ at x. at + length (f x)) (λ at x. at) n xs) k (n + length (flat_map f xs))

  -- the first starts at n
  first_begins : (n : ℕ) (xs : List X) → begins n xs 0 ≡ n
  first_begins n [] = omega arith
  first_begins n (x ∷ xs) = refl

  -- the others start where they do behind the first
  next_begins : (n : ℕ) (x : X) (xs : List X) (k : ℕ) → begins n (x ∷ xs) (suc k) ≡ begins (n + length (f x)) xs k
  next_begins n x xs k =
      let e : n + length (f x ++ flat_map f xs) ≡ (n + length (f x)) + length (flat_map f xs) = omega (arith, length-append (f x) (flat_map f xs)) in
      ap (get_or (scan (λ at y. at + length (f y)) (λ at y. at) (n + length (f x)) xs) k) e

  -- in their order
  in_order : (n : ℕ) (xs : List X) (k : ℕ) → begins n xs k ≤ begins n xs (suc k)
  in_order n [] k = omega arith
  in_order n (x ∷ xs) zero = omega (arith, next_begins n x xs 0, first_begins (n + length (f x)) xs)
  in_order n (x ∷ xs) (suc k) = omega (arith, next_begins n x xs k, next_begins n x xs (suc k), in_order (n + length (f x)) xs k)

  in_order_to : (n : ℕ) (xs : List X) (k m : ℕ) → m ≡ suc k → begins n xs k ≤ begins n xs m
  in_order_to n xs k m e = rw e (in_order n xs k)

  -- none past the end
  within : (n : ℕ) (xs : List X) (k : ℕ) → begins n xs k ≤ n + length (flat_map f xs)
  within n [] k = omega arith
  within n (x ∷ xs) zero = omega arith
  within n (x ∷ xs) (suc k) = omega (arith, next_begins n x xs k, within (n + length (f x)) xs k, length-append (f x) (flat_map f xs))

  stands_apart : (p w rest : List ℕ) → take ((length p + length w) - length p) (drop (length p) (p ++ (w ++ rest))) ≡ w
  stands_apart p w rest =
      let n : (length p + length w) - length p ≡ length w = omega arith in
      rw (n, drop-append_seam p (w ++ rest)) (take-append_seam w rest)

  stands_behind : (p : List ℕ) (xs : List X) (k : ℕ)
      → take (begins (length p) xs (suc k) - begins (length p) xs k) (drop (begins (length p) xs k) (p ++ flat_map f xs)) ≡ get_or (map f xs) k []
  stands_behind p [] k =
      let z : (length p + 0) - (length p + 0) ≡ 0 = omega arith in
      rw z refl
  stands_behind p (x ∷ xs) zero =
      rw (next_begins (length p) x xs 0, first_begins (length p + length (f x)) xs) (stands_apart p (f x) (flat_map f xs))
  stands_behind p (x ∷ xs) (suc k) =
      rw (next_begins (length p) x xs k, next_begins (length p) x xs (suc k), ← append_assoc p (f x) (flat_map f xs), ← length-append p (f x))
      (stands_behind (p ++ f x) xs k)

  as_long_as : (xs : List X) → length (flat_map f xs) ≡ sum_by (λ x. length (f x)) xs
  as_long_as [] = refl
  as_long_as (x ∷ xs) = rw (length-append (f x) (flat_map f xs), as_long_as xs) (sym (sum_by-cons (λ y. length (f y)) x xs))

-- ---- the fixed words

-- from each start to the next, or to the end, stands the word; past the last, none
pub word_stands : (k : ℕ) → word_in packed starts k ≡ spelled k
unfolding word_in packed starts spelled
word_stands k = stands_behind bytes [] spellings k ∙ get_or-map bytes spellings k ""

-- as the code finds it
pub ends_after : (k : ℕ) → start_in packed starts k ≤ start_in packed starts (k + 1)
unfolding packed starts
ends_after k = in_order_to bytes 0 spellings k (k + 1) (add-one k)

pub in_packed : (k : ℕ) → start_in packed starts k ≤ length packed
unfolding packed starts
in_packed k = within bytes 0 spellings k

pub found : (k : ℕ) {all : List ℕ} {a e : ℕ} → all ≡ packed → a ≡ start_in packed starts k → e ≡ start_in packed starts (k + 1) → take (e - a) (drop a all) ≡ spelled k
unfolding word_in
found k p s t = rw (p, s, t, add-one) (word_stands k)

-- no two words are the same

other_words : all_below (length spellings) (λ j. all_below j (λ k. not (same_bytes (spelled j) (spelled k)))) ≡ true
unfolding all_below same_bytes pick spelled
other_words = refl

apart : (j k : ℕ) → j < length spellings → k < j → spelled j ≡ spelled k → ⊥
apart j k h l e =
    let other = below_at (λ i. not (same_bytes (spelled j) (spelled i))) j (below_at (λ n. all_below n (λ i. not (same_bytes (spelled n) (spelled i)))) (length spellings) other_words j h) k l in
    true_false (sym (same_refl (spelled j)) ∙ ap (same_bytes (spelled j)) e ∙ not_true (same_bytes (spelled j) (spelled k)) other)

alone : (j k : ℕ) → j < length spellings → k < length spellings → spelled j ≡ spelled k → j ≡ k
alone j k h l e = go (ltb k j) (ltb j k) refl refl
  where
    go : (s t : Bool) → ltb k j ≡ s → ltb j k ≡ t → j ≡ k
    go true t p q = absurd (apart j k h (ltb-true k j p) e)
    go false true p q = absurd (apart k j l (ltb-true j k q) (sym e))
    go false false p q =
        let a = ltb-false k j p in
        let b = ltb-false j k q in
        omega arith

-- document 02's sentences hold of the stored words
pub stored_words : StoredWords packed starts
unfolding packed starts every
stored_words =
    record {
      as_long = as_long_as bytes spellings;
      each_once = alone;
      each_starts = refl;
      in_one_byte = λ k h. ltb-true (get_or starts k 0) 256 (every_at (λ (n : ℕ). ltb n 256) starts refl k h 0);
      stands = λ k h. word_stands k;
    }
