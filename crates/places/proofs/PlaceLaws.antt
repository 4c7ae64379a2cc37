-- How line and start go on from one byte to the next. Assumes nothing.
use mathlib.Core.Path.{◌≡◌, refl, sym, ap, ◌∙◌}
use mathlib.Core.Bool.{Bool, true, false, not}
use mathlib.Core.List.{List, [], ◌∷◌}
use Prim.Native.Nat.{ℕ, zero, suc, ◌+◌, ◌-◌, ◌≤◌, min}
use native.Mathlib.Numerals.{add-one}
use native.Mathlib.Omega.{arith}
use lib.ListN.{length, get_or, take, drop, get_or-eq_default}
use lib.Seq.{take-suc, take_all}
use lib.Dec.{ltb}
use borrow.Author.Tests.{ne_eqb, eqb-true, ltb-true, ltb-false}
use Rattle.laws.specs.Choice.{pick}
use Rattle.laws.specs.Lists.{keep}
use Rattle.laws.proofs.Choice.{pick_false, by_cases}
use Rattle.tokens.specs.Classes.{run}
use Rattle.tokens.proofs.Laws.{run_within}
use Rattle.std.specs.Prelude.{reverse, filter}
use Rattle.std.proofs.lemmas.List.{reverse-append}
use mathlib.Core.Bool.{cond}
use Rattle.places.specs.Places.{is_line_feed, line_of, start_of, column_of, in_line, end_of, place_of}
use Rattle.places.specs.declared.Place.{Place}

-- ---- counts and the bytes since the last LF

filter_keep : (p : ℕ → Bool) (l : List ℕ) → filter p l ≡ keep p l
unfolding keep pick
filter_keep p [] = refl
filter_keep p (x ∷ xs) = go (p x) (filter_keep p xs)
  where
    go : (t : Bool) → filter p xs ≡ keep p xs → cond t (x ∷ filter p xs) (filter p xs) ≡ pick t (x ∷ keep p xs) (keep p xs)
    go true e = ap (λ (l : List ℕ). x ∷ l) e
    go false e = e

pub kept : (l : List ℕ) → length (filter is_line_feed l) ≡ length (keep is_line_feed l)
kept l = ap length (filter_keep is_line_feed l)

pub few_kept : (p : ℕ → Bool) (l : List ℕ) → length (keep p l) ≤ length l
unfolding keep
few_kept p [] = omega arith
few_kept p (x ∷ xs) =
    by_cases (λ (k : List ℕ). length k ≤ suc (length xs)) (p x) (x ∷ keep p xs) (keep p xs) (λ _. omega (arith, few_kept p xs)) (λ _. omega (arith, few_kept p xs))

-- the bytes after the last LF before place i stand from the line's start on
pub since_start : (s : List ℕ) (i : ℕ) → i ≤ length s → run in_line (reverse (take i s)) + start_of s i ≡ i
unfolding run in_line start_of pick
since_start s zero h = refl
since_start s (suc i) h =
    let r : reverse (take (suc i) s) ≡ get_or s i 0 ∷ reverse (take i s) = ap reverse (take-suc s i 0 (omega arith)) ∙ reverse-append (take i s) (get_or s i 0 ∷ []) in
    go (is_line_feed (get_or s i 0)) (since_start s i (omega arith)) (ap (run in_line) r)
  where
    go : (t : Bool) → run in_line (reverse (take i s)) + start_of s i ≡ i → {n : ℕ} → n ≡ pick (not t) (suc (run in_line (reverse (take i s)))) 0
        → n + pick t (suc i) (start_of s i) ≡ suc i
    go true e f = omega (arith, f)
    go false e f = omega (arith, e, f)

-- ---- past the end

module _ (s : List ℕ) (i : ℕ) where
  start_same : (get_or s i 0 ≡ 10 → ⊥) → start_of s (i + 1) ≡ start_of s i
  unfolding start_of
  start_same e = rw add-one (pick_false _ _ _ (ne_eqb (get_or s i 0) 10 e))

start_past : (s : List ℕ) (k : ℕ) → start_of s (length s + k) ≡ start_of s (length s)
start_past s zero = ap (start_of s) (omega arith)
start_past s (suc k) =
    let e : length s + suc k ≡ (length s + k) + 1 = omega arith in
    let l : length s ≤ length s + k = omega arith in
    let d : get_or s (length s + k) 0 ≡ 10 → ⊥ = λ q. omega (arith, get_or-eq_default s 0 l) in
    ap (start_of s) e ∙ start_same s (length s + k) d ∙ start_past s k

-- a place as its text has it
module _ (s : List ℕ) (p : ℕ) where
  start_clamped : start_of s (min p (length s)) ≡ start_of s p
  start_clamped = go (ltb p (length s)) refl
    where
      go : (t : Bool) → ltb p (length s) ≡ t → start_of s (min p (length s)) ≡ start_of s p
      go true q =
          let h = ltb-true p (length s) q in
          let e : min p (length s) ≡ p = omega arith in
          ap (start_of s) e
      go false q =
          let h = ltb-false p (length s) q in
          let e : min p (length s) ≡ length s = omega arith in
          let f : length s + (p - length s) ≡ p = omega arith in
          ap (start_of s) e ∙ sym (start_past s (p - length s)) ∙ ap (start_of s) f

  line_clamped : line_of s (min p (length s)) ≡ line_of s p
  unfolding line_of
  line_clamped = go (ltb p (length s)) refl
    where
      go : (t : Bool) → ltb p (length s) ≡ t → suc (length (keep is_line_feed (take (min p (length s)) s))) ≡ suc (length (keep is_line_feed (take p s)))
      go true q =
          let h = ltb-true p (length s) q in
          let e : min p (length s) ≡ p = omega arith in
          ap (λ (k : ℕ). suc (length (keep is_line_feed (take k s)))) e
      go false q =
          let h = ltb-false p (length s) q in
          let a : length s ≤ min p (length s) = omega arith in
          ap (λ (l : List ℕ). suc (length (keep is_line_feed l))) (take_all (min p (length s)) s a ∙ sym (take_all p s h))

  -- line and start at the last byte before p or the text's end, and where that line ends
  pub placed : {line since start stop end column : ℕ} → stop ≡ min p (length s) → line ≡ length (keep is_line_feed (take stop s)) + 1
      → since ≡ run in_line (reverse (take stop s)) → start ≡ stop - since → end ≡ start + run in_line (drop start s) → column ≡ stop - start + 1
      → ◌≡◌ {A = Place} (record { line = line; column = column; start = start; end = end }) (place_of s p)
  unfolding column_of end_of line_of
  placed {line} {since} {start} {stop} {end} {column} a f n m g h =
      let within : stop ≤ length s = omega arith in
      let r : run in_line (reverse (take stop s)) + start_of s stop ≡ stop = since_start s stop within in
      let l : line ≡ line_of s p = f ∙ omega arith ∙ ap (line_of s) a ∙ line_clamped in
      let b : start ≡ start_of s p = (let q : start ≡ start_of s stop = omega (arith, m, n, r) in q) ∙ ap (start_of s) a ∙ start_clamped in
      let d : column ≡ suc (min p (length s) - start_of s p) = omega (arith, h, a, b) in
      let z : end ≡ start_of s p + run in_line (drop (start_of s p) s) = g ∙ ap (λ (k : ℕ). k + run in_line (drop k s)) b in
      λ j. record { line = l j; column = d j; start = b j; end = z j }

-- ---- the line's start and end

start_in : (s : List ℕ) (p : ℕ) → start_of s p ≤ length s
unfolding start_of
start_in s zero = omega arith
start_in s (suc p) =
    by_cases (λ (k : ℕ). k ≤ length s) (is_line_feed (get_or s p 0)) (suc p) (start_of s p) (λ e. go (ltb p (length s)) refl e) (λ _. start_in s p)
  where
    go : (t : Bool) → ltb p (length s) ≡ t → is_line_feed (get_or s p 0) ≡ true → suc p ≤ length s
    go true q e = omega (arith, ltb-true p (length s) q)
    go false q e = absurd (omega (arith, eqb-true (get_or s p 0) 10 e, get_or-eq_default s 0 (ltb-false p (length s) q)))

-- the line with a place lies in the text
pub line_in_text : (s : List ℕ) (p : ℕ) → (start_of s p ≤ end_of s p) × (end_of s p ≤ length s)
unfolding end_of
line_in_text s p = (omega arith, run_within in_line s (start_of s p) (start_in s p))
