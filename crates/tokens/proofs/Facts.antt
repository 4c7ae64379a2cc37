-- Where a token that is found lies, what value it can have, and where a refusal is placed. Assumes nothing.
use mathlib.Core.Path.{◌≡◌, refl, sym, subst}
use mathlib.Core.List.{List, [], ◌∷◌}
use mathlib.Core.Bool.{Bool, true, false, not}
use Prim.Native.Nat.{ℕ, ◌+◌, ◌<◌, ◌≤◌}
use native.Mathlib.Omega.{arith}
use lib.ListN.{length, get_or, drop, length-drop, get_or-eq_default}
use lib.Dec.{ltb, leb, eqb}
use borrow.Author.Tests.{ltb-true, ltb-false, leb-true, eqb-true}
use Rattle.laws.specs.Choice.{pick}
use Rattle.laws.specs.Bytes.{starts_with}
use Rattle.laws.proofs.Choice.{by_cases, true_false}
use Rattle.words.specs.Words.{spelled, asset_arrow}
use Rattle.tokens.proofs.Laws.{run_go, run_within}
use Rattle.tokens.specs.Classes.{is_letter, is_digit, is_name_byte, is_text, is_string_byte, run, decimal, gap}
use Rattle.tokens.specs.Tokens.{top, marks, goes_on, name_at, number_at, string_at, mark_at, start_at, here, token_at}
use Rattle.tokens.specs.declared.Lexed.{Lexed}
use Rattle.tokens.specs.declared.Token.{Token}
use Rattle.tokens.specs.declared.Lexed.TheVariants.{Found, Refused, End}

-- what is found or refused lies at or after a place, and in the text; a value is at most top
Placed : List ℕ → ℕ → Lexed → Type 0
Placed s at (Found t) = (at ≤ t.start) × (t.start < t.end) × (t.end ≤ length s) × (t.value ≤ top)
Placed s at (Refused k p) = (at ≤ p) × (p < length s)
Placed s at End = Unit {0}

pub letter_name : (b : ℕ) → is_letter b ≡ true → is_name_byte b ≡ true
unfolding is_name_byte pick
letter_name b e = rw e

-- a text that begins with a word is at least as long
starts_length : (t w : List ℕ) → starts_with t w ≡ true → length w ≤ length t
unfolding starts_with pick
starts_length t [] e = omega arith
starts_length [] (y ∷ w) e = true_false (sym e)
starts_length (x ∷ t) (y ∷ w) e = go (eqb x y) e (starts_length t w)
  where
    go : (b : Bool) → pick b (starts_with t w) false ≡ true → (starts_with t w ≡ true → length w ≤ length t) → length (y ∷ w) ≤ length (x ∷ t)
    go true p r = let q : length w ≤ length t = r p in omega arith
    go false p r = true_false (sym p)

goes_length : (t : List ℕ) (k : ℕ) → goes_on t k ≡ true → length (spelled k) ≤ length t
unfolding goes_on pick
goes_length t k e = go (starts_with t (spelled k)) refl e
  where
    go : (b : Bool) → starts_with t (spelled k) ≡ b → pick b (pick (eqb k asset_arrow) (not (is_name_byte (get_or t 2 0))) true) false ≡ true → length (spelled k) ≤ length t
    go true p q = starts_length t (spelled k) p
    go false p q = true_false (sym q)

-- every mark has a byte
Full : List ℕ → Type 0
Full [] = Unit {0}
Full (k ∷ ks) = (0 < length (spelled k)) × Full ks

module _ (s : List ℕ) (at i : ℕ) (le : at ≤ i) (h : i < length s) where
  name_placed : is_name_byte (get_or s i 0) ≡ true → Placed s at (name_at s i)
  unfolding name_at Placed
  name_placed e =
      by_cases (Placed s at) (leb (run is_name_byte (drop i s)) 32) _ _
      (λ _. let w : i ≤ length s = omega arith in
      (omega arith, omega (arith, run_go s i h is_name_byte e), omega (arith, run_within is_name_byte s i w), omega arith))
      (λ _. (omega arith, omega arith))

  number_placed : is_digit (get_or s i 0) ≡ true → Placed s at (number_at s i)
  unfolding number_at Placed
  number_placed e =
      by_cases (Placed s at) (leb (decimal 0 (drop i s)) top) _ _
      (λ v. let w : i ≤ length s = omega arith in
      (omega arith, omega (arith, run_go s i h is_digit e), omega (arith, run_within is_digit s i w), leb-true _ _ v))
      (λ _. (omega arith, omega arith))

  string_placed : (n : ℕ) → Placed s at (string_at s i n)
  unfolding string_at Placed
  string_placed n =
      by_cases (Placed s at) (eqb (get_or s (i + 1 + n) 0) 34) _ _
      (λ q. by_cases (Placed s at) (leb n 64) _ _ (λ _. (omega arith, omega arith, inside (eqb-true _ _ q), omega arith)) (λ _. (omega arith, omega arith)))
      (λ _. (omega arith, omega arith))
    where
      inside : get_or s (i + 1 + n) 0 ≡ 34 → i + 1 + n + 1 ≤ length s
      inside q = go (ltb (i + 1 + n) (length s)) refl
        where
          go : (b : Bool) → ltb (i + 1 + n) (length s) ≡ b → i + 1 + n + 1 ≤ length s
          go true p = let z : i + 1 + n < length s = ltb-true _ _ p in omega arith
          go false p = let z : length s ≤ i + 1 + n = ltb-false _ _ p in absurd (omega (arith, get_or-eq_default s 0 z, q))

  mark_placed : (ks : List ℕ) → Full ks → Placed s at (mark_at ks s i)
  unfolding mark_at Placed Full
  mark_placed [] f = (omega arith, omega arith)
  mark_placed (k ∷ ks) f =
      by_cases (Placed s at) (goes_on (drop i s) k) _ _
      (λ g. (omega arith, omega (arith, f.0), omega (arith, goes_length (drop i s) k g, length-drop i s), omega arith))
      (λ _. mark_placed ks f.1)

  start_placed : Placed s at (start_at s i (get_or s i 0))
  unfolding start_at Placed Full spelled
  start_placed =
      let b = get_or s i 0 in
      by_cases (Placed s at) (is_text b) _ _
      (λ _. by_cases (Placed s at) (is_letter b) _ _ (λ e. name_placed (letter_name b e))
      (λ _. by_cases (Placed s at) (is_digit b) _ _ number_placed
      (λ _. by_cases (Placed s at) (eqb b 34) _ _ (λ _. string_placed (run is_string_byte (drop (i + 1) s))) (λ _. mark_placed marks full))))
      (λ _. (omega arith, omega arith))
    where
      full : Full marks
      full = search arith

placed : (s : List ℕ) (at : ℕ) → Placed s at (token_at s at)
unfolding token_at here Placed
placed s at =
    let i = at + gap false (drop at s) in
    by_cases (Placed s at) (ltb i (length s)) _ _ (λ e. start_placed s at i (omega arith) (ltb-true _ _ e)) (λ _. tt)

-- a token starts at or after the place asked, is not empty, and lies in the text
pub progress : (s : List ℕ) (at : ℕ) (t : Token) → token_at s at ≡ Found t → (at ≤ t.start) × (t.start < t.end) × (t.end ≤ length s)
unfolding Placed
progress s at t e = let p = subst (Placed s at) e (placed s at) in (p.0, p.1, p.2)

-- a token's value is at most top
pub value_top : (s : List ℕ) (at : ℕ) (t : Token) → token_at s at ≡ Found t → t.value ≤ top
unfolding Placed
value_top s at t e = (subst (Placed s at) e (placed s at)).3

-- a refusal is placed at or after the place asked, in the text
pub refused_place : (s : List ℕ) (at k p : ℕ) → token_at s at ≡ Refused k p → (at ≤ p) × (p < length s)
unfolding Placed
refused_place s at k p e = subst (Placed s at) e (placed s at)
