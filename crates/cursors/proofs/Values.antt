-- A number's value is that of the digits at its start; any other token's is 0. Assumes nothing.
use mathlib.Core.Path.{◌≡◌, refl, sym, subst}
use mathlib.Core.List.{List, [], ◌∷◌}
use mathlib.Core.Bool.{Bool, true, false}
use Prim.Native.Nat.{ℕ, ◌+◌}
use native.Mathlib.Omega.{arith}
use lib.ListN.{length, get_or, drop, take}
use lib.Dec.{ltb, leb, eqb}
use borrow.Author.Tests.{leb-true}
use Rattle.laws.specs.Choice.{pick}
use Rattle.laws.specs.Bytes.{same_bytes}
use Rattle.laws.proofs.Choice.{by_cases, pick_false, true_false}
use Rattle.words.specs.Words.{spelled}
use Rattle.tokens.specs.Classes.{is_letter, is_digit, is_name_byte, is_text, is_string_byte, run, decimal, gap}
use Rattle.tokens.specs.Tokens.{top, number, reserved, marks, kind_among, goes_on, name_at, number_at, string_at, mark_at, start_at, here, token_at}
use Rattle.tokens.specs.declared.Lexed.{Lexed}
use Rattle.tokens.specs.declared.Token.{Token}
use Rattle.tokens.specs.declared.Lexed.TheVariants.{Found, Refused, End}
use Rattle.cursors.specs.Packed.{digits_at}

Valued : List ℕ → Lexed → Type 0
Valued s (Found t) = t.value ≡ pick (eqb t.kind number) (digits_at s t.start) 0
Valued s (Refused k p) = Unit {0}
Valued s End = Unit {0}

-- none of the kinds is a number's
others : List ℕ → Bool
others [] = true
others (k ∷ ks) = pick (eqb k number) false (others ks)

no_number : (k : ℕ) (ks : List ℕ) → others (k ∷ ks) ≡ true → (eqb k number ≡ false) × (others ks ≡ true)
unfolding others pick
no_number k ks e = go (eqb k number) e
  where
    go : (b : Bool) → pick b false (others ks) ≡ true → (b ≡ false) × (others ks ≡ true)
    go true p = true_false (sym p)
    go false p = (refl, p)

word_kind : (ks w : List ℕ) → others ks ≡ true → eqb (kind_among ks w) number ≡ false
unfolding kind_among
word_kind [] w n = refl
word_kind (k ∷ ks) w n =
    let p = no_number k ks n in
    by_cases (λ (x : ℕ). eqb x number ≡ false) (same_bytes w (spelled k)) _ _ (λ _. p.0) (λ _. word_kind ks w p.1)

reserved_others : others reserved ≡ true
unfolding others pick
reserved_others = refl

marks_others : others marks ≡ true
unfolding others pick
marks_others = refl

module _ (s : List ℕ) (i : ℕ) where
  name_valued : Valued s (name_at s i)
  unfolding name_at Valued
  name_valued =
      by_cases (Valued s) (leb (run is_name_byte (drop i s)) 32) _ _
      (λ _. sym (pick_false _ _ _ (word_kind reserved (take (run is_name_byte (drop i s)) (drop i s)) reserved_others)))
      (λ _. tt)

  number_valued : Valued s (number_at s i)
  unfolding number_at Valued pick
  number_valued = by_cases (Valued s) (leb (decimal 0 (drop i s)) top) _ _ (λ v. omega (arith, leb-true (decimal 0 (drop i s)) top v)) (λ _. tt)

  string_valued : (n : ℕ) → Valued s (string_at s i n)
  unfolding string_at Valued
  string_valued n =
      by_cases (Valued s) (eqb (get_or s (i + 1 + n) 0) 34) _ _
      (λ q. by_cases (Valued s) (leb n 64) _ _ (λ _. sym (pick_false _ _ _ refl)) (λ _. tt))
      (λ _. tt)

  mark_valued : (ks : List ℕ) → others ks ≡ true → Valued s (mark_at ks s i)
  unfolding mark_at Valued
  mark_valued [] f = tt
  mark_valued (k ∷ ks) f =
      by_cases (Valued s) (goes_on (drop i s) k) _ _
      (λ _. sym (pick_false _ _ _ (no_number k ks f).0))
      (λ _. mark_valued ks (no_number k ks f).1)

  start_valued : Valued s (start_at s i (get_or s i 0))
  unfolding start_at Valued
  start_valued =
      let b = get_or s i 0 in
      by_cases (Valued s) (is_text b) _ _
      (λ _. by_cases (Valued s) (is_letter b) _ _ (λ _. name_valued)
      (λ _. by_cases (Valued s) (is_digit b) _ _ (λ _. number_valued)
      (λ _. by_cases (Valued s) (eqb b 34) _ _ (λ _. string_valued (run is_string_byte (drop (i + 1) s))) (λ _. mark_valued marks marks_others))))
      (λ _. tt)

valued : (s : List ℕ) (at : ℕ) → Valued s (token_at s at)
unfolding token_at here Valued
valued s at =
    let i = at + gap false (drop at s) in
    by_cases (Valued s) (ltb i (length s)) _ _ (λ _. start_valued s i) (λ _. tt)

-- a token's value
pub value_is : (s : List ℕ) (at : ℕ) (t : Token) → token_at s at ≡ Found t → t.value ≡ pick (eqb t.kind number) (digits_at s t.start) 0
unfolding Valued
value_is s at t e = subst (Valued s) e (valued s at)
