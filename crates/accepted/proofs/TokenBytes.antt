-- The bytes of a name token are a name, those of a string token a string; what is no token has one of questions 5 to 8. Assumes nothing.
use mathlib.Core.Path.{◌≡◌, refl, sym, ap, subst, ◌∙◌}
use mathlib.Core.Bool.{Bool, true, false, ◌&&◌, not}
use mathlib.Core.List.{List, [], ◌∷◌}
use Prim.Native.Nat.{ℕ, zero, suc, ◌+◌, ◌-◌, ◌<◌, ◌≤◌}
use native.Mathlib.Omega.{arith}
use lib.ListN.{length, get_or, take, drop}
use lib.Dec.{eqb, leb, ltb}
use borrow.Author.Tests.{ltb-true, leb-true, lt-ltb, le-leb}
use Rattle.laws.specs.Choice.{pick}
use Rattle.laws.specs.Bytes.{same_bytes}
use Rattle.laws.proofs.Choice.{by_cases, true_false, pick_true}
use Rattle.laws.proofs.Lists.{cons_at}
use Rattle.words.specs.Words.{spelled}
use Rattle.tokens.specs.Classes.{is_letter, is_digit, is_name_byte, is_text, is_string_byte, run, decimal, gap}
use Rattle.tokens.specs.Tokens.{top, name, string, reserved, marks, kind_among, goes_on, name_at, number_at, string_at, mark_at, start_at, here, token_at, between}
use Rattle.tokens.specs.declared.Lexed.{Lexed}
use Rattle.tokens.specs.declared.Token.{Token}
use Rattle.tokens.specs.declared.Lexed.TheVariants.{Found, Refused, End}
use Rattle.tokens.proofs.Laws.{run_go, run_within}
use Rattle.contract.specs.Limits.{max_name, max_string}
use Rattle.contract.specs.Fits.{is_name, is_string}
use Rattle.laws.proofs.Truths.{both_left, both_right, both_true, not_true}
use Rattle.laws.specs.Lists.{every}

letter_name : (b : ℕ) → is_letter b ≡ true → is_name_byte b ≡ true
unfolding is_name_byte pick
letter_name b e = rw e

-- the bytes of a run are of its class
run_class : (p : ℕ → Bool) (l : List ℕ) → every p (take (run p l) l) ≡ true
unfolding run every
run_class p [] = refl
run_class p (x ∷ l) =
    by_cases (λ (n : ℕ). every p (take n (x ∷ l)) ≡ true) (p x) (suc (run p l)) 0 (λ e. both_true _ _ e (run_class p l)) (λ _. refl)

take_few : (n : ℕ) (l : List ℕ) → length (take n l) ≤ n
take_few zero l = omega arith
take_few (suc n) [] = omega arith
take_few (suc n) (x ∷ l) = let r = take_few n l in omega arith

between_take : (s : List ℕ) (a n : ℕ) → a + n ≤ length s → between s a (a + n) ≡ take n (drop a s)
unfolding between
between_take s a n h =
    let d : a + n - a ≡ n = omega arith in
    pick_true _ _ _ (le-leb a (a + n) (omega arith)) ∙ pick_true _ _ _ (le-leb (a + n) (length s) h) ∙ ap (λ (m : ℕ). take m (drop a s)) d

abbrev Right : List ℕ → Lexed → Type 0
Right s (Found t) =
    (eqb t.kind name ≡ true → is_name (between s t.start t.end) ≡ true)
    × (eqb t.kind string ≡ true → is_string (between s (t.start + 1) (t.end - 1)) ≡ true)
Right s (Refused q p) = (5 ≤ q) × (q ≤ 8)
Right s End = Unit {0}

-- neither a name nor a string
abbrev is_other : ℕ → Bool
is_other k = not (eqb k name) && not (eqb k string)

no_string : (ks : List ℕ) (w : List ℕ) → every is_other ks ≡ true → eqb (kind_among ks w) string ≡ false
unfolding kind_among every
no_string [] w e = refl
no_string (k ∷ ks) w e =
    by_cases (λ (j : ℕ). eqb j string ≡ false) (same_bytes w (spelled k)) k (kind_among ks w)
    (λ _. not_true _ (both_right (not (eqb k name)) (not (eqb k string)) (both_left (is_other k) (every is_other ks) e)))
    (λ _. no_string ks w (both_right (is_other k) (every is_other ks) e))

module _ (s : List ℕ) (i : ℕ) (h : i < length s) where
  name_bytes : is_letter (get_or s i 0) ≡ true → run is_name_byte (drop i s) ≤ max_name → is_name (take (run is_name_byte (drop i s)) (drop i s)) ≡ true
  unfolding is_name
  name_bytes e l =
      let r = run is_name_byte (drop (i + 1) s) in
      let g : run is_name_byte (drop i s) ≡ suc r = run_go s i h is_name_byte (letter_name (get_or s i 0) e) in
      let f : length (take r (drop (i + 1) s)) ≤ r = take_few r (drop (i + 1) s) in
      rw (g, cons_at s i h) (both_true _ _ e (both_true _ _ (run_class is_name_byte (drop (i + 1) s)) (lt-ltb (length (take r (drop (i + 1) s))) max_name (omega arith))))

  name_right : is_letter (get_or s i 0) ≡ true → Right s (name_at s i)
  unfolding name_at every
  name_right e =
      let n = run is_name_byte (drop i s) in
      by_cases (Right s) (leb n 32) _ _
      (λ l. (
        (λ _. ap is_name (between_take s i n (run_within is_name_byte s i (omega arith))) ∙ name_bytes e (leb-true n 32 l)),
        (λ q. true_false (sym q ∙ no_string reserved (take n (drop i s)) refl)),
      ))
      (λ _. (omega arith, omega arith))

  number_right : Right s (number_at s i)
  unfolding number_at
  number_right = by_cases (Right s) (leb (decimal 0 (drop i s)) top) _ _ (λ _. ((λ q. true_false (sym q)), (λ q. true_false (sym q)))) (λ _. (omega arith, omega arith))

  string_right : Right s (string_at s i (run is_string_byte (drop (i + 1) s)))
  unfolding string_at is_string
  string_right =
      let n = run is_string_byte (drop (i + 1) s) in
      let d : i + 1 + n + 1 - 1 ≡ i + 1 + n = omega arith in
      let f : length (take n (drop (i + 1) s)) ≤ n = take_few n (drop (i + 1) s) in
      by_cases (Right s) (eqb (get_or s (i + 1 + n) 0) 34) _ _
      (λ _. by_cases (Right s) (leb n 64) _ _
      (λ l. (
        (λ q. true_false (sym q)),
        (λ _. ap (λ (e : ℕ). is_string (between s (i + 1) e)) d
            ∙ ap is_string (between_take s (i + 1) n (run_within is_string_byte s (i + 1) (omega arith)))
            ∙ both_true _ _ (run_class is_string_byte (drop (i + 1) s)) (le-leb (length (take n (drop (i + 1) s))) max_string (let m : n ≤ 64 = leb-true n 64 l in omega arith))),
      ))
      (λ _. (omega arith, omega arith)))
      (λ _. (omega arith, omega arith))

  mark_right : (ks : List ℕ) → every is_other ks ≡ true → Right s (mark_at ks s i)
  unfolding mark_at every
  mark_right [] e = (omega arith, omega arith)
  mark_right (k ∷ ks) e =
      let o = both_left (is_other k) (every is_other ks) e in
      by_cases (Right s) (goes_on (drop i s) k) _ _
      (λ _. (
        (λ q. true_false (sym q ∙ not_true _ (both_left (not (eqb k name)) (not (eqb k string)) o))),
        (λ q. true_false (sym q ∙ not_true _ (both_right (not (eqb k name)) (not (eqb k string)) o))),
      ))
      (λ _. mark_right ks (both_right (is_other k) (every is_other ks) e))

  start_right : Right s (start_at s i (get_or s i 0))
  unfolding start_at every
  start_right =
      let b = get_or s i 0 in
      by_cases (Right s) (is_text b) _ _
      (λ _. by_cases (Right s) (is_letter b) _ _ name_right
      (λ _. by_cases (Right s) (is_digit b) _ _ (λ _. number_right)
      (λ _. by_cases (Right s) (eqb b 34) _ _ (λ _. string_right) (λ _. mark_right marks refl))))
      (λ _. (omega arith, omega arith))

right : (s : List ℕ) (at : ℕ) → Right s (token_at s at)
unfolding token_at here
right s at =
    let i = at + gap false (drop at s) in
    by_cases (Right s) (ltb i (length s)) _ _ (λ e. start_right s i (ltb-true _ _ e)) (λ _. tt)

pub name_token : (s : List ℕ) (at : ℕ) (t : Token) → token_at s at ≡ Found t → eqb t.kind name ≡ true → is_name (between s t.start t.end) ≡ true
name_token s at t e = (subst (Right s) e (right s at)).0

pub string_token : (s : List ℕ) (at : ℕ) (t : Token) → token_at s at ≡ Found t → eqb t.kind string ≡ true → is_string (between s (t.start + 1) (t.end - 1)) ≡ true
string_token s at t e = (subst (Right s) e (right s at)).1

pub refused_kind : (s : List ℕ) (at q p : ℕ) → token_at s at ≡ Refused q p → (5 ≤ q) × (q ≤ 8)
refused_kind s at q p e = subst (Right s) e (right s at)
