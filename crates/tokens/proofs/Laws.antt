-- How runs, numbers and gaps go on from an index of a text, and where they end. Assumes nothing.
use mathlib.Core.Path.{◌≡◌, refl, sym, ap, ◌∙◌}
use mathlib.Core.List.{List, [], ◌∷◌}
use mathlib.Core.Bool.{Bool, true, false}
use Prim.Native.Nat.{ℕ, suc, ◌+◌, ◌-◌, ◌*◌, ◌<◌, ◌≤◌, min}
use native.Mathlib.Omega.{arith}
use lib.ListN.{length, get_or, drop, length-drop}
use lib.Dec.{eqb, leb}
use borrow.Author.Tests.{eq-eqb, ne_eqb, eqb-true, eqb-false, leb-true, le-leb}
use Rattle.laws.specs.Choice.{pick}
use Rattle.laws.specs.Bytes.{starts_with}
use Rattle.laws.proofs.Choice.{pick_true, pick_false, true_false}
use Rattle.laws.proofs.Lists.{cons_at, next_at}
use Rattle.tokens.specs.Tokens.{digits_at}
use Rattle.tokens.specs.Classes.{within, is_letter, is_digit, is_printable, is_blank, is_text, run, decimal, gap}

-- a letter, a digit and a quote are text
within_true : (b lo hi : ℕ) → within b lo hi ≡ true → (lo ≤ b) × (b ≤ hi)
unfolding within pick
within_true b lo hi = go (leb lo b) refl
  where
    go : (x : Bool) → leb lo b ≡ x → pick x (leb b hi) false ≡ true → (lo ≤ b) × (b ≤ hi)
    go true e f = (leb-true lo b e, leb-true b hi f)
    go false e f = true_false (sym f)

printable : (b : ℕ) → 32 ≤ b → b ≤ 126 → is_text b ≡ true
unfolding is_text is_printable within pick
printable b h k = rw (le-leb 32 b h, le-leb b 126 k)

pub letter_text : (b : ℕ) → is_letter b ≡ true → is_text b ≡ true
unfolding is_letter pick
letter_text b = go (within b 97 122) refl
  where
    go : (x : Bool) → within b 97 122 ≡ x → pick x true (within b 65 90) ≡ true → is_text b ≡ true
    go true e f =
        let w = within_true b 97 122 e in
        printable b (omega (arith, w.0)) (omega (arith, w.1))
    go false e f =
        let w = within_true b 65 90 f in
        printable b (omega (arith, w.0)) (omega (arith, w.1))

pub digit_text : (b : ℕ) → is_digit b ≡ true → is_text b ≡ true
unfolding is_digit
digit_text b e =
    let w = within_true b 48 57 e in
    printable b (omega (arith, w.0)) (omega (arith, w.1))

pub quote_text : (b : ℕ) → b ≡ 34 → is_text b ≡ true
quote_text b e = printable b (omega (arith, e)) (omega (arith, e))

-- what is no text is no blank and no slash
not_blank : (b : ℕ) → is_text b ≡ false → is_blank b ≡ false
unfolding is_text pick
not_blank b = go (is_printable b)
  where
    go : (x : Bool) → pick x true (is_blank b) ≡ false → is_blank b ≡ false
    go true f = true_false f
    go false f = f

not_slash : (b : ℕ) → is_text b ≡ false → b ≡ 47 → ⊥
unfolding is_text is_printable within pick
not_slash b f g = true_false (ap is_text (sym g) ∙ f)

module _ (s : List ℕ) (i : ℕ) (h : i < length s) where
  pub run_go : (p : ℕ → Bool) → p (get_or s i 0) ≡ true → run p (drop i s) ≡ suc (run p (drop (i + 1) s))
  unfolding run pick
  run_go p e = rw (cons_at s i h, e)

  pub run_stop : (p : ℕ → Bool) → p (get_or s i 0) ≡ false → run p (drop i s) ≡ 0
  unfolding run pick
  run_stop p e = rw (cons_at s i h, e)

  pub decimal_go : (v : ℕ) → is_digit (get_or s i 0) ≡ true → decimal v (drop i s) ≡ decimal (v * 10 + (get_or s i 0 - 48)) (drop (i + 1) s)
  unfolding decimal pick
  decimal_go v e = rw (cons_at s i h, e)

  pub decimal_stop : (v : ℕ) → is_digit (get_or s i 0) ≡ false → decimal v (drop i s) ≡ v
  unfolding decimal pick
  decimal_stop v e = rw (cons_at s i h, e)

  -- outside: a blank goes on, `//` opens a comment, any other byte ends the gap
  pub blank_goes : is_blank (get_or s i 0) ≡ true → gap false (drop i s) ≡ suc (gap false (drop (i + 1) s))
  unfolding gap pick
  blank_goes e = rw (cons_at s i h, e)

  pub blank_stops : is_blank (get_or s i 0) ≡ false → (get_or s i 0 ≡ 47 → ⊥) → gap false (drop i s) ≡ 0
  unfolding gap starts_with pick
  blank_stops e n = rw (cons_at s i h, e, ne_eqb (get_or s i 0) 47 n)

  slash_at : get_or s i 0 ≡ 47 → is_blank (get_or s i 0) ≡ false → gap false (drop i s) ≡ pick (eqb (get_or s (i + 1) 0) 47) (suc (gap true (drop (i + 1) s))) 0
  unfolding gap starts_with pick
  slash_at b e = rw (cons_at s i h, e, eq-eqb (get_or s i 0) 47 b, ← next_at s i) (go (drop (i + 1) s))
    where
      go : (t : List ℕ) → pick (starts_with t (47 ∷ [])) (suc (gap true t)) 0 ≡ pick (eqb (get_or t 0 0) 47) (suc (gap true t)) 0
      go [] = refl
      go (x ∷ t) = near (eqb x 47)
        where
          near : (y : Bool) → pick (pick y true false) (suc (gap true (x ∷ t))) 0 ≡ pick y (suc (gap true (x ∷ t))) 0
          near true = refl
          near false = refl

  -- whether a comment opens at i, as the code tests it
  abbrev pub opened : Bool
  opened = pick (eqb (get_or s i 0) 47) (eqb (get_or s (i + 1) 0) 47) false

  pub comment_opens : is_blank (get_or s i 0) ≡ false → opened ≡ true → gap false (drop i s) ≡ suc (gap true (drop (i + 1) s))
  unfolding pick
  comment_opens e = go (eqb (get_or s i 0) 47) refl
    where
      go : (x : Bool) → eqb (get_or s i 0) 47 ≡ x → pick x (eqb (get_or s (i + 1) 0) 47) false ≡ true → gap false (drop i s) ≡ suc (gap true (drop (i + 1) s))
      go true f g = slash_at (eqb-true (get_or s i 0) 47 f) e ∙ pick_true _ _ _ g
      go false f g = true_false (sym g)

  pub no_comment : is_blank (get_or s i 0) ≡ false → opened ≡ false → gap false (drop i s) ≡ 0
  unfolding pick
  no_comment e = go (eqb (get_or s i 0) 47) refl
    where
      go : (x : Bool) → eqb (get_or s i 0) 47 ≡ x → pick x (eqb (get_or s (i + 1) 0) 47) false ≡ false → gap false (drop i s) ≡ 0
      go true f g = slash_at (eqb-true (get_or s i 0) 47 f) e ∙ pick_false _ _ _ g
      go false f g = blank_stops e (eqb-false (get_or s i 0) 47 f)

  -- a byte that is no text ends the gap outside a comment too
  pub other_stops : is_text (get_or s i 0) ≡ false → gap false (drop i s) ≡ 0
  other_stops e = blank_stops (not_blank (get_or s i 0) e) (not_slash (get_or s i 0) e)

-- a run ends within its list
run_length : (p : ℕ → Bool) (t : List ℕ) → run p t ≤ length t
unfolding run pick
run_length p [] = omega arith
run_length p (x ∷ t) = go (p x) (run_length p t)
  where
    go : (y : Bool) → run p t ≤ length t → pick y (suc (run p t)) 0 ≤ length (x ∷ t)
    go true r = omega arith
    go false r = omega arith

pub run_within : (p : ℕ → Bool) (s : List ℕ) (i : ℕ) → i ≤ length s → i + run p (drop i s) ≤ length s
run_within p s i h = omega (arith, run_length p (drop i s), length-drop i s)

-- two numbers that look alike up to a limit stay so as digits follow
pub decimal_min : (m a b : ℕ) (xs : List ℕ) → min a m ≡ min b m → min (decimal a xs) m ≡ min (decimal b xs) m
unfolding decimal pick
decimal_min m a b [] e = e
decimal_min m a b (x ∷ xs) e = go (decimal_min m (a * 10 + (x - 48)) (b * 10 + (x - 48)) xs (omega arith)) (is_digit x)
  where
    go : min (decimal (a * 10 + (x - 48)) xs) m ≡ min (decimal (b * 10 + (x - 48)) xs) m → (t : Bool) → min (pick t (decimal (a * 10 + (x - 48)) xs) a) m ≡ min (pick t (decimal (b * 10 + (x - 48)) xs) b) m
    go r true = r
    go r false = e

pub digits_are : (s : List ℕ) (at e v : ℕ) → e ≡ at + run is_digit (drop at s) → v ≡ min (decimal 0 (drop at s)) 9223372036854775809
    → record { end = e; value = v } ≡ digits_at s at
digits_are s at e v p q = λ i. record { end = p i; value = q i }
