-- The mark at a place by its first byte: what the search through all marks comes to. Assumes nothing.
use mathlib.Core.Path.{◌≡◌, refl, sym, ap, ◌∙◌}
use mathlib.Core.List.{List, [], ◌∷◌}
use mathlib.Core.Bool.{Bool, true, false}
use Prim.Native.Nat.{ℕ, ◌+◌, ◌<◌}
use lib.ListN.{length, get_or, drop}
use lib.Seq.{get_or-drop}
use lib.Dec.{eqb}
use borrow.Author.Tests.{eqb-true, ne_eqb}
use Rattle.laws.specs.Choice.{pick}
use Rattle.laws.specs.Bytes.{starts_with}
use Rattle.laws.proofs.Lists.{cons_at}
use Rattle.words.specs.Words.{spelled, set_arrow, ok_arrow, maps_to, value_arrow, asset_arrow, state_arrow, event_mark, equal, unequal, at_most, at_least, and_mark, or_mark, minus_mark, less, greater}
use Rattle.tokens.specs.Classes.{is_name_byte}
use Rattle.tokens.specs.Tokens.{token, marks, goes_on, mark_at}
use Rattle.tokens.specs.declared.Lexed.{Lexed}
use Rattle.tokens.specs.declared.Lexed.TheVariants.{Refused}

-- the first of the marks that a text goes on with, placed at i
unfoldable pub from : List ℕ → List ℕ → ℕ → Lexed
from [] t i = Refused 6 i
from (k ∷ ks) t i = pick (goes_on t k) (token k i (i + length (spelled k)) 0) (from ks t i)

at_from : (ks s t : List ℕ) (i : ℕ) → drop i s ≡ t → mark_at ks s i ≡ from ks t i
unfolding mark_at from
at_from [] s t i e = refl
at_from (k ∷ ks) s t i e = rw (e, at_from ks s t i e)

-- what follows the first byte, as the code tests it: t is the text from that byte on

abbrev of_minus : ℕ → List ℕ → Lexed
of_minus i t =
    pick (eqb (get_or t 1 0) 62) (token value_arrow i (i + 2) 0)
    (pick (eqb (get_or t 1 0) 111)
    (pick (is_name_byte (get_or t 2 0)) (token minus_mark i (i + 1) 0) (token asset_arrow i (i + 2) 0))
    (token minus_mark i (i + 1) 0))

abbrev of_equals : ℕ → List ℕ → Lexed
of_equals i t =
    pick (eqb (get_or t 1 0) 62) (token state_arrow i (i + 2) 0)
    (pick (eqb (get_or t 1 0) 61) (token equal i (i + 2) 0)
    (pick (starts_with t (spelled set_arrow)) (token set_arrow i (i + 6) 0)
    (pick (starts_with t (spelled ok_arrow)) (token ok_arrow i (i + 5) 0) (Refused 6 i))))

abbrev of_bar : ℕ → List ℕ → Lexed
of_bar i t =
    pick (starts_with t (spelled maps_to)) (token maps_to i (i + 3) 0)
    (pick (eqb (get_or t 1 0) 124) (token or_mark i (i + 2) 0) (Refused 6 i))

abbrev of_greater : ℕ → List ℕ → Lexed
of_greater i t =
    pick (eqb (get_or t 1 0) 62) (token event_mark i (i + 2) 0)
    (pick (eqb (get_or t 1 0) 61) (token at_least i (i + 2) 0) (token greater i (i + 1) 0))

-- the second byte chooses between a mark of two bytes and something else
abbrev of_two : ℕ → ℕ → Lexed → ℕ → List ℕ → Lexed
of_two second long other i t = pick (eqb (get_or t 1 0) second) (token long i (i + 2) 0) other

minus_from : (t : List ℕ) (i : ℕ) → from marks (45 ∷ t) i ≡ of_minus i (45 ∷ t)
unfolding from goes_on starts_with spelled pick
minus_from [] i = refl
minus_from (x ∷ t) i = go (eqb x 62) (eqb x 111) (is_name_byte (get_or t 0 0)) refl refl refl
  where
    go : (a b d : Bool) → eqb x 62 ≡ a → eqb x 111 ≡ b → is_name_byte (get_or t 0 0) ≡ d → from marks (45 ∷ x ∷ t) i ≡ of_minus i (45 ∷ x ∷ t)
    go true b d e f g = rw e
    go false true true e f g = rw (e, f, g)
    go false true false e f g = rw (e, f, g)
    go false false d e f g = rw (e, f)

equals_from : (t : List ℕ) (i : ℕ) → from marks (61 ∷ t) i ≡ of_equals i (61 ∷ t)
unfolding from goes_on starts_with spelled pick
equals_from [] i = refl
equals_from (x ∷ t) i = go (eqb x 62) (eqb x 61) (starts_with (61 ∷ x ∷ t) (spelled set_arrow)) (starts_with (61 ∷ x ∷ t) (spelled ok_arrow)) refl refl refl refl
  where
    go : (a b d f : Bool) → eqb x 62 ≡ a → eqb x 61 ≡ b → starts_with (61 ∷ x ∷ t) (spelled set_arrow) ≡ d → starts_with (61 ∷ x ∷ t) (spelled ok_arrow) ≡ f → from marks (61 ∷ x ∷ t) i ≡ of_equals i (61 ∷ x ∷ t)
    go true b d f p q r s = rw (eqb-true x 62 p)
    go false true d f p q r s = rw (eqb-true x 61 q)
    go false false true f p q r s = rw (p, q, r)
    go false false false true p q r s = rw (p, q, r, s)
    go false false false false p q r s = rw (p, q, r, s)

bar_from : (t : List ℕ) (i : ℕ) → from marks (124 ∷ t) i ≡ of_bar i (124 ∷ t)
unfolding from goes_on starts_with spelled pick
bar_from [] i = refl
bar_from (x ∷ t) i = go (starts_with (124 ∷ x ∷ t) (spelled maps_to)) (eqb x 124) refl refl
  where
    go : (a b : Bool) → starts_with (124 ∷ x ∷ t) (spelled maps_to) ≡ a → eqb x 124 ≡ b → from marks (124 ∷ x ∷ t) i ≡ of_bar i (124 ∷ x ∷ t)
    go true b p q = rw p
    go false true p q = rw (p, q)
    go false false p q = rw (p, q)

greater_from : (t : List ℕ) (i : ℕ) → from marks (62 ∷ t) i ≡ of_greater i (62 ∷ t)
unfolding from goes_on starts_with spelled pick
greater_from [] i = refl
greater_from (x ∷ t) i = go (eqb x 62) (eqb x 61) refl refl
  where
    go : (a b : Bool) → eqb x 62 ≡ a → eqb x 61 ≡ b → from marks (62 ∷ x ∷ t) i ≡ of_greater i (62 ∷ x ∷ t)
    go true b p q = rw p
    go false true p q = rw (p, q)
    go false false p q = rw (p, q)

less_from : (t : List ℕ) (i : ℕ) → from marks (60 ∷ t) i ≡ of_two 61 at_most (token less i (i + 1) 0) i (60 ∷ t)
unfolding from goes_on starts_with spelled pick
less_from [] i = refl
less_from (x ∷ t) i = go (eqb x 61) refl
  where
    go : (y : Bool) → eqb x 61 ≡ y → from marks (60 ∷ x ∷ t) i ≡ of_two 61 at_most (token less i (i + 1) 0) i (60 ∷ x ∷ t)
    go true e = rw e
    go false e = rw e

unequal_from : (t : List ℕ) (i : ℕ) → from marks (33 ∷ t) i ≡ of_two 61 unequal (Refused 6 i) i (33 ∷ t)
unfolding from goes_on starts_with spelled pick
unequal_from [] i = refl
unequal_from (x ∷ t) i = go (eqb x 61) refl
  where
    go : (y : Bool) → eqb x 61 ≡ y → from marks (33 ∷ x ∷ t) i ≡ of_two 61 unequal (Refused 6 i) i (33 ∷ x ∷ t)
    go true e = rw e
    go false e = rw e

and_from : (t : List ℕ) (i : ℕ) → from marks (38 ∷ t) i ≡ of_two 38 and_mark (Refused 6 i) i (38 ∷ t)
unfolding from goes_on starts_with spelled pick
and_from [] i = refl
and_from (x ∷ t) i = go (eqb x 38) refl
  where
    go : (y : Bool) → eqb x 38 ≡ y → from marks (38 ∷ x ∷ t) i ≡ of_two 38 and_mark (Refused 6 i) i (38 ∷ x ∷ t)
    go true e = rw e
    go false e = rw e

-- b is none of the bytes, the last of them first
abbrev pub NoneOf : ℕ → List ℕ → Type 0
NoneOf b [] = Unit {0}
NoneOf b (k ∷ ks) = NoneOf b ks × (b ≡ k → ⊥)

-- the bytes that start a mark, in the order in which the code tests them, the last first
abbrev pub firsts : List ℕ
firsts = 38 ∷ 33 ∷ 62 ∷ 60 ∷ 124 ∷ 61 ∷ 45 ∷ 126 ∷ 47 ∷ 42 ∷ 43 ∷ 95 ∷ 64 ∷ 58 ∷ 44 ∷ 93 ∷ 91 ∷ 125 ∷ 123 ∷ 41 ∷ 40 ∷ []

none_from : (b : ℕ) (t : List ℕ) (i : ℕ) → NoneOf b firsts → from marks (b ∷ t) i ≡ Refused 6 i
unfolding from goes_on starts_with spelled pick
none_from b t i (((((((((((((((((((((_, n40), n41), n123), n125), n91), n93), n44), n58), n64), n95), n43), n42), n47), n126), n45), n61), n124), n60), n62), n33), n38) =
    rw (
      ne_eqb b 61 n61,
      ne_eqb b 124 n124,
      ne_eqb b 45 n45,
      ne_eqb b 62 n62,
      ne_eqb b 33 n33,
      ne_eqb b 60 n60,
      ne_eqb b 38 n38,
      ne_eqb b 40 n40,
      ne_eqb b 41 n41,
      ne_eqb b 123 n123,
      ne_eqb b 125 n125,
      ne_eqb b 91 n91,
      ne_eqb b 93 n93,
      ne_eqb b 44 n44,
      ne_eqb b 58 n58,
      ne_eqb b 64 n64,
      ne_eqb b 95 n95,
      ne_eqb b 43 n43,
      ne_eqb b 42 n42,
      ne_eqb b 47 n47,
      ne_eqb b 126 n126,
    )

module _ (s : List ℕ) (i : ℕ) (h : i < length s) where
  by : (b : ℕ) (f : List ℕ → Lexed) → ((t : List ℕ) → from marks (b ∷ t) i ≡ f (b ∷ t)) → get_or s i 0 ≡ b → mark_at marks s i ≡ f (drop i s)
  by b f l e =
      let d : drop i s ≡ b ∷ drop (i + 1) s = cons_at s i h ∙ ap (λ (x : ℕ). x ∷ drop (i + 1) s) e in
      at_from marks s (b ∷ drop (i + 1) s) i d ∙ l (drop (i + 1) s) ∙ ap f (sym d)

  -- a mark of one byte that starts no other
  pub single : (b k : ℕ) → ((t : List ℕ) → from marks (b ∷ t) i ≡ token k i (i + 1) 0) → get_or s i 0 ≡ b → mark_at marks s i ≡ token k i (i + 1) 0
  single b k l e = by b (λ (t : List ℕ). token k i (i + 1) 0) l e

  pub minus : get_or s i 0 ≡ 45 → mark_at marks s i ≡
      pick (eqb (get_or s (i + 1) 0) 62) (token value_arrow i (i + 2) 0)
      (pick (eqb (get_or s (i + 1) 0) 111)
      (pick (is_name_byte (get_or s (i + 2) 0)) (token minus_mark i (i + 1) 0) (token asset_arrow i (i + 2) 0))
      (token minus_mark i (i + 1) 0))
  minus e = rw (← get_or-drop i s 1 0, ← get_or-drop i s 2 0) (by 45 (of_minus i) (λ t. minus_from t i) e)

  pub equals : get_or s i 0 ≡ 61 → mark_at marks s i ≡
      pick (eqb (get_or s (i + 1) 0) 62) (token state_arrow i (i + 2) 0)
      (pick (eqb (get_or s (i + 1) 0) 61) (token equal i (i + 2) 0)
      (pick (starts_with (drop i s) (spelled set_arrow)) (token set_arrow i (i + 6) 0)
      (pick (starts_with (drop i s) (spelled ok_arrow)) (token ok_arrow i (i + 5) 0) (Refused 6 i))))
  equals e = rw (← get_or-drop i s 1 0) (by 61 (of_equals i) (λ t. equals_from t i) e)

  pub bar : get_or s i 0 ≡ 124 → mark_at marks s i ≡
      pick (starts_with (drop i s) (spelled maps_to)) (token maps_to i (i + 3) 0)
      (pick (eqb (get_or s (i + 1) 0) 124) (token or_mark i (i + 2) 0) (Refused 6 i))
  bar e = rw (← get_or-drop i s 1 0) (by 124 (of_bar i) (λ t. bar_from t i) e)

  pub greater_than : get_or s i 0 ≡ 62 → mark_at marks s i ≡
      pick (eqb (get_or s (i + 1) 0) 62) (token event_mark i (i + 2) 0)
      (pick (eqb (get_or s (i + 1) 0) 61) (token at_least i (i + 2) 0) (token greater i (i + 1) 0))
  greater_than e = rw (← get_or-drop i s 1 0) (by 62 (of_greater i) (λ t. greater_from t i) e)

  two : (b second long : ℕ) (other : Lexed) → ((t : List ℕ) → from marks (b ∷ t) i ≡ of_two second long other i (b ∷ t)) → get_or s i 0 ≡ b
      → mark_at marks s i ≡ pick (eqb (get_or s (i + 1) 0) second) (token long i (i + 2) 0) other
  two b second long other l e = rw (← get_or-drop i s 1 0) (by b (of_two second long other i) l e)

  pub less_than : get_or s i 0 ≡ 60 → mark_at marks s i ≡ pick (eqb (get_or s (i + 1) 0) 61) (token at_most i (i + 2) 0) (token less i (i + 1) 0)
  less_than e = two 60 61 at_most (token less i (i + 1) 0) (λ t. less_from t i) e

  pub exclamation : get_or s i 0 ≡ 33 → mark_at marks s i ≡ pick (eqb (get_or s (i + 1) 0) 61) (token unequal i (i + 2) 0) (Refused 6 i)
  exclamation e = two 33 61 unequal (Refused 6 i) (λ t. unequal_from t i) e

  pub ampersand : get_or s i 0 ≡ 38 → mark_at marks s i ≡ pick (eqb (get_or s (i + 1) 0) 38) (token and_mark i (i + 2) 0) (Refused 6 i)
  ampersand e = two 38 38 and_mark (Refused 6 i) (λ t. and_from t i) e

  -- a byte that starts no mark
  pub no_mark : NoneOf (get_or s i 0) firsts → mark_at marks s i ≡ Refused 6 i
  no_mark n = by (get_or s i 0) (λ (t : List ℕ). Refused 6 i) (λ t. none_from (get_or s i 0) t i n) refl
