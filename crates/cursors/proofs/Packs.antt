-- A cursor, and a parser's answer, as one number. Assumes nothing.
use mathlib.Core.Path.{◌≡◌, sym, ap, ◌∙◌}
use mathlib.Core.Bool.{true, false}
use mathlib.Core.List.{List}
use Prim.Native.Nat.{ℕ, ◌+◌, ◌*◌, ◌/◌, ◌%◌, ◌<◌}
use native.Mathlib.Omega.{arith}
use lib.ListN.{length}
use lib.Dec.{eqb}
use borrow.Author.Tests.{le-leb, lt-leb}
use Rattle.laws.specs.Choice.{pick}
use Rattle.laws.proofs.Choice.{pick_true, pick_false}
use Rattle.tokens.specs.Tokens.{number, token_at}
use Rattle.tokens.specs.declared.Token.{Token}
use Rattle.tokens.specs.declared.Lexed.{Lexed}
use Rattle.tokens.specs.declared.Lexed.TheVariants.{Found, Refused, End}
use Rattle.reading_laws.specs.Walk.{On, Stop, no_token, text_end, cursor_of, cursor_at}
use Rattle.cursors.specs.Packed.{kind_in, start_in, end_in, at_in, question_in, is_stop, digits_at, cursor_in, step_in, clipped}

-- it goes on
pub step_in_on : (s : List ℕ) (r : ℕ) → is_stop r ≡ false → step_in s r ≡ On (cursor_in s r)
unfolding step_in
step_in_on s r e = pick_false (is_stop r) (Stop (kind_in r) (start_in r)) (On (cursor_in s r)) e

-- it stops
pub step_in_stop : (s : List ℕ) (r : ℕ) → is_stop r ≡ true → step_in s r ≡ Stop (kind_in r) (start_in r)
unfolding step_in
step_in_stop s r e = pick_true (is_stop r) (Stop (kind_in r) (start_in r)) (On (cursor_in s r)) e

-- a refusal says nothing of the text
pub step_in_any : (s t : List ℕ) (r : ℕ) → is_stop r ≡ true → step_in s r ≡ step_in t r
step_in_any s t r e = step_in_stop s r e ∙ sym (step_in_stop t r e)

-- a cursor is no refusal
pub goes_on : (k q a e at : ℕ) → k < 256 → q < 256 → a < 32768 → e < 32768 → at < 32768
    → is_stop (k + (256 * a + 8388608 * e + 274877906944 * at) + 9007199254740992 * q) ≡ false
goes_on k q a e at hk hq ha he hat = lt-leb 2305843009213693952 (k + (256 * a + 8388608 * e + 274877906944 * at) + 9007199254740992 * q) (omega arith)

-- a refusal of question q at p
abbrev refusal : ℕ → ℕ → ℕ
refusal q p = q + 256 * p + 2305843009213693952

pub refusal_stops : (q p : ℕ) → is_stop (refusal q p) ≡ true
refusal_stops q p = le-leb 2305843009213693952 (refusal q p) (omega arith)

refusal_kind : (q p : ℕ) → q < 256 → kind_in (refusal q p) ≡ q
refusal_kind q p hq = omega arith

refusal_place : (q p : ℕ) → q < 256 → p < 32768 → start_in (refusal q p) ≡ p
refusal_place q p hq hp =
    let d : refusal q p / 256 ≡ p + 9007199254740992 = omega arith in
    ap (λ (x : ℕ). x % 32768) d ∙ low p hp
  where
    low : (x : ℕ) → x < 32768 → (x + 9007199254740992) % 32768 ≡ x
    low x h = omega arith

pub refusal_step_in : (s : List ℕ) (q p : ℕ) → q < 256 → p < 32768 → step_in s (refusal q p) ≡ Stop q p
refusal_step_in s q p hq hp =
    step_in_stop s (refusal q p) (refusal_stops q p) ∙ (λ t. Stop (refusal_kind q p hq t) (refusal_place q p hq hp t))

-- a number's parts
pub record Parted (r k q a e at : ℕ) : Type 0 where
  pub kind : kind_in r ≡ k
  pub question : question_in r ≡ q
  pub start : start_in r ≡ a
  pub end : end_in r ≡ e
  pub place : at_in r ≡ at

-- the cursor of its parts
pub cursor_in_of :
    (s : List ℕ) (r k q a e at : ℕ) → Parted r k q a e at
    → cursor_in s r ≡ record { at = at; kind = k; question = q; start = a; end = e; value = pick (eqb k number) (digits_at s a) 0 }
unfolding cursor_in
cursor_in_of s r k q a e at p =
    λ t. record {
      at = p.place t;
      kind = p.kind t;
      question = p.question t;
      start = p.start t;
      end = p.end t;
      value = pick (eqb (p.kind t) number) (digits_at s (p.start t)) 0;
    }

-- the cursor at a token, at a refusal, at the text's end
pub cursor_in_found :
    (s : List ℕ) (r at : ℕ) (t : Token) → token_at s at ≡ Found t
    → Parted r t.kind 9 (t.start % 32768) (t.end % 32768) (at % 32768) → cursor_in s r ≡ clipped s (cursor_at s at)
unfolding cursor_of clipped
cursor_in_found s r at t h p =
    cursor_in_of s r t.kind 9 (t.start % 32768) (t.end % 32768) (at % 32768) p
    ∙ ap (λ (l : Lexed). clipped s (cursor_of s at l)) (sym h)

pub cursor_in_refused :
    (s : List ℕ) (r at q o : ℕ) → token_at s at ≡ Refused q o
    → Parted r no_token q (o % 32768) (o % 32768) (at % 32768) → cursor_in s r ≡ clipped s (cursor_at s at)
unfolding cursor_of clipped
cursor_in_refused s r at q o h p =
    cursor_in_of s r no_token q (o % 32768) (o % 32768) (at % 32768) p
    ∙ ap (λ (l : Lexed). clipped s (cursor_of s at l)) (sym h)

pub cursor_in_end :
    (s : List ℕ) (r at : ℕ) → token_at s at ≡ End
    → Parted r text_end 9 (length s % 32768) (length s % 32768) (at % 32768) → cursor_in s r ≡ clipped s (cursor_at s at)
unfolding cursor_of clipped
cursor_in_end s r at h p =
    cursor_in_of s r text_end 9 (length s % 32768) (length s % 32768) (at % 32768) p
    ∙ ap (λ (l : Lexed). clipped s (cursor_of s at l)) (sym h)
