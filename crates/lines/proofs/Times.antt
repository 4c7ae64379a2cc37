-- What a line asks for that is read as a tick or a jump. Assumes nothing.
use mathlib.Core.Path.{◌≡◌, refl, subst}
use mathlib.Core.Bool.{Bool, true, false}
use mathlib.Core.List.{List}
use Rattle.std.specs.Prelude.{None}
use Prim.Native.Nat.{ℕ}
use lib.IntN.{ℤ}
use Rattle.laws.specs.Choice.{pick}
use Rattle.laws.specs.Bytes.{bytes}
use Rattle.lines.specs.Lines.{Asked, tick, jump, Parsed, done, and_then, give, is_next, mark, end, integer, word, closed, jump_end, tick_line}
use Rattle.lines.specs.Answers.{agreement_in}
use Rattle.lines.proofs.Ahead.{then_done}

-- ---- what such a line asks for

pub data Timed : Asked → Type 0 where
  ticks : Timed tick
  jumps : (z : ℤ) → Timed (jump z)

pub timed_agreement : {a : Asked} → Timed a → agreement_in a ≡ None
timed_agreement ticks = refl
timed_agreement (jumps z) = refl

module _ (s : List ℕ) where
  closed_gives : {a b : Asked} {n : ℕ} (at : ℕ) → closed s a at ≡ done b n → a ≡ b
  unfolding closed
  closed_gives {a} {b} {n} at e =
      let x = then_done (mark s (bytes "]") at) (λ u k. and_then (end s k) (λ v. give a)) e in
      let y = then_done (end s x.place) (λ v. give a) x.rest in
      cc

  jump_gives : {a : Asked} {n : ℕ} (at : ℕ) → jump_end s at ≡ done a n → Timed a
  unfolding jump_end
  jump_gives at e =
      let x = then_done (integer s at) (λ z. closed s (jump z)) e in
      subst Timed (closed_gives x.place x.rest) (jumps x.got)

  after_word : ℕ → Parsed Asked
  after_word at = pick (is_next s (bytes "]") at) (closed s tick at) (jump_end s at)

  word_gives : {a : Asked} {n : ℕ} (at : ℕ) → after_word at ≡ done a n → Timed a
  unfolding after_word pick
  word_gives {a} {n} at e = go (is_next s (bytes "]") at) e
    where
      go : (b : Bool) → pick b (closed s tick at) (jump_end s at) ≡ done a n → Timed a
      go true q = subst Timed (closed_gives at q) ticks
      go false q = jump_gives at q

  pub record TickGave (a : Asked) : Type 0 where
    pub place : ℕ
    pub opened : mark s (bytes "[") 0 ≡ done tt place
    pub timed : Timed a

  pub tick_gives : {a : Asked} {n : ℕ} → tick_line s 0 ≡ done a n → TickGave a
  unfolding tick_line after_word
  tick_gives e =
      let x = then_done (mark s (bytes "[") 0) (λ u i. and_then (word s 39 i) (λ v. after_word)) e in
      let y = then_done (word s 39 x.place) (λ v. after_word) x.rest in
      record { place = x.place; opened = x.first; timed = word_gives y.place y.rest }
