-- A slice stays as it was where a step has no labels, and where it has fewer than 64 entries. Assumes nothing.
use mathlib.Core.Path.{◌≡◌, refl}
use mathlib.Core.Bool.{Bool, true, false, cond}
use mathlib.Core.List.{List, ◌++◌}
use Prim.Native.Nat.{ℕ, ◌<◌, min}
use native.Mathlib.Omega.{arith}
use borrow.Author.Tests.{lt-ltb}
use lib.Dec.{ltb}
use lib.ListN.{length, take, drop}
use Rattle.statements.specs.declared.Label.{Label}
use Rattle.questions.specs.declared.Question.{Question}
use Rattle.outcomes.specs.declared.Stepped.{Stepped}
use Rattle.steps.specs.Left.{count_of, copied_of, slots_of}

none_written : (old from : List Label) (c : ℕ) → c ≡ 0 → take c from ++ drop c old ≡ old
none_written old from c e = rw e refl

count_none : (s n : ℕ) → n ≡ 0 → count_of s n ≡ 0
count_none s n e = go (ltb s 64)
  where
    go : (t : Bool) → cond t 0 (min 64 n) ≡ 0
    go true = refl
    go false = omega arith

pub kept : (old : List Label) (r : Stepped Question) → r.count ≡ 0 → slots_of old r ≡ old
unfolding copied_of
kept old r e = none_written old r.labels _ (count_none (length old) r.count e)

pub short_kept : (old : List Label) (r : Stepped Question) → length old < 64 → slots_of old r ≡ old
unfolding copied_of
short_kept old r h = none_written old r.labels (count_of (length old) r.count) (simp (lt-ltb (length old) 64 h))
