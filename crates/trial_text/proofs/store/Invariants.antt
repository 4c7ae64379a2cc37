-- What is still to be written gives the same numbers as all of it did at first. Assumes nothing.
use Rattle.std.proofs.Common.{◌≡◌, ℕ, ◌+◌, List, length, map, drop}
use Rattle.trial_text.specs.Numbers.{words, natural, overwritten}
use Rattle.trial_text.proofs.store.Given as goal

abbrev pub invariant-loop-place : goal.invariant-loop-place
invariant-loop-place l =
    let numbers : List ℕ = map (natural 64) (words l.text) in
    record {
      can : (goal.iterator-loop-place).can_next l.place-iterator;
      ends : (goal.iterator-loop-place).is_finite l.place-iterator;
      size : length l.numbers ≡ length l.initial.numbers;
      rest : overwritten (l.from + length l.yielded) (drop (length l.yielded) numbers) l.numbers ≡ overwritten l.from numbers l.initial.numbers;
    }
