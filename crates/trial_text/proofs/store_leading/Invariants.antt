-- What is still to be stored gives the same numbers as all of it did at first. Assumes nothing.
use Rattle.std.proofs.Common.{◌≡◌, ◌-◌, length}
use Rattle.trial_text.specs.Numbers.{leading_stored}
use Rattle.trial_text.proofs.store_leading.Given as goal

abbrev pub invariant-loop-place : goal.invariant-loop-place
invariant-loop-place l = leading_stored (length l.initial.numbers - l.place) l.place l.more l.numbers ≡ leading_stored (length l.initial.numbers - l.from) l.from l.text l.initial.numbers
