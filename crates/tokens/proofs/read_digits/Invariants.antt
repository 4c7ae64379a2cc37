-- The place and the run from there on make the same sum all along, and the value so far, followed by the digits from there on, is the same number up to the limit.
-- Assumes nothing.
use Rattle.std.proofs.Common.{◌≡◌, ◌+◌, ◌≤◌, min, drop}
use Rattle.tokens.specs.Classes.{is_digit, run, decimal}
use Rattle.tokens.proofs.read_digits.Given as goal

abbrev pub invariant-loop-end : goal.invariant-loop-end
invariant-loop-end l =
    (l.value ≤ 9223372036854775809)
    × (l.end + run is_digit (drop l.end l.text) ≡ l.at + run is_digit (drop l.at l.text))
    × (min (decimal l.value (drop l.end l.text)) 9223372036854775809 ≡ min (decimal 0 (drop l.at l.text)) 9223372036854775809)
