-- `lines::Reader::integer` meets its contract. Assumes nothing.
use mathlib.Core.Path.{sym, ◌∙◌}
use lib.IntN.{ℤ}
use Rattle.lines.proofs.Parse.{integer_minus, integer_plain}
use Rattle.lines.proofs.Got.{gave_as}
use Rattle.lines.proofs.Reader.integer.Goals as goal

pub returns-then-minus : goal.returns-then-minus
returns-then-minus c =
    gave_as (λ (z : ℤ). z) _ _ _ (integer_minus _ _ c.skip-i.ensures (sym c.byte_at-minus.ensures ∙ c.if-minus.true)) c.digits.ensures

pub returns : goal.returns
returns c =
    gave_as (λ (z : ℤ). z) _ _ _ (integer_plain _ _ c.skip-i.ensures (λ e. c.if-minus.false (c.byte_at-minus.ensures ∙ e))) c.digits-2.ensures
