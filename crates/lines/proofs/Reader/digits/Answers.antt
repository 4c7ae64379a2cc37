-- `lines::Reader::digits` meets its contract. Assumes nothing.
use mathlib.Core.Path.{refl, sym, ap, ◌∙◌}
use lib.IntN.{ℤ}
use Rattle.tokens.specs.Classes.{is_digit}
use Rattle.lines.specs.Private.{sign_of}
use Rattle.lines.proofs.Parse.{digits_some, digits_none, far_signed}
use Rattle.lines.proofs.Got.{gave_none}
use Rattle.lines.proofs.Reader.digits.Goals as goal

pub returns-then-not-is_digit : goal.returns-then-not-is_digit
returns-then-not-is_digit c =
    gave_none (λ (z : ℤ). z) _ _ (digits_none (sign_of c.args.minus) _ _ (ap is_digit (sym c.byte_at.ensures) ∙ sym c.is_digit.ensures ∙ c.if-not-is_digit.true)) refl

pub returns : goal.returns
returns c =
    digits_some _ (sign_of c.args.minus) (far_signed c.args.minus) _ _ (ap is_digit (sym c.byte_at.ensures) ∙ sym c.is_digit.ensures ∙ c.if-not-is_digit.false) c.read_digits-run.ensures c.signed.ensures
