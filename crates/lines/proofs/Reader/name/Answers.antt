-- `lines::Reader::name` meets its contract. Assumes nothing.
use mathlib.Core.Path.{refl, sym, ap, ◌∙◌}
use Rattle.tokens.specs.Classes.{is_letter}
use Rattle.lines.specs.Answers.{span_in}
use Rattle.lines.proofs.Parse.{name_some, name_none}
use Rattle.lines.proofs.Got.{gave_at, gave_none}
use Rattle.lines.proofs.Reader.name.Goals as goal

pub returns-then-not-is_letter : goal.returns-then-not-is_letter
returns-then-not-is_letter c =
    gave_none span_in _ _ (name_none _ _ c.skip-start.ensures (ap is_letter (sym c.byte_at.ensures) ∙ sym c.is_letter.ensures ∙ c.if-not-is_letter.true)) refl

pub returns : goal.returns
returns c =
    gave_at span_in _ (name_some _ _ c.skip-start.ensures (ap is_letter (sym c.byte_at.ensures) ∙ sym c.is_letter.ensures ∙ c.if-not-is_letter.false) c.name_end-end.ensures) refl
