-- `lines::agreement_of` meets its contract. Assumes nothing.
use mathlib.Core.Path.{sym, ap, ◌∙◌}
use Rattle.lines.specs.Lines.{asked}
use Rattle.lines.specs.Answers.{agreement_in}
use Rattle.lines.proofs.Forms.{asked_long, agreement_read, agreement_missed}
use Rattle.lines.proofs.agreement_of.Goals as goal

pub returns-in_err-short : goal.returns-in_err-short
returns-in_err-short c =
    c.from_residual.ensures ∙ sym (ap agreement_in (asked_long c.args.line.now c.in_err-short.ensures))

pub returns-in_err-parts : goal.returns-in_err-parts
returns-in_err-parts c =
    c.from_residual-in_err-parts.ensures ∙ agreement_missed _ c.in_ok-short.short.short c.parts.new.read c.in_err-parts.ensures ∙ (λ i. agreement_in (asked (c.in_ok-short.ensures i)))

pub returns : goal.returns
returns c =
    agreement_read _ c.in_ok-short.short.short c.in_ok-parts.ensures ∙ (λ i. agreement_in (asked (c.in_ok-short.ensures i)))
