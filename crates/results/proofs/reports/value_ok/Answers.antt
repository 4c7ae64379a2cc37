-- `results::reports::value_ok` meets its contract. Assumes nothing.
use mathlib.Core.Path.{sym, ap, ◌∙◌}
use native.Mathlib.Omega.{arith}
use mir.Facts.{to_z-of_z}
use Rattle.contract.specs.Decode.{contract_of}
use Rattle.contract_laws.proofs.Sound.{counts}
use Rattle.results.specs.Lines.{value_ok}
use Rattle.results.proofs.Ranges.{value_integer, value_negative, value_string, value_amount}
use Rattle.results.proofs.reports.value_ok.Goals as goal

pub returns-in-1 : goal.returns-in-1
returns-in-1 c = value_integer _ _ _ c.in-1.is

pub returns-in_default : goal.returns-in_default
returns-in_default c =
    value_negative _ _ _ (λ e. omega (arith, e, c.in_default)) c.if-value-lt0.true ∙ ap (value_ok (contract_of c.args.table.now) c.args.kind) (to_z-of_z c.ranges.value)

pub returns-in-2 : goal.returns-in-2
returns-in-2 c =
    let w = c.args.table.now in
    value_string _ _ _ (λ e. omega (arith, e, c.in-2.is)) c.if-value-lt0.false c.in-2.is
    c.unsigned_abs.ensures.value (c.word.ensures ∙ sym (counts w).strings)
    ∙ ap (value_ok (contract_of w) c.args.kind) (to_z-of_z c.ranges.value)

pub returns-in_default-2 : goal.returns-in_default-2
returns-in_default-2 c =
    value_amount _ _ _ (λ e. omega (arith, e, c.in_default)) c.if-value-lt0.false (λ e. omega (arith, e, c.in_default-2))
    ∙ ap (value_ok (contract_of c.args.table.now) c.args.kind) (to_z-of_z c.ranges.value)
