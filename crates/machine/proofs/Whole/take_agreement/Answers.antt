-- `machine::Whole::take_agreement` meets its contract. Assumes nothing.
use mathlib.Core.Path.{sym, ◌∙◌}
use Rattle.contract.specs.Decode.{contract_of}
use Rattle.lines.specs.Lines.{asked}
use Rattle.agreements.proofs.Agreements.{in_passing}
use Rattle.machine.proofs.Taken.{does_agreement, no_agreement, agreed_before}
use Rattle.machine.proofs.Whole.take_agreement.Goals as goal

pub returns-then-s : goal.returns-then-s
returns-then-s c =
    agreed_before (contract_of c.args.self.now.terms.table.now) c.args.s.now c.args.line.now (asked c.args.line.now) (sym c.requires) c.if-s.true

pub returns-in_default : goal.returns-in_default
returns-in_default c =
    no_agreement _ c.in_default.ensures (sym c.requires)

pub returns : goal.returns
returns c =
    let w = c.args.self.now.terms.table.now in
    let s = c.args.s.now in
    let line = c.args.line.now in
    c.agree_on.ensures ∙ in_passing w s _ c.args.self.now.terms.whole ∙ does_agreement (contract_of w) s line (asked line) _ c.in-Some.ensures (sym c.requires) c.heads.ensures c.spans.ensures c.values.ensures
