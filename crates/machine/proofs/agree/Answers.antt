-- `machine::agree` meets its contract. Assumes nothing.
use mathlib.Core.Path.{◌∙◌}
use Prim.Native.Nat.{◌/◌}
use lib.ListN.{length}
use Rattle.contract.specs.Tree.{Contract}
use Rattle.questions.specs.declared.Question.{Question}
use Rattle.outcomes.specs.declared.Stepped.{Stepped}
use Rattle.agreements.specs.Agreement.{parts_in, agreed_on}
use Rattle.agreements.proofs.Agreements.{in_passing}
use Rattle.machine.proofs.Gates.{refused_first, asked, stepped}
use Rattle.machine.proofs.agree.Goals as goal

pub returns-in-Err : goal.returns-in-Err
returns-in-Err c =
    let ps = parts_in c.args.line.now (length c.args.parts.now / 4) c.args.parts.now c.args.spans.now c.args.values.now in
    let f : Contract → Stepped Question = λ x. agreed_on x c.args.s ps in
    let n = c.admit.ensures in
    c.refuse.ensures ∙ refused_first c.args.table.now c.args.room c.args.s _ n f c.in-Err.q c.in-Err.is

pub returns : goal.returns
returns c =
    let ps = parts_in c.args.line.now (length c.args.parts.now / 4) c.args.parts.now c.args.spans.now c.args.values.now in
    let f : Contract → Stepped Question = λ x. agreed_on x c.args.s ps in
    let n = c.admit.ensures in
    let w = c.args.table.now in
    let p = asked w c.args.room c.args.s _ n _ c.in_default.is in
    c.answer.ensures ∙ c.agree_on-outcome.ensures ∙ in_passing w c.args.s ps p ∙ stepped w c.args.room c.args.s _ n _ c.in_default.is f
