-- `machine::tick_on` meets its contract. Assumes nothing.
use mathlib.Core.Path.{sym, ap, ◌∙◌}
use Rattle.std.proofs.lemmas.Result.{err_from_is_err_and}
use Rattle.std.specs.Prelude.{Result, Err}
use Rattle.questions.specs.declared.Question.{Question}
use Rattle.outcomes.specs.Outcomes.{answered}
use Rattle.machine.specs.Private.{passage}
use Rattle.machine.proofs.Gates.{rests}
use Rattle.machine.proofs.Ticks.{tick_away, tick_top, tick_on}
use Rattle.machine.proofs.tick_on.Goals as goal

pub returns-in_err-at_rest : goal.returns-in_err-at_rest
returns-in_err-at_rest c =
    let p = err_from_is_err_and c.from_residual.result c.from_residual.ensures.1 in
    ap (λ (r : Result Unit Question). answered (passage r) c.args.s.now) (p.1 ∙ ap Err p.2) ∙ tick_away c.args.s.now _ (sym c.in_err-at_rest.was ∙ c.at_rest.ensures)

pub returns-then-clock-ge-TOP : goal.returns-then-clock-ge-TOP
returns-then-clock-ge-TOP c =
    let r = rests c.args.s.now _ (sym c.in_ok-at_rest.was ∙ c.at_rest.ensures) in
    tick_top c.args.s.now _ r.0 r.1 c.if-clock-ge-TOP.true

pub returns : goal.returns
returns c =
    let r = rests c.args.s.now _ (sym c.in_ok-at_rest.was ∙ c.at_rest.ensures) in
    tick_on c.args.s.now _ r.0 r.1 _ c.pass.ensures c.if-clock-ge-TOP.false
