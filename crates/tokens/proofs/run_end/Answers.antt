-- `tokens::run_end` meets its contract. Assumes nothing.
use Rattle.std.proofs.Common.{◌∙◌, sym, refl, arith}
use Rattle.tokens.proofs.Laws.{run_go, run_stop}
use Rattle.tokens.proofs.Runs.{run_past}
use Rattle.tokens.proofs.run_end.Goals as goal

pub loop-i-init : goal.loop-i-init
loop-i-init g c = refl

pub returns-then-not-class : goal.returns-then-not-class
returns-then-not-class g c =
    let stops = run_stop c.args.text.now c.loop-i.i c.loop-i-test.true g.p (sym (c.requires.1.1 _ _ c.class.ensures) ∙ c.if-not-class.true) in
    omega (arith, c.loop-i.invariant, stops)

pub loop-i-preserved : goal.loop-i-preserved
loop-i-preserved g c =
    let goes = run_go c.args.text.now c.loop-i.i c.loop-i-test.true g.p (sym (c.requires.1.1 _ _ c.class.ensures) ∙ c.if-not-class.false) in
    omega (arith, c.loop-i.invariant, goes)

pub returns : goal.returns
returns g c = c.max.ensures ∙ run_past g.p c.args.text.now c.args.at c.loop-i.i c.loop-i-test.false c.loop-i.auto.i-end c.loop-i.invariant
