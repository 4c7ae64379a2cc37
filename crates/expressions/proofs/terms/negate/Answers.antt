-- `expressions::terms::negate` meets its contract. Assumes nothing.
use Prim.Native.Nat.{ℕ, ◌-◌}
use native.Mathlib.Omega.{arith}
use mathlib.Core.Path.{sym, ap, ◌∙◌}
use Rattle.cursors.proofs.Turns.{fewer}
use Rattle.cursors.proofs.Following.{still_same}
use Rattle.reading_laws.specs.Walk as walk
use Rattle.entries.specs.Lending.{draft_in}
use Rattle.reading_laws.proofs.Operators.{negated, negated_all}
use Rattle.expressions.proofs.terms.negate.Goals as goal

pub loop-preserved : goal.loop-preserved
loop-preserved c =
    let l = c.loop in (
      ap (λ (k : ℕ). walk.negations k c.args.before (draft_in c.put.new.self)) (fewer c.args.many l.counter)
          ∙ negated (c.args.many - l.counter) _ _ _ _ _ (omega (arith, c.loop-test.true)) c.put.ensures.value ∙ l.invariant.0,
      still_same c.args.lent.now l.lent c.put.new.self l.invariant.1 c.put.ensures.same_lists,
    )

pub returns-clause-value : goal.returns-clause-value
returns-clause-value c =
    let l = c.loop in
    sym (negated_all (c.args.many - l.counter) c.args.before (draft_in l.lent) (omega (arith, c.loop-test.false))) ∙ l.invariant.0
