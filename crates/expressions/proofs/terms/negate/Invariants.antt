-- `expressions::terms::negate` meets its contract. Assumes nothing.
use Prim.Native.Nat.{◌-◌}
use mathlib.Core.Path.{◌≡◌}
use Rattle.entries.specs.Lending.{draft_in, SameLists}
use Rattle.reading_laws.specs.Walk as walk
use Rattle.expressions.proofs.terms.negate.Given as goal

abbrev pub invariant-loop : goal.invariant-loop
invariant-loop l = (walk.negations (l.many - l.counter) l.before (draft_in l.lent) ≡ walk.negations l.many l.before (draft_in l.initial.lent)) × SameLists l.initial.lent l.lent
