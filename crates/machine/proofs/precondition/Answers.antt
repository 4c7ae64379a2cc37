-- `machine::precondition` meets its contract. Assumes nothing.
use mathlib.Core.Path.{◌∙◌}
use Rattle.evaluation.specs.Memory.{lent}
use Rattle.machine.proofs.Calls.{precondition_omitted, precondition_given}
use Rattle.machine.proofs.precondition.Goals as goal

pub returns-then-n-eq0 : goal.returns-then-n-eq0
returns-then-n-eq0 c =
    precondition_omitted c.args.memory.now.table.now (lent c.args.memory.now) c.args.first c.args.n c.if-n-eq0.true

pub returns : goal.returns
returns c =
    c.truth.ensures ∙ precondition_given c.args.memory.now.table.now (lent c.args.memory.now) c.args.first c.args.n c.if-n-eq0.false
