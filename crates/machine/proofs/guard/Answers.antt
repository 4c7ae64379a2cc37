-- `machine::guard` meets its contract. Assumes nothing.
use mathlib.Core.Path.{◌∙◌}
use Prim.Native.Nat.{◌+◌}
use Rattle.evaluation.specs.Memory.{lent}
use Rattle.machine.proofs.Events.{guard_at}
use Rattle.machine.proofs.guard.Goals as goal

pub returns : goal.returns
returns c =
    c.value.ensures ∙ guard_at c.args.memory.now.table.now (lent c.args.memory.now) (c.args.first + c.args.j) _ c.event_row-e.ensures _ c.node_at-node.ensures _ _ c.saturating_sub.ensures c.saturating_sub-k.ensures
