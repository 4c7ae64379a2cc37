-- `machine::handler_of` meets its contract. Assumes nothing.
use mathlib.Core.Path.{refl}
use Rattle.machine.proofs.Events.{no_event_lem, handler_found}
use Rattle.machine.proofs.handler_of.Goals as goal

pub returns-in_default : goal.returns-in_default
returns-in_default c = no_event_lem _ c.args.p _ c.row-found.ensures c.in_default.is _ refl

pub returns : goal.returns
returns c = handler_found _ c.args.p _ c.row-found.ensures _ c.in-Some.is _ c.node_at-node.ensures _ c.saturating_sub.ensures _ refl
