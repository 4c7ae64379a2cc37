-- `tables::functions::FunctionAt::events_ok` meets its contract. Assumes nothing.
use mathlib.Core.Path.{◌≡◌}
use mathlib.Core.Bool.{true}
use Rattle.tables.specs.Private.{event_passes}
use Rattle.contract.specs.Check.{event_first}
use Rattle.laws.specs.Lists.{all_below}
use Rattle.tables.proofs.functions.FunctionAt.events_ok.Given as goal

abbrev pub invariant-loop-j : goal.invariant-loop-j
invariant-loop-j l =
    (l.first ≡ event_first l.self.table.now l.self.i l.j) × (all_below l.j (event_passes l.self.table.now l.self.i) ≡ true)
