-- `tables::functions::functions_ok` meets its contract. Assumes nothing.
use mathlib.Core.Path.{◌≡◌}
use mathlib.Core.Bool.{true}
use Prim.Native.Nat.{◌≤◌, ◌*◌}
use Rattle.contract.specs.Check.{function_ok, first_node, first_event}
use Rattle.laws.specs.Lists.{all_below}
use Rattle.tables.proofs.functions.functions_ok.Given as goal

abbrev pub invariant-loop-i : goal.invariant-loop-i
invariant-loop-i l =
    (l.node ≡ first_node l.table l.i) × (l.event ≡ first_event l.table l.i) × (l.node ≤ 4096) × (l.event ≤ 64 * l.i) × (all_below l.i (function_ok l.table) ≡ true)
