-- `tables::nodes::Scope::nodes_ok` meets its contract. Assumes nothing.
use mathlib.Core.Path.{◌≡◌}
use mathlib.Core.Bool.{true}
use Prim.Native.Nat.{◌≤◌, ◌+◌}
use Rattle.contract.specs.Check.{node_ok, scope_at, statements_in}
use Rattle.laws.specs.Lists.{all_below}
use Rattle.tables.proofs.nodes.Scope.nodes_ok.Given as goal

abbrev pub invariant-loop-j : goal.invariant-loop-j
invariant-loop-j l =
    let w = l.self.table.now in
    (l.count ≤ l.j) × (l.count ≡ statements_in w l.from l.j) × (all_below l.j (λ i. node_ok w (scope_at w l.self.values l.self.parameters) l.from (l.from + i)) ≡ true)
