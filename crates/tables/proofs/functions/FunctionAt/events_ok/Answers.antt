-- `tables::functions::FunctionAt::events_ok` meets its contract. Assumes nothing.
use mathlib.Core.Path.{◌≡◌, sym, ◌∙◌}
use Prim.Native.Nat.{◌+◌}
use native.Mathlib.Omega.{arith}
use Rattle.contract.specs.Check.{scope_at, event_ok}
use Rattle.tables.specs.Private.{event_passes}
use Rattle.contract.proofs.Tests.{all_stop}
use Rattle.tables.proofs.Events.{event_same}
use Rattle.tables.proofs.functions.FunctionAt.events_ok.Goals as goal

pub returns-then-not-event_ok : goal.returns-then-not-event_ok
returns-then-not-event_ok c =
    let a = c.args.self.now in
    let s = c.scope-scope.ensures in
    let e : c.event_ok.result ≡ event_passes a.table.now a.i c.loop-j.j =
    c.event_ok.ensures
    ∙ (λ t. event_ok (s.same_table t) (scope_at (s.same_table t) (s.same_values t) (s.same_parameters t)) c.loop-j.first (a.row.event + c.loop-j.j))
    ∙ event_same a.table.now a.i a.row a.read c.loop-j.first c.loop-j.j c.loop-j.invariant.0 in
    all_stop _ _ _ (omega arith) (sym e ∙ c.if-not-event_ok.true)
