-- `tables::functions::FunctionAt::end` meets its contract. Assumes nothing.
use mathlib.Core.Path.{◌≡◌, ap, ◌∙◌}
use Prim.Native.Nat.{◌+◌, ◌-◌}
use native.Mathlib.Omega.{arith}
use Rattle.contract.specs.Check.{event_first}
use Rattle.tables.proofs.Events.{event_next}
use Rattle.tables.proofs.functions.FunctionAt.end.Goals as goal

pub overflow_add-result-2 : goal.overflow_add-result-2
overflow_add-result-2 c =
    omega (arith, (let e : c.args.self.now.row.events - 1 + 1 ≡ c.args.self.now.row.events = omega arith in event_next c.args.self.now.table.now c.args.self.now.i c.args.self.now.row c.args.self.now.read (c.args.self.now.row.events - 1) c.event_at.result c.event_at.ensures ∙ ap (event_first c.args.self.now.table.now c.args.self.now.i) e), c.requires.3)

pub returns : goal.returns
returns c =
    (let e : c.args.self.now.row.events - 1 + 1 ≡ c.args.self.now.row.events = omega arith in event_next c.args.self.now.table.now c.args.self.now.i c.args.self.now.row c.args.self.now.read (c.args.self.now.row.events - 1) c.event_at.result c.event_at.ensures ∙ ap (event_first c.args.self.now.table.now c.args.self.now.i) e)
