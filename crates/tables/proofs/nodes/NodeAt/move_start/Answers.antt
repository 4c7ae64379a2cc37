-- `tables::nodes::NodeAt::move_start` meets its contract. Assumes nothing.
use mathlib.Core.Path.{ap}
use mathlib.Core.List.{[], ◌∷◌}
use Rattle.contract.specs.Check.{asset_target, holder, expression}
use Rattle.tables.specs.Private.{start_of}
use Rattle.tables.proofs.Parts.{parts_go}
use Rattle.tables.proofs.nodes.NodeAt.move_start.Goals as goal

pub returns : goal.returns
returns c =
    parts_go c.args.self.now.scope.table.now c.args.self.now.from asset_target (holder ∷ expression ∷ []) c.args.end c.in_ok-p.p c.part_start.ensures (ap start_of c.in_ok-p.was) c.pair_start.ensures
