-- `tables::nodes::NodeAt::pair_start` meets its contract. Assumes nothing.
use mathlib.Core.Path.{ap}
use mathlib.Core.List.{[], ◌∷◌}
use Rattle.tables.specs.Private.{sort_of, start_of}
use Rattle.tables.proofs.Parts.{parts_one, parts_go}
use Rattle.tables.proofs.nodes.NodeAt.pair_start.Goals as goal

pub returns : goal.returns
returns c =
    parts_go c.args.self.now.scope.table.now c.args.self.now.from (sort_of c.args.last) (sort_of c.args.first ∷ []) c.args.end c.in_ok-p.p c.part_start.ensures (ap start_of c.in_ok-p.was)
    (parts_one c.args.self.now.scope.table.now c.args.self.now.from (sort_of c.args.first) c.in_ok-p.p c.part_start-2.ensures)
