-- `tables::nodes::NodeAt::whole_ok` meets its contract. Assumes nothing.
use mathlib.Core.Path.{sym, subst}
use mathlib.Core.List.{[], ◌∷◌}
use Rattle.contract.specs.Check.{condition, Start}
use Rattle.tables.specs.Private.{StartsBy}
use Rattle.tables.proofs.Parts.{parts_one, parts_by}
use Rattle.tables.proofs.nodes.NodeAt.whole_ok.Goals as goal

pub counts-requires : goal.counts-requires
counts-requires c =
    let a = c.args.self.now in
    let w = a.scope.table.now in
    subst (λ (x : Start). StartsBy x a.k) (sym (parts_one w a.from condition a.k c.part_start.ensures)) (parts_by w a.from (condition ∷ []) a.k)
