-- The statements of a block in a table, from its last node back: whether one ends there, which it is, and where the block before it ends.
use Rattle.std.specs.Prelude.{ℕ, ◌-◌, Bool, false, List, eqb, leb, ltb}
use Rattle.laws.specs.Choice.{pick}
use Rattle.contract.specs.Tree.{Action}
use Rattle.contract.specs.Table.{kind_at, argument_at, size_at, value_move_kind, asset_move_kind, whole_move_kind, conditional_kind}
use Rattle.contract.specs.Decode.{value_move_at, asset_move_at, whole_move_at}

-- whether a statement ends at node k
unfoldable pub statement_at : List ℕ → ℕ → Bool
statement_at t k = pick (ltb (kind_at t k) value_move_kind) false (leb (kind_at t k) conditional_kind)

-- where the block before the statement at node k ends
unfoldable pub end_before : List ℕ → ℕ → ℕ
end_before w k =
    pick (eqb (kind_at w k) value_move_kind) (k - 1 - size_at w (k - 2))
    (pick (eqb (kind_at w k) asset_move_kind) (k - 2 - size_at w (k - 3))
    (pick (eqb (kind_at w k) whole_move_kind) (k - 2) (k - argument_at w k - size_at w (k - argument_at w k - 1))))

-- the statement at node k, not a conditional
unfoldable pub action_at : List ℕ → ℕ → Action
action_at w k =
    pick (eqb (kind_at w k) value_move_kind) (value_move_at w k)
    (pick (eqb (kind_at w k) asset_move_kind) (asset_move_at w k) (whole_move_at w k))
