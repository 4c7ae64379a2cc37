-- What a walk over the statements of a function keeps.
use Rattle.std.specs.Prelude.{◌≡◌}
use Rattle.groups.specs.declared.Walk.{Walk}

-- it has the same table and list, and is of the same function
pub record SameLists (a b : Walk) : Type 0 where
  pub table : b.table ≡ a.table
  pub firsts : b.firsts.ghost_name ≡ a.firsts.ghost_name
  pub first_parameter : b.first_parameter ≡ a.first_parameter
