-- A table that passes question 3.
use Rattle.std.specs.Prelude.{Option, Some, None, ℕ, List}
use Rattle.laws.specs.Choice.{pick}
use Rattle.contract.specs.Check.{passes}
use Rattle.tables.specs.declared.Passed.{Passed}

-- the table, if it passes
abbrev pub passing : List ℕ → Option (List ℕ)
passing w = pick (passes w) (Some w) None

-- what is held
abbrev pub held : Option Passed → Option (List ℕ)
held (Some p) = Some p.table.now
held None = None
