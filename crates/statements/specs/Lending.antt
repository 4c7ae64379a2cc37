-- What a runner works on: the lists that it is lent.
use Rattle.std.specs.Prelude.{ℕ, Option, None, ◌≡◌}
use Rattle.questions.specs.declared.Question.{Question}
use Rattle.evaluation.specs.Memory.{Memory}
use Rattle.statements.specs.declared.Runner.{Runner}
use Rattle.statements.specs.Running.{Work, work_in, memory_in, group_at}

-- what it has reached, with the question that refuses, if one does
abbrev pub work_by : Runner → Option Question → Work
work_by r o = work_in r.kinds.now r.numbers.now r.texts.now r.holdings.now r.labels.now r.count o

abbrev pub work_of : Runner → Work
work_of r = work_by r None

-- what its expressions and conditions are worked out in
abbrev pub memory_by : Runner → Memory
memory_by r = memory_in r.values.now r.clock (work_of r)

-- the group of what a place holds
abbrev pub groups_by : Runner → ℕ → ℕ
groups_by r = group_at r.groups.now r.first_parameter

-- it has the same table and lists
pub record SameLists (a b : Runner) : Type 0 where
  pub table : b.table ≡ a.table
  pub kinds : b.kinds.ghost_name ≡ a.kinds.ghost_name
  pub numbers : b.numbers.ghost_name ≡ a.numbers.ghost_name
  pub texts : b.texts.ghost_name ≡ a.texts.ghost_name
  pub holdings : b.holdings.ghost_name ≡ a.holdings.ghost_name
  pub labels : b.labels.ghost_name ≡ a.labels.ghost_name
  pub values : b.values ≡ a.values
  pub clock : b.clock ≡ a.clock
  pub groups : b.groups ≡ a.groups
  pub first_parameter : b.first_parameter ≡ a.first_parameter
