-- For private functions only.
use Rattle.std.specs.Prelude.{ℕ, ◌≡◌, ◌+◌, ◌*◌, ◌≤◌, List, length, ℤ}
use Rattle.std.proofs.lemmas.List.Edits.{sets}
use Rattle.results.specs.declared.Report.{Report}
use Rattle.results.specs.Coded.{coded_all, integers_of}
use Rattle.step_reports.specs.declared.Teller.{Teller}

-- so many more lines fit
abbrev pub HasRoom : Teller → ℕ → Type 0
HasRoom r n = (4 * (r.many + n) ≤ length r.numbers.now) × (r.many + n ≤ length r.integers.now)

-- the lists are the same two
pub record SameLists (a b : Teller) : Type 0 where
  pub numbers : b.numbers.ghost_name ≡ a.numbers.ghost_name
  pub integers : b.integers.ghost_name ≡ a.integers.ghost_name

-- these reports stand from report n on, all else is as it was
pub record Told (numbers : List ℕ) (integers : List ℤ) (n : ℕ) (rs : List Report) (told : List ℕ) (values : List ℤ) : Type 0 where
  pub numbers_after : told ≡ sets numbers (4 * n) (coded_all rs)
  pub integers_after : values ≡ sets integers n (integers_of rs)
