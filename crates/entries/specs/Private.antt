-- For private functions only.
use Rattle.std.specs.Prelude.{ℕ, ◌≡◌, ◌<◌, ◌≤◌, List, Option, Some, None, MatchOption}
use Rattle.laws.specs.Choice.{pick}
use Rattle.entries.specs.declared.Known.{Known}
use Rattle.entries.specs.Draft.{among_in, number_in}

-- the number x below many, or none where x is many
abbrev pub IsFound : Option ℕ → ℕ → ℕ → Type 0
IsFound o x many = MatchOption o (x ≡ many) (λ i. (i ≡ x) × (i < many))

-- what a word stands for among those of kind k
abbrev pub sought : List ℕ → List ℕ → ℕ → ℕ → List ℕ → Option Known
sought s n k kind w = pick (among_in s n k w) (Some (record { kind = kind; number = number_in s n k w })) None

-- a section of the table for names starts at x
abbrev pub IsSection : ℕ → ℕ → Type 0
IsSection o x = (x ≡ o) × (0 < x) × (x ≤ 2947)
