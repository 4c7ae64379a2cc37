-- What a private parser does with the two lent lists: it follows a walk.
use Rattle.std.specs.Prelude.{ℕ, List}
use Rattle.entries.specs.declared.Lent.{Lent}
use Rattle.entries.specs.Draft.{Draft}
use Rattle.entries.specs.Lending.{draft_in}
use Rattle.reading_laws.specs.Walk.{Walk, AgreesWith}
use Rattle.cursors.specs.Packed.{step_in}

-- r is the answer of the walk f over the draft in a, and b holds what it leaves
abbrev pub Follows : List ℕ → (Draft → Walk) → ℕ → Lent → Lent → Type 0
Follows s f r a b = AgreesWith (f (draft_in a)) (step_in s r) b.table.now b.notes.now
