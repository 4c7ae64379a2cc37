-- What a pass writes: two lent lists.
use Rattle.std.specs.Prelude.{◌≡◌, length}
use Rattle.entries.specs.declared.Lent.{Lent}
use Rattle.entries.specs.Draft.{Draft}

-- what the two lent lists hold
abbrev pub draft_in : Lent → Draft
draft_in l = record { table = l.table.now; notes = l.notes.now }

-- they are the same two lists, as long as before
abbrev pub SameLists : Lent → Lent → Type 0
SameLists a b =
    ((b.table.ghost_name ≡ a.table.ghost_name) × (b.notes.ghost_name ≡ a.notes.ghost_name))
    × ((length b.table.now ≡ length a.table.now) × (length b.notes.now ≡ length a.notes.now))
