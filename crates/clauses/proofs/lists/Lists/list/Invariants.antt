-- `clauses::lists::Lists::list` meets its contract. Assumes nothing.
use Prim.Native.Nat.{◌-◌}
use mathlib.Core.Path.{◌≡◌}
use mathlib.Core.Bool.{false}
use lib.ListN.{length}
use Rattle.entries.specs.Lending.{draft_in, SameLists}
use Rattle.reading_laws.specs.Walk.{cursor_at}
use Rattle.cursors.specs.Packed.{is_stop, at_in, cursor_in}
use Rattle.clauses.specs.Private.{more_listed}
use Rattle.clauses.proofs.lists.Lists.list.Given as goal

abbrev pub invariant-loop-listed : goal.invariant-loop-listed
invariant-loop-listed l =
    (more_listed l.self.text.now l.listed (length l.self.text.now) (cursor_in l.self.text.now l.here) (draft_in l.lent) ≡ more_listed l.self.text.now l.listed (length l.self.text.now) (cursor_in l.self.text.now l.initial.here) (draft_in l.initial.lent))
    × ((is_stop l.here ≡ false) × ((cursor_in l.self.text.now l.here ≡ cursor_at l.self.text.now (at_in l.here)) × SameLists l.initial.lent l.lent))

abbrev pub decreases-loop-listed : goal.decreases-loop-listed
decreases-loop-listed l = length l.self.text.now - at_in l.here
