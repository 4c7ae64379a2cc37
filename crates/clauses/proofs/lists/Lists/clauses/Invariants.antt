-- `clauses::lists::Lists::clauses` meets its contract. Assumes nothing.
use Prim.Native.Nat.{◌-◌}
use mathlib.Core.Path.{◌≡◌}
use mathlib.Core.Bool.{false}
use Rattle.entries.specs.Lending.{draft_in, SameLists}
use Rattle.reading_laws.specs.Walk as walk
use Rattle.cursors.specs.Packed.{is_stop, cursor_in}
use Rattle.clauses.proofs.lists.Lists.clauses.Given as goal

abbrev pub invariant-loop : goal.invariant-loop
invariant-loop l =
    (walk.clauses l.self.text.now (l.end - l.counter) (cursor_in l.self.text.now l.here) (draft_in l.lent) ≡ walk.clauses l.self.text.now l.end (cursor_in l.self.text.now l.initial.here) (draft_in l.initial.lent))
    × ((is_stop l.here ≡ false) × SameLists l.initial.lent l.lent)
