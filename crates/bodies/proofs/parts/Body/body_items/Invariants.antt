-- `bodies::parts::Body::body_items` meets its contract. Assumes nothing.
use Prim.Native.Nat.{◌-◌}
use mathlib.Core.Path.{◌≡◌}
use mathlib.Core.Bool.{false}
use Rattle.entries.specs.Lending.{draft_in, SameLists}
use Rattle.reading_laws.specs.Walk as walk
use Rattle.cursors.specs.Packed.{is_stop, cursor_in}
use Rattle.bodies.proofs.parts.Body.body_items.Given as goal

abbrev pub invariant-loop : goal.invariant-loop
invariant-loop l =
    let s = l.self.text.now in
    (walk.body_items s l.self.from (l.end - l.counter) (cursor_in s l.here) (draft_in l.lent) ≡ walk.body_items s l.self.from l.end (cursor_in s l.initial.here) (draft_in l.initial.lent))
    × (SameLists l.initial.lent l.lent × (is_stop l.here ≡ false))
