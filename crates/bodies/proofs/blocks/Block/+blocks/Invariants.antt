-- The parsers of statements and blocks, which call each other, meet their contracts. Assumes nothing.
use Prim.Native.Nat.{◌+◌, ◌*◌, ◌-◌}
use mathlib.Core.Path.{◌≡◌}
use mathlib.Core.Bool.{false}
use Rattle.entries.specs.Lending.{draft_in, SameLists}
use Rattle.reading_laws.specs.Walk as walk
use Rattle.cursors.specs.Packed.{is_stop, cursor_in}
use Rattle.bodies.proofs.blocks.Block.+blocks.Given as goal

abbrev pub decreases-braces : goal.decreases-braces
decreases-braces l = l.self.now.levels * 4 + 3

abbrev pub decreases-conditional : goal.decreases-conditional
decreases-conditional l = l.self.now.levels * 4

abbrev pub decreases-statement : goal.decreases-statement
decreases-statement l = l.self.now.levels * 4 + 1

abbrev pub decreases-statements : goal.decreases-statements
decreases-statements l = l.self.now.levels * 4 + 2

abbrev pub invariant-statements-loop : goal.invariant-statements-loop
invariant-statements-loop l =
    let s = l.self.text.now in
    let f = walk.statements s l.self.handler l.self.levels (walk.conditional s l.self.handler l.self.levels) l.self.from in
    (f (l.end - l.counter) (cursor_in s l.here) (draft_in l.lent) ≡ f l.end (cursor_in s l.initial.here) (draft_in l.initial.lent))
    × ((is_stop l.here ≡ false) × SameLists l.initial.lent l.lent)
