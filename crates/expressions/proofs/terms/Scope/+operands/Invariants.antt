-- The parsers of expressions and conditions, which call each other, meet their contracts. Assumes nothing.
use Prim.Native.Nat.{◌+◌, ◌*◌, ◌-◌}
use mathlib.Core.Path.{◌≡◌}
use mathlib.Core.Bool.{false}
use Rattle.entries.specs.Lending.{draft_in, SameLists}
use Rattle.cursors.specs.Packed.{is_stop, cursor_in}
use Rattle.reading_laws.specs.Walk as walk
use Rattle.expressions.specs.Private.{rank_number}
use Rattle.expressions.proofs.Ranks.{weight}
use Rattle.expressions.proofs.terms.Scope.+operands.Given as goal

abbrev pub decreases-chain : goal.decreases-chain
decreases-chain l = l.self.now.levels * 20 + weight (rank_number l.rank) + 2

abbrev pub decreases-comparison : goal.decreases-comparison
decreases-comparison l = l.self.now.levels * 20 + 9

abbrev pub decreases-enclosed : goal.decreases-enclosed
decreases-enclosed l = l.self.now.levels * 20

abbrev pub decreases-factor : goal.decreases-factor
decreases-factor l = l.self.now.levels * 20 + 1

abbrev pub decreases-operand : goal.decreases-operand
decreases-operand l = l.self.now.levels * 20 + weight (rank_number l.rank)

abbrev pub decreases-primary : goal.decreases-primary
decreases-primary l = l.self.now.levels * 20 + 11

abbrev pub decreases-rest : goal.decreases-rest
decreases-rest l = l.self.now.levels * 20 + weight (rank_number l.rank) + 1

abbrev pub decreases-simple : goal.decreases-simple
decreases-simple l = l.self.now.levels * 20 + 10

abbrev pub invariant-rest-loop : goal.invariant-rest-loop
invariant-rest-loop l =
    (walk.row_from l.self.text.now (rank_number l.rank) (walk.operand_at l.self.text.now l.self.handler l.self.levels (rank_number l.rank)) l.before (l.end - l.counter) (cursor_in l.self.text.now l.here) (draft_in l.lent)
    ≡ walk.row_from l.self.text.now (rank_number l.rank) (walk.operand_at l.self.text.now l.self.handler l.self.levels (rank_number l.rank)) l.before l.end (cursor_in l.self.text.now l.initial.here) (draft_in l.initial.lent))
    × SameLists l.initial.lent l.lent × (is_stop l.here ≡ false)
