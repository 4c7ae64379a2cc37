-- `lines::Reader::integers` meets its contract. Assumes nothing.
use Prim.Native.Nat.{◌-◌}
use mathlib.Core.List.{[], ◌∷◌}
use lib.ListN.{length}
use Rattle.lines.specs.Lines.{mark, integer}
use Rattle.lines.specs.Private.{spot, integers_in, SameList, with_integers}
use Rattle.lines.proofs.Loops.{SoFar}
use Rattle.words.specs.Words.{spelled}
use Rattle.lines.proofs.Reader.integers.Given as goal

abbrev pub invariant-loop-self : goal.invariant-loop-self
invariant-loop-self l =
    SoFar l.initial.self.line.now (integer l.initial.self.line.now) (44 ∷ []) (mark l.initial.self.line.now (spelled l.close)) (with_integers (integers_in l.initial.out)) l.initial.self.at (spot l.self) (integers_in l.out)
    × SameList l.initial.out l.out

abbrev pub decreases-loop-self : goal.decreases-loop-self
decreases-loop-self l = length l.initial.self.line.now - l.self.at
