-- `lines::Reader::fields` meets its contract. Assumes nothing.
use Prim.Native.Nat.{◌-◌}
use mathlib.Core.List.{[], ◌∷◌}
use lib.ListN.{length}
use Rattle.lines.specs.Lines.{mark, field}
use Rattle.lines.specs.Private.{spot, with_fields}
use Rattle.lines.proofs.Loops.{SoFar}
use Rattle.lines.proofs.Reader.fields.Given as goal

abbrev pub invariant-loop-self : goal.invariant-loop-self
invariant-loop-self l =
    SoFar l.initial.self.line.now (field l.initial.self.line.now) (44 ∷ []) (mark l.initial.self.line.now (93 ∷ [])) (with_fields l.initial.out) l.initial.self.at (spot l.self) l.out

abbrev pub decreases-loop-self : goal.decreases-loop-self
decreases-loop-self l = length l.initial.self.line.now - l.self.at
