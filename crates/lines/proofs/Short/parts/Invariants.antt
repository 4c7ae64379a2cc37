-- `lines::Short::parts` meets its contract. Assumes nothing.
use Prim.Native.Nat.{◌-◌, ◌≤◌}
use mathlib.Core.List.{[], ◌∷◌}
use lib.ListN.{length}
use Rattle.lines.specs.Lines.{end, part}
use Rattle.lines.specs.Private.{spot}
use Rattle.lines.proofs.Loops.{SoFar}
use Rattle.lines.proofs.Agreed.{placed}
use Rattle.lines.proofs.Short.parts.Given as goal

abbrev pub invariant-loop-reader : goal.invariant-loop-reader
invariant-loop-reader l =
    record {
      so_far : SoFar l.self.line.now (part l.self.line.now) (124 ∷ 124 ∷ []) (end l.self.line.now) placed 0 (spot l.reader) l.read;
      few : l.read.fields ≤ l.reader.at;
    }

abbrev pub decreases-loop-reader : goal.decreases-loop-reader
decreases-loop-reader l = length l.self.line.now - l.reader.at
