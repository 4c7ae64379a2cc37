-- `printing::Writer::put_name` meets its contract. The invariant of its loop: the stores that are left make the buffer what all of them make
-- of the one lent. Assumes nothing.
use mathlib.Core.Path.{◌≡◌}
use Prim.Native.Nat.{◌+◌}
use lib.ListN.{drop}
use lib.Seq.{sets}
use Rattle.printing.specs.Pieces.{name_bytes}
use Rattle.printing.proofs.Writer.put_name.Given as goal

abbrev pub invariant-loop-i : goal.invariant-loop-i
invariant-loop-i l =
    record {
      rest : sets l.self.buffer.now (l.at + l.i) (drop l.i (name_bytes l.table l.o)) ≡ sets l.initial.self.buffer.now l.at (name_bytes l.table l.o);
      same_buffer : l.self.buffer.ghost_name ≡ l.initial.self.buffer.ghost_name;
    }
