-- `printing::Writer::store_digits` meets its contract. The invariant of its loop: the digits that are left make the buffer what all of them
-- make of the one lent, and they are all that the rest has. Assumes nothing.
use mathlib.Core.Path.{◌≡◌}
use Prim.Native.Nat.{◌-◌}
use lib.ListN.{length}
use lib.Seq.{sets}
use Rattle.printing.specs.Decimal.{decimal}
use Rattle.printing.proofs.Digits.{last_digits}
use Rattle.printing.proofs.Writer.store_digits.Given as goal

abbrev pub invariant-loop-i : goal.invariant-loop-i
invariant-loop-i l =
    record {
      digits : sets l.self.buffer.now l.at (last_digits (l.i - l.at) l.rest) ≡ sets l.initial.self.buffer.now l.at (decimal l.n);
      long : l.i - l.at ≡ length (decimal l.rest);
      same_buffer : l.self.buffer.ghost_name ≡ l.initial.self.buffer.ghost_name;
    }
