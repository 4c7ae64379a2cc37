-- `pages::payouts::Entries::put_lines` meets its contract. The invariant of its loop: the lines before entry i stand first in the buffer. Assumes nothing.
use mathlib.Core.Path.{◌≡◌}
use Rattle.pages.proofs.Composed.{Going}
use Rattle.pages.proofs.payouts.Entries.put_lines.Given as goal

abbrev pub invariant-loop-i : goal.invariant-loop-i
invariant-loop-i l =
    record {
      lines : Going l.self.terms.table.now l.self.numbers.now l.self.values.now l.from l.to l.initial.out.buffer.now l.initial.out.at l.i l.out.buffer.now l.out.at;
      same_buffer : l.out.buffer.ghost_name ≡ l.initial.out.buffer.ghost_name;
    }
