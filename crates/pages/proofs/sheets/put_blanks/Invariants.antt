-- `pages::sheets::put_blanks` meets its contract. The invariant of its loop: i blank lines stand in the buffer. Assumes nothing.
use mathlib.Core.Path.{◌≡◌}
use Rattle.pages.proofs.Composed.{Blanked}
use Rattle.pages.proofs.sheets.put_blanks.Given as goal

abbrev pub invariant-loop-i : goal.invariant-loop-i
invariant-loop-i l =
    record {
      lines : Blanked l.n l.initial.out.buffer.now l.initial.out.at l.i l.out.buffer.now l.out.at;
      same_buffer : l.out.buffer.ghost_name ≡ l.initial.out.buffer.ghost_name;
    }
