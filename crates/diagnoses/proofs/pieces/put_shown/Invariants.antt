-- `diagnoses::pieces::put_shown` meets its contract. The invariant of its loop: the bytes before the one at hand are put. Assumes nothing.
use mathlib.Core.Path.{◌≡◌}
use Rattle.diagnoses.proofs.Shown.{Showing}
use Rattle.diagnoses.proofs.pieces.put_shown.Given as goal

abbrev pub invariant-loop-b : goal.invariant-loop-b
invariant-loop-b l =
    record {
      shown : Showing l.line l.initial.out.buffer.now l.initial.out.at l.b-index l.out.buffer.now l.out.at;
      same_buffer : l.out.buffer.ghost_name ≡ l.initial.out.buffer.ghost_name;
    }
