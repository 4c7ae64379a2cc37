-- `entries::find_mark` meets its contract: no slot before i has the mark. Assumes nothing.
use Rattle.entries.specs.Draft.{Skips}
use Rattle.entries.proofs.find_mark.Given as goal

abbrev pub invariant-loop-i : goal.invariant-loop-i
invariant-loop-i l =
    Skips l.notes l.mark l.slot 0 l.many l.i
