-- `desk_lines::held` meets its contract. Assumes nothing.
use Rattle.desk_lines.proofs.Laws.{Holds}
use Rattle.desk_lines.proofs.held.Given as goal

abbrev pub invariant-loop-i : goal.invariant-loop-i
invariant-loop-i l = Holds l.initial.numbers l.fn.s.assets l.count l.i l.numbers
