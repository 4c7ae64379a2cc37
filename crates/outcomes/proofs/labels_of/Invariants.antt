-- `outcomes::labels_of` meets its contract. Assumes nothing.
use Rattle.outcomes.proofs.Labels.{Drawn}
use Rattle.outcomes.proofs.labels_of.Given as goal

abbrev pub invariant-loop-i : goal.invariant-loop-i
invariant-loop-i l =
    Drawn l.words l.out 64 l.i
