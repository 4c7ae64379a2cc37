-- `machine::Called::schedule` meets its contract. Assumes nothing.
use Rattle.contract.specs.Decode.{function_at}
use Rattle.evaluation.specs.Memory.{lent}
use Rattle.machine.proofs.Schedules.{Joined}
use Rattle.machine.proofs.Called.schedule.Given as goal

abbrev pub invariant-loop-j : goal.invariant-loop-j
invariant-loop-j l =
    Joined (lent l.memory) l.memory.clock l.self.n l.initial.s (function_at l.self.whole.terms.table.now l.self.n).events l.s l.joined l.j
