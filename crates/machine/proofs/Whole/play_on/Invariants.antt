-- `machine::Whole::play_on` meets its contract. Assumes nothing.
use mathlib.Core.Path.{◌≡◌}
use Prim.Native.Nat.{◌-◌}
use lib.ListN.{length}
use Rattle.contract.specs.Decode.{contract_of}
use Rattle.statements.specs.Running.{labels_from}
use Rattle.outcomes.specs.Outcomes.{no_labels}
use Rattle.step_reports.specs.Reports.{room_in}
use Rattle.machine.specs.Sessions.{session}
use Rattle.machine.proofs.Playing.{Going}
use Rattle.machine.proofs.Whole.play_on.Given as goal

abbrev pub invariant-loop-n : goal.invariant-loop-n
invariant-loop-n l =
    Going (contract_of l.self.terms.table.now) l.input l.room (session (contract_of l.self.terms.table.now) l.input (room_in (length l.initial.numbers) (length l.initial.integers)) l.initial.state) l.initial.numbers l.initial.integers l.numbers l.integers l.state l.at l.n
    × (labels_from l.labels ≡ no_labels)

abbrev pub decreases-loop-n : goal.decreases-loop-n
decreases-loop-n l =
    l.room - l.n
