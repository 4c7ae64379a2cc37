-- `state::pass` meets its contract. Assumes nothing.
use Rattle.std.proofs.Common.{◌≡◌}
use Rattle.state.specs.States.{with_times}
use Rattle.state.specs.Private.{not_dropped}
use Rattle.state.proofs.Kept.{Front}
use Rattle.state.proofs.State.pass.Given as goal

abbrev pub invariant-loop-i : goal.invariant-loop-i
invariant-loop-i l =
    let s = l.fn.self in
    (l.self ≡ with_times s s.clock s.pending l.self.events) × Front (λ p. not_dropped l.clock l.to p.time) s.events l.self.events l.i l.count
