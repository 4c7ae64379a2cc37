-- `state::first_due` meets its contract. Assumes nothing.
use Rattle.std.proofs.Common.{◌≡◌, drop, None}
use Rattle.contract.specs.Decode.{contract_of}
use Rattle.state.specs.Private.{due_at}
use Rattle.state.proofs.First.{searched}
use Rattle.state.proofs.State.first_due.Given as goal

abbrev pub invariant-loop-i : goal.invariant-loop-i
invariant-loop-i l =
    let test = due_at (contract_of l.table) l.fn.self.clock l.fn.self.state in
    searched test None 0 l.live ≡ searched test l.found l.i (drop l.i l.live)
