-- `state::State::next_stop` meets its contract. Assumes nothing.
use Rattle.std.proofs.Common.{◌∙◌, arith, rules, length}
use Rattle.std.proofs.lemmas.Iterator.{YieldsList-from_slice}
use Rattle.std.proofs.lemmas.Iterator.Consumers.{fold_from_yields_List}
use Rattle.contract.specs.Decode.{contract_of}
use Rattle.state.specs.States.{live}
use Rattle.state.proofs.Passing.{soonest_yet, soonest_all, soonest_is, passings_none}
use Rattle.state.proofs.State.next_stop.Goals as goal

pub returns-then-to-self : goal.returns-then-to-self
returns-then-to-self c =
    passings_none (contract_of c.args.table.now) c.args.self.now c.args.to c.if-to-self.true

pub returns : goal.returns
returns c =
    let k = contract_of c.args.table.now in
    let s = c.args.self.now in
    fold_from_yields_List _ (soonest_yet k s.state s.clock) c.args.to c.fold.result c.fold.ensures.ran (YieldsList-from_slice (live s) (c.iter.ensures.rest ∙ c.live.ensures.value)) (λ a x b q w. search rules)
    ∙ soonest_is k s c.args.to (length (live s)) _ (soonest_all k s.state s.clock c.args.to (live s) c.if-to-self.false) (omega arith)
