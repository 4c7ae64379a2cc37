use Rattle.std.proofs.Common.{rules, refl, ◌∙◌}
use Rattle.std.proofs.lemmas.Iterator.{YieldsList-from_range}
use Rattle.std.proofs.lemmas.Iterator.Search.{all_from_yields_List}
use Rattle.contract.specs.Decode.{contract_of}
use Rattle.state.specs.States.{pending_slot_ok}
use Rattle.state.proofs.Ranges.{all_in_range}
use Rattle.state.proofs.State.events_ok.Goals as goal

pub returns : goal.returns
unfolding pending_slot_ok
returns c =
    all_from_yields_List (pending_slot_ok (contract_of c.args.table.now) c.args.self.now) _ _ c.all.result c.all.ensures.ran (YieldsList-from_range 0 64 64 refl refl) (λ x b q k. search rules)
    ∙ all_in_range (pending_slot_ok (contract_of c.args.table.now) c.args.self.now) 64
