use Rattle.std.proofs.Common.{rules, refl, ◌∙◌}
use Rattle.std.proofs.lemmas.Iterator.{YieldsList-from_range}
use Rattle.std.proofs.lemmas.Iterator.Search.{all_from_yields_List}
use Rattle.state.specs.States.{asset_slot_ok}
use Rattle.state.proofs.Ranges.{all_in_range}
use Rattle.state.proofs.State.assets_ok.Goals as goal

pub returns : goal.returns
unfolding asset_slot_ok
returns c =
    all_from_yields_List (asset_slot_ok c.args.used c.args.self.now) _ _ c.all.result c.all.ensures.ran (YieldsList-from_range 0 16 16 refl refl) (λ x b q k. search rules)
    ∙ all_in_range (asset_slot_ok c.args.used c.args.self.now) 16
