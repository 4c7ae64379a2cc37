-- `holdings::parameters_empty` meets its contract. Assumes nothing.
use Rattle.std.proofs.Common.{◌≡◌, ◌≤◌, eqb, drop, take, length, ap, ◌∙◌, rules, arith}
use lib.ListN.{length-drop}
use lib.Seq.{take_all}
use Rattle.laws.specs.Lists.{every}
use Rattle.std.proofs.lemmas.Iterator.{YieldsList-from_slice}
use Rattle.std.proofs.lemmas.Iterator.Search.{all_from_yields_List}
use Rattle.holdings.proofs.Copies.{all_every}
use Rattle.holdings.proofs.parameters_empty.Goals as goal

pub returns : goal.returns
returns c =
    let l = take 4 (drop 16 c.args.holdings.now) in
    let full : length c.args.holdings.now ≡ 20 = c.told-holdings in
    let few : length (drop 16 c.args.holdings.now) ≤ 4 = omega (arith, length-drop 16 c.args.holdings.now) in
    all_from_yields_List (λ a. eqb a 0) _ _ c.all.result c.all.ensures.ran (YieldsList-from_slice l c.iter.ensures.rest) (λ x b q k. search rules)
    ∙ all_every (λ a. eqb a 0) l
    ∙ ap (every (λ a. eqb a 0)) (take_all 4 (drop 16 c.args.holdings.now) few)
