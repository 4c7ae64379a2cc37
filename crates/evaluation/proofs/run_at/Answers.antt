-- `evaluation::run_at` meets its contract. Assumes nothing.
use Rattle.std.proofs.Common.{rules, tests, ◌+◌}
use Rattle.std.proofs.lemmas.Iterator.Consumers.{count_from_yields_List}
use Rattle.std.proofs.lemmas.Iterator.Search.{YieldsList-from_take_while}
use Rattle.evaluation.specs.Private.{negates_at}
use Rattle.evaluation.proofs.Nots.{from_back, counted}
use Rattle.evaluation.proofs.run_at.Goals as goal

pub returns : goal.returns
returns c =
    let w = c.args.table.now in
    counted w c.args.k c.count-nots.result
    (count_from_yields_List c.take_while.result _ c.count-nots.ensures.ran
    (YieldsList-from_take_while _ (λ i. negates_at w (i + 1)) (from_back c.args.k cc) c.take_while.ensures.closure c.take_while.ensures.done
    (λ x b q k. search (rules, tests))))
