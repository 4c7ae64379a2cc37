use Rattle.std.proofs.Common.{rules, tests, reverse, ◌∙◌}
use Rattle.std.proofs.lemmas.Iterator.Adapters.{YieldsList-from_rev_slice}
use Rattle.std.proofs.lemmas.Iterator.Consumers.{count_from_yields_List}
use Rattle.std.proofs.lemmas.Iterator.Search.{YieldsList-from_take_while}
use Rattle.tokens.proofs.Runs.{taken}
use Rattle.places.specs.Places.{in_line}
use Rattle.places.proofs.since_line_feed.Goals as goal

pub returns : goal.returns
unfolding in_line
returns c =
    let s = c.args.bytes.now in
    count_from_yields_List c.take_while.result _ c.count.ensures.ran (YieldsList-from_take_while _ in_line (YieldsList-from_rev_slice s cc) c.take_while.ensures.closure c.take_while.ensures.done (λ x b q k. search (rules, tests)))
    ∙ taken in_line (reverse s)
