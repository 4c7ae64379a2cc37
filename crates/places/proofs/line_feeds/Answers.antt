use Rattle.std.proofs.Common.{rules, tests, ◌∙◌}
use Rattle.std.proofs.lemmas.Iterator.{YieldsList-from_slice}
use Rattle.std.proofs.lemmas.Iterator.Consumers.{count_from_yields_List, YieldsList-from_filter}
use Rattle.places.specs.Places.{is_line_feed}
use Rattle.places.proofs.PlaceLaws.{kept}
use Rattle.places.proofs.line_feeds.Goals as goal

pub returns : goal.returns
returns c =
    let s = c.args.bytes.now in
    count_from_yields_List c.filter.result _ c.count.ensures.ran (YieldsList-from_filter _ is_line_feed (YieldsList-from_slice s cc) c.filter.ensures.closure (λ x b q k. search (rules, tests)))
    ∙ kept s
