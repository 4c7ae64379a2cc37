use native.Mathlib.Omega.{arith}
use mathlib.Core.Path.{refl}
use lib.ListN.{take, length-take}
use Rattle.places.specs.Places.{is_line_feed}
use Rattle.places.proofs.PlaceLaws.{since_start, few_kept, placed}
use Rattle.places.proofs.place_in.Goals as goal

pub overflow_sub-start : goal.overflow_sub-start
overflow_sub-start c = omega (arith, c.since_line_feed.ensures, since_start c.args.text.now c.min-stop.result (omega (arith, c.min-stop.ensures)))

pub overflow_add-result : goal.overflow_add-result
overflow_add-result c = record { fits = omega (arith, c.line_feeds.ensures, few_kept is_line_feed (take c.min-stop.result c.args.text.now), length-take c.min-stop.result c.args.text.now, c.min-stop.ensures) }

pub returns : goal.returns
returns c = placed c.args.text.now c.args.at c.min-stop.ensures (omega (arith, c.line_feeds.ensures)) c.since_line_feed.ensures refl c.line_end.ensures refl
