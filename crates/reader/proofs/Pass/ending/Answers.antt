-- `reader::Pass::ending` meets its contract. Assumes nothing.
use Rattle.cursors.proofs.Tested as packed
use Rattle.reader.proofs.PackedWhole.{ending_stops, ending_ends, ending_unfit}
use Rattle.cursors.proofs.Clipped.{tokened}
use Rattle.reader.proofs.Pass.ending.Goals as goal

pub returns-then-stops : goal.returns-then-stops
returns-then-stops c =
    let short = c.args.self.now.short in
    let s = c.args.self.now.text.now in
    ending_stops s _ _ (tokened _ _ _ _ short c.token-after.ensures) _ _ (packed.halts s _ _ c.stops.ensures c.if-stops.true)

pub returns-then-kind_of : goal.returns-then-kind_of
returns-then-kind_of c =
    let short = c.args.self.now.short in
    let s = c.args.self.now.text.now in
    ending_ends s _ _ (tokened _ _ _ _ short c.token-after.ensures) (packed.keeps s _ _ c.stops.ensures c.if-stops.false) _ c.kind_of.ensures c.if-kind_of.true

pub returns : goal.returns
returns c =
    let short = c.args.self.now.short in
    let s = c.args.self.now.text.now in
    ending_unfit s _ _ (tokened _ _ _ _ short c.token-after.ensures) (packed.keeps s _ _ c.stops.ensures c.if-stops.false) _ c.kind_of.ensures _ c.if-kind_of.false c.unfit.ensures.value
