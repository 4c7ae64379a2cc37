-- `reader::Pass::opening` meets its contract. Assumes nothing.
use mathlib.Core.Path.{sym, ◌∙◌}
use Rattle.reading_laws.specs.Walk as walk
use Rattle.reading_laws.proofs.AgreesWith.{is_stop_lem, after_on, after_stop}
use Rattle.cursors.proofs.Tested as packed
use Rattle.reader.proofs.PackedWhole.{opens}
use Rattle.cursors.proofs.Clipped.{passed, tokened}
use Rattle.reader.proofs.Pass.opening.Goals as goal

pub returns-then-stops-clause-value : goal.returns-then-stops-clause-value
unfolding walk.opening
returns-then-stops-clause-value c =
    let short = c.args.self.now.short in
    let f = packed.halts c.args.self.now.text.now _ _ c.stops.ensures c.if-stops.true in
    is_stop_lem _ _ _ _ _ _ (after_stop _ _ _ _ (sym (tokened _ _ _ _ short c.token-after.ensures) ∙ f)) f

pub returns-then-stops-2-clause-value : goal.returns-then-stops-2-clause-value
unfolding walk.opening
returns-then-stops-2-clause-value c =
    let short = c.args.self.now.short in
    let s = c.args.self.now.text.now in
    let f = packed.halts s _ _ c.stops-2.ensures c.if-stops-2.true in
    is_stop_lem _ _ _ _ _ _
    (after_on _ _ _ (sym (tokened _ _ _ _ short c.token-after.ensures) ∙ packed.keeps s _ _ c.stops.ensures c.if-stops.false) ∙ after_stop _ _ _ _ (sym c.name_here-name.ensures ∙ f)) f

pub returns-clause-value : goal.returns-clause-value
returns-clause-value c =
    let short = c.args.self.now.short in
    let s = c.args.self.now.text.now in
    opens s _ _ _ _ _ _ _ _ _ _ _ (sym (tokened _ _ _ _ short c.token-after.ensures) ∙ packed.keeps s _ _ c.stops.ensures c.if-stops.false)
    (sym c.name_here-name.ensures ∙ packed.keeps s _ _ c.stops-2.ensures c.if-stops-2.false) c.name_at.ensures.text c.name_at.ensures.start c.name_at.ensures.end c.title.ensures
    (passed _ _ _ short c.past.ensures.value) (tokened _ _ _ _ short c.token.ensures)
