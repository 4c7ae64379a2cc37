-- `reader::Pass::initial_state` meets its contract. Assumes nothing.
use mathlib.Core.Path.{sym, ap, ◌∙◌}
use lib.ListN.{set}
use Rattle.entries.specs.Draft.{Draft}
use Rattle.reading_laws.specs.Walk as walk
use Rattle.cursors.proofs.Packs.{step_in_on}
use Rattle.reading_laws.proofs.AgreesWith.{goes, is_stop_lem, after_on, after_stop}
use Rattle.cursors.proofs.Tested as packed
use Rattle.cursors.proofs.Clipped.{passed, stated, tokened}
use Rattle.reader.proofs.Pass.initial_state.Goals as goal

pub returns-then-stops-clause-value : goal.returns-then-stops-clause-value
unfolding walk.initial_state
returns-then-stops-clause-value c =
    let short = c.args.self.now.short in
    let f = packed.halts c.args.self.now.text.now _ _ c.stops.ensures c.if-stops.true in
    is_stop_lem _ _ _ _ _ _ (after_stop _ _ _ _ (sym (tokened _ _ _ _ short c.token-mark.ensures) ∙ f)) f

pub returns-then-stops-2-clause-value : goal.returns-then-stops-2-clause-value
unfolding walk.initial_state
returns-then-stops-2-clause-value c =
    let short = c.args.self.now.short in
    let s = c.args.self.now.text.now in
    let f = packed.halts s _ _ c.stops-2.ensures c.if-stops-2.true in
    is_stop_lem _ _ _ _ _ _
    (after_on _ _ _ (sym (tokened _ _ _ _ short c.token-mark.ensures) ∙ packed.keeps s _ _ c.stops.ensures c.if-stops.false) ∙ after_stop _ _ _ _ (sym (stated _ _ _ short c.state_at-name.ensures) ∙ f)) f

pub returns-clause-value : goal.returns-clause-value
unfolding walk.initial_state
returns-clause-value c =
    let short = c.args.self.now.short in
    let s = c.args.self.now.text.now in
    let m = c.mention_state-state.ensures in
    goes _ _ _ _ _ _ _
    (after_on _ _ _ (sym (tokened _ _ _ _ short c.token-mark.ensures) ∙ packed.keeps s _ _ c.stops.ensures c.if-stops.false)
    ∙ after_on _ _ _ (sym (stated _ _ _ short c.state_at-name.ensures) ∙ packed.keeps s _ _ c.stops-2.ensures c.if-stops-2.false))
    (step_in_on s _ c.past.ensures.goes) (passed s _ _ short c.past.ensures.value)
    (c.set.ensures ∙ (λ i. set (m.value i).table 9 (m.number i))) (ap (λ (p : Draft). p.notes) m.value)
