-- `reader::Pass::agreement_rest` meets its contract. Assumes nothing.
use mathlib.Core.Path.{sym, ap, ◌∙◌}
use Rattle.reading_laws.specs.Walk as walk
use Rattle.reading_laws.proofs.AgreesWith.{leaves_same, went, handed, is_stop_lem, follow_on, follow_stop, after_on, after_stop}
use Rattle.cursors.proofs.Tested as packed
use Rattle.reader.proofs.PackedWhole.{closed_at}
use Rattle.cursors.proofs.Clipped.{agrees, tokened}
use Rattle.reader.proofs.Pass.agreement_rest.Goals as goal

pub returns-then-stops-clause-value : goal.returns-then-stops-clause-value
unfolding walk.agreement_rest
returns-then-stops-clause-value c =
    let short = c.args.self.now.short in
    handed _ _ _ _ _ _ _ _ _ (agrees _ _ _ _ _ short c.clauses-after.ensures.value c.clauses-after.ensures.lists) (packed.halts c.args.self.now.text.now _ _ c.stops.ensures c.if-stops.true) (λ e. follow_stop _ _ _ _ e)

pub returns-then-stops-2-clause-value : goal.returns-then-stops-2-clause-value
unfolding walk.agreement_rest
returns-then-stops-2-clause-value c =
    let short = c.args.self.now.short in
    let s = c.args.self.now.text.now in
    let f = packed.halts s _ _ c.stops-2.ensures c.if-stops-2.true in
    is_stop_lem _ _ _ _ _ _
    (follow_on _ _ _ _ (went _ _ _ _ _ (agrees _ _ _ _ _ short c.clauses-after.ensures.value c.clauses-after.ensures.lists) (packed.keeps s _ _ c.stops.ensures c.if-stops.false))
    ∙ after_stop _ _ _ _ (sym (tokened _ _ _ _ short c.token-closed.ensures) ∙ f)) f

pub returns-clause-value : goal.returns-clause-value
unfolding walk.agreement_rest
returns-clause-value c =
    let short = c.args.self.now.short in
    let s = c.args.self.now.text.now in
    leaves_same _ _ _ _ _
    (sym
    (follow_on _ _ _ _ (went _ _ _ _ _ (agrees _ _ _ _ _ short c.clauses-after.ensures.value c.clauses-after.ensures.lists) (packed.keeps s _ _ c.stops.ensures c.if-stops.false))
    ∙ after_on _ _ _ (sym (tokened _ _ _ _ short c.token-closed.ensures) ∙ packed.keeps s _ _ c.stops-2.ensures c.if-stops-2.false)
    ∙ ap (walk.initial_state s _) (closed_at s _ _ _ _ _ c.start_of.ensures c.close.ensures)))
    c.initial_state.ensures.value
