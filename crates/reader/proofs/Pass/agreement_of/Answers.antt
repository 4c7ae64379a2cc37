-- `reader::Pass::agreement_of` meets its contract. Assumes nothing.
use mathlib.Core.Path.{sym, ◌∙◌}
use Rattle.reading_laws.specs.Walk as walk
use Rattle.reading_laws.proofs.AgreesWith.{leaves_same, went, handed, is_stop_lem, follow_on, follow_stop, after_on, after_stop}
use Rattle.cursors.proofs.Tested as packed
use Rattle.cursors.proofs.Clipped.{agrees, tokened}
use Rattle.reader.proofs.Pass.agreement_of.Goals as goal

pub returns-then-stops-clause-value : goal.returns-then-stops-clause-value
unfolding walk.agreement
returns-then-stops-clause-value c =
    let short = c.args.self.now.short in
    let f = packed.halts c.args.self.now.text.now _ _ c.stops.ensures c.if-stops.true in
    is_stop_lem _ _ _ _ _ _ (after_stop _ _ _ _ (sym (tokened _ _ _ _ short c.token-word.ensures) ∙ f)) f

pub returns-then-stops-2-clause-value : goal.returns-then-stops-2-clause-value
unfolding walk.agreement
returns-then-stops-2-clause-value c =
    let short = c.args.self.now.short in
    let s = c.args.self.now.text.now in
    let f = packed.halts s _ _ c.stops-2.ensures c.if-stops-2.true in
    is_stop_lem _ _ _ _ _ _
    (after_on _ _ _ (sym (tokened _ _ _ _ short c.token-word.ensures) ∙ packed.keeps s _ _ c.stops.ensures c.if-stops.false) ∙ after_stop _ _ _ _ (sym (tokened _ _ _ _ short c.token-opened.ensures) ∙ f)) f

pub returns-then-stops-3-clause-value : goal.returns-then-stops-3-clause-value
unfolding walk.agreement
returns-then-stops-3-clause-value c =
    let short = c.args.self.now.short in
    let s = c.args.self.now.text.now in
    handed _ _ _ _ _ _ _ _ _ (agrees _ _ _ _ _ short c.names-names.ensures.value c.names-names.ensures.lists) (packed.halts s _ _ c.stops-3.ensures c.if-stops-3.true)
    (λ e. after_on _ _ _ (sym (tokened _ _ _ _ short c.token-word.ensures) ∙ packed.keeps s _ _ c.stops.ensures c.if-stops.false)
    ∙ after_on _ _ _ (sym (tokened _ _ _ _ short c.token-opened.ensures) ∙ packed.keeps s _ _ c.stops-2.ensures c.if-stops-2.false)
    ∙ follow_stop _ _ _ _ e)

pub returns-then-stops-4-clause-value : goal.returns-then-stops-4-clause-value
unfolding walk.agreement
returns-then-stops-4-clause-value c =
    let short = c.args.self.now.short in
    let s = c.args.self.now.text.now in
    let f = packed.halts s _ _ c.stops-4.ensures c.if-stops-4.true in
    is_stop_lem _ _ _ _ _ _
    (after_on _ _ _ (sym (tokened _ _ _ _ short c.token-word.ensures) ∙ packed.keeps s _ _ c.stops.ensures c.if-stops.false)
    ∙ after_on _ _ _ (sym (tokened _ _ _ _ short c.token-opened.ensures) ∙ packed.keeps s _ _ c.stops-2.ensures c.if-stops-2.false)
    ∙ follow_on _ _ _ _ (went _ _ _ _ _ (agrees _ _ _ _ _ short c.names-names.ensures.value c.names-names.ensures.lists) (packed.keeps s _ _ c.stops-3.ensures c.if-stops-3.false))
    ∙ after_stop _ _ _ _ (sym (tokened _ _ _ _ short c.token-closed.ensures) ∙ f)) f

pub returns-then-stops-5-clause-value : goal.returns-then-stops-5-clause-value
unfolding walk.agreement
returns-then-stops-5-clause-value c =
    let short = c.args.self.now.short in
    let s = c.args.self.now.text.now in
    let f = packed.halts s _ _ c.stops-5.ensures c.if-stops-5.true in
    is_stop_lem _ _ _ _ _ _
    (after_on _ _ _ (sym (tokened _ _ _ _ short c.token-word.ensures) ∙ packed.keeps s _ _ c.stops.ensures c.if-stops.false)
    ∙ after_on _ _ _ (sym (tokened _ _ _ _ short c.token-opened.ensures) ∙ packed.keeps s _ _ c.stops-2.ensures c.if-stops-2.false)
    ∙ follow_on _ _ _ _ (went _ _ _ _ _ (agrees _ _ _ _ _ short c.names-names.ensures.value c.names-names.ensures.lists) (packed.keeps s _ _ c.stops-3.ensures c.if-stops-3.false))
    ∙ after_on _ _ _ (sym (tokened _ _ _ _ short c.token-closed.ensures) ∙ packed.keeps s _ _ c.stops-4.ensures c.if-stops-4.false)
    ∙ after_stop _ _ _ _ (sym (tokened _ _ _ _ short c.token-inside.ensures) ∙ f)) f

pub returns-clause-value : goal.returns-clause-value
unfolding walk.agreement
returns-clause-value c =
    let short = c.args.self.now.short in
    let s = c.args.self.now.text.now in
    leaves_same _ _ _ _ _
    (sym
    (after_on _ _ _ (sym (tokened _ _ _ _ short c.token-word.ensures) ∙ packed.keeps s _ _ c.stops.ensures c.if-stops.false)
    ∙ after_on _ _ _ (sym (tokened _ _ _ _ short c.token-opened.ensures) ∙ packed.keeps s _ _ c.stops-2.ensures c.if-stops-2.false)
    ∙ follow_on _ _ _ _ (went _ _ _ _ _ (agrees _ _ _ _ _ short c.names-names.ensures.value c.names-names.ensures.lists) (packed.keeps s _ _ c.stops-3.ensures c.if-stops-3.false))
    ∙ after_on _ _ _ (sym (tokened _ _ _ _ short c.token-closed.ensures) ∙ packed.keeps s _ _ c.stops-4.ensures c.if-stops-4.false)
    ∙ after_on _ _ _ (sym (tokened _ _ _ _ short c.token-inside.ensures) ∙ packed.keeps s _ _ c.stops-5.ensures c.if-stops-5.false)))
    c.agreement_rest.ensures.value
