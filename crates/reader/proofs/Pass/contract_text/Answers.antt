-- `reader::Pass::contract_text` meets its contract. Assumes nothing.
use mathlib.Core.Path.{sym, ap, ◌∙◌}
use Rattle.reading_laws.specs.Walk as walk
use Rattle.reading_laws.specs.Walk.{Cursor}
use Rattle.reading_laws.proofs.AgreesWith.{leaves_same, went, handed, steps_on, follow_on, follow_stop}
use Rattle.cursors.proofs.Tested as packed
use Rattle.cursors.proofs.Clipped.{agrees, lexed_first}
use Rattle.reader.proofs.Pass.contract_text.Goals as goal

pub returns-then-stops-clause-value : goal.returns-then-stops-clause-value
unfolding walk.contract
returns-then-stops-clause-value c =
    let short = c.args.self.now.short in
    let g = c.args in
    handed _ _ _ _ _ _ _ _ _ c.opening-opened.ensures.value (packed.halts g.self.now.text.now _ _ c.stops.ensures c.if-stops.true)
    (λ e. follow_stop _ _ _ _ (ap (λ (x : Cursor). walk.opening g.self.now.text.now x (walk.draft g.lent.now.table.now g.lent.now.notes.now)) (sym (lexed_first _ _ short c.lex.ensures.value)) ∙ e))

pub returns-then-stops-2-clause-value : goal.returns-then-stops-2-clause-value
unfolding walk.contract
returns-then-stops-2-clause-value c =
    let short = c.args.self.now.short in
    let g = c.args in
    let s = g.self.now.text.now in
    let o = went _ _ _ _ _ c.opening-opened.ensures.value (packed.keeps s _ _ c.stops.ensures c.if-stops.false) in
    handed _ _ _ _ _ _ _ _ _ c.declarations-declared.ensures.value (packed.halts s _ _ c.stops-2.ensures c.if-stops-2.true)
    (λ e. follow_on _ _ _ _ (ap (λ (x : Cursor). walk.opening s x (walk.draft g.lent.now.table.now g.lent.now.notes.now)) (sym (lexed_first _ _ short c.lex.ensures.value)) ∙ o)
    ∙ follow_stop _ _ _ _ e)

pub returns-then-stops-3-clause-value : goal.returns-then-stops-3-clause-value
unfolding walk.contract
returns-then-stops-3-clause-value c =
    let short = c.args.self.now.short in
    let g = c.args in
    let s = g.self.now.text.now in
    let o = went _ _ _ _ _ c.opening-opened.ensures.value (packed.keeps s _ _ c.stops.ensures c.if-stops.false) in
    handed _ _ _ _ _ _ _ _ _ c.agreement_of-agreed.ensures.value (packed.halts s _ _ c.stops-3.ensures c.if-stops-3.true)
    (λ e. follow_on _ _ _ _ (ap (λ (x : Cursor). walk.opening s x (walk.draft g.lent.now.table.now g.lent.now.notes.now)) (sym (lexed_first _ _ short c.lex.ensures.value)) ∙ o)
    ∙ follow_on _ _ _ _ (went _ _ _ _ _ c.declarations-declared.ensures.value (packed.keeps s _ _ c.stops-2.ensures c.if-stops-2.false))
    ∙ follow_stop _ _ _ _ e)

pub returns-then-stops-4-clause-value : goal.returns-then-stops-4-clause-value
unfolding walk.contract
returns-then-stops-4-clause-value c =
    let short = c.args.self.now.short in
    let g = c.args in
    let s = g.self.now.text.now in
    let o = went _ _ _ _ _ c.opening-opened.ensures.value (packed.keeps s _ _ c.stops.ensures c.if-stops.false) in
    handed _ _ _ _ _ _ _ _ _ (agrees _ _ _ _ _ short c.functions-after.ensures.value c.functions-after.ensures.lists) (packed.halts s _ _ c.stops-4.ensures c.if-stops-4.true)
    (λ e. follow_on _ _ _ _ (ap (λ (x : Cursor). walk.opening s x (walk.draft g.lent.now.table.now g.lent.now.notes.now)) (sym (lexed_first _ _ short c.lex.ensures.value)) ∙ o)
    ∙ follow_on _ _ _ _ (went _ _ _ _ _ c.declarations-declared.ensures.value (packed.keeps s _ _ c.stops-2.ensures c.if-stops-2.false))
    ∙ follow_on _ _ _ _ (went _ _ _ _ _ c.agreement_of-agreed.ensures.value (packed.keeps s _ _ c.stops-3.ensures c.if-stops-3.false))
    ∙ follow_stop _ _ _ _ e)

pub returns-clause-value : goal.returns-clause-value
unfolding walk.contract
returns-clause-value c =
    let short = c.args.self.now.short in
    let g = c.args in
    let s = g.self.now.text.now in
    let o = went _ _ _ _ _ c.opening-opened.ensures.value (packed.keeps s _ _ c.stops.ensures c.if-stops.false) in
    leaves_same _ _ _ _ _
    (sym
    (follow_on _ _ _ _ (ap (λ (x : Cursor). walk.opening s x (walk.draft g.lent.now.table.now g.lent.now.notes.now)) (sym (lexed_first _ _ short c.lex.ensures.value)) ∙ o)
    ∙ follow_on _ _ _ _ (went _ _ _ _ _ c.declarations-declared.ensures.value (packed.keeps s _ _ c.stops-2.ensures c.if-stops-2.false))
    ∙ follow_on _ _ _ _ (went _ _ _ _ _ c.agreement_of-agreed.ensures.value (packed.keeps s _ _ c.stops-3.ensures c.if-stops-3.false))
    ∙ follow_on _ _ _ _ (went _ _ _ _ _ (agrees _ _ _ _ _ short c.functions-after.ensures.value c.functions-after.ensures.lists) (packed.keeps s _ _ c.stops-4.ensures c.if-stops-4.false))))
    (steps_on _ _ _ _ c.ending.ensures)
