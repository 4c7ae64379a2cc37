-- `expressions::terms::Scope::string_leaf` meets its contract. Assumes nothing.
use mathlib.Core.Logic.{inl, inr}
use mathlib.Core.Path.{◌∙◌}
use Rattle.expressions.proofs.terms.Scope.string_leaf.Goals.{then-start-end, else-start-end}
use Rattle.entries.specs.Draft.{number_in, mention}
use Rattle.reading_laws.specs.Walk.{draft}
use Rattle.expressions.proofs.PackedTerms.{string_written}
use Rattle.expressions.proofs.terms.Scope.string_leaf.Goals as goal

pub returns-clause-value : goal.returns-clause-value
returns-clause-value c =
    let z = c.args in
    let j = c.if-start-end in
    let o = c.of-name.ensures in
    string_written z.self.now.text.now z.c z.lent.now.table.now z.lent.now.notes.now _ _ _ j.start j.end c.start_of-start.ensures c.end_of-end.ensures c.start_of-place.ensures
    (elim j.branch [ then-start-end w ↦ inl (w.if-start-end.true, w.start-is, w.end-is) | else-start-end w ↦ inr (w.if-start-end.false, w.start-is, w.end-is) ])
    _ c.count.ensures _ _ _ (c.mention-number.ensures.number ∙ (λ t. number_in (o.text t) c.count.new.notes 6 (o.word t)))
    (c.mention-number.ensures.value ∙ (λ t. mention (o.text t) 6 (o.start t) (o.end t) c.start_of-place.result (draft z.lent.now.table.now c.count.new.notes))) _ c.nodes-before.ensures
    _ _ c.put.ensures.value
