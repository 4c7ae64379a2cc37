use mathlib.Core.Path.{refl, sym, ◌∙◌}
use Rattle.contract.specs.Table.{word_at}
use native.Mathlib.Omega.{arith}
use Rattle.contract.specs.Rows.{said}
use Rattle.contract.specs.Decode.{clause_at}
use Rattle.agreements.proofs.Clauses.{row_verb}
use Rattle.agreements.proofs.Agreements.{verbs_are, clauses_before, clauses_skip}
use Rattle.agreements.proofs.Heard.fields_of.Goals as goal

pub loop-i-preserved-then-eq : goal.loop-i-preserved-then-eq
loop-i-preserved-then-eq c =
    let w = c.args.self.now.terms.table.now in
    let l = c.loop-i in
    let same = sym (verbs_are _ _ refl (c.verb.ensures ∙ row_verb w _ _ c.clause_at.ensures)) ∙ sym c.eq.ensures ∙ c.if-eq.true in
    (omega (arith, l.invariant.0), clauses_before (said c.args.verb) (clause_at w) (word_at w 5) l.i l.mask (omega arith) l.invariant.0 l.invariant.1 same _ c.fields_in-mask.ensures)

pub loop-i-preserved : goal.loop-i-preserved
loop-i-preserved c =
    let w = c.args.self.now.terms.table.now in
    let l = c.loop-i in
    let other = sym (verbs_are _ _ refl (c.verb.ensures ∙ row_verb w _ _ c.clause_at.ensures)) ∙ sym c.eq.ensures ∙ c.if-eq.false in
    (omega (arith, l.invariant.0), clauses_skip (said c.args.verb) (clause_at w) (word_at w 5) l.i l.mask (omega arith) l.invariant.0 l.invariant.1 other)
