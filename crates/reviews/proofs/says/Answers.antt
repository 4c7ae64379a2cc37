use Rattle.std.proofs.Common.{Bool, ◌&&◌, refl, sym, ap, ◌∙◌}
use Rattle.contract.specs.Decode.{clause_at}
use Rattle.agreements.proofs.Clauses.{row_verb}
use Rattle.agreements.proofs.Agreements.{verbs_are}
use Rattle.reviews.specs.Reviews.{is_in}
use Rattle.reviews.proofs.says.Goals as goal

pub returns-then-eq : goal.returns-then-eq
returns-then-eq c =
    let w = c.args.terms.now.table.now in
    let i = c.args.i in
    let same = sym (verbs_are _ _ refl (c.verb.ensures ∙ row_verb w i _ c.clause_at.ensures)) ∙ sym c.eq.ensures ∙ c.if-eq.true in
    c.clause_names.ensures ∙ sym (ap (λ (t : Bool). t && is_in c.args.x (clause_at w i).fields) same)

pub returns-else-eq : goal.returns-else-eq
returns-else-eq c =
    let w = c.args.terms.now.table.now in
    let i = c.args.i in
    let other = sym (verbs_are _ _ refl (c.verb.ensures ∙ row_verb w i _ c.clause_at.ensures)) ∙ sym c.eq.ensures ∙ c.if-eq.false in
    c.if-eq.false ∙ sym (ap (λ (t : Bool). t && is_in c.args.x (clause_at w i).fields) other)
