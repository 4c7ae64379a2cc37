use Rattle.std.proofs.Common.{rules, ap, ◌∙◌}
use Rattle.laws.proofs.Ranges.{any_below, any_numbers}
use Rattle.contract.specs.Rows.{said}
use Rattle.contract.specs.Decode.{clause_at}
use Rattle.contract.specs.declared.TableHead.{TableHead}
use Rattle.reviews.specs.Private.{says}
use Rattle.reviews.proofs.Laws.{names_places}
use Rattle.reviews.proofs.named.Goals as goal

pub returns : goal.returns
returns c =
    let w = c.args.terms.now.table.now in
    let v = said c.args.verb in
    any_numbers c.head-count.result.clauses (λ i. says v c.args.x (clause_at w i)) _ _ c.any.result c.any.ensures.ran (λ y b q k. search rules)
    ∙ ap (λ (h : TableHead). any_below h.clauses (λ i. says v c.args.x (clause_at w i))) c.head-count.ensures
    ∙ names_places w v c.args.x
