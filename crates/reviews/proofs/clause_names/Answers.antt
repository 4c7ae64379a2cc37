use Rattle.std.proofs.Common.{rules, ℕ, sym, ap, ◌∙◌, ◌+◌, arith}
use lib.ListN.{get_or}
use lib.Dec.{eqb}
use Rattle.laws.proofs.Ranges.{any_below, any_same, any_numbers}
use Rattle.contract.specs.Table.{clause_word}
use Rattle.contract.specs.Decode.{clause_at}
use Rattle.agreements.proofs.Clauses.{placed, field_at, row_fields, row_count}
use Rattle.reviews.proofs.Laws.{in_places}
use Rattle.reviews.proofs.clause_names.Goals as goal

pub returns : goal.returns
returns c =
    let w = c.args.terms.now.table.now in
    let i = c.args.i in
    let x = c.args.x in
    let p = placed w c.args.terms.now.whole i c.requires in
    let n = c.clause_at-count.result.fields in
    let fields = (clause_at w i).fields in
    let row = c.clause_at-count.ensures in
    any_numbers n (λ j. eqb x (clause_word w i (3 + j))) _ _ c.any.result c.any.ensures.ran (λ y b q k. search rules)
    ∙ any_same n (λ j. eqb x (clause_word w i (3 + j))) (λ j. eqb x (get_or fields j 0)) (λ j h. ap (eqb x) (sym (field_at w i p j (omega (arith, h, row_fields w i _ row)))))
    ∙ ap (λ (m : ℕ). any_below m (λ j. eqb x (get_or fields j 0))) (sym (row_count w i _ row p))
    ∙ sym (in_places x fields)
