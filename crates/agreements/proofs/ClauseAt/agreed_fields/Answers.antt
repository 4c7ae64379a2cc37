use Rattle.std.proofs.Common.{rules, ℕ, Bool, ◌≡◌, ◌+◌, length, take, drop, ℤ, List, refl, sym, ap, ◌∙◌, arith, zero-add}
use Rattle.std.specs.List.{list_all, enumerate_from}
use Rattle.std.proofs.lemmas.Iterator.{YieldsList-from_slice}
use Rattle.std.proofs.lemmas.Iterator.Consumers.{YieldsList-from_enumerate}
use Rattle.std.proofs.lemmas.Iterator.Search.{all_from_yields_List}
use Rattle.contract.specs.Table.{clause_word}
use Rattle.contract.specs.Decode.{clause_at}
use Rattle.agreements.proofs.Clauses.{placed, fields_count, field_at, row_fields}
use Rattle.agreements.proofs.Agreements.{agrees, agreed_numbered}
use Rattle.agreements.proofs.ClauseAt.agreed_fields.Goals as goal

pub returns : goal.returns
returns c =
    let a = c.args.self.now in
    let s = c.args.s.now in
    let w = a.heard.terms.table.now in
    let fs = (clause_at w a.i).fields in
    let zs = drop a.at a.heard.values.now in
    let p = placed w a.heard.terms.whole a.i a.room.0 in
    let count = fields_count w a.i p in
    let taken : c.values.result.now ≡ take (length fs) zs = c.values.ensures ∙ ap (λ (n : ℕ). take n zs) (row_fields w a.i _ a.read ∙ sym count) in
    let said : ℕ × ℤ → Bool = λ x. agrees s (clause_word w a.i (3 + x.0)) x.1 in
    all_from_yields_List {v = λ x. (x.0, x.1.now)} said _ _ c.all.result c.all.ensures.ran (YieldsList-from_enumerate (YieldsList-from_slice (take (length fs) zs) (search (rules, taken))) (search rules)) (λ x b q k. search rules)
    ∙ agreed_numbered s (λ j. clause_word w a.i (3 + j)) fs zs 0 (λ j h. ap (λ (k : ℕ). clause_word w a.i (3 + k)) (zero-add j) ∙ sym (field_at w a.i p j (omega (arith, h, count))))
