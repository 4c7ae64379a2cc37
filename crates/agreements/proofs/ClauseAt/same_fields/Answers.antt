use Rattle.std.proofs.Common.{rules, ℕ, Bool, ◌≡◌, sym, ap, ◌∙◌, ◌+◌, ◌*◌, drop, arith}
use lib.ListN.{get_or}
use lib.Seq.{get_or-drop}
use Rattle.laws.specs.Lists.{all_below}
use Rattle.laws.proofs.Ranges.{all_numbers, all_same}
use Rattle.contract.specs.Table.{clause_word}
use Rattle.contract.specs.Decode.{clause_at, contract_of}
use Rattle.agreements.specs.Agreement.{same_fields, words_in}
use Rattle.agreements.proofs.Clauses.{placed, fields_count, field_at, row_fields}
use Rattle.agreements.proofs.Agreements.{field_named, same_places}
use Rattle.agreements.proofs.ClauseAt.same_fields.Goals as goal

pub returns : goal.returns
returns c =
    let a = c.args.self.now in
    let h = a.heard in
    let w = h.terms.table.now in
    let line = h.line.now in
    let spans = h.spans.now in
    let fs = (clause_at w a.i).fields in
    let p = placed w h.terms.whole a.i a.room.0 in
    let said : ℕ → Bool = λ j. field_named (contract_of w) line (get_or spans ((a.at + j) * 2) 0) (get_or spans ((a.at + j) * 2 + 1) 0) (clause_word w a.i (3 + j)) in
    let there : ℕ → Bool = λ j. field_named (contract_of w) line (get_or (drop (a.at * 2) spans) (j * 2) 0) (get_or (drop (a.at * 2) spans) (j * 2 + 1) 0) (get_or fs j 0) in
    let start : (j : ℕ) → get_or spans ((a.at + j) * 2) 0 ≡ get_or (drop (a.at * 2) spans) (j * 2) 0 = λ j. ap (λ (k : ℕ). get_or spans k 0) (omega arith) ∙ sym (get_or-drop (a.at * 2) spans (j * 2) 0) in
    let end : (j : ℕ) → get_or spans ((a.at + j) * 2 + 1) 0 ≡ get_or (drop (a.at * 2) spans) (j * 2 + 1) 0 = λ j. ap (λ (k : ℕ). get_or spans k 0) (omega arith) ∙ sym (get_or-drop (a.at * 2) spans (j * 2 + 1) 0) in
    let count = fields_count w a.i p in
    all_numbers a.row.fields said _ _ c.all.result c.all.ensures.ran (λ x b q k. search rules)
    ∙ all_same a.row.fields said there (λ j h t. field_named (contract_of w) line (start j t) (end j t) (sym (field_at w a.i p j (omega (arith, h, row_fields w a.i _ a.read))) t))
    ∙ ap (λ (n : ℕ). all_below n there) (row_fields w a.i _ a.read ∙ sym count)
    ∙ sym (same_places (contract_of w) line fs (drop (a.at * 2) spans))
    ∙ ap (λ (n : ℕ). same_fields (contract_of w) fs (words_in line n (drop (a.at * 2) spans))) count
