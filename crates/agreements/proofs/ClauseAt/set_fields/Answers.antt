use Rattle.std.proofs.Common.{rules, ℕ, ◌≡◌, ◌<◌, length, take, drop, ℤ, List, sym, ap, ◌∙◌, arith}
use lib.ListN.{length-take}
use Rattle.contract.specs.Decode.{clause_at}
use Rattle.agreements.proofs.Clauses.{placed, fields_count, field_at, row_fields}
use Rattle.agreements.proofs.Agreements.{set_next, set_end}
use Rattle.agreements.proofs.ClauseAt.set_fields.Goals as goal

pub loop-j-preserved : goal.loop-j-preserved
loop-j-preserved c =
    let a = c.args.self.now in
    let l = c.loop-j in
    let w = a.heard.terms.table.now in
    let fs = (clause_at w a.i).fields in
    let zs = drop a.at a.heard.values.now in
    let p = placed w a.heard.terms.whole a.i a.room.0 in
    let count : a.row.fields ≡ length fs = row_fields w a.i _ a.read ∙ sym (fields_count w a.i p) in
    let values = c.values-value-items.ensures in
    let within : l.j < length (take a.row.fields zs) = omega (arith, ap (λ (xs : List ℤ). length xs) values) in
    let field = field_at w a.i p l.j (omega (arith, within, length-take a.row.fields zs, row_fields w a.i _ a.read)) in
    l.invariant ∙ set_next l.s c.set_integer.new.s fs zs a.row.fields l.j _ c.set_integer.ensures count within (field ∙ sym c.clause_field.ensures) (search (rules, values))

pub returns : goal.returns
returns c =
    let a = c.args.self.now in
    let w = a.heard.terms.table.now in
    let zs = drop a.at a.heard.values.now in
    let p = placed w a.heard.terms.whole a.i a.room.0 in
    let count : a.row.fields ≡ length (clause_at w a.i).fields = row_fields w a.i _ a.read ∙ sym (fields_count w a.i p) in
    sym (c.loop-j.invariant ∙ set_end c.loop-j.s (clause_at w a.i).fields zs a.row.fields c.loop-j.j count (omega (arith, ap (λ (xs : List ℤ). length xs) c.values-value-items.ensures)))
