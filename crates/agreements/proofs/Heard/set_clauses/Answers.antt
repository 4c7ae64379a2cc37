-- `agreements::Heard::set_clauses` meets its contract. Assumes nothing.
use mathlib.Core.Path.{◌≡◌, ◌∙◌}
use native.Mathlib.Omega.{arith}
use Rattle.contract.specs.Table.{word_at}
use lib.ListN.{drop}
use Rattle.contract.specs.Rows.{clause_row_of}
use Rattle.contract.specs.Decode.{clause_at}
use Rattle.agreements.proofs.Clauses.{placed, row_count, row_few}
use Rattle.agreements.specs.Private.{set_part}
use Rattle.agreements.proofs.Agreements.{set_by_more}
use Rattle.agreements.proofs.Heard.set_clauses.Goals as goal

pub of-clause-requires : goal.of-clause-requires
of-clause-requires c =
    let a = c.args.self.now in
    let l = c.loop-i in
    let p = placed a.terms.table.now a.terms.whole l.i (omega (arith, l.invariant.0)) in
    (omega (arith, l.invariant.0), omega (arith, l.invariant.1, p.number))

pub loop-i-preserved : goal.loop-i-preserved
loop-i-preserved c =
    let a = c.args.self.now in
    let table = a.terms.table.now in
    let l = c.loop-i in
    let p = placed table a.terms.whole l.i (omega (arith, l.invariant.0)) in
    let h = c.of-clause.ensures in
    let read : c.of-clause.result.row ≡ clause_row_of table l.i = c.of-clause.result.read ∙ λ t. clause_row_of (h.same_heard t).terms.table.now (h.same_i t) in
    let next : c.set_clause.new.s ≡ set_part l.s (clause_at table l.i).fields (drop l.at a.values.now) (clause_at table l.i).verb =
    c.set_clause.ensures
    ∙ λ t. set_part l.s (clause_at (h.same_heard t).terms.table.now (h.same_i t)).fields (drop (h.same_at t) (h.same_heard t).values.now) (clause_at (h.same_heard t).terms.table.now (h.same_i t)).verb in
    (l.invariant.0, (omega (arith, l.invariant.1, row_few table l.i _ read p)), l.invariant.2 ∙ set_by_more (clause_at table) a.values.now (word_at table 5) l.i l.at l.s _ (omega (arith, l.invariant.0)) (row_count table l.i _ read p) _ next)
