-- `agreements::Heard::same_clauses` meets its contract. Assumes nothing.
use mathlib.Core.Path.{◌≡◌, sym, ap, ◌∙◌}
use mathlib.Core.Bool.{◌&&◌}
use Prim.Native.Nat.{ℕ, ◌*◌, ◌-◌, ◌/◌}
use native.Mathlib.Omega.{arith}
use lib.ListN.{length}
use lib.Dec.{leb}
use Rattle.contract.specs.Table.{word_at}
use Rattle.contract.specs.Rows.{clause_row_of}
use Rattle.contract.specs.Decode.{clause_at, contract_of}
use Rattle.contract.specs.declared.TableHead.{TableHead}
use Rattle.agreements.proofs.Clauses.{placed, clauses_first, row_count, row_few}
use Rattle.state.proofs.Decoded.{clauses_count}
use Rattle.agreements.specs.Agreement.{parts_in, same_clause, same_clauses}
use Rattle.agreements.specs.Private.{part_at}
use Rattle.agreements.proofs.Agreements.{other_clauses, same_clause_counts, clauses_more, clauses_not, clauses_all}
use Rattle.std.proofs.Common.{rules, tests}
use Rattle.agreements.proofs.Heard.same_clauses.Goals as goal

pub returns-then-parts-count : goal.returns-then-parts-count
returns-then-parts-count c =
    let a = c.args.self.now in
    other_clauses (contract_of a.terms.table.now) (contract_of a.terms.table.now).clauses a.line.now (length a.parts.now / 4) a.parts.now a.spans.now a.values.now (λ e. c.if-parts-count.true (e ∙ clauses_count a.terms.table.now ∙ sym (ap (λ (x : TableHead). x.clauses) c.head-count.ensures)))

pub loop-i-init : goal.loop-i-init
loop-i-init c =
    let a = c.args.self.now in
    let e : (word_at a.terms.table.now 5) ≡ (word_at a.terms.table.now 5) - 0 = omega arith in
    (ap (λ (x : TableHead). x.clauses) c.head-count.ensures, omega arith, omega arith, omega arith, (λ t. same_clauses (contract_of a.terms.table.now) (clauses_first a.terms.table.now t) (parts_in a.line.now ((c.if-parts-count.false ∙ ap (λ (x : TableHead). x.clauses) c.head-count.ensures ∙ e) t) a.parts.now a.spans.now a.values.now)))

pub of-clause-requires : goal.of-clause-requires
of-clause-requires c =
    let a = c.args.self.now in
    let l = c.loop-i in
    let p = placed a.terms.table.now a.terms.whole l.i (omega (arith, l.invariant.0)) in
    (omega (arith, l.invariant.0), omega (arith, l.invariant.1, p.number))

pub overflow_add-at : goal.overflow_add-at
overflow_add-at c =
    let table = c.args.self.now.terms.table.now in
    let l = c.loop-i in
    let p = placed table c.args.self.now.terms.whole l.i (omega (arith, l.invariant.0)) in
    let h = c.of-clause.ensures in
    let read : c.of-clause.result.row ≡ clause_row_of table l.i = c.of-clause.result.read ∙ λ t. clause_row_of (h.same_heard t).terms.table.now (h.same_i t) in
    omega (arith, l.invariant.1, row_few table l.i _ read p, p.number)

pub loop-i-preserved : goal.loop-i-preserved
loop-i-preserved c =
    let a = c.args.self.now in
    let line = a.line.now in
    let parts = a.parts.now in
    let spans = a.spans.now in
    let table = a.terms.table.now in
    let values = a.values.now in
    let l = c.loop-i in
    let p = placed table a.terms.whole l.i (omega (arith, l.invariant.0)) in
    let h = c.of-clause.ensures in
    let read : c.of-clause.result.row ≡ clause_row_of table l.i = c.of-clause.result.read ∙ λ t. clause_row_of (h.same_heard t).terms.table.now (h.same_i t) in
    let same : c.same_clause.result ≡ same_clause (contract_of table) (clause_at table l.i) (part_at line parts spans values l.i l.at) =
    c.same_clause.ensures
    ∙ λ t. same_clause (contract_of (h.same_heard t).terms.table.now) (clause_at (h.same_heard t).terms.table.now (h.same_i t)) (part_at (h.same_heard t).line.now (h.same_heard t).parts.now (h.same_heard t).spans.now (h.same_heard t).values.now (h.same_i t) (h.same_at t)) in
    let k = same_clause_counts (contract_of table) (clause_at table l.i) line parts spans values l.i l.at l.invariant.2 (sym same ∙ c.if-not-same_clause.false) in
    let q = k.0 ∙ row_count table l.i _ read p in
    (l.invariant.0, (omega (arith, l.invariant.1, row_few table l.i _ read p)), omega (arith, k.1, q), omega arith, l.invariant.4 ∙ clauses_more (contract_of table) (clause_at table) line parts spans values (word_at table 5) l.i l.at _ (omega (arith, l.invariant.0)) q (sym same ∙ c.if-not-same_clause.false))

pub returns-then-not-same_clause : goal.returns-then-not-same_clause
returns-then-not-same_clause c =
    let a = c.args.self.now in
    let line = a.line.now in
    let parts = a.parts.now in
    let spans = a.spans.now in
    let table = a.terms.table.now in
    let values = a.values.now in
    let l = c.loop-i in
    let h = c.of-clause.ensures in
    let same : c.same_clause.result ≡ same_clause (contract_of table) (clause_at table l.i) (part_at line parts spans values l.i l.at) =
    c.same_clause.ensures
    ∙ λ t. same_clause (contract_of (h.same_heard t).terms.table.now) (clause_at (h.same_heard t).terms.table.now (h.same_i t)) (part_at (h.same_heard t).line.now (h.same_heard t).parts.now (h.same_heard t).spans.now (h.same_heard t).values.now (h.same_i t) (h.same_at t)) in
    sym (l.invariant.4 ∙ clauses_not (contract_of table) (clause_at table) line parts spans values (word_at table 5) l.i l.at (omega (arith, l.invariant.0)) (sym same ∙ c.if-not-same_clause.true))

pub returns-then-spans-at : goal.returns-then-spans-at
returns-then-spans-at c =
    let a = c.args.self.now in
    let parts = a.parts.now in
    let spans = a.spans.now in
    let values = a.values.now in
    let l = c.loop-i in
    let n = word_at a.terms.table.now 5 in
    let q : l.i ≡ c.head-count.result.clauses = omega (arith, l.invariant.3) in
    let done = l.invariant.4 ∙ clauses_all (contract_of a.terms.table.now) (clause_at a.terms.table.now) a.line.now parts spans values n l.i l.at (omega (arith, l.invariant.0)) ∙ ap (λ (k : ℕ). leb (length parts) (k * 4) && (leb (length spans) (l.at * 2) && leb (length values) l.at)) q in
    search (rules, tests, done)

pub returns-else-spans-at : goal.returns-else-spans-at
returns-else-spans-at c =
    let a = c.args.self.now in
    let parts = a.parts.now in
    let spans = a.spans.now in
    let values = a.values.now in
    let l = c.loop-i in
    let n = word_at a.terms.table.now 5 in
    let q : l.i ≡ c.head-count.result.clauses = omega (arith, l.invariant.3) in
    let done = l.invariant.4 ∙ clauses_all (contract_of a.terms.table.now) (clause_at a.terms.table.now) a.line.now parts spans values n l.i l.at (omega (arith, l.invariant.0)) ∙ ap (λ (k : ℕ). leb (length parts) (k * 4) && (leb (length spans) (l.at * 2) && leb (length values) l.at)) q in
    search (rules, tests, done)
