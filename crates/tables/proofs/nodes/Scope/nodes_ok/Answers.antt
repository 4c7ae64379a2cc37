-- `tables::nodes::Scope::nodes_ok` meets its contract. Assumes nothing.
use mathlib.Core.Path.{◌≡◌, refl, sym, ap, ◌∙◌}
use mathlib.Core.Bool.{◌&&◌}
use Prim.Native.Nat.{ℕ, suc, ◌+◌}
use native.Mathlib.Omega.{arith}
use lib.Dec.{leb}
use Rattle.contract.specs.Check.{is_sort, statement as a-statement, node_ok, scope_at, statements_in, nodes_ok}
use Rattle.laws.specs.Lists.{all_below}
use Rattle.laws.specs.Choice.{pick}
use Rattle.contract.specs.declared.Node.{Node}
use Rattle.contract.specs.Table.{kind_at}
use Rattle.laws.proofs.Members.{all_more}
use Rattle.contract.proofs.Tests.{all_stop, all_end}
use Rattle.tables.proofs.Checked.{statements_more, counted_most}
use Rattle.tables.proofs.nodes.Scope.nodes_ok.Goals as goal

pub loop-j-init : goal.loop-j-init
unfolding all_below statements_in
loop-j-init c = (omega arith, refl, refl)

pub loop-j-preserved : goal.loop-j-preserved
loop-j-preserved c =
    let s = c.args.self.now in
    let here = c.of-here in
    let e = here.ensures in
    let kind : here.result.node.kind ≡ kind_at s.table.now (c.args.from + c.loop-j.j) =
    ap (λ (n : Node). n.kind) here.result.read ∙ λ t. kind_at (e.same_scope t).table.now (e.same_k t) in
    let count : c.counted-count.result ≡ pick (is_sort a-statement (kind_at s.table.now (c.args.from + c.loop-j.j))) (suc c.loop-j.count) c.loop-j.count =
    c.counted-count.ensures ∙ ap (λ (n : ℕ). pick (is_sort a-statement n) (suc c.loop-j.count) c.loop-j.count) kind in (
      omega (arith, counted_most (is_sort a-statement (kind_at s.table.now (c.args.from + c.loop-j.j))) c.loop-j.count count),
      statements_more s.table.now c.args.from c.loop-j.j c.loop-j.count c.loop-j.invariant.1 count,
      all_more _ _ c.loop-j.invariant.2 (sym (c.is_ok.ensures ∙ λ t. node_ok (e.same_scope t).table.now (scope_at (e.same_scope t).table.now (e.same_scope t).values (e.same_scope t).parameters) (e.same_from t) (e.same_k t)) ∙ c.if-not-is_ok.false),
    )

pub returns-then-not-is_ok : goal.returns-then-not-is_ok
unfolding nodes_ok
returns-then-not-is_ok c =
    let s = c.args.self.now in
    let e = c.of-here.ensures in
    let here : c.is_ok.result ≡ node_ok s.table.now (scope_at s.table.now s.values s.parameters) c.args.from (c.args.from + c.loop-j.j) =
    c.is_ok.ensures ∙ λ t. node_ok (e.same_scope t).table.now (scope_at (e.same_scope t).table.now (e.same_scope t).values (e.same_scope t).parameters) (e.same_from t) (e.same_k t) in
    λ i. all_stop (λ j. node_ok s.table.now (scope_at s.table.now s.values s.parameters) c.args.from (c.args.from + j)) c.loop-j.j c.args.n (omega arith) (sym here ∙ c.if-not-is_ok.true) i && leb (statements_in s.table.now c.args.from c.args.n) 64

pub returns : goal.returns
unfolding nodes_ok
returns c =
    let w = c.args.self.now.table.now in
    let e : c.loop-j.j ≡ c.args.n = omega arith in
    λ i. all_end (λ j. node_ok w (scope_at w c.args.self.now.values c.args.self.now.parameters) c.args.from (c.args.from + j)) c.loop-j.j c.args.n (omega arith) (omega arith) c.loop-j.invariant.2 i && leb ((c.loop-j.invariant.1 ∙ ap (statements_in w c.args.from) e) i) 64
