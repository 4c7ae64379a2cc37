-- `groups::Walk::walk`, which calls itself, meets its contract. Assumes nothing.
use mathlib.Core.Path.{sym, ◌∙◌}
use Prim.Native.Nat.{◌-◌}
use native.Mathlib.Omega.{arith}
use Rattle.contract.specs.Decode.{block_between}
use Rattle.statements.specs.Blocks.{action_at}
use Rattle.statements.proofs.Blocks.{before_falls}
use Rattle.groups.specs.Groups.{action_moves, block_moves, with_moves}
use Rattle.groups.proofs.Walking.{walk_none, walk_broken, walk_conditional, walk_action}
use Rattle.groups.proofs.Walk.+walk.Goals as goal

pub returns-then-end-from-clause-value : goal.returns-then-end-from-clause-value
returns-then-end-from-clause-value t c =
    let a = c.args in
    let s = a.self.now in
    walk_none s.firsts.now s.table.now s.first_parameter a.from a.end c.if-end-from.true

pub returns-then-not-is_statement-clause-value : goal.returns-then-not-is_statement-clause-value
returns-then-not-is_statement-clause-value t c =
    let a = c.args in
    let s = a.self.now in
    walk_broken s.firsts.now s.table.now s.first_parameter a.from a.end c.if-end-from.false (sym c.is_statement.ensures ∙ c.if-not-is_statement.true)

pub walk-requires : goal.walk-requires
walk-requires t c =
    let a = c.args in
    (omega (arith, c.decreases, c.if-end-from.false, before_falls a.self.now.table.now (a.end - 1), c.end_before-before.ensures), tt)

pub returns-then-node-eq-CONDITIONAL-clause-value : goal.returns-then-node-eq-CONDITIONAL-clause-value
returns-then-node-eq-CONDITIONAL-clause-value t c =
    let a = c.args in
    let s = a.self.now in
    let x = c.walk.new.self in
    let l = c.walk.ensures.same_lists in
    walk_conditional s.firsts.now s.table.now s.first_parameter a.from a.end c.if-end-from.false (sym c.is_statement.ensures ∙ c.if-not-is_statement.false)
    _ c.end_before-before.ensures c.walk.ensures.value _ c.node_at-node.ensures c.if-node-eq-CONDITIONAL.true _ c.saturating_sub-inner.ensures
    (c.walk-then-node-eq-CONDITIONAL.ensures.value
    ∙ (λ i. with_moves x.firsts.now (block_moves (l.first_parameter i) (block_between (l.table i).now c.saturating_sub-inner.result (a.end - 1)))))

pub returns-else-node-eq-CONDITIONAL-clause-value : goal.returns-else-node-eq-CONDITIONAL-clause-value
returns-else-node-eq-CONDITIONAL-clause-value t c =
    let a = c.args in
    let s = a.self.now in
    let x = c.walk.new.self in
    let l = c.walk.ensures.same_lists in
    walk_action s.firsts.now s.table.now s.first_parameter a.from a.end c.if-end-from.false (sym c.is_statement.ensures ∙ c.if-not-is_statement.false)
    _ c.end_before-before.ensures c.walk.ensures.value _ c.node_at-node.ensures c.if-node-eq-CONDITIONAL.false
    (c.act.ensures.value ∙ (λ i. with_moves x.firsts.now (action_moves (l.first_parameter i) (action_at (l.table i).now (a.end - 1)))))
