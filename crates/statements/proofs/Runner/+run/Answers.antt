-- Running a block, the statement at its end and the block of a conditional, which call each other, meet their contracts. Assumes nothing.
use mathlib.Core.Path.{refl, sym, ap, ◌∙◌}
use Prim.Native.Nat.{◌-◌}
use native.Mathlib.Omega.{arith}
use Rattle.std.specs.Prelude.{Err}
use Rattle.std.specs.Result.{result_err}
use Rattle.std.proofs.lemmas.Result.{err_from_is_err_and}
use Rattle.statements.specs.Running.{group_at}
use Rattle.statements.specs.Private.{performed_at}
use Rattle.statements.specs.Lending.{work_by, work_of, groups_by}
use Rattle.statements.proofs.Blocks.{before_falls, ran_none, ran_broken, ran_refused, ran_on, one_action, one_branch, branch_stopped, branch_held, branch_skipped}
use Rattle.statements.proofs.Runner.+run.Goals as goal

pub branch-returns-in_default-clause-value : goal.branch-returns-in_default-clause-value
branch-returns-in_default-clause-value t c =
    let s = c.args in
    let r = s.self.now in
    branch_stopped (groups_by r) r.values.now r.clock (work_of r) r.table.now s.first s.k _ c.saturating_sub.ensures _ c.truth-answer.ensures _ c.unwrap_err.ensures

pub branch-returns-then-holds-clause-value : goal.branch-returns-then-holds-clause-value
branch-returns-then-holds-clause-value t c =
    let s = c.args in
    let r = s.self.now in
    c.run.ensures.value
    ∙ branch_held (groups_by r) r.values.now r.clock (work_of r) r.table.now s.first s.k _ c.saturating_sub.ensures _ c.truth-answer.ensures _ c.in-Ok.is c.if-holds.true

pub branch-returns-clause-value : goal.branch-returns-clause-value
branch-returns-clause-value t c =
    let s = c.args in
    let r = s.self.now in
    branch_skipped (groups_by r) r.values.now r.clock (work_of r) r.table.now s.first s.k _ c.saturating_sub.ensures _ c.truth-answer.ensures _ c.in-Ok.is c.if-holds.false

pub perform-returns-then-node-ne-CONDITIONAL-clause-value : goal.perform-returns-then-node-ne-CONDITIONAL-clause-value
perform-returns-then-node-ne-CONDITIONAL-clause-value t c =
    let s = c.args in
    let r = s.self.now in
    c.act.ensures.value ∙ one_action (groups_by r) r.values.now r.clock (work_of r) r.table.now s.k _ c.node_at-node.ensures c.if-node-ne-CONDITIONAL.true

pub perform-returns-clause-value : goal.perform-returns-clause-value
perform-returns-clause-value t c =
    let s = c.args in
    let r = s.self.now in
    c.branch-self.ensures.value
    ∙ one_branch (groups_by r) r.values.now r.clock (work_of r) r.table.now s.k _ c.node_at-node.ensures c.if-node-ne-CONDITIONAL.false _ _ c.argument_at.ensures
    c.saturating_sub-first.ensures

pub run-returns-then-end-from-clause-value : goal.run-returns-then-end-from-clause-value
run-returns-then-end-from-clause-value t c =
    let s = c.args in
    let r = s.self.now in
    ran_none (groups_by r) r.values.now r.clock (work_of r) r.table.now s.from s.end c.if-end-from.true _ c.begin.ensures

pub run-returns-then-not-is_statement-clause-value : goal.run-returns-then-not-is_statement-clause-value
run-returns-then-not-is_statement-clause-value t c =
    let s = c.args in
    let r = s.self.now in
    ran_broken (groups_by r) r.values.now r.clock (work_of r) r.table.now s.from s.end c.if-end-from.false (sym c.is_statement.ensures ∙ c.if-not-is_statement.true)

pub run-run-before-requires : goal.run-run-before-requires
run-run-before-requires t c =
    let s = c.args in
    (omega (arith, c.decreases, c.if-end-from.false, before_falls s.self.now.table.now (s.end - 1), c.end_before.ensures), tt)

pub run-returns-in_err-before-clause-value : goal.run-returns-in_err-before-clause-value
run-returns-in_err-before-clause-value t c =
    let s = c.args in
    let r = s.self.now in
    let p = err_from_is_err_and c.from_residual.result c.from_residual.ensures.1 in
    ap (λ o. work_by c.run-before.new.self (result_err o)) (p.1 ∙ ap Err p.2 ∙ sym c.in_err-before.was) ∙ c.run-before.ensures.value
    ∙ ran_refused (groups_by r) r.values.now r.clock (work_of r) r.table.now s.from s.end c.if-end-from.false (sym c.is_statement.ensures ∙ c.if-not-is_statement.false) _
    c.end_before.ensures _ refl _ (sym (ap (λ y. y.refusal) c.run-before.ensures.value) ∙ ap result_err c.in_err-before.was)

pub run-returns-clause-value : goal.run-returns-clause-value
run-returns-clause-value t c =
    let s = c.args in
    let r = s.self.now in
    let x = c.run-before.new.self in
    let l = c.run-before.ensures.same_lists in
    c.perform.ensures.value ∙ (λ i. performed_at (group_at (l.groups i).now (l.first_parameter i)) (l.values i).now (l.clock i) (work_of x) (l.table i).now (s.end - 1))
    ∙ ran_on (groups_by r) r.values.now r.clock (work_of r) r.table.now s.from s.end c.if-end-from.false (sym c.is_statement.ensures ∙ c.if-not-is_statement.false) _
    c.end_before.ensures (work_of x) c.in_ok-before.ensures.value refl
