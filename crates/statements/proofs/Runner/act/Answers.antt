-- `statements::Runner::act` meets its contract. Assumes nothing.
use Rattle.statements.specs.Lending.{work_of, groups_by}
use Rattle.statements.proofs.Actions.{acts_value, acts_amount}
use Rattle.statements.proofs.Runner.act.Goals as goal

pub returns-then-kind-eq-VALUE_MOVE-clause-value : goal.returns-then-kind-eq-VALUE_MOVE-clause-value
returns-then-kind-eq-VALUE_MOVE-clause-value c =
    let s = c.args in
    let r = s.self.now in
    acts_value (groups_by r) r.values.now r.clock (work_of r) r.table.now s.k _ c.node_at-kind.ensures _ c.answer_of-answer.ensures _ c.if-kind-eq-VALUE_MOVE.true c.give_value.ensures.value

pub returns-clause-value : goal.returns-clause-value
returns-clause-value c =
    let s = c.args in
    let r = s.self.now in
    acts_amount (groups_by r) r.values.now r.clock (work_of r) r.table.now s.k _ c.node_at-kind.ensures _ c.answer_of-answer.ensures _ c.if-kind-eq-VALUE_MOVE.false c.give_amount.ensures.value
