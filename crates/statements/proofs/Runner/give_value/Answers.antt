-- `statements::Runner::give_value` meets its contract. Assumes nothing.
use mathlib.Core.Path.{ap, ◌∙◌}
use Rattle.contract.specs.Rows.{node_of}
use Rattle.statements.specs.Lending.{work_of}
use Rattle.statements.proofs.Actions.{value_refused, value_sent, value_stored}
use Rattle.statements.proofs.Runner.give_value.Goals as goal

pub returns-in_default-clause-value : goal.returns-in_default-clause-value
returns-in_default-clause-value c =
    let s = c.args in
    value_refused (λ i. 0) (work_of s.self.now) s.self.now.table.now s.k s.answer _ c.unwrap_err.ensures

pub returns-then-target-eq-PARTY-clause-value : goal.returns-then-target-eq-PARTY-clause-value
returns-then-target-eq-PARTY-clause-value c =
    let s = c.args in
    let et = c.node_at-target.ensures ∙ ap (node_of s.self.now.table.now) c.saturating_sub.ensures in
    value_sent (λ i. 0) (work_of s.self.now) s.self.now.table.now s.k s.answer _ _ c.in-Ok.is _ et _ c.receiver_of.ensures c.if-target-eq-PARTY.true c.send.ensures.value

pub returns-else-target-eq-PARTY-clause-value : goal.returns-else-target-eq-PARTY-clause-value
returns-else-target-eq-PARTY-clause-value c =
    let s = c.args in
    let et = c.node_at-target.ensures ∙ ap (node_of s.self.now.table.now) c.saturating_sub.ensures in
    value_stored (λ i. 0) (work_of s.self.now) s.self.now.table.now s.k s.answer _ _ c.in-Ok.is _ et c.if-target-eq-PARTY.false c.store.ensures.value
