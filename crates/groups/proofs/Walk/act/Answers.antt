-- `groups::Walk::act` meets its contract. Assumes nothing.
use Rattle.groups.proofs.Walking.{act_value, act_party, act_holders}
use Rattle.groups.proofs.Walk.act.Goals as goal

pub returns-then-node_at-eq-VALUE_MOVE-clause-value : goal.returns-then-node_at-eq-VALUE_MOVE-clause-value
returns-then-node_at-eq-VALUE_MOVE-clause-value c =
    let s = c.args.self.now in
    act_value s.firsts.now s.table.now s.first_parameter c.args.k _ c.node_at.ensures c.if-node_at-eq-VALUE_MOVE.true

pub returns-then-target-eq-PARTY-clause-value : goal.returns-then-target-eq-PARTY-clause-value
returns-then-target-eq-PARTY-clause-value c =
    let s = c.args.self.now in
    act_party s.firsts.now s.table.now s.first_parameter c.args.k _ c.node_at.ensures c.if-node_at-eq-VALUE_MOVE.false _ c.saturating_sub.ensures _ c.node_at-target.ensures
    c.if-target-eq-PARTY.true

pub returns-clause-value : goal.returns-clause-value
returns-clause-value c =
    let s = c.args.self.now in
    act_holders s.firsts.now s.table.now s.first_parameter c.args.k _ c.node_at.ensures c.if-node_at-eq-VALUE_MOVE.false _ c.saturating_sub.ensures _ c.node_at-target.ensures
    c.if-target-eq-PARTY.false _ c.saturating_sub-2.ensures _ c.node_at-source.ensures _ _ c.first_of-a.ensures c.first_of-b.ensures c.merge.ensures
