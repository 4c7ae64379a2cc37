-- `groups::Walk::walk_handlers` meets its contract. Assumes nothing.
use Rattle.std.proofs.Common.{refl, ◌∙◌, ◌≤◌, length, rules}
use Rattle.contract.specs.Decode.{event_at}
use Rattle.groups.specs.Groups.{block_moves, with_moves}
use Rattle.groups.proofs.Walking.{handlers_first, handlers_more, handlers_done}
use Rattle.groups.proofs.Walk.walk_handlers.Goals as goal

pub loop-i-init : goal.loop-i-init
loop-i-init c =
    let s = c.args.self.now in
    record {
      value = handlers_first s.table.now s.first_parameter c.args.event c.args.count s.firsts.now;
      same_lists = record { table = refl; firsts = refl; first_parameter = refl };
    }

pub loop-i-preserved : goal.loop-i-preserved
loop-i-preserved c =
    let a = c.args in
    let s = a.self.now in
    let x = c.loop-i.self in
    let m = c.loop-i.invariant.same_lists in
    let n = c.walk_handler.ensures.same_lists in
    let l : length s.table.now ≤ 18446744073709551615 = search rules in
    record {
      value =
          handlers_more s.table.now s.first_parameter a.event a.count x.firsts.now c.loop-i.i c.loop-i-test.true _ c.saturating_add.ensures l
          (c.walk_handler.ensures.value ∙ (λ i. with_moves x.firsts.now (block_moves (m.first_parameter i) (event_at (m.table i).now c.saturating_add.result).handler)))
          ∙ c.loop-i.invariant.value;
      same_lists = record { table = n.table ∙ m.table; firsts = n.firsts ∙ m.firsts; first_parameter = n.first_parameter ∙ m.first_parameter };
    }

pub returns-clause-value : goal.returns-clause-value
returns-clause-value c =
    let a = c.args in
    let s = a.self.now in
    handlers_done s.table.now s.first_parameter a.event a.count c.loop-i.self.firsts.now c.loop-i.i c.loop-i-test.false ∙ c.loop-i.invariant.value
