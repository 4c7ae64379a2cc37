-- `groups::Walk::walk_handlers` meets its contract. Assumes nothing.
use Rattle.std.proofs.Common.{◌≡◌}
use Rattle.contract.specs.Decode.{each_from, event_at}
use Rattle.groups.specs.Groups.{handler_moves, with_moves}
use Rattle.groups.specs.Private.{SameLists}
use Rattle.groups.proofs.Walking.{handlers_left}
use Rattle.groups.proofs.Walk.walk_handlers.Given as goal

-- the handlers that are left give the whole
abbrev pub invariant-loop-i : goal.invariant-loop-i
invariant-loop-i l =
    let s = l.initial.self in
    record {
      value : handlers_left s.table.now s.first_parameter l.event l.count l.self.firsts.now l.i ≡ with_moves s.firsts.now (handler_moves s.first_parameter (each_from l.event l.count (event_at s.table.now)));
      same_lists : SameLists s l.self;
    }
