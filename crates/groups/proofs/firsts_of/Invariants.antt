-- `groups::firsts_of` meets its contract. Assumes nothing.
use Rattle.std.proofs.Common.{◌≡◌}
use Rattle.contract.specs.Decode.{contract_of}
use Rattle.groups.specs.Groups.{apart, moves, with_moves}
use Rattle.groups.proofs.Walking.{functions_left}
use Rattle.groups.proofs.firsts_of.Given as goal

-- the functions that are left give the whole
abbrev pub invariant-loop-n : goal.invariant-loop-n
invariant-loop-n l = functions_left l.terms.table.now l.firsts l.n ≡ with_moves apart (moves (contract_of l.terms.table.now))
