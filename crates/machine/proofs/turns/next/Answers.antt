-- `machine::turns::next` meets its contract. Assumes nothing.
use Rattle.contract.specs.Decode.{contract_of}
use Rattle.machine.proofs.Playing.{turn_fires, turn_reads, turn_waits}
use Rattle.machine.proofs.turns.next.Goals as goal

pub returns-in-Some-clause-turn : goal.returns-in-Some-clause-turn
returns-in-Some-clause-turn c =
    turn_fires (contract_of c.args.table.now) c.args.input.now c.args.s.now c.args.at _ c.first_due.ensures c.in-Some.is

pub returns-clause-turn : goal.returns-clause-turn
returns-clause-turn c =
    turn_waits (contract_of c.args.table.now) c.args.input.now c.args.s.now c.args.at c.first_due.ensures c.in_default.is _ c.line_end-end.ensures c.if-end-input.false

pub returns-then-end-input-clause-turn : goal.returns-then-end-input-clause-turn
returns-then-end-input-clause-turn c =
    turn_reads (contract_of c.args.table.now) c.args.input.now c.args.s.now c.args.at c.first_due.ensures c.in_default.is _ c.line_end-end.ensures c.if-end-input.true
