-- `results::many::Coded::put_lines` meets its contract. The invariant of its loop: the lines before report i stand first in the buffer, none of them
-- longer than 128 bytes. Assumes nothing.
use Rattle.contract.specs.Decode.{contract_of}
use Rattle.results.proofs.Turns.{Going}
use Rattle.results.proofs.many.Coded.put_lines.Given as goal

abbrev pub invariant-loop-i : goal.invariant-loop-i
invariant-loop-i l = Going (contract_of l.self.terms.table.now) l.self.numbers.now l.self.integers.now l.self.from l.self.to l.initial.buffer l.i l.used l.buffer
