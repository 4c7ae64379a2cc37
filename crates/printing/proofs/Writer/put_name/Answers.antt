-- `printing::Writer::put_name` meets its contract. Assumes nothing.
use mathlib.Core.Path.{refl, ◌∙◌}
use native.Mathlib.Omega.{arith}
use Rattle.printing.specs.Pieces.{name_bytes}
use Rattle.printing.proofs.Puts.{has_room, lacks_room, stored, puts_whole, puts_nothing}
use Rattle.printing.proofs.Names.{as_long, name_next}
use Rattle.printing.proofs.Writer.put_name.Goals as goal

pub loop-i-preserved : goal.loop-i-preserved
loop-i-preserved c =
    let l = c.loop-i in
    record {
      rest = name_next c.args.table.now c.args.o c.name_at-name.ensures l.self.buffer.now c.args.self.now.at l.i c.loop-i-test.true ∙ l.invariant.rest;
      same_buffer = l.invariant.same_buffer;
    }

pub returns-after-loop-i : goal.returns-after-loop-i
returns-after-loop-i c =
    let a = c.args in
    let l = c.loop-i in
    let n = as_long a.table.now a.o c.name_at-name.ensures in
    let h = has_room _ _ _ c.has_room.ensures c.if-has_room.true in
    puts_whole
    (stored (name_bytes a.table.now a.o) a.self.now.at l.i _ l.invariant.rest (omega (arith, n, c.loop-i-test.false)) (omega (arith, n)) (omega (arith, n, h)))
    l.invariant.same_buffer

pub returns-else-has_room : goal.returns-else-has_room
returns-else-has_room c =
    let a = c.args in
    puts_nothing _ _ (name_bytes a.table.now a.o)
    (omega (arith, as_long a.table.now a.o c.name_at-name.ensures, lacks_room _ _ _ c.has_room.ensures c.if-has_room.false))
    refl
