-- `printing::Writer::put_bytes` meets its contract. Assumes nothing.
use mathlib.Core.Path.{refl}
use native.Mathlib.Omega.{arith}
use Rattle.printing.proofs.Puts.{has_room, lacks_room, put_part, puts_whole, puts_nothing}
use Rattle.printing.proofs.Writer.put_bytes.Goals as goal

pub returns-then-has_room : goal.returns-then-has_room
returns-then-has_room c =
    let a = c.args in
    puts_whole (put_part a.self.now.buffer.now a.self.now.at a.word.now _ _ (omega arith) (has_room _ _ _ c.has_room.ensures c.if-has_room.true) c.copy_from_slice.ensures.after) refl

pub returns-else-has_room : goal.returns-else-has_room
returns-else-has_room c = puts_nothing _ _ c.args.word.now (lacks_room _ _ _ c.has_room.ensures c.if-has_room.false) refl
