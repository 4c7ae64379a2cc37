-- `printing::Writer::put_digits` meets its contract. Assumes nothing.
use mathlib.Core.Path.{refl}
use native.Mathlib.Omega.{arith}
use Rattle.printing.specs.Decimal.{decimal}
use Rattle.printing.proofs.Puts.{lacks_room, puts_whole, puts_nothing}
use Rattle.printing.proofs.Writer.put_digits.Goals as goal

pub returns-then-has_room : goal.returns-then-has_room
returns-then-has_room c = puts_whole c.store_digits.ensures.written c.store_digits.ensures.same_buffer

pub returns-else-has_room : goal.returns-else-has_room
returns-else-has_room c =
    puts_nothing _ _ (decimal c.args.n) (omega (arith, c.requires, lacks_room _ _ _ c.has_room.ensures c.if-has_room.false)) refl
