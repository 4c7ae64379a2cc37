-- `printing::Writer::put_integer` meets its contract. Assumes nothing.
use mir.Facts.{to_z-of_z}
use Rattle.numbers.proofs.Whole.{again}
use Rattle.printing.proofs.Digits.{signed_natural, signed_negative}
use Rattle.printing.proofs.Puts.{puts_same}
use Rattle.printing.proofs.Writer.put_integer.Goals as goal

pub returns-in-Ok : goal.returns-in-Ok
returns-in-Ok c = let e = c.in-Ok.ensures in puts_same _ _ (signed_natural (to_z-of_z c.ranges.z) e.1 e.0) c.put_number.ensures

pub returns-in-Err : goal.returns-in-Err
returns-in-Err c =
    puts_same _ _ (signed_negative (to_z-of_z c.ranges.z) c.unsigned_abs.ensures.value (again c.ranges.z) c.in-Err.ensures) c.put_negative.ensures
