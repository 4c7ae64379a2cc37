-- `printing::Writer::put_number` meets its contract. Assumes nothing.
use mathlib.Core.Path.{sym}
use Rattle.printing.proofs.Puts.{puts_same}
use Rattle.printing.proofs.Digits.{one_digit, two_long}
use Rattle.printing.proofs.Writer.put_number.Goals as goal

pub returns-then-n-lt10 : goal.returns-then-n-lt10
returns-then-n-lt10 c = puts_same _ _ (sym (one_digit c.args.n c.if-n-lt10.true)) c.put_byte.ensures

pub put_digits-requires : goal.put_digits-requires
put_digits-requires c = sym (two_long c.args.n c.if-n-lt10.false c.if-n-lt100.true)
