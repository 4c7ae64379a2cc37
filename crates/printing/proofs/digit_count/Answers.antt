-- `printing::digit_count` meets its contract. Assumes nothing.
use mathlib.Core.Path.{sym}
use Rattle.printing.proofs.Digits.{long}
use Rattle.printing.proofs.digit_count.Goals as goal

pub returns : goal.returns
returns c = sym (long c.ilog10.result c.args.n _ c.max.ensures c.ilog10.ensures.power_le c.ilog10.ensures.next_power_gt)
