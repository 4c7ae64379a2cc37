-- `results::reports::write_line` meets its contract. Assumes nothing.
use borrow.Author.Rules.{rules}
use mathlib.Core.Path.{ap}
use native.Mathlib.Omega.{arith}
use lib.ListN.{length}
use Rattle.printing.proofs.Puts.{from_start}
use Rattle.results.proofs.reports.write_line.Goals as goal

pub put_line-requires : goal.put_line-requires
put_line-requires c =
    record {
      room = omega (arith, c.new-out.ensures.place, ap length c.new-out.ensures.bytes, c.requires.room);
      range = c.requires.range;
    }

pub returns : goal.returns
returns c =
    let line = c.put_line.ensures.written in
    record { put = from_start c.new-out.ensures.place c.new-out.ensures.bytes line.put (search rules); short = line.short }
