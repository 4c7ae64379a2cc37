-- `pages::payouts::Entries::put_lines` meets its contract. The invariant of its loop: the lines before entry i stand first in the buffer. Assumes nothing.
use mathlib.Core.Path.{refl, ap, ◌∙◌}
use Prim.Native.Nat.{◌<◌}
use native.Mathlib.Omega.{arith}
use lib.ListN.{length}
use Rattle.contract.specs.Decode.{contract_of}
use Rattle.printing.proofs.Puts.{same}
use Rattle.pages.specs.Page.{line_of}
use Rattle.pages.proofs.Composed.{all_payable, each_payable, each_whole, start, line_room, turn}
use Rattle.pages.proofs.payouts.Entries.put_lines.Goals as goal

pub loop-i-init : goal.loop-i-init
loop-i-init c = record { lines = start (omega (arith, c.requires.to_in_bounds.1)); same_buffer = refl }

pub entry-requires : goal.entry-requires
entry-requires c = each_whole (all_payable c.args.self.now.terms c.args.self.now.numbers.now c.args.self.now.values.now c.requires.payouts) _ (omega (arith, c.loop-i-test.true, c.requires.to_in_bounds.0))

pub put_line-requires : goal.put_line-requires
put_line-requires c =
    let l = c.loop-i-test.true in
    let few : c.loop-i.i < length c.args.self.now.values.now = omega (arith, c.requires.to_in_bounds.0) in
    rw c.entry.ensures
    (record { payout = each_payable (all_payable c.args.self.now.terms c.args.self.now.numbers.now c.args.self.now.values.now c.requires.payouts) _ few; room = line_room c.loop-i.invariant.lines (all_payable c.args.self.now.terms c.args.self.now.numbers.now c.args.self.now.values.now c.requires.payouts) c.requires.to_in_bounds.0 c.requires.to_in_bounds.1 l })

pub loop-i-preserved : goal.loop-i-preserved
loop-i-preserved c =
    record {
      lines = turn c.loop-i.invariant.lines c.loop-i-test.true (same (ap (line_of (contract_of c.args.self.now.terms.table.now)) c.entry.ensures) c.put_line.ensures.written);
      same_buffer = c.put_line.ensures.same_buffer ∙ c.loop-i.invariant.same_buffer;
    }
