-- `reader::pass_over` meets its contract. Assumes nothing.
use Rattle.std.proofs.Common.{rules}
use Rattle.contract.specs.Encode.{zeros}
use Rattle.cursors.proofs.Tested as packed
use Rattle.reader.proofs.PackedWhole.{ends_stopped, ends_lent}
use Rattle.reader.proofs.pass_over.Goals as goal

pub returns-then-stops : goal.returns-then-stops
unfolding zeros
returns-then-stops c =
    let s = c.args.text.now in
    ends_stopped s _ _ _ _ _ _ _ _ c.contract_text-r.ensures.value (packed.halts s _ _ c.stops.ensures c.if-stops.true) c.kind_of.ensures c.start_of.ensures c.by_number.ensures

pub returns : goal.returns
unfolding zeros
returns c =
    ends_lent _ _ _ _ _ _ _ _ c.contract_text-r.ensures.value (packed.keeps c.args.text.now _ _ c.stops.ensures c.if-stops.false) c.settle.ensures.value c.settle.ensures.table_after (search rules)
