-- `reviews::holders::packed_bytes` meets its contract. Assumes nothing.
use Rattle.std.proofs.Common.{◌+◌, ◌*◌}
use Rattle.contract.specs.Table.{parameters_start}
use Rattle.contract.specs.Decode.{packed_byte}
use Rattle.groups.proofs.Loops.{Filled}
use Rattle.reviews.proofs.holders.packed_bytes.Given as goal

abbrev pub invariant-loop-j : goal.invariant-loop-j
invariant-loop-j l = Filled 32 (packed_byte l.table (parameters_start + l.i * 5)) l.bytes l.j
