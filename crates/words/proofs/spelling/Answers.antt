-- `words::spelling` meets its contract. Assumes nothing.
use Rattle.std.proofs.Common.{arith, ap, length, ◌+◌}
use Rattle.words.proofs.Packing.{ends_after, in_packed, found}
use Rattle.words.proofs.spelling.Goals as goal

pub slice_bounds-result-count : goal.slice_bounds-result-count
slice_bounds-result-count c = rw (c.start.ensures, c.start-2.ensures) (ends_after c.args.which)

pub slice_bounds-result-start : goal.slice_bounds-result-start
slice_bounds-result-start c = omega (arith, c.start.ensures, c.start-2.ensures, ends_after c.args.which)

pub slice_bounds-result-end : goal.slice_bounds-result-end
slice_bounds-result-end c = omega (arith, c.start-2.ensures, in_packed (c.args.which + 1), ap length c.packed.ensures)

pub returns : goal.returns
returns c = found c.args.which c.packed.ensures c.start.ensures c.start-2.ensures
