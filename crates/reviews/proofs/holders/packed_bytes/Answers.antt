-- `reviews::holders::packed_bytes` meets its contract. Assumes nothing.
use mathlib.Core.Path.{refl}
use Rattle.groups.proofs.Loops.{filled_none, filled_more, filled_all}
use Rattle.reviews.proofs.holders.packed_bytes.Goals as goal

pub loop-j-init : goal.loop-j-init
loop-j-init c = filled_none _ _ _ refl

pub loop-j-preserved : goal.loop-j-preserved
loop-j-preserved c = filled_more _ _ c.loop-j.bytes c.loop-j.j c.packed_byte.result c.loop-j-test.true c.packed_byte.ensures c.loop-j.invariant

pub returns : goal.returns
returns c = filled_all _ _ c.loop-j.bytes c.loop-j.j c.loop-j-test.false c.loop-j.invariant
