-- `groups::apart` meets its contract. Assumes nothing.
use mathlib.Core.Path.{refl}
use Rattle.groups.specs.Groups.{max_names}
use Rattle.groups.proofs.Loops.{filled_none, filled_more, filled_all}
use Rattle.groups.proofs.apart.Goals as goal

pub loop-k-init : goal.loop-k-init
loop-k-init c = filled_none max_names (λ k. k) _ refl

pub loop-k-preserved : goal.loop-k-preserved
loop-k-preserved c = filled_more max_names (λ k. k) c.loop-k.firsts c.loop-k.k c.loop-k.k c.loop-k-test.true refl c.loop-k.invariant

pub returns : goal.returns
returns c = filled_all max_names (λ k. k) c.loop-k.firsts c.loop-k.k c.loop-k-test.false c.loop-k.invariant
