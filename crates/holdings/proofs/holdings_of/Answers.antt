-- `holdings::holdings_of` meets its contract. Assumes nothing.
use Rattle.std.proofs.Common.{List, ℕ, ◌++◌, ap, refl, arith}
use Rattle.holdings.proofs.Copies.{held_copied, holding_more, holdings_made}
use Rattle.holdings.proofs.holdings_of.Goals as goal

pub loop-j-init : goal.loop-j-init
loop-j-init c = held_copied c.args.held.now c.args.assets.now c.told-held _ _ (ap (λ (l : List ℕ). l ++ _) c.copy_from_slice.ensures.after) refl

pub loop-j-preserved : goal.loop-j-preserved
loop-j-preserved c = holding_more c.args.held.now c.args.assets.now c.told-held c.loop-j.j _ c.loop-j.invariant refl (omega arith) c.amount_of.ensures

pub returns : goal.returns
returns c = holdings_made c.args.held.now c.args.assets.now c.told-held c.loop-j.invariant (omega arith)
