-- `evaluation::Memory::simple` meets its contract. Assumes nothing.
use native.Mathlib.Omega.{arith}
use Rattle.evaluation.proofs.Truths.{simple_low, simple_compared}
use Rattle.evaluation.proofs.Memory.simple.Goals as goal

pub returns-in-14-to-19 : goal.returns-in-14-to-19
returns-in-14-to-19 c = simple_compared _ _ _ _ c.node_at-node.ensures _ (omega arith) (omega arith) c.compared_at.ensures

pub returns-in_default : goal.returns-in_default
returns-in_default c = simple_low _ _ _ _ c.node_at-node.ensures (λ q. omega arith) (λ q. omega arith) (omega arith)
