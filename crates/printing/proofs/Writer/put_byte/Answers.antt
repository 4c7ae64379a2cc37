-- `printing::Writer::put_byte` meets its contract. Assumes nothing.
use mathlib.Core.Path.{refl}
use mathlib.Core.List.{[], ◌∷◌}
use native.Mathlib.Omega.{arith}
use Rattle.printing.proofs.Puts.{puts_whole, puts_nothing}
use Rattle.printing.proofs.Writer.put_byte.Goals as goal

pub returns-then-at-self : goal.returns-then-at-self
returns-then-at-self c = puts_whole {w = c.args.b ∷ []} record { place = refl; list = refl; room = omega (arith, c.if-at-self.true) } refl

pub returns-else-at-self : goal.returns-else-at-self
returns-else-at-self c = puts_nothing _ _ (c.args.b ∷ []) (omega (arith, c.if-at-self.false)) refl
