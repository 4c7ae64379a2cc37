-- `holdings::amount_of` meets its contract. Assumes nothing.
use mathlib.Core.Path.{ap, ◌∙◌}
use lib.IntN.{nat_abs}
use mir.Val.{SFits}
use mir.Syntax.{w64}
use mir.Facts.{to_z-of_z}
use Rattle.holdings.proofs.Copies.{amount_at}
use Rattle.holdings.proofs.amount_of.Goals as goal

pub returns : goal.returns
returns c =
    let f : SFits w64 c.get_or.result = record { sfits = c.get_or.type_inv } in
    c.unsigned_abs.ensures.value ∙ ap nat_abs (to_z-of_z f ∙ c.get_or.ensures) ∙ amount_at _ _
