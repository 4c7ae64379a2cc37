-- `evaluation::parameter_amount` meets its contract. Assumes nothing.
use mathlib.Core.Path.{ap, ◌∙◌}
use mathlib.Core.List.{List}
use Prim.Native.Nat.{ℕ}
use native.Mathlib.Omega.{arith}
use lib.ListN.{get_or, drop, length-drop}
use lib.Seq.{take_all, get_or-drop}
use Rattle.evaluation.proofs.parameter_amount.Goals as goal

pub returns : goal.returns
returns c =
    let held = c.args.holdings.now in
    c.get_or.ensures ∙ ap (λ (l : List ℕ). get_or l c.args.i 0) (take_all 4 (drop 16 held) (omega (arith, length-drop 16 held, c.told-holdings)))
    ∙ get_or-drop 16 held c.args.i 0
