-- `results::many::report_at` meets its contract. Assumes nothing.
use native.Mathlib.Omega.{arith}
use mathlib.Core.Path.{◌∙◌}
use mir.Syntax.{w64}
use mir.Val.{SFits}
use mir.Facts.{to_z-of_z}
use Rattle.results.proofs.Turns.{lent, at_whole}
use Rattle.results.proofs.many.report_at.Goals as goal

pub returns : goal.returns
returns c =
    let f : SFits w64 c.in_ok-get-2.field-0.now = record { sfits = omega arith } in
    c.from_numbers.ensures
    ∙ at_whole _ _ c.as_chunks.ensures.front c.as_chunks.ensures.front_len (lent _ _ c.in_ok-get.was c.get.ensures.lookup.3) (lent _ _ c.in_ok-get-2.was c.get-2.ensures.lookup.3) (to_z-of_z f)
