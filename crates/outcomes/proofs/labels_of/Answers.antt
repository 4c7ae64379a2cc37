-- `outcomes::labels_of` meets its contract. Assumes nothing.
use mathlib.Core.Path.{ap, ◌∙◌}
use mathlib.Core.List.{List}
use Prim.Native.Nat.{◌+◌, ◌*◌}
use native.Mathlib.Omega.{arith}
use lib.ListN.{length, get_or}
use lib.IntN.{pos, nat_abs}
use mir.Syntax.{w64}
use mir.Val.{SFits}
use mir.Facts.{to_z-of_z}
use Rattle.statements.specs.declared.Label.{Label}
use Rattle.outcomes.specs.Outcomes.{no_label}
use Rattle.laws.proofs.Members.{repeated_length}
use Rattle.outcomes.proofs.Labels.{drawn_none, drawn_more, drawn_all}
use Rattle.outcomes.proofs.labels_of.Goals as goal

pub loop-i-init : goal.loop-i-init
loop-i-init c =
    (drawn_none _ 64 _ (ap (λ (l : List Label). length l) c.blank_labels-out.ensures ∙ repeated_length 64 no_label))

pub loop-i-preserved : goal.loop-i-preserved
loop-i-preserved c =
    let l = c.loop-i in
    let k : SFits w64 (get_or c.args.words.now (4 * l.i) (pos 0)) = record { sfits = c.unsigned_abs-arg-1.given } in
    let p : SFits w64 (get_or c.args.words.now (4 * l.i + 1) (pos 0)) = record { sfits = c.unsigned_abs-arg-in-loop-i-1.given } in
    let v : SFits w64 (get_or c.args.words.now (4 * l.i + 2) (pos 0)) = record { sfits = c.out-1.given } in
    let g : SFits w64 (get_or c.args.words.now (4 * l.i + 3) (pos 0)) = record { sfits = c.unsigned_abs-arg-in-loop-i-2-1.given } in
    (drawn_more c.args.words.now 64 c.told-words _ _ _ _ (c.unsigned_abs.ensures.value ∙ ap nat_abs (to_z-of_z k)) (c.unsigned_abs-in-loop-i.ensures.value ∙ ap nat_abs (to_z-of_z p)) (to_z-of_z v) (c.unsigned_abs-in-loop-i-2.ensures.value ∙ ap nat_abs (to_z-of_z g)) l.invariant (omega arith))

pub returns : goal.returns
returns c =
    let l = c.loop-i in
    drawn_all c.args.words.now 64 c.told-words l.invariant (omega arith)
