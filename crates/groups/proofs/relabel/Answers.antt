-- `groups::relabel` meets its contract. Assumes nothing.
use Rattle.std.proofs.Common.{◌<◌, ◌∙◌, arith, length}
use Rattle.std.proofs.lemmas.List.{set-get_or}
use Rattle.groups.proofs.Loops.{turn_changed, turn_left}
use Rattle.groups.proofs.relabel.Goals.{then-first-from, else-first-from}
use Rattle.groups.proofs.relabel.Goals as goal

pub loop-first-preserved : goal.loop-first-preserved
loop-first-preserved c =
    let xs = c.args.firsts.now in
    let l = c.loop-first in
    let h : l.first-index < length xs = omega (arith, c.told-firsts) in
    elim c.if-first-from.branch [
      | then-first-from w ↦ w.firsts-is ∙ turn_changed xs l.firsts l.first-index c.args.from c.args.to h l.invariant w.if-first-from.true
      | else-first-from w ↦ w.firsts-is ∙ set-get_or l.firsts l.first-index 0 ∙ turn_left xs l.firsts l.first-index c.args.from c.args.to h l.invariant w.if-first-from.false
    ]
