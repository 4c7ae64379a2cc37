-- `machine::Whole::play_on` meets its contract. Assumes nothing.
use mathlib.Core.Path.{sym, ap, ◌∙◌}
use Rattle.laws.specs.Lists.{repeated}
use Rattle.outcomes.proofs.Labels.{no_labels_lem}
use Rattle.machine.proofs.Playing.{some_due, going_first, goes_up, going_on, left_blank, ended_full, ended_wait}
use Rattle.machine.specs.Sessions.{takes}
use Rattle.machine.specs.Private.{said_of, place_after, turn_of}
use Rattle.machine.proofs.Whole.play_on.Goals as goal

pub loop-n-init : goal.loop-n-init
unfolding repeated
loop-n-init c =
    (going_first _ c.room_in-room.ensures c.args.s, no_labels_lem)

pub returns-after-loop-n : goal.returns-after-loop-n
returns-after-loop-n c = ended_full c.loop-n.invariant.0 c.loop-n-test.false

pub returns-in_default : goal.returns-in_default
returns-in_default c =
    ended_wait c.loop-n.invariant.0 (c.next.ensures.turn ∙ ap (turn_of c.args.input.now c.loop-n.at) c.in_default.is)

pub take_up-r-requires : goal.take_up-r-requires
take_up-r-requires c =
    record {
      due = some_due _ _ c.next.ensures.due c.in-Some.is;
      no_labels = c.loop-n.invariant.1;
    }

pub clear_sent-requires : goal.clear_sent-requires
clear_sent-requires c =
    left_blank c.loop-n.invariant.0 {next = place_after c.loop-n.at c.in-Some.taken} _ _ _ (record { taken_up = said_of c.args.input.now c.loop-n.at c.in-Some.taken; turned = c.next.ensures.turn ∙ ap (turn_of c.args.input.now c.loop-n.at) c.in-Some.is; came_so = c.take_up-r.ensures })

pub loop-n-smaller : goal.loop-n-smaller
loop-n-smaller c =
    goes_up c.loop-n.invariant.0 c.loop-n-test.true c.room_in-room.ensures _ _ c.report-n.ensures.value

pub loop-n-preserved : goal.loop-n-preserved
loop-n-preserved c =
    let u = c.report-n.ensures in
    (going_on c.loop-n.invariant.0 c.loop-n-test.true c.room_in-room.ensures _ _ _ (record { taken_up = said_of c.args.input.now c.loop-n.at c.in-Some.taken; turned = c.next.ensures.turn ∙ ap (turn_of c.args.input.now c.loop-n.at) c.in-Some.is ∙ ap (takes (said_of c.args.input.now c.loop-n.at c.in-Some.taken)) (sym c.place_after-at.ensures); came_so = c.take_up-r.ensures }) u.value u.numbers_after u.integers_after, c.clear_sent.ensures)
