-- `results::many::Coded::put_lines` meets its contract. Assumes nothing.
use mathlib.Core.Path.{refl, sym, ◌∙◌}
use native.Mathlib.Omega.{arith}
use Rattle.printing.proofs.Puts.{kept}
use Rattle.results.proofs.Turns.{ready_at, start, next_room, part_room, turn_lent, turn_none, all_put}
use Rattle.results.proofs.many.Coded.put_lines.Goals.{in-Some, in_default}
use Rattle.results.proofs.many.Coded.put_lines.Goals as goal

pub loop-i-init : goal.loop-i-init
loop-i-init c = start refl refl

pub overflow_add-end : goal.overflow_add-end
overflow_add-end c = record { fits = omega (arith, next_room c.loop-i.invariant c.requires.room c.loop-i-test.true, kept c.loop-i.invariant.lines) }

pub slice_bounds-write_line-end : goal.slice_bounds-write_line-end
slice_bounds-write_line-end c = next_room c.loop-i.invariant c.requires.room c.loop-i-test.true

pub write_line-used-requires : goal.write_line-used-requires
write_line-used-requires c =
    let g = c.loop-i.invariant in
    let a = c.requires in
    let l = c.loop-i-test.true in
    record {
      room = part_room g a.room l;
      range = ready_at a (sym c.in-Some.is ∙ c.report_at.ensures) (omega (arith, g.first)) (omega (arith, g.first, l));
    }

pub loop-i-preserved : goal.loop-i-preserved
loop-i-preserved c =
    let g = c.loop-i.invariant in
    let l = c.loop-i-test.true in
    elim c.match-report_at.branch [ in-Some w ↦ (rw (w.used-is, w.buffer-is) (turn_lent g c.requires.room l (sym w.in-Some.is ∙ c.report_at.ensures) w.write_line-used.ensures)) | in_default w ↦ (rw (w.used-is, w.buffer-is) (turn_none g l (sym w.in_default.is ∙ c.report_at.ensures))) ]

pub returns : goal.returns
returns c = all_put c.loop-i.invariant c.loop-i-test.false
