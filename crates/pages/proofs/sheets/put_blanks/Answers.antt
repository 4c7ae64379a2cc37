-- `pages::sheets::put_blanks` meets its contract. The invariant of its loop: i blank lines stand in the buffer. Assumes nothing.
use mathlib.Core.Path.{refl, ◌∙◌}
use Rattle.pages.proofs.Composed.{none_blank, blank_room, more_blank}
use Rattle.pages.proofs.sheets.put_blanks.Goals as goal

pub loop-i-init : goal.loop-i-init
loop-i-init c = record { lines = none_blank c.requires; same_buffer = refl }

pub put_blank-requires : goal.put_blank-requires
put_blank-requires c = blank_room c.loop-i.invariant.lines c.requires c.loop-i-test.true

pub loop-i-preserved : goal.loop-i-preserved
loop-i-preserved c =
    record {
      lines = more_blank c.loop-i.invariant.lines c.loop-i-test.true c.put_blank.ensures.written;
      same_buffer = c.put_blank.ensures.same_buffer ∙ c.loop-i.invariant.same_buffer;
    }
