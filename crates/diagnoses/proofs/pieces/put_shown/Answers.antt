-- `diagnoses::pieces::put_shown` meets its contract. Assumes nothing.
use mathlib.Core.Path.{ap, ◌∙◌}
use Prim.Native.Nat.{◌<◌, min}
use native.Mathlib.Omega.{arith}
use lib.ListN.{length, length-take}
use lib.Seq.{get_or-take}
use Rattle.diagnoses.specs.Diagnoses.{shown}
use Rattle.diagnoses.proofs.Shown.{more_shown, all_shown}
use Rattle.diagnoses.proofs.pieces.put_shown.Goals as goal

pub loop-b-preserved : goal.loop-b-preserved
loop-b-preserved c =
    let line = c.args.line.now in
    let n = c.min-n.result in
    let i = c.loop-b.b-index in
    let h : i < min 200 (length line) = omega (arith, c.loop-b-test.true, c.min-n.ensures, length-take n line) in
    let k : i < n = omega (arith, c.min-n.ensures) in
    record {
      shown = more_shown c.loop-b.invariant.shown c.requires h (c.show.ensures ∙ ap shown (get_or-take n line i 0 k)) c.put_byte.ensures;
      same_buffer = c.put_byte.ensures.same_buffer ∙ c.loop-b.invariant.same_buffer;
    }

pub returns-clause-written : goal.returns-clause-written
returns-clause-written c = all_shown c.loop-b.invariant.shown (omega (arith, c.loop-b-test.false, c.min-n.ensures, length-take c.min-n.result c.args.line.now))
