-- `step_reports::Teller::tell` meets its contract. Assumes nothing.
use Prim.Native.Nat.{◌*◌}
use native.Mathlib.Omega.{arith}
use Rattle.printing.proofs.Puts.{put_part}
use Rattle.step_reports.proofs.Teller.tell.Goals as goal

pub returns-clause-numbers_after : goal.returns-clause-numbers_after
returns-clause-numbers_after c =
    (put_part c.args.self.now.numbers.now (4 * c.args.self.now.many) c.args.words _ _ (omega arith) (omega (arith, c.requires)) c.copy_from_slice.ensures.after).list
