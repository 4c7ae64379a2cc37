-- `diagnoses::lines::put_what` meets its contract. Assumes nothing.
use Rattle.printing.proofs.Puts.{puts_same}
use native.Mathlib.Omega.{arith}
use Rattle.diagnoses.proofs.Diagnosed.{what_made}
use Rattle.diagnoses.proofs.lines.put_what.Goals as goal

pub returns-clause-written : goal.returns-clause-written
returns-clause-written c =
    what_made c.args.number (omega (arith, c.ranges.number.fits)) c.requires (puts_same _ _ c.words.ensures c.put_bytes.ensures) c.put_bytes-2.ensures c.put_number.ensures c.put_bytes-3.ensures
