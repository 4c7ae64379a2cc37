-- `diagnoses::lines::put_mark` meets its contract. Assumes nothing.
use native.Mathlib.Omega.{arith}
use Rattle.diagnoses.proofs.Diagnosed.{mark_none, mark_made}
use Rattle.diagnoses.proofs.lines.put_mark.Goals as goal

pub returns-then-column-le-SHOWN-clause-written : goal.returns-then-column-le-SHOWN-clause-written
returns-then-column-le-SHOWN-clause-written c =
    mark_made c.args.column c.requires.column c.if-column-le-SHOWN.true c.requires.room c.put_spaces.ensures c.put_bytes.ensures

pub returns-else-column-le-SHOWN-clause-written : goal.returns-else-column-le-SHOWN-clause-written
returns-else-column-le-SHOWN-clause-written c = mark_none c.args.column c.if-column-le-SHOWN.false (omega (arith, c.requires.room))
