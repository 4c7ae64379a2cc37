-- `diagnoses::lines::put_where` meets its contract. Assumes nothing.
use native.Mathlib.Omega.{arith}
use Rattle.diagnoses.proofs.Diagnosed.{where_made}
use Rattle.words.specs.Words.{spelled}
use Rattle.diagnoses.proofs.lines.put_where.Goals as goal

pub returns-clause-written : goal.returns-clause-written
unfolding spelled
returns-clause-written c =
    where_made c.args.file.now c.args.line c.args.column c.requires.file c.ranges.line.fits c.ranges.column.fits (omega (arith, c.requires.room)) c.put_bytes.ensures
    c.put_word.ensures c.put_number.ensures c.put_word-2.ensures c.put_number-2.ensures c.put_bytes-2.ensures
