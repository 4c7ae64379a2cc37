-- `diagnoses::put_diagnosis` meets its contract. Assumes nothing.
use mathlib.Core.Path.{sym, ◌∙◌}
use native.Mathlib.Omega.{arith}
use Rattle.printing.proofs.Puts.{kept}
use Rattle.diagnoses.proofs.Diagnosed.{where_short, what_short, column_counts, diagnosed_short, diagnosed}
use Rattle.diagnoses.proofs.put_diagnosis.Goals as goal

pub put_what-requires : goal.put_what-requires
put_what-requires c =
    let o = c.place_in-p in
    let p = c.put_where.ensures.written in
    omega (arith, c.requires.room, p.place, kept p, where_short c.args.file.now o.result.line o.result.column c.requires.file (omega arith) (omega arith))

pub returns-else-not-is_of_length-clause-written : goal.returns-else-not-is_of_length-clause-written
returns-else-not-is_of_length-clause-written c =
    let a = c.args in
    diagnosed_short a.file.now a.text.now a.number a.place c.place_in-p.ensures (sym c.is_of_length.ensures ∙ c.if-not-is_of_length.false) c.put_where.ensures.written c.put_what.ensures.written

pub put_source-requires : goal.put_source-requires
put_source-requires c =
    let o = c.place_in-p in
    let p = c.put_where.ensures.written in
    let q = c.put_what.ensures.written in record {
      room = omega (
        arith,
        c.requires.room,
        p.place,
        kept p,
        q.place,
        kept q,
        what_short c.args.number (omega (arith, c.ranges.number.fits)),
        where_short c.args.file.now o.result.line o.result.column c.requires.file (omega arith) (omega arith),
      );
      column = column_counts c.args.text.now c.args.place o.ensures;
    }

pub returns-then-not-is_of_length-clause-written : goal.returns-then-not-is_of_length-clause-written
returns-then-not-is_of_length-clause-written c =
    let s = c.args in
    diagnosed s.file.now s.text.now s.number s.place c.place_in-p.ensures (sym c.is_of_length.ensures ∙ c.if-not-is_of_length.true) c.put_where.ensures.written c.put_what.ensures.written
    c.put_source.ensures.written
