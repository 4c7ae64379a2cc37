-- `diagnoses::lines::put_source` meets its contract. Assumes nothing.
use mathlib.Core.List.{[], ◌∷◌}
use native.Mathlib.Omega.{arith}
use Rattle.printing.proofs.Puts.{kept, put_of}
use Rattle.diagnoses.proofs.Shown.{shown_long}
use Rattle.diagnoses.proofs.Diagnosed.{source_made}
use Rattle.words.specs.Words.{spelled}
use Rattle.diagnoses.proofs.lines.put_source.Goals as goal

pub put_mark-requires : goal.put_mark-requires
unfolding spelled
put_mark-requires c =
    let p = c.put_shown.ensures.written in
    let long = shown_long c.between.result.now in
    let q = put_of (10 ∷ []) c.put_word.ensures (omega (arith, c.requires.room, p.place, kept p, long)) in
    record { room = omega (arith, c.requires.room, p.place, kept p, q.place, kept q, long); column = c.requires.column }

pub returns-clause-written : goal.returns-clause-written
unfolding spelled
returns-clause-written c =
    let p = c.put_shown.ensures.written in
    source_made c.args.text.now c.args.p c.between.ensures c.put_shown.ensures.written
    (put_of (10 ∷ []) c.put_word.ensures (omega (arith, c.requires.room, p.place, kept p, shown_long c.between.result.now))) c.put_mark.ensures.written
