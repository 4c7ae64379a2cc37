-- `diagnoses::write` meets its contract. Assumes nothing.
use borrow.Author.Rules.{rules}
use Rattle.printing.proofs.Puts.{from_start}
use Rattle.diagnoses.proofs.Diagnosed.{all_written, none_written, fits_both, fits_not}
use Rattle.diagnoses.proofs.write.Goals as goal

pub returns-then-file-gt-FILE : goal.returns-then-file-gt-FILE
returns-then-file-gt-FILE c = none_written c.args.file.now c.args.text.now c.args.number c.args.place c.args.buffer.now (fits_not c.then-file-gt-FILE.either)

pub returns : goal.returns
returns c =
    let a = c.args in
    all_written a.file.now a.text.now a.number a.place (fits_both c.if-file-gt-FILE.false c.if-buffer-lt-ROOM.false) (from_start c.new-out.ensures.place c.new-out.ensures.bytes c.put_diagnosis.ensures.written (search rules))
