-- `pages::lines::put_foot` meets its contract. Assumes nothing.
use Rattle.pages.proofs.Assembled.{foot_line}
use Rattle.words.specs.Words.{spelled}
use Rattle.pages.proofs.lines.put_foot.Goals as goal

pub returns-clause-written : goal.returns-clause-written
unfolding spelled
returns-clause-written c =
    foot_line c.args.n c.requires.1 c.put_spaces.ensures c.put_byte.ensures c.put_byte-2.ensures c.put_word.ensures
