-- `pages::lines::put_blank` meets its contract. Assumes nothing.
use Rattle.pages.proofs.Assembled.{blank_line_lem}
use Rattle.words.specs.Words.{spelled}
use Rattle.pages.proofs.lines.put_blank.Goals as goal

pub returns-clause-written : goal.returns-clause-written
unfolding spelled
returns-clause-written c =
    blank_line_lem c.requires c.put_spaces.ensures c.put_word.ensures
