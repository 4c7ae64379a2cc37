-- `pages::lines::put_column` meets its contract. Assumes nothing.
use Rattle.words.specs.Words.{spelled}
use Rattle.pages.proofs.Assembled.{word_piece}
use Rattle.pages.proofs.lines.put_column.Goals as goal

pub returns-clause-written : goal.returns-clause-written
returns-clause-written c =
    word_piece 11 (spelled c.args.which) c.requires c.put_word.ensures c.word_length.ensures c.saturating_sub.ensures c.put_spaces.ensures
