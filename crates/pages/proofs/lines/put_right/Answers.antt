-- `pages::lines::put_right` meets its contract. Assumes nothing.
use Rattle.pages.proofs.Assembled.{right_piece}
use Rattle.pages.proofs.lines.put_right.Goals as goal

pub returns-clause-written : goal.returns-clause-written
returns-clause-written c =
    right_piece c.args.n c.requires c.digit_count.ensures c.saturating_sub.ensures c.put_spaces.ensures c.put_number.ensures
