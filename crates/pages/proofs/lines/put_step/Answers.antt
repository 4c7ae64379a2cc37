-- `pages::lines::put_step` meets its contract. Assumes nothing.
use Rattle.laws.specs.Bytes.{bytes}
use Rattle.printing.specs.Decimal.{decimal}
use Rattle.results.specs.Lines.{rule_name}
use Rattle.pages.specs.Page.{right, left}
use Rattle.pages.proofs.Assembled.{third_room, four_pieces}
use Rattle.words.specs.Words.{spelled}
use Rattle.pages.proofs.lines.put_step.Goals as goal

pub put_rule-requires : goal.put_rule-requires
unfolding spelled
put_rule-requires c =
    record { rule = c.requires.rule; room = third_room (right 19 (decimal c.args.clock)) (bytes " ") (left 11 (rule_name c.args.rule)) (bytes " ") c.requires.room c.put_right.ensures.written c.put_word.ensures }

pub returns-clause-written : goal.returns-clause-written
unfolding spelled
returns-clause-written c =
    four_pieces (right 19 (decimal c.args.clock)) (bytes " ") (left 11 (rule_name c.args.rule)) (bytes " ") c.requires.room c.put_right.ensures.written c.put_word.ensures c.put_rule.ensures.written c.put_word-2.ensures
