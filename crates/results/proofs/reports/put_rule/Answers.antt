-- `results::reports::put_rule` meets its contract. Assumes nothing.
use Rattle.results.proofs.Assembled.{rule_piece}
use Rattle.words.specs.Words.{spelled}
use Rattle.results.proofs.reports.put_rule.Goals as goal

pub returns-clause-written : goal.returns-clause-written
unfolding spelled
returns-clause-written c =
    rule_piece c.args.rule c.requires c.put_word.ensures c.put_rule_name.ensures c.put_word-2.ensures c.put_word-3.ensures
