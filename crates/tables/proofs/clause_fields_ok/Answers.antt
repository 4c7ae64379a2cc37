use Rattle.std.proofs.Common.{rules, ◌+◌}
use Rattle.laws.proofs.Ranges.{all_numbers}
use lib.Dec.{ltb}
use Rattle.contract.specs.Table.{word_at, clause_word}
use Rattle.tables.proofs.clause_fields_ok.Goals as goal

pub returns : goal.returns
returns c = all_numbers c.args.n (λ j. ltb (clause_word c.args.table.now c.args.i (3 + j)) (word_at c.args.table.now 2)) _ _ c.all.result c.all.ensures.ran (λ x b q k. search rules)
