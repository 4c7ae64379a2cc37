use Rattle.std.proofs.Common.{rules}
use Rattle.laws.proofs.Ranges.{all_numbers}
use Rattle.contract.specs.Check.{clause_ok}
use Rattle.tables.proofs.clauses_ok.Goals as goal

pub returns : goal.returns
returns c = all_numbers c.args.count (clause_ok c.args.table.now) _ _ c.all.result c.all.ensures.ran (λ x b q k. search rules)
