use Rattle.std.proofs.Common.{rules}
use Rattle.laws.proofs.Ranges.{all_numbers}
use Rattle.contract.specs.Check.{clause_below}
use Rattle.tables.proofs.parties_heard.Goals as goal

pub returns : goal.returns
returns c = all_numbers c.args.parties (clause_below c.args.table.now c.args.clauses) _ _ c.all.result c.all.ensures.ran (λ x b q k. search rules)
