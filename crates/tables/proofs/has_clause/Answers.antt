use Rattle.std.proofs.Common.{rules, ◌∙◌}
use lib.Dec.{eqb}
use Rattle.laws.proofs.Ranges.{any_numbers}
use Rattle.contract.specs.Table.{clause_word}
use Rattle.tables.proofs.Ranges.{any_clause}
use Rattle.tables.proofs.has_clause.Goals as goal

pub returns : goal.returns
returns c =
    any_numbers c.args.n (λ i. eqb (clause_word c.args.table.now i 0) c.args.party) _ _ c.any.result c.any.ensures.ran (λ x b q k. search rules)
    ∙ any_clause c.args.table.now c.args.n c.args.party
