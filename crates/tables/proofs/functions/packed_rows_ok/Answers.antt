use Rattle.std.proofs.Common.{rules, ◌+◌, ◌*◌}
use Rattle.laws.proofs.Ranges.{all_numbers}
use Rattle.contract.specs.Table.{parameters_start}
use Rattle.contract.specs.Check.{packed_ok}
use Rattle.tables.proofs.functions.packed_rows_ok.Goals as goal

pub returns : goal.returns
returns c = all_numbers c.args.n (λ j. packed_ok c.args.table.now (parameters_start + (c.args.first + j) * 5)) _ _ c.all.result c.all.ensures.ran (λ x b q k. search rules)
