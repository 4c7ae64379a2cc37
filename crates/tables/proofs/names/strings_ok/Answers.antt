use Rattle.std.proofs.Common.{rules, ◌+◌, ◌*◌}
use Rattle.laws.proofs.Ranges.{all_numbers}
use Rattle.contract.specs.Check.{string_ok}
use Rattle.tables.proofs.names.strings_ok.Goals as goal

pub returns : goal.returns
returns c = all_numbers c.args.count (λ i. string_ok c.args.table.now (2947 + i * 65)) _ _ c.all.result c.all.ensures.ran (λ x b q k. search rules)
