use Rattle.std.proofs.Common.{rules, ◌+◌, ◌*◌}
use Rattle.laws.proofs.Ranges.{all_numbers}
use Rattle.contract.specs.Check.{name_ok}
use Rattle.tables.proofs.names.names_ok.Goals as goal

pub returns : goal.returns
returns c = all_numbers c.args.count (λ i. name_ok c.args.table.now (c.args.start + i * 33)) _ _ c.all.result c.all.ensures.ran (λ x b q k. search rules)
