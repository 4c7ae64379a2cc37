use Rattle.std.proofs.Common.{rules, refl, ◌+◌, ◌*◌}
use Rattle.std.proofs.lemmas.Iterator.{YieldsList-from_range}
use Rattle.std.proofs.lemmas.Iterator.Search.{all_from_yields_List}
use Rattle.tokens.specs.Classes.{is_name_byte}
use Rattle.contract.specs.Table.{parameters_start}
use Rattle.contract.specs.Decode.{packed_byte}
use Rattle.contract.specs.Check.{ranges}
use Rattle.tables.proofs.Packed.{packed_is}
use Rattle.tables.proofs.names.packed_ok.Goals as goal

pub returns-then-is_letter : goal.returns-then-is_letter
unfolding ranges
returns-then-is_letter c =
    let w = c.args.table.now in
    let o = parameters_start + c.args.i * 5 in
    let a = all_from_yields_List (λ j. is_name_byte (packed_byte w o j)) _ _ c.all.result c.all.ensures.ran (YieldsList-from_range 1 _ _ refl refl) (λ x b q k. search rules) in
    search (rules, a, packed_is w o)
