use Rattle.std.proofs.Common.{rules}
use Rattle.std.proofs.lemmas.Iterator.{YieldsList-from_slice}
use Rattle.std.proofs.lemmas.Iterator.Search.{all_from_yields_List}
use Rattle.tokens.specs.Classes.{is_string_byte}
use Rattle.tables.proofs.Bytes.{string_as}
use Rattle.tables.proofs.names.string_ok.Goals as goal

pub returns-then-word-le-STRING : goal.returns-then-word-le-STRING
returns-then-word-le-STRING c =
    let a = all_from_yields_List is_string_byte _ _ c.all.result c.all.ensures.ran (YieldsList-from_slice c.bytes_at.result.now c.iter.ensures.rest) (λ x b q k. search rules) in
    search (rules, a, string_as c.args.table.now c.args.o)
