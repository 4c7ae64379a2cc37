use Rattle.std.proofs.Common.{rules, sym, ◌∙◌, length}
use lib.ListN.{get_or}
use lib.Dec.{eqb}
use Rattle.laws.proofs.Ranges.{all_numbers}
use Rattle.table_names.proofs.Names.{same_places}
use Rattle.table_names.proofs.same_bytes.Goals as goal

pub returns-then-name-word : goal.returns-then-name-word
returns-then-name-word c =
    let a = c.args.name.now in
    let b = c.args.word.now in
    all_numbers (length a) (λ i. eqb (get_or a i 0) (get_or b i 0)) _ _ c.all.result c.all.ensures.ran (λ x t q k. search rules)
    ∙ sym (same_places a b c.if-name-word.true)
