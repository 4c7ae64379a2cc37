-- `reader::agreement::Clauses::all_agree` meets its contract. Assumes nothing.
use Rattle.std.proofs.Common.{rules, ◌∙◌, refl, arith, tests}
use Rattle.std.proofs.lemmas.Iterator.{YieldsList-from_range}
use Rattle.std.proofs.lemmas.Iterator.Search.{all_from_yields_List}
use Rattle.reading_laws.specs.Masks.{row_of, rows_of, agrees_by_mask}
use Rattle.reader.proofs.AllBelow.{range_each}
use Rattle.reader.proofs.agreement.Clauses.all_agree.Goals as goal

pub returns : goal.returns
returns c =
    let w = c.args.self.now.table.now in
    let n = c.args.self.now.many in
    all_from_yields_List (λ i. agrees_by_mask (rows_of w n) (row_of w i)) _ _ _ c.all.ensures.ran (YieldsList-from_range 0 n n refl (omega arith)) (λ x b q k. search (rules, tests))
    ∙ range_each (agrees_by_mask (rows_of w n)) (row_of w) n 0
