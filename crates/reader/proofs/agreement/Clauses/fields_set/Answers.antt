-- `reader::agreement::Clauses::fields_set` meets its contract. Assumes nothing.
use Rattle.std.proofs.Common.{rules, tests, arith, ◌∙◌}
use mathlib.Core.Bool.{not}
use lib.Dec.{eqb}
use Rattle.std.proofs.lemmas.Iterator.Consumers.{fold_from_yields_List, YieldsList-at, YieldsList-from_filter}
use Rattle.contract.specs.Table.{clause_word}
use Rattle.reading_laws.specs.Masks.{row_of, with_all}
use Rattle.reader.proofs.Down.{yields_down, fields_down}
use Rattle.reader.proofs.Verbs.{row_sets}
use Rattle.reader.proofs.agreement.Clauses.fields_set.Goals as goal

pub returns : goal.returns
returns c =
    let w = c.args.self.now.table.now in
    let n = c.args.self.now.many in
    fold_from_yields_List _ (λ m i. with_all m (row_of w i).fields) 0 c.fold.result c.fold.ensures.ran
    (YieldsList-from_filter _ (λ i. not (eqb (clause_word w i 0) c.args.party))
    (YieldsList-at c.filter-2.ensures.source (YieldsList-from_filter _ (λ i. eqb (clause_word w i 1) 0)
    (YieldsList-at c.filter.ensures.source (yields_down 0 n n c.rev.ensures.source (omega arith)))
    c.filter.ensures.closure (λ r b q k. search (rules, row_sets))))
    c.filter-2.ensures.closure (λ r b q k. search (rules, tests)))
    (λ a j b q k. search rules)
    ∙ fields_down w n c.args.party
