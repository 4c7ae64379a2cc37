-- `reader::agreement::Clauses::parties_of` meets its contract. Assumes nothing.
use Rattle.std.proofs.Common.{rules, tests, arith, ◌∙◌}
use mathlib.Core.Bool.{beq}
use lib.Dec.{eqb}
use Rattle.std.proofs.lemmas.Iterator.{YieldsList-from_map}
use Rattle.std.proofs.lemmas.Iterator.Consumers.{fold_from_yields_List, YieldsList-at, YieldsList-from_filter}
use Rattle.contract.specs.declared.Clause.{Clause}
use Rattle.contract.specs.Rows.{said, clause_row_of}
use Rattle.reading.specs.Rules.{is_set}
use Rattle.reading_laws.specs.Masks.{with}
use Rattle.reader.proofs.Down.{yields_down, parties_down}
use Rattle.reader.proofs.Verbs.{is_verb}
use Rattle.reader.proofs.agreement.Clauses.parties_of.Goals as goal

pub returns : goal.returns
returns c =
    let w = c.args.self.now.table.now in
    let n = c.args.self.now.many in
    fold_from_yields_List _ (λ m (r : Clause). with m r.party) 0 c.fold.result c.fold.ensures.ran
    (YieldsList-from_filter _ (λ (r : Clause). beq (eqb r.verb 0) (is_set (said c.args.verb)))
    (YieldsList-at c.filter.ensures.source (YieldsList-from_map _ (clause_row_of w) (YieldsList-at c.map.ensures.source (yields_down 0 n n c.rev.ensures.source (omega arith))) c.map.ensures.closure (λ i r q k. search rules)))
    c.filter.ensures.closure (λ r b q k. search (rules, tests, is_verb)))
    (λ a j b q k. search rules)
    ∙ parties_down w n (is_set (said c.args.verb))
