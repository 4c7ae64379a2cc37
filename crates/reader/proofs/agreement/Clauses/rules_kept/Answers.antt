-- `reader::agreement::Clauses::rules_kept` meets its contract. Assumes nothing.
use Rattle.reading_laws.proofs.Masked.{kept}
use Rattle.reader.proofs.agreement.Clauses.rules_kept.Goals as goal

pub returns : goal.returns
returns c =
    kept _ _ _ _ _ _ _ _ _ _ c.fields_set.ensures c.parties_of-set.ensures
    c.parties_of-ok.ensures c.holds.ensures c.all_agree.ensures
    c.holds_all.ensures c.holds-2.ensures c.holds-3.ensures
