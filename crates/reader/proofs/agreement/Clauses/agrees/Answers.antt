-- `reader::agreement::Clauses::agrees` meets its contract. Assumes nothing.
use mathlib.Core.Path.{sym, ◌∙◌}
use Rattle.laws.proofs.Choice.{pick_true}
use Rattle.reading_laws.specs.Masks.{agrees_by_mask}
use Rattle.reading_laws.proofs.Masked.{is_set_lem, ok_agrees}
use Rattle.reader.proofs.Verbs.{word_set, word_not_set}
use Rattle.reader.proofs.agreement.Clauses.agrees.Goals as goal

pub returns-then-eq : goal.returns-then-eq
unfolding agrees_by_mask
returns-then-eq c =
    c.if-eq.true ∙ sym (pick_true _ _ _ (is_set_lem _ _ _ c.clause_at-c.ensures (word_set _ _ c.verb.ensures (sym c.eq.ensures ∙ c.if-eq.true))))

pub returns-else-eq : goal.returns-else-eq
returns-else-eq c =
    ok_agrees _ _ _ c.clause_at-c.ensures (word_not_set _ _ c.verb.ensures (sym c.eq.ensures ∙ c.if-eq.false)) _ _ _ _ c.with_fields.ensures
    c.fields_set.ensures c.part_of.ensures
