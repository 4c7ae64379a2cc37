-- `clauses::lists::Lists::clause_from` meets its contract. Assumes nothing.
use mathlib.Core.Path.{◌≡◌, sym, ap, ◌∙◌}
use borrow.Author.Tests.{eq-eqb, ne_eqb}
use native.Mathlib.Omega.{arith}
use denote.Enum.Declared.{tag_of}
use Rattle.contract.specs.declared.Verb as rows
use Rattle.contract.specs.contracts.Verb.{the_type}
use Rattle.entries.specs.Draft.{clause_verb}
use Rattle.laws.proofs.Choice.{pick_true, pick_false}
use Rattle.reading_laws.specs.Walk as walk
use Rattle.cursors.specs.Packed.{cursor_in}
use Rattle.reading_laws.proofs.AgreesWith.{leaves_same, is_stop_lem}
use Rattle.reading_laws.proofs.Listed.{verbed}
use Rattle.cursors.proofs.Tested.{kind_is, kind_not}
use Rattle.cursors.proofs.Clipped.{passed}
use Rattle.clauses.proofs.lists.Lists.clause_from.Goals.{in-7, in-8}
use Rattle.clauses.proofs.lists.Lists.clause_from.Goals as goal

pub returns-in_default-clause-value : goal.returns-in_default-clause-value
unfolding walk.clause_from
returns-in_default-clause-value c =
    is_stop_lem _ _ _ _ _ _
    (pick_false _ _ _ (ne_eqb _ _ (kind_not c.args.self.now.text.now c.args.c _ _ c.kind_of.ensures c.in_default.in_default-own.rest.0.1)) ∙ pick_false _ _ _ (ne_eqb _ _ (kind_not c.args.self.now.text.now c.args.c _ _ c.kind_of.ensures c.in_default.in_default-own.rest.1)))
    c.unfit.ensures.value

pub returns-clause-value : goal.returns-clause-value
unfolding walk.clause_from
returns-clause-value c =
    let short = c.args.self.now.short in
    let s = c.args.self.now.text.now in
    let here = cursor_in s c.args.c in
    let lists = walk.draft c.args.lent.now.table.now c.args.lent.now.notes.now in
    let eight_not_seven : 8 ≡ 7 → ⊥ = λ e. omega (arith, e) in
    let rest = λ (x : rows.Verb). walk.clause_rest s (walk.next_of s here) (clause_verb (tag_of the_type x) lists) in
    leaves_same _ _ _ _ _
    (verbed _ here _ _ _ (passed s _ c.args.c short c.past.ensures.value) c.clause_verb.ensures.value
    ∙ (elim c.match-kind_of.branch [
      | in-7 w ↦ ap rest w.verb-is ∙ sym (pick_true _ _ _ (eq-eqb _ _ (kind_is s c.args.c _ _ c.kind_of.ensures w.in-7.is)))
      | in-8 w ↦ ap rest w.verb-is
          ∙ sym (pick_false _ _ _ (ne_eqb _ _ (kind_not s c.args.c _ _ c.kind_of.ensures (λ e. eight_not_seven (sym w.in-8.is ∙ e))))
          ∙ pick_true _ _ _ (eq-eqb _ _ (kind_is s c.args.c _ _ c.kind_of.ensures w.in-8.is)))
    ]))
    c.clause_rest.ensures.value
