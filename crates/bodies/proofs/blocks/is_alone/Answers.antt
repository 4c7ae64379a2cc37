-- `bodies::blocks::is_alone` meets its contract. Assumes nothing.
use mathlib.Core.Path.{sym, ◌∙◌}
use lib.Dec.{eqb}
use borrow.Author.Tests.{eq-eqb, ne_eqb}
use Rattle.laws.proofs.Choice.{pick_true, pick_false}
use Rattle.cursors.specs.Packed.{cursor_in}
use Rattle.bodies.proofs.blocks.is_alone.Goals as goal

pub returns-then-kind_of-eq-NAME : goal.returns-then-kind_of-eq-NAME
unfolding cursor_in
returns-then-kind_of-eq-NAME c =
    (λ i. eqb (c.at_of.ensures i) (c.end_of.ensures i)) ∙ sym (pick_true _ _ _ (eq-eqb _ _ (sym c.kind_of.ensures ∙ c.if-kind_of-eq-NAME.true)))

pub returns-else-kind_of-eq-NAME : goal.returns-else-kind_of-eq-NAME
unfolding cursor_in
returns-else-kind_of-eq-NAME c =
    ne_eqb _ _ c.if-kind_of-eq-NAME.false ∙ sym (pick_false _ _ _ (ne_eqb _ _ (λ e. c.if-kind_of-eq-NAME.false (c.kind_of.ensures ∙ e))))
