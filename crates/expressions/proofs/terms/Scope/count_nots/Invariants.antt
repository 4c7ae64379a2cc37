-- `expressions::terms::Scope::count_nots` meets its contract. Assumes nothing.
use mathlib.Core.Path.{◌≡◌}
use mathlib.Core.Bool.{false}
use lib.ListN.{length}
use Rattle.cursors.specs.Packed.{is_stop, cursor_in}
use Rattle.reading_laws.proofs.Operators.{NotsLeft}
use Rattle.expressions.proofs.terms.Scope.count_nots.Given as goal

abbrev pub invariant-loop-many : goal.invariant-loop-many
invariant-loop-many l =
    NotsLeft l.self.text.now l.initial.notes (cursor_in l.self.text.now l.initial.here) l.notes (cursor_in l.self.text.now l.here) l.many × (is_stop l.here ≡ false) × (length l.notes ≡ length l.initial.notes)
