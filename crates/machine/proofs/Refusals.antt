-- What comes of statements, by the question that refused them. Assumes nothing.
use mathlib.Core.Path.{◌≡◌, refl}
use Rattle.std.specs.Prelude.{Option, Some, None}
use Rattle.questions.specs.declared.Question.{Question}
use Rattle.outcomes.specs.declared.Stepped.{Stepped}
use Rattle.machine.specs.Steps.{unless_refused}

pub by_refusal : (P : Stepped Question → Type 0) (r : Option Question) (f : Question → Stepped Question) (t : Stepped Question) → (r ≡ None → P t) → ((q : Question) → r ≡ Some q → P (f q)) → P (unless_refused r f t)
by_refusal P None f t a b = a refl
by_refusal P (Some q) f t a b = b q refl
