-- Expressions and conditions in scope are refused by questions 30 to 36 alone. Assumes nothing.
use mathlib.Core.Path.{◌≡◌, refl}
use mathlib.Core.Bool.{true}
use mathlib.Core.Logic.{inr}
use Rattle.questions.specs.Numbers.{number_of}
use Rattle.contract.specs.Tree.{Expression, Condition}
use Rattle.contract.specs.Check.{ranges}
use Rattle.contract.specs.Fits.{Scope, expression_in, condition_in}
use Rattle.evaluation.specs.Memory.{Memory}
use Rattle.evaluation.specs.Meaning.{value_of, truth_of}
use Rattle.evaluation.proofs.Refusals.{AnswerRefuses, TruthRefuses, value_refuses, truth_refuses}
use Rattle.numbers.specs.Numbers.{Answer, Truth}
use Rattle.questions.specs.declared.Question.{Question}

abbrev pub Stops : Question → Type 0
Stops q = ranges 30 (number_of q) 36 ≡ true

abbrev pub AnswerStops : Answer → Type 0
AnswerStops = AnswerRefuses Stops

abbrev pub TruthStops : Truth → Type 0
TruthStops = TruthRefuses Stops

module _ (c : Scope) (m : Memory) where
  pub value_stops : (e : Expression) → expression_in c e ≡ true → AnswerStops (value_of m e)
  unfolding ranges
  value_stops e i = value_refuses Stops refl refl refl refl c m e (inr i)

  pub truth_stops : (t : Condition) → condition_in c t ≡ true → TruthStops (truth_of m t)
  unfolding ranges
  truth_stops t i = truth_refuses Stops refl refl refl refl c m t (inr i)
