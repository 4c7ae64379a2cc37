-- What holds of 30, 31, 32 and 33 holds of each refusal by an expression or a condition in scope; of one that is not, what holds of 3 too.
-- Assumes nothing.
use mathlib.Core.Path.{◌≡◌, sym}
use mathlib.Core.Bool.{Bool, true, false, ◌&&◌}
use mathlib.Core.Logic.{◌⊎◌, inl, inr}
use Prim.Native.Nat.{ℕ}
use lib.IntN.{ℤ}
use Rattle.std.specs.Prelude.{Ok, Err}
use Rattle.laws.proofs.Choice.{by_cases, true_false}
use Rattle.laws.proofs.Truths.{both_left, both_right}
use Rattle.questions.specs.declared.Question.{Question}
use Rattle.questions.specs.declared.Question.TheVariants as ask
use Rattle.numbers.specs.Numbers.{Answer, Truth, in_range, divided, arithmetic, applied, integers, strings, compared}
use Rattle.numbers.specs.declared.Value.{Value}
use Rattle.numbers.specs.declared.Value.TheVariants.{Integer, Text}
use Rattle.numbers.specs.declared.Operator.{Operator}
use Rattle.numbers.specs.declared.Operator.TheVariants.{Plus, Minus, Times, Over}
use Rattle.numbers.specs.declared.Comparison.{Comparison}
use Rattle.numbers.specs.declared.Comparison.TheVariants.{Equal, Unequal, Less, AtMost, Greater, AtLeast}
use Rattle.contract.specs.Tree as tree
use Rattle.contract.specs.Tree.{Expression, Condition}
use Rattle.contract.specs.Fits.{Scope, expression_in, condition_in}
use Rattle.evaluation.specs.Memory.{Memory}
use Rattle.evaluation.specs.Meaning.{field_value, joined, value_of, comparison, negated, conjunction, disjunction, truth_of}

abbrev pub AnswerRefuses : (Question → Type 0) → Answer → Type 0
AnswerRefuses P (Ok v) = Unit {0}
AnswerRefuses P (Err q) = P q

abbrev pub TruthRefuses : (Question → Type 0) → Truth → Type 0
TruthRefuses P (Ok b) = Unit {0}
TruthRefuses P (Err q) = P q

module _ (P : Question → Type 0) (p30 : P ask.FieldValue) (p31 : P ask.OperandKind) (p32 : P ask.ResultRange) (p33 : P ask.Divisor) where
  range : (z : ℤ) → AnswerRefuses P (in_range z)
  unfolding in_range
  range z = by_cases (AnswerRefuses P) _ _ _ (λ _. tt) (λ _. p32)

  operators : (o : Operator) (a b : ℤ) → AnswerRefuses P (arithmetic o a b)
  unfolding divided
  operators Plus a b = range _
  operators Minus a b = range _
  operators Times a b = range _
  operators Over a b = by_cases (AnswerRefuses P) _ _ _ (λ _. p33) (λ _. range _)

  both_values : (o : Operator) (a b : Value) → AnswerRefuses P (applied o a b)
  both_values o (Integer a) (Integer b) = operators o a b
  both_values o (Integer a) (Text n) = p31
  both_values o (Text m) b = p31

  both_answers : (o : Operator) (a b : Answer) → AnswerRefuses P a → AnswerRefuses P b → AnswerRefuses P (joined o a b)
  both_answers o (Err q) y g h = g
  both_answers o (Ok a) (Err q) g h = h
  both_answers o (Ok a) (Ok b) g h = both_values o a b

  integer_order : (c : Comparison) (a b : ℤ) → TruthRefuses P (integers c a b)
  integer_order Equal a b = tt
  integer_order Unequal a b = tt
  integer_order Less a b = tt
  integer_order AtMost a b = tt
  integer_order Greater a b = tt
  integer_order AtLeast a b = tt

  string_order : (c : Comparison) (a b : ℕ) → TruthRefuses P (strings c a b)
  string_order Equal a b = tt
  string_order Unequal a b = tt
  string_order Less a b = p31
  string_order AtMost a b = p31
  string_order Greater a b = p31
  string_order AtLeast a b = p31

  value_order : (c : Comparison) (a b : Value) → TruthRefuses P (compared c a b)
  value_order c (Integer a) (Integer b) = integer_order c a b
  value_order c (Text m) (Text n) = string_order c m n
  value_order c (Integer a) (Text n) = p31
  value_order c (Text m) (Integer b) = p31

  answer_order : (c : Comparison) (a b : Answer) → AnswerRefuses P a → AnswerRefuses P b → TruthRefuses P (comparison c a b)
  answer_order c (Err q) y g h = g
  answer_order c (Ok a) (Err q) g h = h
  answer_order c (Ok a) (Ok b) g h = value_order c a b

  turned : (a : Truth) → TruthRefuses P a → TruthRefuses P (negated a)
  turned (Ok a) g = tt
  turned (Err q) g = g

  and : (a b : Truth) → TruthRefuses P a → TruthRefuses P b → TruthRefuses P (conjunction a b)
  and (Ok true) y g h = h
  and (Ok false) y g h = tt
  and (Err q) y g h = g

  or : (a b : Truth) → TruthRefuses P a → TruthRefuses P b → TruthRefuses P (disjunction a b)
  or (Ok true) y g h = tt
  or (Ok false) y g h = h
  or (Err q) y g h = g

  left : (a b : Bool) → P ask.TableCheck ⊎ ((a && b) ≡ true) → P ask.TableCheck ⊎ (a ≡ true)
  left a b (inl p) = inl p
  left a b (inr i) = inr (both_left a b i)

  right : (a b : Bool) → P ask.TableCheck ⊎ ((a && b) ≡ true) → P ask.TableCheck ⊎ (b ≡ true)
  right a b (inl p) = inl p
  right a b (inr i) = inr (both_right a b i)

  module _ (c : Scope) (m : Memory) where
    pub value_refuses : (e : Expression) → P ask.TableCheck ⊎ (expression_in c e ≡ true) → AnswerRefuses P (value_of m e)
    unfolding value_of field_value expression_in
    value_refuses (tree.constant n) i = range _
    value_refuses (tree.string n) i = tt
    value_refuses tree.clock i = range _
    value_refuses (tree.field x) i = by_cases (AnswerRefuses P) _ _ _ (λ _. p30) (λ _. by_cases (AnswerRefuses P) _ _ _ (λ _. tt) (λ _. tt))
    value_refuses (tree.value_parameter x) i = tt
    value_refuses (tree.held h) i = range _
    value_refuses (tree.apply o a b) i =
        both_answers o (value_of m a) (value_of m b) (value_refuses a (left (expression_in c a) (expression_in c b) i))
        (value_refuses b (right (expression_in c a) (expression_in c b) i))
    value_refuses tree.broken_expression (inl p) = p
    value_refuses tree.broken_expression (inr i) = true_false (sym i)

    pub truth_refuses : (t : Condition) → P ask.TableCheck ⊎ (condition_in c t ≡ true) → TruthRefuses P (truth_of m t)
    unfolding truth_of condition_in
    truth_refuses (tree.truth b) i = tt
    truth_refuses (tree.compare o a b) i =
        answer_order o (value_of m a) (value_of m b) (value_refuses a (left (expression_in c a) (expression_in c b) i))
        (value_refuses b (right (expression_in c a) (expression_in c b) i))
    truth_refuses (tree.negation a) i = turned (truth_of m a) (truth_refuses a i)
    truth_refuses (tree.both a b) i =
        and (truth_of m a) (truth_of m b) (truth_refuses a (left (condition_in c a) (condition_in c b) i))
        (truth_refuses b (right (condition_in c a) (condition_in c b) i))
    truth_refuses (tree.either a b) i =
        or (truth_of m a) (truth_of m b) (truth_refuses a (left (condition_in c a) (condition_in c b) i))
        (truth_refuses b (right (condition_in c a) (condition_in c b) i))
    truth_refuses tree.broken_condition (inl p) = p
    truth_refuses tree.broken_condition (inr i) = true_false (sym i)
