-- What an expression and a condition give in a memory. `+ - * /` and comparisons work out both sides, left first; the right side of `&&` is
-- worked out only if the left is true, that of `||` only if the left is false (document 02, F-5).
use Rattle.std.specs.Prelude.{ℕ, true, false, not, get_or, eqb, ℤ, pos, Ok, Err}
use Rattle.laws.specs.Choice.{pick}
use Rattle.questions.specs.declared.Question.TheVariants as ask
use Rattle.numbers.specs.Numbers.{Answer, Truth, in_range, applied, compared}
use Rattle.numbers.specs.declared.Value.TheVariants.{Integer, Text}
use Rattle.numbers.specs.declared.Operator.{Operator}
use Rattle.numbers.specs.declared.Comparison.{Comparison}
use Rattle.contract.specs.Tree as tree
use Rattle.contract.specs.Tree.{Expression, Condition}
use Rattle.evaluation.specs.Memory.{Memory, place_of}

-- a field's value; question 30
unfoldable pub field_value : ℕ → ℤ → ℕ → Answer
field_value kind number text =
    pick (eqb kind 0) (Err ask.FieldValue)
    (pick (eqb kind 1) (Ok (Integer number)) (Ok (Text text)))

-- the first refusal of the two, else the operator on the two values
abbrev pub joined : Operator → Answer → Answer → Answer
joined o (Err q) y = Err q
joined o (Ok a) (Err q) = Err q
joined o (Ok a) (Ok b) = applied o a b

unfoldable pub value_of : Memory → Expression → Answer
value_of m (tree.constant n) = in_range (pos n)
value_of m (tree.string n) = Ok (Text n)
value_of m tree.clock = in_range (pos m.clock)
value_of m (tree.field i) = field_value (get_or m.kinds i 0) (get_or m.numbers i (pos 0)) (get_or m.texts i 0)
value_of m (tree.value_parameter i) = Ok (Integer (get_or m.values i (pos 0)))
value_of m (tree.held h) = in_range (pos (get_or m.holdings (place_of h) 0))
value_of m (tree.apply o a b) = joined o (value_of m a) (value_of m b)
-- of no contract that was read
value_of m tree.broken_expression = Err ask.TableCheck

abbrev pub comparison : Comparison → Answer → Answer → Truth
comparison c (Err q) y = Err q
comparison c (Ok a) (Err q) = Err q
comparison c (Ok a) (Ok b) = compared c a b

abbrev pub negated : Truth → Truth
negated (Ok a) = Ok (not a)
negated (Err q) = Err q

-- where the right side is not worked out, the answer is the left one's: false of `&&`, true of `||`, or its refusal
abbrev pub conjunction : Truth → Truth → Truth
conjunction (Ok true) right = right
conjunction (Ok false) right = Ok false
conjunction (Err q) right = Err q

abbrev pub disjunction : Truth → Truth → Truth
disjunction (Ok true) right = Ok true
disjunction (Ok false) right = right
disjunction (Err q) right = Err q

unfoldable pub truth_of : Memory → Condition → Truth
truth_of m (tree.truth b) = Ok b
truth_of m (tree.compare c a b) = comparison c (value_of m a) (value_of m b)
truth_of m (tree.negation a) = negated (truth_of m a)
truth_of m (tree.both a b) = conjunction (truth_of m a) (truth_of m b)
truth_of m (tree.either a b) = disjunction (truth_of m a) (truth_of m b)
truth_of m tree.broken_condition = Err ask.TableCheck
