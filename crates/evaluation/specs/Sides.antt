-- Which sides of `&&` and `||` are worked out (document 02, F-5), and what a condition gives by that.
use Rattle.std.specs.Prelude.{◌≡◌, Bool, true, false, not, ◌&&◌, ◌||◌, Ok, Err}
use Rattle.questions.specs.declared.Question.{Question}
use Rattle.questions.specs.declared.Question.TheVariants as ask
use Rattle.numbers.specs.Numbers.{Truth}
use Rattle.numbers.specs.declared.Comparison.{Comparison}
use Rattle.contract.specs.Tree.{Expression, Condition, truth, compare, negation, both, either, broken_condition}
use Rattle.evaluation.specs.Memory.{Memory}
use Rattle.evaluation.specs.Meaning.{value_of, comparison, truth_of}

-- to work out condition c in memory m, condition d is worked out, which is c or stands in it
pub data WorkedOut (m : Memory) (d : Condition) : Condition → Type 0 where
  itself : WorkedOut m d d
  in_negation : {a : Condition} → WorkedOut m d a → WorkedOut m d (negation a)
  left_of_and : {a b : Condition} → WorkedOut m d a → WorkedOut m d (both a b)
  -- only if the left is true
  right_of_and : {a b : Condition} → truth_of m a ≡ Ok true → WorkedOut m d b → WorkedOut m d (both a b)
  left_of_or : {a b : Condition} → WorkedOut m d a → WorkedOut m d (either a b)
  -- only if the left is false
  right_of_or : {a b : Condition} → truth_of m a ≡ Ok false → WorkedOut m d b → WorkedOut m d (either a b)

-- question q refuses condition c: it refuses a comparison that is worked out
pub data RefusedBy (m : Memory) (c : Condition) : Question → Type 0 where
  at_comparison : {o : Comparison} {a b : Expression} {q : Question}
      → WorkedOut m (compare o a b) c
      → comparison o (value_of m a) (value_of m b) ≡ Err q
      → RefusedBy m c q
  -- of no contract that was read
  at_broken : WorkedOut m broken_condition c → RefusedBy m c ask.TableCheck

abbrev pub is_true : Truth → Bool
is_true (Ok b) = b
is_true (Err q) = false

-- a condition by plain logic, where a comparison that is refused counts as false
unfoldable pub plainly : Memory → Condition → Bool
plainly m (truth b) = b
plainly m (compare o a b) = is_true (comparison o (value_of m a) (value_of m b))
plainly m (negation a) = not (plainly m a)
plainly m (both a b) = plainly m a && plainly m b
plainly m (either a b) = plainly m a || plainly m b
plainly m broken_condition = false
