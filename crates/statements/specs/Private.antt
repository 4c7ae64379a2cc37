-- What the parts of the code work out: what a statement does with a value.
use Rattle.std.specs.Prelude.{ℕ, ◌-◌, List, get_or, eqb, ltb, ℤ, pos, negsuc, Result, Ok, Err}
use Rattle.laws.specs.Choice.{pick}
use Rattle.numbers.specs.declared.Value.{Value}
use Rattle.numbers.specs.declared.Value.TheVariants.{Integer, Text}
use Rattle.questions.specs.declared.Question.{Question}
use Rattle.questions.specs.declared.Question.TheVariants as ask
use Rattle.numbers.specs.Numbers.{Answer}
use Rattle.contract.specs.Tree.{held}
use Rattle.contract.specs.Table.{kind_at, argument_at, party_kind, value_move_kind, asset_move_kind, conditional_kind}
use Rattle.contract.specs.Decode.{holder_at, expression_at, condition_at, block_between}
use Rattle.evaluation.specs.Memory.{Memory}
use Rattle.evaluation.specs.Meaning.{value_of, truth_of}
use Rattle.statements.specs.Blocks.{action_at}
use Rattle.statements.specs.Running.{Work, memory_in, stored, sent, moved, paid, receiver, place, with_value, with_amount, performed, by_truth, ran}

-- a value as an amount: an integer that is 0 or more
abbrev pub amount_in : Value → Result ℕ Question
amount_in (Text n) = Err ask.OperandKind
amount_in (Integer (pos n)) = Ok n
amount_in (Integer (negsuc n)) = Err ask.AmountSign

-- what place i holds once n is taken from it
abbrev pub left_of : List ℕ → ℕ → ℕ → Result ℕ Question
left_of hs i n = pick (ltb (get_or hs i 0) n) (Err ask.AmountHeld) (Ok (get_or hs i 0 - n))

-- E -> t at node k, with the answer of E
unfoldable pub value_given : Work → List ℕ → ℕ → Answer → Work
value_given w t k a =
    pick (eqb (kind_at t (k - 1)) party_kind) (with_value w a (sent w (receiver (argument_at t (k - 1))))) (with_value w a (stored w (argument_at t (k - 1))))

-- a move at node k, with the answer of its amount
unfoldable pub amount_given : (ℕ → ℕ) → Work → List ℕ → ℕ → Answer → Work
amount_given g w t k a =
    pick (eqb (kind_at t (k - 1)) party_kind)
    (with_amount w a (paid g w (place (holder_at t (k - 2))) (receiver (argument_at t (k - 1)))))
    (with_amount w a (moved w (place (holder_at t (k - 2))) (place (holder_at t (k - 1)))))

-- what the statement at node k of a kind hands on: what its expression gives, or all that its source holds
unfoldable pub answer_at : Memory → List ℕ → ℕ → ℕ → Answer
answer_at m t k kind =
    pick (eqb kind value_move_kind) (value_of m (expression_at t (k - 2)))
    (pick (eqb kind asset_move_kind) (value_of m (expression_at t (k - 3))) (value_of m (held (holder_at t (k - 2)))))

-- the work after the conditional at node k whose block starts at node i
unfoldable pub branched : (ℕ → ℕ) → List ℤ → ℕ → Work → List ℕ → ℕ → ℕ → Work
branched g v c w t i k = by_truth w (truth_of (memory_in v c w) (condition_at t (i - 1))) (ran g v c w (block_between t i k))

-- the work after the statement at node k
unfoldable pub performed_at : (ℕ → ℕ) → List ℤ → ℕ → Work → List ℕ → ℕ → Work
performed_at g v c w t k = pick (eqb (kind_at t k) conditional_kind) (branched g v c w t (k - argument_at t k) k) (performed g v c w (action_at t k))
