-- Nodes by their parts; conditions by their nodes: comparisons, nodes without conditions in them, and `~`s in a row.
use Rattle.std.specs.Prelude.{ℕ, zero, suc, ◌-◌, Bool, true, false, not, List, eqb, ltb, Result, Ok, Err}
use Rattle.laws.specs.Choice.{pick}
use Rattle.questions.specs.declared.Question.{Question}
use Rattle.questions.specs.declared.Question.TheVariants as ask
use Rattle.numbers.specs.Numbers.{Truth}
use Rattle.contract.specs.Table.{kind_at, size_at, not_kind}
use Rattle.contract.specs.Decode.{counts_two, counts_one, comparison_of, expression_at, condition_at}
use Rattle.evaluation.specs.declared.Run.{Run}
use Rattle.evaluation.specs.Memory.{Memory}
use Rattle.evaluation.specs.Meaning.{value_of, comparison, negated, truth_of}

-- the last node of the left part of node k
abbrev pub left_at : List ℕ → ℕ → ℕ
left_at w k = k - 1 - size_at w (k - 1)

-- the same where node k counts itself and two parts
unfoldable pub left_from : List ℕ → ℕ → Result ℕ Question
left_from w k = pick (counts_two w k) (Ok (left_at w k)) (Err ask.TableCheck)

-- node k as a comparison
unfoldable pub compared_at : Memory → List ℕ → ℕ → Truth
compared_at m w k =
    pick (counts_two w k)
    (comparison (comparison_of (kind_at w k)) (value_of m (expression_at w (left_at w k))) (value_of m (expression_at w (k - 1))))
    (Err ask.TableCheck)

-- the truth of node k where it is no `~`, `&&` or `||`
unfoldable pub simple_at : Memory → List ℕ → ℕ → Truth
simple_at m w k = pick (ltb (kind_at w k) not_kind) (truth_of m (condition_at w k)) (Err ask.TableCheck)

-- node k is `~` and counts itself and its part
unfoldable pub negates_at : List ℕ → ℕ → Bool
negates_at w k = pick (eqb (kind_at w k) not_kind) (counts_one w k) false

-- the node below the `~`s at node k, and whether their number is odd, counted on from `odd`; node 0 stands above none
unfoldable pub run_from : List ℕ → ℕ → Bool → Run
run_from w zero odd = record { end = 0; odd = odd }
run_from w (suc k) odd = pick (negates_at w (suc k)) (run_from w k (not odd)) (record { end = suc k; odd = odd })

-- a truth below an odd number of `~`s, or an even one
abbrev pub turned_by : Bool → Truth → Truth
turned_by true t = negated t
turned_by false t = t
