-- Nodes as document 01 counts them: in preconditions and bodies one for each name but states, constant, now, operator, statement
-- and event. And statements, nested ones counted.
use Rattle.std.specs.Prelude.{ℕ, suc, ◌+◌, List, [], ◌∷◌}
use Rattle.contract.specs.Tree.{Expression, constant, string, clock, field, value_parameter, held, apply, broken_expression, Condition, truth, compare, negation, both, either, broken_condition, Action}
use Rattle.contract.specs.Tree.{assign, send, move, pay, move_all, pay_all, Block, none, perform, conditional, broken_block, Precondition, omitted, given, Event, Function}

unfoldable pub expression_size : Expression → ℕ
expression_size (constant n) = 1
expression_size (string n) = 1
expression_size clock = 1
expression_size (field i) = 1
expression_size (value_parameter i) = 1
expression_size (held h) = 1
expression_size (apply o a b) = expression_size a + expression_size b + 1
expression_size broken_expression = 1

unfoldable pub condition_size : Condition → ℕ
condition_size (truth t) = 1
condition_size (compare o a b) = expression_size a + expression_size b + 1
condition_size (negation a) = condition_size a + 1
condition_size (both a b) = condition_size a + condition_size b + 1
condition_size (either a b) = condition_size a + condition_size b + 1
condition_size broken_condition = 1

-- the names of its source and target count
unfoldable pub action_size : Action → ℕ
action_size (assign e x) = expression_size e + 2
action_size (send e a) = expression_size e + 2
action_size (move e h t) = expression_size e + 3
action_size (pay e h a) = expression_size e + 3
action_size (move_all h t) = 3
action_size (pay_all h a) = 3

unfoldable pub block_size : Block → ℕ
block_size none = 0
block_size (perform b a) = block_size b + action_size a
block_size (conditional b t s) = block_size b + (condition_size t + block_size s + 1)
block_size broken_block = 1

unfoldable pub precondition_size : Precondition → ℕ
precondition_size omitted = 0
precondition_size (given t) = condition_size t

unfoldable pub event_size : Event → ℕ
event_size e = expression_size e.guard + block_size e.handler + 1

unfoldable pub events_size : List Event → ℕ
events_size [] = 0
events_size (e ∷ es) = event_size e + events_size es

unfoldable pub function_size : Function → ℕ
function_size f = precondition_size f.precondition + block_size f.body + events_size f.events

unfoldable pub statements : Block → ℕ
statements none = 0
statements (perform b a) = suc (statements b)
statements (conditional b t s) = suc (statements b + statements s)
statements broken_block = 1
