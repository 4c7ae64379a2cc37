-- Which contracts a table that passes holds: within document 01's limits, each number naming something of its kind, each party with a
-- clause.
use Rattle.std.specs.Prelude.{ℕ, ◌+◌, Bool, true, false, ◌&&◌, ◌||◌, List, [], ◌∷◌, length, eqb, leb, ltb}
use Rattle.tokens.specs.Classes.{is_letter, is_name_byte, is_string_byte}
use Rattle.contract.specs.Limits.{top, max_parties, max_assets, max_fields, max_states, max_strings, max_clauses, max_functions, max_events, max_nodes, max_values, max_parameters, max_statements, max_name, max_string}
use Rattle.contract.specs.Tree.{Word, Holder, asset, asset_parameter, Expression, constant, string, clock, field, value_parameter, held, apply, broken_expression, Condition, truth, compare, negation, both, either, broken_condition}
use Rattle.contract.specs.Tree.{Action, assign, send, move, pay, move_all, pay_all, Block, none, perform, conditional, broken_block, Precondition, omitted, given, Event, Function, Clause, Contract}
use Rattle.contract.specs.Sizes.{statements, function_size}
use Rattle.laws.specs.Lists.{every, all_below}

-- the sum of a number of each member of a list
unfoldable pub total : {A : Type 0} → (A → ℕ) → List A → ℕ
total f [] = 0
total f (x ∷ xs) = f x + total f xs

-- a letter followed by letters, digits or underscores, 32 bytes at most
unfoldable pub is_name : Word → Bool
is_name [] = false
is_name (x ∷ xs) = is_letter x && (every is_name_byte xs && ltb (length xs) max_name)

-- printable ASCII without the double quote, 64 bytes at most
unfoldable pub is_string : Word → Bool
is_string s = every is_string_byte s && leb (length s) max_string

-- some words of one kind, all of them right, and not too many
unfoldable pub words_in : (Word → Bool) → ℕ → List Word → Bool
words_in right most ws = every right ws && leb (length ws) most

-- how many there are of each kind that an expression or a statement may name
pub record Scope : Type 0 where
  pub parties : ℕ
  pub assets : ℕ
  pub fields : ℕ
  pub strings : ℕ
  pub values : ℕ
  pub parameters : ℕ

unfoldable pub holder_in : Scope → Holder → Bool
holder_in c (asset i) = ltb i c.assets
holder_in c (asset_parameter i) = ltb i c.parameters

unfoldable pub expression_in : Scope → Expression → Bool
expression_in c (constant n) = leb n top
expression_in c (string n) = ltb n c.strings
expression_in c clock = true
expression_in c (field i) = ltb i c.fields
expression_in c (value_parameter i) = ltb i c.values
expression_in c (held h) = holder_in c h
expression_in c (apply o a b) = expression_in c a && expression_in c b
expression_in c broken_expression = false

unfoldable pub condition_in : Scope → Condition → Bool
condition_in c (truth t) = true
condition_in c (compare o a b) = expression_in c a && expression_in c b
condition_in c (negation a) = condition_in c a
condition_in c (both a b) = condition_in c a && condition_in c b
condition_in c (either a b) = condition_in c a && condition_in c b
condition_in c broken_condition = false

unfoldable pub action_in : Scope → Action → Bool
action_in c (assign e x) = expression_in c e && ltb x c.fields
action_in c (send e a) = expression_in c e && ltb a c.parties
action_in c (move e h t) = expression_in c e && (holder_in c h && holder_in c t)
action_in c (pay e h a) = expression_in c e && (holder_in c h && ltb a c.parties)
action_in c (move_all h t) = holder_in c h && holder_in c t
action_in c (pay_all h a) = holder_in c h && ltb a c.parties

unfoldable pub block_in : Scope → Block → Bool
block_in c none = true
block_in c (perform b a) = block_in c b && action_in c a
block_in c (conditional b t s) = block_in c b && (condition_in c t && block_in c s)
block_in c broken_block = false

unfoldable pub precondition_in : Scope → Precondition → Bool
precondition_in c omitted = true
precondition_in c (given t) = condition_in c t

-- what a contract's expressions and statements may name, with so many value and asset parameters
unfoldable pub scope_of : Contract → ℕ → ℕ → Scope
scope_of c v p =
    record { parties = length c.parties; assets = length c.assets; fields = length c.fields; strings = length c.strings; values = v; parameters = p }

-- and those of a function
abbrev pub scope_in : Contract → Function → Scope
scope_in c f = scope_of c (length f.values) (length f.parameters)

-- a handler names no parameter
unfoldable pub event_in : Contract → Function → Event → Bool
event_in c f e =
    expression_in (scope_in c f) e.guard
    && (ltb e.state (length c.states)
    && (block_in (scope_of c 0 0) e.handler
    && (leb (statements e.handler) max_statements
    && ltb e.last (length c.states))))

unfoldable pub function_in : Contract → Function → Bool
function_in c f =
    ltb f.state (length c.states)
    && (ltb f.party (length c.parties)
    && (is_name f.name
    && (words_in is_name max_values f.values
    && (words_in is_name max_parameters f.parameters
    && (precondition_in (scope_in c f) f.precondition
    && (block_in (scope_in c f) f.body
    && (leb (statements f.body) max_statements
    && (every (event_in c f) f.events
    && ltb f.last (length c.states)))))))))

unfoldable pub clause_in : Contract → Clause → Bool
clause_in c k =
    ltb k.party (length c.parties)
    && (every (λ x. ltb x (length c.fields)) k.fields
    && leb (length k.fields) max_fields)

-- some clause is of party p
unfoldable pub has_clause : List Clause → ℕ → Bool
has_clause [] p = false
has_clause (k ∷ ks) p = eqb k.party p || has_clause ks p

unfoldable pub fits : Contract → Bool
fits c =
    is_name c.name
    && (words_in is_name max_parties c.parties
    && (words_in is_name max_assets c.assets
    && (words_in is_name max_fields c.fields
    && (words_in is_name max_states c.states
    && (words_in is_string max_strings c.strings
    && (every (clause_in c) c.clauses
    && (leb (length c.clauses) max_clauses
    && (all_below (length c.parties) (has_clause c.clauses)
    && (ltb c.initial (length c.states)
    && (every (function_in c) c.functions
    && (leb (length c.functions) max_functions
    && (leb (total (λ f. length f.events) c.functions) max_events
    && leb (total function_size c.functions) max_nodes))))))))))))
