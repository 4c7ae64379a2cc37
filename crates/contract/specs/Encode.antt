-- A contract as the words of its table. Preconditions, statements and events stand in text order, and in each of them the parts
-- before the whole.
use Rattle.std.specs.Prelude.{ℕ, zero, suc, ◌+◌, ◌-◌, ◌*◌, Bool, true, false, List, [], ◌∷◌, ◌++◌, length, take, drop}
use Rattle.numbers.specs.declared.Operator.{Operator}
use Rattle.numbers.specs.declared.Operator.TheVariants.{Plus, Minus, Times, Over}
use Rattle.numbers.specs.declared.Comparison.{Comparison}
use Rattle.numbers.specs.declared.Comparison.TheVariants.{Equal, Unequal, Less, AtMost, Greater, AtLeast}
use Rattle.contract.specs.Limits.{max_parties, max_assets, max_fields, max_states, max_strings, max_clauses, max_functions, max_events, max_nodes, max_values, max_parameters, max_name, max_string}
use Rattle.contract.specs.Tree.{Word, Holder, asset, asset_parameter, Expression, constant, string, clock, field, value_parameter, held, apply, broken_expression, Condition, truth, compare, negation, both, either, broken_condition, Action}
use Rattle.contract.specs.Tree.{assign, send, move, pay, move_all, pay_all, Block, none, perform, conditional, broken_block, Precondition, omitted, given, Event, Function, Verb, set, ok, Clause, Contract}
use Rattle.contract.specs.Sizes.{expression_size, condition_size, block_size, precondition_size, event_size, function_size}
use Rattle.contract.specs.Fits.{total}
use Rattle.contract.specs.Table.{constant_kind, string_kind, now_kind, field_kind, asset_kind, value_kind, parameter_kind, plus_kind, minus_kind, times_kind, over_kind, true_kind, false_kind, equal_kind, unequal_kind, less_kind, at_most_kind}
use Rattle.contract.specs.Table.{greater_kind, at_least_kind, not_kind, and_kind, or_kind, party_kind, value_move_kind, asset_move_kind, whole_move_kind, conditional_kind, event_kind, name_words, string_words, clause_words, function_words, event_words, node_words, packed_words, parameter_words}

unfoldable pub zeros : ℕ → List ℕ
zeros zero = []
zeros (suc n) = 0 ∷ zeros n

-- a list filled up with zeros to n words
unfoldable pub padded : ℕ → List ℕ → List ℕ
padded n l = l ++ zeros (n - length l)

-- the lists that the members give, one after the other
unfoldable pub joined : {A : Type 0} → (A → List ℕ) → List A → List ℕ
joined f [] = []
joined f (x ∷ xs) = f x ++ joined f xs

abbrev pub node : ℕ → ℕ → ℕ → List ℕ
node kind argument size = kind ∷ argument ∷ size ∷ []

abbrev pub operator_kind : Operator → ℕ
operator_kind Plus = plus_kind
operator_kind Minus = minus_kind
operator_kind Times = times_kind
operator_kind Over = over_kind

abbrev pub comparison_kind : Comparison → ℕ
comparison_kind Equal = equal_kind
comparison_kind Unequal = unequal_kind
comparison_kind Less = less_kind
comparison_kind AtMost = at_most_kind
comparison_kind Greater = greater_kind
comparison_kind AtLeast = at_least_kind

abbrev pub truth_kind : Bool → ℕ
truth_kind true = true_kind
truth_kind false = false_kind

abbrev pub holder_node : Holder → List ℕ
holder_node (asset i) = node asset_kind i 1
holder_node (asset_parameter i) = node parameter_kind i 1

unfoldable pub expression_nodes : Expression → List ℕ
expression_nodes (constant n) = node constant_kind n 1
expression_nodes (string n) = node string_kind n 1
expression_nodes clock = node now_kind 0 1
expression_nodes (field i) = node field_kind i 1
expression_nodes (value_parameter i) = node value_kind i 1
expression_nodes (held h) = holder_node h
expression_nodes (apply o a b) =
    expression_nodes a ++ (expression_nodes b ++ node (operator_kind o) 0 (expression_size (apply o a b)))
expression_nodes broken_expression = node 0 0 1

unfoldable pub condition_nodes : Condition → List ℕ
condition_nodes (truth t) = node (truth_kind t) 0 1
condition_nodes (compare o a b) =
    expression_nodes a ++ (expression_nodes b ++ node (comparison_kind o) 0 (condition_size (compare o a b)))
condition_nodes (negation a) = condition_nodes a ++ node not_kind 0 (condition_size (negation a))
condition_nodes (both a b) = condition_nodes a ++ (condition_nodes b ++ node and_kind 0 (condition_size (both a b)))
condition_nodes (either a b) = condition_nodes a ++ (condition_nodes b ++ node or_kind 0 (condition_size (either a b)))
condition_nodes broken_condition = node 0 0 1

-- the parts of a statement, and its kind
unfoldable pub action_parts : Action → List ℕ
action_parts (assign e x) = expression_nodes e ++ node field_kind x 1
action_parts (send e a) = expression_nodes e ++ node party_kind a 1
action_parts (move e h t) = expression_nodes e ++ (holder_node h ++ holder_node t)
action_parts (pay e h a) = expression_nodes e ++ (holder_node h ++ node party_kind a 1)
action_parts (move_all h t) = holder_node h ++ holder_node t
action_parts (pay_all h a) = holder_node h ++ node party_kind a 1

abbrev pub action_kind : Action → ℕ
action_kind (assign e x) = value_move_kind
action_kind (send e a) = value_move_kind
action_kind (move e h t) = asset_move_kind
action_kind (pay e h a) = asset_move_kind
action_kind (move_all h t) = whole_move_kind
action_kind (pay_all h a) = whole_move_kind

unfoldable pub block_nodes : Block → List ℕ
block_nodes none = []
block_nodes (perform b a) = block_nodes b ++ (action_parts a ++ node (action_kind a) 0 (block_size (perform b a)))
block_nodes (conditional b t s) =
    block_nodes b
    ++ (condition_nodes t
    ++ (block_nodes s ++ node conditional_kind (block_size s) (block_size (conditional b t s))))
block_nodes broken_block = node 0 0 1

unfoldable pub precondition_nodes : Precondition → List ℕ
precondition_nodes omitted = []
precondition_nodes (given t) = condition_nodes t

unfoldable pub event_nodes : Event → List ℕ
event_nodes e =
    expression_nodes e.guard ++ (block_nodes e.handler ++ node event_kind (block_size e.handler) (event_size e))

unfoldable pub function_nodes : Function → List ℕ
function_nodes f =
    precondition_nodes f.precondition ++ (block_nodes f.body ++ joined event_nodes f.events)

-- rows
unfoldable pub name_row : Word → List ℕ
name_row n = length n ∷ padded max_name n

unfoldable pub string_row : Word → List ℕ
string_row s = length s ∷ padded max_string s

-- bytes as one word, the first lowest
unfoldable pub packed : List ℕ → ℕ
packed [] = 0
packed (x ∷ xs) = x + packed xs * 256

-- n words of eight bytes each
unfoldable pub packs : ℕ → List ℕ → List ℕ
packs zero l = []
packs (suc n) l = packed (take 8 l) ∷ packs n (drop 8 l)

unfoldable pub packed_row : Word → List ℕ
packed_row n = length n ∷ packs 4 n

-- a function's parameters
unfoldable pub parameter_rows : Function → List ℕ
parameter_rows f =
    padded (max_values * packed_words) (joined packed_row f.values)
    ++ padded (max_parameters * packed_words) (joined packed_row f.parameters)

abbrev pub verb_word : Verb → ℕ
verb_word set = 0
verb_word ok = 1

unfoldable pub clause_row : Clause → List ℕ
clause_row c = c.party ∷ verb_word c.verb ∷ length c.fields ∷ padded max_fields c.fields

-- a function whose first node and first event have these numbers
unfoldable pub function_row : ℕ → ℕ → Function → List ℕ
function_row first event f =
    f.state ∷ f.party ∷ f.last ∷ length f.values ∷ length f.parameters ∷ first
    ∷ precondition_size f.precondition ∷ block_size f.body ∷ event ∷ length f.events ∷ name_row f.name

unfoldable pub function_rows : ℕ → ℕ → List Function → List ℕ
function_rows first event [] = []
function_rows first event (f ∷ fs) =
    function_row first event f ++ function_rows (first + function_size f) (event + length f.events) fs

-- events whose first node has this number; an event's own node is its last
unfoldable pub event_rows : ℕ → List Event → List ℕ
event_rows first [] = []
event_rows first (e ∷ es) = e.state ∷ e.last ∷ (first + event_size e - 1) ∷ event_rows (first + event_size e) es

unfoldable pub all_event_rows : ℕ → List Function → List ℕ
all_event_rows first [] = []
all_event_rows first (f ∷ fs) =
    event_rows (first + precondition_size f.precondition + block_size f.body) f.events
    ++ all_event_rows (first + function_size f) fs

unfoldable pub head_row : Contract → List ℕ
head_row c =
    length c.parties ∷ length c.assets ∷ length c.fields ∷ length c.states ∷ length c.strings
    ∷ length c.clauses ∷ length c.functions ∷ total (λ f. length f.events) c.functions
    ∷ total function_size c.functions ∷ c.initial ∷ []

unfoldable pub encode : Contract → List ℕ
encode c =
    head_row c
    ++ (name_row c.name
    ++ (padded (max_parties * name_words) (joined name_row c.parties)
    ++ (padded (max_assets * name_words) (joined name_row c.assets)
    ++ (padded (max_fields * name_words) (joined name_row c.fields)
    ++ (padded (max_states * name_words) (joined name_row c.states)
    ++ (padded (max_strings * string_words) (joined string_row c.strings)
    ++ (padded (max_clauses * clause_words) (joined clause_row c.clauses)
    ++ (padded (max_functions * function_words) (function_rows 0 0 c.functions)
    ++ (padded (max_events * event_words) (all_event_rows 0 c.functions)
    ++ (padded (max_nodes * node_words) (joined function_nodes c.functions)
    ++ padded (max_functions * parameter_words) (joined parameter_rows c.functions)))))))))))
