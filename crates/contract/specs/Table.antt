-- The layout of a table: its sections, the words of their rows, and the kinds of nodes. docs/TABLE.md shows it in full.
use Rattle.std.specs.Prelude.{ℕ, ◌+◌, ◌*◌, List, get_or}
use Rattle.contract.specs.Limits.{max_parties, max_assets, max_fields, max_states, max_strings, max_clauses, max_functions, max_events, max_nodes, max_values, max_parameters, max_name, max_string}

-- a word of a table, 0 past its end
abbrev pub word_at : List ℕ → ℕ → ℕ
word_at w i = get_or w i 0

-- words of a row: a length and the bytes
abbrev pub name_words : ℕ
name_words = 1 + max_name

abbrev pub string_words : ℕ
string_words = 1 + max_string

-- words of a packed row: a length, and the bytes, eight in a word with the first lowest
abbrev pub packed_words : ℕ
packed_words = 5

-- party, verb, how many fields, the fields
abbrev pub clause_words : ℕ
clause_words = 3 + max_fields

-- state, party, last state, value parameters, asset parameters, first node, nodes of the precondition, nodes of the body, first
-- event, events, the name
abbrev pub function_words : ℕ
function_words = 10 + name_words

-- the packed rows of a function's value parameters and asset parameters
abbrev pub parameter_words : ℕ
parameter_words = (max_values + max_parameters) * packed_words

-- state, last state, its node
abbrev pub event_words : ℕ
event_words = 3

-- kind, argument, size
abbrev pub node_words : ℕ
node_words = 3

-- the head: how many parties, assets, fields, states, strings, clauses, functions, events and nodes; the initial state
abbrev pub head_words : ℕ
head_words = 10

-- where the sections start
abbrev pub name_start : ℕ
name_start = head_words

abbrev pub parties_start : ℕ
parties_start = name_start + name_words

abbrev pub assets_start : ℕ
assets_start = parties_start + max_parties * name_words

abbrev pub fields_start : ℕ
fields_start = assets_start + max_assets * name_words

abbrev pub states_start : ℕ
states_start = fields_start + max_fields * name_words

abbrev pub strings_start : ℕ
strings_start = states_start + max_states * name_words

abbrev pub clauses_start : ℕ
clauses_start = strings_start + max_strings * string_words

abbrev pub functions_start : ℕ
functions_start = clauses_start + max_clauses * clause_words

abbrev pub events_start : ℕ
events_start = functions_start + max_functions * function_words

abbrev pub nodes_start : ℕ
nodes_start = events_start + max_events * event_words

abbrev pub parameters_start : ℕ
parameters_start = nodes_start + max_nodes * node_words

-- the length of a table: 24,659 words
abbrev pub table_length : ℕ
table_length = parameters_start + max_functions * parameter_words

-- where the rows of function i's value parameters start, and of its asset parameters
abbrev pub values_of : ℕ → ℕ
values_of i = parameters_start + i * parameter_words

abbrev pub parameters_of : ℕ → ℕ
parameters_of i = values_of i + max_values * packed_words

-- the words of node k
abbrev pub kind_at : List ℕ → ℕ → ℕ
kind_at w k = word_at w (nodes_start + k * 3)

abbrev pub argument_at : List ℕ → ℕ → ℕ
argument_at w k = word_at w (nodes_start + k * 3 + 1)

-- of an expression, a condition or an event: the nodes of its whole; of a statement: the nodes of its block up to and with it
abbrev pub size_at : List ℕ → ℕ → ℕ
size_at w k = word_at w (nodes_start + k * 3 + 2)

-- word j of row i of the functions, and of the events
abbrev pub function_word : List ℕ → ℕ → ℕ → ℕ
function_word w i j = word_at w (functions_start + i * function_words + j)

abbrev pub event_word : List ℕ → ℕ → ℕ → ℕ
event_word w i j = word_at w (events_start + i * event_words + j)

abbrev pub clause_word : List ℕ → ℕ → ℕ → ℕ
clause_word w i j = word_at w (clauses_start + i * clause_words + j)

-- Kinds of nodes. Expressions: constant, string, now, field, asset, value parameter, asset parameter, + - * /
abbrev pub constant_kind : ℕ
constant_kind = 1

abbrev pub string_kind : ℕ
string_kind = 2

abbrev pub now_kind : ℕ
now_kind = 3

abbrev pub field_kind : ℕ
field_kind = 4

abbrev pub asset_kind : ℕ
asset_kind = 5

abbrev pub value_kind : ℕ
value_kind = 6

abbrev pub parameter_kind : ℕ
parameter_kind = 7

abbrev pub plus_kind : ℕ
plus_kind = 8

abbrev pub minus_kind : ℕ
minus_kind = 9

abbrev pub times_kind : ℕ
times_kind = 10

abbrev pub over_kind : ℕ
over_kind = 11

-- Conditions: true, false, == != < <= > >= ~ && ||
abbrev pub true_kind : ℕ
true_kind = 12

abbrev pub false_kind : ℕ
false_kind = 13

abbrev pub equal_kind : ℕ
equal_kind = 14

abbrev pub unequal_kind : ℕ
unequal_kind = 15

abbrev pub less_kind : ℕ
less_kind = 16

abbrev pub at_most_kind : ℕ
at_most_kind = 17

abbrev pub greater_kind : ℕ
greater_kind = 18

abbrev pub at_least_kind : ℕ
at_least_kind = 19

abbrev pub not_kind : ℕ
not_kind = 20

abbrev pub and_kind : ℕ
and_kind = 21

abbrev pub or_kind : ℕ
or_kind = 22

-- A party, as the target of a statement. Statements: E -> t; E -o h, t; h -o t; (B) { S }. An event
abbrev pub party_kind : ℕ
party_kind = 23

abbrev pub value_move_kind : ℕ
value_move_kind = 24

abbrev pub asset_move_kind : ℕ
asset_move_kind = 25

abbrev pub whole_move_kind : ℕ
whole_move_kind = 26

abbrev pub conditional_kind : ℕ
conditional_kind = 27

abbrev pub event_kind : ℕ
event_kind = 28
