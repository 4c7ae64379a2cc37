-- Question 3: which tables pass, over their numbers alone. docs/TABLE.md writes it out in words. What the counts leave unused is not
-- looked at, nor the argument of a node whose kind has none.
use Rattle.std.specs.Prelude.{ℕ, zero, suc, ◌+◌, ◌-◌, ◌*◌, Bool, false, ◌&&◌, ◌||◌, List, [], ◌∷◌, length, eqb, leb, ltb}
use Rattle.laws.specs.Choice.{pick}
use Rattle.tokens.specs.Classes.{is_letter, is_name_byte, is_string_byte}
use Rattle.contract.specs.Limits.{top, max_parties, max_assets, max_fields, max_states, max_strings, max_clauses, max_functions, max_events, max_nodes, max_values, max_parameters, max_statements, max_name, max_string}
use Rattle.contract.specs.Fits.{is_name, Scope}
use Rattle.contract.specs.Table.{word_at, kind_at, argument_at, size_at, function_word, event_word, clause_word, name_words, string_words, function_words, packed_words, values_of, parameters_of, name_start, parties_start, assets_start, fields_start, states_start, strings_start, functions_start, table_length, constant_kind, string_kind}
use Rattle.contract.specs.Table.{now_kind, field_kind, asset_kind, value_kind, parameter_kind, plus_kind, over_kind, true_kind, false_kind, equal_kind, at_least_kind, not_kind, and_kind, or_kind, party_kind, value_move_kind, asset_move_kind, whole_move_kind, conditional_kind, event_kind}
use Rattle.contract.specs.Decode.{packed_word}
use Rattle.laws.specs.Lists.{all_below}

-- lo ≤ n ≤ hi
unfoldable pub ranges : ℕ → ℕ → ℕ → Bool
ranges lo n hi = leb lo n && leb n hi

-- ---- words

-- a name of 1 to 32 bytes, its length at o
unfoldable pub name_ok : List ℕ → ℕ → Bool
name_ok w o =
    ranges 1 (word_at w o) max_name
    && (is_letter (word_at w (o + 1))
    && all_below (word_at w o - 1) (λ j. is_name_byte (word_at w (o + 2 + j))))

-- a string of up to 64 bytes, its length at o
unfoldable pub string_ok : List ℕ → ℕ → Bool
string_ok w o = leb (word_at w o) max_string && all_below (word_at w o) (λ j. is_string_byte (word_at w (o + 1 + j)))

-- a name in the packed row at o
unfoldable pub packed_ok : List ℕ → ℕ → Bool
packed_ok w o = leb (word_at w o) max_name && is_name (packed_word w o)

-- ---- nodes

-- what a part of a node may be
pub data Sort : Type 0 where
  expression : Sort
  condition : Sort
  statement : Sort
  -- the source of a move
  holder : Sort
  -- the target of a move
  asset_target : Sort
  -- the target of a value
  value_target : Sort

unfoldable pub is_sort : Sort → ℕ → Bool
is_sort expression kind = ranges constant_kind kind over_kind
is_sort condition kind = ranges true_kind kind or_kind
is_sort statement kind = ranges value_move_kind kind conditional_kind
is_sort holder kind = eqb kind asset_kind || eqb kind parameter_kind
is_sort asset_target kind = eqb kind party_kind || (eqb kind asset_kind || eqb kind parameter_kind)
is_sort value_target kind = eqb kind party_kind || eqb kind field_kind

-- where something starts, if it is as it should be
pub data Start : Type 0 where
  at : ℕ → Start
  nowhere : Start

-- where the part starts that ends before node `end`: of this sort, and in the nodes from `from` on
unfoldable pub part_start : List ℕ → ℕ → Sort → ℕ → Start
part_start w from s end =
    pick (ltb from end && (is_sort s (kind_at w (end - 1)) && leb (size_at w (end - 1)) (end - from)))
    (at (end - size_at w (end - 1)))
    nowhere

abbrev pub on_start : Start → (ℕ → Start) → Start
on_start (at p) f = f p
on_start nowhere f = nowhere

-- where parts of these sorts start, the last part first
unfoldable pub parts_start : List ℕ → ℕ → List Sort → ℕ → Start
parts_start w from [] end = at end
parts_start w from (s ∷ ss) end = on_start (part_start w from s end) (parts_start w from ss)

-- node k, an expression or a condition whose parts start at p, counts them and itself
abbrev pub whole_from : List ℕ → ℕ → Start → Bool
whole_from w k (at p) = eqb (size_at w k + p) (k + 1)
whole_from w k nowhere = false

-- node k, a statement whose own parts start at p, counts them, itself and the statements before it in its block, or starts anew: then
-- the block's end, which counts all its nodes, tells
abbrev pub statement_from : List ℕ → ℕ → ℕ → Start → Bool
statement_from w from k (at p) =
    eqb (size_at w k + p) (k + 1)
    || (ltb from p && (is_sort statement (kind_at w (p - 1)) && eqb (size_at w k + p) (k + 1 + size_at w (p - 1))))
statement_from w from k nowhere = false

-- a block in the n nodes before `end`: none, or its last statement counts them all
unfoldable pub block_ok : List ℕ → ℕ → ℕ → Bool
block_ok w end n = eqb n 0 || (is_sort statement (kind_at w (end - 1)) && eqb (size_at w (end - 1)) n)

-- the block of conditional k lies in the nodes from `from` on, and its condition before it
unfoldable pub conditional_start : List ℕ → ℕ → ℕ → Start
conditional_start w from k =
    pick (leb (argument_at w k) (k - from) && block_ok w k (argument_at w k))
    (part_start w from condition (k - argument_at w k))
    nowhere

-- what a node without parts names
unfoldable pub leaf_ok : Scope → ℕ → ℕ → Bool
leaf_ok c kind n =
    pick (eqb kind constant_kind) (leb n top)
    (pick (eqb kind string_kind) (ltb n c.strings)
    (pick (eqb kind field_kind) (ltb n c.fields)
    (pick (eqb kind asset_kind) (ltb n c.assets)
    (pick (eqb kind value_kind) (ltb n c.values)
    (pick (eqb kind parameter_kind) (ltb n c.parameters)
    (pick (eqb kind party_kind) (ltb n c.parties)
    (eqb kind now_kind || (eqb kind true_kind || eqb kind false_kind))))))))

-- a node with parts, in the nodes from `from` on
unfoldable pub whole_ok : List ℕ → ℕ → ℕ → ℕ → Bool
whole_ok w from k kind =
    pick (ranges plus_kind kind over_kind) (whole_from w k (parts_start w from (expression ∷ expression ∷ []) k))
    (pick (ranges equal_kind kind at_least_kind) (whole_from w k (parts_start w from (expression ∷ expression ∷ []) k))
    (pick (eqb kind not_kind) (whole_from w k (parts_start w from (condition ∷ []) k))
    (pick (ranges and_kind kind or_kind) (whole_from w k (parts_start w from (condition ∷ condition ∷ []) k))
    (pick (eqb kind value_move_kind) (statement_from w from k (parts_start w from (value_target ∷ expression ∷ []) k))
    (pick (eqb kind asset_move_kind) (statement_from w from k (parts_start w from (asset_target ∷ holder ∷ expression ∷ []) k))
    (pick (eqb kind whole_move_kind) (statement_from w from k (parts_start w from (asset_target ∷ holder ∷ []) k))
    (pick (eqb kind conditional_kind) (statement_from w from k (conditional_start w from k)) false)))))))

-- kinds of nodes without parts
unfoldable pub is_leaf : ℕ → Bool
is_leaf kind = ranges constant_kind kind parameter_kind || (eqb kind true_kind || (eqb kind false_kind || eqb kind party_kind))

unfoldable pub node_ok : List ℕ → Scope → ℕ → ℕ → Bool
node_ok w c from k =
    pick (is_leaf (kind_at w k))
    (leaf_ok c (kind_at w k) (argument_at w k) && eqb (size_at w k) 1)
    (whole_ok w from k (kind_at w k))

-- how many statements stand in the n nodes from `from` on
unfoldable pub statements_in : List ℕ → ℕ → ℕ → ℕ
statements_in w from zero = 0
statements_in w from (suc n) = pick (is_sort statement (kind_at w (from + n))) (suc (statements_in w from n)) (statements_in w from n)

-- the n nodes from `from` on, each with its parts among them, and not too many statements
unfoldable pub nodes_ok : List ℕ → Scope → ℕ → ℕ → Bool
nodes_ok w c from n = all_below n (λ j. node_ok w c from (from + j)) && leb (statements_in w from n) max_statements

-- ---- functions and events

unfoldable pub scope_at : List ℕ → ℕ → ℕ → Scope
scope_at w v p =
    record { parties = word_at w 0; assets = word_at w 1; fields = word_at w 2; strings = word_at w 4; values = v; parameters = p }

-- a precondition in the n nodes from `first` on: none, or a condition that counts them all
unfoldable pub precondition_ok : List ℕ → Scope → ℕ → ℕ → Bool
precondition_ok w c first n =
    eqb n 0
    || (is_sort condition (kind_at w (first + n - 1))
    && (eqb (size_at w (first + n - 1)) n
    && nodes_ok w c first n))

unfoldable pub body_ok : List ℕ → Scope → ℕ → ℕ → Bool
body_ok w c first n = block_ok w (first + n) n && nodes_ok w c first n

-- an event whose guard starts at node `first`; its own node k stands after its guard and its handler of h nodes
unfoldable pub event_nodes_ok : List ℕ → Scope → ℕ → ℕ → Bool
event_nodes_ok w c first k =
    let h = argument_at w k in
    ltb k (word_at w 8)
    && (eqb (kind_at w k) event_kind
    && (eqb (size_at w k + first) (k + 1)
    && (leb h k
    && (ltb first (k - h)
    && (is_sort expression (kind_at w (k - h - 1))
    && (eqb (size_at w (k - h - 1) + first) (k - h)
    && (nodes_ok w c first (k - h - first)
    && body_ok w (scope_at w 0 0) (k - h) h)))))))

unfoldable pub event_ok : List ℕ → Scope → ℕ → ℕ → Bool
event_ok w c first i =
    ltb (event_word w i 0) (word_at w 3)
    && (ltb (event_word w i 1) (word_at w 3)
    && event_nodes_ok w c first (event_word w i 2))

-- where event j of function i starts: after the body, or after the event before it
unfoldable pub event_first : List ℕ → ℕ → ℕ → ℕ
event_first w i zero = function_word w i 5 + function_word w i 6 + function_word w i 7
event_first w i (suc j) = event_word w (function_word w i 8 + j) 2 + 1

-- the first node and the first event after those of the functions before function i
unfoldable pub first_node : List ℕ → ℕ → ℕ
first_node w zero = 0
first_node w (suc i) = event_first w i (function_word w i 9)

unfoldable pub first_event : List ℕ → ℕ → ℕ
first_event w zero = 0
first_event w (suc i) = function_word w i 8 + function_word w i 9

-- the first three lines follow from the others, and keep sums small
unfoldable pub function_nodes_ok : List ℕ → Scope → ℕ → Bool
function_nodes_ok w c i =
    leb (function_word w i 6) max_nodes
    && (leb (function_word w i 7) max_nodes
    && (leb (function_word w i 9) max_events
    && (leb (function_word w i 5 + function_word w i 6 + function_word w i 7) (word_at w 8)
    && (precondition_ok w c (function_word w i 5) (function_word w i 6)
    && (body_ok w c (function_word w i 5 + function_word w i 6) (function_word w i 7)
    && all_below (function_word w i 9) (λ j. event_ok w c (event_first w i j) (function_word w i 8 + j)))))))

unfoldable pub function_ok : List ℕ → ℕ → Bool
function_ok w i =
    ltb (function_word w i 0) (word_at w 3)
    && (ltb (function_word w i 1) (word_at w 0)
    && (ltb (function_word w i 2) (word_at w 3)
    && (leb (function_word w i 3) max_values
    && (leb (function_word w i 4) max_parameters
    && (name_ok w (functions_start + i * function_words + 10)
    && (eqb (function_word w i 5) (first_node w i)
    && (eqb (function_word w i 8) (first_event w i)
    && function_nodes_ok w (scope_at w (function_word w i 3) (function_word w i 4)) i)))))))

-- the names of function i's parameters
unfoldable pub parameters_ok : List ℕ → ℕ → Bool
parameters_ok w i =
    all_below (function_word w i 3) (λ j. packed_ok w (values_of i + j * packed_words))
    && all_below (function_word w i 4) (λ j. packed_ok w (parameters_of i + j * packed_words))

-- ---- the whole

unfoldable pub clause_ok : List ℕ → ℕ → Bool
clause_ok w i =
    ltb (clause_word w i 0) (word_at w 0)
    && (leb (clause_word w i 1) 1
    && (leb (clause_word w i 2) max_fields
    && all_below (clause_word w i 2) (λ j. ltb (clause_word w i (3 + j)) (word_at w 2))))

-- some of the first n clauses is of party p
unfoldable pub clause_below : List ℕ → ℕ → ℕ → Bool
clause_below w zero p = false
clause_below w (suc n) p = clause_below w n p || eqb (clause_word w n 0) p

unfoldable pub head_ok : List ℕ → Bool
head_ok w =
    leb (word_at w 0) max_parties
    && (leb (word_at w 1) max_assets
    && (leb (word_at w 2) max_fields
    && (leb (word_at w 3) max_states
    && (leb (word_at w 4) max_strings
    && (leb (word_at w 5) max_clauses
    && (leb (word_at w 6) max_functions
    && (leb (word_at w 7) max_events
    && (leb (word_at w 8) max_nodes
    && ltb (word_at w 9) (word_at w 3)))))))))

unfoldable pub names_ok : List ℕ → Bool
names_ok w =
    name_ok w name_start
    && (all_below (word_at w 0) (λ i. name_ok w (parties_start + i * name_words))
    && (all_below (word_at w 1) (λ i. name_ok w (assets_start + i * name_words))
    && (all_below (word_at w 2) (λ i. name_ok w (fields_start + i * name_words))
    && (all_below (word_at w 3) (λ i. name_ok w (states_start + i * name_words))
    && all_below (word_at w 4) (λ i. string_ok w (strings_start + i * string_words))))))

unfoldable pub passes : List ℕ → Bool
passes w =
    eqb (length w) table_length
    && (head_ok w
    && (names_ok w
    && (all_below (word_at w 5) (clause_ok w)
    && (all_below (word_at w 0) (clause_below w (word_at w 5))
    && (all_below (word_at w 6) (function_ok w)
    && (eqb (first_node w (word_at w 6)) (word_at w 8)
    && (eqb (first_event w (word_at w 6)) (word_at w 7)
    && all_below (word_at w 6) (parameters_ok w))))))))
