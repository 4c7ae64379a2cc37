-- The contract that a table holds, for any words at all. A node's parts have lower numbers than the node; the right part of node k ends
-- at k - 1, the left part before it. A malformed table gives some contract, often with a broken part; such a table does not pass.
use Rattle.std.specs.Prelude.{ℕ, zero, suc, ◌+◌, ◌-◌, ◌*◌, ◌/◌, ◌%◌, ◌^◌, Bool, true, false, List, [], ◌∷◌, take, drop, eqb, leb, ltb}
use Rattle.laws.specs.Choice.{pick}
use Rattle.numbers.specs.declared.Operator.{Operator}
use Rattle.numbers.specs.declared.Operator.TheVariants.{Plus, Minus, Times, Over}
use Rattle.numbers.specs.declared.Comparison.{Comparison}
use Rattle.numbers.specs.declared.Comparison.TheVariants.{Equal, Unequal, Less, AtMost, Greater, AtLeast}
use Rattle.contract.specs.Limits.{top, max_strings, max_name}
use Rattle.contract.specs.Tree.{Word, Holder, asset, asset_parameter, Expression, constant, string, clock, field, value_parameter, held, apply, broken_expression, Condition, truth, compare, negation, both, either, broken_condition, Action}
use Rattle.contract.specs.Tree.{assign, send, move, pay, move_all, pay_all, Block, none, perform, conditional, broken_block, Precondition, omitted, given, Event, Function, Verb, set, ok, Clause, Contract}
use Rattle.contract.specs.Table.{word_at, kind_at, argument_at, size_at, function_word, event_word, clause_word, name_words, string_words, clause_words, function_words, packed_words, values_of, parameters_of, name_start, parties_start, assets_start, fields_start, states_start, strings_start, clauses_start, functions_start, constant_kind, string_kind, now_kind, field_kind}
use Rattle.contract.specs.Table.{asset_kind, value_kind, parameter_kind, plus_kind, minus_kind, times_kind, over_kind, true_kind, false_kind, equal_kind, unequal_kind, less_kind, at_most_kind, greater_kind, at_least_kind, not_kind, and_kind, or_kind, party_kind, value_move_kind, asset_move_kind, whole_move_kind, conditional_kind}

-- f i, f (i + 1), .. n of them
unfoldable pub each_from : {A : Type 0} → ℕ → ℕ → (ℕ → A) → List A
each_from i zero f = []
each_from i (suc n) f = f i ∷ each_from (suc i) n f

abbrev pub operator_of : ℕ → Operator
operator_of kind = pick (eqb kind plus_kind) Plus (pick (eqb kind minus_kind) Minus (pick (eqb kind times_kind) Times Over))

abbrev pub comparison_of : ℕ → Comparison
comparison_of kind =
    pick (eqb kind equal_kind) Equal
    (pick (eqb kind unequal_kind) Unequal
    (pick (eqb kind less_kind) Less
    (pick (eqb kind at_most_kind) AtMost
    (pick (eqb kind greater_kind) Greater AtLeast))))

-- an asset, else an asset parameter
abbrev pub holder_of : ℕ → ℕ → Holder
holder_of kind i = pick (eqb kind asset_kind) (asset i) (asset_parameter i)

-- an expression of no parts; a constant over top, which no 64-bit integer holds, and the number of a string past the last are broken
unfoldable pub leaf_of : ℕ → ℕ → Expression
leaf_of kind n =
    pick (eqb kind constant_kind) (pick (leb n top) (constant n) broken_expression)
    (pick (eqb kind string_kind) (pick (ltb n max_strings) (string n) broken_expression)
    (pick (eqb kind now_kind) clock
    (pick (eqb kind field_kind) (field n)
    (pick (eqb kind value_kind) (value_parameter n)
    (pick (eqb kind asset_kind) (held (asset n))
    (pick (eqb kind parameter_kind) (held (asset_parameter n)) broken_expression))))))

-- node k counts itself, its right part, which ends at the node before it, and its left part
unfoldable pub counts_two : List ℕ → ℕ → Bool
counts_two w k = eqb (size_at w k) (suc (size_at w (k - 1 - size_at w (k - 1)) + size_at w (k - 1)))

-- node k counts itself and its part
unfoldable pub counts_one : List ℕ → ℕ → Bool
counts_one w k = eqb (size_at w k) (suc (size_at w (k - 1)))

-- the expression at node k, in at most so many steps down; node 0 counts no parts
unfoldable pub expression_within : ℕ → List ℕ → ℕ → Expression
expression_within zero w k = broken_expression
expression_within (suc fuel) w k =
    pick (ltb (kind_at w k) plus_kind) (leaf_of (kind_at w k) (argument_at w k))
    (pick (leb (kind_at w k) over_kind)
    (pick (counts_two w k)
    (apply (operator_of (kind_at w k)) (expression_within fuel w (k - 1 - size_at w (k - 1))) (expression_within fuel w (k - 1)))
    broken_expression)
    broken_expression)

-- parts have lower numbers than the whole, so that many steps are enough
abbrev pub expression_at : List ℕ → ℕ → Expression
expression_at w k = expression_within (suc k) w k

unfoldable pub condition_within : ℕ → List ℕ → ℕ → Condition
condition_within zero w k = broken_condition
condition_within (suc fuel) w k =
    pick (eqb (kind_at w k) true_kind) (truth true)
    (pick (eqb (kind_at w k) false_kind) (truth false)
    (pick (eqb (kind_at w k) not_kind)
    (pick (counts_one w k) (negation (condition_within fuel w (k - 1))) broken_condition)
    (pick (counts_two w k)
    (pick (eqb (kind_at w k) and_kind)
    (both (condition_within fuel w (k - 1 - size_at w (k - 1))) (condition_within fuel w (k - 1)))
    (pick (eqb (kind_at w k) or_kind)
    (either (condition_within fuel w (k - 1 - size_at w (k - 1))) (condition_within fuel w (k - 1)))
    (pick (ltb (kind_at w k) equal_kind) broken_condition
    (pick (ltb at_least_kind (kind_at w k)) broken_condition
    (compare (comparison_of (kind_at w k)) (expression_at w (k - 1 - size_at w (k - 1))) (expression_at w (k - 1)))))))
    broken_condition)))

abbrev pub condition_at : List ℕ → ℕ → Condition
condition_at w k = condition_within (suc k) w k

-- the holder that node k names
abbrev pub holder_at : List ℕ → ℕ → Holder
holder_at w k = holder_of (kind_at w k) (argument_at w k)

-- E -> t at node k: E, then t before it
unfoldable pub value_move_at : List ℕ → ℕ → Action
value_move_at w k =
    pick (eqb (kind_at w (k - 1)) party_kind)
    (send (expression_at w (k - 2)) (argument_at w (k - 1)))
    (assign (expression_at w (k - 2)) (argument_at w (k - 1)))

-- E -o h, t at node k: E, h, t before it
unfoldable pub asset_move_at : List ℕ → ℕ → Action
asset_move_at w k =
    pick (eqb (kind_at w (k - 1)) party_kind)
    (pay (expression_at w (k - 3)) (holder_at w (k - 2)) (argument_at w (k - 1)))
    (move (expression_at w (k - 3)) (holder_at w (k - 2)) (holder_at w (k - 1)))

-- h -o t at node k: h, t before it
unfoldable pub whole_move_at : List ℕ → ℕ → Action
whole_move_at w k =
    pick (eqb (kind_at w (k - 1)) party_kind)
    (pay_all (holder_at w (k - 2)) (argument_at w (k - 1)))
    (move_all (holder_at w (k - 2)) (holder_at w (k - 1)))

-- the block that stands in the nodes from `from` up to, not including, `end`, in at most so many steps down; k is its last node; one whose
-- first statement starts before `from` is broken
unfoldable pub block_within : ℕ → List ℕ → ℕ → ℕ → Block
block_within zero w from end = broken_block
block_within (suc fuel) w from end =
    let k = end - 1 in
    pick (leb end from) (pick (eqb end from) none broken_block)
    (pick (eqb (kind_at w k) value_move_kind)
    (perform (block_within fuel w from (k - 1 - size_at w (k - 2))) (value_move_at w k))
    (pick (eqb (kind_at w k) asset_move_kind)
    (perform (block_within fuel w from (k - 2 - size_at w (k - 3))) (asset_move_at w k))
    (pick (eqb (kind_at w k) whole_move_kind)
    (perform (block_within fuel w from (k - 2)) (whole_move_at w k))
    (pick (eqb (kind_at w k) conditional_kind)
    (conditional
    (block_within fuel w from (k - argument_at w k - size_at w (k - argument_at w k - 1)))
    (condition_at w (k - argument_at w k - 1))
    (block_within fuel w (k - argument_at w k) k))
    broken_block))))

abbrev pub block_between : List ℕ → ℕ → ℕ → Block
block_between w from end = block_within (suc end) w from end

-- the word whose length stands at o, and its bytes after it
abbrev pub word_of : List ℕ → ℕ → Word
word_of w o = take (word_at w o) (drop (o + 1) w)

-- byte j of the packed row at o
abbrev pub packed_byte : List ℕ → ℕ → ℕ → ℕ
packed_byte w o j = word_at w (o + 1 + j / 8) / 256 ^ (j % 8) % 256

-- the word of the packed row at o: as many of its 32 bytes as it says
unfoldable pub packed_word : List ℕ → ℕ → Word
packed_word w o = take (word_at w o) (each_from 0 max_name (packed_byte w o))

unfoldable pub event_at : List ℕ → ℕ → Event
event_at w i =
    let k = event_word w i 2 in
    record {
      guard = expression_at w (k - argument_at w k - 1);
      state = event_word w i 0;
      handler = block_between w (k - argument_at w k) k;
      last = event_word w i 1;
    }

-- the precondition in the n nodes from `first` on
unfoldable pub precondition_at : List ℕ → ℕ → ℕ → Precondition
precondition_at w first n = pick (eqb n 0) omitted (given (condition_at w (first + n - 1)))

unfoldable pub function_at : List ℕ → ℕ → Function
function_at w i =
    let first = function_word w i 5 in
    let pre = function_word w i 6 in
    record {
      state = function_word w i 0;
      party = function_word w i 1;
      name = word_of w (functions_start + i * function_words + 10);
      values = each_from 0 (function_word w i 3) (λ j. packed_word w (values_of i + j * packed_words));
      parameters = each_from 0 (function_word w i 4) (λ j. packed_word w (parameters_of i + j * packed_words));
      precondition = precondition_at w first pre;
      body = block_between w (first + pre) (first + pre + function_word w i 7);
      events = each_from (function_word w i 8) (function_word w i 9) (event_at w);
      last = function_word w i 2;
    }

-- 0 for SET, else OK
abbrev pub verb_of : ℕ → Verb
verb_of n = pick (eqb n 0) set ok

unfoldable pub clause_at : List ℕ → ℕ → Clause
clause_at w i =
    record {
      party = clause_word w i 0;
      verb = verb_of (clause_word w i 1);
      fields = take (clause_word w i 2) (drop (clauses_start + i * clause_words + 3) w);
    }

unfoldable pub contract_of : List ℕ → Contract
contract_of w =
    record {
      name = word_of w name_start;
      parties = each_from 0 (word_at w 0) (λ i. word_of w (parties_start + i * name_words));
      assets = each_from 0 (word_at w 1) (λ i. word_of w (assets_start + i * name_words));
      fields = each_from 0 (word_at w 2) (λ i. word_of w (fields_start + i * name_words));
      states = each_from 0 (word_at w 3) (λ i. word_of w (states_start + i * name_words));
      strings = each_from 0 (word_at w 4) (λ i. word_of w (strings_start + i * string_words));
      clauses = each_from 0 (word_at w 5) (clause_at w);
      initial = word_at w 9;
      functions = each_from 0 (word_at w 6) (function_at w);
    }
