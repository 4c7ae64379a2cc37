-- How many words the rows and the nodes of a table take. Assumes nothing.
use mathlib.Core.Path.{◌≡◌, refl, sym, ap, ◌∙◌}
use mathlib.Core.Bool.{Bool, true}
use mathlib.Core.List.{List, [], ◌∷◌}
use Prim.Native.Nat.{ℕ, zero, suc, ◌+◌, ◌*◌, ◌≤◌}
use native.Mathlib.Omega.{arith}
use native.Mathlib.Nat.{add_comm, suc-mul, zero-mul, mul-le-mul_right}
use lib.ListN.{length, drop, length-append}
use Rattle.contract.specs.Limits.{max_fields, max_name, max_string, max_values, max_parameters}
use Rattle.contract.specs.Tree.{Word, Holder, asset, asset_parameter, Expression, constant, string, clock, field, value_parameter, held, apply, broken_expression, Condition, truth, compare, negation, both, either, broken_condition, Action, assign, send, move, pay, move_all, pay_all, Block, none, perform, conditional, broken_block, Precondition, omitted, given, Event, Function, Clause}
use Rattle.contract.specs.Sizes.{expression_size, condition_size, action_size, block_size, precondition_size, event_size, events_size, function_size}
use Rattle.contract.specs.Fits.{total, is_name, is_string}
use Rattle.laws.proofs.Members.{every_head, every_tail}
use Rattle.laws.specs.Lists.{every}
use Rattle.contract.specs.Table.{name_words, string_words, clause_words, function_words, packed_words, parameter_words}
use Rattle.contract.specs.Encode.{padded, joined, holder_node, expression_nodes, condition_nodes, action_parts, block_nodes, precondition_nodes, event_nodes, function_nodes, name_row, string_row, packs, packed_row, parameter_rows, clause_row, function_row, function_rows, event_rows, all_event_rows}
use Rattle.contract.proofs.Zeros.{length_zeros}
use Rattle.contract.proofs.Fitting.{name_length, string_length}

pub length_padded : (n : ℕ) (l : List ℕ) → length l ≤ n → length (padded n l) ≡ n
unfolding padded
length_padded n l h = simp (length-append, length_zeros) (omega arith)

-- ---- rows

pub length_name_row : (n : Word) → is_name n ≡ true → length (name_row n) ≡ name_words
unfolding name_row
length_name_row n e = ap suc (length_padded max_name n (name_length n e))

pub length_string_row : (s : Word) → is_string s ≡ true → length (string_row s) ≡ string_words
unfolding string_row
length_string_row s e = ap suc (length_padded max_string s (string_length s e))

pub length_clause_row : (k : Clause) → length k.fields ≤ max_fields → length (clause_row k) ≡ clause_words
unfolding clause_row
length_clause_row k h = ap (λ (n : ℕ). suc (suc (suc n))) (length_padded max_fields k.fields h)

pub length_function_row : (first event : ℕ) (f : Function) → is_name f.name ≡ true → length (function_row first event f) ≡ function_words
unfolding function_row
length_function_row first event f e = omega (arith, length_name_row f.name e)

-- rows of n words each
pub length_joined : {A : Type 0} (row : A → List ℕ) (right : A → Bool) (n : ℕ) → ((x : A) → right x ≡ true → length (row x) ≡ n)
    → (l : List A) → every right l ≡ true → length (joined row l) ≡ length l * n
unfolding joined
length_joined row right n f [] e = sym (zero-mul n)
length_joined row right n f (x ∷ l) e =
    length-append (row x) (joined row l)
    ∙ (λ i. f x (every_head right x l e) i + length_joined row right n f l (every_tail right x l e) i)
    ∙ add_comm n (length l * n)
    ∙ sym (suc-mul (length l) n)

-- some rows of n words fit into room for m
pub rows_long : {A : Type 0} (row : A → List ℕ) (right : A → Bool) (n m : ℕ) → ((x : A) → right x ≡ true → length (row x) ≡ n)
    → (l : List A) → every right l ≡ true → length l ≤ m → length (padded (m * n) (joined row l)) ≡ m * n
rows_long row right n m f l e h =
    length_padded (m * n) (joined row l) (rw (length_joined row right n f l e) (mul-le-mul_right n h))

pub length_packs : (n : ℕ) (l : List ℕ) → length (packs n l) ≡ n
unfolding packs
length_packs zero l = refl
length_packs (suc n) l = ap suc (length_packs n (drop 8 l))

pub length_packed_row : (n : Word) → is_name n ≡ true → length (packed_row n) ≡ packed_words
unfolding packed_row
length_packed_row n e = ap suc (length_packs 4 n)

-- the rows of a function's parameters
pub values_long : (f : Function) → every is_name f.values ≡ true → length f.values ≤ max_values
    → length (padded (max_values * packed_words) (joined packed_row f.values)) ≡ max_values * packed_words
values_long f e h = rows_long packed_row is_name packed_words max_values length_packed_row f.values e h

pub length_parameter_rows : (f : Function) → every is_name f.values ≡ true → length f.values ≤ max_values
    → every is_name f.parameters ≡ true → length f.parameters ≤ max_parameters → length (parameter_rows f) ≡ parameter_words
unfolding parameter_rows
length_parameter_rows f e h g l =
    simp length-append (omega (
      arith,
      values_long f e h,
      rows_long packed_row is_name packed_words max_parameters length_packed_row f.parameters g l,
    ))

pub length_function_rows : (first event : ℕ) (fs : List Function) → every (λ f. is_name f.name) fs ≡ true
    → length (function_rows first event fs) ≡ length fs * function_words
unfolding function_rows
length_function_rows first event [] e = refl
length_function_rows first event (f ∷ fs) e =
    simp length-append
    (omega (
      arith,
      length_function_row first event f (every_head (λ f. is_name f.name) f fs e),
      length_function_rows (first + function_size f) (event + length f.events) fs (every_tail (λ f. is_name f.name) f fs e),
    ))

pub length_event_rows : (first : ℕ) (es : List Event) → length (event_rows first es) ≡ length es * 3
unfolding event_rows
length_event_rows first [] = refl
length_event_rows first (e ∷ es) = omega (arith, length_event_rows (first + event_size e) es)

pub length_all_event_rows : (first : ℕ) (fs : List Function) → length (all_event_rows first fs) ≡ total (λ f. length f.events) fs * 3
unfolding all_event_rows total
length_all_event_rows first [] = refl
length_all_event_rows first (f ∷ fs) =
    simp length-append
    (omega (
      arith,
      length_event_rows (first + precondition_size f.precondition + block_size f.body) f.events,
      length_all_event_rows (first + function_size f) fs,
    ))

-- ---- nodes

pub length_holder : (h : Holder) → length (holder_node h) ≡ 3
length_holder (asset i) = refl
length_holder (asset_parameter i) = refl

pub length_expression : (e : Expression) → length (expression_nodes e) ≡ expression_size e * 3
unfolding expression_nodes expression_size
length_expression (constant n) = refl
length_expression (string n) = refl
length_expression clock = refl
length_expression (field i) = refl
length_expression (value_parameter i) = refl
length_expression (held h) = length_holder h
length_expression (apply o a b) = simp length-append (omega (arith, length_expression a, length_expression b))
length_expression broken_expression = refl

pub length_condition : (t : Condition) → length (condition_nodes t) ≡ condition_size t * 3
unfolding condition_nodes condition_size
length_condition (truth t) = refl
length_condition (compare o a b) = simp length-append (omega (arith, length_expression a, length_expression b))
length_condition (negation a) = simp length-append (omega (arith, length_condition a))
length_condition (both a b) = simp length-append (omega (arith, length_condition a, length_condition b))
length_condition (either a b) = simp length-append (omega (arith, length_condition a, length_condition b))
length_condition broken_condition = refl

-- all but its own node
pub length_parts : (a : Action) → length (action_parts a) + 3 ≡ action_size a * 3
unfolding action_parts action_size
length_parts (assign e x) = simp length-append (omega (arith, length_expression e))
length_parts (send e x) = simp length-append (omega (arith, length_expression e))
length_parts (move e h t) = simp length-append (omega (arith, length_expression e, length_holder h, length_holder t))
length_parts (pay e h x) = simp length-append (omega (arith, length_expression e, length_holder h))
length_parts (move_all h t) = simp length-append (omega (arith, length_holder h, length_holder t))
length_parts (pay_all h x) = simp length-append (omega (arith, length_holder h))

pub length_block : (b : Block) → length (block_nodes b) ≡ block_size b * 3
unfolding block_nodes block_size
length_block none = refl
length_block (perform b a) = simp length-append (omega (arith, length_block b, length_parts a))
length_block (conditional b t s) = simp length-append (omega (arith, length_block b, length_condition t, length_block s))
length_block broken_block = refl

pub length_precondition : (p : Precondition) → length (precondition_nodes p) ≡ precondition_size p * 3
unfolding precondition_nodes precondition_size
length_precondition omitted = refl
length_precondition (given t) = length_condition t

pub length_event : (e : Event) → length (event_nodes e) ≡ event_size e * 3
unfolding event_nodes event_size
length_event e = simp length-append (omega (arith, length_expression e.guard, length_block e.handler))

pub length_events : (es : List Event) → length (joined event_nodes es) ≡ events_size es * 3
unfolding joined events_size
length_events [] = refl
length_events (e ∷ es) = simp length-append (omega (arith, length_event e, length_events es))

pub length_function : (f : Function) → length (function_nodes f) ≡ function_size f * 3
unfolding function_nodes function_size
length_function f =
    simp length-append (omega (arith, length_precondition f.precondition, length_block f.body, length_events f.events))

pub length_functions : (fs : List Function) → length (joined function_nodes fs) ≡ total function_size fs * 3
unfolding joined total
length_functions [] = refl
length_functions (f ∷ fs) = simp length-append (omega (arith, length_function f, length_functions fs))

-- ---- something has at least one node

pub expression_some : (e : Expression) → 1 ≤ expression_size e
unfolding expression_size
expression_some (constant n) = omega arith
expression_some (string n) = omega arith
expression_some clock = omega arith
expression_some (field i) = omega arith
expression_some (value_parameter i) = omega arith
expression_some (held h) = omega arith
expression_some (apply o a b) = omega arith
expression_some broken_expression = omega arith

pub condition_some : (t : Condition) → 1 ≤ condition_size t
unfolding condition_size
condition_some (truth t) = omega arith
condition_some (compare o a b) = omega arith
condition_some (negation a) = omega arith
condition_some (both a b) = omega arith
condition_some (either a b) = omega arith
condition_some broken_condition = omega arith

pub action_some : (a : Action) → 1 ≤ action_size a
unfolding action_size
action_some (assign e x) = omega arith
action_some (send e x) = omega arith
action_some (move e h t) = omega arith
action_some (pay e h x) = omega arith
action_some (move_all h t) = omega arith
action_some (pay_all h x) = omega arith
