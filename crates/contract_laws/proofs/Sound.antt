-- A table that passes the check holds a contract that fits. Assumes nothing.
use mathlib.Core.Path.{◌≡◌, refl, sym, ap, subst, ◌∙◌}
use mathlib.Core.Bool.{Bool, true, false, ◌&&◌}
use mathlib.Core.List.{List, [], ◌∷◌}
use Prim.Native.Nat.{ℕ, zero, suc, ◌+◌, ◌-◌, ◌*◌, ◌<◌, ◌≤◌}
use native.Mathlib.Omega.{arith}
use native.Mathlib.Nat.{zero-add}
use lib.ListN.{length}
use lib.Dec.{eqb, leb, ltb}
use borrow.Author.Tests.{ltb-true, leb-true, eqb-true, eqb-false, lt-ltb, le-leb}
use Rattle.laws.proofs.Choice.{pick_true, pick_false, true_false}
use Rattle.contract.specs.Limits.{max_parties, max_assets, max_fields, max_states, max_strings, max_clauses, max_functions, max_events, max_nodes, max_values, max_parameters, max_statements, max_name}
use Rattle.contract.specs.Tree.{Word, Clause, Contract}
use Rattle.contract.specs.Sizes.{expression_size, block_size, precondition_size, event_size, function_size, statements}
use Rattle.contract.specs.Fits.{total, is_name, is_string, Scope, expression_in, block_in, precondition_in, scope_of, scope_in, event_in, function_in, clause_in, words_in, has_clause, fits}
use Rattle.laws.proofs.Truths.{link, both_left, both_right, both_true}
use Rattle.laws.specs.Lists.{every, all_below}
use Rattle.contract.specs.Table.{word_at, kind_at, argument_at, size_at, function_word, event_word, clause_word, name_words, string_words, clause_words, function_words, packed_words, values_of, parameters_of, name_start, parties_start, assets_start, fields_start, states_start, strings_start, clauses_start, functions_start, table_length, event_kind}
use Rattle.contract.specs.Encode.{zeros}
use Rattle.contract.specs.Decode.{each_from, expression_at, block_between, word_of, packed_word, event_at, precondition_at, function_at, clause_at, contract_of}
use Rattle.contract.specs.Check.{name_ok, string_ok, packed_ok, parameters_ok, clause_below, expression, condition, is_sort, block_ok, node_ok, statements_in, nodes_ok, scope_at, precondition_ok, body_ok, event_nodes_ok, event_first, first_node, first_event, function_ok, clause_ok, head_ok, names_ok, passes}
use Rattle.contract.proofs.Passed.{HeadPassed, head_passed, FunctionPassed, function_passed, EventPassed, event_passed}
use Rattle.contract.proofs.Fitting.{FitsClause, FitsEvent, FitsFunction}
use Rattle.contract_laws.proofs.Sections.{event_count, events_total}
use Rattle.contract_laws.proofs.Inversions.{by_test, of_either, block_of_lem}
use Rattle.laws.proofs.Members.{below_at, all_below_lem}
use Rattle.contract_laws.proofs.Held.{Accepted, expression_held, condition_held}
use Rattle.contract_laws.proofs.Blocks.{block_held}
use Rattle.contract_laws.proofs.PartyClauses.{has_of, below_has}
use Rattle.contract_laws.proofs.Members.{length_each, get_or_each, every_each, every_row, total_each, total_row, taken_few, every_taken, name_in, string_in}

-- ---- regions of nodes

-- n nodes in a row
module _ (w : List ℕ) (s : Scope) (few : s.strings ≤ max_strings) (first n : ℕ) where
  accepted : nodes_ok w s first n ≡ true → Accepted w s first (first + n)
  unfolding nodes_ok
  accepted e =
      let p : ℕ → Bool = λ j. node_ok w s first (first + j) in
      record {
        strings_few = few;
        node = λ k h l.
            let q : first + (k - first) ≡ k = omega arith in
            subst (λ (i : ℕ). node_ok w s first i ≡ true) q
            (below_at p n (both_left (all_below n p) (leb (statements_in w first n) max_statements) e) (k - first) (omega arith));
      }

  statements_few : nodes_ok w s first n ≡ true → statements_in w first n ≤ max_statements
  unfolding nodes_ok
  statements_few e =
      let p : ℕ → Bool = λ j. node_ok w s first (first + j) in
      leb-true (statements_in w first n) max_statements (both_right (all_below n p) (leb (statements_in w first n) max_statements) e)

  precondition_held : precondition_ok w s first n ≡ true → (precondition_in s (precondition_at w first n) ≡ true) × (precondition_size (precondition_at w first n) ≡ n)
  unfolding precondition_ok precondition_at precondition_in precondition_size
  precondition_held e =
      let k = first + n - 1 in
      let a = is_sort condition (kind_at w k) in
      let b = eqb (size_at w k) n in
      let c = nodes_ok w s first n in
      by_test (eqb n 0)
      (λ t.
      let q = pick_true _ _ _ t in
      (ap (precondition_in s) q, ap precondition_size q ∙ sym (eqb-true n 0 t)))
      λ t.
      let z : n ≡ 0 → ⊥ = eqb-false n 0 t in
      let u : (a && (b && c)) ≡ true = of_either (eqb n 0) (a && (b && c)) e (λ u. true_false (sym u ∙ t)) (λ u. u) in
      let v = link (a ∷ b ∷ c ∷ []) u in
      let x = condition_held (accepted (v 2)) k (omega arith) (omega arith) (v 0) in
      let q = pick_false _ _ _ t in
      (ap (precondition_in s) q ∙ x.inside, ap precondition_size q ∙ x.size ∙ eqb-true (size_at w k) n (v 1))

-- a body or a handler
record BodyHeld (w : List ℕ) (s : Scope) (first end : ℕ) : Type 0 where
  inside : block_in s (block_between w first end) ≡ true
  size : block_size (block_between w first end) + first ≡ end
  few : statements (block_between w first end) ≤ max_statements

body_held : (w : List ℕ) (s : Scope) → s.strings ≤ max_strings → (first n end : ℕ) → first + n ≡ end → body_ok w s first n ≡ true → BodyHeld w s first end
unfolding body_ok
body_held w s few first n end q e =
    let m = first + n in
    let a = block_ok w m n in
    let b = nodes_ok w s first n in
    let x = block_held (accepted w s few first n (both_right a b e)) first m (omega arith) (omega arith) (block_of_lem w first m n refl (both_left a b e)) in
    let c : m - first ≡ n = omega arith in
    let l : statements_in w first (m - first) ≤ max_statements = subst (λ (i : ℕ). statements_in w first i ≤ max_statements) (sym c) (statements_few w s few first n (both_right a b e)) in
    subst (BodyHeld w s first) q (record { inside = x.inside; size = x.size; few = omega (arith, x.few) })

-- an event whose guard starts at node `first`, by its own node k
record EventHeld (w : List ℕ) (s : Scope) (first k : ℕ) : Type 0 where
  guard : expression_in s (expression_at w (k - argument_at w k - 1)) ≡ true
  handler : BodyHeld w (scope_at w 0 0) (k - argument_at w k) k
  size : expression_size (expression_at w (k - argument_at w k - 1)) + block_size (block_between w (k - argument_at w k) k) + 1 + first ≡ k + 1

event_held : (w : List ℕ) (s : Scope) → s.strings ≤ max_strings → word_at w 4 ≤ max_strings → (first k : ℕ) → event_nodes_ok w s first k ≡ true → EventHeld w s first k
unfolding event_nodes_ok scope_at
event_held w s few strings first k e =
    let h = argument_at w k in
    let t =
    link
    (ltb k (word_at w 8)
    ∷ eqb (kind_at w k) event_kind
    ∷ eqb (size_at w k + first) (k + 1)
    ∷ leb h k
    ∷ ltb first (k - h)
    ∷ is_sort expression (kind_at w (k - h - 1))
    ∷ eqb (size_at w (k - h - 1) + first) (k - h)
    ∷ nodes_ok w s first (k - h - first)
    ∷ body_ok w (scope_at w 0 0) (k - h) h
    ∷ [])
    e in
    let a : h ≤ k = leb-true h k (t 3) in
    let b : first < k - h = ltb-true first (k - h) (t 4) in
    let c : size_at w (k - h - 1) + first ≡ k - h = eqb-true (size_at w (k - h - 1) + first) (k - h) (t 6) in
    let x = expression_held (accepted w s few first (k - h - first) (t 7)) (k - h - 1) (omega arith) (omega arith) (t 5) in
    let y = body_held w (scope_at w 0 0) strings (k - h) h k (omega arith) (t 8) in
    record {
      guard = x.inside;
      handler = y;
      size = omega (arith, x.size, y.size);
    }

-- ---- the check's parts by name

pub record Passed (w : List ℕ) : Type 0 where
  pub long : length w ≡ table_length
  pub head : HeadPassed w
  pub names : names_ok w ≡ true
  pub clauses : (i : ℕ) → i < word_at w 5 → clause_ok w i ≡ true
  pub heard : (p : ℕ) → p < word_at w 0 → clause_below w (word_at w 5) p ≡ true
  pub functions : (i : ℕ) → i < word_at w 6 → function_ok w i ≡ true
  pub nodes : first_node w (word_at w 6) ≡ word_at w 8
  pub events : first_event w (word_at w 6) ≡ word_at w 7
  pub parameters : (i : ℕ) → i < word_at w 6 → parameters_ok w i ≡ true

pub passed : (w : List ℕ) → passes w ≡ true → Passed w
unfolding passes
passed w e =
    let t =
    link
    (eqb (length w) table_length
    ∷ head_ok w
    ∷ names_ok w
    ∷ all_below (word_at w 5) (clause_ok w)
    ∷ all_below (word_at w 0) (clause_below w (word_at w 5))
    ∷ all_below (word_at w 6) (function_ok w)
    ∷ eqb (first_node w (word_at w 6)) (word_at w 8)
    ∷ eqb (first_event w (word_at w 6)) (word_at w 7)
    ∷ all_below (word_at w 6) (parameters_ok w)
    ∷ [])
    e in
    record {
      long = eqb-true (length w) table_length (t 0);
      head = head_passed w (t 1);
      names = t 2;
      clauses = below_at (clause_ok w) (word_at w 5) (t 3);
      heard = below_at (clause_below w (word_at w 5)) (word_at w 0) (t 4);
      functions = below_at (function_ok w) (word_at w 6) (t 5);
      nodes = eqb-true (first_node w (word_at w 6)) (word_at w 8) (t 6);
      events = eqb-true (first_event w (word_at w 6)) (word_at w 7) (t 7);
      parameters = below_at (parameters_ok w) (word_at w 6) (t 8);
    }

-- ---- what a table's contract counts, whatever its words

pub record Counts (w : List ℕ) (c : Contract) : Type 0 where
  pub parties : length c.parties ≡ word_at w 0
  pub assets : length c.assets ≡ word_at w 1
  pub fields : length c.fields ≡ word_at w 2
  pub states : length c.states ≡ word_at w 3
  pub strings : length c.strings ≡ word_at w 4
  pub clauses : length c.clauses ≡ word_at w 5
  pub functions : length c.functions ≡ word_at w 6

pub counts : (w : List ℕ) → Counts w (contract_of w)
unfolding contract_of
counts w =
    record {
      parties = length_each 0 (word_at w 0) _;
      assets = length_each 0 (word_at w 1) _;
      fields = length_each 0 (word_at w 2) _;
      states = length_each 0 (word_at w 3) _;
      strings = length_each 0 (word_at w 4) _;
      clauses = length_each 0 (word_at w 5) _;
      functions = length_each 0 (word_at w 6) _;
    }

pub scope_is : (w : List ℕ) (v p : ℕ) → scope_at w v p ≡ scope_of (contract_of w) v p
unfolding scope_of scope_at
scope_is w v p =
    let c = counts w in
    λ i. record { parties = sym c.parties i; assets = sym c.assets i; fields = sym c.fields i; strings = sym c.strings i; values = v; parameters = p }

-- how many parameters function i has, and what it may name
pub values_count : (w : List ℕ) (i : ℕ) → length (function_at w i).values ≡ function_word w i 3
unfolding function_at
values_count w i = length_each 0 (function_word w i 3) _

pub parameters_count : (w : List ℕ) (i : ℕ) → length (function_at w i).parameters ≡ function_word w i 4
unfolding function_at
parameters_count w i = length_each 0 (function_word w i 4) _

scope_of_lem : (w : List ℕ) (i : ℕ) → scope_in (contract_of w) (function_at w i) ≡ scope_at w (function_word w i 3) (function_word w i 4)
scope_of_lem w i =
    (λ t. scope_of (contract_of w) (values_count w i t) (parameters_count w i t)) ∙ sym (scope_is w (function_word w i 3) (function_word w i 4))

-- ---- functions and events: those of function i, and of its event j

packed_in : (w : List ℕ) (o n : ℕ) → all_below n (λ j. packed_ok w (o + j * packed_words)) ≡ true
    → every is_name (each_from 0 n (λ j. packed_word w (o + j * packed_words))) ≡ true
unfolding packed_ok
packed_in w o n e =
    every_row is_name n (λ j. packed_word w (o + j * packed_words)) λ j l.
    both_right (leb (word_at w (o + j * packed_words)) max_name) (is_name (packed_word w (o + j * packed_words)))
    (below_at (λ j. packed_ok w (o + j * packed_words)) n e j l)

names_few : (n : ℕ) (l : List Word) → every is_name l ≡ true → length l ≤ n → words_in is_name n l ≡ true
unfolding words_in
names_few n l e h = both_true _ _ e (le-leb _ _ h)

parameters_in : (w : List ℕ) (i : ℕ) → parameters_ok w i ≡ true → (every is_name (function_at w i).values ≡ true) × (every is_name (function_at w i).parameters ≡ true)
unfolding parameters_ok function_at
parameters_in w i e =
    let v = all_below (function_word w i 3) (λ j. packed_ok w (values_of i + j * packed_words)) in
    let p = all_below (function_word w i 4) (λ j. packed_ok w (parameters_of i + j * packed_words)) in
    (packed_in w (values_of i) (function_word w i 3) (both_left v p e), packed_in w (parameters_of i) (function_word w i 4) (both_right v p e))

module _ (w : List ℕ) (t : Passed w) (i : ℕ) (h : i < word_at w 6) where
  right : FunctionPassed w i
  right = function_passed w i (t.functions i h)

  scope_few : (v p : ℕ) → (scope_at w v p).strings ≤ max_strings
  unfolding scope_at
  scope_few v p = t.head.strings

  module _ (j : ℕ) (l : j < function_word w i 9) where
    event_right : EventPassed w (scope_at w (function_word w i 3) (function_word w i 4)) (event_first w i j) (function_word w i 8 + j)
    event_right = event_passed w _ (event_first w i j) (function_word w i 8 + j) (right.nodes.events j l)

    event_nodes : EventHeld w (scope_at w (function_word w i 3) (function_word w i 4)) (event_first w i j) (event_word w (function_word w i 8 + j) 2)
    event_nodes = event_held w _ (scope_few (function_word w i 3) (function_word w i 4)) t.head.strings (event_first w i j) (event_word w (function_word w i 8 + j) 2) event_right.nodes

    pub event_fits : FitsEvent (contract_of w) (function_at w i) (event_at w (function_word w i 8 + j))
    unfolding function_at event_at
    event_fits =
        let n = function_word w i 8 + j in
        let k = event_word w n 2 in
        let e = event_right in
        let x = event_nodes in
        let c = (counts w).states in
        record {
          guard = ap (λ (s : Scope). expression_in s (expression_at w (k - argument_at w k - 1))) (scope_of_lem w i) ∙ x.guard;
          state = omega (arith, e.state);
          handler = ap (λ (s : Scope). block_in s (block_between w (k - argument_at w k) k)) (sym (scope_is w 0 0)) ∙ x.handler.inside;
          handler_few = x.handler.few;
          last = omega (arith, e.last);
        }

    pub event_in_lem : event_in (contract_of w) (function_at w i) (event_at w (function_word w i 8 + j)) ≡ true
    unfolding event_in
    event_in_lem =
        let e = event_fits in
        both_true _ _ e.guard
        (both_true _ _ (lt-ltb _ _ e.state)
        (both_true _ _ e.handler
        (both_true _ _ (le-leb _ _ e.handler_few) (lt-ltb _ _ e.last))))

    -- its nodes
    event_size_lem : event_first w i (suc j) ≡ event_first w i j + event_size (event_at w (function_word w i 8 + j))
    unfolding event_size event_at event_first
    event_size_lem = omega (arith, event_nodes.size)

  precondition_right : (precondition_in (scope_at w (function_word w i 3) (function_word w i 4)) (precondition_at w (function_word w i 5) (function_word w i 6)) ≡ true)
      × (precondition_size (precondition_at w (function_word w i 5) (function_word w i 6)) ≡ function_word w i 6)
  precondition_right = precondition_held w _ (scope_few (function_word w i 3) (function_word w i 4)) (function_word w i 5) (function_word w i 6) right.nodes.precondition

  body_right : BodyHeld w (scope_at w (function_word w i 3) (function_word w i 4)) (function_word w i 5 + function_word w i 6) (function_word w i 5 + function_word w i 6 + function_word w i 7)
  body_right =
      body_held w _ (scope_few (function_word w i 3) (function_word w i 4)) (function_word w i 5 + function_word w i 6) (function_word w i 7) (function_word w i 5 + function_word w i 6 + function_word w i 7) refl
      right.nodes.body

  pub function_fits : FitsFunction (contract_of w) (function_at w i)
  unfolding function_at
  function_fits =
      let r = right in
      let names = parameters_in w i (t.parameters i h) in
      let a = function_word w i 5 in
      let p = function_word w i 6 in
      let d = scope_of_lem w i in
      let c = counts w in
      record {
        state = omega (arith, r.state, c.states);
        party = omega (arith, r.party, c.parties);
        name = name_in w (functions_start + i * function_words + 10) r.name;
        values = names.0;
        values_few = omega (arith, r.values, values_count w i);
        parameters = names.1;
        parameters_few = omega (arith, r.parameters, parameters_count w i);
        precondition = ap (λ (s : Scope). precondition_in s (precondition_at w a p)) d ∙ precondition_right.0;
        body = ap (λ (s : Scope). block_in s (block_between w (a + p) (a + p + function_word w i 7))) d ∙ body_right.inside;
        body_few = body_right.few;
        events = every_each (event_in (contract_of w) (function_at w i)) (function_word w i 8) (function_word w i 9) (event_at w) event_in_lem;
        last = omega (arith, r.last, c.states);
      }

  pub function_in_lem : function_in (contract_of w) (function_at w i) ≡ true
  unfolding function_in
  function_in_lem =
      let f = function_fits in
      both_true _ _ (lt-ltb _ _ f.state)
      (both_true _ _ (lt-ltb _ _ f.party)
      (both_true _ _ f.name
      (both_true _ _ (names_few max_values _ f.values f.values_few)
      (both_true _ _ (names_few max_parameters _ f.parameters f.parameters_few)
      (both_true _ _ f.precondition
      (both_true _ _ f.body
      (both_true _ _ (le-leb _ _ f.body_few)
      (both_true _ _ f.events (lt-ltb _ _ f.last)))))))))

  -- its nodes and its events
  function_size_lem : first_node w (suc i) ≡ first_node w i + function_size (function_at w i)
  unfolding function_size function_at first_node event_first
  function_size_lem =
      let es = each_from (function_word w i 8) (function_word w i 9) (event_at w) in
      let a : function_word w i 5 ≡ first_node w i = right.first in
      let b : function_word w i 5 + function_word w i 6 + function_word w i 7 + total event_size es ≡ event_first w i (function_word w i 9) =
      total_each event_size (function_word w i 8) (function_word w i 9) (event_at w) (event_first w i) event_size_lem in
      omega (arith, events_total es, precondition_right.1, body_right.size)

  function_events : first_event w (suc i) ≡ first_event w i + length (function_at w i).events
  unfolding function_at first_event
  function_events = omega (arith, right.event, length_each (function_word w i 8) (function_word w i 9) (event_at w))

-- ---- clauses

pub clause_fits : (w : List ℕ) (i : ℕ) → clause_ok w i ≡ true → FitsClause (contract_of w) (clause_at w i)
unfolding clause_ok clause_at
clause_fits w i e =
    let n = clause_word w i 2 in
    let o = clauses_start + i * clause_words + 3 in
    let p : ℕ → Bool = λ j. ltb (clause_word w i (3 + j)) (word_at w 2) in
    let c = counts w in
    let t = link (ltb (clause_word w i 0) (word_at w 0) ∷ leb (clause_word w i 1) 1 ∷ leb n max_fields ∷ all_below n p ∷ []) e in
    let a : clause_word w i 0 < word_at w 0 = ltb-true (clause_word w i 0) (word_at w 0) (t 0) in
    let b : n ≤ max_fields = leb-true n max_fields (t 2) in
    record {
      party = omega (arith, c.parties);
      fields =
          every_taken (λ x. ltb x (length (contract_of w).fields)) n o w λ j h.
          let q : o + j ≡ clauses_start + i * clause_words + (3 + j) = omega arith in
          (λ k. ltb (word_at w (q k)) (c.fields k)) ∙ below_at p n (t 3) j h;
      fields_few = omega (arith, taken_few n o w);
    }

pub clause_in_lem : (w : List ℕ) (i : ℕ) → clause_ok w i ≡ true → clause_in (contract_of w) (clause_at w i) ≡ true
unfolding clause_in
clause_in_lem w i e =
    let k = clause_fits w i e in
    both_true _ _ (lt-ltb _ _ k.party) (both_true _ _ k.fields (le-leb _ _ k.fields_few))

party_heard : (w : List ℕ) (n p : ℕ) → clause_below w n p ≡ true → has_clause (each_from 0 n (clause_at w)) p ≡ true
unfolding clause_at
party_heard w n p e =
    below_has w n p e λ i h g.
    has_of (each_from 0 n (clause_at w)) p i (omega (arith, length_each 0 n (clause_at w))) (clause_at w 0)
    (ap (λ (k : Clause). eqb k.party p) (get_or_each 0 n (clause_at w) i (clause_at w 0) h ∙ ap (clause_at w) (zero-add i)) ∙ g)

-- ---- the whole

zero_at : (n i : ℕ) → word_at (zeros n) i ≡ 0
unfolding zeros
zero_at zero i = refl
zero_at (suc n) zero = refl
zero_at (suc n) (suc i) = zero_at n i

names_in : (w : List ℕ) (o n m : ℕ) → n ≤ m → all_below n (λ i. name_ok w (o + i * name_words)) ≡ true → words_in is_name m (each_from 0 n (λ i. word_of w (o + i * name_words))) ≡ true
unfolding words_in
names_in w o n m h e =
    let f : ℕ → Word = λ i. word_of w (o + i * name_words) in
    both_true _ _
    (every_row is_name n f λ j l. name_in w (o + j * name_words) (below_at (λ i. name_ok w (o + i * name_words)) n e j l))
    (le-leb (length (each_from 0 n f)) m (omega (arith, length_each 0 n f)))

strings_in : (w : List ℕ) (o n m : ℕ) → n ≤ m → all_below n (λ i. string_ok w (o + i * string_words)) ≡ true → words_in is_string m (each_from 0 n (λ i. word_of w (o + i * string_words))) ≡ true
unfolding words_in
strings_in w o n m h e =
    let f : ℕ → Word = λ i. word_of w (o + i * string_words) in
    both_true _ _
    (every_row is_string n f λ j l. string_in w (o + j * string_words) (below_at (λ i. string_ok w (o + i * string_words)) n e j l))
    (le-leb (length (each_from 0 n f)) m (omega (arith, length_each 0 n f)))

module _ (w : List ℕ) (t : Passed w) where
  pub nodes_total : total function_size (contract_of w).functions ≡ word_at w 8
  unfolding contract_of first_node
  nodes_total = sym (zero-add _) ∙ total_row function_size (word_at w 6) (function_at w) (first_node w) (function_size_lem w t) ∙ t.nodes

  pub events_all : total event_count (contract_of w).functions ≡ word_at w 7
  unfolding contract_of first_event
  events_all = sym (zero-add _) ∙ total_row event_count (word_at w 6) (function_at w) (first_event w) (function_events w t) ∙ t.events

  contract_fits : fits (contract_of w) ≡ true
  unfolding fits contract_of names_ok
  contract_fits =
      let h = t.head in
      let c = counts w in
      let names =
      link
      (name_ok w name_start
      ∷ all_below (word_at w 0) (λ i. name_ok w (parties_start + i * name_words))
      ∷ all_below (word_at w 1) (λ i. name_ok w (assets_start + i * name_words))
      ∷ all_below (word_at w 2) (λ i. name_ok w (fields_start + i * name_words))
      ∷ all_below (word_at w 3) (λ i. name_ok w (states_start + i * name_words))
      ∷ all_below (word_at w 4) (λ i. string_ok w (strings_start + i * string_words))
      ∷ [])
      t.names in
      both_true _ _ (name_in w name_start (names 0))
      (both_true _ _ (names_in w parties_start (word_at w 0) max_parties h.parties (names 1))
      (both_true _ _ (names_in w assets_start (word_at w 1) max_assets h.assets (names 2))
      (both_true _ _ (names_in w fields_start (word_at w 2) max_fields h.fields (names 3))
      (both_true _ _ (names_in w states_start (word_at w 3) max_states h.states (names 4))
      (both_true _ _ (strings_in w strings_start (word_at w 4) max_strings h.strings (names 5))
      (both_true _ _ (every_row (clause_in (contract_of w)) (word_at w 5) (clause_at w) (λ i l. clause_in_lem w i (t.clauses i l)))
      (both_true _ _ (le-leb (length (contract_of w).clauses) max_clauses (omega (arith, h.clauses, c.clauses)))
      (both_true _ _
      (all_below_lem (has_clause (contract_of w).clauses) (length (contract_of w).parties) λ p l. party_heard w (word_at w 5) p (t.heard p (omega (arith, c.parties))))
      (both_true _ _ (lt-ltb (word_at w 9) (length (contract_of w).states) (omega (arith, h.initial, c.states)))
      (both_true _ _ (every_row (function_in (contract_of w)) (word_at w 6) (function_at w) (function_in_lem w t))
      (both_true _ _ (le-leb (length (contract_of w).functions) max_functions (omega (arith, h.functions, c.functions)))
      (both_true _ _ (le-leb (total event_count (contract_of w).functions) max_events (omega (arith, h.events, events_all)))
      (le-leb (total function_size (contract_of w).functions) max_nodes (omega (arith, h.nodes, nodes_total)))))))))))))))

pub sound : (w : List ℕ) → passes w ≡ true → fits (contract_of w) ≡ true
sound w e = contract_fits w (passed w e)

-- a table of zeros, whatever its length, has no initial state
pub zeros_fail : (n : ℕ) → passes (zeros n) ≡ false
zeros_fail n =
    by_test (passes (zeros n)) (λ t. absurd (none (passed (zeros n) t).head.initial)) λ t. t
  where
    none : word_at (zeros n) 9 < word_at (zeros n) 3 → ⊥
    none h = omega (arith, zero_at n 9, zero_at n 3)
