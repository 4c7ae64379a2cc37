-- The table of a contract that fits passes the check. Assumes nothing.
use mathlib.Core.Path.{◌≡◌, refl, sym, ap, subst, ◌∙◌}
use mathlib.Core.Bool.{true}
use mathlib.Core.List.{List, [], ◌∷◌, ◌++◌}
use Prim.Native.Nat.{ℕ, zero, suc, ◌+◌, ◌-◌, ◌*◌, ◌<◌, ◌≤◌}
use native.Mathlib.Omega.{arith}
use lib.ListN.{length, get_or, take, length-append, get_or-append}
use lib.Seq.{take-length}
use lib.Dec.{eqb, leb, ltb}
use borrow.Author.Tests.{lt-ltb, le-leb, eq-eqb, ltb-true}
use Rattle.laws.proofs.Choice.{true_false}
use Rattle.tokens.specs.Classes.{is_letter, is_name_byte, is_string_byte}
use Rattle.contract.specs.Limits.{max_statements, max_name, max_string, max_fields, max_nodes, max_events, max_values, max_parameters, max_parties, max_assets, max_states, max_strings, max_clauses, max_functions}
use Rattle.contract.specs.Tree.{Word, clock, none, Block, Precondition, omitted, given, Event, Function, Verb, set, ok, Clause, Contract}
use Rattle.contract.specs.Sizes.{expression_size, condition_size, block_size, precondition_size, event_size, function_size, statements}
use Rattle.contract.specs.Fits.{total, is_name, is_string, Scope, expression_in, block_in, precondition_in, scope_of, scope_in, event_in, function_in, clause_in, has_clause, fits}
use Rattle.laws.proofs.Members.{every_at}
use Rattle.laws.proofs.Truths.{link, both_true, second_true}
use Rattle.laws.specs.Lists.{every, all_below}
use Rattle.contract.specs.Table.{word_at, kind_at, argument_at, size_at, function_word, event_word, clause_word, name_words, string_words, clause_words, function_words, packed_words, clauses_start, functions_start, events_start, table_length, event_kind}
use Rattle.contract.specs.Encode.{zeros, padded, node, expression_nodes, block_nodes, precondition_nodes, event_nodes, function_nodes, joined, name_row, string_row, packed_row, verb_word, clause_row, function_row, head_row, encode}
use Rattle.contract.specs.Check.{name_ok, string_ok, packed_ok, parameters_ok, clause_below, expression, is_sort, nodes_ok, node_ok, statements_in, scope_at, precondition_ok, body_ok, event_nodes_ok, event_ok, event_first, first_node, first_event, function_nodes_ok, function_ok, clause_ok, head_ok, names_ok, passes}
use Rattle.contract_laws.proofs.Stands.{Stands, second_part, moved, first_word}
use Rattle.contract.proofs.Fitting.{name_length, FitsClause, FitsEvent, FitsFunction, FitsContract, fits_clause, fits_event, fits_function, fits_contract}
use Rattle.contract_laws.proofs.Lengths.{length_name_row, length_packed_row, length_string_row, length_expression, length_block, length_precondition, length_event, expression_some}
use Rattle.contract_laws.proofs.Sections.{joined_row, Nodes, NodeIs, node_is, joined_nodes, event_count, events_total, event_row_lem, events_first, clause_long, head_stands, name_stands, parties_stand, assets_stand, fields_stand, states_stand, strings_stand, clauses_stand, length_encode, FunctionStands, function_stands}
use Rattle.contract.proofs.Tests.{ranges_true, below_of}
use Rattle.laws.proofs.Members.{all_below_lem, below_at}
use Rattle.contract_laws.proofs.Regions.{Region, Rows, rows, ended_ok}
use Rattle.contract_laws.proofs.Packing.{packed_read}
use Rattle.contract_laws.proofs.PartyClauses.{has_at}
use Rattle.contract_laws.proofs.Formed.{expression_formed, condition_formed, block_formed}

-- ---- names and strings

pub name_ok_lem : {w : List ℕ} {o : ℕ} (n : Word) → is_name n ≡ true → Stands w o (name_row n) → name_ok w o ≡ true
unfolding is_name name_row padded name_ok
name_ok_lem [] e s = true_false (sym e)
name_ok_lem {w} {o} (x ∷ xs) e s =
    let t = link (is_letter x ∷ every is_name_byte xs ∷ ltb (length xs) max_name ∷ []) e in
    let z = zeros (max_name - length (x ∷ xs)) in
    let l : word_at w o ≡ suc (length xs) = first_word (suc (length xs)) ((x ∷ xs) ++ z) s in
    let m : suc (length xs) ≤ max_name = ltb-true _ _ (t 2) in
    let a : word_at w (o + 1) ≡ x = s.word 1 (omega arith) in
    both_true _ _ (ranges_true 1 (word_at w o) max_name (omega arith) (omega arith))
    (both_true _ _ (ap is_letter a ∙ t 0)
    (all_below_lem (λ j. is_name_byte (word_at w (o + 2 + j))) (word_at w o - 1) λ j h.
    let i : o + 2 + j ≡ o + suc (suc j) = omega arith in
    let q : j < length xs = omega arith in
    ap (λ (i : ℕ). is_name_byte (get_or w i 0)) i
    ∙ ap is_name_byte (s.word (suc (suc j)) (simp length-append (omega arith)) ∙ get_or-append xs z 0 j q)
    ∙ every_at is_name_byte xs (t 1) j q 0))

pub string_ok_lem : {w : List ℕ} {o : ℕ} (n : Word) → is_string n ≡ true → Stands w o (string_row n) → string_ok w o ≡ true
unfolding is_string string_row padded string_ok
string_ok_lem {w} {o} n e s =
    let t = link (every is_string_byte n ∷ leb (length n) max_string ∷ []) e in
    let z = zeros (max_string - length n) in
    let l : word_at w o ≡ length n = first_word (length n) (n ++ z) s in
    both_true _ _ (ap (λ (i : ℕ). leb i max_string) l ∙ t 1)
    (all_below_lem (λ j. is_string_byte (word_at w (o + 1 + j))) (word_at w o) λ j h.
    let i : o + 1 + j ≡ o + suc j = omega arith in
    let q : j < length n = omega arith in
    ap (λ (i : ℕ). is_string_byte (get_or w i 0)) i
    ∙ ap is_string_byte (s.word (suc j) (simp length-append (omega arith)) ∙ get_or-append n z 0 j q)
    ∙ every_at is_string_byte n (t 0) j q 0)

-- rows of them
pub names_ok_lem : {w : List ℕ} {o n : ℕ} (l : List Word) → every is_name l ≡ true → Stands w o (joined name_row l) → n ≡ length l
    → all_below n (λ i. name_ok w (o + i * name_words)) ≡ true
names_ok_lem {w} {o} {n} l e s q =
    all_below_lem (λ i. name_ok w (o + i * name_words)) n λ i h.
    let k : i < length l = omega arith in
    name_ok_lem (get_or l i []) (every_at is_name l e i k []) (joined_row name_row is_name name_words length_name_row l e s i k [])

pub strings_ok : {w : List ℕ} {o n : ℕ} (l : List Word) → every is_string l ≡ true → Stands w o (joined string_row l) → n ≡ length l
    → all_below n (λ i. string_ok w (o + i * string_words)) ≡ true
strings_ok {w} {o} {n} l e s q =
    all_below_lem (λ i. string_ok w (o + i * string_words)) n λ i h.
    let k : i < length l = omega arith in
    string_ok_lem (get_or l i []) (every_at is_string l e i k []) (joined_row string_row is_string string_words length_string_row l e s i k [])

-- a name in a packed row, and rows of them
packed_ok_lem : {w : List ℕ} {o : ℕ} (n : Word) → is_name n ≡ true → Stands w o (packed_row n) → packed_ok w o ≡ true
unfolding packed_ok packed_row
packed_ok_lem {w} {o} n e s =
    let l : word_at w o ≡ length n = first_word (length n) _ s in
    both_true _ _ (le-leb (word_at w o) max_name (omega (arith, name_length n e))) (ap is_name (packed_read n o e s) ∙ e)

packed_rows_ok : {w : List ℕ} {o n : ℕ} (l : List Word) → every is_name l ≡ true → Stands w o (joined packed_row l) → n ≡ length l
    → all_below n (λ j. packed_ok w (o + j * packed_words)) ≡ true
packed_rows_ok {w} {o} {n} l e s q =
    all_below_lem (λ j. packed_ok w (o + j * packed_words)) n λ j h.
    let k : j < length l = omega arith in
    packed_ok_lem (get_or l j []) (every_at is_name l e j k []) (joined_row packed_row is_name packed_words length_packed_row l e s j k [])

-- ---- nodes of a function

nodes_ok_lem : {w : List ℕ} {s : Scope} {k n t : ℕ} → Region w s k k n t → t ≤ max_statements → nodes_ok w s k n ≡ true
unfolding nodes_ok
nodes_ok_lem {w} {s} {k} {n} {t} r h =
    let e : statements_in w k n ≡ t = r.counted in
    both_true _ _ (all_below_lem (λ j. node_ok w s k (k + j)) n r.each) (le-leb (statements_in w k n) max_statements (omega arith))

precondition_ok_lem : {w : List ℕ} (s : Scope) (k : ℕ) (p : Precondition) → Nodes w k (precondition_nodes p) → precondition_in s p ≡ true
    → precondition_ok w s k (precondition_size p) ≡ true
unfolding precondition_nodes precondition_in precondition_size precondition_ok
precondition_ok_lem s k omitted d e = refl
precondition_ok_lem {w} s k (given t) d e =
    let n = condition_size t in
    let h : k ≤ k = omega arith in
    let f = condition_formed k t h d e in
    second_true (eqb n 0)
    (both_true _ _ f.part.sorted (both_true _ _ (eq-eqb (size_at w (k + n - 1)) n f.part.sized) (nodes_ok_lem f.region (omega arith))))

body_ok_lem : {w : List ℕ} (s : Scope) (k : ℕ) (b : Block) → Nodes w k (block_nodes b) → block_in s b ≡ true → statements b ≤ max_statements
    → body_ok w s k (block_size b) ≡ true
unfolding body_ok
body_ok_lem s k b d e h =
    let l : k ≤ k = omega arith in
    let f = block_formed k b l d e in
    both_true _ _ (ended_ok f.ended) (nodes_ok_lem f.region h)

-- what an event asks of its own node k, whose handler has h nodes
event_nodes_ok_lem : {w : List ℕ} (s : Scope) (first : ℕ) (e : Event) → Nodes w first (event_nodes e) → expression_in s e.guard ≡ true
    → block_in (scope_at w 0 0) e.handler ≡ true → statements e.handler ≤ max_statements → first + event_size e ≤ word_at w 8
    → event_nodes_ok w s first (first + event_size e - 1) ≡ true
unfolding event_nodes event_size event_nodes_ok
event_nodes_ok_lem {w} s first e d i j u v =
    let g = expression_size e.guard in
    let b = block_size e.handler in
    let k = first + (g + b + 1) - 1 in
    let r = rows first g b (expression_nodes e.guard) (block_nodes e.handler) (node event_kind b (g + b + 1)) (length_expression e.guard) (length_block e.handler) d in
    let q : first + (g + b) ≡ k = omega arith in
    let o : NodeIs w k event_kind b (g + b + 1) = subst (λ (z : ℕ). NodeIs w z event_kind b (g + b + 1)) q (node_is (first + (g + b)) _ _ _ r.rest) in
    let h : argument_at w k ≡ b = o.argument in
    let z : size_at w k ≡ g + b + 1 = o.size in
    let l : first ≤ first = omega arith in
    let f = expression_formed first e.guard l r.first i in
    let m : 1 ≤ g = expression_some e.guard in
    let a : k - argument_at w k ≡ first + g = omega arith in
    let c : first + g - 1 ≡ k - argument_at w k - 1 = omega arith in
    let y : size_at w (k - argument_at w k - 1) ≡ g = subst (λ (t : ℕ). size_at w t ≡ g) c f.part.sized in
    let n : g ≡ k - argument_at w k - first = omega arith in
    both_true _ _ (lt-ltb k (word_at w 8) (omega arith))
    (both_true _ _ (eq-eqb (kind_at w k) event_kind o.kind)
    (both_true _ _ (eq-eqb (size_at w k + first) (k + 1) (omega arith))
    (both_true _ _ (le-leb (argument_at w k) k (omega arith))
    (both_true _ _ (lt-ltb first (k - argument_at w k) (omega arith))
    (both_true _ _ (subst (λ (t : ℕ). is_sort expression (kind_at w t) ≡ true) c f.part.sorted)
    (both_true _ _ (eq-eqb (size_at w (k - argument_at w k - 1) + first) (k - argument_at w k) (omega arith))
    (both_true _ _ (subst (λ (t : ℕ). nodes_ok w s first t ≡ true) n (nodes_ok_lem f.region (omega arith)))
    ((λ t. body_ok w (scope_at w 0 0) (a t) (h t)) ∙ body_ok_lem (scope_at w 0 0) (first + g) e.handler r.second j u))))))))

-- ---- totals

total_more : {A : Type 0} (f : A → ℕ) (l : List A) (j : ℕ) → j < length l → (d : A) → total f (take (suc j) l) ≡ total f (take j l) + f (get_or l j d)
unfolding total
total_more f [] j h d = absurd (omega arith)
total_more f (x ∷ l) zero h d = omega arith
total_more f (x ∷ l) (suc j) h d = omega (arith, total_more f l j (omega arith) d)

total_some : {A : Type 0} (f : A → ℕ) (l : List A) (j : ℕ) → total f (take j l) ≤ total f l
unfolding total
total_some f l zero = omega arith
total_some f [] (suc j) = omega arith
total_some f (x ∷ l) (suc j) = omega (arith, total_some f l j)

-- ---- the words of a row

pub record FunctionIs (w : List ℕ) (i first event : ℕ) (f : Function) : Type 0 where
  pub state : function_word w i 0 ≡ f.state
  pub party : function_word w i 1 ≡ f.party
  pub last : function_word w i 2 ≡ f.last
  pub values : function_word w i 3 ≡ length f.values
  pub parameters : function_word w i 4 ≡ length f.parameters
  pub first_is : function_word w i 5 ≡ first
  pub precondition : function_word w i 6 ≡ precondition_size f.precondition
  pub body : function_word w i 7 ≡ block_size f.body
  pub event_is : function_word w i 8 ≡ event
  pub events : function_word w i 9 ≡ length f.events
  pub name : Stands w (functions_start + i * function_words + 10) (name_row f.name)

function_is : {w : List ℕ} (i first event : ℕ) (f : Function) → Stands w (functions_start + i * function_words) (function_row first event f) → FunctionIs w i first event f
unfolding function_row
function_is i first event f s =
    record {
      state = s.word 0 (omega arith);
      party = s.word 1 (omega arith);
      last = s.word 2 (omega arith);
      values = s.word 3 (omega arith);
      parameters = s.word 4 (omega arith);
      first_is = s.word 5 (omega arith);
      precondition = s.word 6 (omega arith);
      body = s.word 7 (omega arith);
      event_is = s.word 8 (omega arith);
      events = s.word 9 (omega arith);
      name =
          second_part
          (f.state ∷ f.party ∷ f.last ∷ length f.values ∷ length f.parameters ∷ first ∷ precondition_size f.precondition ∷ block_size f.body ∷ event ∷ length f.events ∷ [])
          (name_row f.name) s;
    }

pub record HeadIs (w : List ℕ) (c : Contract) : Type 0 where
  pub parties : word_at w 0 ≡ length c.parties
  pub assets : word_at w 1 ≡ length c.assets
  pub fields : word_at w 2 ≡ length c.fields
  pub states : word_at w 3 ≡ length c.states
  pub strings : word_at w 4 ≡ length c.strings
  pub clauses : word_at w 5 ≡ length c.clauses
  pub functions : word_at w 6 ≡ length c.functions
  pub events : word_at w 7 ≡ total event_count c.functions
  pub nodes : word_at w 8 ≡ total function_size c.functions
  pub initial : word_at w 9 ≡ c.initial

head_is : {w : List ℕ} (c : Contract) → Stands w 0 (head_row c) → HeadIs w c
unfolding head_row
head_is c s =
    record {
      parties = s.word 0 (omega arith);
      assets = s.word 1 (omega arith);
      fields = s.word 2 (omega arith);
      states = s.word 3 (omega arith);
      strings = s.word 4 (omega arith);
      clauses = s.word 5 (omega arith);
      functions = s.word 6 (omega arith);
      events = s.word 7 (omega arith);
      nodes = s.word 8 (omega arith);
      initial = s.word 9 (omega arith);
    }

scope_is : {w : List ℕ} {c : Contract} → HeadIs w c → (v p : ℕ) → scope_at w v p ≡ scope_of c v p
unfolding scope_at scope_of
scope_is h v p =
    λ i. record { parties = h.parties i; assets = h.assets i; fields = h.fields i; strings = h.strings i; values = v; parameters = p }

-- ---- events

-- what stands past the end of a list is not looked at
abbrev no_event : Event
no_event = record { guard = clock; state = 0; handler = none; last = 0 }

event_some : (e : Event) → 1 ≤ event_size e
unfolding event_size
event_some e = omega arith

-- event i, whose first node has this number
record EventIs (w : List ℕ) (i first : ℕ) (e : Event) : Type 0 where
  state : event_word w i 0 ≡ e.state
  last : event_word w i 1 ≡ e.last
  node_is : event_word w i 2 ≡ first + event_size e - 1
  nodes : Nodes w first (event_nodes e)

event_ok_lem : {w : List ℕ} {c : Contract} {f : Function} (i first : ℕ) (e : Event) → HeadIs w c → EventIs w i first e → FitsEvent c f e
    → first + event_size e ≤ word_at w 8 → event_ok w (scope_in c f) first i ≡ true
unfolding event_ok
event_ok_lem {w} {c} {f} i first e h x g l =
    let s = scope_in c f in
    let d : e.state < length c.states = g.state in
    let k : e.last < length c.states = g.last in
    both_true _ _ (lt-ltb (event_word w i 0) (word_at w 3) (omega arith))
    (both_true _ _ (lt-ltb (event_word w i 1) (word_at w 3) (omega arith))
    (ap (event_nodes_ok w s first) x.node_is
    ∙ event_nodes_ok_lem s first e x.nodes g.guard (ap (λ (z : Scope). block_in z e.handler) (scope_is h 0 0) ∙ g.handler) g.handler_few l))

module _ {w : List ℕ} {i first event : ℕ} {f : Function} (x : FunctionIs w i first event f) (s : FunctionStands w i first event f) where
  parts_stand : Rows w first (precondition_size f.precondition) (block_size f.body) (precondition_nodes f.precondition) (block_nodes f.body) (joined event_nodes f.events)
  unfolding function_nodes
  parts_stand =
      rows first (precondition_size f.precondition) (block_size f.body) (precondition_nodes f.precondition) (block_nodes f.body) (joined event_nodes f.events)
      (length_precondition f.precondition) (length_block f.body) s.nodes

  -- event j of the function
  event_is : (j : ℕ) → j < length f.events → EventIs w (event + j) (events_first first f + total event_size (take j f.events)) (get_or f.events j no_event)
  event_is j h =
      let es = f.events in
      let q : events_start + event * 3 + j * 3 ≡ events_start + (event + j) * 3 = omega arith in
      let r = moved q (event_row_lem (events_first first f) es s.events j h no_event) in
      record {
        state = r.word 0 (omega arith);
        last = r.word 1 (omega arith);
        node_is = r.word 2 (omega arith);
        nodes = joined_nodes (events_first first f) event_nodes event_size length_event es (moved (omega arith) parts_stand.rest) j h no_event;
      }

  event_first_lem : (j : ℕ) → j ≤ length f.events → event_first w i j ≡ events_first first f + total event_size (take j f.events)
  unfolding event_first total
  event_first_lem zero h = omega arith
  event_first_lem (suc j) h =
      let e = event_is j h in
      let z = get_or f.events j no_event in
      ap (λ (n : ℕ). event_word w (n + j) 2 + 1) x.event_is
      ∙ omega (arith, e.node_is, event_some z, total_more event_size f.events j h no_event)

  -- all of them
  events_first_lem : event_first w i (function_word w i 9) ≡ first + function_size f
  unfolding function_size
  events_first_lem =
      let l : length f.events ≤ length f.events = omega arith in
      ap (event_first w i) x.events
      ∙ event_first_lem (length f.events) l
      ∙ ap (λ (es : List Event). events_first first f + total event_size es) (take-length f.events)
      ∙ omega (arith, events_total f.events)

  module _ {c : Contract} (h : HeadIs w c) (g : FitsFunction c f) (room : first + function_size f ≤ word_at w 8) (few : word_at w 8 ≤ max_nodes)
      (most : length f.events ≤ max_events) where
    each_event : (j : ℕ) → j < function_word w i 9 → event_ok w (scope_in c f) (event_first w i j) (function_word w i 8 + j) ≡ true
    unfolding function_size
    each_event j l =
        let q : j < length f.events = omega arith in
        let e = get_or f.events j no_event in
        (λ t. event_ok w (scope_in c f) (event_first_lem j (omega arith) t) (x.event_is t + j))
        ∙ event_ok_lem (event + j) (events_first first f + total event_size (take j f.events)) e h (event_is j q)
        (fits_event c f e (every_at (event_in c f) f.events g.events j q no_event))
        (omega (arith, total_more event_size f.events j q no_event, total_some event_size f.events (suc j), events_total f.events))

    function_nodes_ok_lem : function_nodes_ok w (scope_in c f) i ≡ true
    unfolding function_nodes_ok function_size
    function_nodes_ok_lem =
        let z = scope_in c f in
        let p = precondition_size f.precondition in
        let b = block_size f.body in
        both_true _ _ (le-leb (function_word w i 6) max_nodes (omega arith))
        (both_true _ _ (le-leb (function_word w i 7) max_nodes (omega arith))
        (both_true _ _ (le-leb (function_word w i 9) max_events (omega arith))
        (both_true _ _ (le-leb (function_word w i 5 + function_word w i 6 + function_word w i 7) (word_at w 8) (omega arith))
        (both_true _ _ ((λ t. precondition_ok w z (x.first_is t) (x.precondition t)) ∙ precondition_ok_lem z first f.precondition parts_stand.first g.precondition)
        (both_true _ _ ((λ t. body_ok w z (x.first_is t + x.precondition t) (x.body t)) ∙ body_ok_lem z (first + p) f.body parts_stand.second g.body g.body_few)
        (all_below_lem (λ j. event_ok w z (event_first w i j) (function_word w i 8 + j)) (function_word w i 9) each_event))))))

    function_ok_lem : first_node w i ≡ first → first_event w i ≡ event → function_ok w i ≡ true
    unfolding function_ok
    function_ok_lem d e =
        let a : f.state < length c.states = g.state in
        let b : f.party < length c.parties = g.party in
        let k : f.last < length c.states = g.last in
        both_true _ _ (lt-ltb (function_word w i 0) (word_at w 3) (omega arith))
        (both_true _ _ (lt-ltb (function_word w i 1) (word_at w 0) (omega arith))
        (both_true _ _ (lt-ltb (function_word w i 2) (word_at w 3) (omega arith))
        (both_true _ _ (le-leb (function_word w i 3) max_values (omega (arith, g.values_few)))
        (both_true _ _ (le-leb (function_word w i 4) max_parameters (omega (arith, g.parameters_few)))
        (both_true _ _ (name_ok_lem f.name g.name x.name)
        (both_true _ _ (eq-eqb (function_word w i 5) (first_node w i) (x.first_is ∙ sym d))
        (both_true _ _ (eq-eqb (function_word w i 8) (first_event w i) (x.event_is ∙ sym e))
        (ap (λ (z : Scope). function_nodes_ok w z i) ((λ t. scope_at w (x.values t) (x.parameters t)) ∙ scope_is h (length f.values) (length f.parameters))
        ∙ function_nodes_ok_lem))))))))

parameters_ok_lem : {w : List ℕ} {i first event : ℕ} {c : Contract} {f : Function} → FunctionIs w i first event f → FunctionStands w i first event f → FitsFunction c f → parameters_ok w i ≡ true
unfolding parameters_ok
parameters_ok_lem {f = f} x s g =
    both_true _ _ (packed_rows_ok f.values g.values s.values x.values) (packed_rows_ok f.parameters g.parameters s.parameters x.parameters)

-- ---- clauses

verb_few : (v : Verb) → verb_word v ≤ 1
verb_few set = omega arith
verb_few ok = omega arith

clause_ok_lem : {w : List ℕ} {c : Contract} (i : ℕ) (k : Clause) → HeadIs w c → FitsClause c k → Stands w (clauses_start + i * clause_words) (clause_row k) → clause_ok w i ≡ true
unfolding clause_row clause_ok padded
clause_ok_lem {w} {c} i k h g s =
    let z = zeros (max_fields - length k.fields) in
    let a : clause_word w i 0 ≡ k.party = s.word 0 (omega arith) in
    let b : clause_word w i 1 ≡ verb_word k.verb = s.word 1 (omega arith) in
    let d : clause_word w i 2 ≡ length k.fields = s.word 2 (omega arith) in
    let p : k.party < length c.parties = g.party in
    both_true _ _ (lt-ltb (clause_word w i 0) (word_at w 0) (omega arith))
    (both_true _ _ (le-leb (clause_word w i 1) 1 (omega (arith, verb_few k.verb)))
    (both_true _ _ (le-leb (clause_word w i 2) max_fields (omega (arith, g.fields_few)))
    (all_below_lem (λ j. ltb (clause_word w i (3 + j)) (word_at w 2)) (clause_word w i 2) λ j l.
    let e : clauses_start + i * clause_words + (3 + j) ≡ clauses_start + i * clause_words + suc (suc (suc j)) = omega arith in
    let q : j < length k.fields = omega arith in
    let v : word_at w (clauses_start + i * clause_words + (3 + j)) ≡ get_or k.fields j 0 =
    ap (λ (n : ℕ). word_at w n) e ∙ s.word (suc (suc (suc j))) (simp length-append (omega arith)) ∙ get_or-append k.fields z 0 j q in
    (λ t. ltb (v t) (h.fields t)) ∙ every_at (λ x. ltb x (length c.fields)) k.fields g.fields j q 0)))

-- ---- the whole

abbrev no_function : Function
no_function = record { state = 0; party = 0; name = []; values = []; parameters = []; precondition = omitted; body = none; events = []; last = 0 }

abbrev no_clause : Clause
no_clause = record { party = 0; verb = set; fields = [] }

module _ (c : Contract) (h : FitsContract c) where
  -- function i, its first node and its first event
  function_here : (i : ℕ) (l : i < length c.functions) → FunctionIs (encode c) i (total function_size (take i c.functions)) (total event_count (take i c.functions)) (get_or c.functions i no_function)
  function_here i l = function_is i _ _ (get_or c.functions i no_function) (function_stands c h i l no_function).row

  first_node_lem : (i : ℕ) → i ≤ length c.functions → first_node (encode c) i ≡ total function_size (take i c.functions)
  unfolding first_node total
  first_node_lem zero l = refl
  first_node_lem (suc i) l =
      events_first_lem (function_here i l) (function_stands c h i l no_function) ∙ sym (total_more function_size c.functions i l no_function)

  first_event_lem : (i : ℕ) → i ≤ length c.functions → first_event (encode c) i ≡ total event_count (take i c.functions)
  unfolding first_event total
  first_event_lem zero l = refl
  first_event_lem (suc i) l =
      let x = function_here i l in
      (λ t. x.event_is t + x.events t) ∙ sym (total_more event_count c.functions i l no_function)

  head : HeadIs (encode c) c
  head = head_is c (head_stands c h)

  function_right : (i : ℕ) → i < word_at (encode c) 6 → function_ok (encode c) i ≡ true
  function_right i l =
      let w = encode c in
      let o = head in
      let fs = c.functions in
      let q : i < length fs = omega arith in
      let f = get_or fs i no_function in
      let a = total_more function_size fs i q no_function in
      let b = total_more event_count fs i q no_function in
      function_ok_lem (function_here i q) (function_stands c h i q no_function) o (fits_function c f (every_at (function_in c) fs h.functions i q no_function))
      (omega (arith, total_some function_size fs (suc i))) (omega (arith, h.nodes_few)) (omega (arith, total_some event_count fs (suc i), h.events_few))
      (first_node_lem i (omega arith)) (first_event_lem i (omega arith))

  parameters_right : (i : ℕ) → i < word_at (encode c) 6 → parameters_ok (encode c) i ≡ true
  parameters_right i l =
      let o = head in
      let fs = c.functions in
      let q : i < length fs = omega arith in
      parameters_ok_lem (function_here i q) (function_stands c h i q no_function) (fits_function c (get_or fs i no_function) (every_at (function_in c) fs h.functions i q no_function))

  head_right : head_ok (encode c) ≡ true
  unfolding head_ok
  head_right =
      let w = encode c in
      let o = head in
      both_true _ _ (le-leb (word_at w 0) max_parties (omega (arith, h.parties_few)))
      (both_true _ _ (le-leb (word_at w 1) max_assets (omega (arith, h.assets_few)))
      (both_true _ _ (le-leb (word_at w 2) max_fields (omega (arith, h.fields_few)))
      (both_true _ _ (le-leb (word_at w 3) max_states (omega (arith, h.states_few)))
      (both_true _ _ (le-leb (word_at w 4) max_strings (omega (arith, h.strings_few)))
      (both_true _ _ (le-leb (word_at w 5) max_clauses (omega (arith, h.clauses_few)))
      (both_true _ _ (le-leb (word_at w 6) max_functions (omega (arith, h.functions_few)))
      (both_true _ _ (le-leb (word_at w 7) max_events (omega (arith, h.events_few)))
      (both_true _ _ (le-leb (word_at w 8) max_nodes (omega (arith, h.nodes_few)))
      (lt-ltb (word_at w 9) (word_at w 3) (omega (arith, h.initial)))))))))))

  names_right : names_ok (encode c) ≡ true
  unfolding names_ok
  names_right =
      both_true _ _ (name_ok_lem c.name h.name (name_stands c h))
      (both_true _ _ (names_ok_lem c.parties h.parties (parties_stand c h) head.parties)
      (both_true _ _ (names_ok_lem c.assets h.assets (assets_stand c h) head.assets)
      (both_true _ _ (names_ok_lem c.fields h.fields (fields_stand c h) head.fields)
      (both_true _ _ (names_ok_lem c.states h.states (states_stand c h) head.states)
      (strings_ok c.strings h.strings (strings_stand c h) head.strings)))))

  clause_right : (i : ℕ) → i < word_at (encode c) 5 → clause_ok (encode c) i ≡ true
  clause_right i l =
      let o = head in
      let ks = c.clauses in
      let q : i < length ks = omega arith in
      clause_ok_lem i (get_or ks i no_clause) o (fits_clause c (get_or ks i no_clause) (every_at (clause_in c) ks h.clauses i q no_clause))
      (joined_row clause_row (clause_in c) clause_words (clause_long c) ks h.clauses (clauses_stand c h) i q no_clause)

  -- a party's clause
  heard : (p : ℕ) → p < word_at (encode c) 0 → clause_below (encode c) (word_at (encode c) 5) p ≡ true
  unfolding clause_row
  heard p l =
      let o = head in
      let ks = c.clauses in
      has_at ks p no_clause (below_at (has_clause ks) (length c.parties) h.heard p (omega arith)) λ i q e.
      let s = joined_row clause_row (clause_in c) clause_words (clause_long c) ks h.clauses (clauses_stand c h) i q no_clause in
      let a : clause_word (encode c) i 0 ≡ (get_or ks i no_clause).party = s.word 0 (omega arith) in
      below_of (encode c) p (word_at (encode c) 5) i (omega arith) (ap (λ (n : ℕ). eqb n p) a ∙ e)

  table_passes : passes (encode c) ≡ true
  unfolding passes
  table_passes =
      let w = encode c in
      let fs = c.functions in
      let l : length fs ≤ length fs = omega arith in
      both_true _ _ (eq-eqb (length w) table_length (length_encode c h))
      (both_true _ _ head_right
      (both_true _ _ names_right
      (both_true _ _ (all_below_lem (clause_ok w) (word_at w 5) clause_right)
      (both_true _ _ (all_below_lem (clause_below w (word_at w 5)) (word_at w 0) heard)
      (both_true _ _ (all_below_lem (function_ok w) (word_at w 6) function_right)
      (both_true _ _
      (eq-eqb (first_node w (word_at w 6)) (word_at w 8)
      (ap (first_node w) head.functions ∙ first_node_lem (length fs) l ∙ ap (total function_size) (take-length fs) ∙ sym head.nodes))
      (both_true _ _
      (eq-eqb (first_event w (word_at w 6)) (word_at w 7)
      (ap (first_event w) head.functions ∙ first_event_lem (length fs) l ∙ ap (total event_count) (take-length fs) ∙ sym head.events))
      (all_below_lem (parameters_ok w) (word_at w 6) parameters_right))))))))

pub passing : (c : Contract) → fits c ≡ true → passes (encode c) ≡ true
passing c e = table_passes c (fits_contract c e)
