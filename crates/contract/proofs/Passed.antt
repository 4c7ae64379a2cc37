-- What the check says of each part of a table that passes, by name. Assumes nothing.
use mathlib.Core.Path.{◌≡◌}
use mathlib.Core.Bool.{Bool, true}
use mathlib.Core.List.{List, [], ◌∷◌}
use Prim.Native.Nat.{ℕ, ◌+◌, ◌*◌, ◌<◌, ◌≤◌}
use lib.Dec.{eqb, leb, ltb}
use borrow.Author.Tests.{ltb-true, leb-true, eqb-true}
use Rattle.laws.specs.Lists.{all_below}
use Rattle.laws.proofs.Truths.{link}
use Rattle.laws.proofs.Members.{below_at}
use Rattle.contract.specs.Limits.{max_parties, max_assets, max_fields, max_states, max_strings, max_clauses, max_functions, max_events, max_nodes, max_values, max_parameters}
use Rattle.contract.specs.Fits.{Scope}
use Rattle.contract.specs.Table.{word_at, function_word, event_word, functions_start, function_words}
use Rattle.contract.specs.Check.{name_ok, scope_at, precondition_ok, body_ok, event_nodes_ok, event_ok, event_first, first_node, first_event, function_nodes_ok, function_ok, head_ok}

pub record HeadPassed (w : List ℕ) : Type 0 where
  pub parties : word_at w 0 ≤ max_parties
  pub assets : word_at w 1 ≤ max_assets
  pub fields : word_at w 2 ≤ max_fields
  pub states : word_at w 3 ≤ max_states
  pub strings : word_at w 4 ≤ max_strings
  pub clauses : word_at w 5 ≤ max_clauses
  pub functions : word_at w 6 ≤ max_functions
  pub events : word_at w 7 ≤ max_events
  pub nodes : word_at w 8 ≤ max_nodes
  pub initial : word_at w 9 < word_at w 3

pub head_passed : (w : List ℕ) → head_ok w ≡ true → HeadPassed w
unfolding head_ok
head_passed w e =
    let t =
    link
    (leb (word_at w 0) max_parties
    ∷ leb (word_at w 1) max_assets
    ∷ leb (word_at w 2) max_fields
    ∷ leb (word_at w 3) max_states
    ∷ leb (word_at w 4) max_strings
    ∷ leb (word_at w 5) max_clauses
    ∷ leb (word_at w 6) max_functions
    ∷ leb (word_at w 7) max_events
    ∷ leb (word_at w 8) max_nodes
    ∷ ltb (word_at w 9) (word_at w 3)
    ∷ [])
    e in
    record {
      parties = leb-true (word_at w 0) max_parties (t 0);
      assets = leb-true (word_at w 1) max_assets (t 1);
      fields = leb-true (word_at w 2) max_fields (t 2);
      states = leb-true (word_at w 3) max_states (t 3);
      strings = leb-true (word_at w 4) max_strings (t 4);
      clauses = leb-true (word_at w 5) max_clauses (t 5);
      functions = leb-true (word_at w 6) max_functions (t 6);
      events = leb-true (word_at w 7) max_events (t 7);
      nodes = leb-true (word_at w 8) max_nodes (t 8);
      initial = ltb-true (word_at w 9) (word_at w 3) (t 9);
    }

pub record NodesPassed (w : List ℕ) (s : Scope) (i : ℕ) : Type 0 where
  pub few : function_word w i 9 ≤ max_events
  pub room : function_word w i 5 + function_word w i 6 + function_word w i 7 ≤ word_at w 8
  pub precondition : precondition_ok w s (function_word w i 5) (function_word w i 6) ≡ true
  pub body : body_ok w s (function_word w i 5 + function_word w i 6) (function_word w i 7) ≡ true
  pub events : (j : ℕ) → j < function_word w i 9 → event_ok w s (event_first w i j) (function_word w i 8 + j) ≡ true

nodes_passed : (w : List ℕ) (s : Scope) (i : ℕ) → function_nodes_ok w s i ≡ true → NodesPassed w s i
unfolding function_nodes_ok
nodes_passed w s i e =
    let p : ℕ → Bool = λ j. event_ok w s (event_first w i j) (function_word w i 8 + j) in
    let t =
    link
    (leb (function_word w i 6) max_nodes
    ∷ leb (function_word w i 7) max_nodes
    ∷ leb (function_word w i 9) max_events
    ∷ leb (function_word w i 5 + function_word w i 6 + function_word w i 7) (word_at w 8)
    ∷ precondition_ok w s (function_word w i 5) (function_word w i 6)
    ∷ body_ok w s (function_word w i 5 + function_word w i 6) (function_word w i 7)
    ∷ all_below (function_word w i 9) p
    ∷ [])
    e in
    record {
      few = leb-true (function_word w i 9) max_events (t 2);
      room = leb-true (function_word w i 5 + function_word w i 6 + function_word w i 7) (word_at w 8) (t 3);
      precondition = t 4;
      body = t 5;
      events = below_at p (function_word w i 9) (t 6);
    }

pub record FunctionPassed (w : List ℕ) (i : ℕ) : Type 0 where
  pub state : function_word w i 0 < word_at w 3
  pub party : function_word w i 1 < word_at w 0
  pub last : function_word w i 2 < word_at w 3
  pub values : function_word w i 3 ≤ max_values
  pub parameters : function_word w i 4 ≤ max_parameters
  pub name : name_ok w (functions_start + i * function_words + 10) ≡ true
  pub first : function_word w i 5 ≡ first_node w i
  pub event : function_word w i 8 ≡ first_event w i
  pub nodes : NodesPassed w (scope_at w (function_word w i 3) (function_word w i 4)) i

pub function_passed : (w : List ℕ) (i : ℕ) → function_ok w i ≡ true → FunctionPassed w i
unfolding function_ok
function_passed w i e =
    let s = scope_at w (function_word w i 3) (function_word w i 4) in
    let t =
    link
    (ltb (function_word w i 0) (word_at w 3)
    ∷ ltb (function_word w i 1) (word_at w 0)
    ∷ ltb (function_word w i 2) (word_at w 3)
    ∷ leb (function_word w i 3) max_values
    ∷ leb (function_word w i 4) max_parameters
    ∷ name_ok w (functions_start + i * function_words + 10)
    ∷ eqb (function_word w i 5) (first_node w i)
    ∷ eqb (function_word w i 8) (first_event w i)
    ∷ function_nodes_ok w s i
    ∷ [])
    e in
    record {
      state = ltb-true (function_word w i 0) (word_at w 3) (t 0);
      party = ltb-true (function_word w i 1) (word_at w 0) (t 1);
      last = ltb-true (function_word w i 2) (word_at w 3) (t 2);
      values = leb-true (function_word w i 3) max_values (t 3);
      parameters = leb-true (function_word w i 4) max_parameters (t 4);
      name = t 5;
      first = eqb-true (function_word w i 5) (first_node w i) (t 6);
      event = eqb-true (function_word w i 8) (first_event w i) (t 7);
      nodes = nodes_passed w s i (t 8);
    }

pub record EventPassed (w : List ℕ) (s : Scope) (first n : ℕ) : Type 0 where
  pub state : event_word w n 0 < word_at w 3
  pub last : event_word w n 1 < word_at w 3
  pub nodes : event_nodes_ok w s first (event_word w n 2) ≡ true

pub event_passed : (w : List ℕ) (s : Scope) (first n : ℕ) → event_ok w s first n ≡ true → EventPassed w s first n
unfolding event_ok
event_passed w s first n e =
    let t = link (ltb (event_word w n 0) (word_at w 3) ∷ ltb (event_word w n 1) (word_at w 3) ∷ event_nodes_ok w s first (event_word w n 2) ∷ []) e in
    record {
      state = ltb-true (event_word w n 0) (word_at w 3) (t 0);
      last = ltb-true (event_word w n 1) (word_at w 3) (t 1);
      nodes = t 2;
    }
