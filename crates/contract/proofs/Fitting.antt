-- What `fits` says of each part of a contract, by name. Assumes nothing.
use mathlib.Core.Path.{◌≡◌, sym}
use mathlib.Core.Bool.{Bool, true}
use mathlib.Core.List.{List, [], ◌∷◌}
use Prim.Native.Nat.{ℕ, ◌<◌, ◌≤◌}
use lib.ListN.{length}
use lib.Dec.{ltb, leb}
use borrow.Author.Tests.{ltb-true, leb-true}
use Rattle.laws.proofs.Choice.{true_false}
use Rattle.tokens.specs.Classes.{is_letter, is_name_byte, is_string_byte}
use Rattle.contract.specs.Limits.{max_parties, max_assets, max_fields, max_states, max_strings, max_clauses, max_functions, max_events, max_nodes, max_values, max_parameters, max_statements, max_name, max_string}
use Rattle.contract.specs.Tree.{Word, Event, Function, Clause, Contract}
use Rattle.contract.specs.Sizes.{statements, function_size}
use Rattle.contract.specs.Fits.{total, is_name, is_string, expression_in, block_in, precondition_in, scope_of, scope_in, event_in, function_in, clause_in, words_in, has_clause, fits}
use Rattle.laws.specs.Lists.{every, all_below}
use Rattle.laws.proofs.Truths.{both_left, both_right, link}

-- ---- words

-- a name has 1 to 32 bytes
pub name_length : (n : Word) → is_name n ≡ true → length n ≤ max_name
unfolding is_name
name_length [] e = true_false (sym e)
name_length (x ∷ xs) e = ltb-true (length xs) max_name (link (is_letter x ∷ every is_name_byte xs ∷ ltb (length xs) max_name ∷ []) e 2)

pub string_length : (s : Word) → is_string s ≡ true → length s ≤ max_string
unfolding is_string
string_length s e = leb-true (length s) max_string (both_right (every is_string_byte s) (leb (length s) max_string) e)

-- words of one kind
words_right : (p : Word → Bool) (n : ℕ) (l : List Word) → words_in p n l ≡ true → every p l ≡ true
unfolding words_in
words_right p n l e = both_left (every p l) (leb (length l) n) e

words_few : (p : Word → Bool) (n : ℕ) (l : List Word) → words_in p n l ≡ true → length l ≤ n
unfolding words_in
words_few p n l e = leb-true _ _ (both_right (every p l) (leb (length l) n) e)

-- ---- the parts of a contract

pub record FitsClause (c : Contract) (k : Clause) : Type 0 where
  pub party : k.party < length c.parties
  pub fields : every (λ x. ltb x (length c.fields)) k.fields ≡ true
  pub fields_few : length k.fields ≤ max_fields

pub record FitsEvent (c : Contract) (f : Function) (e : Event) : Type 0 where
  pub guard : expression_in (scope_in c f) e.guard ≡ true
  pub state : e.state < length c.states
  pub handler : block_in (scope_of c 0 0) e.handler ≡ true
  pub handler_few : statements e.handler ≤ max_statements
  pub last : e.last < length c.states

pub record FitsFunction (c : Contract) (f : Function) : Type 0 where
  pub state : f.state < length c.states
  pub party : f.party < length c.parties
  pub name : is_name f.name ≡ true
  pub values : every is_name f.values ≡ true
  pub values_few : length f.values ≤ max_values
  pub parameters : every is_name f.parameters ≡ true
  pub parameters_few : length f.parameters ≤ max_parameters
  pub precondition : precondition_in (scope_in c f) f.precondition ≡ true
  pub body : block_in (scope_in c f) f.body ≡ true
  pub body_few : statements f.body ≤ max_statements
  pub events : every (event_in c f) f.events ≡ true
  pub last : f.last < length c.states

pub record FitsContract (c : Contract) : Type 0 where
  pub name : is_name c.name ≡ true
  pub parties : every is_name c.parties ≡ true
  pub parties_few : length c.parties ≤ max_parties
  pub assets : every is_name c.assets ≡ true
  pub assets_few : length c.assets ≤ max_assets
  pub fields : every is_name c.fields ≡ true
  pub fields_few : length c.fields ≤ max_fields
  pub states : every is_name c.states ≡ true
  pub states_few : length c.states ≤ max_states
  pub strings : every is_string c.strings ≡ true
  pub strings_few : length c.strings ≤ max_strings
  pub clauses : every (clause_in c) c.clauses ≡ true
  pub clauses_few : length c.clauses ≤ max_clauses
  pub heard : all_below (length c.parties) (has_clause c.clauses) ≡ true
  pub initial : c.initial < length c.states
  pub functions : every (function_in c) c.functions ≡ true
  pub functions_few : length c.functions ≤ max_functions
  pub events_few : total (λ f. length f.events) c.functions ≤ max_events
  pub nodes_few : total function_size c.functions ≤ max_nodes

pub fits_clause : (c : Contract) (k : Clause) → clause_in c k ≡ true → FitsClause c k
unfolding clause_in
fits_clause c k e =
    let t =
    link
    (ltb k.party (length c.parties)
    ∷ every (λ x. ltb x (length c.fields)) k.fields
    ∷ leb (length k.fields) max_fields
    ∷ [])
    e in
    record {
      party = ltb-true _ _ (t 0);
      fields = t 1;
      fields_few = leb-true _ _ (t 2);
    }

pub fits_event : (c : Contract) (f : Function) (e : Event) → event_in c f e ≡ true → FitsEvent c f e
unfolding event_in
fits_event c f e h =
    let t =
    link
    (expression_in (scope_in c f) e.guard
    ∷ ltb e.state (length c.states)
    ∷ block_in (scope_of c 0 0) e.handler
    ∷ leb (statements e.handler) max_statements
    ∷ ltb e.last (length c.states)
    ∷ [])
    h in
    record {
      guard = t 0;
      state = ltb-true _ _ (t 1);
      handler = t 2;
      handler_few = leb-true _ _ (t 3);
      last = ltb-true _ _ (t 4);
    }

pub fits_function : (c : Contract) (f : Function) → function_in c f ≡ true → FitsFunction c f
unfolding function_in
fits_function c f h =
    let t =
    link
    (ltb f.state (length c.states)
    ∷ ltb f.party (length c.parties)
    ∷ is_name f.name
    ∷ words_in is_name max_values f.values
    ∷ words_in is_name max_parameters f.parameters
    ∷ precondition_in (scope_in c f) f.precondition
    ∷ block_in (scope_in c f) f.body
    ∷ leb (statements f.body) max_statements
    ∷ every (event_in c f) f.events
    ∷ ltb f.last (length c.states)
    ∷ [])
    h in
    record {
      state = ltb-true _ _ (t 0);
      party = ltb-true _ _ (t 1);
      name = t 2;
      values = words_right _ _ _ (t 3);
      values_few = words_few _ _ _ (t 3);
      parameters = words_right _ _ _ (t 4);
      parameters_few = words_few _ _ _ (t 4);
      precondition = t 5;
      body = t 6;
      body_few = leb-true _ _ (t 7);
      events = t 8;
      last = ltb-true _ _ (t 9);
    }

pub fits_contract : (c : Contract) → fits c ≡ true → FitsContract c
unfolding fits
fits_contract c h =
    let t =
    link
    (is_name c.name
    ∷ words_in is_name max_parties c.parties
    ∷ words_in is_name max_assets c.assets
    ∷ words_in is_name max_fields c.fields
    ∷ words_in is_name max_states c.states
    ∷ words_in is_string max_strings c.strings
    ∷ every (clause_in c) c.clauses
    ∷ leb (length c.clauses) max_clauses
    ∷ all_below (length c.parties) (has_clause c.clauses)
    ∷ ltb c.initial (length c.states)
    ∷ every (function_in c) c.functions
    ∷ leb (length c.functions) max_functions
    ∷ leb (total (λ f. length f.events) c.functions) max_events
    ∷ leb (total function_size c.functions) max_nodes
    ∷ [])
    h in
    record {
      name = t 0;
      parties = words_right _ _ _ (t 1);
      parties_few = words_few _ _ _ (t 1);
      assets = words_right _ _ _ (t 2);
      assets_few = words_few _ _ _ (t 2);
      fields = words_right _ _ _ (t 3);
      fields_few = words_few _ _ _ (t 3);
      states = words_right _ _ _ (t 4);
      states_few = words_few _ _ _ (t 4);
      strings = words_right _ _ _ (t 5);
      strings_few = words_few _ _ _ (t 5);
      clauses = t 6;
      clauses_few = leb-true _ _ (t 7);
      heard = t 8;
      initial = ltb-true _ _ (t 9);
      functions = t 10;
      functions_few = leb-true _ _ (t 11);
      events_few = leb-true _ _ (t 12);
      nodes_few = leb-true _ _ (t 13);
    }
