-- What stands where in the table of a contract. Assumes nothing.
use mathlib.Core.Path.{◌≡◌, refl, ap, ◌∙◌}
use mathlib.Core.Bool.{Bool, true}
use mathlib.Core.List.{List, [], ◌∷◌, ◌++◌}
use Prim.Native.Nat.{ℕ, zero, suc, ◌+◌, ◌-◌, ◌*◌, ◌<◌}
use native.Mathlib.Omega.{arith}
use native.Mathlib.Nat.{suc-mul, zero-mul}
use lib.ListN.{length, get_or, take, length-append}
use Rattle.contract.specs.Limits.{max_parties, max_assets, max_fields, max_states, max_strings, max_clauses, max_functions, max_events, max_nodes, max_values, max_parameters}
use Rattle.contract.specs.Tree.{Event, Function, Clause, Contract}
use Rattle.contract.specs.Sizes.{block_size, precondition_size, event_size, events_size, function_size}
use Rattle.contract.specs.Fits.{total, is_name, is_string, clause_in, function_in}
use Rattle.laws.proofs.Members.{every_head, every_tail, every_at, every_so}
use Rattle.laws.specs.Lists.{every}
use Rattle.contract.specs.Table.{kind_at, argument_at, size_at, name_words, string_words, clause_words, function_words, event_words, node_words, packed_words, parameter_words, head_words, name_start, parties_start, assets_start, fields_start, states_start, strings_start, clauses_start, functions_start, events_start, nodes_start, parameters_start, table_length, values_of, parameters_of}
use Rattle.contract.specs.Encode.{zeros, padded, joined, function_nodes, name_row, string_row, packed_row, parameter_rows, clause_row, function_row, function_rows, event_rows, all_event_rows, head_row, encode}
use Rattle.contract.specs.Decode.{each_from}
use Rattle.contract_laws.proofs.Stands.{Stands, first_part, second_part, moved, same_words, whole, first_word}
use Rattle.contract.proofs.Fitting.{FitsContract, fits_clause, fits_function}
use Rattle.contract_laws.proofs.Lengths.{length_padded, rows_long, values_long, length_parameter_rows, length_name_row, length_string_row, length_clause_row, length_function_row, length_function_rows, length_event_rows, length_all_event_rows, length_function, length_functions}

-- ---- rows

-- row i of rows of n words each
pub joined_row : {A : Type 0} {w : List ℕ} {o : ℕ} (row : A → List ℕ) (right : A → Bool) (n : ℕ)
    → ((x : A) → right x ≡ true → length (row x) ≡ n) → (l : List A) → every right l ≡ true → Stands w o (joined row l)
    → (i : ℕ) → i < length l → (d : A) → Stands w (o + i * n) (row (get_or l i d))
unfolding joined
joined_row row right n f [] e s i h d = absurd (omega arith)
joined_row {w} {o} row right n f (x ∷ l) e s zero h d = moved (omega (arith, zero-mul n)) (first_part (row x) (joined row l) s)
joined_row {w} {o} row right n f (x ∷ l) e s (suc i) h d =
    moved (omega (arith, f x (every_head right x l e), suc-mul i n))
    (joined_row {o = o + length (row x)} row right n f l (every_tail right x l e) (second_part (row x) (joined row l) s) i (omega arith) d)

-- reading from i on gives the members of a list, if reading at i + j gives member j
pub each_is : {A : Type 0} (l : List A) (i : ℕ) (g : ℕ → A) → ((j : ℕ) → j < length l → (d : A) → g (i + j) ≡ get_or l j d)
    → each_from i (length l) g ≡ l
unfolding each_from
each_is [] i g h = refl
each_is (x ∷ l) i g h =
    let here : g i ≡ x = ap g (omega arith) ∙ h 0 (omega arith) x in
    let there : each_from (suc i) (length l) g ≡ l =
    each_is l (suc i) g (λ j p d. ap g (omega arith) ∙ h (suc j) (omega arith) d) in
    λ t. here t ∷ there t

-- reading row after row gives the members, if reading a member's row gives it
pub read_rows : {A : Type 0} {w : List ℕ} {o : ℕ} (row : A → List ℕ) (right : A → Bool) (n : ℕ)
    → ((x : A) → right x ≡ true → length (row x) ≡ n) → (read : ℕ → A)
    → ((x : A) (p : ℕ) → right x ≡ true → Stands w p (row x) → read p ≡ x)
    → (l : List A) → every right l ≡ true → Stands w o (joined row l) → each_from 0 (length l) (λ i. read (o + i * n)) ≡ l
read_rows {w = w} {o = o} row right n f read g l e s =
    each_is l 0 (λ i. read (o + i * n)) λ j h d.
    ap (λ (i : ℕ). read (o + i * n)) (omega arith)
    ∙ g (get_or l j d) (o + j * n) (every_at right l e j h d) (joined_row row right n f l e s j h d)

-- ---- nodes

-- the words l stand from node k on
abbrev pub Nodes : List ℕ → ℕ → List ℕ → Type 0
Nodes w k l = Stands w (nodes_start + k * 3) l

pub nodes_after : {w : List ℕ} (k : ℕ) (a b : List ℕ) (n : ℕ) → length a ≡ n * 3 → Nodes w k (a ++ b) → Nodes w (k + n) b
nodes_after k a b n e s = moved (omega arith) (second_part a b s)

-- node k is this node
pub record NodeIs (w : List ℕ) (k t n z : ℕ) : Type 0 where
  pub kind : kind_at w k ≡ t
  pub argument : argument_at w k ≡ n
  pub size : size_at w k ≡ z

pub node_is : {w : List ℕ} (k t n z : ℕ) → Nodes w k (t ∷ n ∷ z ∷ []) → NodeIs w k t n z
node_is k t n z s =
    record {
      kind = first_word t (n ∷ z ∷ []) s;
      argument = s.word 1 (omega arith);
      size = s.word 2 (omega arith);
    }

-- the nodes of member i, where member x has size x nodes
pub joined_nodes : {A : Type 0} {w : List ℕ} (k : ℕ) (nodes : A → List ℕ) (size : A → ℕ)
    → ((x : A) → length (nodes x) ≡ size x * 3) → (l : List A) → Nodes w k (joined nodes l)
    → (i : ℕ) → i < length l → (d : A) → Nodes w (k + total size (take i l)) (nodes (get_or l i d))
unfolding joined total
joined_nodes k nodes size f [] s i h d = absurd (omega arith)
joined_nodes k nodes size f (x ∷ l) s zero h d = moved (omega arith) (first_part (nodes x) (joined nodes l) s)
joined_nodes k nodes size f (x ∷ l) s (suc i) h d =
    moved (omega arith)
    (joined_nodes (k + size x) nodes size f l (nodes_after k (nodes x) (joined nodes l) (size x) (f x) s) i (omega arith) d)

-- ---- functions and events

abbrev pub event_count : Function → ℕ
event_count f = length f.events

abbrev pub event_row : ℕ → Event → List ℕ
event_row first e = e.state ∷ e.last ∷ (first + event_size e - 1) ∷ []

pub events_total : (es : List Event) → events_size es ≡ total event_size es
unfolding events_size total
events_total [] = refl
events_total (e ∷ es) = ap (λ (n : ℕ). event_size e + n) (events_total es)

-- the row of event j, where the events' first node has this number
pub event_row_lem : {w : List ℕ} {o : ℕ} (first : ℕ) (es : List Event) → Stands w o (event_rows first es)
    → (j : ℕ) → j < length es → (d : Event) → Stands w (o + j * 3) (event_row (first + total event_size (take j es)) (get_or es j d))
unfolding event_rows total
event_row_lem first [] s j h d = absurd (omega arith)
event_row_lem first (e ∷ es) s zero h d =
    let n : first ≡ first + 0 = omega arith in
    moved (omega arith) (same_words (λ t. event_row (n t) e) (first_part (event_row first e) (event_rows (first + event_size e) es) s))
event_row_lem {w = w} {o = o} first (e ∷ es) s (suc j) h d =
    let n : first + event_size e + total event_size (take j es) ≡ first + (event_size e + total event_size (take j es)) = omega arith in
    moved (omega arith)
    (same_words (λ t. event_row (n t) (get_or es j d))
    (event_row_lem {o = o + length (event_row first e)} (first + event_size e) es (second_part (event_row first e) (event_rows (first + event_size e) es) s) j (omega arith) d))

-- the row of function i, where the functions' first node and first event have these numbers
pub function_row_lem : {w : List ℕ} {o : ℕ} (first event : ℕ) (fs : List Function) → every (λ f. is_name f.name) fs ≡ true
    → Stands w o (function_rows first event fs) → (i : ℕ) → i < length fs → (d : Function)
    → Stands w (o + i * function_words) (function_row (first + total function_size (take i fs)) (event + total event_count (take i fs)) (get_or fs i d))
unfolding function_rows total
function_row_lem first event [] e s i h d = absurd (omega arith)
function_row_lem first event (f ∷ fs) e s zero h d =
    let n : first ≡ first + 0 = omega arith in
    let m : event ≡ event + 0 = omega arith in
    moved (omega arith)
    (same_words (λ t. function_row (n t) (m t) f)
    (first_part (function_row first event f) (function_rows (first + function_size f) (event + length f.events) fs) s))
function_row_lem {w = w} {o = o} first event (f ∷ fs) e s (suc i) h d =
    let n : first + function_size f + total function_size (take i fs) ≡ first + (function_size f + total function_size (take i fs)) = omega arith in
    let m : event + length f.events + total event_count (take i fs) ≡ event + (length f.events + total event_count (take i fs)) = omega arith in
    let r = length_function_row first event f (every_head (λ f. is_name f.name) f fs e) in
    moved (omega arith)
    (same_words (λ t. function_row (n t) (m t) (get_or fs i d))
    (function_row_lem {o = o + length (function_row first event f)} (first + function_size f) (event + length f.events) fs (every_tail (λ f. is_name f.name) f fs e)
    (second_part (function_row first event f) (function_rows (first + function_size f) (event + length f.events) fs) s)
    i (omega arith) d))

-- where the events of a function start whose first node has this number
abbrev pub events_first : ℕ → Function → ℕ
events_first first f = first + precondition_size f.precondition + block_size f.body

-- the rows of the events of function i
pub event_rows_lem : {w : List ℕ} {o : ℕ} (first : ℕ) (fs : List Function) → Stands w o (all_event_rows first fs)
    → (i : ℕ) → i < length fs → (d : Function)
    → Stands w (o + total event_count (take i fs) * 3) (event_rows (events_first (first + total function_size (take i fs)) (get_or fs i d)) (get_or fs i d).events)
unfolding all_event_rows total
event_rows_lem first [] s i h d = absurd (omega arith)
event_rows_lem first (f ∷ fs) s zero h d =
    let n : first ≡ first + 0 = omega arith in
    moved (omega arith)
    (same_words (λ t. event_rows (events_first (n t) f) f.events)
    (first_part (event_rows (events_first first f) f.events) (all_event_rows (first + function_size f) fs) s))
event_rows_lem {w = w} {o = o} first (f ∷ fs) s (suc i) h d =
    let n : first + function_size f + total function_size (take i fs) ≡ first + (function_size f + total function_size (take i fs)) = omega arith in
    let r = length_event_rows (events_first first f) f.events in
    moved (omega arith)
    (same_words (λ t. event_rows (events_first (n t) (get_or fs i d)) (get_or fs i d).events)
    (event_rows_lem {o = o + length (event_rows (events_first first f) f.events)} (first + function_size f) fs
    (second_part (event_rows (events_first first f) f.events) (all_event_rows (first + function_size f) fs) s)
    i (omega arith) d))

-- ---- sections, one after the other

abbrev laid : List (List ℕ) → List ℕ
laid [] = []
laid (x ∷ []) = x
laid (x ∷ y ∷ l) = x ++ laid (y ∷ l)

-- words before section i
abbrev before : ℕ → List (List ℕ) → ℕ
before zero l = 0
before (suc i) [] = 0
before (suc i) (x ∷ l) = length x + before i l

laid_at : {w : List ℕ} {o : ℕ} (l : List (List ℕ)) (i : ℕ) → i < length l → Stands w o (laid l) → Stands w (o + before i l) (get_or l i [])
laid_at [] i h s = absurd (omega arith)
laid_at (x ∷ []) zero h s = moved (omega arith) s
laid_at (x ∷ []) (suc i) h s = absurd (omega arith)
laid_at (x ∷ y ∷ l) zero h s = moved (omega arith) (first_part x (laid (y ∷ l)) s)
laid_at {w = w} {o = o} (x ∷ y ∷ l) (suc i) h s = moved (omega arith) (laid_at {o = o + length x} (y ∷ l) i (omega arith) (second_part x (laid (y ∷ l)) s))

length_laid : (l : List (List ℕ)) → length (laid l) ≡ before (length l) l
length_laid [] = refl
length_laid (x ∷ []) = omega arith
length_laid (x ∷ y ∷ l) = length-append x (laid (y ∷ l)) ∙ ap (λ (n : ℕ). length x + n) (length_laid (y ∷ l))

abbrev sections : Contract → List (List ℕ)
sections c =
    head_row c
    ∷ name_row c.name
    ∷ padded (max_parties * name_words) (joined name_row c.parties)
    ∷ padded (max_assets * name_words) (joined name_row c.assets)
    ∷ padded (max_fields * name_words) (joined name_row c.fields)
    ∷ padded (max_states * name_words) (joined name_row c.states)
    ∷ padded (max_strings * string_words) (joined string_row c.strings)
    ∷ padded (max_clauses * clause_words) (joined clause_row c.clauses)
    ∷ padded (max_functions * function_words) (function_rows 0 0 c.functions)
    ∷ padded (max_events * event_words) (all_event_rows 0 c.functions)
    ∷ padded (max_nodes * node_words) (joined function_nodes c.functions)
    ∷ padded (max_functions * parameter_words) (joined parameter_rows c.functions)
    ∷ []

-- the sections' lengths
record Long (c : Contract) : Type 0 where
  head : length (head_row c) ≡ head_words
  name : length (name_row c.name) ≡ name_words
  parties : length (padded (max_parties * name_words) (joined name_row c.parties)) ≡ max_parties * name_words
  assets : length (padded (max_assets * name_words) (joined name_row c.assets)) ≡ max_assets * name_words
  fields : length (padded (max_fields * name_words) (joined name_row c.fields)) ≡ max_fields * name_words
  states : length (padded (max_states * name_words) (joined name_row c.states)) ≡ max_states * name_words
  strings : length (padded (max_strings * string_words) (joined string_row c.strings)) ≡ max_strings * string_words
  clauses : length (padded (max_clauses * clause_words) (joined clause_row c.clauses)) ≡ max_clauses * clause_words
  functions : length (padded (max_functions * function_words) (function_rows 0 0 c.functions)) ≡ max_functions * function_words
  events : length (padded (max_events * event_words) (all_event_rows 0 c.functions)) ≡ max_events * event_words
  nodes : length (padded (max_nodes * node_words) (joined function_nodes c.functions)) ≡ max_nodes * node_words
  parameters : length (padded (max_functions * parameter_words) (joined parameter_rows c.functions)) ≡ max_functions * parameter_words

pub clause_long : (c : Contract) (k : Clause) → clause_in c k ≡ true → length (clause_row k) ≡ clause_words
clause_long c k e = length_clause_row k (fits_clause c k e).fields_few

parameters_long : (c : Contract) (f : Function) → function_in c f ≡ true → length (parameter_rows f) ≡ parameter_words
parameters_long c f e =
    let g = fits_function c f e in
    length_parameter_rows f g.values g.values_few g.parameters g.parameters_few

pub function_names : (c : Contract) → FitsContract c → every (λ f. is_name f.name) c.functions ≡ true
function_names c h = every_so (function_in c) (λ f. is_name f.name) (λ f e. (fits_function c f e).name) c.functions h.functions

long : (c : Contract) → FitsContract c → Long c
unfolding head_row
long c h =
    record {
      head = refl;
      name = length_name_row c.name h.name;
      parties = rows_long name_row is_name name_words max_parties length_name_row c.parties h.parties h.parties_few;
      assets = rows_long name_row is_name name_words max_assets length_name_row c.assets h.assets h.assets_few;
      fields = rows_long name_row is_name name_words max_fields length_name_row c.fields h.fields h.fields_few;
      states = rows_long name_row is_name name_words max_states length_name_row c.states h.states h.states_few;
      strings = rows_long string_row is_string string_words max_strings length_string_row c.strings h.strings h.strings_few;
      clauses = rows_long clause_row (clause_in c) clause_words max_clauses (clause_long c) c.clauses h.clauses h.clauses_few;
      functions =
          length_padded (max_functions * function_words) (function_rows 0 0 c.functions)
          (omega (arith, length_function_rows 0 0 c.functions (function_names c h), h.functions_few));
      events =
          length_padded (max_events * event_words) (all_event_rows 0 c.functions)
          (omega (arith, length_all_event_rows 0 c.functions, h.events_few));
      nodes =
          length_padded (max_nodes * node_words) (joined function_nodes c.functions)
          (omega (arith, length_functions c.functions, h.nodes_few));
      parameters = rows_long parameter_rows (function_in c) parameter_words max_functions (parameters_long c) c.functions h.functions h.functions_few;
    }

module _ (c : Contract) (h : FitsContract c) where
  section : (i o : ℕ) → i < 12 → before i (sections c) ≡ o → Stands (encode c) o (get_or (sections c) i [])
  unfolding encode
  section i o l e = moved (omega arith) (laid_at (sections c) i l (whole (laid (sections c))))

  unpadded : {w : List ℕ} {o : ℕ} (n : ℕ) (l : List ℕ) → Stands w o (padded n l) → Stands w o l
  unfolding padded
  unpadded n l s = first_part l (zeros (n - length l)) s

  pub head_stands : Stands (encode c) 0 (head_row c)
  head_stands = section 0 0 (omega arith) refl

  pub name_stands : Stands (encode c) name_start (name_row c.name)
  name_stands = let l = long c h in section 1 name_start (omega arith) (omega arith)

  pub parties_stand : Stands (encode c) parties_start (joined name_row c.parties)
  parties_stand = let l = long c h in unpadded _ _ (section 2 parties_start (omega arith) (omega arith))

  pub assets_stand : Stands (encode c) assets_start (joined name_row c.assets)
  assets_stand = let l = long c h in unpadded _ _ (section 3 assets_start (omega arith) (omega arith))

  pub fields_stand : Stands (encode c) fields_start (joined name_row c.fields)
  fields_stand = let l = long c h in unpadded _ _ (section 4 fields_start (omega arith) (omega arith))

  pub states_stand : Stands (encode c) states_start (joined name_row c.states)
  states_stand = let l = long c h in unpadded _ _ (section 5 states_start (omega arith) (omega arith))

  pub strings_stand : Stands (encode c) strings_start (joined string_row c.strings)
  strings_stand = let l = long c h in unpadded _ _ (section 6 strings_start (omega arith) (omega arith))

  pub clauses_stand : Stands (encode c) clauses_start (joined clause_row c.clauses)
  clauses_stand = let l = long c h in unpadded _ _ (section 7 clauses_start (omega arith) (omega arith))

  pub functions_stand : Stands (encode c) functions_start (function_rows 0 0 c.functions)
  functions_stand = let l = long c h in unpadded _ _ (section 8 functions_start (omega arith) (omega arith))

  pub events_stand : Stands (encode c) events_start (all_event_rows 0 c.functions)
  events_stand = let l = long c h in unpadded _ _ (section 9 events_start (omega arith) (omega arith))

  pub nodes_stand : Stands (encode c) nodes_start (joined function_nodes c.functions)
  nodes_stand = let l = long c h in unpadded _ _ (section 10 nodes_start (omega arith) (omega arith))

  pub parameters_stand : Stands (encode c) parameters_start (joined parameter_rows c.functions)
  parameters_stand = let l = long c h in unpadded _ _ (section 11 parameters_start (omega arith) (omega arith))

  pub length_encode : length (encode c) ≡ table_length
  unfolding encode
  length_encode = let l = long c h in length_laid (sections c) ∙ omega arith

-- ---- a function's row, its events' rows, its nodes and its parameters

pub record FunctionStands (w : List ℕ) (i first event : ℕ) (f : Function) : Type 0 where
  pub row : Stands w (functions_start + i * function_words) (function_row first event f)
  pub events : Stands w (events_start + event * 3) (event_rows (events_first first f) f.events)
  pub nodes : Nodes w first (function_nodes f)
  pub values : Stands w (values_of i) (joined packed_row f.values)
  pub parameters : Stands w (parameters_of i) (joined packed_row f.parameters)

-- the rows of its parameters
rows_stand : {w : List ℕ} (i : ℕ) (c : Contract) (f : Function) → function_in c f ≡ true → Stands w (values_of i) (parameter_rows f)
    → Stands w (values_of i) (joined packed_row f.values) × Stands w (parameters_of i) (joined packed_row f.parameters)
unfolding parameter_rows padded
rows_stand {w} i c f e s =
    let g = fits_function c f e in
    let v = joined packed_row f.values in
    let p = joined packed_row f.parameters in
    let n = values_long f g.values g.values_few in (
      first_part v _ (first_part (padded (max_values * packed_words) v) (padded (max_parameters * packed_words) p) s),
      first_part p _ (moved (omega arith) (second_part (padded (max_values * packed_words) v) (padded (max_parameters * packed_words) p) s)),
    )

pub function_stands : (c : Contract) → FitsContract c → (i : ℕ) → i < length c.functions → (d : Function)
    → FunctionStands (encode c) i (total function_size (take i c.functions)) (total event_count (take i c.functions)) (get_or c.functions i d)
function_stands c h i l d =
    let fs = c.functions in
    let f = get_or fs i d in
    let n : 0 + total function_size (take i fs) ≡ total function_size (take i fs) = omega arith in
    let m : 0 + total event_count (take i fs) ≡ total event_count (take i fs) = omega arith in
    let r =
    rows_stand i c f (every_at (function_in c) fs h.functions i l d)
    (joined_row parameter_rows (function_in c) parameter_words (parameters_long c) fs h.functions (parameters_stand c h) i l d) in
    record {
      row =
          same_words (λ t. function_row (n t) (m t) f)
          (function_row_lem 0 0 fs (function_names c h) (functions_stand c h) i l d);
      events =
          same_words (λ t. event_rows (events_first (n t) f) f.events) (event_rows_lem 0 fs (events_stand c h) i l d);
      nodes =
          moved (omega arith) (joined_nodes 0 function_nodes function_size length_function fs (moved (omega arith) (nodes_stand c h)) i l d);
      values = r.0;
      parameters = r.1;
    }
