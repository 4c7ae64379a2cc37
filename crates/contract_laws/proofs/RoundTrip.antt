-- The table of a contract gives the contract back. Assumes nothing.
use mathlib.Core.Path.{◌≡◌, refl, sym, ap, ◌∙◌}
use mathlib.Core.Bool.{Bool, true}
use mathlib.Core.List.{List, [], ◌∷◌, ◌++◌}
use Prim.Native.Nat.{ℕ, ◌+◌, ◌-◌, ◌*◌, ◌≤◌}
use native.Mathlib.Omega.{arith}
use lib.ListN.{length, get_or, take, drop}
use lib.Dec.{eqb}
use Rattle.laws.specs.Choice.{pick}
use Rattle.contract.specs.Limits.{max_fields, max_strings, max_name, max_string}
use Rattle.contract.specs.Tree.{Word, Event, Function, Verb, set, ok, Clause, Contract}
use Rattle.contract.specs.Sizes.{expression_size, block_size, precondition_size, event_size, function_size}
use Rattle.contract.specs.Fits.{Scope, total, is_name, is_string, expression_in, block_in, scope_of, scope_in, clause_in, event_in, function_in, fits}
use Rattle.laws.proofs.Members.{every_at}
use Rattle.laws.specs.Lists.{every}
use Rattle.contract.specs.Table.{word_at, argument_at, event_word, function_word, name_words, string_words, clause_words, function_words, packed_words, values_of, parameters_of, name_start, functions_start, events_start, event_kind}
use Rattle.contract.specs.Encode.{zeros, padded, joined, expression_nodes, block_nodes, precondition_nodes, event_nodes, function_nodes, name_row, string_row, packed_row, verb_word, clause_row, function_row, event_rows, head_row, encode}
use Rattle.contract.specs.Decode.{each_from, expression_at, block_between, precondition_at, word_of, packed_word, event_at, function_at, clause_at, contract_of}
use Rattle.contract_laws.proofs.Stands.{Stands, first_part, second_part, moved, first_word, next_words, taken}
use Rattle.contract.proofs.Fitting.{FitsContract, fits_contract, fits_function, fits_event}
use Rattle.contract_laws.proofs.Lengths.{length_name_row, length_packed_row, length_string_row, length_expression, length_block, length_precondition, length_event}
use Rattle.contract_laws.proofs.Sections.{read_rows, each_is, Nodes, nodes_after, joined_nodes, event_row, event_row_lem, events_first, event_count, clause_long, head_stands, name_stands, parties_stand, assets_stand, fields_stand, states_stand, strings_stand, clauses_stand, FunctionStands, function_stands}
use Rattle.contract_laws.proofs.Packing.{packed_read}
use Rattle.contract_laws.proofs.ReadBack.{parts, expression_read, block_read, precondition_read}

module _ (w : List ℕ) where
  -- ---- words

  -- a length and as many words from o on, whatever follows
  counted : (o p : ℕ) (l q : List ℕ) → word_at w o ≡ length l → Stands w p (l ++ q) → take (word_at w o) (drop p w) ≡ l
  counted o p l q e s = ap (λ (n : ℕ). take n (drop p w)) e ∙ taken l (first_part l q s)

  name_read : (n : Word) (o : ℕ) → is_name n ≡ true → Stands w o (name_row n) → word_of w o ≡ n
  unfolding name_row padded
  name_read n o h s = counted o (o + 1) n _ (first_word (length n) _ s) (next_words (length n) (padded max_name n) s)

  string_read : (n : Word) (o : ℕ) → is_string n ≡ true → Stands w o (string_row n) → word_of w o ≡ n
  unfolding string_row padded
  string_read n o h s = counted o (o + 1) n _ (first_word (length n) _ s) (next_words (length n) (padded max_string n) s)

  -- ---- clauses

  verb_read : (v : Verb) → pick (eqb (verb_word v) 0) set ok ≡ v
  unfolding pick
  verb_read set = refl
  verb_read ok = refl

  -- the clause whose row starts at o
  abbrev clause_from : ℕ → Clause
  clause_from o =
      record {
        party = word_at w (o + 0);
        verb = pick (eqb (word_at w (o + 1)) 0) set ok;
        fields = take (word_at w (o + 2)) (drop (o + 3) w);
      }

  clause_read : (k : Clause) (o : ℕ) → Stands w o (clause_row k) → clause_from o ≡ k
  unfolding clause_row padded
  clause_read k o s =
      let party : word_at w (o + 0) ≡ k.party = s.word 0 (omega arith) in
      let verb : word_at w (o + 1) ≡ verb_word k.verb = s.word 1 (omega arith) in
      let count : word_at w (o + 2) ≡ length k.fields = s.word 2 (omega arith) in
      let fields : take (word_at w (o + 2)) (drop (o + 3) w) ≡ k.fields =
      counted (o + 2) (o + 3) k.fields (zeros (max_fields - length k.fields)) count
      (second_part (k.party ∷ verb_word k.verb ∷ length k.fields ∷ []) (padded max_fields k.fields) s) in
      λ t.
      record {
        party = party t;
        verb = (ap (λ (n : ℕ). pick (eqb n 0) set ok) verb ∙ verb_read k.verb) t;
        fields = fields t;
      }

  -- ---- events

  -- an event whose first node has this number; c is what its guard may name, d what its handler may
  event_read : (c d : Scope) → c.strings ≤ max_strings → d.strings ≤ max_strings → (i first : ℕ) (e : Event)
      → expression_in c e.guard ≡ true → block_in d e.handler ≡ true
      → Stands w (events_start + i * 3) (event_row first e) → Nodes w first (event_nodes e) → event_at w i ≡ e
  unfolding event_at event_nodes event_size
  event_read c d fc fd i first e hg hh s ns =
      let m = expression_size e.guard in
      let n = block_size e.handler in
      let k = first + (m + n + 1) - 1 in
      let p = parts first (expression_nodes e.guard) (block_nodes e.handler) m n event_kind n (m + n + 1) (length_expression e.guard) (length_block e.handler) ns in
      let own : event_word w i 2 ≡ k = s.word 2 (omega arith) in
      let handler-words : argument_at w (event_word w i 2) ≡ n = ap (argument_at w) own ∙ p.last.argument in
      let guard : expression_at w (event_word w i 2 - argument_at w (event_word w i 2) - 1) ≡ e.guard =
      ap (expression_at w) (omega arith) ∙ expression_read w c fc e.guard first hg p.first in
      let start : event_word w i 2 - argument_at w (event_word w i 2) ≡ first + m = omega arith in
      let end : event_word w i 2 ≡ first + m + n = omega arith in
      let handler : block_between w (event_word w i 2 - argument_at w (event_word w i 2)) (event_word w i 2) ≡ e.handler =
      (λ t. block_between w (start t) (end t)) ∙ block_read w d fd e.handler (first + m) hh p.second in
      λ t.
      record {
        guard = guard t;
        state = s.word 0 (omega arith) t;
        handler = handler t;
        last = s.word 1 (omega arith) t;
      }

-- ---- functions

-- rows whose count stands in the table
rows_read : {A : Type 0} {w : List ℕ} {o : ℕ} (row : A → List ℕ) (right : A → Bool) (n : ℕ) → ((x : A) → right x ≡ true → length (row x) ≡ n)
    → (read : ℕ → A) → ((x : A) (p : ℕ) → right x ≡ true → Stands w p (row x) → read p ≡ x)
    → (l : List A) (count : ℕ) → count ≡ length l → every right l ≡ true → Stands w o (joined row l)
    → each_from 0 count (λ i. read (o + i * n)) ≡ l
rows_read {o = o} row right n f read g l count e h s =
    ap (λ (m : ℕ). each_from 0 m (λ i. read (o + i * n))) e ∙ read_rows row right n f read g l h s

few : (c : Contract) → FitsContract c → (v p : ℕ) → (scope_of c v p).strings ≤ max_strings
unfolding scope_of
few c h v p = h.strings_few

module _ (c : Contract) (h : FitsContract c) (w : List ℕ) where
  events_read : (f : Function) (first event : ℕ) → every (event_in c f) f.events ≡ true
      → Stands w (events_start + event * 3) (event_rows first f.events) → Nodes w first (joined event_nodes f.events)
      → each_from event (length f.events) (event_at w) ≡ f.events
  events_read f first event r s n =
      each_is f.events event (event_at w) λ j l d.
      let e = get_or f.events j d in
      let g = fits_event c f e (every_at (event_in c f) f.events r j l d) in
      event_read w (scope_in c f) (scope_of c 0 0) (few c h (length f.values) (length f.parameters)) (few c h 0 0) (event + j)
      (first + total event_size (take j f.events)) e g.guard g.handler
      (moved (omega arith) (event_row_lem first f.events s j l d))
      (joined_nodes first event_nodes event_size length_event f.events n j l d)

  pub function_read : (i first event : ℕ) (f : Function) → function_in c f ≡ true → FunctionStands w i first event f → function_at w i ≡ f
  unfolding function_at function_row function_nodes
  function_read i first event f r s =
      let g = fits_function c f r in
      let v = scope_in c f in
      let fv = few c h (length f.values) (length f.parameters) in
      let m = precondition_size f.precondition in
      let n = block_size f.body in
      let rest = block_nodes f.body ++ joined event_nodes f.events in
      let sp = first_part (precondition_nodes f.precondition) rest s.nodes in
      let sr = nodes_after first (precondition_nodes f.precondition) rest m (length_precondition f.precondition) s.nodes in
      let sb = first_part (block_nodes f.body) (joined event_nodes f.events) sr in
      let se = nodes_after (first + m) (block_nodes f.body) (joined event_nodes f.events) n (length_block f.body) sr in
      let word = s.row.word in
      let first_is : function_word w i 5 ≡ first = word 5 (omega arith) in
      let pre_is : function_word w i 6 ≡ m = word 6 (omega arith) in
      let body_is : function_word w i 7 ≡ n = word 7 (omega arith) in
      let event_is : function_word w i 8 ≡ event = word 8 (omega arith) in
      let count_is : function_word w i 9 ≡ length f.events = word 9 (omega arith) in
      let name : word_of w (functions_start + i * function_words + 10) ≡ f.name =
      name_read w f.name (functions_start + i * function_words + 10) g.name
      (second_part
      (f.state ∷ f.party ∷ f.last ∷ length f.values ∷ length f.parameters ∷ first ∷ m ∷ n ∷ event ∷ length f.events ∷ [])
      (name_row f.name) s.row) in
      let values : each_from 0 (function_word w i 3) (λ j. packed_word w (values_of i + j * packed_words)) ≡ f.values =
      rows_read packed_row is_name packed_words length_packed_row (packed_word w) packed_read f.values (function_word w i 3) (word 3 (omega arith)) g.values s.values in
      let parameters : each_from 0 (function_word w i 4) (λ j. packed_word w (parameters_of i + j * packed_words)) ≡ f.parameters =
      rows_read packed_row is_name packed_words length_packed_row (packed_word w) packed_read f.parameters (function_word w i 4) (word 4 (omega arith)) g.parameters s.parameters in
      let pre : precondition_at w (function_word w i 5) (function_word w i 6) ≡ f.precondition =
      (λ t. precondition_at w (first_is t) (pre_is t)) ∙ precondition_read w v fv f.precondition first g.precondition sp in
      let body : block_between w (function_word w i 5 + function_word w i 6) (function_word w i 5 + function_word w i 6 + function_word w i 7) ≡ f.body =
      (λ t. block_between w (first_is t + pre_is t) (first_is t + pre_is t + body_is t)) ∙ block_read w v fv f.body (first + m) g.body sb in
      let events : each_from (function_word w i 8) (function_word w i 9) (event_at w) ≡ f.events =
      (λ t. each_from (event_is t) (count_is t) (event_at w)) ∙ events_read f (events_first first f) event g.events s.events se in
      λ t.
      record {
        state = word 0 (omega arith) t;
        party = word 1 (omega arith) t;
        name = name t;
        values = values t;
        parameters = parameters t;
        precondition = pre t;
        body = body t;
        events = events t;
        last = word 2 (omega arith) t;
      }

-- ---- the whole

names_read : {w : List ℕ} {o : ℕ} (l : List Word) (count : ℕ) → count ≡ length l → every is_name l ≡ true → Stands w o (joined name_row l)
    → each_from 0 count (λ i. word_of w (o + i * name_words)) ≡ l
names_read {w} l count e h s = rows_read name_row is_name name_words length_name_row (word_of w) (name_read w) l count e h s

read_fitting : (c : Contract) → FitsContract c → contract_of (encode c) ≡ c
unfolding contract_of clause_at head_row
read_fitting c h =
    let w = encode c in
    let head = (head_stands c h).word in
    let functions : each_from 0 (word_at w 6) (function_at w) ≡ c.functions =
    ap (λ (n : ℕ). each_from 0 n (function_at w)) (head 6 (omega arith))
    ∙ each_is c.functions 0 (function_at w) (λ i l d.
    ap (function_at w) (omega arith)
    ∙ function_read c h w i (total function_size (take i c.functions)) (total event_count (take i c.functions)) (get_or c.functions i d)
    (every_at (function_in c) c.functions h.functions i l d) (function_stands c h i l d)) in
    λ t.
    record {
      name = name_read w c.name name_start h.name (name_stands c h) t;
      parties = names_read c.parties (word_at w 0) (head 0 (omega arith)) h.parties (parties_stand c h) t;
      assets = names_read c.assets (word_at w 1) (head 1 (omega arith)) h.assets (assets_stand c h) t;
      fields = names_read c.fields (word_at w 2) (head 2 (omega arith)) h.fields (fields_stand c h) t;
      states = names_read c.states (word_at w 3) (head 3 (omega arith)) h.states (states_stand c h) t;
      strings =
          rows_read string_row is_string string_words length_string_row (word_of w) (string_read w)
          c.strings (word_at w 4) (head 4 (omega arith)) h.strings (strings_stand c h) t;
      clauses =
          rows_read clause_row (clause_in c) clause_words (clause_long c) (clause_from w) (λ k o _ s. clause_read w k o s)
          c.clauses (word_at w 5) (head 5 (omega arith)) h.clauses (clauses_stand c h) t;
      initial = head 9 (omega arith) t;
      functions = functions t;
    }

pub decode_encode : (c : Contract) → fits c ≡ true → contract_of (encode c) ≡ c
decode_encode c h = read_fitting c (fits_contract c h)

-- a table is the table of one contract only
pub one_contract : (c d : Contract) → fits c ≡ true → fits d ≡ true → encode c ≡ encode d → c ≡ d
one_contract c d h k e = sym (decode_encode c h) ∙ ap contract_of e ∙ decode_encode d k
