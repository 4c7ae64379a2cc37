-- The nodes and rows that the pass writes for functions are those of what they resolve to. Assumes nothing.
use mathlib.Core.Path.{◌≡◌, refl, sym, ap, subst, ◌∙◌}
use mathlib.Core.Bool.{true}
use mathlib.Core.List.{List, [], ◌∷◌, ◌++◌, append_assoc}
use Prim.Native.Nat.{ℕ, ◌+◌, ◌-◌, ◌*◌, ◌<◌, ◌≤◌, min}
use native.Mathlib.Omega.{arith}
use lib.ListN.{length, length-append, length-set, set}
use lib.Dec.{ltb}
use borrow.Author.Tests.{ltb-true, lt-ltb}
use Rattle.laws.specs.Choice.{pick}
use Rattle.laws.proofs.Choice.{pick_true}
use Rattle.contract.specs.Tree as tree
use Rattle.contract.specs.Tree.{Word}
use Rattle.contract.specs.Fits.{total, is_name}
use Rattle.laws.proofs.Members.{every_append}
use Rattle.laws.proofs.Truths.{both_left, both_right}
use Rattle.laws.specs.Lists.{every}
use Rattle.contract.specs.Limits.{max_functions, max_events, max_nodes, max_values, max_parameters}
use Rattle.contract.specs.Table.{function_words, event_words, packed_words, parameter_words}
use Rattle.contract.specs.Sizes.{block_size, precondition_size, event_size, events_size, function_size}
use Rattle.contract.specs.Encode.{joined, padded, packed_row, parameter_rows, block_nodes, precondition_nodes, event_nodes, function_nodes, function_row, function_rows, event_rows, all_event_rows}
use Rattle.contract_laws.proofs.Lengths.{rows_long, length_packed_row, length_parameter_rows, length_precondition, length_block, length_function, length_event_rows}
use Rattle.contract.proofs.Fitting.{name_length}
use Rattle.entries.specs.Draft.{Draft, note, limit, function_count, body_nodes, events_here, notes_length, number_in}
use Rattle.reading.specs.Syntax.{Span, Body, Precondition, omitted, given, Function}
use Rattle.reading.specs.Grammar.{is_one_of}
use Rattle.reading.specs.Items.{Item, uses, opens, heads, in_function, of_each, declared, state_item, block_items, event_items, precondition_items, function_items}
use Rattle.reading.specs.Rules.{word, known, count, headers, header, number_of, fine, judge, or_breaks}
use Rattle.reading.specs.Resolve.{Names, within, each_of, latest_first, block_of, precondition_of, event_of, function_of, state_of}
use Rattle.reading_laws.specs.Walk.{nodes, begun}
use Rattle.accepted.proofs.Judged.{Clean, clean_first, clean_second, latest_append, test_holds, lesser_left}
use Rattle.accepted.proofs.Known.{right_item, plain, known_few, every_latest, plain_known, shared_stays}
use Rattle.accepted.proofs.FunctionsFit.{words_named}
use Rattle.accepted.proofs.Counts.{tally, heads_in, heads_append, count_latest, count_few, always_on, declared_known, declared_other}
use Rattle.accepted.proofs.CodeItems.{code_items, declared_heads, code_of, block_of_lem, events_of, precondition_of_lem, plain_heads, function_right}
use Rattle.reading.proofs.Mapped.{length_each}
use Rattle.reading_laws.proofs.Run.{run_state, state_in, run_head, run_names, run_precondition, run_statements, run_events, run_body, run_function, run_functions}
use Rattle.reading_laws.proofs.NotedFind.{mentioned_number}
use Rattle.reading_laws.proofs.NotedTrees.{begun_noted}
use Rattle.reading_laws.proofs.NotesKept.{set_keeps, set_same, body_nodes_spared, events_here_spared, statements_keep, events_keep}
use Rattle.reading_laws.proofs.SectionsNodes.{Writing, writing_same, writing_described}
use Rattle.reading_laws.proofs.NotesBodies.{events_here_lem, statements_told}
use Rattle.reading_laws.proofs.SectionsRows.{packed_long}
use Rattle.reading_laws.proofs.SectionsNames.{parameter_section, section_filled}
use Rattle.reading_laws.proofs.SectionsFunctions.{function_section, event_section, begun_row, rest_writes, function_row_is_long}
use Rattle.reading_laws.proofs.SectionsWhole.{begun_writes}
use Rattle.reading.proofs.TokenKinds.{Each}
use Rattle.accepted.proofs.Sorted.{is_block, is_event, is_precondition, FunctionSorted}
use Rattle.accepted.proofs.Late.{late, late_known, function_late, functions_late}
use Rattle.reading_laws.proofs.TablesGiven.{Prefix, prefix_more, prefix_items, late_settled, Differ, differ_items, Agree, agree_back, number_mentioned}
use Rattle.reading_laws.proofs.TablesTabled.{Mid, with_function_rows, with_event_rows, with_parameter_rows, nodes_same, nodes_after, Tells, looks, sections_at, Tabled, reparametered}
use Rattle.reading_laws.proofs.TablesLaws.{tell_function, tell_mentioned}
use Rattle.reading_laws.proofs.TablesTerms.{condition_tabled}
use Rattle.reading_laws.proofs.TablesBlocks.{append_none, statements_tabled}
use Rattle.reading_laws.proofs.TablesEvents.{state_tabled, events_tabled, state_number}
use Rattle.reading_laws.proofs.TablesDeclared.{Room, with_names, parameters_tabled, headers_kept, declared_count, head_items, head_tabled}

-- an event is a node at least
events_few : (es : List tree.Event) → length es ≤ events_size es
unfolding events_size event_size
events_few [] = omega arith
events_few (e ∷ es) = let r = events_few es in omega arith

-- the sections after one more function, and after some
abbrev function_mid : Mid → List ℕ → List ℕ → List ℕ → ℕ → ℕ → tree.Function → Mid
function_mid m R E P first event f =
    with_event_rows
    (with_function_rows (with_parameter_rows m (parameter_section (P ++ parameter_rows f))) (function_section (R ++ function_row first event f)))
    (event_section (E ++ event_rows (first + precondition_size f.precondition + block_size f.body) f.events))

abbrev pub functions_mid : Mid → List ℕ → List ℕ → List ℕ → ℕ → ℕ → List tree.Function → Mid
functions_mid m R E P first event fs =
    with_event_rows (with_function_rows (with_parameter_rows m (parameter_section (P ++ joined parameter_rows fs))) (function_section (R ++ function_rows first event fs)))
    (event_section (E ++ all_event_rows first fs))

module _ (s : List ℕ) where
  -- what all functions share, at a place
  pub record Shared (N : Names) (b : List Item) : Type 0 where
    pub parties : known s 0 b ≡ N.parties
    pub assets : known s 1 b ≡ N.assets
    pub fields : known s 2 b ≡ N.fields
    pub states : Prefix (known s 5 b) N.states
    pub strings : Prefix (known s 6 b) N.strings

  pub shared_back : (N : Names) (b is : List Item) → every late is ≡ true → Shared N (latest_first b is) → Shared N b
  unfolding is_one_of pick
  shared_back N b is e h =
      record {
        parties = sym (late_known s 0 is b (omega arith) e) ∙ h.parties;
        assets = sym (late_known s 1 is b (omega arith) e) ∙ h.assets;
        fields = sym (late_known s 2 is b (omega arith) e) ∙ h.fields;
        states = prefix_more (prefix_items s 5 is b (shared_stays 5 refl is)) h.states;
        strings = prefix_more (prefix_items s 6 is b (shared_stays 6 refl is)) h.strings;
      }

  begun_tabled : {b : List Item} {m : Mid} {ns : List ℕ} {p : Draft} → Tabled s b m ns p → Tabled s (opens ∷ b) m ns (begun s p)
  unfolding known every
  begun_tabled {b} {m} {ns} {p} t = record { tells = record { finding = _; noted = begun_noted s b t.tells.finding p t.tells.noted }; right = t.right; writing = begun_writes s t.writing }

  begun_body : (p : Draft) → length p.notes ≡ notes_length → note (begun s p).notes body_nodes ≡ 0
  begun_body p l =
      let n = set p.notes 8 0 in
      let e : length n ≡ length p.notes = length-set p.notes 8 0 in
      (set_keeps body_nodes (set n body_nodes 0) events_here 0 refl).same ∙ set_same n body_nodes 0 (omega arith)

  begun_events : (p : Draft) → length p.notes ≡ notes_length → note (begun s p).notes events_here ≡ 0
  begun_events p l =
      let n = set p.notes 8 0 in
      let m = set n body_nodes 0 in
      let e : length n ≡ length p.notes = length-set p.notes 8 0 in
      let f : length m ≡ length n = length-set n body_nodes 0 in
      set_same m events_here 0 (omega arith)

  -- the items of a body
  body_parts : Body → List Item
  body_parts i = opens ∷ (block_items in_function i.statements ++ of_each event_items i.events)

  -- ---- the parts of one function, whose names are M

  module _ (M : Names) where
    precondition_tabled : (t : Precondition) (b : List Item) (m : Mid) (ns : List ℕ) (p : Draft) → is_precondition s t ≡ true → Clean s b (precondition_items t)
        → Agree s in_function M (latest_first b (precondition_items t)) → nodes p + precondition_size (precondition_of s M t) ≤ max_nodes → Tabled s b m ns p
        → Tabled s (latest_first b (precondition_items t)) m (ns ++ precondition_nodes (precondition_of s M t)) (run_precondition s t p)
    unfolding precondition_items precondition_of precondition_nodes precondition_size run_precondition is_precondition latest_first
    precondition_tabled omitted b m ns p h l a few t = record { tells = t.tells; right = t.right; writing = writing_same (sym (append_none ns)) t.writing }
    precondition_tabled (given c) b m ns p h l a few t = condition_tabled s in_function M c b m ns p h l a few t

    -- what a body leaves
    record Ran (b : List Item) (m : Mid) (ns : List ℕ) (i : Body) (q : Draft) : Type 0 where
      tabled : Tabled s b m ns q
      body : note q.notes body_nodes ≡ block_size (block_of s M i.statements)
      events : note q.notes events_here ≡ length i.events

    body_ran : (i : Body) (b : List Item) (m : Mid) (ns rows : List ℕ) (p : Draft) → m.events ≡ event_section rows → length rows ≡ count 7 b * event_words
        → is_block s i.statements ≡ true → every (is_event s) i.events ≡ true → Clean s b (body_parts i) → Agree s in_function M (latest_first b (body_parts i))
        → nodes p + (block_size (block_of s M i.statements) + events_size (each_of (event_of s M) i.events)) ≤ max_nodes → Tabled s b m ns p
        → Ran (latest_first b (body_parts i)) (with_event_rows m (event_section (rows ++ event_rows (nodes p + block_size (block_of s M i.statements)) (each_of (event_of s M) i.events))))
        (ns ++ (block_nodes (block_of s M i.statements) ++ joined event_nodes (each_of (event_of s M) i.events))) i (run_body s i p)
    unfolding body_parts run_body latest_first count pick
    body_ran i b m ns rows p er el hb he l a few t =
        let B = block_of s M i.statements in
        let es = each_of (event_of s M) i.events in
        let ib = block_items in_function i.statements in
        let ie = of_each event_items i.events in
        let b0 = opens ∷ b in
        let b1 = latest_first b0 ib in
        let ends : latest_first b0 (ib ++ ie) ≡ latest_first b1 ie = latest_append b0 ib ie in
        let a2 : Agree s in_function M (latest_first b1 ie) = subst (Agree s in_function M) ends a in
        let a1 : Agree s in_function M b1 = agree_back s in_function M b1 ie (events_of s M i.events he).plains a2 in
        let p0 = begun s p in
        let t0 : Tabled s b0 m ns p0 = begun_tabled t in
        let n0 : nodes p0 ≡ nodes p = nodes_same t.writing t0.writing in
        let p1 = run_statements s (nodes p) i.statements p0 in
        let t1 : Tabled s b1 m (ns ++ block_nodes B) p1 = statements_tabled s M i.statements (nodes p) b0 m ns p0 hb (clean_first s b0 ib ie l.1) a1 (sym n0) (omega arith) t0 in
        let lb : length (block_nodes B) ≡ block_size B * 3 = length_block B in
        let n1 : nodes p1 ≡ nodes p + block_size B = nodes_after (block_nodes B) (block_size B) t.writing t1.writing lb in
        let ob = block_of_lem s in_function M i.statements hb in
        let cb : count 7 b1 ≡ count 7 b + tally 7 ib = count_latest 7 ib b0 (always_on 7 refl ib) in
        let ct : tally 7 ib ≡ 0 = ob.events in
        let t2 : Tabled s (latest_first b1 ie) (with_event_rows m (event_section (rows ++ event_rows (nodes p1) es))) ((ns ++ block_nodes B) ++ joined event_nodes es) (run_events s i.events p1) =
        events_tabled s M i.events b1 m (ns ++ block_nodes B) rows p1 er (omega arith) he (clean_second s b0 ib ie l.1) a2 (omega arith) t1 in
        let z0 : length p.notes ≡ notes_length = t.writing.size in
        let z1 : length p0.notes ≡ notes_length = t0.writing.size in
        let z2 : length p1.notes ≡ notes_length = t1.writing.size in
        let told0 : note p0.notes body_nodes ≡ nodes p0 - nodes p = begun_body p z0 ∙ (let e : 0 ≡ nodes p0 - nodes p = omega arith in e) in
        let told : note p1.notes body_nodes ≡ nodes p1 - nodes p = statements_told s (nodes p) i.statements p0 (omega arith) told0 in
        let here0 : note p1.notes events_here ≡ 0 = (statements_keep events_here events_here_spared refl s refl (nodes p) i.statements p0).same ∙ begun_events p z0 in
        let le : length es ≡ length i.events = length_each (event_of s M) i.events in
        let lf : length es ≤ events_size es = events_few es in
        let here : note (run_events s i.events p1).notes events_here ≡ note p1.notes events_here + length i.events = events_here_lem s i.events p1 (omega arith) (omega arith) in
        record {
          tabled = subst (λ (is : List Item). Tabled s is (with_event_rows m (event_section (rows ++ event_rows (nodes p + block_size B) es))) (ns ++ (block_nodes B ++ joined event_nodes es)) (run_events s i.events p1)) (sym ends)
              (record {
                tells = t2.tells;
                right = t2.right;
                writing = writing_described (λ j. sections_at s (latest_first b1 ie) (with_event_rows m (event_section (rows ++ event_rows (n1 j) es)))) (writing_same (append_assoc ns (block_nodes B) (joined event_nodes es)) t2.writing);
              });
          body = (events_keep body_nodes body_nodes_spared refl s refl i.events p1).same ∙ told ∙ (let e : nodes p1 - nodes p ≡ block_size B = omega arith in e);
          events = here ∙ (let e : note p1.notes events_here + length i.events ≡ length i.events = omega arith in e);
        }

  -- ---- one function

  -- its items, part by part
  abbrev last_items : Function → List Item
  last_items f = state_item f.last ∷ []

  function_items_lem : (f : Function)
      → function_items f ≡ head_items s f ++ (declared 3 f.values ++ (declared 4 f.parameters ++ (precondition_items f.precondition ++ (body_parts f.body ++ last_items f))))
  unfolding function_items body_parts
  function_items_lem f =
      ap (λ (is : List Item). head_items s f ++ (declared 3 f.values ++ (declared 4 f.parameters ++ (precondition_items f.precondition ++ (opens ∷ is)))))
      (sym (append_assoc (block_items in_function f.body.statements) (of_each event_items f.body.events) (last_items f)))

  code_items_lem : (f : Function) → code_items f ≡ precondition_items f.precondition ++ (body_parts f.body ++ last_items f)
  unfolding body_parts
  code_items_lem f =
      ap (λ (is : List Item). precondition_items f.precondition ++ (opens ∷ is))
      (sym (append_assoc (block_items in_function f.body.statements) (of_each event_items f.body.events) (last_items f)))

  body_plain : (M : Names) (i : Body) → is_block s i.statements ≡ true → every (is_event s) i.events ≡ true → every plain (body_parts i) ≡ true
  unfolding body_parts every
  body_plain M i hb he =
      every_append plain (block_items in_function i.statements) (of_each event_items i.events) (block_of_lem s in_function M i.statements hb).plains (events_of s M i.events he).plains

  -- the number of a state mentioned here
  pub state_shared : (vs : List Word) (b : List Item) (p : Draft) (q : Span) → Tells s b p.notes → judge s b (state_item q) ≡ fine → Prefix (known s 5 (state_item q ∷ b)) vs → state_in s q p ≡ number_of (word s q) vs
  state_shared vs b p q t l a = (looks s t).number 5 (omega arith) (word s q) ∙ sym (mentioned_number s 5 q q.start b) ∙ number_mentioned s 5 q q.start b vs l a

  -- the places of a function's items
  module _ (f : Function) (b : List Item) where
    head_place : List Item
    head_place = latest_first b (head_items s f)

    values_place : List Item
    values_place = latest_first head_place (declared 3 f.values)

    names_place : List Item
    names_place = latest_first values_place (declared 4 f.parameters)

    code_place : List Item
    code_place = latest_first names_place (precondition_items f.precondition)

    body_place : List Item
    body_place = latest_first code_place (body_parts f.body)

    ends_code : latest_first names_place (code_items f) ≡ state_item f.last ∷ body_place
    unfolding code_place body_place latest_first
    ends_code =
        ap (latest_first names_place) (code_items_lem f)
        ∙ latest_append names_place (precondition_items f.precondition) (body_parts f.body ++ last_items f)
        ∙ latest_append code_place (body_parts f.body) (last_items f)

    ends_function : latest_first b (function_items f) ≡ state_item f.last ∷ body_place
    unfolding head_place values_place names_place code_place body_place latest_first
    ends_function =
        let h = head_items s f in let z = declared 3 f.values in let y = declared 4 f.parameters in
        let k = precondition_items f.precondition in let i = body_parts f.body in let l = last_items f in
        ap (latest_first b) (function_items_lem f)
        ∙ latest_append b h (z ++ (y ++ (k ++ (i ++ l))))
        ∙ latest_append head_place z (y ++ (k ++ (i ++ l)))
        ∙ latest_append values_place y (k ++ (i ++ l))
        ∙ latest_append names_place k (i ++ l)
        ∙ latest_append code_place i l

    record Parted : Type 0 where
      head : Clean s b (head_items s f)
      values : Clean s head_place (declared 3 f.values)
      names : Clean s values_place (declared 4 f.parameters)
      code : Clean s names_place (precondition_items f.precondition)
      body : Clean s code_place (body_parts f.body)
      last : judge s body_place (state_item f.last) ≡ fine

    parted : Clean s b (function_items f) → Parted
    unfolding head_place values_place names_place code_place body_place
    parted c =
        let h = head_items s f in let z = declared 3 f.values in let y = declared 4 f.parameters in
        let k = precondition_items f.precondition in let i = body_parts f.body in let l = last_items f in
        let c0 : Clean s b (h ++ (z ++ (y ++ (k ++ (i ++ l))))) = subst (Clean s b) (function_items_lem f) c in
        let c1 = clean_second s b h (z ++ (y ++ (k ++ (i ++ l)))) c0 in
        let c2 = clean_second s head_place z (y ++ (k ++ (i ++ l))) c1 in
        let c3 = clean_second s values_place y (k ++ (i ++ l)) c2 in
        let c4 = clean_second s names_place k (i ++ l) c3 in
        let c5 = clean_second s code_place i l c4 in
        record {
          head = clean_first s b h (z ++ (y ++ (k ++ (i ++ l)))) c0;
          values = clean_first s head_place z (y ++ (k ++ (i ++ l))) c1;
          names = clean_first s values_place y (k ++ (i ++ l)) c2;
          code = clean_first s names_place k (i ++ l) c3;
          body = clean_first s code_place i l c4;
          last = c5.0;
        }

    -- the names of the function, at its end
    function_agrees : (N : Names) → FunctionSorted s f → Parted → Shared N (state_item f.last ∷ body_place) → Differ s (state_item f.last ∷ body_place)
        → Agree s in_function (within N (each_of (word s) f.values) (each_of (word s) f.parameters)) (state_item f.last ∷ body_place)
    unfolding head_place values_place names_place known latest_first is_one_of pick
    function_agrees N h c r d =
        let zs = each_of (word s) f.values in
        let ys = each_of (word s) f.parameters in
        let w = code_of s N f h in
        let v3 : known s 3 values_place ≡ zs = declared_known s 3 f.values head_place c.values in
        let v4 : known s 3 names_place ≡ zs = declared_other s 3 4 refl f.parameters values_place ∙ v3 in
        let v5 : known s 3 (latest_first names_place (code_items f)) ≡ zs = plain_known s 3 (code_items f) names_place (omega arith) w.plains ∙ v4 in
        let p3 : known s 4 values_place ≡ [] = declared_other s 4 3 refl f.values head_place in
        let p4 : known s 4 names_place ≡ ys = declared_known s 4 f.parameters values_place c.names ∙ ap (λ (x : List Word). x ++ ys) p3 in
        let p5 : known s 4 (latest_first names_place (code_items f)) ≡ ys = plain_known s 4 (code_items f) names_place (omega arith) w.plains ∙ p4 in
        let e : latest_first names_place (code_items f) ≡ state_item f.last ∷ body_place = ends_code in
        record {
          parties = r.parties;
          assets = r.assets;
          fields = r.fields;
          values = ap (known s 3) (sym e) ∙ v5;
          parameters = ap (known s 4) (sym e) ∙ p5;
          states = r.states;
          strings = r.strings;
          differ = d;
        }

    event_count : (N : Names) → FunctionSorted s f → count 7 code_place ≡ count 7 b
    unfolding head_place values_place names_place code_place count latest_first
    event_count N h =
        let k = precondition_items f.precondition in
        let a : count 7 code_place ≡ count 7 names_place + tally 7 k = count_latest 7 k names_place (always_on 7 refl k) in
        let z : tally 7 k ≡ 0 = (precondition_of_lem s N f.precondition h.precondition).events in
        let c : count 7 names_place ≡ count 7 values_place = declared_count s 7 4 f.parameters values_place in
        let d : count 7 values_place ≡ count 7 b = declared_count s 7 3 f.values head_place in
        omega arith

    heads_few_here : Clean s b (head_items s f) → length (headers s b) < max_functions
    unfolding judge headers
    heads_few_here c = ltb-true _ _ (test_holds _ 11 f.place (lesser_left (or_breaks (ltb (length (headers s b)) max_functions) 11 f.place) _ c.1.1.0))

    head_more : length (headers s b) < max_functions → length (headers s head_place) ≡ length (headers s b) + 1
    unfolding head_place latest_first headers
    head_more few =
        let more : headers s head_place ≡ headers s b ++ (header s (uses (0 ∷ []) f.party ∷ state_item f.state ∷ b) f.state f.party f.name ∷ []) = pick_true _ _ _ (lt-ltb _ _ few) in
        ap length more ∙ length-append (headers s b) _

    values_few : Parted → length (each_of (word s) f.values) ≤ max_values
    unfolding head_place values_place known latest_first is_one_of pick
    values_few c =
        let v : known s 3 values_place ≡ each_of (word s) f.values = declared_known s 3 f.values head_place c.values in
        let e : length (known s 3 values_place) ≤ max_values = known_few s 3 values_place in
        subst (λ (ws : List Word). length ws ≤ max_values) v e

    parameters_few : Parted → length (each_of (word s) f.parameters) ≤ max_parameters
    unfolding head_place values_place names_place known latest_first is_one_of pick
    parameters_few c =
        let n : known s 4 values_place ≡ [] = declared_other s 4 3 refl f.values head_place in
        let v : known s 4 names_place ≡ each_of (word s) f.parameters = declared_known s 4 f.parameters values_place c.names ∙ ap (λ (x : List Word). x ++ each_of (word s) f.parameters) n in
        let e : length (known s 4 names_place) ≤ max_parameters = known_few s 4 names_place in
        subst (λ (ws : List Word). length ws ≤ max_parameters) v e

    -- the names of its parameters, in their rows
    names_written : (N : Names) (m : Mid) (ns P : List ℕ) (q : Draft) → m.parameters ≡ parameter_section P → length P ≡ length (headers s b) * parameter_words
        → FunctionSorted s f → Parted → Tabled s head_place m ns q
        → Tabled s names_place (with_parameter_rows m (parameter_section (P ++ parameter_rows (function_of s N f)))) ns (run_names s 4 f.parameters (run_names s 3 f.values q))
    unfolding function_of parameter_rows joined head_place values_place names_place known latest_first is_one_of pick
    names_written N m ns P q mp lp h c t =
        let i = length (headers s b) in
        let few : i < max_functions = heads_few_here c.head in
        let zs = each_of (word s) f.values in
        let ys = each_of (word s) f.parameters in
        let v3 : known s 3 values_place ≡ zs = declared_known s 3 f.values head_place c.values in
        let p3 : known s 4 values_place ≡ [] = declared_other s 4 3 refl f.values head_place in
        let p4 : known s 4 names_place ≡ ys = declared_known s 4 f.parameters values_place c.names ∙ ap (λ (x : List Word). x ++ ys) p3 in
        let nz : every is_name zs ≡ true = words_named s f.values h.values in
        let ny : every is_name ys ≡ true = words_named s f.parameters h.parameters in
        let lz : length zs ≤ max_values = values_few c in
        let ly : length ys ≤ max_parameters = parameters_few c in
        let jz : length (joined packed_row zs) ≡ length zs * packed_words = packed_long zs nz in
        let jy : length (joined packed_row ys) ≡ length ys * packed_words = packed_long ys ny in
        let Z = padded (max_values * packed_words) (joined packed_row zs) in
        let lZ : length Z ≡ max_values * packed_words = rows_long packed_row is_name packed_words max_values length_packed_row zs nz lz in
        let lPZ : length (P ++ Z) ≡ length P + length Z = length-append P Z in
        let h3 : length (headers s head_place) ≡ i + 1 = head_more few in
        let h4 : length (headers s values_place) ≡ i + 1 = ap length (headers_kept s (declared 3 f.values) head_place (declared_heads 3 f.values)) ∙ h3 in
        let r3 : Room s 3 i P = record { before = 0; later = omega arith; named = omega arith; first = refl; fits = omega arith; function = few; long = omega (arith, lp) } in
        let r4 : Room s 4 i (P ++ Z) = record { before = max_values; later = omega arith; named = omega arith; first = refl; fits = omega arith; function = few; long = omega (arith, lp, lPZ, lZ) } in
        let e3 : m.parameters ≡ parameter_section (P ++ joined packed_row (known s 3 head_place)) = mp ∙ ap parameter_section (sym (append_none P)) in
        let t4 : Tabled s values_place (with_names s m 3 P values_place) ns (run_names s 3 f.values q) =
        parameters_tabled s 3 i P f.values head_place m ns q r3 h3 h.values (reparametered s e3 t) in
        let e4 : parameter_section (P ++ joined packed_row (known s 3 values_place)) ≡ parameter_section ((P ++ Z) ++ joined packed_row (known s 4 values_place)) =
        ap (λ (ws : List Word). parameter_section (P ++ joined packed_row ws)) v3
        ∙ section_filled (max_values * packed_words) P (joined packed_row zs) (omega (arith, jz, lz)) (omega (arith, lp, few))
        ∙ ap parameter_section (sym (append_none (P ++ Z)))
        ∙ ap (λ (ws : List Word). parameter_section ((P ++ Z) ++ joined packed_row ws)) (sym p3) in
        let t5 : Tabled s names_place (with_names s m 4 (P ++ Z) names_place) ns (run_names s 4 f.parameters (run_names s 3 f.values q)) =
        parameters_tabled s 4 i (P ++ Z) f.parameters values_place m ns (run_names s 3 f.values q) r4 h4 h.parameters (reparametered s e4 t4) in
        let e5 : parameter_section ((P ++ Z) ++ joined packed_row (known s 4 names_place)) ≡ parameter_section (P ++ (Z ++ padded (max_parameters * packed_words) (joined packed_row ys))) =
        ap (λ (ws : List Word). parameter_section ((P ++ Z) ++ joined packed_row ws)) p4
        ∙ section_filled (max_parameters * packed_words) (P ++ Z) (joined packed_row ys) (omega (arith, jy, ly)) (omega (arith, lp, few, lPZ, lZ))
        ∙ ap parameter_section (append_assoc P Z (padded (max_parameters * packed_words) (joined packed_row ys))) in
        reparametered s e5 t5

    pub parameter_rows_long : (N : Names) → FunctionSorted s f → Clean s b (function_items f) → length (parameter_rows (function_of s N f)) ≡ parameter_words
    unfolding function_of
    parameter_rows_long N h l =
        let c = parted l in
        length_parameter_rows (function_of s N f) (words_named s f.values h.values) (values_few c) (words_named s f.parameters h.parameters) (parameters_few c)

    shared_first : (N : Names) → FunctionSorted s f → Shared N (latest_first b (function_items f)) → Shared N (state_item f.state ∷ b)
    unfolding function_items latest_first every
    shared_first N h r =
        shared_back N (state_item f.state ∷ b)
        (uses (0 ∷ []) f.party ∷ heads f.place f.state f.party f.name ∷ (declared 3 f.values ++ (declared 4 f.parameters ++ code_items f))) (function_late s N f h) r

    module _ (N : Names) (m : Mid) (ns R E P : List ℕ) (p : Draft) where
      M : Names
      M = within N (each_of (word s) f.values) (each_of (word s) f.parameters)

      function_written :
          m.functions ≡ function_section R → length R ≡ length (headers s b) * function_words → m.events ≡ event_section E → length E ≡ count 7 b * event_words → count 7 b ≤ max_events
          → m.parameters ≡ parameter_section P → length P ≡ length (headers s b) * parameter_words
          → FunctionSorted s f → Clean s b (function_items f) → Shared N (latest_first b (function_items f)) → Differ s b → nodes p + function_size (function_of s N f) ≤ max_nodes → Tabled s b m ns p
          → Writing (sections_at s (latest_first b (function_items f)) (function_mid m R E P (nodes p) (count 7 b) (function_of s N f))) (ns ++ function_nodes (function_of s N f)) (run_function s f p)
      unfolding run_function function_of function_size function_nodes M head_place values_place names_place code_place body_place latest_first every
      function_written mr lr me le few mp lp h l r d room t =
          let c = parted l in
          let b10 = state_item f.last ∷ body_place in
          let ends : latest_first b (function_items f) ≡ b10 = ends_function in
          let items-late : every late (function_items f) ≡ true = function_late s N f h in
          let r10 : Shared N b10 = subst (Shared N) ends r in
          let rb : Shared N b = shared_back N b (function_items f) items-late r in
          let d10 : Differ s b10 = subst (Differ s) ends (differ_items s (function_items f) b (late_settled (function_items f) items-late) l d) in
          let a10 : Agree s in_function M b10 = function_agrees N h c r10 d10 in
          let hb = both_left (is_block s f.body.statements) (every (is_event s) f.body.events) h.body in
          let he = both_right (is_block s f.body.statements) (every (is_event s) f.body.events) h.body in
          let a9 : Agree s in_function M body_place = agree_back s in_function M body_place (last_items f) refl a10 in
          let a6 : Agree s in_function M code_place = agree_back s in_function M code_place (body_parts f.body) (body_plain M f.body hb he) a9 in
          let C = precondition_of s M f.precondition in
          let B = block_of s M f.body.statements in
          let es = each_of (event_of s M) f.body.events in
          let q = state_in s f.state p in
          let p1 = run_state s f.state p in
          let y = number_in s p1.notes 0 (word s f.party) in
          let p3 = run_head s f p in
          let m3 = with_function_rows m (function_section (R ++ begun_row q y (word s f.name))) in
          let t3 : Tabled s head_place m3 ns p3 = head_tabled s f b m ns R p mr lr (heads_few_here c.head) h.state h.name t in
          let p5 = run_names s 4 f.parameters (run_names s 3 f.values p3) in
          let m5 = with_parameter_rows m3 (parameter_section (P ++ parameter_rows (function_of s N f))) in
          let t5 : Tabled s names_place m5 ns p5 = names_written N m3 ns P p3 mp lp h c t3 in
          let n5 : nodes p5 ≡ nodes p = nodes_same t.writing t5.writing in
          let p6 = run_precondition s f.precondition p5 in
          let t6 : Tabled s code_place m5 (ns ++ precondition_nodes C) p6 = precondition_tabled M f.precondition names_place m5 ns p5 h.precondition c.code a6 (omega arith) t5 in
          let n6 : nodes p6 ≡ nodes p + precondition_size C = nodes_after (precondition_nodes C) (precondition_size C) t.writing t6.writing (length_precondition C) in
          let c6 : count 7 code_place ≡ count 7 b = event_count N h in
          let p9 = run_body s f.body p6 in
          let rows9 = E ++ event_rows (nodes p6 + block_size B) es in
          let m9 = with_event_rows m5 (event_section rows9) in
          let t9 : Ran M body_place m9 ((ns ++ precondition_nodes C) ++ (block_nodes B ++ joined event_nodes es)) f.body p9 =
          body_ran M f.body code_place m5 (ns ++ precondition_nodes C) E p6 me (omega arith) hb he c.body a9 (omega arith) t6 in
          let p10 = run_state s f.last p9 in
          let t10 : Tabled s b10 m9 ((ns ++ precondition_nodes C) ++ (block_nodes B ++ joined event_nodes es)) p10 = state_tabled s f.last h.last t9.tabled in
          let i : note p.notes function_count ≡ length (headers s b) = t.tells.noted.functions in
          let e7 : note p.notes 7 ≡ min (count 7 b) (limit 7) = t.tells.noted.tally 7 (omega arith) (omega arith) in
          let e7b : note p.notes 7 ≡ count 7 b = omega arith in
          let hf = heads_few_here c.head in
          let r1 : Shared N (state_item f.state ∷ b) = shared_first N h r in
          let sq : q ≡ state_of s M f.state = state_shared N.states b p f.state t.tells c.head.0 r1.states in
          let t1 : Tells s (state_item f.state ∷ b) p1.notes = tell_mentioned s 5 f.state f.state.start b p (omega arith) t.tells in
          let sy : y ≡ number_of (word s f.party) N.parties = (looks s t1).number 0 (omega arith) (word s f.party) ∙ ap (number_of (word s f.party)) r1.parties in
          let sl : state_in s f.last p9 ≡ state_of s M f.last = state_number s in_function M body_place p9 f.last t9.tabled.tells c.last a10 in
          let many3 : note p10.notes 3 ≡ length (each_of (word s) f.values) = t10.tells.noted.many 3 (omega arith) ∙ ap length a10.values in
          let many4 : note p10.notes 4 ≡ length (each_of (word s) f.parameters) = t10.tells.noted.many 4 (omega arith) ∙ ap length a10.parameters in
          let before : nodes p6 - nodes p ≡ precondition_size C = omega arith in
          let events : note p9.notes events_here ≡ length es = t9.events ∙ sym (length_each (event_of s M) f.body.events) in
          let row = rest_writes R (word s f.name) (function_of s N f) q y (note p.notes function_count) (state_in s f.last p9) (nodes p) (nodes p6 - nodes p) (note p9.notes body_nodes)
          (note p.notes 7) (note p9.notes events_here) t10.writing refl (lr ∙ ap (λ (k : ℕ). k * function_words) (sym i)) (omega arith) sq sy sl many3 many4 before t9.body events refl in
          let list : (ns ++ precondition_nodes C) ++ (block_nodes B ++ joined event_nodes es) ≡ ns ++ (precondition_nodes C ++ (block_nodes B ++ joined event_nodes es)) =
          append_assoc ns (precondition_nodes C) (block_nodes B ++ joined event_nodes es) in
          subst (λ (is : List Item). Writing (sections_at s is (function_mid m R E P (nodes p) (count 7 b) (function_of s N f)))
          (ns ++ (precondition_nodes C ++ (block_nodes B ++ joined event_nodes es))) (run_function s f p)) (sym ends)
          (writing_described
          (λ j. sections_at s b10
          (with_event_rows (with_function_rows (with_parameter_rows m (parameter_section (P ++ parameter_rows (function_of s N f)))) (function_section (R ++ function_row (nodes p) (e7b j) (function_of s N f))))
          (event_section (E ++ event_rows (n6 j + block_size B) es))))
          (writing_same list row))

      pub function_tabled :
          m.functions ≡ function_section R → length R ≡ length (headers s b) * function_words → m.events ≡ event_section E → length E ≡ count 7 b * event_words → count 7 b ≤ max_events
          → m.parameters ≡ parameter_section P → length P ≡ length (headers s b) * parameter_words
          → FunctionSorted s f → Clean s b (function_items f) → Shared N (latest_first b (function_items f)) → Differ s b → nodes p + function_size (function_of s N f) ≤ max_nodes → Tabled s b m ns p
          → Tabled s (latest_first b (function_items f)) (function_mid m R E P (nodes p) (count 7 b) (function_of s N f)) (ns ++ function_nodes (function_of s N f)) (run_function s f p)
      function_tabled mr lr me le few mp lp h l r d room t =
          record {
            tells = tell_function s f b p t.tells;
            right = every_latest (right_item s) b (function_items f) t.right (function_right s N f h);
            writing = function_written mr lr me le few mp lp h l r d room t;
          }

    -- one more function
    pub headers_after : (N : Names) → FunctionSorted s f → Clean s b (function_items f) → length (headers s (latest_first b (function_items f))) ≡ length (headers s b) + 1
    unfolding function_items latest_first headers
    headers_after N h l =
        let z = declared 3 f.values in
        let y = declared 4 f.parameters in
        let k = code_items f in
        let b3 = heads f.place f.state f.party f.name ∷ uses (0 ∷ []) f.party ∷ state_item f.state ∷ b in
        let hz : heads_in z ≡ 0 = declared_heads 3 f.values in
        let hy : heads_in y ≡ 0 = declared_heads 4 f.parameters in
        let hk : heads_in k ≡ 0 = plain_heads k (code_of s N f h).plains in
        let e1 : heads_in (y ++ k) ≡ heads_in y + heads_in k = heads_append y k in
        let e2 : heads_in (z ++ (y ++ k)) ≡ heads_in z + heads_in (y ++ k) = heads_append z (y ++ k) in
        let kept : headers s (latest_first b3 (z ++ (y ++ k))) ≡ headers s b3 = headers_kept s (z ++ (y ++ k)) b3 (omega arith) in
        let few : length (headers s b) < max_functions = heads_few_here (parted l).head in
        let more : headers s b3 ≡ headers s b ++ (header s (uses (0 ∷ []) f.party ∷ state_item f.state ∷ b) f.state f.party f.name ∷ []) = pick_true _ _ _ (lt-ltb _ _ few) in
        ap length kept ∙ ap length more ∙ length-append (headers s b) _

  -- ---- all functions

  function_row_long : (N : Names) (f : Function) (first event : ℕ) → FunctionSorted s f → length (function_row first event (function_of s N f)) ≡ function_words
  unfolding function_of
  function_row_long N f first event h = function_row_is_long first event (function_of s N f) (name_length (word s f.name) h.name)

  events_counted : (N : Names) (f : Function) (b : List Item) → FunctionSorted s f → count 7 (latest_first b (function_items f)) ≡ count 7 b + length (function_of s N f).events
  unfolding function_of function_items latest_first count
  events_counted N f b h =
      let M = within N (each_of (word s) f.values) (each_of (word s) f.parameters) in
      let z = declared 3 f.values in
      let y = declared 4 f.parameters in
      let k = code_items f in
      let b3 = heads f.place f.state f.party f.name ∷ uses (0 ∷ []) f.party ∷ state_item f.state ∷ b in
      let b4 = latest_first b3 z in
      let b5 = latest_first b4 y in
      let e : latest_first b3 (z ++ (y ++ k)) ≡ latest_first b5 k = latest_append b3 z (y ++ k) ∙ latest_append b4 y k in
      let c1 : count 7 (latest_first b5 k) ≡ count 7 b5 + tally 7 k = count_latest 7 k b5 (always_on 7 refl k) in
      let c2 : tally 7 k ≡ length f.body.events = (code_of s N f h).events in
      let c3 : count 7 b5 ≡ count 7 b4 = declared_count s 7 4 f.parameters b4 in
      let c4 : count 7 b4 ≡ count 7 b = declared_count s 7 3 f.values b3 in
      let c5 : length (each_of (event_of s M) f.body.events) ≡ length f.body.events = length_each (event_of s M) f.body.events in
      ap (count 7) e ∙ (let g : count 7 (latest_first b5 k) ≡ count 7 b + length (each_of (event_of s M) f.body.events) = omega arith in g)

  pub functions_tabled :
      (N : Names) (fs : List Function) (b : List Item) (m : Mid) (ns R E P : List ℕ) (p : Draft)
      → m.functions ≡ function_section R → length R ≡ length (headers s b) * function_words → m.events ≡ event_section E → length E ≡ count 7 b * event_words → count 7 b ≤ max_events
      → m.parameters ≡ parameter_section P → length P ≡ length (headers s b) * parameter_words
      → Each (FunctionSorted s) fs → Clean s b (of_each function_items fs) → Shared N (latest_first b (of_each function_items fs)) → Differ s b
      → nodes p + total function_size (each_of (function_of s N) fs) ≤ max_nodes → Tabled s b m ns p
      → Tabled s (latest_first b (of_each function_items fs)) (functions_mid m R E P (nodes p) (count 7 b) (each_of (function_of s N) fs)) (ns ++ joined function_nodes (each_of (function_of s N) fs)) (run_functions s fs p)
  unfolding run_functions of_each each_of function_rows all_event_rows joined total latest_first
  functions_tabled N [] b m ns R E P p mr lr me le few mp lp h l r d room t =
      let e : m.functions ≡ function_section (R ++ []) = mr ∙ ap function_section (sym (append_none R)) in
      let g : m.events ≡ event_section (E ++ []) = me ∙ ap event_section (sym (append_none E)) in
      let k : m.parameters ≡ parameter_section (P ++ []) = mp ∙ ap parameter_section (sym (append_none P)) in
      record {
        tells = t.tells;
        right = t.right;
        writing = writing_described (λ i. sections_at s b (with_event_rows (with_function_rows (with_parameter_rows m (k i)) (e i)) (g i))) (writing_same (sym (append_none ns)) t.writing);
      }
  functions_tabled N (f ∷ fs) b m ns R E P p mr lr me le few mp lp h l r d room t =
      let F = function_of s N f in
      let Fs = each_of (function_of s N) fs in
      let it = function_items f in
      let is = of_each function_items fs in
      let b1 = latest_first b it in
      let ends : latest_first b (it ++ is) ≡ latest_first b1 is = latest_append b it is in
      let r2 : Shared N (latest_first b1 is) = subst (Shared N) ends r in
      let r1 : Shared N b1 = shared_back N b1 is (functions_late s N fs h.1) r2 in
      let l1 = clean_first s b it is l in
      let l2 = clean_second s b it is l in
      let d1 : Differ s b1 = differ_items s it b (late_settled it (function_late s N f h.0)) l1 d in
      let R1 = R ++ function_row (nodes p) (count 7 b) F in
      let E1 = E ++ event_rows (nodes p + precondition_size F.precondition + block_size F.body) F.events in
      let P1 = P ++ parameter_rows F in
      let m1 = function_mid m R E P (nodes p) (count 7 b) F in
      let t1 : Tabled s b1 m1 (ns ++ function_nodes F) (run_function s f p) = function_tabled f b N m ns R E P p mr lr me le few mp lp h.0 l1 r1 d (omega arith) t in
      let n1 : nodes (run_function s f p) ≡ nodes p + function_size F = nodes_after (function_nodes F) (function_size F) t.writing t1.writing (length_function F) in
      let lR : length R1 ≡ length R + length (function_row (nodes p) (count 7 b) F) = length-append R (function_row (nodes p) (count 7 b) F) in
      let lr1 : length (function_row (nodes p) (count 7 b) F) ≡ function_words = function_row_long N f (nodes p) (count 7 b) h.0 in
      let lP : length P1 ≡ length P + length (parameter_rows F) = length-append P (parameter_rows F) in
      let lp1 : length (parameter_rows F) ≡ parameter_words = parameter_rows_long f b N h.0 l1 in
      let hb : length (headers s b1) ≡ length (headers s b) + 1 = headers_after f b N h.0 l1 in
      let lE : length E1 ≡ length E + length (event_rows (nodes p + precondition_size F.precondition + block_size F.body) F.events) = length-append E _ in
      let le1 : length (event_rows (nodes p + precondition_size F.precondition + block_size F.body) F.events) ≡ length F.events * 3 = length_event_rows (nodes p + precondition_size F.precondition + block_size F.body) F.events in
      let cb : count 7 b1 ≡ count 7 b + length F.events = events_counted N f b h.0 in
      let few1 : count 7 b1 ≤ max_events = count_few s 7 it b l1 few in
      let t2 = functions_tabled N fs b1 m1 (ns ++ function_nodes F) R1 E1 P1 (run_function s f p) refl (omega arith) refl (omega arith) few1 refl (omega arith) h.1 l2 r2 d1 (omega arith) t1 in
      let rs : R1 ++ function_rows (nodes (run_function s f p)) (count 7 b1) Fs ≡ R ++ (function_row (nodes p) (count 7 b) F ++ function_rows (nodes p + function_size F) (count 7 b + length F.events) Fs) =
      append_assoc R (function_row (nodes p) (count 7 b) F) _ ∙ (λ i. R ++ (function_row (nodes p) (count 7 b) F ++ function_rows (n1 i) (cb i) Fs)) in
      let es : E1 ++ all_event_rows (nodes (run_function s f p)) Fs ≡ E ++ (event_rows (nodes p + precondition_size F.precondition + block_size F.body) F.events ++ all_event_rows (nodes p + function_size F) Fs) =
      append_assoc E _ _ ∙ (λ i. E ++ (event_rows (nodes p + precondition_size F.precondition + block_size F.body) F.events ++ all_event_rows (n1 i) Fs)) in
      let ps : P1 ++ joined parameter_rows Fs ≡ P ++ (parameter_rows F ++ joined parameter_rows Fs) = append_assoc P (parameter_rows F) (joined parameter_rows Fs) in
      subst (λ (ks : List Item). Tabled s ks (functions_mid m R E P (nodes p) (count 7 b) (F ∷ Fs)) (ns ++ (function_nodes F ++ joined function_nodes Fs)) (run_functions s fs (run_function s f p))) (sym ends)
      (record {
        tells = t2.tells;
        right = t2.right;
        writing = writing_described (λ i. sections_at s (latest_first b1 is) (with_event_rows (with_function_rows (with_parameter_rows m (parameter_section (ps i))) (function_section (rs i))) (event_section (es i))))
            (writing_same (append_assoc ns (function_nodes F) (joined function_nodes Fs)) t2.writing);
      })
