-- What the pass does for a whole tree, part by part: the pass over a text (specs/Walk.antt) is the grammar, then this.
use Prim.Native.Nat.{ℕ, ◌-◌}
use mathlib.Core.Bool.{Bool, true, false}
use mathlib.Core.List.{List, [], ◌∷◌}
use lib.ListN.{set}
use lib.Dec.{eqb}
use Rattle.laws.specs.Choice.{pick}
use Rattle.words.specs.Words.{now_word, true_word}
use Rattle.contract.specs.Tree.{Verb, set as set_verb, ok as ok_verb}
use Rattle.contract.specs.Encode.{zeros}
use Rattle.contract.specs.Table.{table_length, constant_kind, string_kind as stringNode, now_kind, true_kind, false_kind, not_kind, value_move_kind, asset_move_kind, whole_move_kind, conditional_kind}
use Rattle.entries.specs.declared.Known.{Known}
use Rattle.entries.specs.Draft.{Draft, note, with_notes, with_table, counted, declare, mention, number_in, party_used, name_in, holder_in, value_target, asset_target, wanted, put, put_name, put_leaf, clause_party, clause_verb, clause_field, clause_end, function_count, body_nodes, events_here, head, function_rest, title, question, place, notes_length}
use Rattle.reading.specs.Syntax.{Span, Term, named, numeral, quoted, fixed, negated, operated, Action, sends, moves, moves_all, Block, none, perform, conditional, Event, Body, Precondition, omitted, given, Function, Clause, Syntax}
use Rattle.reading.specs.Grammar.{Parsed, done, no}
use Rattle.reading.specs.Rules.{word, Finding, fine, breaks}
use Rattle.reading_laws.specs.Walk.{Walk, on, stop, draft, nodes, counting, noting, operator_node, closed, cursor_at, one_more_event, event_written, begun}

-- a pass over nothing yet
abbrev pub fresh : Draft
fresh = draft (zeros table_length) (zeros notes_length)

-- the least finding that notes hold
abbrev pub finding_of : List ℕ → Finding
finding_of n = pick (eqb (note n question) 0) fine (breaks (note n question) (note n place))

abbrev pub fixed_node : ℕ → ℕ
fixed_node k = pick (eqb k now_word) now_kind (pick (eqb k true_word) true_kind false_kind)

module _ (s : List ℕ) where
  -- ---- names

  unfoldable pub run_names : ℕ → List Span → Draft → Draft
  run_names k [] p = p
  run_names k (x ∷ xs) p = run_names k xs (declare s k x.start x.end p)

  abbrev pub run_state : Span → Draft → Draft
  run_state q p = mention s 5 q.start q.end q.start p

  abbrev pub state_in : Span → Draft → ℕ
  state_in q p = number_in s p.notes 5 (word s q)

  -- ---- clauses

  unfoldable pub run_fields : List Span → Draft → Draft
  run_fields [] p = p
  run_fields (x ∷ xs) p = run_fields xs (clause_field s x.start x.end p)

  abbrev pub verb_number : Verb → ℕ
  verb_number set_verb = 0
  verb_number ok_verb = 1

  abbrev pub end_clause : Draft → Draft
  end_clause p = with_notes p (clause_end p.notes)

  unfoldable pub run_clause : Clause → Draft → Draft
  run_clause k p =
      end_clause (run_fields k.fields (clause_verb (verb_number k.verb) (clause_party s k.party.start k.party.end p)))

  unfoldable pub run_clauses : List Clause → Draft → Draft
  run_clauses [] p = p
  run_clauses (k ∷ ks) p = run_clauses ks (run_clause k p)

  -- ---- expressions and conditions

  abbrev pub quoted_notes : Span → ℕ → Draft → Draft
  quoted_notes x o p = mention s 6 x.start x.end o (counting 9 o p)

  unfoldable pub run_term : Bool → Term → Draft → Draft
  run_term h (named x) p = put_name (name_in s p.notes h (word s x)) x.start p
  run_term h (numeral v o) p = put_leaf constant_kind v o p
  run_term h (quoted x o) p = put stringNode (number_in s (counted 9 o p.notes) 6 (word s x)) (nodes (quoted_notes x o p)) (quoted_notes x o p)
  run_term h (fixed k o) p = put_leaf (fixed_node k) 0 o p
  run_term h (negated o t) p = put not_kind 0 (nodes p) (run_term h t (counting 9 o p))
  run_term h (operated k o t u) p = put (operator_node k) 0 (nodes p) (run_term h u (counting 9 o (run_term h t p)))

  -- ---- statements: o is the statement's place, `from` its block's first node

  abbrev pub run_send : ℕ → ℕ → Span → Draft → Draft
  run_send from o t p =
      put value_move_kind 0 from (put_name (value_target s (counted 8 o p.notes) (word s t)) t.start (counting 8 o p))

  abbrev pub run_source : Bool → ℕ → Span → Draft → Draft
  run_source h o x p = put_name (holder_in s (counted 8 o p.notes) h (word s x)) x.start (counting 8 o p)

  abbrev pub run_target : Bool → Span → Draft → Draft
  run_target h t p = put_name (asset_target s p.notes h (word s t)) t.start p

  abbrev pub whole_notes : ℕ → Span → List ℕ → List ℕ
  whole_notes o t n = counted 9 t.start (counted 8 o n)

  abbrev pub run_whole_by : Known → Known → ℕ → ℕ → Span → Draft → Draft
  run_whole_by x t from o target p =
      put whole_move_kind 0 from
      (put t.kind t.number (nodes p) (with_notes p (wanted t target.start (wanted x o (whole_notes o target p.notes)))))

  abbrev pub run_whole : Bool → ℕ → ℕ → Span → Span → Draft → Draft
  run_whole h from o x t p =
      run_whole_by (holder_in s (whole_notes o t p.notes) h (word s x)) (asset_target s (whole_notes o t p.notes) h (word s t)) from o t p

  unfoldable pub run_action : Bool → ℕ → ℕ → Action → Draft → Draft
  run_action h from o (sends e t) p = run_send from o t (run_term h e (counting 9 o p))
  run_action h from o (moves e x t) p = put asset_move_kind 0 from (run_target h t (run_source h o x (run_term h e (counting 9 o p))))
  run_action h from o (moves_all x t) p = run_whole h from o x t (run_term h (named x) (counting 9 o p))

  abbrev pub run_test : Bool → ℕ → Term → Draft → Draft
  run_test h o t p = run_term h t (counting 8 o (counting 9 o p))

  abbrev pub end_conditional : ℕ → ℕ → Draft → Draft
  end_conditional from before p = put conditional_kind (nodes p - before) from p

  unfoldable pub run_block : Bool → ℕ → Block → Draft → Draft
  run_block h from none p = p
  run_block h from (perform b o a) p = run_action h from o a (run_block h from b p)
  run_block h from (conditional b o t i) p =
      end_conditional from
      (nodes (run_test h o t (run_block h from b p)))
      (run_block h (nodes (run_test h o t (run_block h from b p))) i (run_test h o t (run_block h from b p)))

  -- ---- functions

  abbrev pub grown : ℕ → Draft → Draft
  grown from p = noting body_nodes (nodes p - from) p

  -- the statements of a body
  unfoldable pub run_statements : ℕ → Block → Draft → Draft
  run_statements from none p = p
  run_statements from (perform b o a) p = grown from (run_action false from o a (run_statements from b p))
  run_statements from (conditional b o t i) p =
      grown from
      (end_conditional from
      (nodes (run_test false o t (run_statements from b p)))
      (run_block false (nodes (run_test false o t (run_statements from b p))) i (run_test false o t (run_statements from b p))))

  -- an event from its mark on: its guard's first node is `before`
  abbrev pub run_handler : ℕ → Span → Block → Draft → Draft
  run_handler o q b p = run_block true (nodes p) b (noting 8 0 (run_state q (counting 7 o p)))

  abbrev pub end_event : ℕ → ℕ → ℕ → ℕ → Span → Draft → Draft
  end_event i state before from l p = event_written s i state (state_in l p) (nodes p - from) before (run_state l p)

  abbrev pub run_marked : Event → ℕ → Draft → Draft
  run_marked w before p =
      end_event (note p.notes 7) (state_in w.state (counting 7 w.place p)) before (nodes p) w.last
      (run_handler w.place w.state w.handler p)

  unfoldable pub run_event : Event → Draft → Draft
  run_event w p = run_marked w (nodes p) (run_term false w.guard (counting 9 w.place p))

  abbrev pub more : Draft → Draft
  more p = with_notes p (one_more_event s p.notes)

  unfoldable pub run_events : List Event → Draft → Draft
  run_events [] p = p
  run_events (w ∷ ws) p = run_events ws (more (run_event w p))

  unfoldable pub run_body : Body → Draft → Draft
  run_body b p = run_events b.events (run_statements (nodes p) b.statements (begun s p))

  unfoldable pub run_precondition : Precondition → Draft → Draft
  run_precondition omitted p = p
  run_precondition (given t) p = run_term false t p

  abbrev pub run_head : Function → Draft → Draft
  run_head f p =
      head s f.place (state_in f.state p) (number_in s (run_state f.state p).notes 0 (word s f.party)) f.name.start f.name.end
      (with_notes (run_state f.state p) (party_used s f.party.start f.party.end (run_state f.state p).notes))

  abbrev pub run_parts : Function → Draft → Draft
  run_parts f p = run_precondition f.precondition (run_names 4 f.parameters (run_names 3 f.values p))

  -- the body and the rest of function i, whose first node and event have these numbers
  abbrev pub end_function : ℕ → ℕ → ℕ → ℕ → Span → Draft → Draft
  end_function i first condition event l p =
      function_rest i (state_in l p) first condition (note p.notes body_nodes) event (note p.notes events_here) (run_state l p)

  unfoldable pub run_function : Function → Draft → Draft
  run_function f p =
      end_function (note p.notes function_count) (nodes p) (nodes (run_parts f (run_head f p)) - nodes p) (note p.notes 7) f.last
      (run_body f.body (run_parts f (run_head f p)))

  unfoldable pub run_functions : List Function → Draft → Draft
  run_functions [] p = p
  run_functions (f ∷ fs) p = run_functions fs (run_function f p)

  -- ---- the contract

  abbrev pub run_initial : Span → Draft → Draft
  run_initial q p = with_table (run_state q p) (set (run_state q p).table 9 (state_in q p))

  abbrev pub run_names_of : Syntax → Draft → Draft
  run_names_of c p =
      run_names 0 c.parties (run_names 2 c.fields (run_names 1 c.assets (with_table p (title s c.name.start c.name.end p.table))))

  unfoldable pub run_contract : Syntax → Draft → Draft
  run_contract c p =
      run_functions c.functions (run_initial c.initial (closed c.closing (run_clauses c.clauses (run_names_of c p))))

  -- the pass that a parse leads to
  unfoldable pub walked : {A : Type 0} → (A → Draft → Draft) → Parsed A → Draft → Walk
  walked run (done a n) p = on (cursor_at s n) (run a p)
  walked run (no q o) p = stop q o
