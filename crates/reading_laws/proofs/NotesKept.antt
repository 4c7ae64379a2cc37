-- Words of the notes that acts and runs of the pass leave as they are, and the notes' length, which all of them leave. Assumes nothing.
use mathlib.Core.Path.{◌≡◌, refl, ◌∙◌}
use mathlib.Core.Logic.{◌≢◌}
use mathlib.Core.Bool.{Bool, true, false, ◌||◌}
use mathlib.Core.List.{List, [], ◌∷◌}
use Prim.Native.Nat.{ℕ, zero, suc, ◌+◌, ◌*◌, ◌≤◌, ◌<◌}
use native.Mathlib.Omega.{arith}
use lib.ListN.{length, set, length-set}
use lib.Seq.{get_or-set_other, get_or-set_same}
use lib.Dec.{eqb, ltb, leb}
use borrow.Author.Tests.{eqb-false, ltb-true, ltb-false, leb-true}
use Rattle.laws.specs.Choice.{pick}
use Rattle.laws.proofs.Choice.{by_cases}
use Rattle.tokens.specs.Tokens.{between}
use Rattle.contract.specs.Limits.{max_functions}
use Rattle.entries.specs.declared.Known.{Known}
use Rattle.entries.specs.Draft.{Draft, note, mark_of, head_mark, limit, slot_of, slots_start, slot_words, with_notes, question, place, found, counted, slotted, entered, declared_in, declare, mention, wanted, put, put_name, put_leaf}
use Rattle.entries.specs.Draft.{party_used, clause_party, clause_verb, field_at, clause_field, clause_end, headed, head_notes, head, function_rest, written, function_count, clause_count, excess, body_nodes, events_here, notes_length}
use Rattle.reading.specs.Syntax.{Span, Term, named, numeral, quoted, fixed, negated, operated, Action, sends, moves, moves_all, Block, none, perform, conditional, Event, Precondition, omitted, given, Function, Clause}
use Rattle.reading_laws.specs.Walk.{nodes, counting, noting, closed, one_more_event, begun}
use Rattle.reading_laws.proofs.Run.{run_names, run_state, run_fields, run_clause, run_clauses, verb_number, run_term, run_action, run_test, run_block, run_statements, run_event, run_events, more, run_body, run_precondition, run_head, run_parts, run_function, run_functions}

pub record Keeps (j : ℕ) (n m : List ℕ) : Type 0 where
  pub long : length m ≡ length n
  pub same : note m j ≡ note n j

pub keeps_all : (j : ℕ) (n : List ℕ) → Keeps j n n
keeps_all j n = record { long = refl; same = refl }

pub keeps_then : {j : ℕ} {n m k : List ℕ} → Keeps j n m → Keeps j m k → Keeps j n k
keeps_then f g = record { long = g.long ∙ f.long; same = g.same ∙ f.same }

set_apart : (j : ℕ) (n : List ℕ) (i v : ℕ) → j ≢ i → Keeps j n (set n i v)
set_apart j n i v h = record { long = length-set n i v; same = get_or-set_other n i j v 0 h }

pub set_keeps : (j : ℕ) (n : List ℕ) (i v : ℕ) → eqb j i ≡ false → Keeps j n (set n i v)
set_keeps j n i v e = set_apart j n i v (eqb-false j i e)

pub set_same : (n : List ℕ) (i v : ℕ) → i < length n → note (set n i v) i ≡ v
set_same n i v h = get_or-set_same n i v 0 h

-- word j counts no name, event, statement or node, and is none of the least finding or of a slot
pub record Spared (j : ℕ) : Type 0 where
  pub low : ltb j 10 ≡ false
  pub first : eqb j question ≡ false
  pub second : eqb j place ≡ false
  pub outside : ltb j 16 || leb 604 j ≡ true

pub written_spared : Spared written
written_spared = record { low = refl; first = refl; second = refl; outside = refl }

pub clause_count_spared : Spared clause_count
clause_count_spared = record { low = refl; first = refl; second = refl; outside = refl }

pub function_count_spared : Spared function_count
function_count_spared = record { low = refl; first = refl; second = refl; outside = refl }

pub excess_spared : Spared excess
excess_spared = record { low = refl; first = refl; second = refl; outside = refl }

pub body_nodes_spared : Spared body_nodes
body_nodes_spared = record { low = refl; first = refl; second = refl; outside = refl }

pub events_here_spared : Spared events_here
events_here_spared = record { low = refl; first = refl; second = refl; outside = refl }

-- a word behind all others, for laws on the length alone
pub none_spared : Spared notes_length
none_spared = record { low = refl; first = refl; second = refl; outside = refl }

-- the slots of a kind end before those of functions
slots_end : (k i : ℕ) → k < 7 → i < limit k → slot_of k + i < 196
slots_end zero i a b = omega arith
slots_end (suc zero) i a b = omega arith
slots_end (suc (suc zero)) i a b = omega arith
slots_end (suc (suc (suc zero))) i a b = omega arith
slots_end (suc (suc (suc (suc zero)))) i a b = omega arith
slots_end (suc (suc (suc (suc (suc zero))))) i a b = omega arith
slots_end (suc (suc (suc (suc (suc (suc zero)))))) i a b = omega arith
slots_end (suc (suc (suc (suc (suc (suc (suc k))))))) i a b = absurd (omega arith)

module _ (j : ℕ) (x : Spared j) where
  -- ---- findings, counts and slots

  low_apart : (k : ℕ) → k < 10 → j ≢ k
  low_apart k h e = let c : 10 ≤ j = ltb-false j 10 x.low in omega (arith, c, e, h)

  slot_apart : (i : ℕ) → 16 ≤ i → i < 604 → j ≢ i
  slot_apart i a b e = go (ltb j 16) refl x.outside
    where
      go : (t : Bool) → ltb j 16 ≡ t → t || leb 604 j ≡ true → ⊥
      go true f g = let c = ltb-true j 16 f in omega arith
      go false f g = let c = leb-true 604 j g in omega arith

  found_keeps : (q o : ℕ) (n : List ℕ) → Keeps j n (found q o n)
  unfolding found
  found_keeps q o n =
      by_cases (Keeps j n) _ _ _
      (λ _. keeps_then (set_keeps j n question q x.first) (set_keeps j (set n question q) place o x.second))
      (λ _. keeps_all j n)

  pub known_keeps : (b : Bool) (q o : ℕ) (n : List ℕ) → Keeps j n (pick b n (found q o n))
  known_keeps b q o n = by_cases (Keeps j n) b _ _ (λ _. keeps_all j n) (λ _. found_keeps q o n)

  pub counted_keeps : (k o : ℕ) (n : List ℕ) → k < 10 → Keeps j n (counted k o n)
  unfolding counted
  counted_keeps k o n h = by_cases (Keeps j n) _ _ _ (λ _. set_apart j n k _ (low_apart k h)) (λ _. found_keeps 11 o n)

  pub wanted_keeps : (y : Known) (o : ℕ) (n : List ℕ) → Keeps j n (wanted y o n)
  unfolding wanted
  wanted_keeps y o n = by_cases (Keeps j n) _ _ _ (λ _. found_keeps 13 o n) (λ _. keeps_all j n)

  slotted_keeps : (n : List ℕ) (i m a e : ℕ) → i < 196 → Keeps j n (slotted n i m a e)
  unfolding slotted
  slotted_keeps n i m a e h =
      let o = slots_start + slot_words * i in
      keeps_then (set_apart j n o m (slot_apart o (omega arith) (omega arith)))
      (keeps_then (set_apart j (set n o m) (suc o) a (slot_apart (suc o) (omega arith) (omega arith)))
      (set_apart j (set (set n o m) (suc o) a) (suc (suc o)) e (slot_apart (suc (suc o)) (omega arith) (omega arith))))

  pub verb_keeps : (v : ℕ) (p : Draft) → Keeps j p.notes (clause_verb v p).notes
  unfolding clause_verb
  verb_keeps v p = by_cases (λ (d : Draft). Keeps j p.notes d.notes) _ _ _ (λ _. keeps_all j p.notes) (λ _. keeps_all j p.notes)

  module _ (s : List ℕ) where
    -- ---- names

    entered_keeps : (k i a e : ℕ) (p : Draft) → k < 7 → i < limit k → Keeps j p.notes (entered s k i a e p).notes
    unfolding entered
    entered_keeps k i a e p u v =
        keeps_then (slotted_keeps p.notes (slot_of k + i) (mark_of (between s a e)) a e (slots_end k i u v)) (set_apart j _ k (i + 1) (low_apart k (omega arith)))

    pub declared_keeps : (k a e : ℕ) (n : List ℕ) → Keeps j n (declared_in s k a e n)
    unfolding declared_in
    declared_keeps k a e n =
        by_cases (Keeps j n) _ _ _
        (λ _. keeps_then (known_keeps (ltb (note n k) (limit k)) 11 a n) (found_keeps 12 a _))
        (λ _. known_keeps (ltb (note n k) (limit k)) 11 a n)

    pub declare_keeps : (k a e : ℕ) (p : Draft) → k < 7 → Keeps j p.notes (declare s k a e p).notes
    unfolding declare
    declare_keeps k a e p u =
        by_cases (λ (q : Draft). Keeps j p.notes q.notes) _ _ _
        (λ h. keeps_then (declared_keeps k a e p.notes) (entered_keeps k (note p.notes k) a e (with_notes p (declared_in s k a e p.notes)) u (ltb-true _ _ h)))
        (λ _. declared_keeps k a e p.notes)

    pub mention_keeps : (k a e o : ℕ) (p : Draft) → k < 7 → Keeps j p.notes (mention s k a e o p).notes
    unfolding mention
    mention_keeps k a e o p u =
        by_cases (λ (q : Draft). Keeps j p.notes q.notes) _ _ _ (λ _. keeps_all j p.notes)
        (λ _. by_cases (λ (q : Draft). Keeps j p.notes q.notes) _ _ _
        (λ h. entered_keeps k (note p.notes k) a e p u (ltb-true _ _ h))
        (λ _. found_keeps 11 o p.notes))

    pub names_keep : (k : ℕ) → k < 7 → (ys : List Span) (p : Draft) → Keeps j p.notes (run_names s k ys p).notes
    unfolding run_names
    names_keep k h [] p = keeps_all j p.notes
    names_keep k h (y ∷ ys) p = keeps_then (declare_keeps k y.start y.end p h) (names_keep k h ys (declare s k y.start y.end p))

    pub state_keeps : (q : Span) (p : Draft) → Keeps j p.notes (run_state s q p).notes
    state_keeps q p = mention_keeps 5 q.start q.end q.start p (omega arith)

    pub party_keeps : (a e : ℕ) (n : List ℕ) → Keeps j n (party_used s a e n)
    unfolding party_used
    party_keeps a e n = known_keeps _ 13 a n

    -- ---- clauses

    pub clause_party_keeps : (a e : ℕ) (p : Draft) → Keeps j p.notes (clause_party s a e p).notes
    unfolding clause_party
    clause_party_keeps a e p = known_keeps _ 13 a p.notes

    module _ (z : eqb j excess ≡ false) where
      field_at_keeps : (r i v : ℕ) (p : Draft) → Keeps j p.notes (field_at r i v p).notes
      unfolding field_at
      field_at_keeps r i v p =
          by_cases (λ (q : Draft). Keeps j p.notes q.notes) _ _ _ (λ _. keeps_all j p.notes) (λ _. set_keeps j p.notes excess 1 z)

      pub field_keeps : (a e : ℕ) (p : Draft) → Keeps j p.notes (clause_field s a e p).notes
      unfolding clause_field
      field_keeps a e p =
          by_cases (λ (q : Draft). Keeps j p.notes q.notes) _ _ _
          (λ _. keeps_then (known_keeps _ 13 a p.notes) (field_at_keeps _ _ _ (with_notes p _)))
          (λ _. known_keeps _ 13 a p.notes)

      pub fields_keep : (ys : List Span) (p : Draft) → Keeps j p.notes (run_fields s ys p).notes
      unfolding run_fields
      fields_keep [] p = keeps_all j p.notes
      fields_keep (f ∷ ys) p = keeps_then (field_keeps f.start f.end p) (fields_keep ys (clause_field s f.start f.end p))

      module _ (y : eqb j clause_count ≡ false) where
        clause_keeps : (k : Clause) (p : Draft) → Keeps j p.notes (run_clause s k p).notes
        unfolding run_clause clause_end
        clause_keeps k p =
            let q = clause_party s k.party.start k.party.end p in
            let r = clause_verb (verb_number s k.verb) q in
            let n = (run_fields s k.fields r).notes in
            keeps_then (clause_party_keeps k.party.start k.party.end p)
            (keeps_then (verb_keeps (verb_number s k.verb) q)
            (keeps_then (fields_keep k.fields r)
            (by_cases (Keeps j n) _ _ _ (λ _. set_keeps j n clause_count _ y) (λ _. set_keeps j n excess 1 z))))

        pub clauses_keep : (ks : List Clause) (p : Draft) → Keeps j p.notes (run_clauses s ks p).notes
        unfolding run_clauses
        clauses_keep [] p = keeps_all j p.notes
        clauses_keep (k ∷ ks) p = keeps_then (clause_keeps k p) (clauses_keep ks (run_clause s k p))

  pub closed_keeps : (o : ℕ) (p : Draft) → Keeps j p.notes (closed o p).notes
  unfolding closed
  closed_keeps o p =
      by_cases (λ (q : Draft). Keeps j p.notes q.notes) _ _ _
      (λ _. by_cases (λ (q : Draft). Keeps j p.notes q.notes) _ _ _ (λ _. keeps_all j p.notes) (λ _. found_keeps 14 o p.notes))
      (λ _. found_keeps 14 o p.notes)

  -- ---- functions' heads and rows

  pub head_keeps : (s : List ℕ) (o q a f e : ℕ) (p : Draft) → eqb j function_count ≡ false → Keeps j p.notes (head s o q a f e p).notes
  unfolding head head_notes headed
  head_keeps s o q a f e p v =
      keeps_then
      (by_cases (λ (r : Draft). Keeps j p.notes r.notes) _ _ _
      (λ h. keeps_then noted (keeps_then
      (slotted_keeps _ (132 + note p.notes function_count) (head_mark q a (between s f e)) f e (let c : note p.notes function_count < max_functions = ltb-true _ _ h in omega arith))
      (set_keeps j _ function_count (note p.notes function_count + 1) v)))
      (λ _. noted))
      (keeps_then (set_apart j _ 3 0 (low_apart 3 (omega arith))) (set_apart j _ 4 0 (low_apart 4 (omega arith))))
    where
      noted : Keeps j p.notes (head_notes s o q a f e p.notes)
      noted =
          let room = known_keeps (ltb (note p.notes function_count) max_functions) 11 o p.notes in
          by_cases (Keeps j p.notes) _ _ _ (λ _. keeps_then room (found_keeps 15 f _)) (λ _. room)

  -- ---- nodes

  module _ (v : eqb j written ≡ false) where
    pub put_keeps : (kind argument before : ℕ) (p : Draft) → Keeps j p.notes (put kind argument before p).notes
    unfolding put
    put_keeps kind argument before p =
        by_cases (λ (q : Draft). Keeps j p.notes q.notes) _ _ _ (λ _. set_keeps j p.notes written _ v) (λ _. keeps_all j p.notes)

    name_keeps : (y : Known) (o : ℕ) (p : Draft) → Keeps j p.notes (put_name y o p).notes
    unfolding put_name
    name_keeps y o p =
        keeps_then (counted_keeps 9 o p.notes (omega arith)) (keeps_then (wanted_keeps y o _) (put_keeps y.kind y.number _ (with_notes p _)))

    leaf_keeps : (kind argument o : ℕ) (p : Draft) → Keeps j p.notes (put_leaf kind argument o p).notes
    unfolding put_leaf
    leaf_keeps kind argument o p = keeps_then (counted_keeps 9 o p.notes (omega arith)) (put_keeps kind argument _ (with_notes p _))

    module _ (s : List ℕ) where
      pub term_keeps : (h : Bool) (t : Term) (p : Draft) → Keeps j p.notes (run_term s h t p).notes
      unfolding run_term
      term_keeps h (named y) p = name_keeps _ y.start p
      term_keeps h (numeral v o) p = leaf_keeps _ v o p
      term_keeps h (quoted y o) p =
          keeps_then (counted_keeps 9 o p.notes (omega arith))
          (keeps_then (mention_keeps s 6 y.start y.end o (counting 9 o p) (omega arith)) (put_keeps _ _ _ (mention s 6 y.start y.end o (counting 9 o p))))
      term_keeps h (fixed k o) p = leaf_keeps _ 0 o p
      term_keeps h (negated o t) p =
          keeps_then (counted_keeps 9 o p.notes (omega arith)) (keeps_then (term_keeps h t (counting 9 o p)) (put_keeps _ 0 _ (run_term s h t (counting 9 o p))))
      term_keeps h (operated k o t u) p =
          keeps_then (term_keeps h t p)
          (keeps_then (counted_keeps 9 o (run_term s h t p).notes (omega arith))
          (keeps_then (term_keeps h u (counting 9 o (run_term s h t p))) (put_keeps _ 0 _ (run_term s h u (counting 9 o (run_term s h t p))))))

      pub action_keeps : (h : Bool) (from o : ℕ) (a : Action) (p : Draft) → Keeps j p.notes (run_action s h from o a p).notes
      unfolding run_action
      action_keeps h from o (sends e t) p =
          let q = run_term s h e (counting 9 o p) in
          keeps_then (counted_keeps 9 o p.notes (omega arith))
          (keeps_then (term_keeps h e (counting 9 o p))
          (keeps_then (counted_keeps 8 o q.notes (omega arith))
          (keeps_then (name_keeps _ t.start (counting 8 o q)) (put_keeps _ 0 from (put_name _ t.start (counting 8 o q))))))
      action_keeps h from o (moves e y t) p =
          let q = run_term s h e (counting 9 o p) in
          keeps_then (counted_keeps 9 o p.notes (omega arith))
          (keeps_then (term_keeps h e (counting 9 o p))
          (keeps_then (counted_keeps 8 o q.notes (omega arith))
          (keeps_then (name_keeps _ y.start (counting 8 o q))
          (keeps_then (name_keeps _ t.start (put_name _ y.start (counting 8 o q)))
          (put_keeps _ 0 from (put_name _ t.start (put_name _ y.start (counting 8 o q))))))))
      action_keeps h from o (moves_all y t) p =
          let q = run_term s h (named y) (counting 9 o p) in
          keeps_then (counted_keeps 9 o p.notes (omega arith))
          (keeps_then (term_keeps h (named y) (counting 9 o p))
          (keeps_then (counted_keeps 8 o q.notes (omega arith))
          (keeps_then (counted_keeps 9 t.start (counted 8 o q.notes) (omega arith))
          (keeps_then (wanted_keeps _ o _)
          (keeps_then (wanted_keeps _ t.start _)
          (keeps_then (put_keeps _ _ (nodes q) (with_notes q _)) (put_keeps _ 0 from (put _ _ _ (with_notes q _)))))))))

      test_keeps : (h : Bool) (o : ℕ) (t : Term) (p : Draft) → Keeps j p.notes (run_test s h o t p).notes
      test_keeps h o t p =
          keeps_then (counted_keeps 9 o p.notes (omega arith))
          (keeps_then (counted_keeps 8 o (counted 9 o p.notes) (omega arith)) (term_keeps h t (counting 8 o (counting 9 o p))))

      block_keeps : (h : Bool) (from : ℕ) (b : Block) (p : Draft) → Keeps j p.notes (run_block s h from b p).notes
      unfolding run_block
      block_keeps h from none p = keeps_all j p.notes
      block_keeps h from (perform b o a) p = keeps_then (block_keeps h from b p) (action_keeps h from o a (run_block s h from b p))
      block_keeps h from (conditional b o t i) p =
          let q = run_test s h o t (run_block s h from b p) in
          keeps_then (block_keeps h from b p)
          (keeps_then (test_keeps h o t (run_block s h from b p))
          (keeps_then (block_keeps h (nodes q) i q) (put_keeps _ _ from (run_block s h (nodes q) i q))))

      pub statements_keep : eqb j body_nodes ≡ false → (from : ℕ) (b : Block) (p : Draft) → Keeps j p.notes (run_statements s from b p).notes
      unfolding run_statements
      statements_keep e from none p = keeps_all j p.notes
      statements_keep e from (perform b o a) p =
          keeps_then (statements_keep e from b p) (keeps_then (action_keeps false from o a (run_statements s from b p)) (set_keeps j _ body_nodes _ e))
      statements_keep e from (conditional b o t i) p =
          let q = run_test s false o t (run_statements s from b p) in
          keeps_then (statements_keep e from b p)
          (keeps_then (test_keeps false o t (run_statements s from b p))
          (keeps_then (block_keeps false (nodes q) i q)
          (keeps_then (put_keeps _ _ from (run_block s false (nodes q) i q)) (set_keeps j _ body_nodes _ e))))

      pub event_keeps : (w : Event) (p : Draft) → Keeps j p.notes (run_event s w p).notes
      unfolding run_event
      event_keeps w p =
          let q = run_term s false w.guard (counting 9 w.place p) in
          let r = run_state s w.state (counting 7 w.place q) in
          let t = run_block s true (nodes q) w.handler (noting 8 0 r) in
          keeps_then (counted_keeps 9 w.place p.notes (omega arith))
          (keeps_then (term_keeps false w.guard (counting 9 w.place p))
          (keeps_then (counted_keeps 7 w.place q.notes (omega arith))
          (keeps_then (state_keeps s w.state (counting 7 w.place q))
          (keeps_then (set_apart j r.notes 8 0 (low_apart 8 (omega arith)))
          (keeps_then (block_keeps true (nodes q) w.handler (noting 8 0 r))
          (keeps_then (state_keeps s w.last t) (put_keeps _ _ (nodes p) (run_state s w.last t))))))))

      pub events_keep : eqb j events_here ≡ false → (ws : List Event) (p : Draft) → Keeps j p.notes (run_events s ws p).notes
      unfolding run_events one_more_event
      events_keep e [] p = keeps_all j p.notes
      events_keep e (w ∷ ws) p =
          let n = (run_event s w p).notes in
          keeps_then (event_keeps w p)
          (keeps_then (by_cases (Keeps j n) _ _ _ (λ _. set_keeps j n events_here _ e) (λ _. keeps_all j n)) (events_keep e ws (more s (run_event s w p))))

      -- ---- functions

      module _ (f : eqb j function_count ≡ false) (b : eqb j body_nodes ≡ false) (e : eqb j events_here ≡ false) where
        pub header_keeps : (k : Function) (p : Draft) → Keeps j p.notes (run_head s k p).notes
        header_keeps k p =
            keeps_then (state_keeps s k.state p)
            (keeps_then (party_keeps s k.party.start k.party.end (run_state s k.state p).notes)
            (head_keeps s k.place _ _ k.name.start k.name.end (with_notes (run_state s k.state p) _) f))

        precondition_keeps : (t : Precondition) (p : Draft) → Keeps j p.notes (run_precondition s t p).notes
        unfolding run_precondition
        precondition_keeps omitted p = keeps_all j p.notes
        precondition_keeps (given t) p = term_keeps false t p

        pub parts_keep : (k : Function) (p : Draft) → Keeps j p.notes (run_parts s k p).notes
        parts_keep k p =
            let q = run_names s 3 k.values p in
            keeps_then (names_keep s 3 (omega arith) k.values p)
            (keeps_then (names_keep s 4 (omega arith) k.parameters q) (precondition_keeps k.precondition (run_names s 4 k.parameters q)))

        pub begun_keeps : (p : Draft) → Keeps j p.notes (begun s p).notes
        begun_keeps p = keeps_then (set_apart j p.notes 8 0 (low_apart 8 (omega arith))) (keeps_then (set_keeps j _ body_nodes 0 b) (set_keeps j _ events_here 0 e))

        function_keeps : (k : Function) (p : Draft) → Keeps j p.notes (run_function s k p).notes
        unfolding run_function run_body function_rest
        function_keeps k p =
            let q = run_parts s k (run_head s k p) in
            let i = k.body in
            let t = run_statements s (nodes q) i.statements (begun s q) in
            let u = run_state s k.last (run_events s i.events t) in
            keeps_then (header_keeps k p)
            (keeps_then (parts_keep k (run_head s k p))
            (keeps_then (begun_keeps q)
            (keeps_then (statements_keep b (nodes q) i.statements (begun s q))
            (keeps_then (events_keep e i.events t)
            (keeps_then (state_keeps s k.last (run_events s i.events t))
            (by_cases (λ (d : Draft). Keeps j u.notes d.notes) _ _ _ (λ _. keeps_all j u.notes) (λ _. keeps_all j u.notes)))))))

        pub functions_keep : (ks : List Function) (p : Draft) → Keeps j p.notes (run_functions s ks p).notes
        unfolding run_functions
        functions_keep [] p = keeps_all j p.notes
        functions_keep (k ∷ ks) p = keeps_then (function_keeps k p) (functions_keep ks (run_function s k p))
