-- The notes that the run of a tree leaves are those of its items. Assumes nothing.
use mathlib.Core.Path.{◌≡◌, refl, sym, ap, subst, ◌∙◌}
use mathlib.Core.Bool.{true, false, not}
use mathlib.Core.List.{List, [], ◌∷◌, ◌++◌, append_assoc}
use Prim.Native.Nat.{ℕ, ◌+◌, ◌-◌, ◌<◌}
use native.Mathlib.Omega.{arith}
use lib.ListN.{set}
use lib.Dec.{eqb, ltb}
use Rattle.laws.proofs.Choice.{by_cases}
use Rattle.contract.specs.Table.{value_move_kind, asset_move_kind, whole_move_kind, conditional_kind, event_kind}
use Rattle.entries.specs.declared.Known.{Known}
use Rattle.entries.specs.Draft.{Draft, note, with_notes, counted, declare, number_in, party_used, name_in, holder_in, value_target, asset_target, wanted, put, put_name, put_leaf, head, function_rest, written}
use Rattle.reading.specs.Syntax.{Span, Term, named, numeral, quoted, fixed, negated, operated, Action, sends, moves, moves_all, Block, none, perform, conditional, Event, Body, Precondition, omitted, given, Function}
use Rattle.reading.specs.Items.{Item, declares, mentions, uses, counts, opens, heads, of_each, declared, state_item, Site, in_function, in_handler, value_kinds, asset_kinds, name_items, term_items, action_items, block_items, event_items, precondition_items, function_items}
use Rattle.reading.specs.Rules.{Finding, lesser, or_breaks, word, known, number_of, is_known, judge, judged}
use Rattle.reading.specs.Resolve.{latest_first}
use Rattle.reading_laws.specs.Walk.{nodes, counting, noting, operator_node, one_more_event, begun}
use Rattle.reading_laws.proofs.Run.{run_names, run_state, state_in, run_term, run_source, run_action, run_test, end_conditional, run_block, grown, run_statements, run_event, more, run_events, run_body, run_precondition, run_head, run_parts, run_function, run_functions}
use Rattle.reading_laws.proofs.NotesSay.{Noted}
use Rattle.accepted.proofs.Judged.{latest_append}
use Rattle.reading.proofs.TokenKinds.{Each}
use Rattle.reading_laws.proofs.NotedFind.{number_noted, mentioned_number}
use Rattle.reading_laws.proofs.NotedActs.{end_noted, put_noted, wanted_noted, wanted_at, party_noted, counted_noted, opens_noted}
use Rattle.reading_laws.proofs.NotedNames.{declare_noted, mention_noted, head_noted, inside, holder_known, name_known, value_target_known, asset_target_known, known_counted, known_used}

-- ---- places: in `h -o t` the statement starts with its name

abbrev pub ActionPlaced : ℕ → Action → Type 0
ActionPlaced o (sends e t) = Unit {0}
ActionPlaced o (moves e x t) = Unit {0}
ActionPlaced o (moves_all x t) = o ≡ x.start

abbrev pub BlockPlaced : Block → Type 0
BlockPlaced none = Unit {0}
BlockPlaced (perform b o a) = BlockPlaced b × ActionPlaced o a
BlockPlaced (conditional b o t i) = BlockPlaced b × BlockPlaced i

abbrev pub EventPlaced : Event → Type 0
EventPlaced w = BlockPlaced w.handler

abbrev pub FunctionPlaced : Function → Type 0
FunctionPlaced f = BlockPlaced f.body.statements × Each EventPlaced f.body.events

module _ (s : List ℕ) where
  pub judged_append : (b : List Item) (f : Finding) (xs ys : List Item) → judged s b f (xs ++ ys) ≡ judged s (latest_first b xs) (judged s b f xs) ys
  unfolding judged latest_first
  judged_append b f [] ys = refl
  judged_append b f (x ∷ xs) ys = judged_append (x ∷ b) (lesser f (judge s b x)) xs ys

  -- notes of items after those of b
  abbrev pub After : List Item → Finding → List Item → List ℕ → Type 0
  After b f is n = Noted s (latest_first b is) (judged s b f is) n

  pub after_append : (b : List Item) (f : Finding) (xs ys : List Item) (n : List ℕ) → After (latest_first b xs) (judged s b f xs) ys n → After b f (xs ++ ys) n
  after_append b f xs ys n h =
      subst (λ (g : Finding). Noted s (latest_first b (xs ++ ys)) g n) (sym (judged_append b f xs ys))
      (subst (λ (c : List Item). Noted s c (judged s (latest_first b xs) (judged s b f xs) ys) n) (sym (latest_append b xs ys)) h)

  -- ---- names

  pub names_noted : (k : ℕ) (xs : List Span) (b : List Item) (f : Finding) (p : Draft) → k < 5 → Noted s b f p.notes → After b f (declared k xs) (run_names s k xs p).notes
  unfolding run_names of_each judged latest_first
  names_noted k [] b f p l h = h
  names_noted k (x ∷ xs) b f p l h =
      names_noted k xs (declares k x ∷ b) (lesser f (judge s b (declares k x))) (declare s k x.start x.end p) l (declare_noted s b f p h k x l)

  pub state_noted : (q : Span) (b : List Item) (f : Finding) (p : Draft) → Noted s b f p.notes
      → Noted s (state_item q ∷ b) (lesser f (judge s b (state_item q))) (run_state s q p).notes
  state_noted q b f p h = mention_noted s b f p h 5 q q.start (omega arith)

  -- a used name's node
  pub name_noted : (ks : List ℕ) (x : Span) (r : Known) (b : List Item) (f : Finding) (p : Draft) → not (eqb r.kind 0) ≡ is_known s ks b (word s x)
      → Noted s b f p.notes → After b f (name_items ks x) (put_name r x.start p).notes
  unfolding put_name judged latest_first
  name_noted ks x r b f p e h =
      let c = counts 9 x.start ∷ b in
      let g = lesser f (judge s b (counts 9 x.start)) in
      let h1 : Noted s c g (counted 9 x.start p.notes) = counted_noted s b f p.notes h 9 x.start (omega arith) (omega arith) in
      put_noted s r.kind r.number (note p.notes written) (uses ks x ∷ c) (lesser g (judge s c (uses ks x))) _
      (wanted_noted s c g (counted 9 x.start p.notes) h1 ks x r (e ∙ sym (known_counted s ks 9 x.start b (word s x))))

  -- ---- expressions and conditions

  pub term_noted : (c : Site) (t : Term) (b : List Item) (f : Finding) (p : Draft) → Noted s b f p.notes → After b f (term_items c t) (run_term s (inside c) t p).notes
  unfolding run_term term_items judged latest_first put_leaf
  term_noted c (named x) b f p h =
      name_noted (value_kinds c) x (name_in s p.notes (inside c) (word s x)) b f p (name_known s b f p.notes h (word s x) c) h
  term_noted c (numeral v o) b f p h = put_noted s _ _ _ (counts 9 o ∷ b) _ _ (counted_noted s b f p.notes h 9 o (omega arith) (omega arith))
  term_noted c (quoted x o) b f p h =
      let g = lesser f (judge s b (counts 9 o)) in
      let h1 : Noted s (counts 9 o ∷ b) g (counted 9 o p.notes) = counted_noted s b f p.notes h 9 o (omega arith) (omega arith) in
      put_noted s _ _ _ (mentions 6 x o ∷ counts 9 o ∷ b) _ _ (mention_noted s (counts 9 o ∷ b) g (counting 9 o p) h1 6 x o (omega arith))
  term_noted c (fixed k o) b f p h = put_noted s _ _ _ (counts 9 o ∷ b) _ _ (counted_noted s b f p.notes h 9 o (omega arith) (omega arith))
  term_noted c (negated o t) b f p h =
      put_noted s _ _ _ _ _ _ (term_noted c t (counts 9 o ∷ b) (lesser f (judge s b (counts 9 o))) (counting 9 o p) (counted_noted s b f p.notes h 9 o (omega arith) (omega arith)))
  term_noted c (operated k o t u) b f p h =
      let p1 = run_term s (inside c) t p in
      let b1 = latest_first b (term_items c t) in
      let f1 = judged s b f (term_items c t) in
      let h1 : Noted s b1 f1 p1.notes = term_noted c t b f p h in
      let h2 : Noted s (counts 9 o ∷ b1) (lesser f1 (judge s b1 (counts 9 o))) (counting 9 o p1).notes = counted_noted s b1 f1 p1.notes h1 9 o (omega arith) (omega arith) in
      put_noted s (operator_node k) 0 (nodes p) (latest_first b (term_items c t ++ (counts 9 o ∷ term_items c u))) (judged s b f (term_items c t ++ (counts 9 o ∷ term_items c u))) (run_term s (inside c) u (counting 9 o p1))
      (after_append b f (term_items c t) (counts 9 o ∷ term_items c u) _
      (term_noted c u (counts 9 o ∷ b1) (lesser f1 (judge s b1 (counts 9 o))) (counting 9 o p1) h2))

  -- ---- notes whose least finding is right under a condition

  pub record Left (b : List Item) (f : Finding) (is : List Item) (P : Type 0) (n : List ℕ) : Type 0 where
    pub least : Finding
    pub noted : Noted s (latest_first b is) least n
    pub right : P → least ≡ judged s b f is

  left_plain : (b : List Item) (f : Finding) (is : List Item) (P : Type 0) (n : List ℕ) → After b f is n → Left b f is P n
  left_plain b f is P n h = record { least = judged s b f is; noted = h; right = λ x. refl }

  left_keep : (b : List Item) (f : Finding) (is : List Item) (P : Type 0) (n m : List ℕ)
      → ((c : List Item) (g : Finding) → Noted s c g n → Noted s c g m) → Left b f is P n → Left b f is P m
  left_keep b f is P n m k l = record { least = l.least; noted = k (latest_first b is) l.least l.noted; right = l.right }

  pub left_item : (b : List Item) (f : Finding) (i : Item) (is : List Item) (P : Type 0) (n : List ℕ) → Left (i ∷ b) (lesser f (judge s b i)) is P n → Left b f (i ∷ is) P n
  unfolding judged latest_first
  left_item b f i is P n l = record { least = l.least; noted = l.noted; right = l.right }

  left_append : (b : List Item) (f : Finding) (xs ys : List Item) (P Q : Type 0) (n m : List ℕ) → Left b f xs P n
      → ((g : Finding) → Noted s (latest_first b xs) g n → Left (latest_first b xs) g ys Q m) → Left b f (xs ++ ys) (P × Q) m
  left_append b f xs ys P Q n m l k =
      let r = k l.least l.noted in
      record {
        least = r.least;
        noted = subst (λ (c : List Item). Noted s c r.least m) (sym (latest_append b xs ys)) r.noted;
        right = λ x. r.right x.1 ∙ ap (λ (g : Finding). judged s (latest_first b xs) g ys) (l.right x.0) ∙ sym (judged_append b f xs ys);
      }

  pub left_after : (b : List Item) (f : Finding) (xs ys : List Item) (Q : Type 0) (m : List ℕ)
      → Left (latest_first b xs) (judged s b f xs) ys Q m → Left b f (xs ++ ys) Q m
  left_after b f xs ys Q m r =
      record {
        least = r.least;
        noted = subst (λ (c : List Item). Noted s c r.least m) (sym (latest_append b xs ys)) r.noted;
        right = λ x. r.right x ∙ sym (judged_append b f xs ys);
      }

  left_first : (b : List Item) (f : Finding) (xs ys : List Item) (P : Type 0) (n m : List ℕ) → Left b f xs P n
      → ((g : Finding) → Noted s (latest_first b xs) g n → After (latest_first b xs) g ys m) → Left b f (xs ++ ys) P m
  left_first b f xs ys P n m l k =
      record {
        least = judged s (latest_first b xs) l.least ys;
        noted = subst (λ (c : List Item). Noted s c (judged s (latest_first b xs) l.least ys) m) (sym (latest_append b xs ys)) (k l.least l.noted);
        right = λ x. ap (λ (g : Finding). judged s (latest_first b xs) g ys) (l.right x) ∙ sym (judged_append b f xs ys);
      }

  -- ---- statements

  sends_noted : (c : Site) (from o : ℕ) (e : Term) (t : Span) (b : List Item) (f : Finding) (p : Draft) → Noted s b f p.notes
      → After b f (action_items c o (sends e t)) (run_action s (inside c) from o (sends e t) p).notes
  unfolding run_action action_items judged latest_first
  sends_noted c from o e t b f p h =
      let b1 = counts 9 o ∷ b in
      let f1 = lesser f (judge s b (counts 9 o)) in
      let h1 : Noted s b1 f1 (counting 9 o p).notes = counted_noted s b f p.notes h 9 o (omega arith) (omega arith) in
      let p2 = run_term s (inside c) e (counting 9 o p) in
      let b2 = latest_first b1 (term_items c e) in
      let f2 = judged s b1 f1 (term_items c e) in
      let h2 : Noted s b2 f2 p2.notes = term_noted c e b1 f1 (counting 9 o p) h1 in
      let b3 = counts 8 o ∷ b2 in
      let f3 = lesser f2 (judge s b2 (counts 8 o)) in
      let h3 : Noted s b3 f3 (counting 8 o p2).notes = counted_noted s b2 f2 p2.notes h2 8 o (omega arith) (omega arith) in
      put_noted s value_move_kind 0 from _ _ _
      (after_append b1 f1 (term_items c e) (counts 8 o ∷ name_items (0 ∷ 2 ∷ []) t) _
      (name_noted (0 ∷ 2 ∷ []) t (value_target s (counted 8 o p2.notes) (word s t)) b3 f3 (counting 8 o p2) (value_target_known s b3 f3 (counted 8 o p2.notes) h3 (word s t)) h3))

  moves_noted : (c : Site) (from o : ℕ) (e : Term) (x t : Span) (b : List Item) (f : Finding) (p : Draft) → Noted s b f p.notes
      → After b f (action_items c o (moves e x t)) (run_action s (inside c) from o (moves e x t) p).notes
  unfolding run_action action_items judged latest_first
  moves_noted c from o e x t b f p h =
      let b1 = counts 9 o ∷ b in
      let f1 = lesser f (judge s b (counts 9 o)) in
      let h1 : Noted s b1 f1 (counting 9 o p).notes = counted_noted s b f p.notes h 9 o (omega arith) (omega arith) in
      let p2 = run_term s (inside c) e (counting 9 o p) in
      let b2 = latest_first b1 (term_items c e) in
      let f2 = judged s b1 f1 (term_items c e) in
      let h2 : Noted s b2 f2 p2.notes = term_noted c e b1 f1 (counting 9 o p) h1 in
      let b3 = counts 8 o ∷ b2 in
      let f3 = lesser f2 (judge s b2 (counts 8 o)) in
      let h3 : Noted s b3 f3 (counting 8 o p2).notes = counted_noted s b2 f2 p2.notes h2 8 o (omega arith) (omega arith) in
      let b4 = latest_first b3 (name_items (asset_kinds c) x) in
      let f4 = judged s b3 f3 (name_items (asset_kinds c) x) in
      let p4 = run_source s (inside c) o x p2 in
      let h4 : Noted s b4 f4 p4.notes =
      name_noted (asset_kinds c) x (holder_in s (counted 8 o p2.notes) (inside c) (word s x)) b3 f3 (counting 8 o p2) (holder_known s b3 f3 (counted 8 o p2.notes) h3 (word s x) c) h3 in
      put_noted s asset_move_kind 0 from _ _ _
      (after_append b1 f1 (term_items c e) (counts 8 o ∷ (name_items (asset_kinds c) x ++ name_items (0 ∷ asset_kinds c) t)) _
      (name_noted (0 ∷ asset_kinds c) t (asset_target s p4.notes (inside c) (word s t)) b4 f4 p4 (asset_target_known s b4 f4 p4.notes h4 (word s t) c) h4))

  -- the two names of `h -o t`
  all_last : (c : Site) (from o : ℕ) (x t : Span) (b : List Item) (f : Finding) (p : Draft) (n : List ℕ) → Noted s b f n
      → Left b f (uses (asset_kinds c) x ∷ uses (0 ∷ asset_kinds c) t ∷ []) (o ≡ x.start)
      (put whole_move_kind 0 from
      (put (asset_target s n (inside c) (word s t)).kind (asset_target s n (inside c) (word s t)).number (nodes p)
      (with_notes p (wanted (asset_target s n (inside c) (word s t)) t.start (wanted (holder_in s n (inside c) (word s x)) o n))))).notes
  unfolding judged latest_first judge
  all_last c from o x t b f p n h =
      let ks = asset_kinds c in
      let X = holder_in s n (inside c) (word s x) in
      let T = asset_target s n (inside c) (word s t) in
      let b1 = uses ks x ∷ b in
      let f1 = lesser f (or_breaks (is_known s ks b (word s x)) 13 o) in
      let h1 : Noted s b1 f1 (wanted X o n) = wanted_at s b f n h ks x X o (holder_known s b f n h (word s x) c) in
      let h2 : Noted s (uses (0 ∷ ks) t ∷ b1) (lesser f1 (judge s b1 (uses (0 ∷ ks) t))) (wanted T t.start (wanted X o n)) =
      wanted_noted s b1 f1 (wanted X o n) h1 (0 ∷ ks) t T (asset_target_known s b f n h (word s t) c ∙ sym (known_used s (0 ∷ ks) ks x b (word s t))) in
      record {
        least = lesser f1 (judge s b1 (uses (0 ∷ ks) t));
        noted = put_noted s _ _ _ _ _ _ (put_noted s _ _ _ _ _ _ h2);
        right = λ e. ap (λ (i : ℕ). lesser (lesser f (or_breaks (is_known s ks b (word s x)) 13 i)) (judge s b1 (uses (0 ∷ ks) t))) e;
      }

  all_noted : (c : Site) (from o : ℕ) (x t : Span) (b : List Item) (f : Finding) (p : Draft) → Noted s b f p.notes
      → Left b f (action_items c o (moves_all x t)) (o ≡ x.start) (run_action s (inside c) from o (moves_all x t) p).notes
  unfolding run_action action_items judged latest_first
  all_noted c from o x t b f p h =
      let b1 = counts 9 o ∷ b in
      let f1 = lesser f (judge s b (counts 9 o)) in
      let h1 : Noted s b1 f1 (counting 9 o p).notes = counted_noted s b f p.notes h 9 o (omega arith) (omega arith) in
      let p2 = run_term s (inside c) (named x) (counting 9 o p) in
      let b2 = latest_first b1 (term_items c (named x)) in
      let f2 = judged s b1 f1 (term_items c (named x)) in
      let h2 : Noted s b2 f2 p2.notes = term_noted c (named x) b1 f1 (counting 9 o p) h1 in
      let b3 = counts 8 o ∷ b2 in
      let f3 = lesser f2 (judge s b2 (counts 8 o)) in
      let n3 = counted 8 o p2.notes in
      let h3 : Noted s b3 f3 n3 = counted_noted s b2 f2 p2.notes h2 8 o (omega arith) (omega arith) in
      let b4 = counts 9 t.start ∷ b3 in
      let f4 = lesser f3 (judge s b3 (counts 9 t.start)) in
      let n4 = counted 9 t.start n3 in
      let h4 : Noted s b4 f4 n4 = counted_noted s b3 f3 n3 h3 9 t.start (omega arith) (omega arith) in
      left_item b f (counts 9 o) _ (o ≡ x.start) _
      (left_after b1 f1 (term_items c (named x)) (counts 8 o ∷ counts 9 t.start ∷ uses (asset_kinds c) x ∷ uses (0 ∷ asset_kinds c) t ∷ []) (o ≡ x.start) _
      (left_item b2 f2 (counts 8 o) _ (o ≡ x.start) _
      (left_item b3 f3 (counts 9 t.start) _ (o ≡ x.start) _
      (all_last c from o x t b4 f4 p2 n4 h4))))

  pub action_noted : (c : Site) (from o : ℕ) (a : Action) (b : List Item) (f : Finding) (p : Draft) → Noted s b f p.notes
      → Left b f (action_items c o a) (ActionPlaced o a) (run_action s (inside c) from o a p).notes
  action_noted c from o (sends e t) b f p h = left_plain b f _ _ _ (sends_noted c from o e t b f p h)
  action_noted c from o (moves e x t) b f p h = left_plain b f _ _ _ (moves_noted c from o e x t b f p h)
  action_noted c from o (moves_all x t) b f p h = all_noted c from o x t b f p h

  -- a conditional's test
  test_noted : (c : Site) (o : ℕ) (t : Term) (b : List Item) (f : Finding) (p : Draft) → Noted s b f p.notes
      → After b f (counts 9 o ∷ counts 8 o ∷ term_items c t) (run_test s (inside c) o t p).notes
  unfolding judged latest_first
  test_noted c o t b f p h =
      let b1 = counts 9 o ∷ b in
      let f1 = lesser f (judge s b (counts 9 o)) in
      let h1 : Noted s b1 f1 (counting 9 o p).notes = counted_noted s b f p.notes h 9 o (omega arith) (omega arith) in
      term_noted c t (counts 8 o ∷ b1) (lesser f1 (judge s b1 (counts 8 o))) (counting 8 o (counting 9 o p))
      (counted_noted s b1 f1 (counting 9 o p).notes h1 8 o (omega arith) (omega arith))

  -- the rest of a conditional after its test: `inner` are the notes of the statements in it
  conditional_noted : (c : Site) (o : ℕ) (t : Term) (i : Block) (P : Type 0) (b : List Item) (f : Finding) (p : Draft) (m : List ℕ) → Noted s b f p.notes
      → ((d : List Item) (g : Finding) → Noted s d g (run_test s (inside c) o t p).notes → Left d g (block_items c i) P m)
      → Left b f (counts 9 o ∷ counts 8 o ∷ (term_items c t ++ block_items c i)) P m
  unfolding judged latest_first
  conditional_noted c o t i P b f p m h inner =
      let b1 = counts 9 o ∷ b in
      let f1 = lesser f (judge s b (counts 9 o)) in
      let b2 = counts 8 o ∷ b1 in
      let f2 = lesser f1 (judge s b1 (counts 8 o)) in
      left_item b f (counts 9 o) (counts 8 o ∷ (term_items c t ++ block_items c i)) P m
      (left_item b1 f1 (counts 8 o) (term_items c t ++ block_items c i) P m
      (left_after b2 f2 (term_items c t) (block_items c i) P m
      (inner (latest_first b2 (term_items c t)) (judged s b2 f2 (term_items c t)) (test_noted c o t b f p h))))

  pub block_noted : (c : Site) (from : ℕ) (k : Block) (b : List Item) (f : Finding) (p : Draft) → Noted s b f p.notes
      → Left b f (block_items c k) (BlockPlaced k) (run_block s (inside c) from k p).notes
  unfolding run_block block_items judged latest_first
  block_noted c from none b f p h = left_plain b f [] _ _ h
  block_noted c from (perform k o a) b f p h =
      left_append b f (block_items c k) (action_items c o a) (BlockPlaced k) (ActionPlaced o a) (run_block s (inside c) from k p).notes _
      (block_noted c from k b f p h)
      (λ g h1. action_noted c from o a (latest_first b (block_items c k)) g (run_block s (inside c) from k p) h1)
  block_noted c from (conditional k o t i) b f p h =
      left_append b f (block_items c k) (counts 9 o ∷ counts 8 o ∷ (term_items c t ++ block_items c i)) (BlockPlaced k) (BlockPlaced i) (run_block s (inside c) from k p).notes _
      (block_noted c from k b f p h)
      (λ g h1.
      let q = run_test s (inside c) o t (run_block s (inside c) from k p) in
      left_keep (latest_first b (block_items c k)) g _ (BlockPlaced i) (run_block s (inside c) (nodes q) i q).notes _
      (λ d y z. put_noted s conditional_kind _ from d y (run_block s (inside c) (nodes q) i q) z)
      (conditional_noted c o t i (BlockPlaced i) (latest_first b (block_items c k)) g (run_block s (inside c) from k p) _ h1
      (λ d y z. block_noted c (nodes q) i d y q z)))

  grown_noted : (from : ℕ) (b : List Item) (f : Finding) (p : Draft) → Noted s b f p.notes → Noted s b f (grown s from p).notes
  grown_noted from b f p h = end_noted s b f p.notes 604 (nodes p - from) h (omega arith)

  pub statements_noted : (from : ℕ) (k : Block) (b : List Item) (f : Finding) (p : Draft) → Noted s b f p.notes
      → Left b f (block_items in_function k) (BlockPlaced k) (run_statements s from k p).notes
  unfolding run_statements block_items judged latest_first
  statements_noted from none b f p h = left_plain b f [] _ _ h
  statements_noted from (perform k o a) b f p h =
      left_append b f (block_items in_function k) (action_items in_function o a) (BlockPlaced k) (ActionPlaced o a) (run_statements s from k p).notes _
      (statements_noted from k b f p h)
      (λ g h1.
      let q = run_action s false from o a (run_statements s from k p) in
      left_keep (latest_first b (block_items in_function k)) g _ (ActionPlaced o a) q.notes _ (λ d y z. grown_noted from d y q z)
      (action_noted in_function from o a (latest_first b (block_items in_function k)) g (run_statements s from k p) h1))
  statements_noted from (conditional k o t i) b f p h =
      left_append b f (block_items in_function k) (counts 9 o ∷ counts 8 o ∷ (term_items in_function t ++ block_items in_function i)) (BlockPlaced k) (BlockPlaced i) (run_statements s from k p).notes _
      (statements_noted from k b f p h)
      (λ g h1.
      let q = run_test s false o t (run_statements s from k p) in
      let r = run_block s false (nodes q) i q in
      left_keep (latest_first b (block_items in_function k)) g _ (BlockPlaced i) r.notes _
      (λ d y z. grown_noted from d y (end_conditional s from (nodes q) r) (put_noted s conditional_kind _ from d y r z))
      (conditional_noted in_function o t i (BlockPlaced i) (latest_first b (block_items in_function k)) g (run_statements s from k p) _ h1
      (λ d y z. block_noted in_function (nodes q) i d y q z)))

  -- ---- events

  pub event_noted : (w : Event) (b : List Item) (f : Finding) (p : Draft) → Noted s b f p.notes
      → Left b f (event_items w) (EventPlaced w) (run_event s w p).notes
  unfolding run_event event_items judged latest_first
  event_noted w b f p h =
      let o = w.place in
      let b1 = counts 9 o ∷ b in
      let f1 = lesser f (judge s b (counts 9 o)) in
      let h1 : Noted s b1 f1 (counting 9 o p).notes = counted_noted s b f p.notes h 9 o (omega arith) (omega arith) in
      let is = term_items in_function w.guard in
      let p2 = run_term s false w.guard (counting 9 o p) in
      let b2 = latest_first b1 is in
      let f2 = judged s b1 f1 is in
      let h2 : Noted s b2 f2 p2.notes = term_noted in_function w.guard b1 f1 (counting 9 o p) h1 in
      let b3 = counts 7 o ∷ b2 in
      let f3 = lesser f2 (judge s b2 (counts 7 o)) in
      let h3 : Noted s b3 f3 (counting 7 o p2).notes = counted_noted s b2 f2 p2.notes h2 7 o (omega arith) (omega arith) in
      let b4 = state_item w.state ∷ b3 in
      let f4 = lesser f3 (judge s b3 (state_item w.state)) in
      let p4 = run_state s w.state (counting 7 o p2) in
      let h4 : Noted s b4 f4 p4.notes = state_noted w.state b3 f3 (counting 7 o p2) h3 in
      let b5 = opens ∷ b4 in
      let f5 = lesser f4 (judge s b4 opens) in
      let h5 : Noted s b5 f5 (noting 8 0 p4).notes = opens_noted s b4 f4 p4.notes h4 in
      let ks = block_items in_handler w.handler in
      let p6 = run_block s true (nodes p2) w.handler (noting 8 0 p4) in
      left_item b f (counts 9 o) _ (EventPlaced w) _
      (left_after b1 f1 is (counts 7 o ∷ state_item w.state ∷ opens ∷ (ks ++ (state_item w.last ∷ []))) (EventPlaced w) _
      (left_item b2 f2 (counts 7 o) _ (EventPlaced w) _
      (left_item b3 f3 (state_item w.state) _ (EventPlaced w) _
      (left_item b4 f4 opens _ (EventPlaced w) _
      (left_first b5 f5 ks (state_item w.last ∷ []) (EventPlaced w) p6.notes _
      (block_noted in_handler (nodes p2) w.handler b5 f5 (noting 8 0 p4) h5)
      (λ g z. put_noted s event_kind _ _ _ _ (run_state s w.last p6) (state_noted w.last (latest_first b5 ks) g p6 z)))))))

  more_noted : (b : List Item) (f : Finding) (p : Draft) → Noted s b f p.notes → Noted s b f (more s p).notes
  unfolding one_more_event
  more_noted b f p h =
      by_cases (Noted s b f) (ltb (note p.notes 605) 4096) (set p.notes 605 (note p.notes 605 + 1)) p.notes
      (λ _. end_noted s b f p.notes 605 (note p.notes 605 + 1) h (omega arith)) (λ _. h)

  pub events_noted : (ws : List Event) (b : List Item) (f : Finding) (p : Draft) → Noted s b f p.notes
      → Left b f (of_each event_items ws) (Each EventPlaced ws) (run_events s ws p).notes
  unfolding run_events of_each judged latest_first
  events_noted [] b f p h = left_plain b f [] _ _ h
  events_noted (w ∷ ws) b f p h =
      left_append b f (event_items w) (of_each event_items ws) (EventPlaced w) (Each EventPlaced ws) (run_event s w p).notes _
      (event_noted w b f p h)
      (λ g z. events_noted ws (latest_first b (event_items w)) g (more s (run_event s w p)) (more_noted (latest_first b (event_items w)) g (run_event s w p) z))

  -- ---- functions

  pub precondition_noted : (t : Precondition) (b : List Item) (f : Finding) (p : Draft) → Noted s b f p.notes
      → After b f (precondition_items t) (run_precondition s t p).notes
  unfolding run_precondition precondition_items judged latest_first
  precondition_noted omitted b f p h = h
  precondition_noted (given t) b f p h = term_noted in_function t b f p h

  -- a function's head: its state, its party, then all three
  pub function_head_noted : (k : Function) (b : List Item) (f : Finding) (p : Draft) → Noted s b f p.notes
      → After b f (state_item k.state ∷ uses (0 ∷ []) k.party ∷ heads k.place k.state k.party k.name ∷ []) (run_head s k p).notes
  unfolding judged latest_first known
  function_head_noted k b f p h =
      let b1 = state_item k.state ∷ b in
      let f1 = lesser f (judge s b (state_item k.state)) in
      let p1 = run_state s k.state p in
      let h1 : Noted s b1 f1 p1.notes = state_noted k.state b f p h in
      let b2 = uses (0 ∷ []) k.party ∷ b1 in
      let f2 = lesser f1 (judge s b1 (uses (0 ∷ []) k.party)) in
      let p2 = with_notes p1 (party_used s k.party.start k.party.end p1.notes) in
      let h2 : Noted s b2 f2 p2.notes = party_noted s b1 f1 p1.notes h1 k.party in
      let Q : number_of (word s k.state) (known s 5 b1) ≡ state_in s k.state p =
      mentioned_number s 5 k.state k.state.start b ∙ sym (number_noted s b f p.notes h 5 (omega arith) (word s k.state)) in
      let A : number_of (word s k.party) (known s 0 b1) ≡ number_in s p1.notes 0 (word s k.party) =
      sym (number_noted s b1 f1 p1.notes h1 0 (omega arith) (word s k.party)) in
      let b3 = heads k.place k.state k.party k.name ∷ b2 in
      let f3 = lesser f2 (judge s b2 (heads k.place k.state k.party k.name)) in
      subst (λ (q : ℕ). Noted s b3 f3 (head s k.place q (number_in s p1.notes 0 (word s k.party)) k.name.start k.name.end p2).notes) Q
      (subst (λ (a : ℕ). Noted s b3 f3 (head s k.place (number_of (word s k.state) (known s 5 b1)) a k.name.start k.name.end p2).notes) A
      (head_noted s b2 f2 p2 h2 k.place k.state k.party k.name))

  pub parts_noted : (k : Function) (b : List Item) (f : Finding) (p : Draft) → Noted s b f p.notes
      → After b f (declared 3 k.values ++ (declared 4 k.parameters ++ precondition_items k.precondition)) (run_parts s k p).notes
  parts_noted k b f p h =
      let vs = declared 3 k.values in
      let ys = declared 4 k.parameters in
      let p1 = run_names s 3 k.values p in
      let p2 = run_names s 4 k.parameters p1 in
      let b1 = latest_first b vs in
      let f1 = judged s b f vs in
      after_append b f vs (ys ++ precondition_items k.precondition) _
      (after_append b1 f1 ys (precondition_items k.precondition) _
      (precondition_noted k.precondition (latest_first b1 ys) (judged s b1 f1 ys) p2
      (names_noted 4 k.parameters b1 f1 p1 (omega arith)
      (names_noted 3 k.values b f p (omega arith) h))))

  pub begun_noted : (b : List Item) (f : Finding) (p : Draft) → Noted s b f p.notes → Noted s (opens ∷ b) (lesser f (judge s b opens)) (begun s p).notes
  begun_noted b f p h =
      end_noted s _ _ (set (set p.notes 8 0) 604 0) 605 0 (end_noted s _ _ (set p.notes 8 0) 604 0 (opens_noted s b f p.notes h) (omega arith)) (omega arith)

  pub body_noted : (i : Body) (b : List Item) (f : Finding) (p : Draft) → Noted s b f p.notes
      → Left b f (opens ∷ (block_items in_function i.statements ++ of_each event_items i.events)) (BlockPlaced i.statements × Each EventPlaced i.events) (run_body s i p).notes
  unfolding run_body
  body_noted i b f p h =
      let b1 = opens ∷ b in
      let f1 = lesser f (judge s b opens) in
      let p1 = begun s p in
      let p2 = run_statements s (nodes p) i.statements p1 in
      left_item b f opens _ _ _
      (left_append b1 f1 (block_items in_function i.statements) (of_each event_items i.events) (BlockPlaced i.statements) (Each EventPlaced i.events) p2.notes _
      (statements_noted (nodes p) i.statements b1 f1 p1 (begun_noted b f p h))
      (λ g z. events_noted i.events (latest_first b1 (block_items in_function i.statements)) g p2 z))

  rest_noted : (i last first condition body event events : ℕ) (b : List Item) (f : Finding) (p : Draft) → Noted s b f p.notes
      → Noted s b f (function_rest i last first condition body event events p).notes
  unfolding function_rest
  rest_noted i last first condition body event events b f p h = by_cases (λ (r : Draft). Noted s b f r.notes) (ltb i 64) _ p (λ _. h) (λ _. h)

  pub function_noted : (k : Function) (b : List Item) (f : Finding) (p : Draft) → Noted s b f p.notes
      → Left b f (function_items k) (FunctionPlaced k) (run_function s k p).notes
  unfolding run_function function_items judged latest_first
  function_noted k b f p h =
      let hs = state_item k.state ∷ uses (0 ∷ []) k.party ∷ heads k.place k.state k.party k.name ∷ [] in
      let vs = declared 3 k.values in
      let ys = declared 4 k.parameters in
      let ts = precondition_items k.precondition in
      let bs = block_items in_function k.body.statements in
      let es = of_each event_items k.body.events in
      let ls = state_item k.last ∷ [] in
      let is = opens ∷ (bs ++ es) in
      let p1 = run_head s k p in
      let p2 = run_parts s k p1 in
      let p3 = run_body s k.body p2 in
      let b1 = latest_first b hs in
      let f1 = judged s b f hs in
      let h1 : Noted s b1 f1 p1.notes = function_head_noted k b f p h in
      let b2 = latest_first b1 (vs ++ (ys ++ ts)) in
      let f2 = judged s b1 f1 (vs ++ (ys ++ ts)) in
      let h2 : Noted s b2 f2 p2.notes = parts_noted k b1 f1 p1 h1 in
      let end : Left b2 f2 (is ++ ls) (FunctionPlaced k) (run_function s k p).notes =
      left_first b2 f2 is ls (FunctionPlaced k) p3.notes _
      (body_noted k.body b2 f2 p2 h2)
      (λ g z. rest_noted _ _ _ _ _ _ _ _ _ (run_state s k.last p3) (state_noted k.last (latest_first b2 is) g p3 z)) in
      let all : Left b f (hs ++ ((vs ++ (ys ++ ts)) ++ (is ++ ls))) (FunctionPlaced k) (run_function s k p).notes =
      left_after b f hs ((vs ++ (ys ++ ts)) ++ (is ++ ls)) (FunctionPlaced k) _
      (left_after b1 f1 (vs ++ (ys ++ ts)) (is ++ ls) (FunctionPlaced k) _ end) in
      subst (λ (l : List Item). Left b f (hs ++ l) (FunctionPlaced k) (run_function s k p).notes)
      (append_assoc vs (ys ++ ts) (is ++ ls)
      ∙ ap (λ (l : List Item). vs ++ l) (append_assoc ys ts (is ++ ls))
      ∙ ap (λ (l : List Item). vs ++ (ys ++ (ts ++ (opens ∷ l)))) (append_assoc bs es ls))
      all

  pub functions_noted : (ks : List Function) (b : List Item) (f : Finding) (p : Draft) → Noted s b f p.notes
      → Left b f (of_each function_items ks) (Each FunctionPlaced ks) (run_functions s ks p).notes
  unfolding run_functions of_each judged latest_first
  functions_noted [] b f p h = left_plain b f [] _ _ h
  functions_noted (k ∷ ks) b f p h =
      left_append b f (function_items k) (of_each function_items ks) (FunctionPlaced k) (Each FunctionPlaced ks) (run_function s k p).notes _
      (function_noted k b f p h)
      (λ g z. functions_noted ks (latest_first b (function_items k)) g (run_function s k p) z)
