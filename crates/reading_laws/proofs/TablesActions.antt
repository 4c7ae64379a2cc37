-- The nodes that the pass writes for statements are those of what they resolve to. Assumes nothing.
use mathlib.Core.Path.{◌≡◌, refl, sym, ap, subst, ◌∙◌}
use mathlib.Core.Bool.{true}
use mathlib.Core.List.{List, [], ◌∷◌, ◌++◌, append_assoc}
use Prim.Native.Nat.{ℕ, ◌+◌, ◌*◌, ◌≤◌}
use native.Mathlib.Omega.{arith}
use lib.ListN.{length, length-append}
use Rattle.contract.specs.Tree as tree
use Rattle.contract.specs.Limits.{max_nodes}
use Rattle.contract.specs.Table.{value_move_kind, asset_move_kind, whole_move_kind}
use Rattle.contract.specs.Sizes.{expression_size, action_size}
use Rattle.contract.specs.Encode.{node, expression_nodes, action_parts, action_kind, holder_node}
use Rattle.contract_laws.proofs.Lengths.{length_expression, length_holder}
use Rattle.entries.specs.Draft.{Draft, with_notes, counted, wanted, put, put_name, holder_in, value_target, asset_target}
use Rattle.reading.specs.Syntax.{Span, Term, named, Action, sends, moves, moves_all}
use Rattle.reading.specs.Items.{Item, uses, counts, Site, asset_kinds, name_items, term_items, action_items}
use Rattle.reading.specs.Rules.{word, known, judge}
use Rattle.reading.specs.Resolve.{Names, latest_first, name_of, holder_of, send_of, move_of, move_all_of, expression_of, action_of}
use Rattle.reading_laws.specs.Walk.{nodes, counting}
use Rattle.accepted.proofs.Judged.{Clean, clean_first, clean_second, latest_append, test_holds}
use Rattle.accepted.proofs.Known.{right_item, every_latest}
use Rattle.accepted.proofs.CodeItems.{name_size, action_of_lem}
use Rattle.reading_laws.proofs.Run.{run_term, run_action, whole_notes}
use Rattle.reading_laws.proofs.NotedNames.{inside}
use Rattle.reading_laws.proofs.SectionsNodes.{Writing, writing_same, put_name_writes, leaf_writes, counting_writes, wanted_writes}
use Rattle.accepted.proofs.Sorted.{is_expression, is_action}
use Rattle.reading_laws.proofs.TablesGiven.{Agree}
use Rattle.reading_laws.proofs.TablesNames.{node_of, Looks, holder_node_lem, name_held, send_parts, move_parts, move_all_parts, send_kind, move_kind, move_all_kind, send_size, move_size, move_all_size}
use Rattle.reading_laws.proofs.TablesTabled.{Mid, nodes_same, nodes_after, node_after, Tells, looks, sections_at, Tabled}
use Rattle.reading_laws.proofs.TablesLaws.{tell_counted, tell_holder, tell_action}
use Rattle.reading_laws.proofs.TablesTerms.{counting_tabled, node_tabled, looks_counted, agree_used, expression_tabled}

held_nodes : (e : tree.Expression) (h : tree.Holder) → e ≡ tree.held h → expression_nodes e ≡ holder_node h
unfolding expression_nodes
held_nodes e h q = ap expression_nodes q

module _ (s : List ℕ) where
  pub agree_counted : {c : Site} {N : Names} {b : List Item} (k o : ℕ) → Agree s c N (counts k o ∷ b) → Agree s c N b
  unfolding known
  agree_counted k o a =
      record { parties = a.parties; assets = a.assets; fields = a.fields; values = a.values; parameters = a.parameters; states = a.states; strings = a.strings; differ = record { apart = a.differ.apart } }

  looks_used : {b : List Item} {n : List ℕ} (ks : List ℕ) (x : Span) → Looks s b n → Looks s (uses ks x ∷ b) n
  unfolding known
  looks_used ks x l = record { number = l.number; among = l.among }

  -- a statement is known for one at its arrow
  pub statement_tabled : {b : List Item} {m : Mid} {ns : List ℕ} {p : Draft} (o : ℕ) → Tabled s b m ns p → Tabled s (counts 8 o ∷ b) m ns (counting 8 o p)
  statement_tabled o t = counting_tabled s 8 o (omega arith) (omega arith) t

  module _ (c : Site) (N : Names) where
    send_items : (o : ℕ) (e : Term) (t : Span) (b : List Item)
        → latest_first b (action_items c o (sends e t)) ≡ uses (0 ∷ 2 ∷ []) t ∷ counts 9 t.start ∷ counts 8 o ∷ latest_first (counts 9 o ∷ b) (term_items c e)
    unfolding action_items latest_first
    send_items o e t b = latest_append (counts 9 o ∷ b) (term_items c e) (counts 8 o ∷ name_items (0 ∷ 2 ∷ []) t)

    move_items : (o : ℕ) (e : Term) (x t : Span) (b : List Item)
        → latest_first b (action_items c o (moves e x t))
        ≡ uses (0 ∷ asset_kinds c) t ∷ counts 9 t.start ∷ uses (asset_kinds c) x ∷ counts 9 x.start ∷ counts 8 o ∷ latest_first (counts 9 o ∷ b) (term_items c e)
    unfolding action_items latest_first
    move_items o e x t b = latest_append (counts 9 o ∷ b) (term_items c e) (counts 8 o ∷ (name_items (asset_kinds c) x ++ name_items (0 ∷ asset_kinds c) t))

    whole_items : (o : ℕ) (x t : Span) (b : List Item)
        → latest_first b (action_items c o (moves_all x t))
        ≡ uses (0 ∷ asset_kinds c) t ∷ uses (asset_kinds c) x ∷ counts 9 t.start ∷ counts 8 o ∷ latest_first (counts 9 o ∷ b) (term_items c (named x))
    unfolding action_items latest_first
    whole_items o x t b = latest_append (counts 9 o ∷ b) (term_items c (named x)) (counts 8 o ∷ counts 9 t.start ∷ uses (asset_kinds c) x ∷ uses (0 ∷ asset_kinds c) t ∷ [])

    -- E -> t
    send_written : (from d o : ℕ) (e : Term) (t : Span) (b : List Item) (m : Mid) (ns : List ℕ) (p : Draft) → is_expression s e ≡ true → Clean s b (action_items c o (sends e t))
        → Agree s c N (latest_first b (action_items c o (sends e t))) → from + d ≡ nodes p → nodes p + (expression_size (expression_of s N e) + 2) ≤ max_nodes → Tabled s b m ns p
        → Writing (sections_at s (latest_first b (action_items c o (sends e t))) m)
        (ns ++ (action_parts (send_of N (expression_of s N e) (word s t)) ++ node value_move_kind 0 (d + (expression_size (expression_of s N e) + 2)))) (run_action s (inside c) from o (sends e t) p)
    unfolding run_action known action_items judge
    send_written from d o e t b m ns p h l a z few w =
        let ie = term_items c e in
        let E = expression_of s N e in
        let tail = counts 8 o ∷ name_items (0 ∷ 2 ∷ []) t in
        let b1 = latest_first (counts 9 o ∷ b) ie in
        let b3 = counts 9 t.start ∷ counts 8 o ∷ b1 in
        let a4 : Agree s c N (uses (0 ∷ 2 ∷ []) t ∷ b3) = subst (Agree s c N) (send_items o e t b) a in
        let a3 : Agree s c N b3 = agree_used s (0 ∷ 2 ∷ []) t a4 in
        let a1 : Agree s c N b1 = agree_counted 8 o (agree_counted 9 t.start a3) in
        let l1 = clean_first s (counts 9 o ∷ b) ie tail l.1 in
        let l2 : Clean s b1 tail = clean_second s (counts 9 o ∷ b) ie tail l.1 in
        let w0 = node_tabled s o w in
        let n0 : nodes (counting 9 o p) ≡ nodes p = nodes_same w.writing w0.writing in
        let q = run_term s (inside c) e (counting 9 o p) in
        let w1 : Tabled s b1 m (ns ++ expression_nodes E) q = expression_tabled s c N e (counts 9 o ∷ b) m ns (counting 9 o p) h l1 a1 (omega arith) w0 in
        let w2 : Tabled s (counts 8 o ∷ b1) m (ns ++ expression_nodes E) (counting 8 o q) = statement_tabled o w1 in
        let n2 : nodes (counting 8 o q) ≡ nodes p + expression_size E = nodes_after (expression_nodes E) (expression_size E) w.writing w2.writing (length_expression E) in
        let K = value_target s (counted 8 o q.notes) (word s t) in
        let w3 : Writing (sections_at s b1 m) (ns ++ (expression_nodes E ++ node_of K)) (put_name K t.start (counting 8 o q)) =
        writing_same (append_assoc ns (expression_nodes E) (node_of K)) (put_name_writes K t.start w2.writing (omega arith)) in
        let ll : length (expression_nodes E ++ node_of K) ≡ length (expression_nodes E) + 3 = length-append (expression_nodes E) (node_of K) in
        let le : length (expression_nodes E) ≡ expression_size E * 3 = length_expression E in
        let parts : action_parts (send_of N E (word s t)) ≡ expression_nodes E ++ node_of K =
        send_parts s N b3 (counted 8 o q.notes) (looks_counted s 9 t.start (looks s w2.tells)) (word s t) c E a3 (test_holds _ 13 t.start l2.1.1.0) in
        let size : d + (expression_size E + 1) + 1 ≡ d + (expression_size E + 2) = omega arith in
        subst (λ (is : List Item). Writing (sections_at s is m) (ns ++ (action_parts (send_of N E (word s t)) ++ node value_move_kind 0 (d + (expression_size E + 2)))) (run_action s (inside c) from o (sends e t) p)) (sym (send_items o e t b))
        (writing_same (λ i. ns ++ (sym parts i ++ node value_move_kind 0 (size i)))
        (node_after (expression_nodes E ++ node_of K) value_move_kind 0 from (expression_size E + 1) d w.writing w3 (omega arith) z (omega arith)))

    -- E -o h, t
    move_written : (from d o : ℕ) (e : Term) (x t : Span) (b : List Item) (m : Mid) (ns : List ℕ) (p : Draft) → is_expression s e ≡ true → Clean s b (action_items c o (moves e x t))
        → Agree s c N (latest_first b (action_items c o (moves e x t))) → from + d ≡ nodes p → nodes p + (expression_size (expression_of s N e) + 3) ≤ max_nodes → Tabled s b m ns p
        → Writing (sections_at s (latest_first b (action_items c o (moves e x t))) m)
        (ns ++ (action_parts (move_of N (expression_of s N e) (holder_of N (word s x)) (word s t)) ++ node asset_move_kind 0 (d + (expression_size (expression_of s N e) + 3)))) (run_action s (inside c) from o (moves e x t) p)
    unfolding run_action known action_items judge
    move_written from d o e x t b m ns p h l a z few w =
        let ie = term_items c e in
        let E = expression_of s N e in
        let H = holder_of N (word s x) in
        let tail = counts 8 o ∷ (name_items (asset_kinds c) x ++ name_items (0 ∷ asset_kinds c) t) in
        let b1 = latest_first (counts 9 o ∷ b) ie in
        let b3 = counts 9 x.start ∷ counts 8 o ∷ b1 in
        let b4 = uses (asset_kinds c) x ∷ b3 in
        let b5 = counts 9 t.start ∷ b4 in
        let a6 : Agree s c N (uses (0 ∷ asset_kinds c) t ∷ b5) = subst (Agree s c N) (move_items o e x t b) a in
        let a5 : Agree s c N b5 = agree_used s (0 ∷ asset_kinds c) t a6 in
        let a3 : Agree s c N b3 = agree_used s (asset_kinds c) x (agree_counted 9 t.start a5) in
        let a1 : Agree s c N b1 = agree_counted 8 o (agree_counted 9 x.start a3) in
        let l1 = clean_first s (counts 9 o ∷ b) ie tail l.1 in
        let l2 : Clean s b1 tail = clean_second s (counts 9 o ∷ b) ie tail l.1 in
        let w0 = node_tabled s o w in
        let n0 : nodes (counting 9 o p) ≡ nodes p = nodes_same w.writing w0.writing in
        let q = run_term s (inside c) e (counting 9 o p) in
        let w1 : Tabled s b1 m (ns ++ expression_nodes E) q = expression_tabled s c N e (counts 9 o ∷ b) m ns (counting 9 o p) h l1 a1 (omega arith) w0 in
        let w2 : Tabled s (counts 8 o ∷ b1) m (ns ++ expression_nodes E) (counting 8 o q) = statement_tabled o w1 in
        let n2 : nodes (counting 8 o q) ≡ nodes p + expression_size E = nodes_after (expression_nodes E) (expression_size E) w.writing w2.writing (length_expression E) in
        let X = holder_in s (counted 8 o q.notes) (inside c) (word s x) in
        let r = put_name X x.start (counting 8 o q) in
        let source : node_of X ≡ holder_node H =
        holder_node_lem s N b3 (counted 8 o q.notes) (looks_counted s 9 x.start (looks s w2.tells)) (word s x) c a3 (test_holds _ 13 x.start l2.1.1.0) in
        let w3 : Writing (sections_at s b1 m) (ns ++ (expression_nodes E ++ holder_node H)) r =
        writing_same (append_assoc ns (expression_nodes E) (node_of X) ∙ ap (λ (v : List ℕ). ns ++ (expression_nodes E ++ v)) source) (put_name_writes X x.start w2.writing (omega arith)) in
        let lh : length (holder_node H) ≡ 3 = length_holder H in
        let l3 : length (expression_nodes E ++ holder_node H) ≡ length (expression_nodes E) + length (holder_node H) = length-append (expression_nodes E) (holder_node H) in
        let le : length (expression_nodes E) ≡ expression_size E * 3 = length_expression E in
        let n3 : nodes r ≡ nodes p + (expression_size E + 1) = nodes_after (expression_nodes E ++ holder_node H) (expression_size E + 1) w.writing w3 (omega arith) in
        let T = asset_target s r.notes (inside c) (word s t) in
        let w4 : Writing (sections_at s b1 m) (ns ++ (expression_nodes E ++ (holder_node H ++ node_of T))) (put_name T t.start r) =
        writing_same (append_assoc ns (expression_nodes E ++ holder_node H) (node_of T) ∙ ap (λ (v : List ℕ). ns ++ v) (append_assoc (expression_nodes E) (holder_node H) (node_of T))) (put_name_writes T t.start w3 (omega arith)) in
        let l4 : length (expression_nodes E ++ (holder_node H ++ node_of T)) ≡ length (expression_nodes E) + length (holder_node H ++ node_of T) = length-append (expression_nodes E) (holder_node H ++ node_of T) in
        let l5 : length (holder_node H ++ node_of T) ≡ length (holder_node H) + 3 = length-append (holder_node H) (node_of T) in
        let t4 : Tells s b4 r.notes = tell_holder s c x (counts 8 o ∷ b1) (counting 8 o q) w2.tells in
        let parts : action_parts (move_of N E H (word s t)) ≡ expression_nodes E ++ (holder_node H ++ node_of T) =
        move_parts s N b5 r.notes (looks_counted s 9 t.start (looks s t4)) (word s t) c E H a5 (test_holds _ 13 t.start l2.1.1.1.1.0) in
        let size : d + (expression_size E + 2) + 1 ≡ d + (expression_size E + 3) = omega arith in
        subst (λ (is : List Item). Writing (sections_at s is m) (ns ++ (action_parts (move_of N E H (word s t)) ++ node asset_move_kind 0 (d + (expression_size E + 3)))) (run_action s (inside c) from o (moves e x t) p)) (sym (move_items o e x t b))
        (writing_same (λ i. ns ++ (sym parts i ++ node asset_move_kind 0 (size i)))
        (node_after (expression_nodes E ++ (holder_node H ++ node_of T)) asset_move_kind 0 from (expression_size E + 2) d w.writing w4 (omega arith) z (omega arith)))

    -- h -o t
    whole_written : (from d o : ℕ) (x t : Span) (b : List Item) (m : Mid) (ns : List ℕ) (p : Draft) → Clean s b (action_items c o (moves_all x t))
        → Agree s c N (latest_first b (action_items c o (moves_all x t))) → from + d ≡ nodes p → nodes p + 3 ≤ max_nodes → Tabled s b m ns p
        → Writing (sections_at s (latest_first b (action_items c o (moves_all x t))) m)
        (ns ++ (action_parts (move_all_of N (holder_of N (word s x)) (word s t)) ++ node whole_move_kind 0 (d + 3))) (run_action s (inside c) from o (moves_all x t) p)
    unfolding run_action known action_items judge expression_of is_expression
    whole_written from d o x t b m ns p l a z few w =
        let ie = term_items c (named x) in
        let H = holder_of N (word s x) in
        let tail = counts 8 o ∷ counts 9 t.start ∷ uses (asset_kinds c) x ∷ uses (0 ∷ asset_kinds c) t ∷ [] in
        let b1 = latest_first (counts 9 o ∷ b) ie in
        let b3 = counts 9 t.start ∷ counts 8 o ∷ b1 in
        let b4 = uses (asset_kinds c) x ∷ b3 in
        let a5 : Agree s c N (uses (0 ∷ asset_kinds c) t ∷ b4) = subst (Agree s c N) (whole_items o x t b) a in
        let a4 : Agree s c N b4 = agree_used s (0 ∷ asset_kinds c) t a5 in
        let a3 : Agree s c N b3 = agree_used s (asset_kinds c) x a4 in
        let a1 : Agree s c N b1 = agree_counted 8 o (agree_counted 9 t.start a3) in
        let l1 = clean_first s (counts 9 o ∷ b) ie tail l.1 in
        let l2 : Clean s b1 tail = clean_second s (counts 9 o ∷ b) ie tail l.1 in
        let w0 = node_tabled s o w in
        let n0 : nodes (counting 9 o p) ≡ nodes p = nodes_same w.writing w0.writing in
        let one : expression_size (name_of N (word s x)) ≡ 1 = name_size N (word s x) in
        let q = run_term s (inside c) (named x) (counting 9 o p) in
        let w1 : Tabled s b1 m (ns ++ expression_nodes (name_of N (word s x))) q = expression_tabled s c N (named x) (counts 9 o ∷ b) m ns (counting 9 o p) refl l1 a1 (omega arith) w0 in
        let t3 : Tells s b3 (whole_notes s o t q.notes) =
        tell_counted s 9 t.start (counts 8 o ∷ b1) (counted 8 o q.notes) (omega arith) (omega arith) (tell_counted s 8 o b1 q.notes (omega arith) (omega arith) w1.tells) in
        let first : expression_nodes (name_of N (word s x)) ≡ holder_node H =
        held_nodes (name_of N (word s x)) H (name_held s N b3 (whole_notes s o t q.notes) (looks s t3) (word s x) c a3 (test_holds _ 13 x.start l2.1.1.0)) in
        let X = holder_in s (whole_notes s o t q.notes) (inside c) (word s x) in
        let T = asset_target s (whole_notes s o t q.notes) (inside c) (word s t) in
        let w2 : Writing (sections_at s b1 m) (ns ++ holder_node H) (with_notes q (wanted T t.start (wanted X o (whole_notes s o t q.notes)))) =
        wanted_writes T t.start (wanted_writes X o (counting_writes 9 t.start (omega arith) (counting_writes 8 o (omega arith) (writing_same (ap (λ (v : List ℕ). ns ++ v) first) w1.writing)))) in
        let lh : length (holder_node H) ≡ 3 = length_holder H in
        let n2 : nodes (with_notes q (wanted T t.start (wanted X o (whole_notes s o t q.notes)))) ≡ nodes p + 1 = nodes_after (holder_node H) 1 w.writing w2 (omega arith) in
        let n1 : nodes (with_notes q (wanted T t.start (wanted X o (whole_notes s o t q.notes)))) ≡ nodes q = nodes_same (writing_same (ap (λ (v : List ℕ). ns ++ v) first) w1.writing) w2 in
        let w3 : Writing (sections_at s b1 m) (ns ++ (holder_node H ++ node_of T)) (put T.kind T.number (nodes q) (with_notes q (wanted T t.start (wanted X o (whole_notes s o t q.notes))))) =
        writing_same (append_assoc ns (holder_node H) (node_of T)) (leaf_writes T.kind T.number (nodes q) (sym n1) w2 (omega arith)) in
        let l5 : length (holder_node H ++ node_of T) ≡ length (holder_node H) + 3 = length-append (holder_node H) (node_of T) in
        let parts : action_parts (move_all_of N H (word s t)) ≡ holder_node H ++ node_of T =
        move_all_parts s N b4 (whole_notes s o t q.notes) (looks_used (asset_kinds c) x (looks s t3)) (word s t) c H a4 (test_holds _ 13 t.start l2.1.1.1.0) in
        let size : d + 2 + 1 ≡ d + 3 = omega arith in
        subst (λ (is : List Item). Writing (sections_at s is m) (ns ++ (action_parts (move_all_of N H (word s t)) ++ node whole_move_kind 0 (d + 3))) (run_action s (inside c) from o (moves_all x t) p)) (sym (whole_items o x t b))
        (writing_same (λ i. ns ++ (sym parts i ++ node whole_move_kind 0 (size i)))
        (node_after (holder_node H ++ node_of T) whole_move_kind 0 from 2 d w.writing w3 (omega arith) z (omega arith)))

    action_written : (from d o : ℕ) (A : Action) (b : List Item) (m : Mid) (ns : List ℕ) (p : Draft) → is_action s A ≡ true → Clean s b (action_items c o A)
        → Agree s c N (latest_first b (action_items c o A)) → from + d ≡ nodes p → nodes p + action_size (action_of s N A) ≤ max_nodes → Tabled s b m ns p
        → Writing (sections_at s (latest_first b (action_items c o A)) m)
        (ns ++ (action_parts (action_of s N A) ++ node (action_kind (action_of s N A)) 0 (d + action_size (action_of s N A)))) (run_action s (inside c) from o A p)
    unfolding action_of is_action
    action_written from d o (sends e t) b m ns p h l a z few w =
        let E = expression_of s N e in
        let k = send_kind N E (word s t) in let n = send_size N E (word s t) in
        writing_same (λ i. ns ++ (action_parts (send_of N E (word s t)) ++ node (sym k i) 0 (d + sym n i))) (send_written from d o e t b m ns p h l a z (omega arith) w)
    action_written from d o (moves e x t) b m ns p h l a z few w =
        let E = expression_of s N e in let H = holder_of N (word s x) in
        let k = move_kind N E H (word s t) in let n = move_size N E H (word s t) in
        writing_same (λ i. ns ++ (action_parts (move_of N E H (word s t)) ++ node (sym k i) 0 (d + sym n i))) (move_written from d o e x t b m ns p h l a z (omega arith) w)
    action_written from d o (moves_all x t) b m ns p h l a z few w =
        let H = holder_of N (word s x) in
        let k = move_all_kind N H (word s t) in let n = move_all_size N H (word s t) in
        writing_same (λ i. ns ++ (action_parts (move_all_of N H (word s t)) ++ node (sym k i) 0 (d + sym n i))) (whole_written from d o x t b m ns p l a z (omega arith) w)

    pub action_tabled : (from d o : ℕ) (A : Action) (b : List Item) (m : Mid) (ns : List ℕ) (p : Draft) → is_action s A ≡ true → Clean s b (action_items c o A)
        → Agree s c N (latest_first b (action_items c o A)) → from + d ≡ nodes p → nodes p + action_size (action_of s N A) ≤ max_nodes → Tabled s b m ns p
        → Tabled s (latest_first b (action_items c o A)) m
        (ns ++ (action_parts (action_of s N A) ++ node (action_kind (action_of s N A)) 0 (d + action_size (action_of s N A)))) (run_action s (inside c) from o A p)
    action_tabled from d o A b m ns p h l a z few w =
        record {
          tells = tell_action s c from o A b p w.tells;
          right = every_latest (right_item s) b (action_items c o A) w.right (action_of_lem s c N o A h).right;
          writing = action_written from d o A b m ns p h l a z few w;
        }
