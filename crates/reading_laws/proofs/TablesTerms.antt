-- The nodes that the pass writes for an expression or a condition are those of what it resolves to. Assumes nothing.
use mathlib.Core.Path.{◌≡◌, refl, sym, ap, subst, ◌∙◌}
use mathlib.Core.Bool.{Bool, true, false, ◌&&◌}
use mathlib.Core.List.{List, [], ◌∷◌, ◌++◌, append_assoc}
use Prim.Native.Nat.{ℕ, ◌+◌, ◌*◌, ◌<◌, ◌≤◌}
use native.Mathlib.Omega.{arith}
use lib.ListN.{length, length-append}
use lib.Dec.{eqb}
use Rattle.laws.specs.Choice.{pick}
use Rattle.laws.proofs.Choice.{true_false, pick_true}
use Rattle.words.specs.Words.{now_word, and_mark, or_mark}
use Rattle.contract.specs.Tree as tree
use Rattle.laws.proofs.Truths.{both_left, both_right}
use Rattle.laws.specs.Lists.{every}
use Rattle.contract.specs.Limits.{max_nodes}
use Rattle.contract.specs.Table.{constant_kind, string_kind, not_kind, and_kind, or_kind}
use Rattle.contract.specs.Sizes.{expression_size, condition_size}
use Rattle.contract.specs.Encode.{node, expression_nodes, condition_nodes, operator_kind, comparison_kind}
use Rattle.contract_laws.proofs.Lengths.{length_expression, length_condition}
use Rattle.entries.specs.Draft.{Draft, number_in, name_in, put_leaf}
use Rattle.reading.specs.Syntax.{Span, Term, named, numeral, quoted, fixed, negated, operated}
use Rattle.reading.specs.Grammar.{is_one_of, comparisons}
use Rattle.reading.specs.Items.{Item, mentions, uses, counts, Site, value_kinds, term_items}
use Rattle.reading.specs.Rules.{word, known, number_of, judge}
use Rattle.reading.specs.Resolve.{Names, latest_first, operator_of, comparison_of, name_of, expression_of, condition_of}
use Rattle.reading_laws.specs.Walk.{nodes, counting, operator_node}
use Rattle.accepted.proofs.Judged.{Clean, clean_first, clean_second, latest_append, test_holds}
use Rattle.accepted.proofs.Known.{right_item, plain, every_latest}
use Rattle.accepted.proofs.CodeItems.{Of, name_size, expression_of_lem, condition_of_lem}
use Rattle.reading_laws.proofs.Run.{run_term, quoted_notes, fixed_node}
use Rattle.reading_laws.proofs.NotedNames.{inside}
use Rattle.reading_laws.proofs.NotedFind.{mentioned_number}
use Rattle.reading_laws.proofs.SectionsNodes.{Writing, writing_same, put_name_writes, put_leaf_writes, leaf_writes, counting_writes}
use Rattle.accepted.proofs.Sorted.{is_expression, is_condition, arithmetic}
use Rattle.reading_laws.proofs.TablesKinds.{operator_node_lem, comparison_node, and_node, or_node, truth_node, now_node}
use Rattle.reading_laws.proofs.TablesGiven.{Agree, agree_back, number_mentioned}
use Rattle.reading_laws.proofs.TablesNames.{Looks, name_node}
use Rattle.reading_laws.proofs.TablesTabled.{Mid, nodes_same, nodes_after, node_after, looks, sections_at, Tabled, string_written}
use Rattle.reading_laws.proofs.TablesLaws.{tell_counted, tell_term}

module _ (s : List ℕ) where
  -- an event, a statement or a node is counted
  pub counting_tabled : {b : List Item} {m : Mid} {ns : List ℕ} {p : Draft} (k o : ℕ) → 7 ≤ k → k < 10 → Tabled s b m ns p → Tabled s (counts k o ∷ b) m ns (counting k o p)
  unfolding known every
  counting_tabled {b} {m} {ns} {p} k o h i t =
      record { tells = tell_counted s k o b p.notes h i t.tells; right = t.right; writing = counting_writes k o i t.writing }

  -- a node
  pub node_tabled : {b : List Item} {m : Mid} {ns : List ℕ} {p : Draft} (o : ℕ) → Tabled s b m ns p → Tabled s (counts 9 o ∷ b) m ns (counting 9 o p)
  node_tabled o t = counting_tabled 9 o (omega arith) (omega arith) t

  pub looks_counted : {b : List Item} {n : List ℕ} (k o : ℕ) → Looks s b n → Looks s (counts k o ∷ b) n
  unfolding known
  looks_counted k o l = record { number = l.number; among = l.among }

  pub agree_used : {c : Site} {N : Names} {b : List Item} (ks : List ℕ) (x : Span) → Agree s c N (uses ks x ∷ b) → Agree s c N b
  unfolding known
  agree_used ks x a =
      record { parties = a.parties; assets = a.assets; fields = a.fields; values = a.values; parameters = a.parameters; states = a.states; strings = a.strings; differ = record { apart = a.differ.apart } }

  module _ (c : Site) (N : Names) where
    term_items_lem : (k o : ℕ) (t u : Term) (b : List Item) → latest_first b (term_items c (operated k o t u)) ≡ latest_first (counts 9 o ∷ latest_first b (term_items c t)) (term_items c u)
    unfolding term_items latest_first
    term_items_lem k o t u b = latest_append b (term_items c t) (counts 9 o ∷ term_items c u)

    -- a term's table, from its nodes
    term_tabled : {n j : ℕ} (t : Term) (b : List Item) (m : Mid) (ns : List ℕ) (ms : List ℕ) (p : Draft) → Tabled s b m ns p → Of s (term_items c t) n j
        → Writing (sections_at s (latest_first b (term_items c t)) m) ms (run_term s (inside c) t p) → Tabled s (latest_first b (term_items c t)) m ms (run_term s (inside c) t p)
    term_tabled t b m ns ms p h o w =
        record { tells = tell_term s c t b p h.tells; right = every_latest (right_item s) b (term_items c t) h.right o.right; writing = w }

    -- two terms and their operator
    pair_written :
        (k o : ℕ) (t u : Term) (xs ys : List ℕ) (i j kind : ℕ) (b : List Item) (m : Mid) (ns : List ℕ) (p : Draft)
        → Tabled s b m ns p → length xs ≡ i * 3 → length ys ≡ j * 3 → nodes p + (i + j + 1) ≤ max_nodes → operator_node k ≡ kind
        → Tabled s (latest_first (counts 9 o ∷ latest_first b (term_items c t)) (term_items c u)) m ((ns ++ xs) ++ ys) (run_term s (inside c) u (counting 9 o (run_term s (inside c) t p)))
        → Writing (sections_at s (latest_first b (term_items c (operated k o t u))) m) (ns ++ (xs ++ (ys ++ node kind 0 (i + j + 1)))) (run_term s (inside c) (operated k o t u) p)
    unfolding run_term
    pair_written k o t u xs ys i j kind b m ns p h lx ly few e r =
        let ll : length (xs ++ ys) ≡ length xs + length ys = length-append xs ys in
        let size : 0 + (i + j) + 1 ≡ i + j + 1 = omega arith in
        subst (λ (is : List Item). Writing (sections_at s is m) (ns ++ (xs ++ (ys ++ node kind 0 (i + j + 1)))) (run_term s (inside c) (operated k o t u) p)) (sym (term_items_lem k o t u b))
        (writing_same (ap (λ (l : List ℕ). ns ++ l) (append_assoc xs ys (node (operator_node k) 0 (0 + (i + j) + 1)) ∙ (λ z. xs ++ (ys ++ node (e z) 0 (size z)))))
        (node_after (xs ++ ys) (operator_node k) 0 (nodes p) (i + j) 0 h.writing (writing_same (append_assoc ns xs ys) r.writing) (omega arith) (omega arith) (omega arith)))

    named_written : (x : Span) (b : List Item) (m : Mid) (ns : List ℕ) (p : Draft) → Tabled s b m ns p → Clean s b (term_items c (named x))
        → Agree s c N (latest_first b (term_items c (named x))) → nodes p < max_nodes
        → Writing (sections_at s (latest_first b (term_items c (named x))) m) (ns ++ expression_nodes (name_of N (word s x))) (run_term s (inside c) (named x) p)
    unfolding term_items latest_first known run_term judge
    named_written x b m ns p h l a few =
        writing_same
        (ap (λ (r : List ℕ). ns ++ r)
        (name_node s N (counts 9 x.start ∷ b) p.notes (looks_counted 9 x.start (looks s h.tells)) (word s x) c (agree_used (value_kinds c) x a) (test_holds _ 13 x.start l.1.0)))
        (put_name_writes (name_in s p.notes (inside c) (word s x)) x.start h.writing few)

    quoted_written : (x : Span) (o : ℕ) (b : List Item) (m : Mid) (ns : List ℕ) (p : Draft) → Tabled s b m ns p → is_expression s (quoted x o) ≡ true → Clean s b (term_items c (quoted x o))
        → Agree s c N (latest_first b (term_items c (quoted x o))) → nodes p < max_nodes
        → Writing (sections_at s (latest_first b (term_items c (quoted x o))) m) (ns ++ node string_kind (number_of (word s x) N.strings) 1) (run_term s (inside c) (quoted x o) p)
    unfolding term_items latest_first run_term is_expression
    quoted_written x o b m ns p h r l a few =
        let q = counting 9 o p in
        let t : Tabled s (counts 9 o ∷ b) m ns q = node_tabled o h in
        let w : Writing (sections_at s (mentions 6 x o ∷ counts 9 o ∷ b) m) ns (quoted_notes s x o p) = string_written s x o t r in
        let same : nodes (quoted_notes s x o p) ≡ nodes p = nodes_same h.writing w in
        let number : number_in s q.notes 6 (word s x) ≡ number_of (word s x) N.strings =
        (looks s t.tells).number 6 (omega arith) (word s x)
        ∙ sym (mentioned_number s 6 x o (counts 9 o ∷ b))
        ∙ number_mentioned s 6 x o (counts 9 o ∷ b) N.strings l.1.0 a.strings in
        writing_same (ap (λ (i : ℕ). ns ++ node string_kind i 1) number)
        (leaf_writes string_kind (number_in s q.notes 6 (word s x)) (nodes (quoted_notes s x o p)) refl w (omega arith))

    leaf_written : (t : Term) (o kind argument : ℕ) (b : List Item) (m : Mid) (ns : List ℕ) (p : Draft) → term_items c t ≡ counts 9 o ∷ [] → run_term s (inside c) t p ≡ put_leaf kind argument o p
        → Tabled s b m ns p → nodes p < max_nodes → Writing (sections_at s (latest_first b (term_items c t)) m) (ns ++ node kind argument 1) (run_term s (inside c) t p)
    unfolding latest_first known
    leaf_written t o kind argument b m ns p e r h few =
        subst (λ (is : List Item). Writing (sections_at s (latest_first b is) m) (ns ++ node kind argument 1) (run_term s (inside c) t p)) (sym e)
        (subst (λ (q : Draft). Writing (sections_at s b m) (ns ++ node kind argument 1) q) (sym r) (put_leaf_writes kind argument o h.writing few))

    -- two terms and their operator, from each of them
    pair_tabled :
        {v w : ℕ} (k o : ℕ) (t u : Term) (xs ys : List ℕ) (i j kind : ℕ) (b : List Item) (m : Mid) (ns : List ℕ) (p : Draft)
        → length xs ≡ i * 3 → length ys ≡ j * 3 → operator_node k ≡ kind
        → Of s (term_items c (operated k o t u)) v w → every plain (term_items c u) ≡ true
        → Clean s b (term_items c (operated k o t u)) → Agree s c N (latest_first b (term_items c (operated k o t u))) → nodes p + (i + j + 1) ≤ max_nodes
        → Tabled s b m ns p
        → (Clean s b (term_items c t) → Agree s c N (latest_first b (term_items c t)) → nodes p + i ≤ max_nodes → Tabled s (latest_first b (term_items c t)) m (ns ++ xs) (run_term s (inside c) t p))
        → ((d : List Item) (q : Draft) → Clean s d (term_items c u) → Agree s c N (latest_first d (term_items c u)) → nodes q + j ≤ max_nodes → Tabled s d m (ns ++ xs) q
        → Tabled s (latest_first d (term_items c u)) m ((ns ++ xs) ++ ys) (run_term s (inside c) u q))
        → Tabled s (latest_first b (term_items c (operated k o t u))) m (ns ++ (xs ++ (ys ++ node kind 0 (i + j + 1)))) (run_term s (inside c) (operated k o t u) p)
    unfolding term_items latest_first every
    pair_tabled k o t u xs ys i j kind b m ns p lx ly e r pu l a few h f1 f2 =
        let it = term_items c t in
        let iu = term_items c u in
        let b1 = latest_first b it in
        let a3 : Agree s c N (latest_first (counts 9 o ∷ b1) iu) = subst (Agree s c N) (term_items_lem k o t u b) a in
        let l2 : Clean s b1 (counts 9 o ∷ iu) = clean_second s b it (counts 9 o ∷ iu) l in
        let w1 : Tabled s b1 m (ns ++ xs) (run_term s (inside c) t p) =
        f1 (clean_first s b it (counts 9 o ∷ iu) l) (agree_back s c N b1 (counts 9 o ∷ iu) pu a3) (omega arith) in
        let w2 : Tabled s (counts 9 o ∷ b1) m (ns ++ xs) (counting 9 o (run_term s (inside c) t p)) = node_tabled o w1 in
        let n2 : nodes (counting 9 o (run_term s (inside c) t p)) ≡ nodes p + i = nodes_after xs i h.writing w2.writing lx in
        let w3 = f2 (counts 9 o ∷ b1) (counting 9 o (run_term s (inside c) t p)) l2.1 a3 (omega arith) w2 in
        term_tabled (operated k o t u) b m ns _ p h r (pair_written k o t u xs ys i j kind b m ns p h lx ly few e w3)

    number_leaf : (v o : ℕ) (b : List Item) (m : Mid) (ns : List ℕ) (p : Draft) → Tabled s b m ns p → nodes p < max_nodes
        → Writing (sections_at s (latest_first b (term_items c (numeral v o))) m) (ns ++ node constant_kind v 1) (run_term s (inside c) (numeral v o) p)
    unfolding term_items run_term
    number_leaf v o b m ns p w few = leaf_written (numeral v o) o constant_kind v b m ns p refl refl w few

    fixed_leaf : (k o : ℕ) (b : List Item) (m : Mid) (ns : List ℕ) (p : Draft) → Tabled s b m ns p → nodes p < max_nodes
        → Writing (sections_at s (latest_first b (term_items c (fixed k o))) m) (ns ++ node (fixed_node k) 0 1) (run_term s (inside c) (fixed k o) p)
    unfolding term_items run_term
    fixed_leaf k o b m ns p w few = leaf_written (fixed k o) o (fixed_node k) 0 b m ns p refl refl w few

    pub expression_tabled : (t : Term) (b : List Item) (m : Mid) (ns : List ℕ) (p : Draft) → is_expression s t ≡ true → Clean s b (term_items c t)
        → Agree s c N (latest_first b (term_items c t)) → nodes p + expression_size (expression_of s N t) ≤ max_nodes → Tabled s b m ns p
        → Tabled s (latest_first b (term_items c t)) m (ns ++ expression_nodes (expression_of s N t)) (run_term s (inside c) t p)
    unfolding expression_of expression_size is_expression expression_nodes
    expression_tabled (named x) b m ns p h l a few w =
        let one = name_size N (word s x) in
        term_tabled (named x) b m ns _ p w (expression_of_lem s c N (named x) h) (named_written x b m ns p w l a (omega arith))
    expression_tabled (numeral v o) b m ns p h l a few w =
        term_tabled (numeral v o) b m ns _ p w (expression_of_lem s c N (numeral v o) h) (number_leaf v o b m ns p w (omega arith))
    expression_tabled (quoted x o) b m ns p h l a few w =
        term_tabled (quoted x o) b m ns _ p w (expression_of_lem s c N (quoted x o) h) (quoted_written x o b m ns p w h l a (omega arith))
    expression_tabled (fixed k o) b m ns p h l a few w =
        let now : pick (eqb k now_word) tree.clock tree.broken_expression ≡ tree.clock = pick_true _ _ _ h in
        let one : expression_size (pick (eqb k now_word) tree.clock tree.broken_expression) ≡ 1 = ap expression_size now in
        term_tabled (fixed k o) b m ns _ p w (expression_of_lem s c N (fixed k o) h)
        (writing_same (ap (λ (r : List ℕ). ns ++ r) (ap (λ (i : ℕ). node i 0 1) (now_node k h) ∙ sym (ap expression_nodes now))) (fixed_leaf k o b m ns p w (omega arith)))
    expression_tabled (negated o t) b m ns p h l a few w = true_false (sym h)
    expression_tabled (operated k o t u) b m ns p h l a few w =
        let r = both_right (is_one_of arithmetic k) (is_expression s t && is_expression s u) h in
        let ht = both_left (is_expression s t) (is_expression s u) r in
        let hu = both_right (is_expression s t) (is_expression s u) r in
        pair_tabled k o t u (expression_nodes (expression_of s N t)) (expression_nodes (expression_of s N u)) (expression_size (expression_of s N t)) (expression_size (expression_of s N u))
        (operator_kind (operator_of k)) b m ns p (length_expression (expression_of s N t)) (length_expression (expression_of s N u))
        (operator_node_lem k (both_left (is_one_of arithmetic k) (is_expression s t && is_expression s u) h))
        (expression_of_lem s c N (operated k o t u) h) (expression_of_lem s c N u hu).plains l a few w
        (λ l1 a1 f1. expression_tabled t b m ns p ht l1 a1 f1 w)
        (λ d q l2 a2 f2 w2. expression_tabled u d m _ q hu l2 a2 f2 w2)

    not_written : (o : ℕ) (t : Term) (xs : List ℕ) (n : ℕ) (b : List Item) (m : Mid) (ns : List ℕ) (p : Draft) → length xs ≡ n * 3 → nodes p + (n + 1) ≤ max_nodes → Tabled s b m ns p
        → Tabled s (latest_first (counts 9 o ∷ b) (term_items c t)) m (ns ++ xs) (run_term s (inside c) t (counting 9 o p))
        → Writing (sections_at s (latest_first b (term_items c (negated o t))) m) (ns ++ (xs ++ node not_kind 0 (n + 1))) (run_term s (inside c) (negated o t) p)
    unfolding term_items latest_first run_term
    not_written o t xs n b m ns p l few h w =
        let size : 0 + n + 1 ≡ n + 1 = omega arith in
        writing_same (ap (λ (i : ℕ). ns ++ (xs ++ node not_kind 0 i)) size) (node_after xs not_kind 0 (nodes p) n 0 h.writing w.writing l (omega arith) (omega arith))

    not_tabled : {v w : ℕ} (o : ℕ) (t : Term) (xs : List ℕ) (n : ℕ) (b : List Item) (m : Mid) (ns : List ℕ) (p : Draft) → length xs ≡ n * 3 → nodes p + (n + 1) ≤ max_nodes
        → Of s (term_items c (negated o t)) v w → Clean s b (term_items c (negated o t)) → Agree s c N (latest_first b (term_items c (negated o t))) → Tabled s b m ns p
        → ((d : List Item) (q : Draft) → Clean s d (term_items c t) → Agree s c N (latest_first d (term_items c t)) → nodes q + n ≤ max_nodes → Tabled s d m ns q
        → Tabled s (latest_first d (term_items c t)) m (ns ++ xs) (run_term s (inside c) t q))
        → Tabled s (latest_first b (term_items c (negated o t))) m (ns ++ (xs ++ node not_kind 0 (n + 1))) (run_term s (inside c) (negated o t) p)
    unfolding term_items latest_first
    not_tabled o t xs n b m ns p e few r l a h f =
        let w1 = node_tabled o h in
        let same : nodes (counting 9 o p) ≡ nodes p = nodes_same h.writing w1.writing in
        term_tabled (negated o t) b m ns _ p h r
        (not_written o t xs n b m ns p e few h (f (counts 9 o ∷ b) (counting 9 o p) l.1 a (omega arith) w1))

    pub condition_tabled : (t : Term) (b : List Item) (m : Mid) (ns : List ℕ) (p : Draft) → is_condition s t ≡ true → Clean s b (term_items c t)
        → Agree s c N (latest_first b (term_items c t)) → nodes p + condition_size (condition_of s N t) ≤ max_nodes → Tabled s b m ns p
        → Tabled s (latest_first b (term_items c t)) m (ns ++ condition_nodes (condition_of s N t)) (run_term s (inside c) t p)
    unfolding condition_of condition_size is_condition condition_nodes pick
    condition_tabled (named x) b m ns p h l a few w = true_false (sym h)
    condition_tabled (numeral v o) b m ns p h l a few w = true_false (sym h)
    condition_tabled (quoted x o) b m ns p h l a few w = true_false (sym h)
    condition_tabled (fixed k o) b m ns p h l a few w =
        term_tabled (fixed k o) b m ns _ p w (condition_of_lem s c N (fixed k o) h)
        (writing_same (ap (λ (i : ℕ). ns ++ node i 0 1) (truth_node k h)) (fixed_leaf k o b m ns p w (omega arith)))
    condition_tabled (negated o t) b m ns p h l a few w =
        not_tabled o t (condition_nodes (condition_of s N t)) (condition_size (condition_of s N t)) b m ns p (length_condition (condition_of s N t)) few
        (condition_of_lem s c N (negated o t) h) l a w
        (λ d q l2 a2 f2 w2. condition_tabled t d m ns q h l2 a2 f2 w2)
    condition_tabled (operated k o t u) b m ns p h l a few w =
        go (eqb k or_mark) (eqb k and_mark) refl refl h few
        (λ ht l1 a1 f1. condition_tabled t b m ns p ht l1 a1 f1 w)
        (λ hu d q l2 a2 f2 w2. condition_tabled u d m _ q hu l2 a2 f2 w2)
      where
        whole : Of s (term_items c (operated k o t u)) (condition_size (condition_of s N (operated k o t u))) 0
        whole = condition_of_lem s c N (operated k o t u) h

        joined : (kind : ℕ) → operator_node k ≡ kind → (is_condition s t && is_condition s u) ≡ true → nodes p + (condition_size (condition_of s N t) + condition_size (condition_of s N u) + 1) ≤ max_nodes
            → (is_condition s t ≡ true → Clean s b (term_items c t) → Agree s c N (latest_first b (term_items c t)) → nodes p + condition_size (condition_of s N t) ≤ max_nodes
            → Tabled s (latest_first b (term_items c t)) m (ns ++ condition_nodes (condition_of s N t)) (run_term s (inside c) t p))
            → (is_condition s u ≡ true → (d : List Item) (q : Draft) → Clean s d (term_items c u) → Agree s c N (latest_first d (term_items c u)) → nodes q + condition_size (condition_of s N u) ≤ max_nodes
            → Tabled s d m (ns ++ condition_nodes (condition_of s N t)) q
            → Tabled s (latest_first d (term_items c u)) m ((ns ++ condition_nodes (condition_of s N t)) ++ condition_nodes (condition_of s N u)) (run_term s (inside c) u q))
            → Tabled s (latest_first b (term_items c (operated k o t u))) m
            (ns ++ (condition_nodes (condition_of s N t) ++ (condition_nodes (condition_of s N u) ++ node kind 0 (condition_size (condition_of s N t) + condition_size (condition_of s N u) + 1))))
            (run_term s (inside c) (operated k o t u) p)
        joined kind e q r f1 f2 =
            let hu = both_right (is_condition s t) (is_condition s u) q in
            pair_tabled k o t u (condition_nodes (condition_of s N t)) (condition_nodes (condition_of s N u)) (condition_size (condition_of s N t)) (condition_size (condition_of s N u)) kind b m ns p
            (length_condition (condition_of s N t)) (length_condition (condition_of s N u)) e whole (condition_of_lem s c N u hu).plains l a r w
            (f1 (both_left (is_condition s t) (is_condition s u) q)) (f2 hu)

        go : (x y : Bool) → eqb k or_mark ≡ x → eqb k and_mark ≡ y
            → pick x (is_condition s t && is_condition s u) (pick y (is_condition s t && is_condition s u) (is_one_of comparisons k && (is_expression s t && is_expression s u))) ≡ true
            → nodes p + condition_size (pick x (tree.either (condition_of s N t) (condition_of s N u)) (pick y (tree.both (condition_of s N t) (condition_of s N u)) (tree.compare (comparison_of k) (expression_of s N t) (expression_of s N u)))) ≤ max_nodes
            → (is_condition s t ≡ true → Clean s b (term_items c t) → Agree s c N (latest_first b (term_items c t)) → nodes p + condition_size (condition_of s N t) ≤ max_nodes
            → Tabled s (latest_first b (term_items c t)) m (ns ++ condition_nodes (condition_of s N t)) (run_term s (inside c) t p))
            → (is_condition s u ≡ true → (d : List Item) (q : Draft) → Clean s d (term_items c u) → Agree s c N (latest_first d (term_items c u)) → nodes q + condition_size (condition_of s N u) ≤ max_nodes
            → Tabled s d m (ns ++ condition_nodes (condition_of s N t)) q
            → Tabled s (latest_first d (term_items c u)) m ((ns ++ condition_nodes (condition_of s N t)) ++ condition_nodes (condition_of s N u)) (run_term s (inside c) u q))
            → Tabled s (latest_first b (term_items c (operated k o t u))) m
            (ns ++ condition_nodes (pick x (tree.either (condition_of s N t) (condition_of s N u)) (pick y (tree.both (condition_of s N t) (condition_of s N u)) (tree.compare (comparison_of k) (expression_of s N t) (expression_of s N u)))))
            (run_term s (inside c) (operated k o t u) p)
        go true y e d q r f1 f2 = joined or_kind (or_node k e) q r f1 f2
        go false true e d q r f1 f2 = joined and_kind (and_node k d) q r f1 f2
        go false false e d q r f1 f2 =
            let z = both_right (is_one_of comparisons k) (is_expression s t && is_expression s u) q in
            let ht = both_left (is_expression s t) (is_expression s u) z in
            let hu = both_right (is_expression s t) (is_expression s u) z in
            pair_tabled k o t u (expression_nodes (expression_of s N t)) (expression_nodes (expression_of s N u)) (expression_size (expression_of s N t)) (expression_size (expression_of s N u))
            (comparison_kind (comparison_of k)) b m ns p (length_expression (expression_of s N t)) (length_expression (expression_of s N u))
            (comparison_node k (both_left (is_one_of comparisons k) (is_expression s t && is_expression s u) q)) whole (expression_of_lem s c N u hu).plains l a r w
            (λ l1 a1 r1. expression_tabled t b m ns p ht l1 a1 r1 w)
            (λ d q l2 a2 r2 w2. expression_tabled u d m _ q hu l2 a2 r2 w2)
