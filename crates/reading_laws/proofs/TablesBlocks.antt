-- The nodes that the pass writes for blocks are those of what they resolve to. Assumes nothing.
use mathlib.Core.Path.{◌≡◌, refl, sym, ap, subst, ◌∙◌}
use mathlib.Core.Bool.{true, ◌&&◌}
use mathlib.Core.List.{List, [], ◌∷◌, ◌++◌, append_assoc}
use Prim.Native.Nat.{ℕ, ◌+◌, ◌-◌, ◌*◌, ◌≤◌}
use native.Mathlib.Omega.{arith}
use lib.ListN.{length, length-append}
use Rattle.laws.proofs.Members.{every_append}
use Rattle.laws.proofs.Truths.{both_left, both_right}
use Rattle.laws.specs.Lists.{every}
use Rattle.contract.specs.Limits.{max_nodes}
use Rattle.contract.specs.Table.{conditional_kind}
use Rattle.contract.specs.Sizes.{condition_size, block_size}
use Rattle.contract.specs.Encode.{node, condition_nodes, block_nodes}
use Rattle.contract_laws.proofs.Lengths.{length_condition, length_block}
use Rattle.entries.specs.Draft.{Draft, body_nodes}
use Rattle.reading.specs.Syntax.{Term, Action, Block, none, perform, conditional}
use Rattle.reading.specs.Items.{Item, counts, Site, in_function, term_items, action_items, block_items}
use Rattle.reading.specs.Resolve.{Names, latest_first, condition_of, block_of}
use Rattle.reading_laws.specs.Walk.{nodes, counting}
use Rattle.accepted.proofs.Judged.{Clean, clean_first, clean_second, latest_append}
use Rattle.accepted.proofs.Known.{right_item, plain, every_latest}
use Rattle.accepted.proofs.CodeItems.{condition_of_lem, action_of_lem, block_of_lem}
use Rattle.reading_laws.proofs.Run.{run_term, run_test, run_block, run_statements, end_conditional}
use Rattle.reading_laws.proofs.NotedNames.{inside}
use Rattle.reading_laws.proofs.SectionsNodes.{Writing, writing_same, noting_writes}
use Rattle.accepted.proofs.Sorted.{is_condition, is_action, is_block}
use Rattle.reading_laws.proofs.TablesGiven.{Agree, agree_back}
use Rattle.reading_laws.proofs.TablesTabled.{Mid, nodes_same, nodes_after, node_after, Tells, sections_at, Tabled}
use Rattle.reading_laws.proofs.TablesLaws.{tell_block, tell_statements}
use Rattle.reading_laws.proofs.TablesTerms.{node_tabled, condition_tabled}
use Rattle.reading_laws.proofs.TablesActions.{statement_tabled, action_tabled}

pub append_none : (l : List ℕ) → l ++ [] ≡ l
append_none [] = refl
append_none (x ∷ l) = ap (λ (m : List ℕ). x ∷ m) (append_none l)

module _ (s : List ℕ) where
  module _ (c : Site) (N : Names) where
    -- the items of (B) { S }
    abbrev conditional_items : ℕ → Term → Block → List Item
    conditional_items o t i = counts 9 o ∷ counts 8 o ∷ (term_items c t ++ block_items c i)

    abbrev conditional_run : ℕ → ℕ → Term → Block → Draft → Draft
    conditional_run from o t i p = end_conditional s from (nodes (run_test s (inside c) o t p)) (run_block s (inside c) (nodes (run_test s (inside c) o t p)) i (run_test s (inside c) o t p))

    -- (B) { S } after a block of d nodes
    conditional_written :
        (from d o : ℕ) (t : Term) (i : Block) (b : List Item) (m : Mid) (ns : List ℕ) (p : Draft) → is_condition s t ≡ true → is_block s i ≡ true
        → Clean s b (conditional_items o t i) → Agree s c N (latest_first b (conditional_items o t i)) → from + d ≡ nodes p
        → nodes p + (condition_size (condition_of s N t) + block_size (block_of s N i) + 1) ≤ max_nodes → Tabled s b m ns p
        → ((e : List Item) (q : Draft) (ms : List ℕ) → Clean s e (block_items c i) → Agree s c N (latest_first e (block_items c i)) → nodes q + block_size (block_of s N i) ≤ max_nodes → Tabled s e m ms q
        → Tabled s (latest_first e (block_items c i)) m (ms ++ block_nodes (block_of s N i)) (run_block s (inside c) (nodes q) i q))
        → Writing (sections_at s (latest_first b (conditional_items o t i)) m)
        (ns ++ (condition_nodes (condition_of s N t) ++ (block_nodes (block_of s N i)
        ++ node conditional_kind (block_size (block_of s N i)) (d + (condition_size (condition_of s N t) + block_size (block_of s N i) + 1)))))
        (conditional_run from o t i p)
    unfolding latest_first
    conditional_written from d o t i b m ns p ht hi l a z few w f =
        let C = condition_of s N t in
        let I = block_of s N i in
        let it = term_items c t in
        let ii = block_items c i in
        let b0 = counts 8 o ∷ counts 9 o ∷ b in
        let b1 = latest_first b0 it in
        let ends : latest_first b0 (it ++ ii) ≡ latest_first b1 ii = latest_append b0 it ii in
        let a2 : Agree s c N (latest_first b1 ii) = subst (Agree s c N) ends a in
        let a1 : Agree s c N b1 = agree_back s c N b1 ii (block_of_lem s c N i hi).plains a2 in
        let l1 = clean_first s b0 it ii l.1.1 in
        let l2 : Clean s b1 ii = clean_second s b0 it ii l.1.1 in
        let p0 = counting 8 o (counting 9 o p) in
        let w0 : Tabled s b0 m ns p0 = statement_tabled s o (node_tabled s o w) in
        let n0 : nodes p0 ≡ nodes p = nodes_same w.writing w0.writing in
        let q = run_term s (inside c) t p0 in
        let w1 : Tabled s b1 m (ns ++ condition_nodes C) q = condition_tabled s c N t b0 m ns p0 ht l1 a1 (omega arith) w0 in
        let lc : length (condition_nodes C) ≡ condition_size C * 3 = length_condition C in
        let lb : length (block_nodes I) ≡ block_size I * 3 = length_block I in
        let n1 : nodes q ≡ nodes p + condition_size C = nodes_after (condition_nodes C) (condition_size C) w.writing w1.writing lc in
        let r = run_block s (inside c) (nodes q) i q in
        let w2 : Tabled s (latest_first b1 ii) m ((ns ++ condition_nodes C) ++ block_nodes I) r = f b1 q (ns ++ condition_nodes C) l2 a2 (omega arith) w1 in
        let n2 : nodes r ≡ nodes q + block_size I = nodes_after (block_nodes I) (block_size I) w1.writing w2.writing lb in
        let argument : nodes r - nodes q ≡ block_size I = omega arith in
        let size : d + (condition_size C + block_size I) + 1 ≡ d + (condition_size C + block_size I + 1) = omega arith in
        let ll : length (condition_nodes C ++ block_nodes I) ≡ length (condition_nodes C) + length (block_nodes I) = length-append (condition_nodes C) (block_nodes I) in
        subst (λ (is : List Item). Writing (sections_at s is m)
        (ns ++ (condition_nodes C ++ (block_nodes I ++ node conditional_kind (block_size I) (d + (condition_size C + block_size I + 1))))) (conditional_run from o t i p)) (sym ends)
        (writing_same (ap (λ (v : List ℕ). ns ++ v) (append_assoc (condition_nodes C) (block_nodes I) (node conditional_kind (nodes r - nodes q) (d + (condition_size C + block_size I) + 1))
        ∙ (λ j. condition_nodes C ++ (block_nodes I ++ node conditional_kind (argument j) (size j)))))
        (node_after (condition_nodes C ++ block_nodes I) conditional_kind (nodes r - nodes q) from (condition_size C + block_size I) d w.writing
        (writing_same (append_assoc ns (condition_nodes C) (block_nodes I)) w2.writing) (omega arith) z (omega arith)))

    perform_items : (k : Block) (o : ℕ) (A : Action) (b : List Item) → latest_first b (block_items c (perform k o A)) ≡ latest_first (latest_first b (block_items c k)) (action_items c o A)
    unfolding block_items
    perform_items k o A b = latest_append b (block_items c k) (action_items c o A)

    conditional_items_lem : (k : Block) (o : ℕ) (t : Term) (i : Block) (b : List Item)
        → latest_first b (block_items c (conditional k o t i)) ≡ latest_first (latest_first b (block_items c k)) (conditional_items o t i)
    unfolding block_items
    conditional_items_lem k o t i b = latest_append b (block_items c k) (conditional_items o t i)

    block_from :
        (k : Block) (b : List Item) (m : Mid) (ns ms : List ℕ) (p q : Draft) → is_block s k ≡ true → Tabled s b m ns p → Tells s (latest_first b (block_items c k)) q.notes
        → Writing (sections_at s (latest_first b (block_items c k)) m) ms q → Tabled s (latest_first b (block_items c k)) m ms q
    block_from k b m ns ms p q h w t v = record { tells = t; right = every_latest (right_item s) b (block_items c k) w.right (block_of_lem s c N k h).right; writing = v }

    pub block_tabled : (k : Block) (from : ℕ) (b : List Item) (m : Mid) (ns : List ℕ) (p : Draft) → is_block s k ≡ true → Clean s b (block_items c k)
        → Agree s c N (latest_first b (block_items c k)) → from ≡ nodes p → nodes p + block_size (block_of s N k) ≤ max_nodes → Tabled s b m ns p
        → Tabled s (latest_first b (block_items c k)) m (ns ++ block_nodes (block_of s N k)) (run_block s (inside c) from k p)
    unfolding run_block block_items block_of block_nodes block_size is_block latest_first every
    block_tabled none from b m ns p h l a z few w = record { tells = w.tells; right = w.right; writing = writing_same (sym (append_none ns)) w.writing }
    block_tabled (perform k o A) from b m ns p h l a z few w =
        let hk = both_left (is_block s k) (is_action s A) h in
        let hA = both_right (is_block s k) (is_action s A) h in
        let K = block_of s N k in
        let b1 = latest_first b (block_items c k) in
        let a2 : Agree s c N (latest_first b1 (action_items c o A)) = subst (Agree s c N) (perform_items k o A b) a in
        let a1 : Agree s c N b1 = agree_back s c N b1 (action_items c o A) (action_of_lem s c N o A hA).plains a2 in
        let w1 = block_tabled k from b m ns p hk (clean_first s b (block_items c k) (action_items c o A) l) a1 z (omega arith) w in
        let lk : length (block_nodes K) ≡ block_size K * 3 = length_block K in
        let n1 : nodes (run_block s (inside c) from k p) ≡ nodes p + block_size K = nodes_after (block_nodes K) (block_size K) w.writing w1.writing lk in
        let w2 = action_tabled s c N from (block_size K) o A b1 m (ns ++ block_nodes K) (run_block s (inside c) from k p) hA (clean_second s b (block_items c k) (action_items c o A) l) a2 (omega arith) (omega arith) w1 in
        block_from (perform k o A) b m ns _ p _ h w (tell_block s c from (perform k o A) b p w.tells)
        (subst (λ (is : List Item). Writing (sections_at s is m) (ns ++ block_nodes (block_of s N (perform k o A))) (run_block s (inside c) from (perform k o A) p)) (sym (perform_items k o A b))
        (writing_same (append_assoc ns (block_nodes K) _) w2.writing))
    block_tabled (conditional k o t i) from b m ns p h l a z few w =
        let r = both_right (is_block s k) (is_condition s t && is_block s i) h in
        let hk = both_left (is_block s k) (is_condition s t && is_block s i) h in
        let ht = both_left (is_condition s t) (is_block s i) r in
        let hi = both_right (is_condition s t) (is_block s i) r in
        let K = block_of s N k in
        let b1 = latest_first b (block_items c k) in
        let a2 : Agree s c N (latest_first b1 (conditional_items o t i)) = subst (Agree s c N) (conditional_items_lem k o t i b) a in
        let a1 : Agree s c N b1 =
        agree_back s c N b1 (conditional_items o t i) (plains t i ht hi) a2 in
        let w1 = block_tabled k from b m ns p hk (clean_first s b (block_items c k) (conditional_items o t i) l) a1 z (omega arith) w in
        let lk : length (block_nodes K) ≡ block_size K * 3 = length_block K in
        let n1 : nodes (run_block s (inside c) from k p) ≡ nodes p + block_size K = nodes_after (block_nodes K) (block_size K) w.writing w1.writing lk in
        let w2 = conditional_written from (block_size K) o t i b1 m (ns ++ block_nodes K) (run_block s (inside c) from k p) ht hi (clean_second s b (block_items c k) (conditional_items o t i) l) a2 (omega arith) (omega arith) w1
        (λ e q ms l3 a3 f3 w3. block_tabled i (nodes q) e m ms q hi l3 a3 refl f3 w3) in
        block_from (conditional k o t i) b m ns _ p _ h w (tell_block s c from (conditional k o t i) b p w.tells)
        (subst (λ (is : List Item). Writing (sections_at s is m) (ns ++ block_nodes (block_of s N (conditional k o t i))) (run_block s (inside c) from (conditional k o t i) p)) (sym (conditional_items_lem k o t i b))
        (writing_same (append_assoc ns (block_nodes K) _) w2))
      where
        plains : (t : Term) (i : Block) → is_condition s t ≡ true → is_block s i ≡ true → every plain (conditional_items o t i) ≡ true
        plains t i ht hi = every_append plain (term_items c t) (block_items c i) (condition_of_lem s c N t ht).plains (block_of_lem s c N i hi).plains

  -- the statements of a body
  module _ (N : Names) where
    pub statements_tabled : (k : Block) (from : ℕ) (b : List Item) (m : Mid) (ns : List ℕ) (p : Draft) → is_block s k ≡ true → Clean s b (block_items in_function k)
        → Agree s in_function N (latest_first b (block_items in_function k)) → from ≡ nodes p → nodes p + block_size (block_of s N k) ≤ max_nodes → Tabled s b m ns p
        → Tabled s (latest_first b (block_items in_function k)) m (ns ++ block_nodes (block_of s N k)) (run_statements s from k p)
    unfolding run_statements block_items block_of block_nodes block_size is_block latest_first every
    statements_tabled none from b m ns p h l a z few w = record { tells = w.tells; right = w.right; writing = writing_same (sym (append_none ns)) w.writing }
    statements_tabled (perform k o A) from b m ns p h l a z few w =
        let hk = both_left (is_block s k) (is_action s A) h in
        let hA = both_right (is_block s k) (is_action s A) h in
        let K = block_of s N k in
        let b1 = latest_first b (block_items in_function k) in
        let a2 : Agree s in_function N (latest_first b1 (action_items in_function o A)) = subst (Agree s in_function N) (perform_items in_function N k o A b) a in
        let a1 : Agree s in_function N b1 = agree_back s in_function N b1 (action_items in_function o A) (action_of_lem s in_function N o A hA).plains a2 in
        let w1 = statements_tabled k from b m ns p hk (clean_first s b (block_items in_function k) (action_items in_function o A) l) a1 z (omega arith) w in
        let lk : length (block_nodes K) ≡ block_size K * 3 = length_block K in
        let n1 : nodes (run_statements s from k p) ≡ nodes p + block_size K = nodes_after (block_nodes K) (block_size K) w.writing w1.writing lk in
        let w2 = action_tabled s in_function N from (block_size K) o A b1 m (ns ++ block_nodes K) (run_statements s from k p) hA (clean_second s b (block_items in_function k) (action_items in_function o A) l) a2 (omega arith) (omega arith) w1 in
        block_from in_function N (perform k o A) b m ns _ p _ h w (tell_statements s from (perform k o A) b p w.tells)
        (subst (λ (is : List Item). Writing (sections_at s is m) (ns ++ block_nodes (block_of s N (perform k o A))) (run_statements s from (perform k o A) p)) (sym (perform_items in_function N k o A b))
        (noting_writes body_nodes _ refl (writing_same (append_assoc ns (block_nodes K) _) w2.writing)))
    statements_tabled (conditional k o t i) from b m ns p h l a z few w =
        let r = both_right (is_block s k) (is_condition s t && is_block s i) h in
        let hk = both_left (is_block s k) (is_condition s t && is_block s i) h in
        let ht = both_left (is_condition s t) (is_block s i) r in
        let hi = both_right (is_condition s t) (is_block s i) r in
        let K = block_of s N k in
        let b1 = latest_first b (block_items in_function k) in
        let a2 : Agree s in_function N (latest_first b1 (conditional_items in_function N o t i)) = subst (Agree s in_function N) (conditional_items_lem in_function N k o t i b) a in
        let a1 : Agree s in_function N b1 =
        agree_back s in_function N b1 (conditional_items in_function N o t i)
        (every_append plain (term_items in_function t) (block_items in_function i) (condition_of_lem s in_function N t ht).plains (block_of_lem s in_function N i hi).plains) a2 in
        let w1 = statements_tabled k from b m ns p hk (clean_first s b (block_items in_function k) (conditional_items in_function N o t i) l) a1 z (omega arith) w in
        let lk : length (block_nodes K) ≡ block_size K * 3 = length_block K in
        let n1 : nodes (run_statements s from k p) ≡ nodes p + block_size K = nodes_after (block_nodes K) (block_size K) w.writing w1.writing lk in
        let w2 = conditional_written in_function N from (block_size K) o t i b1 m (ns ++ block_nodes K) (run_statements s from k p) ht hi (clean_second s b (block_items in_function k) (conditional_items in_function N o t i) l) a2 (omega arith) (omega arith) w1
        (λ e q ms l3 a3 f3 w3. block_tabled in_function N i (nodes q) e m ms q hi l3 a3 refl f3 w3) in
        block_from in_function N (conditional k o t i) b m ns _ p _ h w (tell_statements s from (conditional k o t i) b p w.tells)
        (subst (λ (is : List Item). Writing (sections_at s is m) (ns ++ block_nodes (block_of s N (conditional k o t i))) (run_statements s from (conditional k o t i) p)) (sym (conditional_items_lem in_function N k o t i b))
        (noting_writes body_nodes _ refl (writing_same (append_assoc ns (block_nodes K) _) w2)))
