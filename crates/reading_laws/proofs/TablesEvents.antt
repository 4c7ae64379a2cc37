-- The nodes and rows that the pass writes for events are those of what they resolve to. Assumes nothing.
use mathlib.Core.Path.{◌≡◌, refl, sym, ap, subst, ◌∙◌}
use mathlib.Core.Bool.{true, false, ◌&&◌}
use mathlib.Core.List.{List, [], ◌∷◌, ◌++◌, append_assoc}
use Prim.Native.Nat.{ℕ, ◌+◌, ◌-◌, ◌*◌, ◌<◌, ◌≤◌, min}
use native.Mathlib.Omega.{arith}
use lib.ListN.{length, length-append}
use borrow.Author.Tests.{ltb-true}
use Rattle.laws.specs.Choice.{pick}
use Rattle.contract.specs.Tree as tree
use Rattle.laws.proofs.Truths.{both_left, both_right, both_true}
use Rattle.laws.specs.Lists.{every}
use Rattle.contract.specs.Limits.{max_nodes, max_events}
use Rattle.contract.specs.Table.{event_kind, event_words}
use Rattle.contract.specs.Sizes.{expression_size, block_size, event_size, events_size}
use Rattle.contract.specs.Encode.{node, joined, expression_nodes, block_nodes, event_nodes, event_rows}
use Rattle.contract_laws.proofs.Lengths.{length_expression, length_block, length_event}
use Rattle.entries.specs.Draft.{Draft, note, limit}
use Rattle.reading.specs.Syntax.{Span, Event}
use Rattle.reading.specs.Items.{Item, counts, opens, Site, in_function, in_handler, of_each, term_items, block_items, event_items, state_item}
use Rattle.reading.specs.Rules.{word, known, count, fine, judge}
use Rattle.reading.specs.Resolve.{Names, within, each_of, latest_first, expression_of, block_of, event_of, state_of}
use Rattle.reading_laws.specs.Walk.{nodes, counting, noting, event_written}
use Rattle.accepted.proofs.Judged.{Clean, clean_first, clean_second, latest_append, test_holds}
use Rattle.accepted.proofs.Known.{right_item, every_latest}
use Rattle.accepted.proofs.Counts.{tally, count_latest, always_on}
use Rattle.accepted.proofs.CodeItems.{expression_of_lem, block_of_lem, event_of_lem, events_of}
use Rattle.reading_laws.proofs.Run.{run_term, run_block, run_state, state_in, run_event, run_events, more}
use Rattle.reading_laws.proofs.NotedFind.{mentioned_number}
use Rattle.reading_laws.proofs.SectionsNodes.{Writing, writing_same, writing_described, noting_writes}
use Rattle.reading_laws.proofs.SectionsFunctions.{event_section, event_written_writes}
use Rattle.reading_laws.proofs.SectionsWhole.{one_more_writes}
use Rattle.accepted.proofs.Sorted.{is_expression, is_block, is_named, is_event}
use Rattle.reading_laws.proofs.TablesGiven.{Agree, agree_back, agree_handler, number_mentioned}
use Rattle.reading_laws.proofs.TablesTabled.{Mid, with_event_rows, nodes_same, nodes_after, Tells, looks, sections_at, Tabled, state_written}
use Rattle.reading_laws.proofs.TablesLaws.{tell_event, tell_mentioned, tell_opens, tell_more}
use Rattle.reading_laws.proofs.TablesTerms.{counting_tabled, node_tabled, expression_tabled}
use Rattle.reading_laws.proofs.TablesBlocks.{append_none, block_tabled}

module _ (s : List ℕ) where
  pub state_tabled : {b : List Item} {m : Mid} {ns : List ℕ} {p : Draft} (q : Span) → is_named s q ≡ true → Tabled s b m ns p → Tabled s (state_item q ∷ b) m ns (run_state s q p)
  unfolding every pick
  state_tabled {b} {m} {ns} {p} q h w =
      record { tells = tell_mentioned s 5 q q.start b p (omega arith) w.tells; right = both_true _ _ h w.right; writing = state_written s q q.start w h }

  pub opens_tabled : {b : List Item} {m : Mid} {ns : List ℕ} {p : Draft} → Tabled s b m ns p → Tabled s (opens ∷ b) m ns (noting 8 0 p)
  unfolding known every
  opens_tabled {b} {m} {ns} {p} w = record { tells = tell_opens s b p.notes w.tells; right = w.right; writing = noting_writes 8 0 refl w.writing }

  pub state_number : (c : Site) (N : Names) (b : List Item) (p : Draft) (q : Span) → Tells s b p.notes → judge s b (state_item q) ≡ fine → Agree s c N (state_item q ∷ b) → state_in s q p ≡ state_of s N q
  state_number c N b p q t l a =
      (looks s t).number 5 (omega arith) (word s q) ∙ sym (mentioned_number s 5 q q.start b) ∙ number_mentioned s 5 q q.start b N.states l a.states

  -- how many events there were
  pub events_noted_few : (b : List Item) (n : List ℕ) → Tells s b n → count 7 b < max_events → note n 7 ≡ count 7 b
  events_noted_few b n t h = let e : note n 7 ≡ min (count 7 b) (limit 7) = t.noted.tally 7 (omega arith) (omega arith) in omega arith

  event_items_lem : (w : Event) (b : List Item)
      → latest_first b (event_items w)
      ≡ state_item w.last ∷ latest_first (opens ∷ state_item w.state ∷ counts 7 w.place ∷ latest_first (counts 9 w.place ∷ b) (term_items in_function w.guard)) (block_items in_handler w.handler)
  unfolding event_items latest_first
  event_items_lem w b =
      let ig = term_items in_function w.guard in
      let ih = block_items in_handler w.handler in
      let b1 = latest_first (counts 9 w.place ∷ b) ig in
      latest_append (counts 9 w.place ∷ b) ig (counts 7 w.place ∷ state_item w.state ∷ opens ∷ (ih ++ (state_item w.last ∷ [])))
      ∙ latest_append (opens ∷ state_item w.state ∷ counts 7 w.place ∷ b1) ih (state_item w.last ∷ [])

  module _ (N : Names) where
    event_written_lem : (w : Event) (b : List Item) (m : Mid) (ns rows : List ℕ) (p : Draft) → m.events ≡ event_section rows → length rows ≡ count 7 b * event_words
        → is_event s w ≡ true → Clean s b (event_items w) → Agree s in_function N (latest_first b (event_items w)) → nodes p + event_size (event_of s N w) ≤ max_nodes → Tabled s b m ns p
        → Writing (sections_at s (latest_first b (event_items w)) (with_event_rows m (event_section (rows ++ ((event_of s N w).state ∷ (event_of s N w).last ∷ (nodes p + event_size (event_of s N w) - 1) ∷ [])))))
        (ns ++ event_nodes (event_of s N w)) (run_event s w p)
    unfolding run_event event_items event_of event_size event_nodes is_event every count judge latest_first pick
    event_written_lem w b m ns rows p er el h l a few t =
        let h1 = both_right (is_expression s w.guard) (is_named s w.state && (is_block s w.handler && is_named s w.last)) h in
        let h2 = both_right (is_named s w.state) (is_block s w.handler && is_named s w.last) h1 in
        let hg = both_left (is_expression s w.guard) (is_named s w.state && (is_block s w.handler && is_named s w.last)) h in
        let hq = both_left (is_named s w.state) (is_block s w.handler && is_named s w.last) h1 in
        let hb = both_left (is_block s w.handler) (is_named s w.last) h2 in
        let hl = both_right (is_block s w.handler) (is_named s w.last) h2 in
        let G = expression_of s N w.guard in
        let M = within N [] [] in
        let H = block_of s M w.handler in
        let ig = term_items in_function w.guard in
        let ih = block_items in_handler w.handler in
        let b0 = counts 9 w.place ∷ b in
        let b1 = latest_first b0 ig in
        let b2 = counts 7 w.place ∷ b1 in
        let b3 = state_item w.state ∷ b2 in
        let b4 = opens ∷ b3 in
        let b5 = latest_first b4 ih in
        let b6 = state_item w.last ∷ b5 in
        let oh = block_of_lem s in_handler M w.handler hb in
        let og = expression_of_lem s in_function N w.guard hg in
        let rest = counts 7 w.place ∷ state_item w.state ∷ opens ∷ (ih ++ (state_item w.last ∷ [])) in
        let ends : latest_first b (event_items w) ≡ b6 = event_items_lem w b in
        let a6 : Agree s in_function N b6 = subst (Agree s in_function N) ends a in
        let a5 : Agree s in_function N b5 = agree_back s in_function N b5 (state_item w.last ∷ []) refl a6 in
        let a3 : Agree s in_function N b3 = agree_back s in_function N b3 (opens ∷ ih) oh.plains a5 in
        let a1 : Agree s in_function N b1 = agree_back s in_function N b1 (counts 7 w.place ∷ state_item w.state ∷ []) refl a3 in
        let l1 = clean_first s b0 ig rest l.1 in
        let l2 : Clean s b1 rest = clean_second s b0 ig rest l.1 in
        let l3 = clean_first s b4 ih (state_item w.last ∷ []) l2.1.1.1 in
        let l4 = clean_second s b4 ih (state_item w.last ∷ []) l2.1.1.1 in
        let p0 = counting 9 w.place p in
        let t0 : Tabled s b0 m ns p0 = node_tabled s w.place t in
        let n0 : nodes p0 ≡ nodes p = nodes_same t.writing t0.writing in
        let p1 = run_term s false w.guard p0 in
        let t1 : Tabled s b1 m (ns ++ expression_nodes G) p1 = expression_tabled s in_function N w.guard b0 m ns p0 hg l1 a1 (omega arith) t0 in
        let lg : length (expression_nodes G) ≡ expression_size G * 3 = length_expression G in
        let lh : length (block_nodes H) ≡ block_size H * 3 = length_block H in
        let n1 : nodes p1 ≡ nodes p + expression_size G = nodes_after (expression_nodes G) (expression_size G) t.writing t1.writing lg in
        let p2 = counting 7 w.place p1 in
        let t2 : Tabled s b2 m (ns ++ expression_nodes G) p2 = counting_tabled s 7 w.place (omega arith) (omega arith) t1 in
        let p3 = run_state s w.state p2 in
        let t3 : Tabled s b3 m (ns ++ expression_nodes G) p3 = state_tabled w.state hq t2 in
        let p4 = noting 8 0 p3 in
        let t4 : Tabled s b4 m (ns ++ expression_nodes G) p4 = opens_tabled t3 in
        let n4 : nodes p4 ≡ nodes p1 = nodes_same t1.writing t4.writing in
        let p5 = run_block s true (nodes p1) w.handler p4 in
        let t5 : Tabled s b5 m ((ns ++ expression_nodes G) ++ block_nodes H) p5 =
        block_tabled s in_handler M w.handler (nodes p1) b4 m (ns ++ expression_nodes G) p4 hb l3 (agree_handler s N b5 a5) (sym n4) (omega arith) t4 in
        let n5 : nodes p5 ≡ nodes p1 + block_size H = nodes_after (block_nodes H) (block_size H) t1.writing t5.writing lh in
        let p6 = run_state s w.last p5 in
        let t6 : Tabled s b6 m ((ns ++ expression_nodes G) ++ block_nodes H) p6 = state_tabled w.last hl t5 in
        let n6 : nodes p6 ≡ nodes p5 = nodes_same t5.writing t6.writing in
        let cb : count 7 b1 ≡ count 7 b + tally 7 ig = count_latest 7 ig b0 (always_on 7 refl ig) in
        let ct : tally 7 ig ≡ 0 = og.events in
        let cf : count 7 b1 < max_events = ltb-true _ _ (test_holds _ 11 w.place l2.0) in
        let ci : note p1.notes 7 ≡ count 7 b1 = events_noted_few b1 p1.notes t1.tells cf in
        let sq : state_in s w.state p2 ≡ state_of s N w.state = state_number in_function N b2 p2 w.state t2.tells l2.1.0 a3 in
        let sl : state_in s w.last p5 ≡ state_of s N w.last = state_number in_function N b5 p5 w.last t5.tells l4.0 a6 in
        let place : nodes p6 ≡ nodes p + (expression_size G + block_size H + 1) - 1 = omega arith in
        let size : nodes p6 - nodes p + 1 ≡ expression_size G + block_size H + 1 = omega arith in
        let handler : nodes p5 - nodes p1 ≡ block_size H = omega arith in
        let row : Writing (sections_at s b6 (with_event_rows m (event_section (rows ++ (state_in s w.state p2 ∷ state_in s w.last p5 ∷ nodes p6 ∷ [])))))
        (((ns ++ expression_nodes G) ++ block_nodes H) ++ node event_kind (nodes p5 - nodes p1) (nodes p6 - nodes p + 1))
        (event_written s (note p1.notes 7) (state_in s w.state p2) (state_in s w.last p5) (nodes p5 - nodes p1) (nodes p) p6) =
        event_written_writes s rows (note p1.notes 7) (state_in s w.state p2) (state_in s w.last p5) (nodes p5 - nodes p1) (nodes p) t6.writing (omega arith) er (omega arith) (omega arith) in
        let list : ((ns ++ expression_nodes G) ++ block_nodes H) ++ node event_kind (nodes p5 - nodes p1) (nodes p6 - nodes p + 1)
        ≡ ns ++ (expression_nodes G ++ (block_nodes H ++ node event_kind (block_size H) (expression_size G + block_size H + 1))) =
        append_assoc (ns ++ expression_nodes G) (block_nodes H) _ ∙ append_assoc ns (expression_nodes G) _ ∙ (λ i. ns ++ (expression_nodes G ++ (block_nodes H ++ node event_kind (handler i) (size i)))) in
        subst (λ (is : List Item). Writing (sections_at s is (with_event_rows m (event_section (rows ++ (state_of s N w.state ∷ state_of s N w.last ∷ (nodes p + (expression_size G + block_size H + 1) - 1) ∷ [])))))
        (ns ++ (expression_nodes G ++ (block_nodes H ++ node event_kind (block_size H) (expression_size G + block_size H + 1)))) (run_event s w p)) (sym ends)
        (writing_described (λ i. sections_at s b6 (with_event_rows m (event_section (rows ++ (sq i ∷ sl i ∷ place i ∷ []))))) (writing_same list row))

    -- an event's row
    abbrev pub row_of : ℕ → tree.Event → List ℕ
    row_of first e = e.state ∷ e.last ∷ (first + event_size e - 1) ∷ []

    pub event_tabled : (w : Event) (b : List Item) (m : Mid) (ns rows : List ℕ) (p : Draft) → m.events ≡ event_section rows → length rows ≡ count 7 b * event_words
        → is_event s w ≡ true → Clean s b (event_items w) → Agree s in_function N (latest_first b (event_items w)) → nodes p + event_size (event_of s N w) ≤ max_nodes → Tabled s b m ns p
        → Tabled s (latest_first b (event_items w)) (with_event_rows m (event_section (rows ++ row_of (nodes p) (event_of s N w)))) (ns ++ event_nodes (event_of s N w)) (run_event s w p)
    event_tabled w b m ns rows p er el h l a few t =
        record {
          tells = tell_event s w b p t.tells;
          right = every_latest (right_item s) b (event_items w) t.right (event_of_lem s N w h).right;
          writing = event_written_lem w b m ns rows p er el h l a few t;
        }

    more_tabled : {b : List Item} {m : Mid} {ns : List ℕ} {p : Draft} → Tabled s b m ns p → Tabled s b m ns (more s p)
    more_tabled {b} {m} {ns} {p} t = record { tells = tell_more s b p.notes t.tells; right = t.right; writing = one_more_writes s t.writing }

    pub events_tabled : (ws : List Event) (b : List Item) (m : Mid) (ns rows : List ℕ) (p : Draft) → m.events ≡ event_section rows → length rows ≡ count 7 b * event_words
        → every (is_event s) ws ≡ true → Clean s b (of_each event_items ws) → Agree s in_function N (latest_first b (of_each event_items ws))
        → nodes p + events_size (each_of (event_of s N) ws) ≤ max_nodes → Tabled s b m ns p
        → Tabled s (latest_first b (of_each event_items ws)) (with_event_rows m (event_section (rows ++ event_rows (nodes p) (each_of (event_of s N) ws)))) (ns ++ joined event_nodes (each_of (event_of s N) ws)) (run_events s ws p)
    unfolding run_events of_each each_of event_rows events_size joined every latest_first
    events_tabled [] b m ns rows p er el h l a few t =
        let e : m.events ≡ event_section (rows ++ []) = er ∙ ap event_section (sym (append_none rows)) in
        record { tells = t.tells; right = t.right; writing = writing_described (λ i. sections_at s b (with_event_rows m (e i))) (writing_same (sym (append_none ns)) t.writing) }
    events_tabled (w ∷ ws) b m ns rows p er el h l a few t =
        let hw = both_left (is_event s w) (every (is_event s) ws) h in
        let hs = both_right (is_event s w) (every (is_event s) ws) h in
        let E = event_of s N w in
        let iw = event_items w in
        let is = of_each event_items ws in
        let es = each_of (event_of s N) ws in
        let b1 = latest_first b iw in
        let ends : latest_first b (iw ++ is) ≡ latest_first b1 is = latest_append b iw is in
        let a2 : Agree s in_function N (latest_first b1 is) = subst (Agree s in_function N) ends a in
        let ow = event_of_lem s N w hw in
        let a1 : Agree s in_function N b1 = agree_back s in_function N b1 is (events_of s N ws hs).plains a2 in
        let rows1 = rows ++ row_of (nodes p) E in
        let m1 = with_event_rows m (event_section rows1) in
        let p1 = more s (run_event s w p) in
        let t1 = event_tabled w b m ns rows p er el hw (clean_first s b iw is l) a1 (omega arith) t in
        let t2 : Tabled s b1 m1 (ns ++ event_nodes E) p1 = more_tabled t1 in
        let n2 : nodes p1 ≡ nodes p + event_size E = nodes_after (event_nodes E) (event_size E) t.writing t2.writing (length_event E) in
        let cb : count 7 b1 ≡ count 7 b + tally 7 iw = count_latest 7 iw b (always_on 7 refl iw) in
        let ct : tally 7 iw ≡ 1 = ow.events in
        let lr : length rows1 ≡ length rows + 3 = length-append rows (row_of (nodes p) E) in
        let t3 = events_tabled ws b1 m1 (ns ++ event_nodes E) rows1 p1 refl (omega arith) hs (clean_second s b iw is l) a2 (omega arith) t2 in
        let rs : rows1 ++ event_rows (nodes p1) es ≡ rows ++ (E.state ∷ E.last ∷ (nodes p + event_size E - 1) ∷ event_rows (nodes p + event_size E) es) =
        append_assoc rows (row_of (nodes p) E) (event_rows (nodes p1) es) ∙ ap (λ (k : ℕ). rows ++ (row_of (nodes p) E ++ event_rows k es)) n2 in
        subst (λ (ks : List Item). Tabled s ks (with_event_rows m (event_section (rows ++ (E.state ∷ E.last ∷ (nodes p + event_size E - 1) ∷ event_rows (nodes p + event_size E) es)))) (ns ++ (event_nodes E ++ joined event_nodes es)) (run_events s ws p1)) (sym ends)
        (record {
          tells = t3.tells;
          right = t3.right;
          writing = writing_described (λ i. sections_at s (latest_first b1 is) (with_event_rows m (event_section (rs i)))) (writing_same (append_assoc ns (event_nodes E) (joined event_nodes es)) t3.writing);
        })
