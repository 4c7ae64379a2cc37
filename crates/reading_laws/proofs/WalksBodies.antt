-- Events and bodies: the pass is the grammar, then the run of the body. Assumes nothing.
use mathlib.Core.Path.{◌≡◌, refl, sym, ap, subst, ◌∙◌}
use mathlib.Core.Bool.{true, false}
use mathlib.Core.List.{List, [], ◌∷◌, ◌++◌}
use Prim.Native.Nat.{ℕ, ◌<◌}
use native.Mathlib.Omega.{arith}
use lib.ListN.{length}
use lib.Dec.{eqb}
use borrow.Author.Tests.{eq-eqb, ne_eqb}
use Rattle.laws.specs.Choice.{pick}
use Rattle.laws.proofs.Choice.{pick_true, pick_false}
use Rattle.words.specs.Words.{state_arrow, event_mark, open_paren, open_brace, close_brace}
use Rattle.entries.specs.Draft.{Draft, note, events_here, written, notes_length}
use Rattle.reading.specs.Syntax.{Span, Term, Block, none, perform, conditional, Event, Body}
use Rattle.reading.specs.Grammar.{done, and_then, give, is_one_of, item_starts, max_levels, next_in, place, repeated, before_events, conditional_after, misfit, with_statements, with_event}
use Rattle.reading.specs.Grammar as grammar
use Rattle.reading_laws.specs.Walk.{on, follow, cursor_at, nodes, counting, noting, begun, body_grows}
use Rattle.reading_laws.specs.Walk as walk
use Rattle.reading_laws.proofs.Run.{walked, run_term, run_action, run_block, run_state, run_statements, run_event, run_events, run_body, more}
use Rattle.reading_laws.proofs.WalksTokens.{plain_one, span_of, assoc, place_in, unfit_run, one_next_run, after_token, after_state, follow_run, done_run, loop_run}
use Rattle.reading_laws.proofs.NotesKept.{Keeps, keeps_then, set_keeps, written_spared, events_here_spared, none_spared, counted_keeps, state_keeps, term_keeps, statements_keep, begun_keeps}
use Rattle.reading_laws.proofs.WalksTerms.{expression_run}
use Rattle.reading_laws.proofs.WalksAlone.{expression_alone}
use Rattle.reading_laws.proofs.WalksStatements.{starts_plain, tested_at, tested_same, run_tested, action_run, conditional_run, block_run}
use Rattle.reading_laws.proofs.NotesBodies.{events_some, events_none}

module _ (s : List ℕ) where
  -- ---- events

  pub run_events_more : (ws : List Event) (w : Event) (p : Draft) → run_events s (ws ++ (w ∷ [])) p ≡ more s (run_event s w (run_events s ws p))
  unfolding run_events
  run_events_more [] w p = refl
  run_events_more (x ∷ ws) w p = run_events_more ws w (more s (run_event s x p))

  -- a mark and a state write no node
  nodes_marked : (o : ℕ) (q : Span) (p : Draft) → nodes (noting 8 0 (run_state s q (counting 7 o p))) ≡ nodes p
  nodes_marked o q p =
      (keeps_then (counted_keeps written written_spared 7 o p.notes (omega arith))
      (keeps_then (state_keeps written written_spared s q (counting 7 o p)) (set_keeps written (run_state s q (counting 7 o p)).notes 8 0 refl))).same

  event_run : (o : ℕ) (e : Term) (m : ℕ) (p : Draft)
      → walk.event s o (nodes p) (cursor_at s m) (run_term s false e (counting 9 o p)) ≡ walked s (run_event s) (grammar.event s o e m) p
  unfolding walk.event grammar.event walk.event_end run_event
  event_run o e m p =
      let t = run_term s false e (counting 9 o p) in
      after_token s (run_event s) p event_mark m _ _ (plain_one event_mark refl refl)
      (λ _. after_state s (run_event s) p (cursor_at s m).end _ _
      (λ _.
      let q = cursor_at s (cursor_at s (cursor_at s m).end).end in
      let u = noting 8 0 (run_state s (span_of q) (counting 7 o t)) in
      follow_run s (run_event s) p (run_block s true (nodes t)) (grammar.braces s max_levels (conditional_after s max_levels) q.end) _ u _ _
      (block_run s true max_levels (nodes t) q.end u (nodes_marked o (span_of q) t))
      (λ h k _. after_token s (run_event s) p state_arrow k _ _ (plain_one state_arrow refl refl)
      (λ _. after_state s (run_event s) p (cursor_at s k).end _ _
      (λ _.
      let l = cursor_at s (cursor_at s (cursor_at s k).end).end in
      done_run s (run_event s) p (record { place = o; guard = e; state = span_of q; handler = h; last = span_of l }) l.end _ refl)))))

  -- ---- the parts of a body

  module _ (from : ℕ) (p : Draft) (long : events_here < length p.notes) where
    abbrev run_so : Body → Draft → Draft
    run_so i q = run_events s i.events (run_statements s from i.statements q)

    abbrev q : Draft
    q = begun s p

    none_yet : (b : Block) (r : Draft) → Keeps events_here (run_statements s from b q).notes r.notes → eqb (note r.notes events_here) 0 ≡ true
    none_yet b r k = eq-eqb _ _ (k.same ∙ events_none s from b p)

    some_here : (b : Block) (w : Event) (ws : List Event) (r : Draft) → Keeps events_here (run_events s (w ∷ ws) (run_statements s from b q)).notes r.notes
        → eqb (note r.notes events_here) 0 ≡ false
    some_here b w ws r k =
        let e : length (run_statements s from b q).notes ≡ length p.notes = (statements_keep notes_length none_spared refl s refl from b q).long ∙ (begun_keeps notes_length none_spared refl s refl refl refl p).long in
        let f : 0 < note (run_events s (w ∷ ws) (run_statements s from b q)).notes events_here = events_some s w ws (run_statements s from b q) (subst (λ (k : ℕ). events_here < k) (sym e) long) in
        let g : note r.notes events_here ≡ note (run_events s (w ∷ ws) (run_statements s from b q)).notes events_here = k.same in
        ne_eqb (note r.notes events_here) 0 (λ z. omega (arith, f, g, z))

    conditional_item : (b : Block) (ws : List Event) (at : ℕ) → eqb (cursor_at s at).kind open_paren ≡ true
        → walk.body_conditional s from (cursor_at s at) (run_events s ws (run_statements s from b q))
        ≡ walked s run_so (before_events s ws (λ n. and_then (conditional_after s max_levels b n) (λ b'. give (record { statements = b'; events = ws }))) at) q
    unfolding walk.body_conditional before_events run_events run_statements
    conditional_item b [] at e =
        pick_true _ _ _ (none_yet b (run_statements s from b q) (record { long = refl; same = refl }))
        ∙ follow_run s run_so q (run_tested s false from) (tested_at s max_levels at) _ (run_statements s from b q) _ _
        (conditional_run s false max_levels from at (run_statements s from b q) e)
        (λ x n _. done_run s run_so q (record { statements = conditional b x.place x.test x.inner; events = [] }) n _ refl)
        ∙ ap (λ r. walked s run_so r q) (sym (assoc (tested_at s max_levels at) _ _))
        ∙ ap (λ r. walked s run_so (and_then r (λ b'. give (record { statements = b'; events = [] }))) q) (sym (tested_same s max_levels b at))
    conditional_item b (w ∷ ws) at e =
        pick_false _ _ _ (some_here b w ws (run_events s (w ∷ ws) (run_statements s from b q)) (record { long = refl; same = refl }))
        ∙ unfit_run s run_so q at

    -- after an expression
    event_item : (b : Block) (ws : List Event) (o : ℕ) (e : Term) (m : ℕ)
        → follow
        (walk.event s o (nodes (run_events s ws (run_statements s from b q))) (cursor_at s m) (run_term s false e (counting 9 o (run_events s ws (run_statements s from b q)))))
        (λ d r. on d (more s r))
        ≡ walked s run_so (and_then (grammar.event s o e m) (λ w. give (record { statements = b; events = ws ++ (w ∷ []) }))) q
    event_item b ws o e m =
        let so = run_events s ws (run_statements s from b q) in
        follow_run s run_so q (run_event s) (grammar.event s o e m) _ so _ _ (event_run o e m so)
        (λ w n _. done_run s run_so q (record { statements = b; events = ws ++ (w ∷ []) }) n _ (sym (run_events_more ws w (run_statements s from b q))))

    term_keeps_events : (e : Term) (o : ℕ) (r : Draft) → Keeps events_here r.notes (run_term s false e (counting 9 o r)).notes
    term_keeps_events e o r =
        keeps_then (counted_keeps events_here events_here_spared 9 o r.notes (omega arith)) (term_keeps events_here events_here_spared refl s false e (counting 9 o r))

    action_item : (at : ℕ) (outside : eqb (cursor_at s at).kind open_paren ≡ false) (b : Block) (ws : List Event) (e : Term) (m : ℕ) → grammar.expression s max_levels at ≡ done e m
        → pick (eqb (note (run_term s false e (counting 9 (cursor_at s at).start (run_events s ws (run_statements s from b q)))).notes events_here) 0)
        (follow (walk.action s false (cursor_at s at) from (cursor_at s m) (run_term s false e (counting 9 (cursor_at s at).start (run_events s ws (run_statements s from b q))))) (body_grows s from))
        (walk.misfit s (cursor_at s m))
        ≡ walked s run_so
        (before_events s ws (λ n. and_then (grammar.action s e n) (λ a. give (record { statements = perform b (cursor_at s at).start a; events = ws }))) m) q
    unfolding before_events run_events run_statements
    action_item at outside b [] e m f =
        pick_true _ _ _ (none_yet b (run_term s false e (counting 9 (cursor_at s at).start (run_statements s from b q))) (term_keeps_events e (cursor_at s at).start (run_statements s from b q)))
        ∙ follow_run s run_so q (run_action s false from (cursor_at s at).start) (grammar.action s e m) _ (run_statements s from b q) _ _
        (action_run s false at outside from (run_statements s from b q) e m (expression_alone s at outside max_levels e m f))
        (λ a n _. done_run s run_so q (record { statements = perform b (cursor_at s at).start a; events = [] }) n _ refl)
    action_item at outside b (w ∷ ws) e m f =
        pick_false _ _ _ (some_here b w ws (run_term s false e (counting 9 (cursor_at s at).start (run_events s (w ∷ ws) (run_statements s from b q)))) (term_keeps_events e (cursor_at s at).start (run_events s (w ∷ ws) (run_statements s from b q))))
        ∙ unfit_run s run_so q m

    item_run : (i : Body) (at : ℕ) → is_one_of item_starts (cursor_at s at).kind ≡ true
        → walk.body_item s from (cursor_at s at) (run_so i q) ≡ walked s run_so (grammar.body_item s i at) q
    unfolding walk.body_item grammar.body_item walk.body_rest
    item_run i at start =
        one_next_run s run_so q open_paren at _ _ _ _ (plain_one open_paren refl refl)
        (conditional_item i.statements i.events at)
        (λ out.
        follow_run s run_so q (run_term s false) (grammar.expression s max_levels at) _ (counting 9 (cursor_at s at).start (run_so i q)) _ _
        ((expression_run s false max_levels).agrees at _)
        (λ e m f. one_next_run s run_so q event_mark m _ _ _ _ (plain_one event_mark refl refl)
        (λ _. event_item i.statements i.events (cursor_at s at).start e m)
        (λ _. action_item at out i.statements i.events e m f))
        ∙ sym (ap
        (λ r. walked s run_so
        (and_then r (λ o k. and_then (grammar.expression s max_levels k) (λ e n.
        pick (next_in s (event_mark ∷ []) n) (and_then (grammar.event s o e n) (λ w. give (with_event i w)))
        (before_events s i.events (λ l. and_then (grammar.action s e l) (λ a. give (with_statements i (perform i.statements o a)))) n)))) q)
        (place_in s item_starts at starts_plain start)))

    pub items_run : (f : ℕ) (i : Body) (at : ℕ)
        → walk.body_items s from f (cursor_at s at) (run_events s i.events (run_statements s from i.statements (begun s p)))
        ≡ walked s (λ i r. run_events s i.events (run_statements s from i.statements r)) (repeated s item_starts (grammar.body_item s) f i at) (begun s p)
    unfolding walk.body_items
    items_run =
        loop_run s run_so q (walk.body_items s from) (walk.body_item s from) item_starts (grammar.body_item s) starts_plain
        (λ c r. refl) (λ f c r. refl) item_run

  pub body_run : (at : ℕ) (p : Draft) → events_here < length p.notes → walk.body s (cursor_at s at) p ≡ walked s (run_body s) (grammar.body s at) p
  unfolding walk.body grammar.body run_body run_events run_statements
  body_run at p long =
      after_token s (run_body s) p open_brace at _ _ (plain_one open_brace refl refl)
      (λ _. follow_run s (run_body s) p (λ i r. run_events s i.events (run_statements s (nodes p) i.statements r))
      (repeated s item_starts (grammar.body_item s) (length s) (record { statements = none; events = [] }) (cursor_at s at).end) _ (begun s p) _ _
      (items_run (nodes p) p long (length s) (record { statements = none; events = [] }) (cursor_at s at).end)
      (λ i m _. after_token s (run_body s) p close_brace m _ _ (plain_one close_brace refl refl)
      (λ _. done_run s (run_body s) p i (cursor_at s m).end _ refl)))
