-- What the pass leaves of functions, one law for each way out of a function. Assumes nothing.
use mathlib.Core.Path.{◌≡◌, refl, sym, ap, subst, ◌∙◌}
use mathlib.Core.Bool.{true, false}
use mathlib.Core.List.{List, []}
use Prim.Native.Nat.{ℕ, zero, suc, ◌+◌, ◌-◌, ◌<◌, ◌≤◌}
use native.Mathlib.Omega.{arith}
use lib.ListN.{length, set}
use lib.Dec.{eqb}
use borrow.Author.Tests.{eq-eqb, ne_eqb, lt-ltb, le-ltb}
use Rattle.laws.specs.Choice.{pick}
use Rattle.laws.proofs.Choice.{pick_true, pick_false}
use Rattle.words.specs.Words.{state_arrow, event_mark, open_paren, close_paren, open_brace, close_brace, open_bracket, close_bracket, colon, at_sign}
use Rattle.tokens.specs.Tokens.{between}
use Rattle.contract.specs.Table.{event_kind}
use Rattle.entries.specs.Draft.{Draft, note, counted, number_in, party_used, put, with_notes, head, function_rest, event_row}
use Rattle.reading.specs.Grammar.{is_one_of, item_starts}
use Rattle.reading_laws.specs.Walk.{Walk, on, stop, AgreesWith, draft, follow, after, nodes, counting, noting, cursor_at, next_of, token, name_here, state_at, stated, state_number, enclosed, closed_by, expression, condition, names, action, braces, conditional, event_written, event_end, event}
use Rattle.reading_laws.specs.Walk.{body_grows, one_more_event, body_rest, body_conditional, body_item, body_items, begun, body, parameter_names, parameters_in, precondition, head_of, function_head, function_parts, function_last, function_end, function, functions}
use Rattle.reading_laws.specs.Walk.{Cursor}
use Rattle.reading_laws.specs.Walk.{Step}
use Rattle.reading_laws.specs.Walk.{On, Stop}
use Rattle.reading_laws.proofs.AgreesWith.{went, halted, leaves_same, is_on, is_stop_lem, follow_on, follow_stop, after_on, after_stop, steps_on}
use Rattle.reading_laws.proofs.Blocks.{goes_on, closed_by_lem}

-- ---- numbers of a body

pub one_more : (n m : List ℕ) (w : ℕ) → w ≡ note n 605 → w < 4096 → m ≡ set n 605 (w + 1) → m ≡ one_more_event [] n
unfolding one_more_event
one_more n m w e h f =
    f ∙ ap (λ (k : ℕ). set n 605 (k + 1)) e ∙ sym (pick_true _ _ _ (lt-ltb (note n 605) 4096 (subst (λ (k : ℕ). k < 4096) e h)))

pub no_more : (n : List ℕ) (w : ℕ) → w ≡ note n 605 → 4096 ≤ w → n ≡ one_more_event [] n
unfolding one_more_event
no_more n w e h = sym (pick_false _ _ _ (le-ltb (note n 605) 4096 (subst (λ (k : ℕ). 4096 ≤ k) e h)))

more_same : (s n : List ℕ) → one_more_event [] n ≡ one_more_event s n
unfolding one_more_event
more_same s n = refl

module _ (s : List ℕ) where
  -- ---- => @Q'

  module _ (i state before from : ℕ) (c : Cursor) (t₀ n₀ : List ℕ) (a : Step) (e : a ≡ token s state_arrow c) where
    abbrev last_of : Cursor → Walk
    last_of l = on (next_of s l) (event_written s i state (state_number s l (draft t₀ n₀)) (nodes (draft t₀ n₀) - from) before (stated s l (draft t₀ n₀)))

    pub event_end_unfit : (t n : List ℕ) (q o : ℕ) → a ≡ Stop q o → AgreesWith (event_end s i state before from c (draft t₀ n₀)) a t n
    unfolding event_end
    event_end_unfit t n q o f = is_stop_lem _ a t n q o (after_stop _ q o (λ d. after (state_at s d) last_of) (sym e ∙ f)) f

    module _ (d : Cursor) (g : a ≡ On d) (b : Step) (k : b ≡ state_at s d) where
      at_state : event_end s i state before from c (draft t₀ n₀) ≡ after (state_at s d) last_of
      unfolding event_end
      at_state = after_on _ d (λ d. after (state_at s d) last_of) (sym e ∙ g)

      pub event_end_stops : (t n : List ℕ) (q o : ℕ) → b ≡ Stop q o → AgreesWith (event_end s i state before from c (draft t₀ n₀)) b t n
      event_end_stops t n q o f = is_stop_lem _ b t n q o (at_state ∙ after_stop _ q o last_of (sym k ∙ f)) f

      pub event_end_on :
          (l : Cursor) (handler last : ℕ) (t₁ n₁ : List ℕ) (node : ℕ) (t₂ n₂ t₃ : List ℕ) (f : Cursor)
          → b ≡ On l
          → handler ≡ note n₀ 14 - from
          → last ≡ state_number s l (draft t₀ n₀)
          → draft t₁ n₁ ≡ stated s l (draft t₀ n₀)
          → node ≡ note n₁ 14
          → draft t₂ n₂ ≡ put event_kind handler before (draft t₁ n₁)
          → t₃ ≡ event_row i state last node t₂
          → f ≡ cursor_at s l.end
          → AgreesWith (event_end s i state before from c (draft t₀ n₀)) (On f) t₃ n₂
      event_end_on l handler last t₁ n₁ node t₂ n₂ t₃ f y h₁ h₂ p h₃ a₂ h₄ z =
          let q : draft t₂ n₂ ≡ put event_kind (note n₀ 14 - from) before (stated s l (draft t₀ n₀)) =
          a₂ ∙ (λ i. put event_kind (h₁ i) before (p i)) in
          let m : node ≡ nodes (stated s l (draft t₀ n₀)) = h₃ ∙ ap nodes p in
          let r : t₃ ≡ event_row i state (state_number s l (draft t₀ n₀)) (nodes (stated s l (draft t₀ n₀))) (put event_kind (note n₀ 14 - from) before (stated s l (draft t₀ n₀))).table =
          h₄ ∙ (λ j. event_row i state (h₂ j) (m j) (q j).table) in
          goes_on _ _ f _ t₃ n₂ (at_state ∙ after_on _ l last_of (sym k ∙ y)) z (λ j. record { table = r j; notes = (q j).notes })

  -- ---- >> @Q { S } => @Q'

  module _ (place before : ℕ) (c : Cursor) (t₀ n₀ : List ℕ) (a : Step) (e : a ≡ token s event_mark c) where
    abbrev handled : Cursor → Walk
    handled q =
        follow (braces s true 16 (conditional s true 16) (next_of s q) (noting 8 0 (stated s q (counting 7 place (draft t₀ n₀)))))
        (event_end s (note n₀ 7) (state_number s q (counting 7 place (draft t₀ n₀))) before (note n₀ 14))

    pub event_unfit : (t n : List ℕ) (q o : ℕ) → a ≡ Stop q o → AgreesWith (event s place before c (draft t₀ n₀)) a t n
    unfolding event
    event_unfit t n q o f = is_stop_lem _ a t n q o (after_stop _ q o (λ d. after (state_at s d) handled) (sym e ∙ f)) f

    module _ (d : Cursor) (g : a ≡ On d) (b : Step) (k : b ≡ state_at s d) where
      at_handler : event s place before c (draft t₀ n₀) ≡ after (state_at s d) handled
      unfolding event
      at_handler = after_on _ d (λ d. after (state_at s d) handled) (sym e ∙ g)

      pub event_stops : (t n : List ℕ) (q o : ℕ) → b ≡ Stop q o → AgreesWith (event s place before c (draft t₀ n₀)) b t n
      event_stops t n q o f = is_stop_lem _ b t n q o (at_handler ∙ after_stop _ q o handled (sym k ∙ f)) f

      module _ (q : Cursor) (y : b ≡ On q) (i from : ℕ) (h₁ : i ≡ note n₀ 7) (h₂ : from ≡ note n₀ 14) (n₁ : List ℕ) (h₃ : n₁ ≡ counted 7 place n₀)
          (state : ℕ) (t₂ n₂ : List ℕ) (h₄ : state ≡ state_number s q (draft t₀ n₁)) (a₂ : draft t₂ n₂ ≡ stated s q (draft t₀ n₁))
          (n₃ : List ℕ) (h₅ : n₃ ≡ set n₂ 8 0) (f : Cursor) (z : f ≡ cursor_at s q.end)
          (r : Step) (t₄ n₄ : List ℕ) (u : AgreesWith (braces s true 16 (conditional s true 16) f (draft t₂ n₃)) r t₄ n₄) where
        in_handler : event s place before c (draft t₀ n₀)
            ≡ follow (braces s true 16 (conditional s true 16) f (draft t₂ n₃)) (event_end s i state before from)
        in_handler =
            let p : draft t₂ n₂ ≡ stated s q (counting 7 place (draft t₀ n₀)) = a₂ ∙ (λ j. stated s q (draft t₀ (h₃ j))) in
            let v : draft t₂ n₃ ≡ noting 8 0 (stated s q (counting 7 place (draft t₀ n₀))) =
            (λ j. draft t₂ (h₅ j)) ∙ ap (λ (p : Draft). noting 8 0 p) p in
            let w : state ≡ state_number s q (counting 7 place (draft t₀ n₀)) = h₄ ∙ (λ j. state_number s q (draft t₀ (h₃ j))) in
            at_handler ∙ after_on _ q handled (sym k ∙ y)
            ∙ sym (λ j. follow (braces s true 16 (conditional s true 16) (z j) (v j)) (event_end s (h₁ j) (w j) before (h₂ j)))

        pub event_refused : (t n : List ℕ) (x o : ℕ) → r ≡ Stop x o → AgreesWith (event s place before c (draft t₀ n₀)) r t n
        event_refused t n x o j =
            is_stop_lem _ r t n x o (in_handler ∙ follow_stop _ x o (event_end s i state before from) (halted _ r t₄ n₄ x o u j)) j

        pub event_ends : (v : Step) (t n : List ℕ) (d : Cursor) → r ≡ On d → AgreesWith (event_end s i state before from d (draft t₄ n₄)) v t n
            → AgreesWith (event s place before c (draft t₀ n₀)) v t n
        event_ends v t n d j w =
            leaves_same _ _ v t n (sym (in_handler ∙ follow_on _ d (draft t₄ n₄) (event_end s i state before from) (went _ r t₄ n₄ d u j))) w

  -- ---- a statement or an event, after its expression

  module _ (from : ℕ) (first : Cursor) (before : ℕ) (c : Cursor) (t₀ n₀ : List ℕ) where
    module _ (k : c.kind ≡ event_mark) (r : Step) (t n : List ℕ) (a : AgreesWith (event s first.start before c (draft t₀ n₀)) r t n) where
      abbrev counts_one : Cursor → Draft → Walk
      counts_one d q = on d (with_notes q (one_more_event s q.notes))

      at_event : body_rest s from first before c (draft t₀ n₀) ≡ follow (event s first.start before c (draft t₀ n₀)) counts_one
      unfolding body_rest
      at_event = pick_true _ _ _ (eq-eqb c.kind event_mark k)

      pub rest_refused : (t₁ n₁ : List ℕ) (q o : ℕ) → r ≡ Stop q o → AgreesWith (body_rest s from first before c (draft t₀ n₀)) r t₁ n₁
      rest_refused t₁ n₁ q o f = is_stop_lem _ r t₁ n₁ q o (at_event ∙ follow_stop _ q o counts_one (halted _ r t n q o a f)) f

      pub rest_event : (d : Cursor) (m : List ℕ) → r ≡ On d → m ≡ one_more_event [] n → AgreesWith (body_rest s from first before c (draft t₀ n₀)) (On d) t m
      rest_event d m f h =
          goes_on _ d d _ t m (at_event ∙ follow_on _ d (draft t n) counts_one (went _ r t n d a f)) refl (λ i. draft t ((h ∙ more_same s n) i))

    module _ (k : c.kind ≡ event_mark → ⊥) (w : ℕ) (h : w ≡ note n₀ 605) where
      no_event_lem : body_rest s from first before c (draft t₀ n₀)
          ≡ pick (eqb (note n₀ 605) 0) (follow (action s false first from c (draft t₀ n₀)) (body_grows s from)) (stop c.question c.start)
      unfolding body_rest
      no_event_lem = pick_false _ _ _ (ne_eqb c.kind event_mark k)

      pub rest_late : (r : Step) (t n : List ℕ) → (w ≡ 0 → ⊥) → r ≡ Stop c.question c.start → AgreesWith (body_rest s from first before c (draft t₀ n₀)) r t n
      rest_late r t n z e = is_stop_lem _ r t n _ _ (no_event_lem ∙ pick_false _ _ _ (ne_eqb (note n₀ 605) 0 (λ y. z (h ∙ y)))) e

      module _ (z : w ≡ 0) (r : Step) (t n : List ℕ) (a : AgreesWith (action s false first from c (draft t₀ n₀)) r t n) where
        acts : body_rest s from first before c (draft t₀ n₀) ≡ follow (action s false first from c (draft t₀ n₀)) (body_grows s from)
        acts = no_event_lem ∙ pick_true _ _ _ (eq-eqb (note n₀ 605) 0 (sym h ∙ z))

        pub rest_stops : (t₁ n₁ : List ℕ) (q o : ℕ) → r ≡ Stop q o → AgreesWith (body_rest s from first before c (draft t₀ n₀)) r t₁ n₁
        rest_stops t₁ n₁ q o f = is_stop_lem _ r t₁ n₁ q o (acts ∙ follow_stop _ q o (body_grows s from) (halted _ r t n q o a f)) f

        pub rest_grows : (d : Cursor) (m : List ℕ) → r ≡ On d → m ≡ set n 604 (note n 14 - from) → AgreesWith (body_rest s from first before c (draft t₀ n₀)) (On d) t m
        rest_grows d m f g = goes_on _ d d _ t m (acts ∙ follow_on _ d (draft t n) (body_grows s from) (went _ r t n d a f)) refl (λ i. draft t (g i))

  -- ---- a conditional of a body

  module _ (from : ℕ) (c : Cursor) (t₀ n₀ : List ℕ) (w : ℕ) (h : w ≡ note n₀ 605) where
    pub body_late : (r : Step) (t n : List ℕ) → (w ≡ 0 → ⊥) → r ≡ Stop c.question c.start → AgreesWith (body_conditional s from c (draft t₀ n₀)) r t n
    unfolding body_conditional
    body_late r t n z e = is_stop_lem _ r t n _ _ (pick_false _ _ _ (ne_eqb (note n₀ 605) 0 (λ y. z (h ∙ y)))) e

    module _ (z : w ≡ 0) (r : Step) (t n : List ℕ) (a : AgreesWith (conditional s false 16 from c (draft t₀ n₀)) r t n) where
      tests : body_conditional s from c (draft t₀ n₀) ≡ follow (conditional s false 16 from c (draft t₀ n₀)) (body_grows s from)
      unfolding body_conditional
      tests = pick_true _ _ _ (eq-eqb (note n₀ 605) 0 (sym h ∙ z))

      pub body_stops : (t₁ n₁ : List ℕ) (q o : ℕ) → r ≡ Stop q o → AgreesWith (body_conditional s from c (draft t₀ n₀)) r t₁ n₁
      body_stops t₁ n₁ q o f = is_stop_lem _ r t₁ n₁ q o (tests ∙ follow_stop _ q o (body_grows s from) (halted _ r t n q o a f)) f

      pub body_grows_lem : (d : Cursor) (m : List ℕ) → r ≡ On d → m ≡ set n 604 (note n 14 - from) → AgreesWith (body_conditional s from c (draft t₀ n₀)) (On d) t m
      body_grows_lem d m f g = goes_on _ d d _ t m (tests ∙ follow_on _ d (draft t n) (body_grows s from) (went _ r t n d a f)) refl (λ i. draft t (g i))

  -- ---- a statement or an event

  module _ (from : ℕ) (c : Cursor) (t₀ n₀ : List ℕ) where
    pub item_test : (r : Step) (t n : List ℕ) → c.kind ≡ open_paren → AgreesWith (body_conditional s from c (draft t₀ n₀)) r t n
        → AgreesWith (body_item s from c (draft t₀ n₀)) r t n
    unfolding body_item
    item_test r t n k a = leaves_same _ _ r t n (sym (pick_true _ _ _ (eq-eqb c.kind open_paren k))) a

    module _ (k : c.kind ≡ open_paren → ⊥) (b : ℕ) (h₁ : b ≡ note n₀ 14) (n₁ : List ℕ) (h₂ : n₁ ≡ counted 9 c.start n₀)
        (r : Step) (t₂ n₂ : List ℕ) (a : AgreesWith (expression s false 16 c (draft t₀ n₁)) r t₂ n₂) where
      item_reads : body_item s from c (draft t₀ n₀) ≡ follow (expression s false 16 c (draft t₀ n₁)) (body_rest s from c b)
      unfolding body_item
      item_reads =
          pick_false _ _ _ (ne_eqb c.kind open_paren k)
          ∙ sym (λ i. follow (expression s false 16 c (draft t₀ (h₂ i))) (body_rest s from c (h₁ i)))

      pub item_stops : (t n : List ℕ) (q o : ℕ) → r ≡ Stop q o → AgreesWith (body_item s from c (draft t₀ n₀)) r t n
      item_stops t n q o f = is_stop_lem _ r t n q o (item_reads ∙ follow_stop _ q o (body_rest s from c b) (halted _ r t₂ n₂ q o a f)) f

      pub item_goes : (v : Step) (t n : List ℕ) (d : Cursor) → r ≡ On d → AgreesWith (body_rest s from c b d (draft t₂ n₂)) v t n
          → AgreesWith (body_item s from c (draft t₀ n₀)) v t n
      item_goes v t n d f u =
          leaves_same _ _ v t n (sym (item_reads ∙ follow_on _ d (draft t₂ n₂) (body_rest s from c b) (went _ r t₂ n₂ d a f))) u

  -- ---- the statements and events of a body

  module _ (from : ℕ) where
    items_more : (f : ℕ) (c : Cursor) (p : Draft) → 0 < f → is_one_of item_starts c.kind ≡ true
        → body_items s from f c p ≡ follow (body_item s from c p) (body_items s from (f - 1))
    unfolding body_items
    items_more zero c p z k = absurd (omega arith)
    items_more (suc f) c p z k =
        let g : suc f - 1 ≡ f = omega arith in
        pick_true _ _ _ k ∙ ap (λ (m : ℕ). follow (body_item s from c p) (body_items s from m)) (sym g)

    items_off : (f : ℕ) (c : Cursor) (p : Draft) → is_one_of item_starts c.kind ≡ false → body_items s from f c p ≡ on c p
    unfolding body_items
    items_off zero c p k = refl
    items_off (suc f) c p k = pick_false _ _ _ k

    items_none : (f : ℕ) (c : Cursor) (p : Draft) → f ≤ 0 → body_items s from f c p ≡ on c p
    unfolding body_items
    items_none zero c p k = refl
    items_none (suc f) c p k = absurd (omega arith)

    module _ (w : Walk) (f : ℕ) (c : Cursor) (t n : List ℕ) (inv : body_items s from f c (draft t n) ≡ w) where
      pub items_turn : (r : Step) (t₁ n₁ : List ℕ) (d : Cursor) → 0 < f → is_one_of item_starts c.kind ≡ true
          → AgreesWith (body_item s from c (draft t n)) r t₁ n₁ → r ≡ On d → body_items s from (f - 1) d (draft t₁ n₁) ≡ w
      items_turn r t₁ n₁ d z k a e =
          sym (items_more f c (draft t n) z k ∙ follow_on _ d (draft t₁ n₁) (body_items s from (f - 1)) (went _ r t₁ n₁ d a e)) ∙ inv

      pub items_stop : (r : Step) (t₁ n₁ t₂ n₂ : List ℕ) (q o : ℕ) → 0 < f → is_one_of item_starts c.kind ≡ true
          → AgreesWith (body_item s from c (draft t n)) r t₁ n₁ → r ≡ Stop q o → AgreesWith w r t₂ n₂
      items_stop r t₁ n₁ t₂ n₂ q o z k a e =
          is_stop_lem w r t₂ n₂ q o
          (sym inv ∙ items_more f c (draft t n) z k ∙ follow_stop _ q o (body_items s from (f - 1)) (halted _ r t₁ n₁ q o a e))
          e

      pub items_end : is_one_of item_starts c.kind ≡ false → AgreesWith w (On c) t n
      items_end k = is_on w (On c) t n c (sym inv ∙ items_off f c (draft t n) k) refl

      pub items_out : f ≤ 0 → AgreesWith w (On c) t n
      items_out k = is_on w (On c) t n c (sym inv ∙ items_none f c (draft t n) k) refl

  -- ---- { S W }

  module _ (c : Cursor) (t₀ n₀ : List ℕ) (from : ℕ) (h : from ≡ note n₀ 14) (a : Step) (e : a ≡ token s open_brace c) where
    abbrev to_end : Cursor → Draft → Walk
    to_end e q = after (token s close_brace e) (λ f. on f q)

    abbrev filled : Cursor → Walk
    filled d = follow (body_items s (note n₀ 14) (length s) d (begun s (draft t₀ n₀))) to_end

    pub body_unfit : (t n : List ℕ) (q o : ℕ) → a ≡ Stop q o → AgreesWith (body s c (draft t₀ n₀)) a t n
    unfolding body
    body_unfit t n q o f = is_stop_lem _ a t n q o (after_stop _ q o filled (sym e ∙ f)) f

    module _ (d : Cursor) (g : a ≡ On d) (n₁ n₂ n₃ : List ℕ) (h₁ : n₁ ≡ set n₀ 8 0) (h₂ : n₂ ≡ set n₁ 604 0) (h₃ : n₃ ≡ set n₂ 605 0)
        (r : Step) (t n : List ℕ) (b : AgreesWith (body_items s from (length s) d (draft t₀ n₃)) r t n) where
      fills : body s c (draft t₀ n₀) ≡ follow (body_items s from (length s) d (draft t₀ n₃)) to_end
      unfolding body
      fills =
          after_on _ d filled (sym e ∙ g)
          ∙ sym (λ i. follow (body_items s (h i) (length s) d (draft t₀ ((h₃ ∙ ap (λ (m : List ℕ). set m 605 0) (h₂ ∙ ap (λ (m : List ℕ). set m 604 0) h₁)) i))) to_end)

      pub body_refused : (t₁ n₁ : List ℕ) (q o : ℕ) → r ≡ Stop q o → AgreesWith (body s c (draft t₀ n₀)) r t₁ n₁
      body_refused t₁ n₁ q o f = is_stop_lem _ r t₁ n₁ q o (fills ∙ follow_stop _ q o to_end (halted _ r t n q o b f)) f

      pub body_closes : (f : Cursor) (v : Step) → r ≡ On f → v ≡ token s close_brace f → AgreesWith (body s c (draft t₀ n₀)) v t n
      body_closes f v y z =
          leaves_same _ _ v t n (sym (fills ∙ follow_on _ f (draft t n) to_end (went _ r t n f b y))) (steps_on (token s close_brace f) v t n z)

  -- ---- parameters

  module _ (closing kind : ℕ) (c : Cursor) (t₀ n₀ : List ℕ) where
    pub names_none : (d : Cursor) → c.kind ≡ closing → d ≡ cursor_at s c.end → AgreesWith (parameter_names s closing kind c (draft t₀ n₀)) (On d) t₀ n₀
    unfolding parameter_names
    names_none d k e = goes_on _ _ d _ t₀ n₀ (pick_true _ _ _ (eq-eqb c.kind closing k)) e refl

    module _ (k : c.kind ≡ closing → ⊥) (r : Step) (t n : List ℕ) (a : AgreesWith (names s kind c (draft t₀ n₀)) r t n) where
      abbrev names_end : Cursor → Draft → Walk
      names_end d q = after (token s closing d) (λ e. on e q)

      some_names : parameter_names s closing kind c (draft t₀ n₀) ≡ follow (names s kind c (draft t₀ n₀)) names_end
      unfolding parameter_names
      some_names = pick_false _ _ _ (ne_eqb c.kind closing k)

      pub names_stop : (t₁ n₁ : List ℕ) (q o : ℕ) → r ≡ Stop q o → AgreesWith (parameter_names s closing kind c (draft t₀ n₀)) r t₁ n₁
      names_stop t₁ n₁ q o f = is_stop_lem _ r t₁ n₁ q o (some_names ∙ follow_stop _ q o names_end (halted _ r t n q o a f)) f

      pub names_close : (d : Cursor) (v : Step) → r ≡ On d → v ≡ token s closing d → AgreesWith (parameter_names s closing kind c (draft t₀ n₀)) v t n
      names_close d v f z =
          leaves_same _ _ v t n (sym (some_names ∙ follow_on _ d (draft t n) names_end (went _ r t n d a f))) (steps_on (token s closing d) v t n z)

  pub listed : (opening closing kind : ℕ) (c : Cursor) (p : Draft) (r : Step) (t n : List ℕ) (d : Cursor) → c.kind ≡ opening → d ≡ cursor_at s c.end
      → AgreesWith (parameter_names s closing kind d p) r t n → AgreesWith (parameters_in s opening closing kind c p) r t n
  unfolding parameters_in
  listed opening closing kind c p r t n d k e a =
      leaves_same _ _ r t n (sym (pick_true _ _ _ (eq-eqb c.kind opening k) ∙ ap (λ (z : Cursor). parameter_names s closing kind z p) (sym e))) a

  pub unlisted : (opening closing kind : ℕ) (c : Cursor) (t n : List ℕ) → (c.kind ≡ opening → ⊥) → AgreesWith (parameters_in s opening closing kind c (draft t n)) (On c) t n
  unfolding parameters_in
  unlisted opening closing kind c t n k = is_on _ (On c) t n c (pick_false _ _ _ (ne_eqb c.kind opening k)) refl

  -- ---- a precondition

  pub preconditioned : (c : Cursor) (p : Draft) (d : Cursor) (r a : Step) (t n : List ℕ) → c.kind ≡ open_paren → d ≡ cursor_at s c.end
      → AgreesWith (condition s false 16 d p) r t n → a ≡ closed_by s r → AgreesWith (precondition s c p) a t n
  unfolding precondition
  preconditioned c p d r a t n k e u z =
      leaves_same _ _ a t n
      (sym (pick_true _ _ _ (eq-eqb c.kind open_paren k) ∙ ap (λ (z : Cursor). enclosed s (condition s false 16 z p)) (sym e)))
      (closed_by_lem s _ r a t n u z)

  pub unconditioned : (c : Cursor) (t n : List ℕ) → (c.kind ≡ open_paren → ⊥) → AgreesWith (precondition s c (draft t n)) (On c) t n
  unfolding precondition
  unconditioned c t n k = is_on _ (On c) t n c (pick_false _ _ _ (ne_eqb c.kind open_paren k)) refl

  -- ---- @Q A : f

  module _ (c : Cursor) (t₀ n₀ : List ℕ) (a : Step) (h₁ : a ≡ state_at s c) where
    abbrev to_name : Cursor → Cursor → Cursor → Walk
    to_name q p d = after (name_here s d) (λ f. on (next_of s f) (head_of s c q p f (draft t₀ n₀)))

    abbrev to_colon : Cursor → Cursor → Walk
    to_colon q p = after (token s colon (next_of s p)) (to_name q p)

    abbrev to_party : Cursor → Walk
    to_party q = after (name_here s (next_of s q)) (to_colon q)

    pub head_unfit : (t n : List ℕ) (x o : ℕ) → a ≡ Stop x o → AgreesWith (function_head s c (draft t₀ n₀)) a t n
    unfolding function_head
    head_unfit t n x o f = is_stop_lem _ a t n x o (after_stop _ x o to_party (sym h₁ ∙ f)) f

    module _ (q : Cursor) (g₁ : a ≡ On q) (c₁ : Cursor) (e₁ : c₁ ≡ cursor_at s q.end) (b : Step) (h₂ : b ≡ name_here s c₁) where
      head₁ : function_head s c (draft t₀ n₀) ≡ after b (to_colon q)
      unfolding function_head
      head₁ =
          after_on _ q to_party (sym h₁ ∙ g₁)
          ∙ ap (λ (x : Step). after x (to_colon q)) (sym (h₂ ∙ ap (name_here s) e₁))

      pub head_no_party : (t n : List ℕ) (x o : ℕ) → b ≡ Stop x o → AgreesWith (function_head s c (draft t₀ n₀)) b t n
      head_no_party t n x o f = is_stop_lem _ b t n x o (head₁ ∙ after_stop _ x o (to_colon q) f) f

      module _ (p : Cursor) (g₂ : b ≡ On p) (c₂ : Cursor) (e₂ : c₂ ≡ cursor_at s p.end) (d : Step) (h₃ : d ≡ token s colon c₂) where
        head₂ : function_head s c (draft t₀ n₀) ≡ after d (to_name q p)
        head₂ =
            head₁ ∙ after_on _ p (to_colon q) g₂
            ∙ ap (λ (x : Step). after x (to_name q p)) (sym (h₃ ∙ ap (token s colon) e₂))

        pub head_no_colon : (t n : List ℕ) (x o : ℕ) → d ≡ Stop x o → AgreesWith (function_head s c (draft t₀ n₀)) d t n
        head_no_colon t n x o f = is_stop_lem _ d t n x o (head₂ ∙ after_stop _ x o (to_name q p) f) f

        module _ (i : Cursor) (g₃ : d ≡ On i) (j : Step) (h₄ : j ≡ name_here s i) where
          abbrev heads : Cursor → Walk
          heads f = on (next_of s f) (head_of s c q p f (draft t₀ n₀))

          head₃ : function_head s c (draft t₀ n₀) ≡ after j heads
          head₃ = head₂ ∙ after_on _ i (to_name q p) g₃ ∙ ap (λ (x : Step). after x heads) (sym h₄)

          pub head_no_name : (t n : List ℕ) (x o : ℕ) → j ≡ Stop x o → AgreesWith (function_head s c (draft t₀ n₀)) j t n
          head_no_name t n x o f = is_stop_lem _ j t n x o (head₃ ∙ after_stop _ x o heads f) f

          pub head_on :
              (f : Cursor) (state : ℕ) (t₁ n₁ : List ℕ) (number : ℕ) (n₂ t₃ n₃ : List ℕ) (l : Cursor)
              → j ≡ On f
              → state ≡ state_number s q (draft t₀ n₀)
              → draft t₁ n₁ ≡ stated s q (draft t₀ n₀)
              → number ≡ number_in s n₁ 0 (between s p.start p.end)
              → n₂ ≡ party_used s p.start p.end n₁
              → draft t₃ n₃ ≡ head s c.start state number f.start f.end (draft t₁ n₂)
              → l ≡ cursor_at s f.end
              → AgreesWith (function_head s c (draft t₀ n₀)) (On l) t₃ n₃
          head_on f state t₁ n₁ number n₂ t₃ n₃ l g₄ k₁ a₁ k₂ k₃ a₃ z =
              let u : number ≡ number_in s (stated s q (draft t₀ n₀)).notes 0 (between s p.start p.end) =
              k₂ ∙ ap (λ (d : Draft). number_in s d.notes 0 (between s p.start p.end)) a₁ in
              let v : n₂ ≡ party_used s p.start p.end (stated s q (draft t₀ n₀)).notes = k₃ ∙ ap (λ (d : Draft). party_used s p.start p.end d.notes) a₁ in
              goes_on _ _ l _ t₃ n₃ (head₃ ∙ after_on _ f heads g₄) z
              (a₃ ∙ (λ i. head s c.start (k₁ i) (u i) f.start f.end (draft (a₁ i).table (v i))))

  -- ---- parameters and precondition

  module _ (c : Cursor) (t₀ n₀ : List ℕ) (a : Step) (t₁ n₁ : List ℕ) (u : AgreesWith (parameters_in s open_paren close_paren 3 c (draft t₀ n₀)) a t₁ n₁) where
    abbrev parts_rest : Cursor → Draft → Walk
    parts_rest d q = follow (parameters_in s open_bracket close_bracket 4 d q) (precondition s)

    pub parts_unfit : (t n : List ℕ) (x o : ℕ) → a ≡ Stop x o → AgreesWith (function_parts s c (draft t₀ n₀)) a t n
    unfolding function_parts
    parts_unfit t n x o f = is_stop_lem _ a t n x o (follow_stop _ x o parts_rest (halted _ a t₁ n₁ x o u f)) f

    module _ (d : Cursor) (g : a ≡ On d) (b : Step) (t₂ n₂ : List ℕ) (v : AgreesWith (parameters_in s open_bracket close_bracket 4 d (draft t₁ n₁)) b t₂ n₂) where
      parts : function_parts s c (draft t₀ n₀) ≡ follow (parameters_in s open_bracket close_bracket 4 d (draft t₁ n₁)) (precondition s)
      unfolding function_parts
      parts = follow_on _ d (draft t₁ n₁) parts_rest (went _ a t₁ n₁ d u g)

      pub parts_stop : (t n : List ℕ) (x o : ℕ) → b ≡ Stop x o → AgreesWith (function_parts s c (draft t₀ n₀)) b t n
      parts_stop t n x o f = is_stop_lem _ b t n x o (parts ∙ follow_stop _ x o (precondition s) (halted _ b t₂ n₂ x o v f)) f

      pub parts_last : (r : Step) (t n : List ℕ) (e : Cursor) → b ≡ On e → AgreesWith (precondition s e (draft t₂ n₂)) r t n
          → AgreesWith (function_parts s c (draft t₀ n₀)) r t n
      parts_last r t n e f w =
          leaves_same _ _ r t n (sym (parts ∙ follow_on _ e (draft t₂ n₂) (precondition s) (went _ b t₂ n₂ e v f))) w

  -- ---- a function's body and last state

  module _ (i first event : ℕ) (c : Cursor) (t₀ n₀ : List ℕ) (before : ℕ) (h₁ : before ≡ note n₀ 14 - first)
      (r : Step) (t₁ n₁ : List ℕ) (u : AgreesWith (body s c (draft t₀ n₀)) r t₁ n₁) where
    abbrev ends_at : Draft → Cursor → Walk
    ends_at q l = on (next_of s l) (function_last s i first (note n₀ 14 - first) event l q)

    abbrev end_rest : Cursor → Draft → Walk
    end_rest d q = after (token s state_arrow d) (λ e. after (state_at s e) (ends_at q))

    pub end_refused : (t n : List ℕ) (x o : ℕ) → r ≡ Stop x o → AgreesWith (function_end s i first event c (draft t₀ n₀)) r t n
    unfolding function_end
    end_refused t n x o f = is_stop_lem _ r t n x o (follow_stop _ x o end_rest (halted _ r t₁ n₁ x o u f)) f

    module _ (d : Cursor) (g₁ : r ≡ On d) (a : Step) (h₂ : a ≡ token s state_arrow d) where
      end₁ : function_end s i first event c (draft t₀ n₀) ≡ after a (λ e. after (state_at s e) (ends_at (draft t₁ n₁)))
      unfolding function_end
      end₁ =
          follow_on _ d (draft t₁ n₁) end_rest (went _ r t₁ n₁ d u g₁)
          ∙ ap (λ (x : Step). after x (λ e. after (state_at s e) (ends_at (draft t₁ n₁)))) (sym h₂)

      pub end_unfit : (t n : List ℕ) (x o : ℕ) → a ≡ Stop x o → AgreesWith (function_end s i first event c (draft t₀ n₀)) a t n
      end_unfit t n x o f = is_stop_lem _ a t n x o (end₁ ∙ after_stop _ x o (λ e. after (state_at s e) (ends_at (draft t₁ n₁))) f) f

      module _ (e : Cursor) (g₂ : a ≡ On e) (b : Step) (h₃ : b ≡ state_at s e) where
        end₂ : function_end s i first event c (draft t₀ n₀) ≡ after b (ends_at (draft t₁ n₁))
        end₂ =
            end₁ ∙ after_on _ e (λ e. after (state_at s e) (ends_at (draft t₁ n₁))) g₂ ∙ ap (λ (x : Step). after x (ends_at (draft t₁ n₁))) (sym h₃)

        pub end_no_state : (t n : List ℕ) (x o : ℕ) → b ≡ Stop x o → AgreesWith (function_end s i first event c (draft t₀ n₀)) b t n
        end_no_state t n x o f = is_stop_lem _ b t n x o (end₂ ∙ after_stop _ x o (ends_at (draft t₁ n₁)) f) f

        pub end_on :
            (l : Cursor) (last : ℕ) (t₂ n₂ : List ℕ) (nodes events : ℕ) (t₃ n₃ : List ℕ) (f : Cursor)
            → b ≡ On l
            → last ≡ state_number s l (draft t₁ n₁)
            → draft t₂ n₂ ≡ stated s l (draft t₁ n₁)
            → nodes ≡ note n₁ 604
            → events ≡ note n₁ 605
            → draft t₃ n₃ ≡ function_rest i last first before nodes event events (draft t₂ n₂)
            → f ≡ cursor_at s l.end
            → AgreesWith (function_end s i first event c (draft t₀ n₀)) (On f) t₃ n₃
        end_on l last t₂ n₂ many events t₃ n₃ f g₃ k₁ p k₂ k₃ q z =
            goes_on _ _ f _ t₃ n₃ (end₂ ∙ after_on _ l (ends_at (draft t₁ n₁)) g₃) z
            (q ∙ (λ j. function_rest i (k₁ j) first (h₁ j) (k₂ j) event (k₃ j) (p j)))

  -- ---- a function

  module _ (c : Cursor) (t₀ n₀ : List ℕ) (i first event : ℕ) (h₁ : i ≡ note n₀ 10) (h₂ : first ≡ note n₀ 14) (h₃ : event ≡ note n₀ 7)
      (a : Step) (t₁ n₁ : List ℕ) (u : AgreesWith (function_head s c (draft t₀ n₀)) a t₁ n₁) where
    abbrev function_end_lem : Cursor → Draft → Walk
    function_end_lem = function_end s (note n₀ 10) (note n₀ 14) (note n₀ 7)

    abbrev function_rest_lem : Cursor → Draft → Walk
    function_rest_lem d q = follow (function_parts s d q) function_end_lem

    pub function_unfit : (t n : List ℕ) (x o : ℕ) → a ≡ Stop x o → AgreesWith (function s c (draft t₀ n₀)) a t n
    unfolding function
    function_unfit t n x o f = is_stop_lem _ a t n x o (follow_stop _ x o function_rest_lem (halted _ a t₁ n₁ x o u f)) f

    module _ (d : Cursor) (g : a ≡ On d) (b : Step) (t₂ n₂ : List ℕ) (v : AgreesWith (function_parts s d (draft t₁ n₁)) b t₂ n₂) where
      headed : function s c (draft t₀ n₀) ≡ follow (function_parts s d (draft t₁ n₁)) (function_end s i first event)
      unfolding function
      headed =
          follow_on _ d (draft t₁ n₁) function_rest_lem (went _ a t₁ n₁ d u g)
          ∙ sym (λ j. follow (function_parts s d (draft t₁ n₁)) (function_end s (h₁ j) (h₂ j) (h₃ j)))

      pub function_stops : (t n : List ℕ) (x o : ℕ) → b ≡ Stop x o → AgreesWith (function s c (draft t₀ n₀)) b t n
      function_stops t n x o f = is_stop_lem _ b t n x o (headed ∙ follow_stop _ x o (function_end s i first event) (halted _ b t₂ n₂ x o v f)) f

      pub function_ends : (r : Step) (t n : List ℕ) (e : Cursor) → b ≡ On e → AgreesWith (function_end s i first event e (draft t₂ n₂)) r t n
          → AgreesWith (function s c (draft t₀ n₀)) r t n
      function_ends r t n e f w =
          leaves_same _ _ r t n (sym (headed ∙ follow_on _ e (draft t₂ n₂) (function_end s i first event) (went _ b t₂ n₂ e v f))) w

  -- ---- the functions of a contract

  functions_more : (f : ℕ) (c : Cursor) (p : Draft) → 0 < f → c.kind ≡ at_sign → functions s f c p ≡ follow (function s c p) (functions s (f - 1))
  unfolding functions
  functions_more zero c p z k = absurd (omega arith)
  functions_more (suc f) c p z k =
      let g : suc f - 1 ≡ f = omega arith in
      pick_true _ _ _ (eq-eqb c.kind at_sign k) ∙ ap (λ (m : ℕ). follow (function s c p) (functions s m)) (sym g)

  functions_off : (f : ℕ) (c : Cursor) (p : Draft) → (c.kind ≡ at_sign → ⊥) → functions s f c p ≡ on c p
  unfolding functions
  functions_off zero c p k = refl
  functions_off (suc f) c p k = pick_false _ _ _ (ne_eqb c.kind at_sign k)

  functions_none : (f : ℕ) (c : Cursor) (p : Draft) → f ≤ 0 → functions s f c p ≡ on c p
  unfolding functions
  functions_none zero c p k = refl
  functions_none (suc f) c p k = absurd (omega arith)

  module _ (w : Walk) (f : ℕ) (c : Cursor) (t n : List ℕ) (inv : functions s f c (draft t n) ≡ w) where
    pub functions_turn : (r : Step) (t₁ n₁ : List ℕ) (d : Cursor) → 0 < f → c.kind ≡ at_sign → AgreesWith (function s c (draft t n)) r t₁ n₁ → r ≡ On d
        → functions s (f - 1) d (draft t₁ n₁) ≡ w
    functions_turn r t₁ n₁ d z k a e =
        sym (functions_more f c (draft t n) z k ∙ follow_on _ d (draft t₁ n₁) (functions s (f - 1)) (went _ r t₁ n₁ d a e)) ∙ inv

    pub functions_stop : (r : Step) (t₁ n₁ t₂ n₂ : List ℕ) (q o : ℕ) → 0 < f → c.kind ≡ at_sign → AgreesWith (function s c (draft t n)) r t₁ n₁
        → r ≡ Stop q o → AgreesWith w r t₂ n₂
    functions_stop r t₁ n₁ t₂ n₂ q o z k a e =
        is_stop_lem w r t₂ n₂ q o
        (sym inv ∙ functions_more f c (draft t n) z k ∙ follow_stop _ q o (functions s (f - 1)) (halted _ r t₁ n₁ q o a e))
        e

    pub functions_end : (c.kind ≡ at_sign → ⊥) → AgreesWith w (On c) t n
    functions_end k = is_on w (On c) t n c (sym inv ∙ functions_off f c (draft t n) k) refl

    pub functions_out : f ≤ 0 → AgreesWith w (On c) t n
    functions_out k = is_on w (On c) t n c (sym inv ∙ functions_none f c (draft t n) k) refl
