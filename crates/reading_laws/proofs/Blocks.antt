-- What the pass leaves of statements, one law for each way out of a function. Assumes nothing.
use mathlib.Core.Path.{◌≡◌, refl, sym, ap, subst, ◌∙◌}
use mathlib.Core.Bool.{Bool, true, false}
use mathlib.Core.Logic.{◌⊎◌, inl, inr, ⊎_elim}
use mathlib.Core.List.{List}
use Prim.Native.Nat.{ℕ, zero, suc, ◌-◌, ◌<◌, ◌≤◌}
use native.Mathlib.Omega.{arith}
use lib.ListN.{length}
use lib.Dec.{eqb}
use borrow.Author.Tests.{eqb-false, eq-eqb, ne_eqb}
use Rattle.laws.specs.Choice.{pick}
use Rattle.laws.proofs.Choice.{pick_true, pick_false, by_cases}
use Rattle.words.specs.Words.{value_arrow, asset_arrow, open_paren, close_paren, open_brace, close_brace, comma}
use Rattle.tokens.specs.Tokens.{between, name as nameKind}
use Rattle.contract.specs.Table.{value_move_kind, asset_move_kind, whole_move_kind, conditional_kind}
use Rattle.entries.specs.declared.Known.{Known}
use Rattle.entries.specs.Draft.{Draft, note, counted, holder_in, value_target, asset_target, wanted, put, put_name}
use Rattle.reading.specs.Grammar.{is_one_of, item_starts}
use Rattle.reading_laws.specs.Walk.{Walk, on, stop, AgreesWith, draft, follow, after, nodes, counting, cursor_at, next_of, token, closed_by, enclosed, expression, condition, sends, sourced, targeted, moves, moves_all, whole_notes, asset_move, is_alone, action, statement, statements, braces, conditional}
use Rattle.reading_laws.specs.Walk.{Cursor}
use Rattle.reading_laws.specs.Walk.{Step}
use Rattle.reading_laws.specs.Walk.{On, Stop}
use Rattle.reading_laws.proofs.AgreesWith.{went, halted, leaves_same, is_on, is_stop_lem, follow_on, follow_stop, after_on, after_stop, steps_on}

-- what goes on by the same pass
pub goes_on : (w : Walk) (c d : Cursor) (p : Draft) (t n : List ℕ) → w ≡ on c p → d ≡ c → draft t n ≡ p → AgreesWith w (On d) t n
goes_on w c d p t n e f g = is_on w (On d) t n d (e ∙ (λ i. on (sym f i) (sym g i))) refl

-- ---- tokens that may start a statement

starts : (k : ℕ) → ((k ≡ 20 → ⊥) → (k ≡ 200 → ⊥) → (k ≡ 201 → ⊥) → (k ≡ 202 → ⊥) → (k ≡ 4 → ⊥) → ⊥) → is_one_of item_starts k ≡ true
unfolding is_one_of
starts k h =
    by_cases (λ (b : Bool). b ≡ true) (eqb k 20) true _ (λ _. refl)
    (λ e1. by_cases (λ (b : Bool). b ≡ true) (eqb k 200) true _ (λ _. refl)
    (λ e2. by_cases (λ (b : Bool). b ≡ true) (eqb k 201) true _ (λ _. refl)
    (λ e3. by_cases (λ (b : Bool). b ≡ true) (eqb k 202) true _ (λ _. refl)
    (λ e4. by_cases (λ (b : Bool). b ≡ true) (eqb k 4) true _ (λ _. refl)
    (λ e5. absurd (h (eqb-false k 20 e1) (eqb-false k 200 e2) (eqb-false k 201 e3) (eqb-false k 202 e4) (eqb-false k 4 e5)))))))

starts_not : (k : ℕ) → (k ≡ 20 → ⊥) → (k ≡ 200 → ⊥) → (k ≡ 201 → ⊥) → (k ≡ 202 → ⊥) → (k ≡ 4 → ⊥) → is_one_of item_starts k ≡ false
unfolding is_one_of
starts_not k n1 n2 n3 n4 n5 =
    pick_false _ _ _ (ne_eqb k 20 n1) ∙ pick_false _ _ _ (ne_eqb k 200 n2) ∙ pick_false _ _ _ (ne_eqb k 201 n3) ∙ pick_false _ _ _ (ne_eqb k 202 n4)
    ∙ pick_false _ _ _ (ne_eqb k 4 n5)

pub starts_low : (k : ℕ) → k < 200 → ((k ≡ 4) ⊎ (k ≡ 20) → ⊥) → is_one_of item_starts k ≡ false
starts_low k h n =
    starts_not k (λ e. n (inr e)) (λ e. omega arith) (λ e. omega arith) (λ e. omega arith) (λ e. n (inl e))

pub starts_high : (k : ℕ) → 203 ≤ k → is_one_of item_starts k ≡ false
starts_high k h = starts_not k (λ e. omega arith) (λ e. omega arith) (λ e. omega arith) (λ e. omega arith) (λ e. omega arith)

pub starts_key : (k : ℕ) → (k ≡ 4) ⊎ (k ≡ 20) → is_one_of item_starts k ≡ true
starts_key k h = starts k (λ a b c d e. ⊎_elim e a h)

pub starts_range : (k : ℕ) → 200 ≤ k → k < 203 → is_one_of item_starts k ≡ true
starts_range k h l = starts k (λ a b c d e. omega arith)

module _ (s : List ℕ) where
  -- ---- E -> t

  pub sends_unfit :
      (first c : Cursor) (from : ℕ) (p : Draft) (r : Step) (t n : List ℕ)
      → (c.kind ≡ nameKind → ⊥)
      → r ≡ Stop c.question c.start
      → AgreesWith (sends s first from c p) r t n
  unfolding sends
  sends_unfit first c from p r t n h e = is_stop_lem _ r t n _ _ (pick_false _ _ _ (ne_eqb c.kind nameKind h)) e

  pub sends_on :
      (first c : Cursor) (from : ℕ) (t n n₁ : List ℕ) (x : Known) (t₂ n₂ t₃ n₃ : List ℕ) (d : Cursor)
      → c.kind ≡ nameKind
      → n₁ ≡ counted 8 first.start n
      → x ≡ value_target s n₁ (between s c.start c.end)
      → draft t₂ n₂ ≡ put_name x c.start (draft t n₁)
      → draft t₃ n₃ ≡ put value_move_kind 0 from (draft t₂ n₂)
      → d ≡ cursor_at s c.end
      → AgreesWith (sends s first from c (draft t n)) (On d) t₃ n₃
  unfolding sends
  sends_on first c from t n n₁ x t₂ n₂ t₃ n₃ d h h₁ hx a₂ a₃ e =
      let w = between s c.start c.end in
      let y : x ≡ value_target s (counted 8 first.start n) w = hx ∙ ap (λ (l : List ℕ). value_target s l w) h₁ in
      let g :
      draft t₃ n₃ ≡ put value_move_kind 0 from (put_name (value_target s (counted 8 first.start n) w) c.start (draft t (counted 8 first.start n))) =
      a₃ ∙ ap (put value_move_kind 0 from) (a₂ ∙ (λ i. put_name (y i) c.start (draft t (h₁ i)))) in
      goes_on _ _ d _ t₃ n₃ (pick_true _ _ _ (eq-eqb c.kind nameKind h)) e g

  -- ---- E -o h, t

  pub moves_unfit :
      (h : Bool) (first source c : Cursor) (from : ℕ) (p : Draft) (r : Step) (t n : List ℕ)
      → (c.kind ≡ nameKind → ⊥)
      → r ≡ Stop c.question c.start
      → AgreesWith (moves s h first from source c p) r t n
  unfolding moves
  moves_unfit h first source c from p r t n k e = is_stop_lem _ r t n _ _ (pick_false _ _ _ (ne_eqb c.kind nameKind k)) e

  pub moves_on :
      (h : Bool) (first source c : Cursor) (from : ℕ) (t n n₁ : List ℕ) (x : Known) (t₂ n₂ : List ℕ) (y : Known) (t₃ n₃ t₄ n₄ : List ℕ) (d : Cursor)
      → c.kind ≡ nameKind
      → n₁ ≡ counted 8 first.start n
      → x ≡ holder_in s n₁ h (between s source.start source.end)
      → draft t₂ n₂ ≡ put_name x source.start (draft t n₁)
      → y ≡ asset_target s n₂ h (between s c.start c.end)
      → draft t₃ n₃ ≡ put_name y c.start (draft t₂ n₂)
      → draft t₄ n₄ ≡ put asset_move_kind 0 from (draft t₃ n₃)
      → d ≡ cursor_at s c.end
      → AgreesWith (moves s h first from source c (draft t n)) (On d) t₄ n₄
  unfolding moves
  moves_on h first source c from t n n₁ x t₂ n₂ y t₃ n₃ t₄ n₄ d k h₁ hx a₂ hy a₃ a₄ e =
      let w = between s source.start source.end in
      let v = between s c.start c.end in
      let x₁ : x ≡ holder_in s (counted 8 first.start n) h w = hx ∙ ap (λ (l : List ℕ). holder_in s l h w) h₁ in
      let q : draft t₂ n₂ ≡ sourced s h first source (draft t n) =
      a₂ ∙ (λ i. put_name (x₁ i) source.start (draft t (h₁ i))) in
      let y₁ : y ≡ asset_target s (sourced s h first source (draft t n)).notes h v = hy ∙ ap (λ (p : Draft). asset_target s p.notes h v) q in
      let g : draft t₄ n₄ ≡ put asset_move_kind 0 from (targeted s h c (sourced s h first source (draft t n))) =
      a₄ ∙ ap (put asset_move_kind 0 from) (a₃ ∙ (λ i. put_name (y₁ i) c.start (q i))) in
      goes_on _ _ d _ t₄ n₄ (pick_true _ _ _ (eq-eqb c.kind nameKind k)) e g

  -- ---- h -o t

  pub moved_all :
      (h : Bool) (first c : Cursor) (from : ℕ) (t n : List ℕ) (b : ℕ) (n₁ n₂ : List ℕ) (x y : Known) (n₃ n₄ t₅ n₅ t₆ n₆ : List ℕ)
      → b ≡ note n 14
      → n₁ ≡ counted 8 first.start n
      → n₂ ≡ counted 9 c.start n₁
      → x ≡ holder_in s n₂ h (between s first.start first.end)
      → y ≡ asset_target s n₂ h (between s c.start c.end)
      → n₃ ≡ wanted x first.start n₂
      → n₄ ≡ wanted y c.start n₃
      → draft t₅ n₅ ≡ put y.kind y.number b (draft t n₄)
      → draft t₆ n₆ ≡ put whole_move_kind 0 from (draft t₅ n₅)
      → draft t₆ n₆ ≡ moves_all s h first from c (draft t n)
  unfolding moves_all
  moved_all h first c from t n b n₁ n₂ x y n₃ n₄ t₅ n₅ t₆ n₆ hb h₁ h₂ hx hy h₃ h₄ a₅ a₆ =
      let w = between s first.start first.end in
      let v = between s c.start c.end in
      let m : n₂ ≡ whole_notes s first c n = h₂ ∙ ap (counted 9 c.start) h₁ in
      let x₁ : x ≡ holder_in s (whole_notes s first c n) h w = hx ∙ ap (λ (l : List ℕ). holder_in s l h w) m in
      let y₁ : y ≡ asset_target s (whole_notes s first c n) h v = hy ∙ ap (λ (l : List ℕ). asset_target s l h v) m in
      let k₃ : n₃ ≡ wanted (holder_in s (whole_notes s first c n) h w) first.start (whole_notes s first c n) =
      h₃ ∙ (λ i. wanted (x₁ i) first.start (m i)) in
      let k₄ = h₄ ∙ (λ i. wanted (y₁ i) c.start (k₃ i)) in
      a₆ ∙ ap (put whole_move_kind 0 from) (a₅ ∙ (λ i. put (y₁ i).kind (y₁ i).number (hb i) (draft t (k₄ i))))

  -- ---- after `-o`

  module _ (h : Bool) (first : Cursor) (from : ℕ) (alone : Bool) (c : Cursor) (p : Draft) where
    pub asset_unfit : (r : Step) (t n : List ℕ) → (c.kind ≡ nameKind → ⊥) → r ≡ Stop c.question c.start
        → AgreesWith (asset_move s h first from alone c p) r t n
    unfolding asset_move
    asset_unfit r t n k e = is_stop_lem _ r t n _ _ (pick_false _ _ _ (ne_eqb c.kind nameKind k)) e

    module _ (d : Cursor) (k : c.kind ≡ nameKind) (e : d ≡ cursor_at s c.end) where
      pub asset_moves : (r : Step) (t n : List ℕ) (f : Cursor) → d.kind ≡ comma → f ≡ cursor_at s d.end → AgreesWith (moves s h first from c f p) r t n
          → AgreesWith (asset_move s h first from alone c p) r t n
      unfolding asset_move
      asset_moves r t n f l g a =
          leaves_same _ _ r t n
          (sym
          (pick_true _ _ _ (eq-eqb c.kind nameKind k)
          ∙ pick_true _ _ _ (eq-eqb (next_of s c).kind comma (ap (λ (z : Cursor). z.kind) (sym e) ∙ l))
          ∙ ap (λ (z : Cursor). moves s h first from c z p) (sym (g ∙ ap (λ (z : Cursor). next_of s z) e))))
          a

      asset_last : (d.kind ≡ comma → ⊥)
          → asset_move s h first from alone c p
          ≡ pick alone (on (next_of s c) (moves_all s h first from c p)) (stop (next_of s c).question (next_of s c).start)
      unfolding asset_move
      asset_last l =
          pick_true _ _ _ (eq-eqb c.kind nameKind k)
          ∙ pick_false _ _ _ (ne_eqb (next_of s c).kind comma (λ z. l (ap (λ (y : Cursor). y.kind) e ∙ z)))

      pub asset_all : (t n : List ℕ) → (d.kind ≡ comma → ⊥) → alone ≡ true
          → draft t n ≡ moves_all s h first from c p → AgreesWith (asset_move s h first from alone c p) (On d) t n
      asset_all t n l o a = goes_on _ _ d _ t n (asset_last l ∙ pick_true _ _ _ o) e a

      pub asset_none : (r : Step) (t n : List ℕ) → (d.kind ≡ comma → ⊥) → alone ≡ false → r ≡ Stop d.question d.start
          → AgreesWith (asset_move s h first from alone c p) r t n
      asset_none r t n l o g =
          is_stop_lem _ r t n _ _ (asset_last l ∙ pick_false _ _ _ o ∙ ap (λ (z : Cursor). stop z.question z.start) (sym e)) g

  -- ---- after an expression

  module _ (h : Bool) (first : Cursor) (from : ℕ) (c : Cursor) (p : Draft) where
    pub action_sends : (r : Step) (t n : List ℕ) (d : Cursor) → c.kind ≡ value_arrow → d ≡ cursor_at s c.end → AgreesWith (sends s first from d p) r t n
        → AgreesWith (action s h first from c p) r t n
    unfolding action
    action_sends r t n d k e a =
        leaves_same _ _ r t n
        (sym (pick_true _ _ _ (eq-eqb c.kind value_arrow k) ∙ ap (λ (z : Cursor). sends s first from z p) (sym e)))
        a

    pub action_moves : (r : Step) (t n : List ℕ) (alone : Bool) (d : Cursor) → (c.kind ≡ value_arrow → ⊥) → c.kind ≡ asset_arrow → alone ≡ is_alone s first c
        → d ≡ cursor_at s c.end → AgreesWith (asset_move s h first from alone d p) r t n → AgreesWith (action s h first from c p) r t n
    unfolding action
    action_moves r t n alone d k l o e a =
        leaves_same _ _ r t n
        (sym
        (pick_false _ _ _ (ne_eqb c.kind value_arrow k)
        ∙ pick_true _ _ _ (eq-eqb c.kind asset_arrow l)
        ∙ (λ i. asset_move s h first from (sym o i) (sym e i) p)))
        a

    pub action_unfit : (r : Step) (t n : List ℕ) → (c.kind ≡ value_arrow → ⊥) → (c.kind ≡ asset_arrow → ⊥) → r ≡ Stop c.question c.start
        → AgreesWith (action s h first from c p) r t n
    unfolding action
    action_unfit r t n k l e =
        is_stop_lem _ r t n _ _ (pick_false _ _ _ (ne_eqb c.kind value_arrow k) ∙ pick_false _ _ _ (ne_eqb c.kind asset_arrow l)) e

  -- ---- a statement

  module _ (h : Bool) (l : ℕ) (test : ℕ → Cursor → Draft → Walk) (from : ℕ) (c : Cursor) (t₀ n₀ : List ℕ) where
    pub statement_test : (r : Step) (t n : List ℕ) → c.kind ≡ open_paren → AgreesWith (test from c (draft t₀ n₀)) r t n
        → AgreesWith (statement s h l test from c (draft t₀ n₀)) r t n
    unfolding statement
    statement_test r t n k a = leaves_same _ _ r t n (sym (pick_true _ _ _ (eq-eqb c.kind open_paren k))) a

    module _ (n₁ : List ℕ) (k : c.kind ≡ open_paren → ⊥) (e : n₁ ≡ counted 9 c.start n₀) where
      reads : statement s h l test from c (draft t₀ n₀) ≡ follow (expression s h l c (draft t₀ n₁)) (action s h c from)
      unfolding statement
      reads =
          pick_false _ _ _ (ne_eqb c.kind open_paren k)
          ∙ ap (λ (m : List ℕ). follow (expression s h l c (draft t₀ m)) (action s h c from)) (sym e)

      pub statement_stops : (r : Step) (t₂ n₂ t n : List ℕ) (q o : ℕ) → AgreesWith (expression s h l c (draft t₀ n₁)) r t₂ n₂ → r ≡ Stop q o
          → AgreesWith (statement s h l test from c (draft t₀ n₀)) r t n
      statement_stops r t₂ n₂ t n q o a f = is_stop_lem _ r t n q o (reads ∙ follow_stop _ q o (action s h c from) (halted _ r t₂ n₂ q o a f)) f

      pub statement_acts : (r v : Step) (t₂ n₂ t n : List ℕ) (d : Cursor) → AgreesWith (expression s h l c (draft t₀ n₁)) r t₂ n₂ → r ≡ On d
          → AgreesWith (action s h c from d (draft t₂ n₂)) v t n → AgreesWith (statement s h l test from c (draft t₀ n₀)) v t n
      statement_acts r v t₂ n₂ t n d a f b =
          leaves_same _ _ v t n (sym (reads ∙ follow_on _ d (draft t₂ n₂) (action s h c from) (went _ r t₂ n₂ d a f))) b

  -- ---- the statements of a block

  module _ (h : Bool) (l : ℕ) (test : ℕ → Cursor → Draft → Walk) (from : ℕ) where
    block_more : (f : ℕ) (c : Cursor) (p : Draft) → 0 < f → is_one_of item_starts c.kind ≡ true
        → statements s h l test from f c p ≡ follow (statement s h l test from c p) (statements s h l test from (f - 1))
    unfolding statements
    block_more zero c p z k = absurd (omega arith)
    block_more (suc f) c p z k =
        let g : suc f - 1 ≡ f = omega arith in
        pick_true _ _ _ k ∙ ap (λ (m : ℕ). follow (statement s h l test from c p) (statements s h l test from m)) (sym g)

    block_off : (f : ℕ) (c : Cursor) (p : Draft) → is_one_of item_starts c.kind ≡ false → statements s h l test from f c p ≡ on c p
    unfolding statements
    block_off zero c p k = refl
    block_off (suc f) c p k = pick_false _ _ _ k

    block_none : (f : ℕ) (c : Cursor) (p : Draft) → f ≤ 0 → statements s h l test from f c p ≡ on c p
    unfolding statements
    block_none zero c p k = refl
    block_none (suc f) c p k = absurd (omega arith)

    module _ (w : Walk) (f : ℕ) (c : Cursor) (t n : List ℕ) (inv : statements s h l test from f c (draft t n) ≡ w) where
      pub block_turn : (r : Step) (t₁ n₁ : List ℕ) (d : Cursor) → 0 < f → is_one_of item_starts c.kind ≡ true
          → AgreesWith (statement s h l test from c (draft t n)) r t₁ n₁ → r ≡ On d → statements s h l test from (f - 1) d (draft t₁ n₁) ≡ w
      block_turn r t₁ n₁ d z k a e =
          sym (block_more f c (draft t n) z k ∙ follow_on _ d (draft t₁ n₁) (statements s h l test from (f - 1)) (went _ r t₁ n₁ d a e)) ∙ inv

      pub block_stops : (r : Step) (t₁ n₁ t₂ n₂ : List ℕ) (q o : ℕ) → 0 < f → is_one_of item_starts c.kind ≡ true
          → AgreesWith (statement s h l test from c (draft t n)) r t₁ n₁ → r ≡ Stop q o → AgreesWith w r t₂ n₂
      block_stops r t₁ n₁ t₂ n₂ q o z k a e =
          is_stop_lem w r t₂ n₂ q o
          (sym inv ∙ block_more f c (draft t n) z k ∙ follow_stop _ q o (statements s h l test from (f - 1)) (halted _ r t₁ n₁ q o a e))
          e

      pub block_ends : is_one_of item_starts c.kind ≡ false → AgreesWith w (On c) t n
      block_ends k = is_on w (On c) t n c (sym inv ∙ block_off f c (draft t n) k) refl

      pub block_out : f ≤ 0 → AgreesWith w (On c) t n
      block_out k = is_on w (On c) t n c (sym inv ∙ block_none f c (draft t n) k) refl

  -- ---- { S }

  module _ (h : Bool) (l : ℕ) (test : ℕ → Cursor → Draft → Walk) (c : Cursor) (t₀ n₀ : List ℕ) (from : ℕ) (a : Step) (k : from ≡ note n₀ 14) (e : a ≡ token s open_brace c) where
    abbrev inner : Cursor → Walk
    inner d = follow (statements s h l test (nodes (draft t₀ n₀)) (length s) d (draft t₀ n₀)) (λ e q. after (token s close_brace e) (λ f. on f q))

    pub braces_unfit : (t n : List ℕ) (q o : ℕ) → a ≡ Stop q o → AgreesWith (braces s h l test c (draft t₀ n₀)) a t n
    unfolding braces
    braces_unfit t n q o f = is_stop_lem _ a t n q o (after_stop _ q o inner (sym e ∙ f)) f

    module _ (d : Cursor) (g : a ≡ On d) (r : Step) (t n : List ℕ) (b : AgreesWith (statements s h l test from (length s) d (draft t₀ n₀)) r t n) where
      inside : AgreesWith (statements s h l test (note n₀ 14) (length s) d (draft t₀ n₀)) r t n
      inside = subst (λ (m : ℕ). AgreesWith (statements s h l test m (length s) d (draft t₀ n₀)) r t n) k b

      pub braces_stops : (t₁ n₁ : List ℕ) (q o : ℕ) → r ≡ Stop q o → AgreesWith (braces s h l test c (draft t₀ n₀)) r t₁ n₁
      unfolding braces
      braces_stops t₁ n₁ q o f =
          is_stop_lem _ r t₁ n₁ q o
          (after_on _ d inner (sym e ∙ g) ∙ follow_stop _ q o (λ e q. after (token s close_brace e) (λ f. on f q)) (halted _ r t n q o inside f))
          f

      pub braces_close : (f : Cursor) (v : Step) → r ≡ On f → v ≡ token s close_brace f → AgreesWith (braces s h l test c (draft t₀ n₀)) v t n
      unfolding braces
      braces_close f v y z =
          leaves_same _ _ v t n
          (sym (after_on _ d inner (sym e ∙ g) ∙ follow_on _ f (draft t n) (λ e q. after (token s close_brace e) (λ f. on f q)) (went _ r t n f inside y)))
          (steps_on (token s close_brace f) v t n z)

  -- ---- what stands in parentheses

  pub closed_by_lem : (w : Walk) (r a : Step) (t n : List ℕ) → AgreesWith w r t n → a ≡ closed_by s r → AgreesWith (enclosed s w) a t n
  unfolding closed_by AgreesWith
  closed_by_lem (on c p) r a t n h e =
      let f : a ≡ token s close_paren c = e ∙ ap (closed_by s) h.0 in
      leaves_same _ _ a t n
      (λ i. after (token s close_paren c) (λ d. on d (record { table = h.1.0 i; notes = h.1.1 i })))
      (steps_on (token s close_paren c) a t n f)
  closed_by_lem (stop q o) r a t n h e = e ∙ ap (closed_by s) h

  after_then : (a : Step) (p : Draft) (f : Cursor → Draft → Walk) → after a (λ d. f d p) ≡ follow (after a (λ d. on d p)) f
  after_then (On d) p f = refl
  after_then (Stop q o) p f = refl

  pub enclosed_then : (w : Walk) (f : Cursor → Draft → Walk)
      → follow w (λ d p. after (token s close_paren d) (λ e. f e p)) ≡ follow (enclosed s w) f
  enclosed_then (on c p) f = after_then (token s close_paren c) p f
  enclosed_then (stop q o) f = refl

  -- ---- (B) { S }

  pub conditional_deep : (h : Bool) (l from : ℕ) (c : Cursor) (p : Draft) (t n : List ℕ) → l ≡ 0
      → AgreesWith (conditional s h l from c p) (Stop 10 c.start) t n
  unfolding conditional
  conditional_deep h l from c p t n e =
      is_stop_lem _ _ t n 10 c.start (ap (λ (m : ℕ). conditional s h m from c p) e) refl

  abbrev blocked : Bool → ℕ → ℕ → Cursor → Draft → Walk
  blocked h m from f q =
      follow (braces s h m (conditional s h m) f q) (λ g t. on g (put conditional_kind (nodes t - nodes q) from t))

  opened : (h : Bool) (l from : ℕ) (c : Cursor) (p : Draft) → (l ≡ 0 → ⊥)
      → conditional s h l from c p
      ≡ after (token s open_paren c)
      (λ d. follow (enclosed s (condition s h (l - 1) d (counting 8 c.start (counting 9 c.start p)))) (blocked h (l - 1) from))
  unfolding conditional
  opened h zero from c p z = absurd (z refl)
  opened h (suc m) from c p z =
      let g : suc m - 1 ≡ m = omega arith in
      go (token s open_paren c)
      ∙ ap (λ (k : ℕ). after (token s open_paren c) (λ d. follow (enclosed s (condition s h k d (counting 8 c.start (counting 9 c.start p)))) (blocked h k from))) (sym g)
    where
      go : (a : Step)
          → after a
          (λ d. follow (condition s h m d (counting 8 c.start (counting 9 c.start p)))
          (λ e q. after (token s close_paren e) (λ f. blocked h m from f q)))
          ≡ after a (λ d. follow (enclosed s (condition s h m d (counting 8 c.start (counting 9 c.start p)))) (blocked h m from))
      go (On d) = enclosed_then (condition s h m d (counting 8 c.start (counting 9 c.start p))) (blocked h m from)
      go (Stop q o) = refl

  module _ (h : Bool) (l from : ℕ) (c : Cursor) (t₀ n₀ : List ℕ) (z : l ≡ 0 → ⊥) (a : Step) (e : a ≡ token s open_paren c) where
    abbrev test_of : List ℕ → Cursor → Walk
    test_of m d = follow (enclosed s (condition s h (l - 1) d (draft t₀ m))) (blocked h (l - 1) from)

    pub conditional_unfit : (t n : List ℕ) (q o : ℕ) → a ≡ Stop q o → AgreesWith (conditional s h l from c (draft t₀ n₀)) a t n
    conditional_unfit t n q o f =
        is_stop_lem _ a t n q o
        (opened h l from c (draft t₀ n₀) z ∙ after_stop _ q o (test_of (counted 8 c.start (counted 9 c.start n₀))) (sym e ∙ f))
        f

    module _ (d : Cursor) (g : a ≡ On d) (n₁ n₂ : List ℕ) (h₁ : n₁ ≡ counted 9 c.start n₀) (h₂ : n₂ ≡ counted 8 c.start n₁)
        (r b : Step) (t₃ n₃ : List ℕ) (k : AgreesWith (condition s h (l - 1) d (draft t₀ n₂)) r t₃ n₃) (y : b ≡ closed_by s r) where
      tested : conditional s h l from c (draft t₀ n₀) ≡ test_of n₂ d
      tested =
          opened h l from c (draft t₀ n₀) z
          ∙ after_on _ d (test_of (counted 8 c.start (counted 9 c.start n₀))) (sym e ∙ g)
          ∙ ap (λ (m : List ℕ). test_of m d) (sym (h₂ ∙ ap (counted 8 c.start) h₁))

      pub conditional_open : (t n : List ℕ) (q o : ℕ) → b ≡ Stop q o → AgreesWith (conditional s h l from c (draft t₀ n₀)) b t n
      conditional_open t n q o f =
          is_stop_lem _ b t n q o (tested ∙ follow_stop _ q o (blocked h (l - 1) from) (halted _ b t₃ n₃ q o (closed_by_lem _ r b t₃ n₃ k y) f)) f

      module _ (f : Cursor) (x : b ≡ On f) (v : Step) (t₄ n₄ : List ℕ) (u : AgreesWith (braces s h (l - 1) (conditional s h (l - 1)) f (draft t₃ n₃)) v t₄ n₄) where
        blocks : conditional s h l from c (draft t₀ n₀) ≡ blocked h (l - 1) from f (draft t₃ n₃)
        blocks = tested ∙ follow_on _ f (draft t₃ n₃) (blocked h (l - 1) from) (went _ b t₃ n₃ f (closed_by_lem _ r b t₃ n₃ k y) x)

        pub conditional_stops : (t n : List ℕ) (q o : ℕ) → v ≡ Stop q o → AgreesWith (conditional s h l from c (draft t₀ n₀)) v t n
        conditional_stops t n q o j =
            is_stop_lem _ v t n q o
            (blocks ∙ follow_stop _ q o (λ g t. on g (put conditional_kind (nodes t - nodes (draft t₃ n₃)) from t)) (halted _ v t₄ n₄ q o u j))
            j

        pub conditional_on : (i : Cursor) (before block : ℕ) (t₅ n₅ : List ℕ) → v ≡ On i → before ≡ note n₃ 14 → block ≡ note n₄ 14 - before
            → draft t₅ n₅ ≡ put conditional_kind block from (draft t₄ n₄)
            → AgreesWith (conditional s h l from c (draft t₀ n₀)) (On i) t₅ n₅
        conditional_on i before block t₅ n₅ j k₁ k₂ k₃ =
            goes_on _ i i _ t₅ n₅
            (blocks ∙ follow_on _ i (draft t₄ n₄) (λ g t. on g (put conditional_kind (nodes t - nodes (draft t₃ n₃)) from t)) (went _ v t₄ n₄ i u j))
            refl
            (k₃ ∙ ap (λ (m : ℕ). put conditional_kind m from (draft t₄ n₄)) (k₂ ∙ ap (λ (m : ℕ). note n₄ 14 - m) k₁))
