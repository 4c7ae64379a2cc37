-- Laws of expressions and conditions, with cursors and answers as numbers. Assumes nothing.
use mathlib.Core.Path.{◌≡◌, sym, ap, ◌∙◌}
use mathlib.Core.List.{List, []}
use mathlib.Core.Bool.{Bool, true, false}
use mathlib.Core.Logic.{◌⊎◌, ⊎_elim}
use native.Mathlib.Omega.{arith}
use Prim.Native.Nat.{ℕ, ◌-◌, ◌<◌}
use lib.ListN.{length}
use borrow.Author.Tests.{eq-eqb, ne_eqb}
use Rattle.laws.proofs.Choice.{pick_true, pick_false}
use Rattle.entries.specs.Draft.{Draft, note, counted, put, put_leaf}
use Rattle.reading.specs.Grammar.{is_one_of, operators, comparisons}
use Rattle.reading_laws.specs.Walk.{Walk, on, stop, AgreesWith, draft, operator_node, negations, next_of, unfit_at, leaf, factor, row_from, chain, inside_expression, expression, comparison, simple, primary, inside_condition}
use Rattle.reading_laws.specs.Walk.{Cursor}
use Rattle.expressions.specs.declared.terms.Nots.{Nots}
use Rattle.cursors.specs.Packed.{kind_in, start_in, is_stop, cursor_in, step_in}
use Rattle.expressions.specs.Private.{NotsAre, enclosed_at}
use Rattle.reading_laws.specs.Walk.{Stop}
use Rattle.cursors.proofs.Packs.{step_in_on, step_in_stop}
use Rattle.reading_laws.proofs.AgreesWith.{went, leaves_same, is_on, is_stop_lem, handed}
use Rattle.reading_laws.proofs.Blocks.{goes_on}
use Rattle.cursors.proofs.Tested.{as_on}
use Rattle.expressions.proofs.Ranks.{row_off, row_halt, row_turn, chain_halt, chain_more, chain_done, enclosed_shut, factor_encloses, simple_encloses, primary_halt, primary_done, compare_halt, compare_unfit, compare_stop, compare_done}

module _ (s : List ℕ) where
  -- ---- the parts of a cursor

  kind_is : (c k : ℕ) → k ≡ kind_in c → k ≡ (cursor_in s c).kind
  unfolding cursor_in
  kind_is c k e = e

  start_is : (c o : ℕ) → o ≡ start_in c → o ≡ (cursor_in s c).start
  unfolding cursor_in
  start_is c o e = e

  count_is : (c o : ℕ) (n m : List ℕ) → o ≡ start_in c → m ≡ counted 9 o n → m ≡ counted 9 (cursor_in s c).start n
  count_is c o n m h g = g ∙ ap (λ (x : ℕ). counted 9 x n) (start_is c o h)

  node_is : (c k m : ℕ) → k ≡ kind_in c → m ≡ operator_node k → m ≡ operator_node (cursor_in s c).kind
  node_is c k m h g = g ∙ ap operator_node (kind_is c k h)

  one_is : (l : List ℕ) (c k : ℕ) (b : Bool) → k ≡ kind_in c → is_one_of l k ≡ b → is_one_of l (cursor_in s c).kind ≡ b
  one_is l c k b h g = ap (is_one_of l) (sym (kind_is c k h)) ∙ g

  -- ---- an answer

  went_on : (w : Walk) (q : ℕ) (t n : List ℕ) → AgreesWith w (step_in s q) t n → is_stop q ≡ false → w ≡ on (cursor_in s q) (draft t n)
  went_on w q t n l e = went w (step_in s q) t n (cursor_in s q) l (step_in_on s q e)

  pub ends_on : (w : Walk) (q : ℕ) (t n : List ℕ) → w ≡ on (cursor_in s q) (draft t n) → is_stop q ≡ false → AgreesWith w (step_in s q) t n
  ends_on w q t n e g = is_on w (step_in s q) t n (cursor_in s q) e (step_in_on s q g)

  hands : (w v : Walk) (q : ℕ) (t n x y : List ℕ) → AgreesWith w (step_in s q) t n → is_stop q ≡ true
      → ((i o : ℕ) → w ≡ stop i o → v ≡ stop i o) → AgreesWith v (step_in s q) x y
  hands w v q t n x y l e f = handed w v (step_in s q) t n x y (kind_in q) (start_in q) l (step_in_stop s q e) (f (kind_in q) (start_in q))

  stops_at : (w : Walk) (a i o : ℕ) (t n : List ℕ) → w ≡ stop i o → step_in [] a ≡ Stop i o → is_stop a ≡ true → AgreesWith w (step_in s a) t n
  stops_at w a i o t n e g h = is_stop_lem w (step_in s a) t n i o e (step_in_stop s a h ∙ sym (step_in_stop [] a h) ∙ g)

  -- ---- operators of a rank

  module _ (r : ℕ) (op : Cursor → Draft → Walk) (b f c k : ℕ) (k-is : k ≡ kind_in c) where
    pub row_ends : (t n : List ℕ) → is_one_of (operators r) k ≡ false → is_stop c ≡ false
        → AgreesWith (row_from s r op b f (cursor_in s c) (draft t n)) (step_in s c) t n
    row_ends t n e g =
        ends_on (row_from s r op b f (cursor_in s c) (draft t n)) c t n
        (row_off s r op b f (cursor_in s c) (draft t n) (one_is (operators r) c k false k-is e)) g

    module _ (t n n₁ : List ℕ) (o d q : ℕ) (t₂ n₂ : List ℕ) (more : 0 < f) (is : is_one_of (operators r) k ≡ true)
        (o_is : o ≡ start_in c) (n-is : n₁ ≡ counted 9 o n) (d-is : cursor_in s d ≡ next_of s (cursor_in s c))
        (l : AgreesWith (op (cursor_in s d) (draft t n₁)) (step_in s q) t₂ n₂) where
      pub row_stops : (x y : List ℕ) → is_stop q ≡ true → AgreesWith (row_from s r op b f (cursor_in s c) (draft t n)) (step_in s q) x y
      row_stops x y h =
          hands (op (cursor_in s d) (draft t n₁)) (row_from s r op b f (cursor_in s c) (draft t n)) q t₂ n₂ x y l h
          (λ i j z.
          row_halt s r op b f (cursor_in s c) t n n₁ (cursor_in s d) i j more (one_is (operators r) c k true k-is is)
          (count_is c o n n₁ o_is n-is) d-is z)

      pub row_turns : (t₃ n₃ : List ℕ) (m : ℕ) → is_stop q ≡ false → m ≡ operator_node k
          → draft t₃ n₃ ≡ put m 0 b (draft t₂ n₂)
          → row_from s r op b (f - 1) (cursor_in s q) (draft t₃ n₃) ≡ row_from s r op b f (cursor_in s c) (draft t n)
      row_turns t₃ n₃ m g m-is put-is =
          row_turn s r op b f (cursor_in s c) t n n₁ (cursor_in s d) (cursor_in s q) t₂ n₂ t₃ n₃ m more (one_is (operators r) c k true k-is is)
          (count_is c o n n₁ o_is n-is) d-is (went_on (op (cursor_in s d) (draft t n₁)) q t₂ n₂ l g)
          (node_is c k m k-is m-is) put-is

  module _ (r : ℕ) (op : Cursor → Draft → Walk) (c : Cursor) (p : Draft) (q : ℕ) (t n : List ℕ) (l : AgreesWith (op c p) (step_in s q) t n) where
    pub chain_stops : (x y : List ℕ) → is_stop q ≡ true → AgreesWith (chain s r op c p) (step_in s q) x y
    chain_stops x y h = hands (op c p) (chain s r op c p) q t n x y l h (λ i j z. chain_halt s r op c p i j z)

    pub chain_rests : (b a : ℕ) (x y : List ℕ) → is_stop q ≡ false → b ≡ note p.notes 14
        → AgreesWith (row_from s r op b (length s) (cursor_in s q) (draft t n)) (step_in s a) x y → AgreesWith (chain s r op c p) (step_in s a) x y
    chain_rests b a x y g b-is h =
        leaves_same _ _ _ _ _ (chain_more s r op c p (cursor_in s q) (draft t n) b (went_on (op c p) q t n l g) b-is) h

    pub chain_ends : (k : ℕ) → is_stop q ≡ false → k ≡ kind_in q → is_one_of (operators r) k ≡ false → AgreesWith (chain s r op c p) (step_in s q) t n
    chain_ends k g k-is e =
        ends_on (chain s r op c p) q t n
        (chain_done s r op c p (cursor_in s q) (draft t n) (went_on (op c p) q t n l g) (one_is (operators r) q k false k-is e)) g

  -- ---- factors and conditions

  module _ (h : Bool) where
    module _ (lv c k : ℕ) (k-is : k ≡ kind_in c) where
      kind_not : (m : ℕ) → (k ≡ m → ⊥) → (cursor_in s c).kind ≡ m → ⊥
      kind_not m x e = x (kind_is c k k-is ∙ e)

      kind_yes : (m : ℕ) → k ≡ m → (cursor_in s c).kind ≡ m
      kind_yes m e = sym (kind_is c k k-is) ∙ e

      pub factor_leaf : (p : Draft) (a : ℕ) (t n : List ℕ) → (k ≡ 20 → ⊥) → AgreesWith (leaf s h (cursor_in s c) p) (step_in s a) t n
          → AgreesWith (factor s h (inside_expression s h lv) (cursor_in s c) p) (step_in s a) t n
      unfolding factor
      factor_leaf p a t n x l = leaves_same _ _ _ _ _ (sym (pick_false _ _ _ (ne_eqb _ _ (kind_not 20 x)))) l

      pub factor_opens : (p : Draft) (a : ℕ) (t n : List ℕ) → k ≡ 20 → AgreesWith (enclosed_at s h lv 2 (cursor_in s c) p) (step_in s a) t n
          → AgreesWith (factor s h (inside_expression s h lv) (cursor_in s c) p) (step_in s a) t n
      factor_opens p a t n e l = leaves_same _ _ _ _ _ (factor_encloses s h lv (cursor_in s c) p (kind_yes 20 e)) l

      pub simple_opens : (p : Draft) (a : ℕ) (t n : List ℕ) → k ≡ 20 → AgreesWith (enclosed_at s h lv 0 (cursor_in s c) p) (step_in s a) t n
          → AgreesWith (simple s h lv (inside_condition s h lv) (cursor_in s c) p) (step_in s a) t n
      simple_opens p a t n e l = leaves_same _ _ _ _ _ (simple_encloses s h lv (cursor_in s c) p (kind_yes 20 e)) l

      module _ (inside : ℕ → Cursor → Draft → Walk) where
        -- true or false, of node m
        word_is : (p : Draft) (m : ℕ) → ((k ≡ 5) × (m ≡ 12)) ⊎ ((k ≡ 6) × (m ≡ 13))
            → simple s h lv inside (cursor_in s c) p ≡ on (next_of s (cursor_in s c)) (put_leaf m 0 (cursor_in s c).start p)
        unfolding simple
        word_is p m w =
            ⊎_elim
            (λ l.
            pick_false _ _ _ (ne_eqb _ _ (kind_not 20 (λ e. omega (arith, e, l.0)))) ∙ pick_true _ _ _ (eq-eqb _ _ (kind_yes 5 l.0))
            ∙ ap (λ (j : ℕ). on (next_of s (cursor_in s c)) (put_leaf j 0 (cursor_in s c).start p)) (sym l.1))
            (λ l.
            pick_false _ _ _ (ne_eqb _ _ (kind_not 20 (λ e. omega (arith, e, l.0)))) ∙ pick_false _ _ _ (ne_eqb _ _ (kind_not 5 (λ e. omega (arith, e, l.0))))
            ∙ pick_true _ _ _ (eq-eqb _ _ (kind_yes 6 l.0))
            ∙ ap (λ (j : ℕ). on (next_of s (cursor_in s c)) (put_leaf j 0 (cursor_in s c).start p)) (sym l.1))
            w

        pub simple_words : (t n x y : List ℕ) (m o a : ℕ) → ((k ≡ 5) × (m ≡ 12)) ⊎ ((k ≡ 6) × (m ≡ 13)) → o ≡ start_in c
            → draft x y ≡ put_leaf m 0 o (draft t n) → cursor_in s a ≡ next_of s (cursor_in s c)
            → is_stop a ≡ false → AgreesWith (simple s h lv inside (cursor_in s c) (draft t n)) (step_in s a) x y
        simple_words t n x y m o a w o_is put-is a-is g =
            as_on s (simple s h lv inside (cursor_in s c) (draft t n)) a x y g
            (goes_on (simple s h lv inside (cursor_in s c) (draft t n)) (next_of s (cursor_in s c)) (cursor_in s a) (put_leaf m 0 (cursor_in s c).start (draft t n)) x y
            (word_is (draft t n) m w) a-is (put-is ∙ ap (λ (j : ℕ). put_leaf m 0 j (draft t n)) (start_is c o o_is)))

        pub simple_compares : (p : Draft) (a : ℕ) (t n : List ℕ) → (k ≡ 20 → ⊥) → (k ≡ 5 → ⊥) → (k ≡ 6 → ⊥)
            → AgreesWith (comparison s h lv (cursor_in s c) p) (step_in s a) t n → AgreesWith (simple s h lv inside (cursor_in s c) p) (step_in s a) t n
        unfolding simple
        simple_compares p a t n open-not x y l =
            leaves_same _ _ _ _ _
            (sym (pick_false _ _ _ (ne_eqb _ _ (kind_not 20 open-not)) ∙ pick_false _ _ _ (ne_eqb _ _ (kind_not 5 x))
            ∙ pick_false _ _ _ (ne_eqb _ _ (kind_not 6 y)))) l

    -- in parentheses where no level is left
    pub enclosed_stops : (lv r c : ℕ) (p : Draft) (o a : ℕ) (t n : List ℕ) → lv ≡ 0 → o ≡ start_in c → step_in [] a ≡ Stop 10 o → is_stop a ≡ true
        → AgreesWith (enclosed_at s h lv r (cursor_in s c) p) (step_in s a) t n
    enclosed_stops lv r c p o a t n z o_is g x =
        stops_at (enclosed_at s h lv r (cursor_in s c) p) a 10 o t n
        (enclosed_shut s h lv r (cursor_in s c) p z ∙ ap (stop 10) (sym (start_is c o o_is))) g x

    module _ (lv : ℕ) (inside : ℕ → Cursor → Draft → Walk) (c : Cursor) (t n n₁ : List ℕ) (r : Nots) (are : NotsAre s c n r n₁)
        (q : ℕ) (t₂ n₂ : List ℕ) (l : AgreesWith (simple s h lv inside (cursor_in s r.next) (draft t n₁)) (step_in s q) t₂ n₂) where
      pub primary_stops : (x y : List ℕ) → is_stop q ≡ true → AgreesWith (primary s h lv inside c (draft t n)) (step_in s q) x y
      primary_stops x y e =
          hands (simple s h lv inside (cursor_in s r.next) (draft t n₁)) (primary s h lv inside c (draft t n)) q t₂ n₂ x y l e
          (λ i j z. primary_halt s h lv inside c t n n₁ r are i j z)

      pub primary_ends : (b : ℕ) (t₃ n₃ : List ℕ) → is_stop q ≡ false → b ≡ note n 14 → draft t₃ n₃ ≡ negations r.many b (draft t₂ n₂)
          → AgreesWith (primary s h lv inside c (draft t n)) (step_in s q) t₃ n₃
      primary_ends b t₃ n₃ g b-is nots-is =
          ends_on (primary s h lv inside c (draft t n)) q t₃ n₃
          (primary_done s h lv inside c t n n₁ r are (cursor_in s q) t₂ n₂ b t₃ n₃
          (went_on (simple s h lv inside (cursor_in s r.next) (draft t n₁)) q t₂ n₂ l g) b-is nots-is) g

    module _ (lv : ℕ) (c : Cursor) (p : Draft) (q : ℕ) (t n : List ℕ) (l : AgreesWith (expression s h lv c p) (step_in s q) t n) where
      pub compare_stops : (x y : List ℕ) → is_stop q ≡ true → AgreesWith (comparison s h lv c p) (step_in s q) x y
      compare_stops x y e =
          hands (expression s h lv c p) (comparison s h lv c p) q t n x y l e (λ i j z. compare_halt s h lv c p i j z)

      module _ (g : is_stop q ≡ false) (k : ℕ) (k-is : k ≡ kind_in q) where
        pub compare_unfits : (a : ℕ) (x y : List ℕ) → is_one_of comparisons k ≡ false → step_in s a ≡ unfit_at s (cursor_in s q)
            → AgreesWith (comparison s h lv c p) (step_in s a) x y
        compare_unfits a x y e u =
            is_stop_lem (comparison s h lv c p) (step_in s a) x y (cursor_in s q).question (cursor_in s q).start
            (compare_unfit s h lv c p (cursor_in s q) t n (went_on (expression s h lv c p) q t n l g) (one_is comparisons q k false k-is e)) u

        module _ (is : is_one_of comparisons k ≡ true) (n₁ : List ℕ) (o : ℕ) (o_is : o ≡ start_in q) (n-is : n₁ ≡ counted 9 o n) (d : ℕ)
            (d-is : cursor_in s d ≡ next_of s (cursor_in s q)) (u : ℕ) (t₂ n₂ : List ℕ)
            (m : AgreesWith (expression s h lv (cursor_in s d) (draft t n₁)) (step_in s u) t₂ n₂) where
          pub compare_halts : (x y : List ℕ) → is_stop u ≡ true → AgreesWith (comparison s h lv c p) (step_in s u) x y
          compare_halts x y z =
              hands (expression s h lv (cursor_in s d) (draft t n₁)) (comparison s h lv c p) u t₂ n₂ x y m z
              (λ i j v.
              compare_stop s h lv c p (cursor_in s q) t n (went_on (expression s h lv c p) q t n l g) (one_is comparisons q k true k-is is) n₁
              (count_is q o n n₁ o_is n-is) (cursor_in s d) d-is i j v)

          pub compare_ends : (a b : ℕ) (t₃ n₃ : List ℕ) → is_stop u ≡ false → a ≡ operator_node k → b ≡ note p.notes 14
              → draft t₃ n₃ ≡ put a 0 b (draft t₂ n₂) → AgreesWith (comparison s h lv c p) (step_in s u) t₃ n₃
          compare_ends a b t₃ n₃ z a-is b-is put-is =
              ends_on (comparison s h lv c p) u t₃ n₃
              (compare_done s h lv c p (cursor_in s q) t n (went_on (expression s h lv c p) q t n l g) (one_is comparisons q k true k-is is) n₁
              (count_is q o n n₁ o_is n-is) (cursor_in s d) d-is (cursor_in s u) t₂ n₂ a b t₃ n₃
              (went_on (expression s h lv (cursor_in s d) (draft t n₁)) u t₂ n₂ m z) (node_is q k a k-is a-is) b-is put-is) z
