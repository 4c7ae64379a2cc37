-- Laws of expressions and conditions: chains of operators, factors, comparisons and what is in parentheses. Assumes nothing.
use mathlib.Core.Path.{◌≡◌, refl, sym, ap, ◌∙◌}
use mathlib.Core.List.{List}
use mathlib.Core.Bool.{Bool, true, false}
use Prim.Native.Nat.{ℕ, zero, suc, ◌-◌, ◌<◌, ◌≤◌}
use native.Mathlib.Omega.{arith}
use lib.ListN.{length}
use borrow.Author.Tests.{eq-eqb}
use Rattle.laws.specs.Choice.{pick}
use Rattle.laws.proofs.Choice.{pick_true, pick_false}
use Rattle.entries.specs.Draft.{Draft, note, counted, put}
use Rattle.reading.specs.Grammar.{is_one_of, operators, comparisons}
use Rattle.reading_laws.specs.Walk.{Walk, on, stop, AgreesWith, draft, follow, after, counting, nodes, operator_node, negations, next_of, token, closed_by, enclosed, factor, row_from, chain, inside_expression, expression, comparison, simple, primary, inside_condition, operand_at}
use Rattle.reading_laws.specs.Walk.{Cursor}
use Rattle.expressions.specs.declared.terms.Nots.{Nots}
use Rattle.cursors.specs.Packed.{cursor_in}
use Rattle.expressions.specs.Private.{NotsAre, chain_at, enclosed_at}
use Rattle.reading_laws.specs.Walk.{Step}
use Rattle.reading_laws.specs.Walk.{On, Stop}
use Rattle.reading_laws.proofs.AgreesWith.{leaves_same}

-- the place of a rank's operands in the order of calls at one level
unfoldable pub weight : ℕ → ℕ
weight zero = 16
weight (suc zero) = 12
weight (suc (suc zero)) = 5
weight (suc (suc (suc r))) = 2

pub weight_zero : (r : ℕ) → r ≡ 0 → weight r ≡ 16
unfolding weight
weight_zero r e = ap weight e

pub weight_one : (r : ℕ) → r ≡ 1 → weight r ≡ 12
unfolding weight
weight_one r e = ap weight e

pub weight_two : (r : ℕ) → r ≡ 2 → weight r ≡ 5
unfolding weight
weight_two r e = ap weight e

pub weight_three : (r : ℕ) → r ≡ 3 → weight r ≡ 2
unfolding weight
weight_three r e = ap weight e

pub weight_low : (r : ℕ) → 2 ≤ weight r
unfolding weight
weight_low zero = omega arith
weight_low (suc zero) = omega arith
weight_low (suc (suc zero)) = omega arith
weight_low (suc (suc (suc r))) = omega arith

pub weight_high : (r : ℕ) → weight r ≤ 16
unfolding weight
weight_high zero = omega arith
weight_high (suc zero) = omega arith
weight_high (suc (suc zero)) = omega arith
weight_high (suc (suc (suc r))) = omega arith

-- ---- a step where a cursor and a pass are

pub steps_leave : (x a : Step) (p : Draft) (t n : List ℕ) → a ≡ x → t ≡ p.table → n ≡ p.notes → AgreesWith (after x (λ d. on d p)) a t n
unfolding AgreesWith
steps_leave (On d) a p t n e f g = (e, (f, g))
steps_leave (Stop q o) a p t n e f g = e

pub enclosed_leaves : (s : List ℕ) (w : Walk) (r a : Step) (t n : List ℕ) → AgreesWith w r t n → a ≡ closed_by s r → AgreesWith (enclosed s w) a t n
unfolding AgreesWith closed_by
enclosed_leaves s (on c p) r a t n h e = steps_leave (token s 21 c) a p t n (e ∙ ap (closed_by s) h.0) h.1.0 h.1.1
enclosed_leaves s (stop q o) r a t n h e = e ∙ ap (closed_by s) h

-- ---- operators of a rank

module _ (s : List ℕ) (r : ℕ) (op : Cursor → Draft → Walk) (b : ℕ) where
  pub row_off : (f : ℕ) (c : Cursor) (p : Draft) → is_one_of (operators r) c.kind ≡ false → row_from s r op b f c p ≡ on c p
  unfolding row_from
  row_off zero c p e = refl
  row_off (suc f) c p e = pick_false _ _ _ e

  pub row_none : (f : ℕ) (c : Cursor) (p : Draft) → f ≤ 0 → row_from s r op b f c p ≡ on c p
  unfolding row_from
  row_none zero c p h = refl
  row_none (suc f) c p h = absurd (omega arith)

  pub row_halt : (f : ℕ) (c : Cursor) (t n n₁ : List ℕ) (d : Cursor) (q o : ℕ) → 0 < f → is_one_of (operators r) c.kind ≡ true
      → n₁ ≡ counted 9 c.start n → d ≡ next_of s c → op d (draft t n₁) ≡ stop q o → row_from s r op b f c (draft t n) ≡ stop q o
  unfolding row_from
  row_halt zero c t n n₁ d q o h e n-is d-is g = absurd (omega arith)
  row_halt (suc f) c t n n₁ d q o h e n-is d-is g =
      let k : op (next_of s c) (counting 9 c.start (draft t n)) ≡ stop q o = (λ i. op (sym d-is i) (draft t (sym n-is i))) ∙ g in
      pick_true _ _ _ e ∙ ap (λ (w : Walk). follow w (λ d q. row_from s r op b f d (put (operator_node c.kind) 0 b q))) k

  pub row_turn : (f : ℕ) (c : Cursor) (t n n₁ : List ℕ) (d e : Cursor) (t₂ n₂ t₃ n₃ : List ℕ) (k : ℕ) → 0 < f → is_one_of (operators r) c.kind ≡ true
      → n₁ ≡ counted 9 c.start n → d ≡ next_of s c → op d (draft t n₁) ≡ on e (draft t₂ n₂) → k ≡ operator_node c.kind
      → draft t₃ n₃ ≡ put k 0 b (draft t₂ n₂)
      → row_from s r op b (f - 1) e (draft t₃ n₃) ≡ row_from s r op b f c (draft t n)
  unfolding row_from
  row_turn zero c t n n₁ d e t₂ n₂ t₃ n₃ k h x n-is d-is g k-is put-is = absurd (omega arith)
  row_turn (suc f) c t n n₁ d e t₂ n₂ t₃ n₃ k h x n-is d-is g k-is put-is =
      let y : op (next_of s c) (counting 9 c.start (draft t n)) ≡ on e (draft t₂ n₂) = (λ i. op (sym d-is i) (draft t (sym n-is i))) ∙ g in
      let z : draft t₃ n₃ ≡ put (operator_node c.kind) 0 b (draft t₂ n₂) =
      put-is ∙ ap (λ (j : ℕ). put j 0 b (draft t₂ n₂)) k-is in
      let f-is : suc f - 1 ≡ f = omega arith in
      (λ i. row_from s r op b (f-is i) e (z i))
      ∙ sym (pick_true _ _ _ x ∙ ap (λ (w : Walk). follow w (λ d q. row_from s r op b f d (put (operator_node c.kind) 0 b q))) y)

module _ (s : List ℕ) (r : ℕ) (op : Cursor → Draft → Walk) (c : Cursor) (p : Draft) where
  pub chain_halt : (q o : ℕ) → op c p ≡ stop q o → chain s r op c p ≡ stop q o
  unfolding chain
  chain_halt q o e = ap (λ (w : Walk). follow w (row_from s r op (nodes p) (length s))) e

  pub chain_more : (d : Cursor) (q : Draft) (b : ℕ) → op c p ≡ on d q → b ≡ nodes p → row_from s r op b (length s) d q ≡ chain s r op c p
  unfolding chain
  chain_more d q b e f =
      ap (λ (x : ℕ). row_from s r op x (length s) d q) f ∙ sym (ap (λ (w : Walk). follow w (row_from s r op (nodes p) (length s))) e)

  pub chain_done : (d : Cursor) (q : Draft) → op c p ≡ on d q → is_one_of (operators r) d.kind ≡ false → chain s r op c p ≡ on d q
  chain_done d q e f = sym (chain_more d q (nodes p) e refl) ∙ row_off s r op (nodes p) (length s) d q f

-- ---- in parentheses

module _ (s : List ℕ) (h : Bool) where
  pub enclosed_shut : (n r : ℕ) (c : Cursor) (p : Draft) → n ≡ 0 → enclosed_at s h n r c p ≡ stop 10 c.start
  unfolding enclosed_at
  enclosed_shut n r c p z = ap (λ (x : ℕ). enclosed_at s h x r c p) z

  pub enclosed_open : (n r : ℕ) (c d : Cursor) (p : Draft) (x a : Step) (t m : List ℕ) → (n ≡ 0 → ⊥) → d ≡ next_of s c
      → AgreesWith (chain_at s h (n - 1) r d p) x t m → a ≡ closed_by s x → AgreesWith (enclosed_at s h n r c p) a t m
  unfolding enclosed_at
  enclosed_open zero r c d p x a t m z d-is l e = absurd (z refl)
  enclosed_open (suc n) r c d p x a t m z d-is l e =
      let n-is : suc n - 1 ≡ n = omega arith in
      enclosed_leaves s (chain_at s h n r (next_of s c) p) x a t m (leaves_same _ _ _ _ _ (λ i. chain_at s h (n-is i) r (d-is i) p) l) e

  pub factor_encloses : (n : ℕ) (c : Cursor) (p : Draft) → c.kind ≡ 20 → enclosed_at s h n 2 c p ≡ factor s h (inside_expression s h n) c p
  unfolding factor inside_expression operand_at enclosed_at
  factor_encloses zero c p k = sym (pick_true _ _ _ (eq-eqb _ _ k))
  factor_encloses (suc n) c p k = sym (pick_true _ _ _ (eq-eqb _ _ k))

  pub simple_encloses : (n : ℕ) (c : Cursor) (p : Draft) → c.kind ≡ 20 → enclosed_at s h n 0 c p ≡ simple s h n (inside_condition s h n) c p
  unfolding simple inside_condition operand_at enclosed_at
  simple_encloses zero c p k = sym (pick_true _ _ _ (eq-eqb _ _ k))
  simple_encloses (suc n) c p k = sym (pick_true _ _ _ (eq-eqb _ _ k))

  -- ---- conditions

  module _ (lv : ℕ) (inside : ℕ → Cursor → Draft → Walk) (c : Cursor) (t n n₁ : List ℕ) (r : Nots) (are : NotsAre s c n r n₁) where
    primary_is : primary s h lv inside c (draft t n)
        ≡ follow (simple s h lv inside (cursor_in s r.next) (draft t n₁)) (λ e u. on e (negations r.many (note n 14) u))
    unfolding primary
    primary_is = are.same t (λ m d q. follow (simple s h lv inside d q) (λ e u. on e (negations m (note n 14) u)))

    pub primary_halt : (q o : ℕ) → simple s h lv inside (cursor_in s r.next) (draft t n₁) ≡ stop q o → primary s h lv inside c (draft t n) ≡ stop q o
    primary_halt q o e = primary_is ∙ ap (λ (w : Walk). follow w (λ e u. on e (negations r.many (note n 14) u))) e

    pub primary_done : (e : Cursor) (t₂ n₂ : List ℕ) (b : ℕ) (t₃ n₃ : List ℕ) → simple s h lv inside (cursor_in s r.next) (draft t n₁) ≡ on e (draft t₂ n₂)
        → b ≡ note n 14 → draft t₃ n₃ ≡ negations r.many b (draft t₂ n₂)
        → primary s h lv inside c (draft t n) ≡ on e (draft t₃ n₃)
    primary_done e t₂ n₂ b t₃ n₃ g b-is nots-is =
        let z : draft t₃ n₃ ≡ negations r.many (note n 14) (draft t₂ n₂) =
        nots-is ∙ ap (λ (x : ℕ). negations r.many x (draft t₂ n₂)) b-is in
        primary_is ∙ ap (λ (w : Walk). follow w (λ e u. on e (negations r.many (note n 14) u))) g ∙ sym (ap (on e) z)

  module _ (lv : ℕ) (c : Cursor) (p : Draft) where
    pub compare_halt : (q o : ℕ) → expression s h lv c p ≡ stop q o → comparison s h lv c p ≡ stop q o
    unfolding comparison
    compare_halt q o e = rw e

    module _ (d : Cursor) (t n : List ℕ) (first : expression s h lv c p ≡ on d (draft t n)) where
      pub compare_unfit : is_one_of comparisons d.kind ≡ false → comparison s h lv c p ≡ stop d.question d.start
      unfolding comparison
      compare_unfit e = rw first (pick_false _ _ _ e)

      module _ (is : is_one_of comparisons d.kind ≡ true) (n₁ : List ℕ) (n-is : n₁ ≡ counted 9 d.start n) (d₁ : Cursor) (d-is : d₁ ≡ next_of s d) where
        pub compare_stop : (q o : ℕ) → expression s h lv d₁ (draft t n₁) ≡ stop q o → comparison s h lv c p ≡ stop q o
        unfolding comparison pick
        compare_stop q o g =
            let k : expression s h lv (next_of s d) (counting 9 d.start (draft t n)) ≡ stop q o = (λ i. expression s h lv (sym d-is i) (draft t (sym n-is i))) ∙ g in
            rw (first, is, k)

        pub compare_done : (e : Cursor) (t₂ n₂ : List ℕ) (k b : ℕ) (t₃ n₃ : List ℕ) → expression s h lv d₁ (draft t n₁) ≡ on e (draft t₂ n₂)
            → k ≡ operator_node d.kind → b ≡ nodes p → draft t₃ n₃ ≡ put k 0 b (draft t₂ n₂)
            → comparison s h lv c p ≡ on e (draft t₃ n₃)
        unfolding comparison pick
        compare_done e t₂ n₂ k b t₃ n₃ g k-is b-is put-is =
            let y : expression s h lv (next_of s d) (counting 9 d.start (draft t n)) ≡ on e (draft t₂ n₂) = (λ i. expression s h lv (sym d-is i) (draft t (sym n-is i))) ∙ g in
            let z : draft t₃ n₃ ≡ put (operator_node d.kind) 0 (nodes p) (draft t₂ n₂) =
            put-is ∙ (λ i. put (k-is i) 0 (b-is i) (draft t₂ n₂)) in
            let all : comparison s h lv c p ≡ on e (put (operator_node d.kind) 0 (nodes p) (draft t₂ n₂)) = rw (first, is, y) in
            all ∙ sym (ap (on e) z)
