-- Laws of statements and events where a cursor is a number. Assumes nothing.
use mathlib.Core.Path.{◌≡◌, sym, ap, subst, ◌∙◌}
use mathlib.Core.Bool.{Bool, true, false}
use mathlib.Core.List.{List, []}
use Prim.Native.Nat.{ℕ}
use Rattle.words.specs.Words.{value_arrow, asset_arrow, comma}
use Rattle.tokens.specs.Tokens.{between, name as nameKind}
use Rattle.contract.specs.Table.{value_move_kind, asset_move_kind, whole_move_kind}
use Rattle.entries.specs.declared.Known.{Known}
use Rattle.entries.specs.Draft.{Draft, note, counted, holder_in, value_target, asset_target, wanted, put, put_name}
use Rattle.reading_laws.specs.Walk.{Cursor, Step, AgreesWith, draft, next_of, unfit_at, sends, moves, moves_all, asset_move, is_alone, action, event}
use Rattle.cursors.specs.Packed.{kind_in, start_in, end_in, is_stop, cursor_in, step_in}
use Rattle.cursors.proofs.Tested.{as_on}
use Rattle.reading_laws.proofs.Blocks as blocks

-- ---- statements

module _ (s : List ℕ) where
  -- E -> t

  pub sends_unfit : (first c from k : ℕ) (p : Draft) (r : ℕ) (t n : List ℕ) → k ≡ kind_in c → (k ≡ nameKind → ⊥) → step_in s r ≡ unfit_at s (cursor_in s c)
      → AgreesWith (sends s (cursor_in s first) from (cursor_in s c) p) (step_in s r) t n
  unfolding cursor_in
  sends_unfit first c from k p r t n k-is f g =
      blocks.sends_unfit s (cursor_in s first) (cursor_in s c) from p (step_in s r) t n (λ z. f (k-is ∙ z)) g

  pub sends_on :
      (first c from : ℕ) (t n : List ℕ) (k u o : ℕ) (n₁ v w : List ℕ) (x : Known) (t₂ n₂ t₃ n₃ : List ℕ) (d : ℕ)
      → k ≡ kind_in c → k ≡ nameKind
      → u ≡ start_in first → n₁ ≡ counted 8 u n
      → v ≡ s → w ≡ between s (start_in c) (end_in c) → x ≡ value_target v n₁ w
      → o ≡ start_in c → draft t₂ n₂ ≡ put_name x o (draft t n₁)
      → draft t₃ n₃ ≡ put value_move_kind 0 from (draft t₂ n₂)
      → cursor_in s d ≡ next_of s (cursor_in s c) → is_stop d ≡ false
      → AgreesWith (sends s (cursor_in s first) from (cursor_in s c) (draft t n)) (step_in s d) t₃ n₃
  unfolding cursor_in
  sends_on first c from t n k u o n₁ v w x t₂ n₂ t₃ n₃ d k-is f u-is h₁ v-is w-is hx o_is a₂ a₃ next going =
      as_on s _ d t₃ n₃ going
      (blocks.sends_on s (cursor_in s first) (cursor_in s c) from t n n₁ x t₂ n₂ t₃ n₃ (cursor_in s d) (sym k-is ∙ f)
      (h₁ ∙ ap (λ (z : ℕ). counted 8 z n) u-is)
      (hx ∙ (λ i. value_target (v-is i) n₁ (w-is i)))
      (a₂ ∙ ap (λ (z : ℕ). put_name x z (draft t n₁)) o_is)
      a₃ next)

  -- E -o h, t

  pub moves_unfit : (h : Bool) (first source c from k : ℕ) (p : Draft) (r : ℕ) (t n : List ℕ) → k ≡ kind_in c → (k ≡ nameKind → ⊥)
      → step_in s r ≡ unfit_at s (cursor_in s c) → AgreesWith (moves s h (cursor_in s first) from (cursor_in s source) (cursor_in s c) p) (step_in s r) t n
  unfolding cursor_in
  moves_unfit h first source c from k p r t n k-is f g =
      blocks.moves_unfit s h (cursor_in s first) (cursor_in s source) (cursor_in s c) from p (step_in s r) t n (λ z. f (k-is ∙ z)) g

  pub moves_on :
      (h : Bool) (first source c from : ℕ) (t n : List ℕ) (k u o o' : ℕ) (n₁ v w v' w' : List ℕ) (x : Known) (t₂ n₂ : List ℕ) (y : Known) (t₃ n₃ t₄ n₄ : List ℕ) (d : ℕ)
      → k ≡ kind_in c → k ≡ nameKind
      → u ≡ start_in first → n₁ ≡ counted 8 u n
      → v ≡ s → w ≡ between s (start_in source) (end_in source) → x ≡ holder_in v n₁ h w
      → o ≡ start_in source → draft t₂ n₂ ≡ put_name x o (draft t n₁)
      → v' ≡ s → w' ≡ between s (start_in c) (end_in c) → y ≡ asset_target v' n₂ h w'
      → o' ≡ start_in c → draft t₃ n₃ ≡ put_name y o' (draft t₂ n₂)
      → draft t₄ n₄ ≡ put asset_move_kind 0 from (draft t₃ n₃)
      → cursor_in s d ≡ next_of s (cursor_in s c) → is_stop d ≡ false
      → AgreesWith (moves s h (cursor_in s first) from (cursor_in s source) (cursor_in s c) (draft t n)) (step_in s d) t₄ n₄
  unfolding cursor_in
  moves_on h first source c from t n k u o o' n₁ v w v' w' x t₂ n₂ y t₃ n₃ t₄ n₄ d k-is f u-is h₁ v-is w-is hx o_is a₂ v'-is w'-is hy o'-is a₃ a₄ next going =
      as_on s _ d t₄ n₄ going
      (blocks.moves_on s h (cursor_in s first) (cursor_in s source) (cursor_in s c) from t n n₁ x t₂ n₂ y t₃ n₃ t₄ n₄ (cursor_in s d) (sym k-is ∙ f)
      (h₁ ∙ ap (λ (z : ℕ). counted 8 z n) u-is)
      (hx ∙ (λ i. holder_in (v-is i) n₁ h (w-is i)))
      (a₂ ∙ ap (λ (z : ℕ). put_name x z (draft t n₁)) o_is)
      (hy ∙ (λ i. asset_target (v'-is i) n₂ h (w'-is i)))
      (a₃ ∙ ap (λ (z : ℕ). put_name y z (draft t₂ n₂)) o'-is)
      a₄ next)

  -- h -o t

  pub moved_all :
      (h : Bool) (first c from : ℕ) (t n : List ℕ) (v u o u' o' : ℕ) (n₁ n₂ z w z' w' : List ℕ) (x y : Known) (n₃ n₄ t₅ n₅ t₆ n₆ : List ℕ)
      → v ≡ note n 14
      → u ≡ start_in first → n₁ ≡ counted 8 u n
      → o ≡ start_in c → n₂ ≡ counted 9 o n₁
      → z ≡ s → w ≡ between s (start_in first) (end_in first) → x ≡ holder_in z n₂ h w
      → z' ≡ s → w' ≡ between s (start_in c) (end_in c) → y ≡ asset_target z' n₂ h w'
      → u' ≡ start_in first → n₃ ≡ wanted x u' n₂
      → o' ≡ start_in c → n₄ ≡ wanted y o' n₃
      → draft t₅ n₅ ≡ put y.kind y.number v (draft t n₄)
      → draft t₆ n₆ ≡ put whole_move_kind 0 from (draft t₅ n₅)
      → draft t₆ n₆ ≡ moves_all s h (cursor_in s first) from (cursor_in s c) (draft t n)
  unfolding cursor_in
  moved_all h first c from t n v u o u' o' n₁ n₂ z w z' w' x y n₃ n₄ t₅ n₅ t₆ n₆ hv u-is h₁ o_is h₂ z-is w-is hx z'-is w'-is hy u'-is h₃ o'-is h₄ a₅ a₆ =
      blocks.moved_all s h (cursor_in s first) (cursor_in s c) from t n v n₁ n₂ x y n₃ n₄ t₅ n₅ t₆ n₆ hv
      (h₁ ∙ ap (λ (z : ℕ). counted 8 z n) u-is)
      (h₂ ∙ ap (λ (z : ℕ). counted 9 z n₁) o_is)
      (hx ∙ (λ i. holder_in (z-is i) n₂ h (w-is i)))
      (hy ∙ (λ i. asset_target (z'-is i) n₂ h (w'-is i)))
      (h₃ ∙ ap (λ (z : ℕ). wanted x z n₂) u'-is)
      (h₄ ∙ ap (λ (z : ℕ). wanted y z n₃) o'-is)
      a₅ a₆

  -- after `-o`

  module _ (h : Bool) (first from : ℕ) (alone : Bool) (c : ℕ) (p : Draft) (k : ℕ) (k-is : k ≡ kind_in c) where
    pub asset_unfit : (r : ℕ) (t n : List ℕ) → (k ≡ nameKind → ⊥) → step_in s r ≡ unfit_at s (cursor_in s c)
        → AgreesWith (asset_move s h (cursor_in s first) from alone (cursor_in s c) p) (step_in s r) t n
    unfolding cursor_in
    asset_unfit r t n f g = blocks.asset_unfit s h (cursor_in s first) from alone (cursor_in s c) p (step_in s r) t n (λ z. f (k-is ∙ z)) g

    module _ (f : k ≡ nameKind) (d : ℕ) (next : cursor_in s d ≡ next_of s (cursor_in s c)) (l : ℕ) (l-is : l ≡ kind_in d) where
      pub asset_moves : (r : ℕ) (t n : List ℕ) (g : ℕ) → l ≡ comma → cursor_in s g ≡ next_of s (cursor_in s d)
          → AgreesWith (moves s h (cursor_in s first) from (cursor_in s c) (cursor_in s g) p) (step_in s r) t n
          → AgreesWith (asset_move s h (cursor_in s first) from alone (cursor_in s c) p) (step_in s r) t n
      unfolding cursor_in
      asset_moves r t n g m then a =
          blocks.asset_moves s h (cursor_in s first) from alone (cursor_in s c) p (cursor_in s d) (sym k-is ∙ f) next (step_in s r) t n (cursor_in s g)
          (sym l-is ∙ m) then a

      pub asset_all : (t n : List ℕ) → is_stop d ≡ false → (l ≡ comma → ⊥) → alone ≡ true
          → draft t n ≡ moves_all s h (cursor_in s first) from (cursor_in s c) p
          → AgreesWith (asset_move s h (cursor_in s first) from alone (cursor_in s c) p) (step_in s d) t n
      unfolding cursor_in
      asset_all t n going m o a =
          as_on s _ d t n going
          (blocks.asset_all s h (cursor_in s first) from alone (cursor_in s c) p (cursor_in s d) (sym k-is ∙ f) next t n (λ z. m (l-is ∙ z)) o a)

      pub asset_none : (r : ℕ) (t n : List ℕ) → (l ≡ comma → ⊥) → alone ≡ false → step_in s r ≡ unfit_at s (cursor_in s d)
          → AgreesWith (asset_move s h (cursor_in s first) from alone (cursor_in s c) p) (step_in s r) t n
      unfolding cursor_in
      asset_none r t n m o g =
          blocks.asset_none s h (cursor_in s first) from alone (cursor_in s c) p (cursor_in s d) (sym k-is ∙ f) next (step_in s r) t n
          (λ z. m (l-is ∙ z)) o g

  -- after an expression

  module _ (h : Bool) (first from c : ℕ) (p : Draft) (k : ℕ) (k-is : k ≡ kind_in c) where
    pub action_sends : (r : ℕ) (t n : List ℕ) (d : ℕ) → k ≡ value_arrow → cursor_in s d ≡ next_of s (cursor_in s c)
        → AgreesWith (sends s (cursor_in s first) from (cursor_in s d) p) (step_in s r) t n → AgreesWith (action s h (cursor_in s first) from (cursor_in s c) p) (step_in s r) t n
    unfolding cursor_in
    action_sends r t n d f next a =
        blocks.action_sends s h (cursor_in s first) from (cursor_in s c) p (step_in s r) t n (cursor_in s d) (sym k-is ∙ f) next a

    pub action_moves : (r : ℕ) (t n : List ℕ) (alone : Bool) (d : ℕ) → (k ≡ value_arrow → ⊥) → k ≡ asset_arrow
        → alone ≡ is_alone [] (cursor_in [] first) (cursor_in [] c) → cursor_in s d ≡ next_of s (cursor_in s c)
        → AgreesWith (asset_move s h (cursor_in s first) from alone (cursor_in s d) p) (step_in s r) t n → AgreesWith (action s h (cursor_in s first) from (cursor_in s c) p) (step_in s r) t n
    unfolding cursor_in
    action_moves r t n alone d f g o next a =
        blocks.action_moves s h (cursor_in s first) from (cursor_in s c) p (step_in s r) t n alone (cursor_in s d) (λ z. f (k-is ∙ z)) (sym k-is ∙ g) o
        next a

    pub action_unfit : (r : ℕ) (t n : List ℕ) → (k ≡ value_arrow → ⊥) → (k ≡ asset_arrow → ⊥) → step_in s r ≡ unfit_at s (cursor_in s c)
        → AgreesWith (action s h (cursor_in s first) from (cursor_in s c) p) (step_in s r) t n
    unfolding cursor_in
    action_unfit r t n f g e =
        blocks.action_unfit s h (cursor_in s first) from (cursor_in s c) p (step_in s r) t n (λ z. f (k-is ∙ z)) (λ z. g (k-is ∙ z)) e

  -- the event of a guard

  pub event_at : (first place before : ℕ) (c : Cursor) (p : Draft) (r : Step) (t n : List ℕ) → place ≡ start_in first
      → AgreesWith (event s place before c p) r t n → AgreesWith (event s (cursor_in s first).start before c p) r t n
  unfolding cursor_in
  event_at first place before c p r t n e h = subst (λ (x : ℕ). AgreesWith (event s x before c p) r t n) e h
