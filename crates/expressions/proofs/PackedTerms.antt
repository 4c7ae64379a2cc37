-- Leaves, and `~` in a row, with cursors and answers as numbers. Assumes nothing.
use mathlib.Core.Path.{◌≡◌, sym, ap, subst, ◌∙◌}
use mathlib.Core.Bool.{Bool, true, false}
use mathlib.Core.Logic.{◌⊎◌}
use mathlib.Core.List.{List}
use Prim.Native.Nat.{ℕ, ◌+◌, ◌-◌, ◌<◌, ◌≤◌}
use lib.ListN.{length}
use lib.Dec.{eqb}
use borrow.Author.Tests.{eq-eqb, ne_eqb}
use Rattle.laws.proofs.Choice.{pick_true, pick_false}
use Rattle.words.specs.Words.{now_word, not_mark}
use Rattle.tokens.specs.Tokens.{between, name as nameKind, number as numberKind, string as string_kind}
use Rattle.contract.specs.Table.{constant_kind, string_kind as stringNode, now_kind}
use Rattle.entries.specs.declared.Known.{Known}
use Rattle.entries.specs.Draft.{note, counted, mention, number_in, name_in, put, put_name, put_leaf}
use Rattle.reading_laws.specs.Walk.{AgreesWith, draft, next_of, unfit_at, string_leaf, leaf}
use Rattle.cursors.specs.Packed.{kind_in, start_in, end_in, is_stop, digits_at, cursor_in, step_in}
use Rattle.cursors.proofs.Tested.{as_on}
use Rattle.reading_laws.proofs.AgreesWith.{is_stop_lem}
use Rattle.reading_laws.proofs.Blocks.{goes_on}
use Rattle.reading_laws.proofs.Operators.{inner, stringed, NotsLeft, nots_turn}

-- ---- strings

-- a string's inside from its start and end
abbrev pub Inside : ℕ → ℕ → ℕ → ℕ → Type 0
Inside a₀ e₀ a e = ((a₀ < e₀) × (a ≡ a₀ + 1) × (e ≡ e₀ - 1)) ⊎ ((e₀ ≤ a₀) × (a ≡ a₀) × (e ≡ e₀))

pub string_written : (s : List ℕ) (c : ℕ) (t n : List ℕ) (a₀ e₀ o a e : ℕ) → a₀ ≡ start_in c → e₀ ≡ end_in c → o ≡ start_in c → Inside a₀ e₀ a e
    → (n1 : List ℕ) → n1 ≡ counted 9 o n
    → (x : ℕ) (t2 n2 : List ℕ) → x ≡ number_in s n1 6 (between s a e) → draft t2 n2 ≡ mention s 6 a e o (draft t n1)
    → (b : ℕ) → b ≡ note n2 14
    → (t3 n3 : List ℕ) → draft t3 n3 ≡ put stringNode x b (draft t2 n2) → draft t3 n3 ≡ string_leaf s (cursor_in s c) (draft t n)
unfolding cursor_in
string_written s c t n a₀ e₀ o a e a-is e-is o_is way n1 h1 x t2 n2 hx h2 b hb t3 n3 h3 =
    let way₁ : Inside (start_in c) (end_in c) a e = subst (λ (z : ℕ). Inside z (end_in c) a e) a-is (subst (λ (z : ℕ). Inside a₀ z a e) e-is way) in
    stringed s (cursor_in s c) t n a e (inner s (cursor_in s c) a e way₁)
    n1 (h1 ∙ ap (λ (z : ℕ). counted 9 z n) o_is)
    x t2 n2 hx
    (h2 ∙ ap (λ (z : ℕ). mention s 6 a e z (draft t n1)) o_is)
    b hb t3 n3 h3

-- ---- leaves

module _ (s : List ℕ) (h : Bool) (c k : ℕ) (t n : List ℕ) (k-is : k ≡ kind_in c) where
  kind_is : (j : ℕ) → k ≡ j → eqb (kind_in c) j ≡ true
  kind_is j e = eq-eqb (kind_in c) j (sym k-is ∙ e)

  kind_not : (j : ℕ) → (k ≡ j → ⊥) → eqb (kind_in c) j ≡ false
  kind_not j f = ne_eqb (kind_in c) j (λ z. f (k-is ∙ z))

  pub leaf_unfit : (r : ℕ) (t' n' : List ℕ) → (k ≡ nameKind → ⊥) → (k ≡ numberKind → ⊥) → (k ≡ string_kind → ⊥) → (k ≡ now_word → ⊥)
      → step_in s r ≡ unfit_at s (cursor_in s c) → AgreesWith (leaf s h (cursor_in s c) (draft t n)) (step_in s r) t' n'
  unfolding leaf cursor_in
  leaf_unfit r t' n' f1 f2 f3 f4 g =
      is_stop_lem _ (step_in s r) t' n' _ _
      (pick_false _ _ _ (kind_not nameKind f1) ∙ pick_false _ _ _ (kind_not numberKind f2) ∙ pick_false _ _ _ (kind_not string_kind f3) ∙ pick_false _ _ _ (kind_not now_word f4))
      g

  module _ (d : ℕ) (next : cursor_in s d ≡ next_of s (cursor_in s c)) (going : is_stop d ≡ false) (t' n' : List ℕ) where
    pub leaf_name : (o : ℕ) (x : Known) → k ≡ nameKind → o ≡ start_in c → x ≡ name_in s n h (between s (start_in c) (end_in c))
        → draft t' n' ≡ put_name x o (draft t n) → AgreesWith (leaf s h (cursor_in s c) (draft t n)) (step_in s d) t' n'
    unfolding leaf cursor_in
    leaf_name o x f o_is y g =
        as_on s _ d t' n' going
        (goes_on _ _ (cursor_in s d) _ t' n' (pick_true _ _ _ (kind_is nameKind f)) next (g ∙ (λ i. put_name (y i) (o_is i) (draft t n))))

    pub leaf_number : (a v o : ℕ) → (k ≡ nameKind → ⊥) → k ≡ numberKind → a ≡ start_in c → v ≡ digits_at s a → o ≡ start_in c
        → draft t' n' ≡ put_leaf constant_kind v o (draft t n)
        → AgreesWith (leaf s h (cursor_in s c) (draft t n)) (step_in s d) t' n'
    unfolding leaf cursor_in
    leaf_number a v o f1 f a-is v-is o_is g =
        let y : v ≡ (cursor_in s c).value = v-is ∙ ap (digits_at s) a-is ∙ sym (pick_true _ _ _ (kind_is numberKind f)) in
        as_on s _ d t' n' going
        (goes_on _ _ (cursor_in s d) _ t' n' (pick_false _ _ _ (kind_not nameKind f1) ∙ pick_true _ _ _ (kind_is numberKind f)) next
        (g ∙ (λ i. put_leaf constant_kind (y i) (o_is i) (draft t n))))

    pub leaf_string : (k ≡ nameKind → ⊥) → (k ≡ numberKind → ⊥) → k ≡ string_kind
        → draft t' n' ≡ string_leaf s (cursor_in s c) (draft t n)
        → AgreesWith (leaf s h (cursor_in s c) (draft t n)) (step_in s d) t' n'
    unfolding leaf cursor_in
    leaf_string f1 f2 f g =
        as_on s _ d t' n' going
        (goes_on _ _ (cursor_in s d) _ t' n'
        (pick_false _ _ _ (kind_not nameKind f1) ∙ pick_false _ _ _ (kind_not numberKind f2) ∙ pick_true _ _ _ (kind_is string_kind f))
        next g)

    pub leaf_now : (o : ℕ) → (k ≡ nameKind → ⊥) → (k ≡ numberKind → ⊥) → (k ≡ string_kind → ⊥) → k ≡ now_word → o ≡ start_in c
        → draft t' n' ≡ put_leaf now_kind 0 o (draft t n)
        → AgreesWith (leaf s h (cursor_in s c) (draft t n)) (step_in s d) t' n'
    unfolding leaf cursor_in
    leaf_now o f1 f2 f3 f o_is g =
        as_on s _ d t' n' going
        (goes_on _ _ (cursor_in s d) _ t' n'
        (pick_false _ _ _ (kind_not nameKind f1) ∙ pick_false _ _ _ (kind_not numberKind f2) ∙ pick_false _ _ _ (kind_not string_kind f3) ∙ pick_true _ _ _ (kind_is now_word f))
        next (g ∙ (λ i. put_leaf now_kind 0 (o_is i) (draft t n))))

-- ---- `~` in a row

module _ (s n₀ : List ℕ) (c₀ : ℕ) (n : List ℕ) (c m : ℕ) (left : NotsLeft s n₀ (cursor_in s c₀) n (cursor_in s c) m) where
  pub another : (k o : ℕ) → m < length s → k ≡ kind_in c → k ≡ not_mark → o ≡ start_in c → (n' : List ℕ) → n' ≡ counted 9 o n
      → (d : ℕ) → cursor_in s d ≡ next_of s (cursor_in s c) → NotsLeft s n₀ (cursor_in s c₀) n' (cursor_in s d) (m + 1)
  unfolding cursor_in
  another k o h k-is f o_is n' hn d next =
      nots_turn s n₀ (cursor_in s c₀) n (cursor_in s c) m left h (sym k-is ∙ f) n' (hn ∙ ap (λ (z : ℕ). counted 9 z n) o_is) (cursor_in s d) next
