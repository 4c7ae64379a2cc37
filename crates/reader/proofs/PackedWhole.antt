-- Laws of the parts of a contract around its clauses and functions where a cursor is a number. Assumes nothing.
use mathlib.Core.Path.{◌≡◌, sym, ap, ◌∙◌, subst}
use mathlib.Core.List.{List}
use Prim.Native.Nat.{ℕ}
use borrow.Author.Tests.{eq-eqb, ne_eqb}
use Rattle.laws.proofs.Choice.{pick_true, pick_false}
use Rattle.words.specs.Words.{legal_contract, open_brace, close_brace}
use Rattle.entries.specs.Draft.{title}
use Rattle.std.specs.Prelude.{Err}
use Rattle.reading.specs.declared.Refusal.{Refusal}
use Rattle.reading.specs.Reading.{Answered, refusal}
use Rattle.reading_laws.specs.Walk.{Walk, Step, Cursor, AgreesWith, Ends, On, Stop, draft, settled_answer, settled_table, next_of, unfit_at, token, name_here, opening, closed, text_end, at_end, ending_at}
use Rattle.cursors.specs.Packed.{kind_in, start_in, end_in, cursor_in, step_in}
use Rattle.reading_laws.proofs.Enclosing as enclosing
use Rattle.reading_laws.proofs.Settled.{ends_stop, ends_on}

-- the pass that went on, and settled what the two lists hold
pub ends_lent : (w : Walk) (r : Step) (d : Cursor) (t n u v : List ℕ) (a : Answered) → AgreesWith w r t n → r ≡ On d → a ≡ settled_answer n
    → v ≡ settled_table n t → u ≡ v → Ends w a u
ends_lent w r d t n u v a h e j k g = ends_on w r d t n u a h e j (g ∙ k)

module _ (s : List ℕ) where
  -- legal_contract N {
  pub opens : (c d l next a b : ℕ) (x t n t₁ : List ℕ) (r : ℕ) → token s legal_contract (cursor_in s c) ≡ On (cursor_in s d)
      → name_here s (cursor_in s d) ≡ On (cursor_in s l) → x ≡ s → a ≡ start_in l → b ≡ end_in l → t₁ ≡ title x a b t → cursor_in s next ≡ next_of s (cursor_in s l)
      → step_in s r ≡ token s open_brace (cursor_in s next) → AgreesWith (opening s (cursor_in s c) (draft t n)) (step_in s r) t₁ n
  unfolding cursor_in
  opens c d l next a b x t n t₁ r f g x-is a-is b-is titled then h =
      enclosing.opens s (cursor_in s c) (cursor_in s d) (cursor_in s l) (cursor_in s next) t n t₁ (step_in s r) f (sym (enclosing.name_here_lem s (cursor_in s d)) ∙ g)
      then (titled ∙ (λ i. title (x-is i) (a-is i) (b-is i) t)) h

  -- the agreement's end
  pub closed_at : (d o : ℕ) (t n n₁ : List ℕ) → o ≡ start_in d → n₁ ≡ (closed o (draft t n)).notes → closed (cursor_in s d).start (draft t n) ≡ draft t n₁
  unfolding cursor_in
  closed_at d o t n n₁ o_is e = ap (λ (x : ℕ). closed x (draft t n)) (sym o_is) ∙ enclosing.closed_is o t n n₁ e

  -- the text's end
  module _ (c a : ℕ) (e : step_in s a ≡ token s close_brace (cursor_in s c)) where
    pub ending_stops : (q o : ℕ) → step_in s a ≡ Stop q o → step_in s a ≡ ending_at s (cursor_in s c)
    unfolding ending_at
    ending_stops q o f = f ∙ sym (ap (at_end s) (sym e ∙ f))

    module _ (f : step_in s a ≡ On (cursor_in s a)) (k : ℕ) (k-is : k ≡ kind_in a) where
      pub ending_ends : k ≡ text_end → step_in s a ≡ ending_at s (cursor_in s c)
      unfolding ending_at cursor_in
      ending_ends g = f ∙ sym (ap (at_end s) (sym e ∙ f) ∙ pick_true _ _ _ (eq-eqb (kind_in a) text_end (sym k-is ∙ g)))

      pub ending_unfit : (r : ℕ) → (k ≡ text_end → ⊥) → step_in s r ≡ unfit_at s (cursor_in s a) → step_in s r ≡ ending_at s (cursor_in s c)
      unfolding ending_at cursor_in
      ending_unfit r g h = h ∙ sym (ap (at_end s) (sym e ∙ f) ∙ pick_false _ _ _ (ne_eqb (kind_in a) text_end (λ z. g (k-is ∙ z))))

  -- the pass that stopped
  pub ends_stopped : (w : Walk) (r k o : ℕ) (x : Refusal) (t n u : List ℕ) → AgreesWith w (step_in s r) t n → step_in s r ≡ Stop (kind_in r) (start_in r)
      → k ≡ kind_in r → o ≡ start_in r → x ≡ refusal k o → Ends w (Err x) u
  ends_stopped w r k o x t n u h e f g j =
      let P : Refusal → Type 0 = λ y. Ends w (Err y) u in
      subst P (sym j) (ends_stop w (step_in s r) k o t n u h (e ∙ (λ i. Stop (sym f i) (sym g i))))
