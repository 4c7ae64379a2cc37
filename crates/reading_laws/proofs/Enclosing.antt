-- Laws of the parts of a contract around its clauses and functions, as the pass reads them. Assumes nothing.
use mathlib.Core.Path.{◌≡◌, refl, sym, ap, ◌∙◌}
use mathlib.Core.List.{List, []}
use Prim.Native.Nat.{ℕ}
use mathlib.Core.Bool.{Bool, true, false}
use borrow.Author.Tests.{eq-eqb, ne_eqb}
use Rattle.laws.proofs.Choice.{pick_true, pick_false, by_cases}
use Rattle.words.specs.Words.{legal_contract, open_brace}
use Rattle.entries.specs.Draft.{Draft, note, found, title, clause_count, excess}
use Rattle.reading_laws.specs.Walk.{on, after, draft, AgreesWith, next_of, token, name_here, opening, closed}
use Rattle.reading_laws.specs.Masks.{rows_of, kept_by_masks}
use Rattle.reading_laws.specs.Walk.{Cursor}
use Rattle.reading_laws.specs.Walk.{Step}
use Rattle.reading_laws.specs.Walk.{On}
use Rattle.reading_laws.proofs.AgreesWith.{leaves_same, steps_on, after_on}

-- no text is read at a name
pub name_here_lem : (s : List ℕ) (c : Cursor) → name_here s c ≡ name_here [] c
unfolding name_here
name_here_lem s c = refl

-- legal_contract N {
pub opens : (s : List ℕ) (c d l next : Cursor) (t n t₁ : List ℕ) (r : Step) → token s legal_contract c ≡ On d → name_here [] d ≡ On l
    → next ≡ next_of s l → t₁ ≡ title s l.start l.end t → r ≡ token s open_brace next → AgreesWith (opening s c (draft t n)) r t₁ n
unfolding opening
opens s c d l next t n t₁ r e f h a g =
    leaves_same _ _ _ _ _
    (sym (after_on _ _ _ e ∙ after_on _ _ _ (name_here_lem s d ∙ f)
    ∙ (λ i. after (token s open_brace (sym h i)) (λ (x : Cursor). on x (draft (sym a i) n)))))
    (steps_on _ _ _ _ g)

-- the agreement's end leaves the table
closed_table : (o : ℕ) (p : Draft) → (closed o p).table ≡ p.table
unfolding closed
closed_table o p =
    by_cases (λ (q : Draft). q.table ≡ p.table) _ _ _
    (λ _. by_cases (λ (q : Draft). q.table ≡ p.table) _ _ _ (λ _. refl) (λ _. refl))
    (λ _. refl)

pub closed_is : (o : ℕ) (t n n₁ : List ℕ) → n₁ ≡ (closed o (draft t n)).notes → closed o (draft t n) ≡ draft t n₁
closed_is o t n n₁ e = λ i. record { table = closed_table o (draft t n) i; notes = sym e i }

-- its rules are kept
pub closed_kept : (o : ℕ) (t n : List ℕ) (x y z : ℕ) (b : Bool) → x ≡ note n excess → x ≡ 0 → y ≡ note n clause_count → z ≡ note n 0
    → b ≡ kept_by_masks z (rows_of t y) → b ≡ true → n ≡ (closed o (draft t n)).notes
unfolding closed
closed_kept o t n x y z b h e f g k l =
    ap (λ (p : Draft). p.notes)
    (sym (pick_true _ _ _ (eq-eqb _ _ (sym h ∙ e))
    ∙ pick_true _ _ _ ((λ i. kept_by_masks (sym g i) (rows_of t (sym f i))) ∙ sym k ∙ l)))

-- they are not
pub closed_broken : (o : ℕ) (t n : List ℕ) (x y z : ℕ) (b : Bool) → x ≡ note n excess → x ≡ 0 → y ≡ note n clause_count → z ≡ note n 0
    → b ≡ kept_by_masks z (rows_of t y) → b ≡ false → found 14 o n ≡ (closed o (draft t n)).notes
unfolding closed
closed_broken o t n x y z b h e f g k l =
    ap (λ (p : Draft). p.notes)
    (sym (pick_true _ _ _ (eq-eqb _ _ (sym h ∙ e))
    ∙ pick_false _ _ _ ((λ i. kept_by_masks (sym g i) (rows_of t (sym f i))) ∙ sym k ∙ l)))

-- there are clauses or fields too many
pub closed_excess : (o : ℕ) (t n : List ℕ) (x : ℕ) → x ≡ note n excess → (x ≡ 0 → ⊥) → found 14 o n ≡ (closed o (draft t n)).notes
unfolding closed
closed_excess o t n x h e = ap (λ (p : Draft). p.notes) (sym (pick_false _ _ _ (ne_eqb _ _ (λ z. e (h ∙ z)))))
