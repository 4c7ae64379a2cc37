-- How reading ends: the laws that `settle`, `pass_over` and `read` use. Assumes nothing.
use Prim.Native.Nat.{ℕ, ◌%◌, ◌≤◌, ◌<◌}
use native.Mathlib.Omega.{arith}
use mathlib.Core.Path.{◌≡◌, refl, sym, ap, ◌∙◌, subst}
use mathlib.Core.Bool.{true, false}
use mathlib.Core.List.{List}
use lib.ListN.{length, get_or}
use borrow.Author.Tests.{eq-eqb, ne_eqb, lt-leb, le-leb}
use Rattle.laws.proofs.Choice.{pick_true, pick_false, true_false}
use Rattle.contract.specs.Encode.{zeros}
use Rattle.entries.specs.Draft.{note, counts}
use Rattle.reading.specs.Reading.{Reading, accepted, refused, Answered, refusal, read_text, answer_of, table_of}
use Rattle.reading_laws.specs.Walk.{Walk, on, stop, AgreesWith, Ends, settled_answer, settled_table, walk, draft}
use Rattle.reading_laws.specs.Walk.{Cursor}
use Rattle.reading_laws.specs.Walk.{Step}
use Rattle.reading_laws.specs.Walk.{On, Stop}
use Rattle.std.specs.Prelude.{Ok, Err, is_err}
use Rattle.reading_laws.proofs.ReadIs.{Reads}
use Rattle.reading_laws.proofs.Whole.{reads_whole}

-- ---- settle
module _ (n t : List ℕ) (x : ℕ) (e : x ≡ note n 12) where
  pub settled_refused : (y : ℕ) → (x ≡ 0 → ⊥) → y ≡ note n 13 → (Err (refusal (x % 256) y) ≡ settled_answer n) × (t ≡ settled_table n t)
  unfolding settled_answer settled_table
  settled_refused y h f = (
    (λ i. Err (refusal (e i % 256) (f i))) ∙ sym (pick_false _ _ _ (ne_eqb (note n 12) 0 (λ z. h (e ∙ z)))),
    sym (pick_false _ _ _ (ne_eqb (note n 12) 0 (λ z. h (e ∙ z)))),
  )

  pub settled_accepted : (u : List ℕ) (i : ℕ) → x ≡ 0 → i ≡ get_or t 9 0 → u ≡ counts i n t → (Ok tt ≡ settled_answer n) × (u ≡ settled_table n t)
  unfolding settled_answer settled_table
  settled_accepted u i h f g = (
    sym (pick_true _ _ _ (eq-eqb (note n 12) 0 (sym e ∙ h))),
    g ∙ ap (λ (k : ℕ). counts k n t) f ∙ sym (pick_true _ _ _ (eq-eqb (note n 12) 0 (sym e ∙ h))),
  )

-- ---- pass_over
abbrev stopped : Step → ℕ
stopped (On c) = 0
stopped (Stop q o) = 1

abbrev told : Step → Answered
told (On c) = Ok tt
told (Stop q o) = Err (refusal q o)

pub ends_on : (w : Walk) (r : Step) (d : Cursor) (t n u : List ℕ) (a : Answered) → AgreesWith w r t n → r ≡ On d → a ≡ settled_answer n
    → u ≡ settled_table n t → Ends w a u
unfolding AgreesWith Ends
ends_on (on c p) r d t n u a (l, (f, g)) e h k =
    (h ∙ ap settled_answer g, k ∙ (λ i. settled_table (g i) (f i)))
ends_on (stop q o) r d t n u a l e h k = let z : ◌≡◌ {A = ℕ} 1 0 = ap stopped (sym l ∙ e) in absurd (omega (arith, z))

pub ends_stop : (w : Walk) (r : Step) (q o : ℕ) (t n u : List ℕ) → AgreesWith w r t n → r ≡ Stop q o → Ends w (Err (refusal q o)) u
unfolding AgreesWith Ends
ends_stop (on c p) r q o t n u (l, m) e = let z : ◌≡◌ {A = ℕ} 0 1 = ap stopped (sym l ∙ e) in absurd (omega (arith, z))
ends_stop (stop x y) r q o t n u l e = ap told (sym e ∙ l)

-- ---- read
module _ (s : List ℕ) (l : ℕ) where
  pub too_long : 16384 < length s → read_text s l ≡ refused 1 0
  unfolding read_text
  too_long h = pick_false _ _ _ (lt-leb (length s) 16384 h)

  pub wrong_table : length s ≤ 16384 → (l ≡ 24659 → ⊥) → read_text s l ≡ refused 2 0
  unfolding read_text
  wrong_table h k = pick_true _ _ _ (le-leb (length s) 16384 h) ∙ pick_false _ _ _ (ne_eqb l 24659 k)

-- a refused reading leaves zeros
pub refused_zeros : (d : Reading) (l : ℕ) → is_err (answer_of d) ≡ true → table_of l d ≡ zeros l
refused_zeros (accepted c) l e = true_false (sym e)
refused_zeros (refused q p) l e = refl

only_ok : (r : Answered) → is_err r ≡ false → r ≡ Ok tt
only_ok (Ok x) e = refl
only_ok (Err x) e = true_false e

module _ (s t₀ t₁ : List ℕ) (l : ℕ) (z : t₀ ≡ zeros l) (h : length s ≤ 16384) (f : l ≡ 24659) (r : Answered) (e : Ends (walk s (draft t₀ (zeros 606))) r t₁) where
  ended : Reads (read_text s l) r t₁
  ended =
      subst (λ (k : ℕ). Reads (read_text s k) r t₁) (sym f)
      (reads_whole s h r t₁ (subst (λ (u : List ℕ). Ends (walk s (draft u (zeros 606))) r t₁) (z ∙ ap zeros f) e))

  pub read_accepted : is_err r ≡ false → (r ≡ answer_of (read_text s l)) × (t₁ ≡ table_of l (read_text s l))
  read_accepted a = (ended.answer, ended.table (only_ok r a) ∙ ap (λ (k : ℕ). table_of k (read_text s l)) (sym f))

  pub read_refused : (u : List ℕ) → is_err r ≡ true → u ≡ zeros (length t₁) → length t₁ ≡ l
      → (r ≡ answer_of (read_text s l)) × (u ≡ table_of l (read_text s l))
  read_refused u a g k = (ended.answer, g ∙ ap zeros k ∙ sym (refused_zeros (read_text s l) l (ap is_err (sym ended.answer) ∙ a)))
