-- Bytes that come to the front, the question of a report, and the numbers of what assets hold. Assumes nothing.
use mathlib.Core.Path.{◌≡◌, refl, sym, ap, ◌∙◌}
use mathlib.Core.Bool.{Bool, true, false, not}
use mathlib.Core.List.{List, [], ◌∷◌, ◌++◌}
use mathlib.Core.Logic.{◌⊎◌, inl, inr}
use Prim.Native.Nat.{ℕ, suc, ◌+◌, ◌*◌, ◌-◌, ◌<◌, ◌≤◌, min}
use native.Mathlib.Numerals.{add-one}
use native.Mathlib.Omega.{arith}
use borrow.Author.Tests.{leb-true, leb-false, le-leb, lt-leb, ltb-true, ltb-false}
use lib.Dec.{eqb, ltb, leb}
use lib.IntN.{pos}
use lib.ListN.{length, take, drop, get_or, length-take, length-drop, drop_of_length-le, get_or-eq_default}
use lib.Seq.{take_all, take-take, sets, sets-eq, paste, length-sets, drop-cons, get_or-take, take-nil}
use Rattle.laws.specs.Choice.{pick}
use Rattle.tokens.specs.Tokens.{between}
use Rattle.std.specs.Prelude.{Option, Some, None, option_and_then}
use Rattle.std.specs.Bool.{then_some}
use Rattle.laws.proofs.Choice.{pick_true, pick_false}
use Rattle.results.specs.Coded.{coded, coded_all, report_from}
use Rattle.results.specs.declared.Report.{Report}
use Rattle.results.specs.declared.Report.TheVariants.{Ruled, Sent, Held, Refused, Failed}
use Rattle.desk_lines.specs.Blocks.{max_kept, kept, question_of, question_at, held_from}

-- ---- bytes that come to the front

first_of : (l : List ℕ) (m k n : ℕ) → n ≡ min m k → take m (take k l) ≡ take n l
first_of l m k n e = go (leb m k) refl
  where
    go : (t : Bool) → leb m k ≡ t → take m (take k l) ≡ take n l
    go true q = let h = leb-true m k q in take-take m k l h ∙ ap (λ (i : ℕ). take i l) (omega (arith, e))
    go false q = let h = leb-false m k q in take_all m (take k l) (omega (arith, length-take k l)) ∙ ap (λ (i : ℕ). take i l) (omega (arith, e))

module _ (old : List ℕ) (from end : ℕ) where
  -- none, where they are not all in the buffer
  pub bring_none : ((from ≤ end) × (length old < end)) ⊎ (end < from) → record { value : 0 ≡ length (kept old from end); bytes_after : old ≡ sets old 0 (kept old from end) }
  unfolding kept between
  bring_none h =
      let k : kept old from end ≡ [] = ap (take max_kept) (none h) ∙ take-nil max_kept in
      record { value = sym (ap (length {A = ℕ}) k); bytes_after = sym (ap (sets old 0) k) }
    where
      none : ((from ≤ end) × (length old < end)) ⊎ (end < from) → pick (leb from end) (pick (leb end (length old)) (take (end - from) (drop from old)) []) [] ≡ []
      none (inl l) = pick_true _ _ _ (le-leb from end l.0) ∙ pick_false _ _ _ (lt-leb end (length old) l.1)
      none (inr l) = pick_false _ _ _ (lt-leb from end l)

  -- as many as are kept
  pub bring_all : {n : ℕ} {new : List ℕ} → from ≤ end → end ≤ length old → n ≡ min max_kept (end - from) → new ≡ paste old 0 (drop from old) (from + n - from)
      → record { value : n ≡ length (kept old from end); bytes_after : new ≡ sets old 0 (kept old from end) }
  unfolding kept between
  bring_all {n} h k e c =
      let b : between old from end ≡ take (end - from) (drop from old) = pick_true _ _ _ (le-leb from end h) ∙ pick_true _ _ _ (le-leb end (length old) k) in
      let w : kept old from end ≡ take n (drop from old) = ap (take max_kept) b ∙ first_of (drop from old) max_kept (end - from) n e in
      let long : length (kept old from end) ≡ n = ap length w ∙ length-take n (drop from old) ∙ omega (arith, length-drop from old, e) in
      let m : from + n - from ≡ n = omega arith in
      record {
        value = sym long;
        bytes_after =
            c
            ∙ ap (paste old 0 (drop from old)) m
            ∙ (λ i. sym w i ++ drop (0 + sym long i) old)
            ∙ sym (sets-eq (kept old from end) old 0 (omega (arith, long, e)));
      }

-- ---- what assets hold

module _ (old : List ℕ) (assets : List ℕ) (n : ℕ) where
  -- the numbers of the assets from i on are still to be written
  pub record Holds (i : ℕ) (new : List ℕ) : Type 0 where
    pub size : length new ≡ length old
    pub rest : sets new (4 * i) (coded_all (held_from i (drop i (take n assets)))) ≡ sets old 0 (coded_all (held_from 0 (take n assets)))

  pub holds_none : Holds 0 old
  holds_none = record { size = refl; rest = refl }

  pub holds_one : (i a : ℕ) (new next : List ℕ) → Holds i new → i < n → i < length assets → a ≡ get_or assets i 0 → next ≡ sets new (4 * i) (coded (Held i a)) → Holds (i + 1) next
  unfolding coded_all held_from
  holds_one i a new next b h k e s =
      rw add-one
      (record {
        size = ap length s ∙ length-sets new (4 * i) (coded (Held i a)) ∙ b.size;
        rest =
            let four : 4 * suc i ≡ suc (suc (suc (suc (4 * i)))) = omega arith in
            let more : List ℕ = coded_all (held_from (suc i) (drop (suc i) (take n assets))) in
            let within : i < length (take n assets) = simp length-take (omega arith) in
            let here : get_or (take n assets) i 0 ≡ a = get_or-take n assets i 0 h ∙ sym e in
            let cons : drop i (take n assets) ≡ a ∷ drop (suc i) (take n assets) = drop-cons (take n assets) i 0 within ∙ (λ t. here t ∷ drop (suc i) (take n assets)) in
            (λ t. sets (s t) (four t) more) ∙ ap (λ (l : List ℕ). sets new (4 * i) (coded_all (held_from i l))) (sym cons) ∙ b.rest;
      })

held_length : (i : ℕ) (l : List ℕ) → length (held_from i l) ≡ length l
unfolding held_from
held_length i [] = refl
held_length i (a ∷ l) = ap suc (held_length (suc i) l)

-- as many as there are
taken : (assets : List ℕ) (n m : ℕ) → n ≡ min m (length assets) → take n assets ≡ take m assets
taken assets n m e = go (ltb m (length assets)) refl
  where
    go : (t : Bool) → ltb m (length assets) ≡ t → take n assets ≡ take m assets
    go true q = let h = ltb-true m (length assets) q in ap (λ (k : ℕ). take k assets) (omega (arith, e))
    go false q = let h = ltb-false m (length assets) q in take_all n assets (omega (arith, e)) ∙ sym (take_all m assets (omega arith))

-- all are written: m is the number of assets
pub holds_all : {old assets new : List ℕ} {n i : ℕ} → Holds old assets n i new → (m : ℕ) → n ≡ min m (length assets) → n ≤ i
    → record { value : n ≡ length (held_from 0 (take m assets)); numbers_after : new ≡ sets old 0 (coded_all (held_from 0 (take m assets))) }
unfolding coded_all held_from
holds_all {old} {assets} {new} {n} {i} b m e h =
    let none : length (take n assets) ≤ i = simp length-take (omega (arith, e)) in
    let t : take n assets ≡ take m assets = taken assets n m e in
    record {
      value = sym (held_length 0 (take m assets) ∙ length-take m assets ∙ sym e);
      numbers_after =
          ap (λ (l : List ℕ). sets new (4 * i) (coded_all (held_from i l))) (sym (drop_of_length-le (take n assets) none))
          ∙ b.rest
          ∙ ap (λ (l : List ℕ). sets old 0 (coded_all (held_from 0 l))) t;
    }

-- ---- the question of a report

-- by the four words read
pub question_read : (ns : List ℕ) (i : ℕ) {r : Option Report} {a b c d : ℕ} → a ≡ get_or ns (4 * i) 0 → b ≡ get_or ns (4 * i + 1) 0 → c ≡ get_or ns (4 * i + 2) 0 → d ≡ get_or ns (4 * i + 3) 0
    → r ≡ report_from a b c d (pos 0) → option_and_then question_of r ≡ question_at ns i
unfolding question_at
question_read ns i p q s t e = ap (option_and_then question_of) (e ∙ λ k. report_from (p k) (q k) (s k) (t k) (pos 0))

-- past the numbers all four are 0
pub question_past : (ns : List ℕ) (i : ℕ) → length ns < i → None ≡ question_at ns i
unfolding report_from pick
question_past ns i h =
    let none : (k : ℕ) → 4 * i ≤ k → 0 ≡ get_or ns k 0 = λ k l. let beyond : length ns ≤ k = omega arith in sym (get_or-eq_default ns 0 beyond) in
    question_read ns i {r = None} (none _ (omega arith)) (none _ (omega arith)) (none _ (omega arith)) (none _ (omega arith)) refl

no_question : (r : Report) → ((n : ℕ) → r ≡ Refused n → ⊥) → ((n : ℕ) → r ≡ Failed n → ⊥) → None ≡ question_of r
unfolding question_of
no_question (Ruled a b c) f g = refl
no_question (Sent a b c d) f g = refl
no_question (Held a b) f g = refl
no_question (Refused n) f g = absurd (f n refl)
no_question (Failed n) f g = absurd (g n refl)

module _ {o : Option Report} {r : Report} (e : o ≡ Some r) where
  pub question_told : (n : ℕ) → (r ≡ Refused n) ⊎ (r ≡ Failed n) → then_some (not (eqb n 0)) n ≡ option_and_then question_of o
  unfolding question_of pick
  question_told n h =
      elim (eqb n 0) as (λ t. then_some (not t) n ≡ pick t None (Some n)) [ true ↦ refl | false ↦ refl ]
      ∙ sym (ap (option_and_then question_of) e ∙ elim h [ inl p ↦ ap question_of p | inr p ↦ ap question_of p ])

  pub question_none : ((n : ℕ) → r ≡ Refused n → ⊥) → ((n : ℕ) → r ≡ Failed n → ⊥) → None ≡ option_and_then question_of o
  question_none f g = no_question r f g ∙ sym (ap (option_and_then question_of) e)
