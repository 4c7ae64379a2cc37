-- Result lines told as numbers one after the other. Assumes nothing.
use mathlib.Core.Path.{◌≡◌, refl, sym, ap, subst, ◌∙◌}
use mathlib.Core.Bool.{Bool, true, false}
use mathlib.Core.List.{List, [], ◌∷◌, ◌++◌, append_assoc, append-nil}
use Prim.Native.Nat.{ℕ, zero, suc, ◌+◌, ◌-◌, ◌*◌, ◌≤◌, ◌<◌, min}
use native.Mathlib.Nat.{add-zero}
use native.Mathlib.Numerals.{add-one}
use native.Mathlib.Omega.{arith}
use lib.Dec.{leb, ltb}
use lib.IntN.{ℤ}
use lib.ListN.{length, set, take, length-append}
use lib.Seq.{sets, length-sets, take-suc, take_all}
use borrow.Author.Tests.{ltb-true, ltb-false, le-leb, lt-leb, leb-true, leb-false}
use Rattle.statements.specs.declared.Label.{Label}
use Rattle.statements.specs.Running.{labels_from}
use Rattle.results.specs.declared.Report.{Report}
use Rattle.results.specs.declared.Report.TheVariants as report
use Rattle.results.specs.Coded.{coded, integer_of, coded_all, integers_of}
use Rattle.outcomes.specs.declared.Rule.{Rule}
use Rattle.outcomes.specs.declared.Outcome.{Outcome}
use Rattle.outcomes.specs.declared.Outcome.TheVariants as outcome
use Rattle.outcomes.specs.Outcomes.{no_label, label_at}
use Rattle.outcomes.proofs.Labels.{label_at_lem}
pub use Rattle.step_reports.specs.Private.{Told}
use Rattle.step_reports.specs.Reports.{rule_number, report_by, label_report, label_reports, sent, step_reports_by, room_in, has_room}

-- ---- stores after stores

sets_append : {A : Type 0} (a b l : List A) (i : ℕ) → sets (sets l i a) (i + length a) b ≡ sets l i (a ++ b)
sets_append [] b l i = ap (λ k. sets l k b) (add-zero i)
sets_append (x ∷ a) b l i =
    let e : i + suc (length a) ≡ suc i + length a = omega arith in
    ap (λ k. sets (sets (set l i x) (suc i) a) k b) e ∙ sets_append a b (set l i x) (suc i)

pub stored_four : (l : List ℕ) (i w a b c : ℕ) → set (set (set (set l i w) (i + 1) a) (i + 2) b) (i + 3) c ≡ sets l i (w ∷ a ∷ b ∷ c ∷ [])
stored_four l i w a b c =
    let e : i + 1 ≡ suc i = omega arith in
    let f : i + 2 ≡ suc (suc i) = omega arith in
    let g : i + 3 ≡ suc (suc (suc i)) = omega arith in
    λ t. set (set (set (set l i w) (e t) a) (f t) b) (g t) c

-- ---- reports as numbers

coded_length : (r : Report) → length (coded r) ≡ 4
coded_length (report.Ruled a b c) = refl
coded_length (report.Sent a b c d) = refl
coded_length (report.Held a b) = refl
coded_length (report.Refused n) = refl
coded_length (report.Failed n) = refl

coded_all_length : (rs : List Report) → length (coded_all rs) ≡ 4 * length rs
unfolding coded_all
coded_all_length [] = refl
coded_all_length (r ∷ rs) =
    let a = length-append (coded r) (coded_all rs) in
    let b = coded_length r in
    let c = coded_all_length rs in
    omega arith

coded_append : (a b : List Report) → coded_all (a ++ b) ≡ coded_all a ++ coded_all b
unfolding coded_all
coded_append [] b = refl
coded_append (r ∷ a) b = ap (λ l. coded r ++ l) (coded_append a b) ∙ sym (append_assoc (coded r) (coded_all a) (coded_all b))

integers_length : (rs : List Report) → length (integers_of rs) ≡ length rs
unfolding integers_of
integers_length [] = refl
integers_length (r ∷ rs) = ap suc (integers_length rs)

integers_append : (a b : List Report) → integers_of (a ++ b) ≡ integers_of a ++ integers_of b
unfolding integers_of
integers_append [] b = refl
integers_append (r ∷ a) b = ap (λ l. integer_of r ∷ l) (integers_append a b)

module _ {numbers : List ℕ} {integers : List ℤ} {n : ℕ} where
  pub told_none : Told numbers integers n [] numbers integers
  unfolding coded_all integers_of
  told_none = record { numbers_after = refl; integers_after = refl }

  pub told_one : (r : Report) (told : List ℕ) (values : List ℤ) → told ≡ sets numbers (4 * n) (coded r) → values ≡ sets integers n (integer_of r ∷ []) → Told numbers integers n (r ∷ []) told values
  unfolding coded_all integers_of
  told_one r told values a b =
      record { numbers_after = a ∙ ap (sets numbers (4 * n)) (sym (append-nil (coded r))); integers_after = b }

  pub told_more : {a b : List Report} {told more : List ℕ} {values others : List ℤ} {m : ℕ} → Told numbers integers n a told values → m ≡ n + length a → Told told values m b more others → Told numbers integers n (a ++ b) more others
  told_more {a} {b} {told} {more} {values} {others} {m} x e y =
      let l = coded_all_length a in
      let k = integers_length a in
      let i : 4 * m ≡ 4 * n + length (coded_all a) = omega arith in
      let j : m ≡ n + length (integers_of a) = omega arith in
      record {
        numbers_after = y.numbers_after ∙ ap (λ z. sets z (4 * m) (coded_all b)) x.numbers_after ∙ ap (λ z. sets (sets numbers (4 * n) (coded_all a)) z (coded_all b)) i ∙ sets_append (coded_all a) (coded_all b) numbers (4 * n) ∙ ap (sets numbers (4 * n)) (sym (coded_append a b));
        integers_after = y.integers_after ∙ ap (λ z. sets z m (integers_of b)) x.integers_after ∙ ap (λ z. sets (sets integers n (integers_of a)) z (integers_of b)) j ∙ sets_append (integers_of a) (integers_of b) integers n ∙ ap (sets integers n) (sym (integers_append a b));
      }

  pub numbers_kept : {rs : List Report} {told : List ℕ} {values : List ℤ} → Told numbers integers n rs told values → length told ≡ length numbers
  numbers_kept {rs} t = ap length t.numbers_after ∙ length-sets numbers (4 * n) (coded_all rs)

  pub integers_kept : {rs : List Report} {told : List ℕ} {values : List ℤ} → Told numbers integers n rs told values → length values ≡ length integers
  integers_kept {rs} t = ap length t.integers_after ∙ length-sets integers n (integers_of rs)

-- ---- labels

reports_append : (a b : List Label) → label_reports (a ++ b) ≡ label_reports a ++ label_reports b
unfolding label_reports
reports_append [] b = refl
reports_append (l ∷ a) b = ap (λ r. label_report l ∷ r) (reports_append a b)

pub reports_length : (a : List Label) → length (label_reports a) ≡ length a
unfolding label_reports
reports_length [] = refl
reports_length (l ∷ a) = ap suc (reports_length a)

pub sent_length : (n : ℕ) (ws : List ℤ) → length (sent n ws) ≡ n
unfolding sent
sent_length zero ws = refl
sent_length (suc n) ws =
    let a = length-append (sent n ws) (label_report (label_at ws n) ∷ []) in
    let b = sent_length n ws in
    omega arith

-- the first n labels of these words
sent_first : (n : ℕ) (ws : List ℤ) → n ≤ length (labels_from ws) → sent n ws ≡ label_reports (take n (labels_from ws))
unfolding sent label_reports
sent_first zero ws h = refl
sent_first (suc n) ws h =
    let l : List Label = labels_from ws in
    let x : n < length l = omega arith in
    let y : n ≤ length l = omega arith in
    ap (λ z. z ++ (label_report (label_at ws n) ∷ [])) (sent_first n ws y)
    ∙ ap (λ (z : Label). label_reports (take n l) ++ (label_report z ∷ [])) (label_at_lem ws n x)
    ∙ sym (ap label_reports (take-suc l n no_label x) ∙ reports_append (take n l) _)

-- label i after those before it
pub label_told : {numbers more : List ℕ} {integers others : List ℤ} {n : ℕ} {told : List ℕ} {values : List ℤ} (ws : List ℤ) (i : ℕ)
    → Told numbers integers n (sent i ws) told values
    → {k p g : ℕ} → k ≡ (label_at ws i).kind → p ≡ (label_at ws i).party → g ≡ (label_at ws i).group → more ≡ sets told (4 * (n + i)) (2 ∷ k ∷ p ∷ g ∷ [])
    → {v : ℤ} → v ≡ (label_at ws i).value → others ≡ sets values (n + i) (v ∷ [])
    → Told numbers integers n (sent (i + 1) ws) more others
unfolding sent
label_told {numbers} {more} {integers} {others} {n} {told} {values} ws i t {k = kind} {p = party} {g = group} ek ep eg a {v} ev b =
    let m : n + i ≡ n + length (sent i ws) = ap (λ (k : ℕ). n + k) (sym (sent_length i ws)) in
    let u : suc i ≡ i + 1 = sym (add-one i) in
    subst (λ (k : ℕ). Told numbers integers n (sent k ws) more others) u (told_more t m (told_one (label_report (label_at ws i)) more others (a ∙ (λ j. sets told (4 * (n + i)) (2 ∷ ek j ∷ ep j ∷ eg j ∷ []))) (b ∙ ap (λ (z : ℤ). sets values (n + i) (z ∷ [])) ev)))

-- no more labels than there are
take_least : (l : List Label) (k n : ℕ) (b : Bool) → ltb k n ≡ b → length l ≡ n → take (min k n) l ≡ take k l
take_least l k n true e h =
    let x = ltb-true k n e in
    let m : min k n ≡ k = omega arith in
    ap (λ z. take z l) m
take_least l k n false e h =
    let x = ltb-false k n e in
    let m : min k n ≡ n = omega arith in
    ap (λ z. take z l) m ∙ take_all n l (omega arith) ∙ sym (take_all k l (omega arith))

-- ---- a step's result lines

-- the words have the labels that are told
pub words_told : (count : ℕ) (ws : List ℤ) → length (labels_from ws) ≡ 64 → sent (min count 64) ws ≡ label_reports (take count (labels_from ws))
words_told count ws h =
    sent_first (min count 64) ws (omega arith) ∙ ap label_reports (take_least (labels_from ws) count 64 (ltb count 64) refl h)

-- what came of a step, and its labels after it
pub step_told : {numbers told more : List ℕ} {integers values others : List ℤ} {n m k : ℕ} {Q : Type 0} (number : Q → ℕ) (o : Outcome Q) (state clock count : ℕ) (ws : List ℤ)
    → m ≡ min count 64 → k ≡ n + 1
    → Told numbers integers n (report_by number o state clock ∷ []) told values
    → Told told values k (sent m ws) more others
    → Told numbers integers n (step_reports_by number o state clock count ws) more others
step_told {numbers} {told} {more} {integers} {values} {others} {n} {m} {k} number o state clock count ws e f x y =
    subst (λ (j : ℕ). Told numbers integers n (report_by number o state clock ∷ sent j ws) more others) e (told_more x f y)

-- ---- whether result lines fit
pub fits_not : (n room : ℕ) → room < 65 → false ≡ leb (n + 65) room
fits_not n room h = sym (lt-leb (n + 65) room (omega arith))

pub fits_less : (n room : ℕ) → 65 ≤ room → leb n (room - 65) ≡ leb (n + 65) room
fits_less n room h = go (leb n (room - 65)) refl
  where
    go : (b : Bool) → leb n (room - 65) ≡ b → b ≡ leb (n + 65) room
    go true e = let x = leb-true n (room - 65) e in sym (le-leb (n + 65) room (omega arith))
    go false e = let x = leb-false n (room - 65) e in sym (lt-leb (n + 65) room (omega arith))

pub fits_room : (numbers : List ℕ) (integers : List ℤ) (n : ℕ) → has_room numbers integers n ≡ true → (4 * (n + 65) ≤ length numbers) × (n + 65 ≤ length integers)
fits_room numbers integers n e =
    let h = leb-true (n + 65) (room_in (length numbers) (length integers)) e in
    omega arith

-- ---- what came of a step, as a report

module _ {Q : Type 0} (number : Q → ℕ) (o : Outcome Q) (state clock : ℕ) where
  pub ruled : (r : Rule) (k : ℕ) → o ≡ outcome.Accepted r → k ≡ rule_number r → report.Ruled k state clock ≡ report_by number o state clock
  unfolding report_by
  ruled r k e f = ap (λ (x : ℕ). report.Ruled x state clock) f ∙ ap (λ (x : Outcome Q). report_by number x state clock) (sym e)

  pub failed : (q : Q) (k : ℕ) → o ≡ outcome.Failed q → k ≡ number q → report.Failed k ≡ report_by number o state clock
  unfolding report_by
  failed q k e f = ap report.Failed f ∙ ap (λ (x : Outcome Q). report_by number x state clock) (sym e)

  pub turned_down : (q : Q) (k : ℕ) → o ≡ outcome.Refused q → k ≡ number q → report.Refused k ≡ report_by number o state clock
  unfolding report_by
  turned_down q k e f = ap report.Refused f ∙ ap (λ (x : Outcome Q). report_by number x state clock) (sym e)

-- a line by a report's numbers is told of an equal one
pub same_report : {numbers told : List ℕ} {integers values : List ℤ} {n : ℕ} (r u : Report) → r ≡ u
    → told ≡ sets numbers (4 * n) (coded r) → values ≡ sets integers n (integer_of r ∷ []) → Told numbers integers n (u ∷ []) told values
same_report {numbers} {told} {integers} {values} {n} r u e a b =
    told_one u told values (a ∙ ap (λ (x : Report). sets numbers (4 * n) (coded x)) e) (b ∙ ap (λ (x : Report). sets integers n (integer_of x ∷ [])) e)
