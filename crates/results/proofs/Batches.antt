-- Reports that were handed on as numbers are the same reports again, and their lines are all written where there is room. Assumes nothing.
use mathlib.Core.Path.{◌≡◌, refl, sym, ap, ◌∙◌}
use mathlib.Core.Bool.{Bool, true, false, ◌&&◌}
use mathlib.Core.List.{List, [], ◌∷◌, ◌++◌, map, append_assoc}
use Prim.Native.Nat.{ℕ, zero, suc, ◌+◌, ◌*◌, ◌/◌, ◌<◌, ◌≤◌}
use native.Mathlib.Omega.{arith}
use lib.ListN.{length, get_or, drop, length-map}
use lib.Seq.{take_all, take-length}
use lib.IntN.{ℤ, pos}
use lib.Dec.{eqb, leb, ltb}
use borrow.Author.Tests.{eqb-true, leb-true, ltb-true, ltb-false, lt-ltb, le-ltb}
use Rattle.contract.specs.Tree.{Contract}
use Rattle.contract.specs.Decode.{contract_of}
use Rattle.laws.proofs.Truths.{both_left, both_right}
use Rattle.laws.specs.Choice.{pick}
use Rattle.laws.specs.Lists.{every}
use Rattle.laws.proofs.Choice.{pick_true, pick_false}
use Rattle.contract.specs.Check.{ranges, passes}
use Rattle.contract_laws.proofs.Inversions.{by_test, of_either, ranges_of}
use Rattle.contract_laws.proofs.Sound.{passed, counts}
use Rattle.results.specs.Coded.{coded, integer_of, coded_all, integers_of, report_from, whole_of, report_at, reports_from}
use Rattle.results.specs.Lines.{refusal, report_ok, told_ok, line_of}
use Rattle.results.specs.Results.{first_reports, lines_of, batch_of, batch, batch_after}
use Rattle.std.specs.Prelude.{Result, Ok, Option, Some, None}
use Rattle.std.specs.List.{flat_map}
use Rattle.questions.specs.declared.Question.{Question}
use Rattle.results.specs.declared.Batch.{Batch}
use Rattle.results.specs.declared.Report.{Report}
use Rattle.results.specs.declared.Report.TheVariants.{Ruled, Sent, Held, Refused, Failed}
use Rattle.results.proofs.Ranges.{asset_below}
use Rattle.results.proofs.Turns.{ruled_from, sent_from, held_from, refused_from, failed_from, none_from}

-- ---- one report

-- the report of the numbers of a report
abbrev pub decoded : Report → Option Report
decoded r = report_from (get_or (coded r) 0 0) (get_or (coded r) 1 0) (get_or (coded r) 2 0) (get_or (coded r) 3 0) (integer_of r)

-- the same, if the second number is a byte
byte_back : (r : Report) → get_or (coded r) 1 0 < 256 → decoded r ≡ Some r
byte_back (Ruled rule state clock) h = sym (ruled_from 1 rule state clock _ h refl)
byte_back (Sent kind party value group) h = sym (sent_from 2 kind party group value refl h (λ e. omega (arith, e)) refl)
byte_back (Held asset amount) h = sym (held_from 3 asset amount 0 _ h (λ e. omega (arith, e)) (λ e. omega (arith, e)) refl)
byte_back (Refused n) h = sym (refused_from 4 n 0 0 _ h (λ e. omega (arith, e)) (λ e. omega (arith, e)) (λ e. omega (arith, e)) refl)
byte_back (Failed n) h = sym (failed_from 5 n 0 0 _ h (λ e. omega (arith, e)) (λ e. omega (arith, e)) (λ e. omega (arith, e)) (λ e. omega (arith, e)) refl)

refusal_byte : (n : ℕ) → refusal n ≡ true → n < 256
unfolding refusal
refusal_byte n h =
    of_either (eqb n 3) _ h (λ t. omega (arith, eqb-true n 3 t)) λ h.
    of_either (eqb n 4) _ h (λ t. omega (arith, eqb-true n 4 t)) λ h.
    of_either (ranges 20 n 37) _ h (λ t. omega (arith, (ranges_of 20 n 37 t).1)) λ h.
    of_either (ranges 39 n 41) _ h (λ t. omega (arith, (ranges_of 39 n 41 t).1)) λ h.
    of_either (ranges 50 n 51) _ h (λ t. omega (arith, (ranges_of 50 n 51 t).1)) λ t. omega (arith, eqb-true n 62 t)

-- a report in range has a byte there: at most 256 assets are enough
ok_byte : (c : Contract) → length c.assets ≤ 256 → (r : Report) → report_ok c r ≡ true → get_or (coded r) 1 0 < 256
unfolding report_ok
ok_byte c h (Ruled rule state clock) k = let l = leb-true rule 3 (both_left (leb rule 3) _ k) in omega (arith, l)
ok_byte c h (Sent kind party value group) k = let l = (ranges_of 1 kind 3 (both_left (ranges 1 kind 3) _ k)).1 in omega (arith, l)
ok_byte c h (Held asset amount) k = omega (arith, asset_below c asset amount k, h)
ok_byte c h (Refused n) k = refusal_byte n k
ok_byte c h (Failed n) k = omega (arith, (ranges_of 30 n 36 k).1)

-- a report in range reads as itself
pub report_read : (c : Contract) → length c.assets ≤ 256 → (r : Report) → report_ok c r ≡ true → decoded r ≡ Some r
report_read c h r k = byte_back r (ok_byte c h r k)

-- a second number of more than a byte is refused by question 53
pub wide_refused : (c : Contract) (which a b d : ℕ) (z : ℤ) → 256 ≤ a → told_ok c (report_from which a b d z) ≡ false
unfolding told_ok
wide_refused c which a b d z h = sym (ap (told_ok c) (none_from which a b d z h))

-- ---- reports in a row

module _ (p q r s : ℕ) (ns : List ℕ) (z : ℤ) (zs : List ℤ) where
  one_whole : whole_of (p ∷ q ∷ r ∷ s ∷ ns) (z ∷ zs) ≡ suc (whole_of ns zs)
  one_whole = omega arith

  same_whole : (i : ℕ) → ltb (suc i) (whole_of (p ∷ q ∷ r ∷ s ∷ ns) (z ∷ zs)) ≡ ltb i (whole_of ns zs)
  same_whole i =
      by_test (ltb i (whole_of ns zs)) (λ t. lt-ltb (suc i) _ (omega (arith, one_whole, ltb-true i (whole_of ns zs) t)) ∙ sym t) λ t.
      le-ltb (suc i) _ (omega (arith, one_whole, ltb-false i (whole_of ns zs) t)) ∙ sym t

  next_report : (i : ℕ) → report_at (p ∷ q ∷ r ∷ s ∷ ns) (z ∷ zs) (suc i) ≡ report_at ns zs i
  unfolding report_at
  next_report i =
      let a : 4 * suc i ≡ suc (suc (suc (suc (4 * i)))) = omega arith in
      let b : 4 * suc i + 1 ≡ suc (suc (suc (suc (4 * i + 1)))) = omega arith in
      let d : 4 * suc i + 2 ≡ suc (suc (suc (suc (4 * i + 2)))) = omega arith in
      let e : 4 * suc i + 3 ≡ suc (suc (suc (suc (4 * i + 3)))) = omega arith in
      let l = p ∷ q ∷ r ∷ s ∷ ns in
      λ k. pick (same_whole i k) (report_from (get_or l (a k) 0) (get_or l (b k) 0) (get_or l (d k) 0) (get_or l (e k) 0) (get_or zs i (pos 0))) None

  next_reports : (n i : ℕ) → reports_from (p ∷ q ∷ r ∷ s ∷ ns) (z ∷ zs) (suc i) n ≡ reports_from ns zs i n
  unfolding reports_from
  next_reports zero i = refl
  next_reports (suc n) i = λ k. next_report i k ∷ next_reports n (suc i) k

  four_first : (n : ℕ) → reports_from (p ∷ q ∷ r ∷ s ∷ ns) (z ∷ zs) 0 (suc n) ≡ report_from p q r s z ∷ reports_from ns zs 0 n
  unfolding reports_from report_at
  four_first n =
      let h : report_at (p ∷ q ∷ r ∷ s ∷ ns) (z ∷ zs) 0 ≡ report_from p q r s z = pick_true _ _ _ (lt-ltb 0 (whole_of (p ∷ q ∷ r ∷ s ∷ ns) (z ∷ zs)) (omega (arith, one_whole))) in
      λ k. h k ∷ next_reports n 0 k

coded_first : (r : Report) (ns : List ℕ) (zs : List ℤ) (n : ℕ) → reports_from (coded r ++ ns) (integer_of r ∷ zs) 0 (suc n) ≡ decoded r ∷ reports_from ns zs 0 n
coded_first (Ruled rule state clock) ns zs n = four_first _ _ _ _ ns _ zs n
coded_first (Sent kind party value group) ns zs n = four_first _ _ _ _ ns _ zs n
coded_first (Held asset amount) ns zs n = four_first _ _ _ _ ns _ zs n
coded_first (Refused k) ns zs n = four_first _ _ _ _ ns _ zs n
coded_first (Failed k) ns zs n = four_first _ _ _ _ ns _ zs n

-- reports in range read as themselves, whatever follows their numbers
pub reports_read : (c : Contract) → length c.assets ≤ 256 → (rs : List Report) (ns : List ℕ) (zs : List ℤ) → every (report_ok c) rs ≡ true
    → reports_from (coded_all rs ++ ns) (integers_of rs ++ zs) 0 (length rs) ≡ map Some rs
unfolding reports_from coded_all integers_of every
reports_read c h [] ns zs k = refl
reports_read c h (r ∷ rs) ns zs k =
    ap (λ (l : List ℕ). reports_from l (integer_of r ∷ (integers_of rs ++ zs)) 0 (suc (length rs))) (append_assoc (coded r) (coded_all rs) ns)
    ∙ coded_first r (coded_all rs ++ ns) (integers_of rs ++ zs) (length rs)
    ∙ λ j. report_read c h r (both_left (report_ok c r) _ k) j ∷ reports_read c h rs ns zs (both_right (report_ok c r) _ k) j

-- ---- a table that passes has few assets

pub few_assets : (w : List ℕ) → passes w ≡ true → length (contract_of w).assets ≤ 256
few_assets w t = omega (arith, (counts w).assets, (passed w t).head.assets)

-- ---- reports told as numbers are the reports

-- question 53 asks of them what it asks of the reports
pub told_same : (c : Contract) (rs : List Report) → every (told_ok c) (map Some rs) ≡ every (report_ok c) rs
unfolding every told_ok
told_same c [] = refl
told_same c (r ∷ rs) = ap (λ (b : Bool). report_ok c r && b) (told_same c rs)

-- so that reports in range pass it
pub told_all : (c : Contract) (rs : List Report) → every (report_ok c) rs ≡ true → every (told_ok c) (map Some rs) ≡ true
told_all c rs h = told_same c rs ∙ h

-- their lines are the lines of each report, one after the other
pub lines_each : (c : Contract) (rs : List Report) → lines_of c (map Some rs) ≡ flat_map (line_of c) rs
unfolding lines_of
lines_each c [] = refl
lines_each c (r ∷ rs) = ap (λ (l : List ℕ). line_of c r ++ l) (lines_each c rs)

-- ---- what numbers tell, in range and with 128 bytes for each, is all written

module _ (w : List ℕ) (rs : List (Option Report)) (old : List ℕ) (room : 128 ≤ length old) (each : 128 * length rs ≤ length old) (t : passes w ≡ true)
    (ok : every (told_ok (contract_of w)) rs ≡ true) where
  all_first : first_reports (length old) rs ≡ rs
  all_first = take_all (length old / 128) rs (omega (arith, each))

  pub batch_told : batch w rs (length old) ≡ Ok (record { many = length rs; used = length (lines_of (contract_of w) rs) })
  unfolding batch batch_of
  batch_told =
      pick_false _ _ _ (le-ltb (length old) 128 room)
      ∙ pick_true _ _ _ t
      ∙ pick_true _ _ _ (ap (every (told_ok (contract_of w))) all_first ∙ ok)
      ∙ λ j. Ok (record { many = length (all_first j); used = length (lines_of (contract_of w) (all_first j)) })

  pub lines_told : batch_after (contract_of w) rs (batch w rs (length old)) old ≡ lines_of (contract_of w) rs ++ drop (length (lines_of (contract_of w) rs)) old
  unfolding batch_after
  lines_told =
      ap (λ (b : Result Batch Question). batch_after (contract_of w) rs b old) batch_told
      ∙ ap (λ (l : List (Option Report)). lines_of (contract_of w) l ++ drop (length (lines_of (contract_of w) rs)) old) (take-length rs)

-- ---- reports in range with 128 bytes for each are all written

module _ (w : List ℕ) (rs : List Report) (old : List ℕ) (room : 128 ≤ length old) (each : 128 * length rs ≤ length old) (t : passes w ≡ true)
    (ok : every (report_ok (contract_of w)) rs ≡ true) where
  as_many : length (map {B = Option Report} Some rs) ≡ length rs
  as_many = length-map rs Some

  each_told : 128 * length (map {B = Option Report} Some rs) ≤ length old
  each_told = omega (arith, each, as_many)

  pub batch_whole : batch w (map Some rs) (length old) ≡ Ok (record { many = length rs; used = length (lines_of (contract_of w) (map Some rs)) })
  batch_whole =
      batch_told w (map Some rs) old room each_told t (told_all (contract_of w) rs ok)
      ∙ λ j. Ok (record { many = as_many j; used = length (lines_of (contract_of w) (map Some rs)) })

  pub lines_whole : batch_after (contract_of w) (map Some rs) (batch w (map Some rs) (length old)) old
      ≡ lines_of (contract_of w) (map Some rs) ++ drop (length (lines_of (contract_of w) (map Some rs))) old
  lines_whole = lines_told w (map Some rs) old room each_told t (told_all (contract_of w) rs ok)
