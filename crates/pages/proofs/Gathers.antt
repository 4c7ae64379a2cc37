-- Payouts gathered from result lines, and the pages of a session. Assumes nothing.
use mathlib.Core.Path.{◌≡◌, refl, sym, ap, subst, ◌∙◌}
use mathlib.Core.Bool.{Bool, true, false, ◌&&◌, not}
use mathlib.Core.List.{List, [], ◌∷◌, ◌++◌, append_assoc, append-nil}
use Prim.Native.Nat.{ℕ, zero, suc, ◌+◌, ◌-◌, ◌*◌, ◌/◌, ◌<◌, ◌≤◌}
use native.Mathlib.Omega.{arith}
use lib.ListN.{length, set, take, drop, length-append, length-drop, length-set, drop_of_length-le}
use lib.Seq.{sets, sets-eq, length-sets, take_at, take-append-le, drop-append-le, take-suc-set, take_all, length-take-le}
use lib.IntN.{ℤ}
use lib.Dec.{eqb, ltb}
use borrow.Author.Tests.{eqb-true, eqb-false, lt-ltb}
use Rattle.laws.specs.Lists.{every}
use Rattle.laws.proofs.Choice.{pick_true, pick_false, by_cases}
use Rattle.laws.proofs.Truths.{both_true}
use Rattle.laws.proofs.Members.{every_first}
use Rattle.contract.specs.Tree.{Contract}
use Rattle.contract.specs.Decode.{each_from}
use Rattle.contract_laws.proofs.Inversions.{by_test}
use Rattle.contract_laws.proofs.Members.{length_each}
use Rattle.results.specs.declared.Report.{Report}
use Rattle.results.specs.declared.Report.TheVariants.{Ruled, Sent, Held, Refused, Failed}
use Rattle.pages.specs.Entries.{Entry, entry_at, entries_of}
use Rattle.contract.specs.Encode.{joined}
use Rattle.pages.specs.Page.{line_of, blank_lines, foot, sheet, sixty, page_of}
use Rattle.pages.specs.Gathering.{payouts, joins, gathered, numbers_after, values_after}
use Rattle.pages.specs.Promises.{Sheets, entries_in, turned, taken, sheets_after, no_sheets, pages_up_to, file_of, closed, SessionPages, SessionWaits}
use Rattle.pages.specs.declared.Gathered.{Gathered}
use Rattle.pages.proofs.Given.{entries_whole, entries_more}
use Rattle.pages.proofs.Widths.{foot_long}
use Rattle.pages.proofs.Cuts.{every_sixty}

-- ---- the payouts of result lines

-- at most one a line
payout_few : (rule clock : ℕ) (r : Report) → length (payouts rule clock (r ∷ [])) ≤ 1
unfolding payouts
payout_few rule clock (Ruled a b t) = omega arith
payout_few rule clock (Sent kind party value group) = by_cases (λ (l : List Entry). length l ≤ 1) _ _ _ (λ _. omega arith) λ _. omega arith
payout_few rule clock (Held a b) = omega arith
payout_few rule clock (Refused n) = omega arith
payout_few rule clock (Failed n) = omega arith

-- a label leaves the rule and the clock
rule_kept : (g : Gathered) (kind party : ℕ) (value : ℤ) (group : ℕ) → (gathered g (Sent kind party value group)).rule ≡ g.rule
unfolding gathered
rule_kept g kind party value group = by_cases (λ (h : Gathered). h.rule ≡ g.rule) _ _ _ (λ _. refl) λ _. refl

clock_kept : (g : Gathered) (kind party : ℕ) (value : ℤ) (group : ℕ) → (gathered g (Sent kind party value group)).clock ≡ g.clock
unfolding gathered
clock_kept g kind party value group = by_cases (λ (h : Gathered). h.clock ≡ g.clock) _ _ _ (λ _. refl) λ _. refl

-- those of the first line, and then the others
payouts_then : (g : Gathered) (r : Report) (rs : List Report)
    → payouts g.rule g.clock (r ∷ rs) ≡ payouts g.rule g.clock (r ∷ []) ++ payouts (gathered g r).rule (gathered g r).clock rs
unfolding payouts gathered
payouts_then g (Ruled a b t) rs = refl
payouts_then g (Sent kind party value group) rs =
    let rest : payouts g.rule g.clock rs ≡ payouts (gathered g (Sent kind party value group)).rule (gathered g (Sent kind party value group)).clock rs =
    (λ i. payouts (sym (rule_kept g kind party value group) i) (sym (clock_kept g kind party value group) i) rs) in
    by_test (eqb kind 3)
    (λ e. pick_true _ _ _ e ∙ (λ i. record { kind = 3; party = party; rule = g.rule; clock = g.clock; value = value; group = group } ∷ rest i)
    ∙ ap (λ (l : List Entry). l ++ payouts (gathered g (Sent kind party value group)).rule (gathered g (Sent kind party value group)).clock rs) (sym (pick_true _ _ _ e)))
    λ e. pick_false _ _ _ e ∙ rest
    ∙ ap (λ (l : List Entry). l ++ payouts (gathered g (Sent kind party value group)).rule (gathered g (Sent kind party value group)).clock rs) (sym (pick_false _ _ _ e))
payouts_then g (Held a b) rs = refl
payouts_then g (Refused n) rs = refl
payouts_then g (Failed n) rs = refl

-- ---- one line

-- the first k entries of lent lists
abbrev pub first_entries : ℕ → List ℕ → List ℤ → List Entry
first_entries k numbers values = entries_of (take (5 * k) numbers) (take k values)

-- lent lists with room for a page hold these entries first, as many as are counted
pub record Keeps (g : Gathered) (numbers : List ℕ) (values : List ℤ) (es : List Entry) : Type 0 where
  pub count : g.count ≤ 60
  pub numbers_long : 300 ≤ length numbers
  pub values_long : 60 ≤ length values
  pub entries : first_entries g.count numbers values ≡ es

module _ {g : Gathered} {ns : List ℕ} {zs : List ℤ} {es : List Entry} (k : Keeps g ns zs es) where
  numbers_taken : length (take (5 * g.count) ns) ≡ 5 * g.count
  numbers_taken = length-take-le (5 * g.count) ns (omega (arith, k.count, k.numbers_long))

  values_taken : length (take g.count zs) ≡ g.count
  values_taken = length-take-le g.count zs (omega (arith, k.count, k.values_long))

  counted : length es ≡ g.count
  counted =
      sym (ap length k.entries)
      ∙ ap length (entries_whole (take (5 * g.count) ns) (take g.count zs) (omega (arith, numbers_taken, values_taken)))
      ∙ length_each 0 (length (take g.count zs)) (entry_at (take (5 * g.count) ns) (take g.count zs))
      ∙ values_taken

  -- the same entries, where only the rule and the clock are others
  pub keeps_as : (h : Gathered) → h.count ≡ g.count → Keeps h ns zs (es ++ [])
  keeps_as h e =
      record {
        count = omega (arith, k.count, e);
        numbers_long = k.numbers_long;
        values_long = k.values_long;
        entries = ap (λ (n : ℕ). first_entries n ns zs) e ∙ k.entries ∙ sym (append-nil es);
      }

  -- one more
  pub keeps_more : (h : Gathered) → h.count ≡ g.count + 1 → g.count < 60 → (party rule clock : ℕ) (value : ℤ) (group : ℕ)
      → Keeps h (sets ns (5 * g.count) (3 ∷ party ∷ rule ∷ clock ∷ group ∷ [])) (set zs g.count value)
      (es ++ (record { kind = 3; party = party; rule = rule; clock = clock; value = value; group = group } ∷ []))
  keeps_more h e l party rule clock value group =
      let five : List ℕ = 3 ∷ party ∷ rule ∷ clock ∷ group ∷ [] in
      let ns' = sets ns (5 * g.count) five in
      let room : 5 * g.count + length five ≤ length ns = omega (arith, k.numbers_long) in
      let wide : length (take (5 * g.count) ns ++ five) ≡ 5 * h.count = omega (arith, length-append (take (5 * g.count) ns) five, numbers_taken) in
      let numbers : take (5 * h.count) ns' ≡ take (5 * g.count) ns ++ five =
      ap (take (5 * h.count)) (sets-eq five ns (5 * g.count) room)
      ∙ take_at (take (5 * g.count) ns ++ five) (drop (5 * g.count + length five) ns) (5 * h.count) wide in
      let s : h.count ≡ suc g.count = omega (arith, e) in
      let values : take h.count (set zs g.count value) ≡ take g.count zs ++ (value ∷ []) =
      ap (λ (n : ℕ). take n (set zs g.count value)) s ∙ take-suc-set zs g.count value (omega (arith, k.values_long)) in
      record {
        count = omega (arith, e);
        numbers_long = omega (arith, length-sets ns (5 * g.count) five, k.numbers_long);
        values_long = omega (arith, length-set zs g.count value, k.values_long);
        entries =
            (λ i. entries_of (numbers i) (values i))
            ∙ entries_more (take (5 * g.count) ns) (take g.count zs) (omega (arith, numbers_taken, values_taken)) 3 party rule clock group value
            ∙ ap (λ (l : List Entry). l ++ (record { kind = 3; party = party; rule = rule; clock = clock; value = value; group = group } ∷ [])) k.entries;
      }

keeps_same : {g h : Gathered} {ns ms : List ℕ} {zs ys : List ℤ} {es ds : List Entry} → g ≡ h → ns ≡ ms → zs ≡ ys → es ≡ ds → Keeps g ns zs es → Keeps h ms ys ds
keeps_same {g} {h} {ns} {ms} {zs} {ys} {es} {ds} a b c d k =
    subst (λ (x : Gathered). Keeps x ms ys ds) a
    (subst (λ (x : List ℕ). Keeps g x ys ds) b
    (subst (λ (x : List ℤ). Keeps g ns x ds) c
    (subst (λ (x : List Entry). Keeps g ns zs x) d k)))

-- a payout that has room joins the entries; no other line does
pub gather_one : (g : Gathered) (ns : List ℕ) (zs : List ℤ) (es : List Entry) (r : Report) → Keeps g ns zs es
    → length es + length (payouts g.rule g.clock (r ∷ [])) ≤ 60
    → Keeps (gathered g r) (numbers_after g r ns) (values_after g r zs) (es ++ payouts g.rule g.clock (r ∷ []))
unfolding payouts gathered numbers_after values_after joins
gather_one g ns zs es (Ruled rule state clock) k h = keeps_as k (record { rule = rule; clock = clock; count = g.count }) refl
gather_one g ns zs es (Sent kind party value group) k h =
    by_test (eqb kind 3)
    (λ e.
    let few : length es + 1 ≤ 60 = subst (λ (l : List Entry). length es + length l ≤ 60) (pick_true _ _ _ e) h in
    let l : g.count < 60 = omega (arith, counted k) in
    let j : eqb kind 3 && ltb g.count 60 ≡ true = both_true (eqb kind 3) (ltb g.count 60) e (lt-ltb g.count 60 l) in
    keeps_same
    (sym (pick_true _ _ _ j))
    (sym (pick_true _ _ _ j))
    (sym (pick_true _ _ _ j))
    (ap (λ (l : List Entry). es ++ l) (sym (pick_true _ _ _ e)))
    (keeps_more k (record { rule = g.rule; clock = g.clock; count = g.count + 1 }) refl l party g.rule g.clock value group))
    λ e.
    let j : eqb kind 3 && ltb g.count 60 ≡ false = ap (λ (b : Bool). b && ltb g.count 60) e in
    keeps_same
    (sym (pick_false _ _ _ j))
    (sym (pick_false _ _ _ j))
    (sym (pick_false _ _ _ j))
    (ap (λ (l : List Entry). es ++ l) (sym (pick_false _ _ _ e)))
    (keeps_as k g refl)
gather_one g ns zs es (Held a b) k h = keeps_as k g refl
gather_one g ns zs es (Refused n) k h = keeps_as k g refl
gather_one g ns zs es (Failed n) k h = keeps_as k g refl

-- ---- pages that are written when they are full

-- the pages of entries with more behind them
pages_more : (c : Contract) (es ds : List Entry) (k : ℕ) → 60 * k ≤ length es → pages_up_to c (es ++ ds) k ≡ pages_up_to c es k
unfolding pages_up_to
pages_more c es ds zero h = refl
pages_more c es ds (suc k) h =
    let l : 60 ≤ length (drop (60 * k) es) = omega (arith, length-drop (60 * k) es) in
    let e : sixty k (es ++ ds) ≡ sixty k es = ap (take 60) (drop-append-le (60 * k) es ds (omega arith)) ∙ take-append-le 60 (drop (60 * k) es) ds l in
    λ i. pages_more c es ds k (omega arith) i ++ sheet c (e i)

pages_next : (c : Contract) (es : List Entry) (k : ℕ) → pages_up_to c es (suc k) ≡ pages_up_to c es k ++ page_of c es k
unfolding pages_up_to
pages_next c es k = refl

-- the full pages of es are written, and the entries after them are kept
record Runs (c : Contract) (s : Sheets) (es : List Entry) : Type 0 where
  pub written : s.bytes ≡ pages_up_to c es (length es / 60)
  pub kept : Keeps s.gathered s.numbers s.values (drop (60 * (length es / 60)) es)

-- no entry
keeps_none : {g : Gathered} {ns : List ℕ} {zs : List ℤ} {es : List Entry} → 300 ≤ length ns → 60 ≤ length zs → g.count ≡ 0 → es ≡ [] → Keeps g ns zs es
unfolding entries_of each_from
keeps_none {g} {ns} {zs} h l e d =
    record { count = omega (arith, e); numbers_long = h; values_long = l; entries = ap (λ (n : ℕ). first_entries n ns zs) e ∙ sym d }

-- one entry at most joins them; a page that is full then is written
runs_more : (c : Contract) (s : Sheets) (es ds : List Entry) → s.bytes ≡ pages_up_to c es (length es / 60) → length ds ≤ 1
    → Keeps s.gathered s.numbers s.values (drop (60 * (length es / 60)) es ++ ds) → Runs c (turned c s) (es ++ ds)
unfolding turned
runs_more c s es ds w few k =
    let q = length es / 60 in
    let rest = drop (60 * q) es in
    let low : 60 * q ≤ length es = omega arith in
    let all : length (es ++ ds) ≡ length es + length ds = length-append es ds in
    let many : length (rest ++ ds) ≡ length es - 60 * q + length ds = omega (arith, length-append rest ds, length-drop (60 * q) es) in
    let behind : drop (60 * q) (es ++ ds) ≡ rest ++ ds = drop-append-le (60 * q) es ds low in
    let before : s.bytes ≡ pages_up_to c (es ++ ds) q = w ∙ sym (pages_more c es ds q low) in
    by_cases (λ (t : Sheets). Runs c t (es ++ ds)) _ _ _
    (λ t.
    let n : s.gathered.count ≡ 60 = eqb-true s.gathered.count 60 t in
    let up : length (es ++ ds) / 60 ≡ suc q = omega (arith, counted k) in
    let page : entries_in s ≡ drop (60 * q) (es ++ ds) = k.entries ∙ sym behind in
    let past : length (es ++ ds) ≤ 60 * (length (es ++ ds) / 60) = omega (arith, counted k) in
    record {
      written = (λ i. before i ++ sheet c (take 60 (page i))) ∙ sym (pages_next c (es ++ ds) q) ∙ ap (pages_up_to c (es ++ ds)) (sym up);
      kept = keeps_none k.numbers_long k.values_long refl (drop_of_length-le (es ++ ds) past);
    })
    λ t.
    let n : s.gathered.count ≡ 60 → ⊥ = eqb-false s.gathered.count 60 t in
    let same : length (es ++ ds) / 60 ≡ q = omega (arith, counted k, k.count) in
    record {
      written = before ∙ ap (pages_up_to c (es ++ ds)) (sym same);
      kept = keeps_same refl refl refl (sym behind ∙ ap (λ (m : ℕ). drop (60 * m) (es ++ ds)) (sym same)) k;
    }

-- the rule and the clock stay when a page is written
turned_rule : (c : Contract) (s : Sheets) → (turned c s).gathered.rule ≡ s.gathered.rule
unfolding turned
turned_rule c s = by_cases (λ (t : Sheets). t.gathered.rule ≡ s.gathered.rule) _ _ _ (λ _. refl) λ _. refl

turned_clock : (c : Contract) (s : Sheets) → (turned c s).gathered.clock ≡ s.gathered.clock
unfolding turned
turned_clock c s = by_cases (λ (t : Sheets). t.gathered.clock ≡ s.gathered.clock) _ _ _ (λ _. refl) λ _. refl

taken_rule : (c : Contract) (s : Sheets) (r : Report) → (turned c (taken s r)).gathered.rule ≡ (gathered s.gathered r).rule
unfolding taken
taken_rule c s r = turned_rule c (taken s r)

taken_clock : (c : Contract) (s : Sheets) (r : Report) → (turned c (taken s r)).gathered.clock ≡ (gathered s.gathered r).clock
unfolding taken
taken_clock c s r = turned_clock c (taken s r)

no_runs : (c : Contract) (ns : List ℕ) (zs : List ℤ) → 300 ≤ length ns → 60 ≤ length zs → Runs c (no_sheets ns zs) []
unfolding pages_up_to
no_runs c ns zs h l = record { written = refl; kept = keeps_none h l refl refl }

runs_one : (c : Contract) (s : Sheets) (es : List Entry) (r : Report) → Runs c s es
    → Runs c (turned c (taken s r)) (es ++ payouts s.gathered.rule s.gathered.clock (r ∷ []))
unfolding taken
runs_one c s es r k =
    let few = payout_few s.gathered.rule s.gathered.clock r in
    let rest = drop (60 * (length es / 60)) es in
    let room : length rest + length (payouts s.gathered.rule s.gathered.clock (r ∷ [])) ≤ 60 = omega (arith, length-drop (60 * (length es / 60)) es) in
    runs_more c (taken s r) es (payouts s.gathered.rule s.gathered.clock (r ∷ [])) k.written few
    (gather_one s.gathered s.numbers s.values rest r k.kept room)

runs_all : (c : Contract) (s : Sheets) (es : List Entry) (rs : List Report) → Runs c s es
    → Runs c (sheets_after c s rs) (es ++ payouts s.gathered.rule s.gathered.clock rs)
unfolding sheets_after payouts
runs_all c s es [] k = subst (λ (l : List Entry). Runs c s l) (sym (append-nil es)) k
runs_all c s es (r ∷ rs) k =
    let g = s.gathered in
    let t = turned c (taken s r) in
    let p = payouts g.rule g.clock (r ∷ []) in
    let rule : t.gathered.rule ≡ (gathered g r).rule = taken_rule c s r in
    let clock : t.gathered.clock ≡ (gathered g r).clock = taken_clock c s r in
    let e : (es ++ p) ++ payouts t.gathered.rule t.gathered.clock rs ≡ es ++ payouts g.rule g.clock (r ∷ rs) =
    append_assoc es p (payouts t.gathered.rule t.gathered.clock rs)
    ∙ (λ i. es ++ (p ++ payouts (rule i) (clock i) rs))
    ∙ ap (λ (l : List Entry). es ++ l) (sym (payouts_then g r rs)) in
    subst (λ (l : List Entry). Runs c (sheets_after c t rs) l) e (runs_all c t (es ++ p) rs (runs_one c s es r k))

-- the payouts of lines, and of those after them
payouts_append : (c : Contract) (s : Sheets) (xs ys : List Report)
    → let t = sheets_after c s xs in
    payouts s.gathered.rule s.gathered.clock (xs ++ ys) ≡ payouts s.gathered.rule s.gathered.clock xs ++ payouts t.gathered.rule t.gathered.clock ys
unfolding sheets_after payouts
payouts_append c s [] ys = refl
payouts_append c s (r ∷ xs) ys =
    let g = s.gathered in
    let t = turned c (taken s r) in
    let p = payouts g.rule g.clock (r ∷ []) in
    let first : (l : List Report) → payouts g.rule g.clock (r ∷ l) ≡ p ++ payouts t.gathered.rule t.gathered.clock l =
    λ l. payouts_then g r l ∙ sym (λ i. p ++ payouts (taken_rule c s r i) (taken_clock c s r i) l) in
    let u = sheets_after c t xs in
    let rest = payouts u.gathered.rule u.gathered.clock ys in
    first (xs ++ ys)
    ∙ ap (λ (l : List Entry). p ++ l) (payouts_append c t xs ys)
    ∙ sym (append_assoc p (payouts t.gathered.rule t.gathered.clock xs) rest)
    ∙ ap (λ (l : List Entry). l ++ rest) (sym (first xs))

-- ---- the file

page_some : (c : Contract) (es : List Entry) (n : ℕ) → 1 ≤ length (page_of c es n)
unfolding sheet
page_some c es n =
    let l = sixty n es in
    let a = joined (line_of c) l in
    let b = blank_lines (60 - length l) in
    omega (arith, length-append a (b ++ foot (length l)), length-append b (foot (length l)), foot_long (length l))

some_pages : (c : Contract) (es : List Entry) (k : ℕ) → length (pages_up_to c es k) ≡ 0 → k ≡ 0
unfolding pages_up_to
some_pages c es zero e = refl
some_pages c es (suc k) e = absurd (omega (arith, e, length-append (pages_up_to c es k) (page_of c es k), page_some c es k))

no_pages : (c : Contract) (es : List Entry) → length (pages_up_to c es 0) ≡ 0
unfolding pages_up_to
no_pages c es = refl

module _ (c : Contract) (s : Sheets) (es : List Entry) (k : Runs c s es) where
  left_over : s.gathered.count ≡ length es - 60 * (length es / 60)
  left_over = sym (counted k.kept) ∙ length-drop (60 * (length es / 60)) es

  -- the last page is written
  with_last : (length es - 1) / 60 ≡ length es / 60
      → s.bytes ++ page_of c (entries_in s) 0 ≡ pages_up_to c es (suc ((length es - 1) / 60))
  with_last e =
      (λ i. k.written i ++ page_of c (k.kept.entries i) 0)
      ∙ sym (pages_next c es (length es / 60))
      ∙ ap (λ (n : ℕ). pages_up_to c es (suc n)) (sym e)

  file_is : closed c s ≡ file_of c es
  unfolding closed file_of
  file_is =
      by_test (eqb s.gathered.count 0)
      (λ z.
      let n : s.gathered.count ≡ 0 = eqb-true s.gathered.count 0 z in
      by_test (eqb (length s.bytes) 0)
      (λ b.
      let q : length es / 60 ≡ 0 = some_pages c es (length es / 60) (ap length (sym k.written) ∙ eqb-true (length s.bytes) 0 b) in
      pick_false _ _ _ (λ i. z i && not (b i)) ∙ with_last (omega (arith, q)))
      λ b.
      let d : length es / 60 ≡ 0 → ⊥ =
      λ e. eqb-false (length s.bytes) 0 b (ap length k.written ∙ ap (λ (m : ℕ). length (pages_up_to c es m)) e ∙ no_pages c es) in
      let up : length es / 60 ≡ suc ((length es - 1) / 60) = omega (arith, left_over, n, d) in
      pick_true _ _ _ (λ i. z i && not (b i)) ∙ k.written ∙ ap (pages_up_to c es) up)
      λ z.
      let d : s.gathered.count ≡ 0 → ⊥ = eqb-false s.gathered.count 0 z in
      pick_false _ _ _ (ap (λ (t : Bool). t && not (eqb (length s.bytes) 0)) z) ∙ with_last (omega (arith, left_over, d))

pub session_pages : SessionPages
session_pages c ns zs rs h l =
    let start : Runs c (no_sheets ns zs) [] = no_runs c ns zs h l in
    let k = runs_all c (no_sheets ns zs) [] rs start in
    let es = payouts 0 0 rs in
    let q = length es / 60 in
    let few : length (drop (60 * q) es) ≤ 60 = omega (arith, length-drop (60 * q) es) in
    let e : drop (60 * q) es ≡ sixty q es = sym (take_all 60 (drop (60 * q) es) few) in
    record {
      full = k.written;
      waiting = k.kept.entries ∙ e;
      last = ap (λ (l : List Entry). page_of c l 0) k.kept.entries;
      file = file_is c (sheets_after c (no_sheets ns zs) rs) es k;
    }

pub session_waits : SessionWaits
unfolding taken
session_waits c ns zs rs r h l =
    let s = sheets_after c (no_sheets ns zs) rs in
    let es = payouts 0 0 rs in
    let k : Runs c s es = runs_all c (no_sheets ns zs) [] rs (no_runs c ns zs h l) in
    let p = payouts s.gathered.rule s.gathered.clock (r ∷ []) in
    let q = length es / 60 in
    let rest = drop (60 * q) es in
    let few : length rest + length p ≤ 60 = omega (arith, length-drop (60 * q) es, payout_few s.gathered.rule s.gathered.clock r) in
    (gather_one s.gathered s.numbers s.values rest r k.kept few).entries
    ∙ sym (take_all 60 (rest ++ p) (omega (arith, length-append rest p)))
    ∙ ap (take 60) (sym (drop-append-le (60 * q) es p (omega arith)))
    ∙ ap (sixty q) (sym (payouts_append c (no_sheets ns zs) rs (r ∷ [])))

-- a test that all payouts pass, those that wait pass
pub waiting_all : (p : Entry → Bool) (c : Contract) (ns : List ℕ) (zs : List ℤ) (rs more : List Report) (r : Report) → 300 ≤ length ns → 60 ≤ length zs
    → every p (payouts 0 0 (rs ++ (r ∷ more))) ≡ true → every p (entries_in (taken (sheets_after c (no_sheets ns zs) rs) r)) ≡ true
waiting_all p c ns zs rs more r h l e =
    let none = no_sheets ns zs in
    let so_far = rs ++ (r ∷ []) in
    let t = sheets_after c none so_far in
    let all : payouts 0 0 (rs ++ (r ∷ more)) ≡ payouts 0 0 so_far ++ payouts t.gathered.rule t.gathered.clock more =
    ap (payouts 0 0) (sym (append_assoc rs (r ∷ []) more)) ∙ payouts_append c none so_far more in
    ap (every p) (session_waits c ns zs rs r h l)
    ∙ every_sixty p (length (payouts 0 0 rs) / 60) (payouts 0 0 so_far)
    (every_first p (payouts 0 0 so_far) (payouts t.gathered.rule t.gathered.clock more) (ap (every p) (sym all) ∙ e))
