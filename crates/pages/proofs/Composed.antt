-- A page composed of its lines, and the answer with it. Assumes nothing.
use mathlib.Core.Path.{◌≡◌, sym, ap, ◌∙◌}
use mathlib.Core.Bool.{true, false}
use mathlib.Core.List.{List, [], ◌∷◌, ◌++◌, append_assoc, append-nil}
use Prim.Native.Nat.{ℕ, zero, suc, ◌+◌, ◌-◌, ◌*◌, ◌<◌, ◌≤◌, min}
use native.Mathlib.Omega.{arith}
use lib.ListN.{length, take, drop}
use lib.IntN.{ℤ}
use lib.Dec.{leb}
use borrow.Author.Tests.{leb-true, leb-false, lt-ltb, le-ltb}
use Rattle.laws.specs.Lists.{every}
use Rattle.laws.proofs.Choice.{pick_true, pick_false}
use Rattle.contract.specs.Decode.{each_from, contract_of}
use Rattle.contract.specs.Check.{passes}
use Rattle.contract.specs.Encode.{joined}
use Rattle.contract_laws.proofs.Inversions.{by_test}
use Rattle.contract_laws.proofs.Members.{length_each, every_each}
use Rattle.contract_laws.proofs.Sound.{sound}
use Rattle.printing.specs.Pieces.{Put}
use Rattle.printing.proofs.Puts.{kept, over, line_end_lem, same, put_nothing, then, from_start}
use Rattle.pages.specs.Entries.{Entry, is_payout, entry_at, entries_of}
use Rattle.pages.specs.Page.{line_of, blank_line, blank_lines, foot, sheet, sixty, page_of}
use Rattle.pages.specs.Answers.{paged, after, buffer_after}
use Rattle.tables.specs.declared.Passed.{Passed}
use Rattle.std.specs.Prelude.{Result, Ok, Err}
use Rattle.questions.specs.declared.Question.{Question}
use Rattle.questions.specs.declared.Question.TheVariants as ask
use Rattle.pages.proofs.Widths.{line_long, lines_long, blanks_long, sheet_long}
use Rattle.pages.proofs.Cuts.{every_sixty, sixty_long, joined_append, joined_one}
use Rattle.pages.proofs.Given.{each_snoc, each_take, each_drop, entries_whole}
use Rattle.pages.proofs.Asking.{all_whole, pays_at}

-- ---- the lines of entries

-- a table and all entries given, as questions 3 and 61 passed them
pub record AllPayable (w ns : List ℕ) (zs : List ℤ) : Type 0 where
  pub table : passes w ≡ true
  pub payouts : every (is_payout (contract_of w)) (entries_of ns zs) ≡ true

pub all_payable : (terms : Passed) (ns : List ℕ) (zs : List ℤ) → every (is_payout (contract_of terms.table.now)) (entries_of ns zs) ≡ true
    → AllPayable terms.table.now ns zs
all_payable terms ns zs p = record { table = terms.whole; payouts = p }

module _ {w ns : List ℕ} {zs : List ℤ} (a : AllPayable w ns zs) where
  pub each_payable : (i : ℕ) → i < length zs → is_payout (contract_of w) (entry_at ns zs i) ≡ true
  each_payable i l = pays_at (contract_of w) ns zs a.payouts i l

  pub each_whole : (i : ℕ) → i < length zs → (5 * i + 5 ≤ length ns) × (i < length zs)
  each_whole i l = (omega (arith, all_whole (contract_of w) ns zs a.payouts), l)

  each_long : (i : ℕ) → i < length zs → length (line_of (contract_of w) (entry_at ns zs i)) ≡ 85
  each_long i l = line_long (contract_of w) (sound w a.table) (entry_at ns zs i) (each_payable i l)

  -- the lines before entry i stand first in the buffer
  part_long : (from n : ℕ) → from + n ≤ length zs → length (joined (line_of (contract_of w)) (each_from from n (entry_at ns zs))) ≡ 85 * n
  part_long from n h =
      let es = each_from from n (entry_at ns zs) in
      let p : every (is_payout (contract_of w)) es ≡ true =
      every_each (is_payout (contract_of w)) from n (entry_at ns zs) (λ j l. each_payable (from + j) (omega arith)) in
      lines_long (contract_of w) (sound w a.table) es p ∙ ap (λ (k : ℕ). 85 * k) (length_each from n (entry_at ns zs))

pub record Going (w ns : List ℕ) (zs : List ℤ) (from to : ℕ) (old : List ℕ) (at : ℕ) (i : ℕ) (new : List ℕ) (end : ℕ) : Type 0 where
  pub first : from ≤ i
  pub few : i - from ≤ to - from
  pub lines : Put old at (joined (line_of (contract_of w)) (each_from from (i - from) (entry_at ns zs))) end new

module _ {w ns : List ℕ} {zs : List ℤ} {from to : ℕ} {old : List ℕ} {at : ℕ} where
  pub start : at + 0 ≤ length old → Going w ns zs from to old at from old at
  unfolding joined each_from
  start h =
      let e : 0 ≡ from - from = omega arith in
      record {
        first = omega arith;
        few = omega arith;
        lines = same (ap (λ (k : ℕ). joined (line_of (contract_of w)) (each_from from k (entry_at ns zs))) e) (put_nothing (omega (arith, h)));
      }

  module _ {i : ℕ} {new : List ℕ} {end : ℕ} (g : Going w ns zs from to old at i new end) where
    pub line_room : AllPayable w ns zs → to ≤ length zs → at + (85 * (to - from)) ≤ length old → i < to
        → end + length (line_of (contract_of w) (entry_at ns zs i)) ≤ length new
    line_room a h r l =
        omega (arith, g.lines.place, part_long a from (i - from) (omega (arith, g.first)), each_long a i (omega arith), kept g.lines, g.first)

    pub turn : {next : List ℕ} {past : ℕ} → i < to → Put new end (line_of (contract_of w) (entry_at ns zs i)) past next → Going w ns zs from to old at (i + 1) next past
    turn l p =
        let c = contract_of w in
        let e : i + 1 - from ≡ suc (i - from) = omega (arith, g.first) in
        let f : from + (i - from) ≡ i = omega (arith, g.first) in
        let done = each_from from (i - from) (entry_at ns zs) in
        let more : joined (line_of c) done ++ line_of c (entry_at ns zs i) ≡ joined (line_of c) (each_from from (i + 1 - from) (entry_at ns zs)) =
        sym
        (ap (λ (m : ℕ). joined (line_of c) (each_from from m (entry_at ns zs))) e
        ∙ ap (joined (line_of c)) (each_snoc from (i - from) (entry_at ns zs))
        ∙ joined_append (line_of c) done (entry_at ns zs (from + (i - from)) ∷ [])
        ∙ ap (λ (l : List ℕ). joined (line_of c) done ++ l) (joined_one (line_of c) (entry_at ns zs (from + (i - from))))
        ∙ ap (λ (m : ℕ). joined (line_of c) done ++ line_of c (entry_at ns zs m)) f) in
        record { first = omega (arith, g.first); few = omega (arith, g.first); lines = same more (then g.lines p) }

    pub all_lines : to ≤ i → Put old at (joined (line_of (contract_of w)) (each_from from (to - from) (entry_at ns zs))) end new
    all_lines l =
        let e : i - from ≡ to - from = omega (arith, g.few) in
        same (ap (λ (k : ℕ). joined (line_of (contract_of w)) (each_from from k (entry_at ns zs))) e) g.lines

-- ---- blank lines

blanks_more : (n : ℕ) → blank_lines n ++ blank_line ≡ blank_lines (n + 1)
unfolding blank_lines
blanks_more n = go n ∙ ap blank_lines (omega_suc n)
  where
    omega_suc : (n : ℕ) → suc n ≡ n + 1
    omega_suc n = omega arith

    go : (n : ℕ) → blank_lines n ++ blank_line ≡ blank_lines (suc n)
    go zero = sym (append-nil blank_line)
    go (suc n) = append_assoc blank_line (blank_lines n) blank_line ∙ ap (λ (l : List ℕ). blank_line ++ l) (go n)

pub record Blanked (n : ℕ) (old : List ℕ) (at : ℕ) (i : ℕ) (new : List ℕ) (end : ℕ) : Type 0 where
  pub few : i ≤ n
  pub lines : Put old at (blank_lines i) end new

module _ {n : ℕ} {old : List ℕ} {at : ℕ} where
  pub none_blank : at + (85 * n) ≤ length old → Blanked n old at 0 old at
  unfolding blank_lines
  none_blank h = record { few = omega arith; lines = put_nothing (omega arith) }

  module _ {i : ℕ} {new : List ℕ} {end : ℕ} (b : Blanked n old at i new end) where
    pub blank_room : at + (85 * n) ≤ length old → i < n → end + 85 ≤ length new
    blank_room h l = omega (arith, b.lines.place, blanks_long i, kept b.lines)

    pub more_blank : {next : List ℕ} {past : ℕ} → i < n → Put new end blank_line past next → Blanked n old at (i + 1) next past
    more_blank l p = record { few = omega arith; lines = same (blanks_more i) (then b.lines p) }

    pub all_blank : n ≤ i → Put old at (blank_lines n) end new
    all_blank l = let e : i ≡ n = omega (arith, b.few) in same (ap blank_lines e) b.lines

-- ---- the page

no_each : {A : Type 0} (i n : ℕ) (f : ℕ → A) → n ≡ 0 → each_from i n f ≡ []
unfolding each_from
no_each i n f e = ap (λ (k : ℕ). each_from i k f) e

module _ {w ns : List ℕ} {zs : List ℤ} (a : AllPayable w ns zs) (number : ℕ) {first end : ℕ} (f : first ≡ min (60 * number) (length zs)) (e : end ≡ min (first + 60) (length zs)) where
  -- the entries on it
  on_page : sixty number (entries_of ns zs) ≡ each_from first (end - first) (entry_at ns zs)
  on_page =
      let n = 60 * number in
      let k = length zs in
      let g = entry_at ns zs in
      ap (sixty number) (entries_whole ns zs (all_whole (contract_of w) ns zs a.payouts))
      ∙ ap (take 60) (each_drop n 0 k g)
      ∙ each_take 60 (0 + n) (k - n) g
      ∙ by_test (leb n k)
      (λ t.
      let l : n ≤ k = leb-true n k t in
      let p : 0 + n ≡ first = omega (arith, f) in
      let q : min 60 (k - n) ≡ end - first = omega (arith, f, e) in
      λ j. each_from (p j) (q j) g)
      λ t.
      let l : k < n = leb-false n k t in
      no_each (0 + n) (min 60 (k - n)) g (omega arith) ∙ sym (no_each first (end - first) g (omega (arith, f, e)))

  counted : length (sixty number (entries_of ns zs)) ≡ end - first
  counted = ap length on_page ∙ length_each first (end - first) (entry_at ns zs)

  module _ {lent old : List ℕ} {at : ℕ} (h : 5185 ≤ length lent) (s : at ≡ 0) (g : old ≡ lent) where
    pub lines_room : (end ≤ length zs) × (at + 85 * (end - first) ≤ length old)
    lines_room = (omega (arith, e), omega (arith, h, f, e, s, ap length g))

    module _ {l1 : List ℕ} {a1 : ℕ} (p : Put old at (joined (line_of (contract_of w)) (each_from first (end - first) (entry_at ns zs))) a1 l1) where
      lines_end : a1 ≡ 85 * (end - first)
      lines_end = omega (arith, p.place, s, part_long a first (end - first) (omega (arith, f, e)))

      pub blanks_room : a1 + 85 * (60 - (end - first)) ≤ length l1
      blanks_room = omega (arith, h, lines_end, kept p, ap length g, f, e)

      module _ {l2 : List ℕ} {a2 : ℕ} (q : Put l1 a1 (blank_lines (60 - (end - first))) a2 l2) where
        pub foot_room : (end - first < 100) × (a2 + 85 ≤ length l2)
        foot_room = (omega (arith, f, e), omega (arith, h, lines_end, kept p, ap length g, q.place, kept q, blanks_long (60 - (end - first)), f, e))

        pub page_put : {l3 new : List ℕ} {a3 : ℕ} → Put l2 a2 (foot (end - first)) a3 l3 → new ≡ l3 → new ≡ page_of (contract_of w) (entries_of ns zs) number ++ drop 5185 lent
        unfolding sheet
        page_put {l3} {new} {a3} r last =
            let c = contract_of w in
            let es = entries_of ns zs in
            let is : joined (line_of c) (each_from first (end - first) (entry_at ns zs)) ++ (blank_lines (60 - (end - first)) ++ foot (end - first)) ≡ page_of c es number =
            (λ i. joined (line_of c) (sym on_page i) ++ (blank_lines (60 - sym counted i) ++ foot (sym counted i))) in
            let t : Put lent 0 (page_of c es number) a3 new = from_start s g (same is (then p (then q r))) last in
            let few : length (sixty number es) ≤ 60 = omega (arith, sixty_long number es) in
            let long : a3 ≡ 5185 = line_end_lem t ∙ sheet_long c (sound w a.table) (sixty number es) (every_sixty (is_payout c) number es a.payouts) few in
            over t ∙ ap (λ (k : ℕ). page_of c es number ++ drop k lent) long

-- ---- the answer and the buffer

abbrev pub PageAnswers : List ℕ → List Entry → ℕ → List ℕ → Result Unit Question → List ℕ → Type 0
PageAnswers w es n old r new = record { value : r ≡ paged w es (length old); buffer_after : new ≡ buffer_after w es n old }

module _ (w : List ℕ) (es : List Entry) (n : ℕ) (old : List ℕ) where
  refused_page : (q : Question) → Err q ≡ paged w es (length old) → PageAnswers w es n old (Err q) old
  unfolding after
  refused_page q e = record { value = e; buffer_after = ap (λ (r : Result Unit Question). after r (page_of (contract_of w) es n) old) e }

  pub short_buffer : length old < 5185 → PageAnswers w es n old (Err ask.PageRoom) old
  unfolding paged
  short_buffer h = refused_page ask.PageRoom (sym (pick_true _ _ _ (lt-ltb (length old) 5185 h)))

  module _ (h : 5185 ≤ length old) where
    pub no_table : passes w ≡ false → PageAnswers w es n old (Err ask.TableCheck) old
    unfolding paged
    no_table t = refused_page ask.TableCheck (sym (pick_false _ _ _ (le-ltb (length old) 5185 h) ∙ pick_false _ _ _ t))

    pub no_payouts : passes w ≡ true → every (is_payout (contract_of w)) es ≡ false → PageAnswers w es n old (Err ask.PageEntries) old
    unfolding paged
    no_payouts t p = refused_page ask.PageEntries (sym (pick_false _ _ _ (le-ltb (length old) 5185 h) ∙ pick_true _ _ _ t ∙ pick_false _ _ _ p))

    pub page_written : passes w ≡ true → every (is_payout (contract_of w)) es ≡ true → {new : List ℕ} → new ≡ page_of (contract_of w) es n ++ drop 5185 old
        → PageAnswers w es n old (Ok tt) new
    unfolding paged after
    page_written t p e =
        let q = sym (pick_false _ _ _ (le-ltb (length old) 5185 h) ∙ pick_true _ _ _ t ∙ pick_true _ _ _ p) in
        record { value = q; buffer_after = e ∙ ap (λ (r : Result Unit Question). after r (page_of (contract_of w) es n) old) q }
