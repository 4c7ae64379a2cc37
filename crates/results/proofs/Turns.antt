-- Many reports and their lines, one a turn. Assumes nothing.
use Rattle.std.specs.List.{HoldsAt, list_all, range_with_len}
use Rattle.std.specs.Simd.{first_chunks}
use Rattle.std.proofs.lemmas.List.{drop-drop, get_or-drop, get_or-take}
use mathlib.Core.Path.{◌≡◌, refl, sym, ap, subst, ◌∙◌}
use mathlib.Core.Bool.{Bool, true, false, ◌&&◌}
use mathlib.Core.List.{List, [], ◌∷◌, ◌++◌, append_assoc, append-nil}
use Prim.Native.Nat.{ℕ, zero, suc, ◌+◌, ◌-◌, ◌*◌, ◌/◌, ◌<◌, ◌≤◌, min}
use native.Mathlib.Nat.{add-zero}
use native.Mathlib.Omega.{arith}
use lib.ListN.{length, get_or, take, drop}
use lib.IntN.{ℤ, pos}
use lib.Dec.{eqb}
use borrow.Rule.Slice.PartMut.{mid_of, put_mid, mid_len}
use borrow.Author.Tests.{eq-eqb, ne_eqb, lt-ltb, le-ltb, eqb-true, eqb-false}
use Rattle.laws.specs.Choice.{pick}
use Rattle.laws.specs.Lists.{every}
use Rattle.laws.proofs.Choice.{pick_true, pick_false, true_false}
use Rattle.laws.proofs.Truths.{both_left, both_right}
use Rattle.contract.specs.Tree.{Contract}
use Rattle.contract.specs.Decode.{contract_of}
use Rattle.contract.specs.Check.{passes}
use Rattle.contract_laws.proofs.Inversions.{by_test}
use Rattle.printing.specs.Pieces.{Put}
use Rattle.printing.proofs.Puts.{kept, then, same, over, line_end_lem, part_put}
use Rattle.results.specs.Coded.{report_from, report_of, whole_of, report_at, reports_from}
use Rattle.results.specs.Lines.{report_ok, told_ok, line_of}
use Rattle.results.specs.Results.{first_reports, batch_of, batch, lines_of, batch_after}
use Rattle.results.specs.Private.{AllReady, PutLine}
use denote.Bor.{Bor}
use Rattle.std.specs.Prelude.{Result, Ok, Err, Option, Some, None, MatchOption}
use Rattle.questions.specs.declared.Question.{Question}
use Rattle.questions.specs.declared.Question.TheVariants as ask
use Rattle.results.specs.declared.Batch.{Batch}
use Rattle.results.specs.declared.Report.{Report}
use Rattle.results.specs.declared.many.Coded.{Coded}
use Rattle.results.specs.declared.Report.TheVariants.{Ruled, Sent, Held, Refused, Failed}

-- ---- a report from its numbers

module _ (which a b c : ℕ) (z : ℤ) where
  pub ruled_from : a < 256 → which ≡ 1 → Some (Ruled a b c) ≡ report_from which a b c z
  unfolding report_from
  ruled_from h e = sym (pick_true _ _ _ (lt-ltb a 256 h) ∙ pick_true _ _ _ (eq-eqb which 1 e))

  -- x is the value as its bits give it
  pub sent_from : {x : ℤ} → x ≡ z → a < 256 → (which ≡ 1 → ⊥) → which ≡ 2 → Some (Sent a b x c) ≡ report_from which a b c z
  unfolding report_from
  sent_from q h d e =
      ap (λ (v : ℤ). Some (Sent a b v c)) q ∙ sym (pick_true _ _ _ (lt-ltb a 256 h) ∙ pick_false _ _ _ (ne_eqb which 1 d) ∙ pick_true _ _ _ (eq-eqb which 2 e))

  pub held_from : a < 256 → (which ≡ 1 → ⊥) → (which ≡ 2 → ⊥) → which ≡ 3 → Some (Held a b) ≡ report_from which a b c z
  unfolding report_from
  held_from h d e f =
      sym (pick_true _ _ _ (lt-ltb a 256 h) ∙ pick_false _ _ _ (ne_eqb which 1 d) ∙ pick_false _ _ _ (ne_eqb which 2 e) ∙ pick_true _ _ _ (eq-eqb which 3 f))

  -- past the first three kinds
  late_from : a < 256 → (which ≡ 1 → ⊥) → (which ≡ 2 → ⊥) → (which ≡ 3 → ⊥)
      → report_from which a b c z ≡ pick (eqb which 4) (Some (Refused a)) (pick (eqb which 5) (Some (Failed a)) None)
  unfolding report_from
  late_from h d e f = pick_true _ _ _ (lt-ltb a 256 h) ∙ pick_false _ _ _ (ne_eqb which 1 d) ∙ pick_false _ _ _ (ne_eqb which 2 e) ∙ pick_false _ _ _ (ne_eqb which 3 f)

  pub refused_from : a < 256 → (which ≡ 1 → ⊥) → (which ≡ 2 → ⊥) → (which ≡ 3 → ⊥) → which ≡ 4 → Some (Refused a) ≡ report_from which a b c z
  refused_from h d e f g = sym (late_from h d e f ∙ pick_true _ _ _ (eq-eqb which 4 g))

  pub failed_from : a < 256 → (which ≡ 1 → ⊥) → (which ≡ 2 → ⊥) → (which ≡ 3 → ⊥) → (which ≡ 4 → ⊥) → which ≡ 5 → Some (Failed a) ≡ report_from which a b c z
  failed_from h d e f g k = sym (late_from h d e f ∙ pick_false _ _ _ (ne_eqb which 4 g) ∙ pick_true _ _ _ (eq-eqb which 5 k))

  -- a first number that tells no kind
  pub unknown_from : a < 256 → (which ≡ 1 → ⊥) → (which ≡ 2 → ⊥) → (which ≡ 3 → ⊥) → (which ≡ 4 → ⊥) → (which ≡ 5 → ⊥) → None ≡ report_from which a b c z
  unknown_from h d e f g k = sym (late_from h d e f ∙ pick_false _ _ _ (ne_eqb which 4 g) ∙ pick_false _ _ _ (ne_eqb which 5 k))

  pub none_from : 256 ≤ a → None ≡ report_from which a b c z
  unfolding report_from
  none_from h = sym (pick_false _ _ _ (le-ltb a 256 h))

-- ---- reports in a row

-- what a slice lends for an index
pub lent : {X : Type 0} (xs : List X) (i : ℕ) {o : Option (Bor X)} {b : Bor X} → o ≡ Some b → MatchOption o (length xs ≤ i) (λ x. (i < length xs) × HoldsAt (λ y. x.now ≡ y) xs i)
    → (i < length xs) × ((d : X) → b.now ≡ get_or xs i d)
lent {X} xs i e h = subst (λ r. MatchOption r (length xs ≤ i) (λ x. (i < length xs) × HoldsAt (λ y. x.now ≡ y) xs i)) e h

-- chunk i of the numbers, four to each
chunk_at : (ns : List ℕ) (k i : ℕ) (x : List ℕ) → i < k → get_or (first_chunks 4 k ns) i x ≡ take 4 (drop (4 * i) ns)
chunk_at ns zero i x h = absurd (omega (arith, h))
chunk_at ns (suc k) zero x h = refl
chunk_at ns (suc k) (suc i) x h =
    let e : 4 + 4 * i ≡ 4 * suc i = omega arith in
    chunk_at (drop 4 ns) k i x (omega arith) ∙ ap (take 4) (drop-drop (4 * i) 4 ns) ∙ ap (λ (n : ℕ). take 4 (drop n ns)) e

chunk_number : (ns : List ℕ) (k i : ℕ) (x : List ℕ) → i < k → x ≡ get_or (first_chunks 4 k ns) i x → (j : ℕ) → j < 4 → get_or x j 0 ≡ get_or ns (4 * i + j) 0
chunk_number ns k i x h e j l =
    ap (λ (w : List ℕ). get_or w j 0) (e ∙ chunk_at ns k i x h) ∙ get_or-take 4 (drop (4 * i) ns) j 0 l ∙ get_or-drop (4 * i) ns j 0

module _ (ns : List ℕ) (zs : List ℤ) where
  -- a report that stands there whole, by its chunk of the numbers
  pub at_whole : {i : ℕ} {chunks : List (List ℕ)} {x : List ℕ} {v z : ℤ} → chunks ≡ first_chunks 4 (length ns / 4) ns → length chunks ≡ length ns / 4
      → (i < length chunks) × ((d : List ℕ) → x ≡ get_or chunks i d) → (i < length zs) × ((d : ℤ) → v ≡ get_or zs i d) → z ≡ v → report_of x z ≡ report_at ns zs i
  unfolding report_at
  at_whole {i} {chunks} {x} f l h v e =
      let below : i < length ns / 4 = omega (arith, l, h.0) in
      let found : x ≡ get_or (first_chunks 4 (length ns / 4) ns) i x = h.1 x ∙ ap (λ (c : List (List ℕ)). get_or c i x) f in
      let number : (j : ℕ) → j < 4 → get_or x j 0 ≡ get_or ns (4 * i + j) 0 = chunk_number ns (length ns / 4) i x below found in
      let first : get_or x 0 0 ≡ get_or ns (4 * i) 0 = number 0 (omega arith) ∙ ap (λ (n : ℕ). get_or ns n 0) (add-zero (4 * i)) in
      (λ t. report_from (first t) (number 1 (omega arith) t) (number 2 (omega arith) t) (number 3 (omega arith) t) ((e ∙ v.1 (pos 0)) t))
      ∙ sym (pick_true _ _ _ (lt-ltb i (whole_of ns zs) (omega (arith, below, v.0))))

  first_reports_lem : (i k n m : ℕ) → m ≡ min k n → take k (reports_from ns zs i n) ≡ reports_from ns zs i m
  unfolding reports_from
  first_reports_lem i zero n m e =
      let z : 0 ≡ m = omega (arith, e) in
      ap (reports_from ns zs i) z
  first_reports_lem i (suc k) zero m e =
      let z : 0 ≡ m = omega (arith, e) in
      ap (reports_from ns zs i) z
  first_reports_lem i (suc k) (suc n) m e =
      let z : suc (min k n) ≡ m = omega (arith, e) in
      ap (λ (rs : List (Option Report)). report_at ns zs i ∷ rs) (first_reports_lem (suc i) k n (min k n) refl) ∙ ap (reports_from ns zs i) z

  reports_long : (i n : ℕ) → length (reports_from ns zs i n) ≡ n
  unfolding reports_from
  reports_long i zero = refl
  reports_long i (suc n) = ap suc (reports_long (suc i) n)

  last_report : (i k : ℕ) → reports_from ns zs i (suc k) ≡ reports_from ns zs i k ++ (report_at ns zs (i + k) ∷ [])
  unfolding reports_from
  last_report i zero = ap (λ (j : ℕ). report_at ns zs j ∷ []) (sym (add-zero i))
  last_report i (suc k) =
      let e : suc i + k ≡ i + suc k = omega arith in
      ap (λ (rs : List (Option Report)). report_at ns zs i ∷ rs) (last_report (suc i) k ∙ ap (λ (j : ℕ). reports_from ns zs (suc i) k ++ (report_at ns zs j ∷ [])) e)

  first_report : (i to : ℕ) → i < to → reports_from ns zs i (to - i) ≡ report_at ns zs i ∷ reports_from ns zs (i + 1) (to - (i + 1))
  unfolding reports_from
  first_report i to h =
      let e : to - i ≡ suc (to - (i + 1)) = omega arith in
      let s : suc i ≡ i + 1 = omega arith in
      ap (reports_from ns zs i) e ∙ ap (λ (j : ℕ). report_at ns zs i ∷ reports_from ns zs j (to - (i + 1))) s

  no_report_lem : (i to : ℕ) → to ≤ i → reports_from ns zs i (to - i) ≡ []
  unfolding reports_from
  no_report_lem i to h =
      let e : to - i ≡ 0 = omega arith in
      ap (reports_from ns zs i) e

  -- a test that all pass is passed by each
  each_report : (p : Option Report → Bool) (n i : ℕ) → every p (reports_from ns zs i n) ≡ true → (j : ℕ) → i ≤ j → j < i + n → p (report_at ns zs j) ≡ true
  unfolding reports_from every
  each_report p zero i e j h k = absurd (omega arith)
  each_report p (suc n) i e j h k =
      by_test (eqb j i) (λ t. ap (λ (m : ℕ). p (report_at ns zs m)) (eqb-true j i t) ∙ both_left (p (report_at ns zs i)) _ e) λ t.
      let d : j ≡ i → ⊥ = eqb-false j i t in
      each_report p n (suc i) (both_right (p (report_at ns zs i)) _ e) j (omega (arith, d)) (omega arith)

-- a report of those that are ready
module _ {x : Coded} {size : ℕ} (a : AllReady x size) {j : ℕ} where
  pub ready_at : {r : Report} → Some r ≡ report_at x.numbers.now x.integers.now j → x.from ≤ j → j < x.to → report_ok (contract_of x.terms.table.now) r ≡ true
  unfolding told_ok
  ready_at e h k =
      let c = contract_of x.terms.table.now in
      let l : j < x.from + (x.to - x.from) = omega (arith, h, k) in
      ap (told_ok c) e ∙ each_report x.numbers.now x.integers.now (told_ok c) (x.to - x.from) x.from a.range j h l

-- ---- question 53 of all reports

-- a test of the reports numbered from i on, as `all` asks it
pub all_reports : (p : Option Report → Bool) (ns : List ℕ) (zs : List ℤ) (n i : ℕ) → list_all (λ j. p (report_at ns zs j)) (range_with_len i n) ≡ every p (reports_from ns zs i n)
unfolding reports_from every
all_reports p ns zs zero i = refl
all_reports p ns zs (suc n) i =
    let e : i + 1 ≡ suc i = omega arith in
    ap (λ (b : Bool). p (report_at ns zs i) && b) (all_reports p ns zs n (i + 1) ∙ ap (λ (j : ℕ). every p (reports_from ns zs j n)) e)

-- one past those that stand there whole does not pass
pub not_whole : (c : Contract) (ns : List ℕ) (zs : List ℤ) (from to : ℕ) → from < to → whole_of ns zs < to
    → false ≡ every (told_ok c) (reports_from ns zs from (to - from))
unfolding report_at told_ok
not_whole c ns zs from to h k =
    let last = to - 1 in
    let past : report_at ns zs last ≡ None =
    pick_false _ _ _ (le-ltb last (whole_of ns zs) (omega (arith, k))) in
    by_test (every (told_ok c) (reports_from ns zs from (to - from)))
    (λ t.
    let p = each_report ns zs (told_ok c) (to - from) from t last (omega (arith, h)) (omega (arith, h)) in
    true_false (sym p ∙ ap (told_ok c) past))
    λ t. sym t

-- ---- the lines of all reports

lines_append : (c : Contract) (xs ys : List (Option Report)) → lines_of c (xs ++ ys) ≡ lines_of c xs ++ lines_of c ys
unfolding lines_of
lines_append c [] ys = refl
lines_append c (None ∷ xs) ys = lines_append c xs ys
lines_append c (Some x ∷ xs) ys = ap (λ (l : List ℕ). line_of c x ++ l) (lines_append c xs ys) ∙ sym (append_assoc (line_of c x) (lines_of c xs) (lines_of c ys))

-- a line in the part of a buffer that is lent for it
part_line : {new line ys : List ℕ} {a e n : ℕ} → a ≤ e → e ≤ length new → PutLine (mid_of a (e - a) new) 0 line n ys → PutLine new a line (a + n) (put_mid a (e - a) new ys)
part_line h l p = record { put = part_put h l p.put; short = p.short }

-- the lines before report i stand first in the buffer, none of them longer than 128 bytes
pub record Going (c : Contract) (ns : List ℕ) (zs : List ℤ) (from to : ℕ) (old : List ℕ) (i used : ℕ) (new : List ℕ) : Type 0 where
  pub first : from ≤ i
  pub few : i - from ≤ to - from
  pub short : used ≤ 128 * (i - from)
  pub lines : Put old 0 (lines_of c (reports_from ns zs from (i - from))) used new

module _ {c : Contract} {ns : List ℕ} {zs : List ℤ} {from to : ℕ} {old : List ℕ} where
  pub start : {used : ℕ} {new : List ℕ} → used ≡ 0 → new ≡ old → Going c ns zs from to old from used new
  unfolding reports_from lines_of
  start u n =
      let e : 0 ≡ from - from = omega arith in
      let l : [] ≡ lines_of c (reports_from ns zs from (from - from)) = ap (λ (k : ℕ). lines_of c (reports_from ns zs from k)) e in
      record {
        first = omega arith;
        few = omega arith;
        short = omega (arith, u);
        lines = same l (record { place = u; list = n; room = omega arith });
      }

  module _ {i used : ℕ} {new : List ℕ} (g : Going c ns zs from to old i used new) where
    -- the next 128 bytes are the buffer's
    pub next_room : 128 * (to - from) ≤ length old → i < to → used + 128 ≤ length new
    next_room h l = omega (arith, kept g.lines, g.short, g.first)

    pub part_room : 128 * (to - from) ≤ length old → i < to → 128 ≤ length (mid_of used (used + 128 - used) new)
    part_room h l = omega (arith, mid_len used (used + 128) new (next_room h l))

    -- the lines with those of report i
    lines_next : {x : Option Report} → x ≡ report_at ns zs i
        → lines_of c (reports_from ns zs from (i - from)) ++ lines_of c (x ∷ []) ≡ lines_of c (reports_from ns zs from (i + 1 - from))
    lines_next {x} q =
        let e : suc (i - from) ≡ i + 1 - from = omega (arith, g.first) in
        let f : i ≡ from + (i - from) = omega (arith, g.first) in
        sym (lines_append c (reports_from ns zs from (i - from)) (x ∷ []))
        ∙ ap (λ (y : Option Report). lines_of c (reports_from ns zs from (i - from) ++ (y ∷ []))) (q ∙ ap (report_at ns zs) f)
        ∙ ap (lines_of c) (sym (last_report ns zs from (i - from)))
        ∙ ap (λ (m : ℕ). lines_of c (reports_from ns zs from m)) e

    -- one line more
    pub turn : {r : Report} {n : ℕ} {next : List ℕ} → i < to → Some r ≡ report_at ns zs i → PutLine new used (line_of c r) n next
        → Going c ns zs from to old (i + 1) n next
    unfolding lines_of
    turn {r} l q p =
        record {
          first = omega (arith, g.first);
          few = omega (arith, g.first, l);
          short = omega (arith, g.short, g.first, p.put.place, p.short);
          lines = same (ap (λ (u : List ℕ). lines_of c (reports_from ns zs from (i - from)) ++ u) (sym (append-nil (line_of c r))) ∙ lines_next q) (then g.lines p.put);
        }

    -- the same of a line in the part that is lent for it
    pub turn_lent : {r : Report} {n : ℕ} {line : List ℕ} → 128 * (to - from) ≤ length old → i < to → Some r ≡ report_at ns zs i
        → PutLine (mid_of used (used + 128 - used) new) 0 (line_of c r) n line
        → Going c ns zs from to old (i + 1) (used + n) (put_mid used (used + 128 - used) new line)
    turn_lent h l q line = turn l q (part_line (omega arith) (next_room h l) line)

    -- and none, where the numbers tell none
    pub turn_none : i < to → None ≡ report_at ns zs i → Going c ns zs from to old (i + 1) used new
    unfolding lines_of
    turn_none l q =
        record {
          first = omega (arith, g.first);
          few = omega (arith, g.first, l);
          short = omega (arith, g.short, g.first);
          lines = same (sym (append-nil (lines_of c (reports_from ns zs from (i - from)))) ∙ lines_next q) g.lines;
        }

    pub all_put : to ≤ i → Put old 0 (lines_of c (reports_from ns zs from (to - from))) used new
    all_put l =
        let e : i - from ≡ to - from = omega (arith, g.few) in
        same (ap (λ (k : ℕ). lines_of c (reports_from ns zs from k)) e) g.lines

-- ---- the answer and the buffer after many lines

abbrev pub BatchAnswers : Contract → List (Option Report) → List ℕ → Result Batch Question → List ℕ → Type 0
BatchAnswers c rs old r new = record { value : r ≡ batch_of c rs (length old); buffer_after : new ≡ batch_after c rs r old }

module _ (ns : List ℕ) (zs : List ℤ) (from to : ℕ) (old : List ℕ) {end : ℕ} (e : end ≡ from + min (length old / 128) (to - from)) where
  -- the reports that are written
  firsts : first_reports (length old) (reports_from ns zs from (to - from)) ≡ reports_from ns zs from (end - from)
  firsts = first_reports_lem ns zs from (length old / 128) (to - from) (end - from) (omega (arith, e))

  pub lines_room : 128 * (end - from) ≤ length old
  lines_room = omega (arith, e)

  module _ (c : Contract) where
    pub all_written : {used : ℕ} {new : List ℕ} → every (told_ok c) (reports_from ns zs from (end - from)) ≡ true
        → Put old 0 (lines_of c (reports_from ns zs from (end - from))) used new
        → BatchAnswers c (reports_from ns zs from (to - from)) old (Ok (record { many = end - from; used = used })) new
    unfolding batch_of batch_after
    all_written {used} k p =
        let m : end - from ≡ min (end - from) (to - from) = omega (arith, e) in
        let many : end - from ≡ length (first_reports (length old) (reports_from ns zs from (to - from))) = sym (ap length firsts ∙ reports_long ns zs from (end - from)) in
        let bytes : used ≡ length (lines_of c (first_reports (length old) (reports_from ns zs from (to - from)))) = line_end_lem p ∙ sym (ap (λ (rs : List (Option Report)). length (lines_of c rs)) firsts) in record { value = (λ j. Ok (record { many = many j; used = bytes j })) ∙ sym (pick_true _ _ _ (ap (every (told_ok c)) firsts ∙ k)); buffer_after = over p ∙ ap (λ (rs : List (Option Report)). lines_of c rs ++ drop used old) (sym (first_reports_lem ns zs from (end - from) (to - from) (end - from) m)) }

    pub none_written : every (told_ok c) (reports_from ns zs from (end - from)) ≡ false → BatchAnswers c (reports_from ns zs from (to - from)) old (Err ask.ResultKinds) old
    unfolding batch_of batch_after lines_of
    none_written k = record { value = sym (pick_false _ _ _ (ap (every (told_ok c)) firsts ∙ k)); buffer_after = refl }

-- ---- questions 52 and 3

-- the same with them
abbrev pub AllAnswers : List ℕ → List (Option Report) → List ℕ → Result Batch Question → List ℕ → Type 0
AllAnswers w rs old r new = record { value : r ≡ batch w rs (length old); buffer_after : new ≡ batch_after (contract_of w) rs r old }

module _ (w : List ℕ) (rs : List (Option Report)) (old : List ℕ) where
  pub none_space : length old < 128 → AllAnswers w rs old (Err ask.ResultRoom) old
  unfolding batch batch_after lines_of
  none_space h = record { value = sym (pick_true _ _ _ (lt-ltb (length old) 128 h)); buffer_after = refl }

  pub none_table : 128 ≤ length old → passes w ≡ false → AllAnswers w rs old (Err ask.TableCheck) old
  unfolding batch batch_after lines_of
  none_table h t = record { value = sym (pick_false _ _ _ (le-ltb (length old) 128 h) ∙ pick_false _ _ _ t); buffer_after = refl }

  pub some_lines : {r : Result Batch Question} {new : List ℕ} → 128 ≤ length old → passes w ≡ true → BatchAnswers (contract_of w) rs old r new → AllAnswers w rs old r new
  unfolding batch
  some_lines h t a = record { value = a.value ∙ sym (pick_false _ _ _ (le-ltb (length old) 128 h) ∙ pick_true _ _ _ t); buffer_after = a.buffer_after }
