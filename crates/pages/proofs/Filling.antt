-- The pages of a list of payouts, line by line. Assumes nothing.
use mathlib.Core.Path.{◌≡◌, refl, sym, ap, ◌∙◌}
use mathlib.Core.Bool.{true}
use mathlib.Core.List.{List, ◌++◌}
use Prim.Native.Nat.{ℕ, zero, suc, ◌+◌, ◌-◌, ◌*◌, ◌/◌, ◌%◌, ◌<◌, ◌≤◌}
use native.Mathlib.Omega.{arith}
use lib.ListN.{length, get_or, take, drop, drop_of_length-le}
use lib.Seq.{take_all, take_at, drop-append-add}
use lib.Dec.{ltb}
use borrow.Author.Tests.{ltb-false, le-ltb}
use Rattle.laws.specs.Bytes.{bytes}
use Rattle.laws.specs.Choice.{pick}
use Rattle.laws.specs.Lists.{every}
use Rattle.laws.proofs.Choice.{pick_true, pick_false}
use Rattle.laws.proofs.Members.{every_at}
use Rattle.words.specs.Words.{spelled}
use Rattle.contract.specs.Tree.{Contract}
use Rattle.contract.specs.Fits.{fits}
use Rattle.contract.specs.Encode.{joined}
use Rattle.contract.specs.Decode.{contract_of}
use Rattle.contract.specs.Check.{passes}
use Rattle.contract_laws.proofs.Inversions.{by_test}
use Rattle.contract_laws.proofs.Sound.{sound}
use Rattle.printing.specs.Pieces.{spaces}
use Rattle.pages.specs.Entries.{Entry, no_entry, is_payout}
use Rattle.pages.specs.Page.{line_of, blank_line, blank_lines, foot, sheet, sixty, page_of}
use Rattle.pages.specs.Answers.{paged, after, RefusedPage}
use Rattle.std.specs.Prelude.{Result, Ok, Err}
use Rattle.questions.specs.declared.Question.{Question}
use Rattle.questions.specs.declared.Question.TheVariants as ask
use Rattle.pages.specs.Promises.{line_at, sixties, payout_lines, Filled}
use Rattle.pages.proofs.Widths.{line_long, lines_long, blanks_long, foot_long, sheet_long}
use Rattle.pages.proofs.Cuts.{every_sixty, sixty_long, sixty_own, sixty_at, sixties_all, joined_append, row_at, blank_at}

-- ---- a sheet of at most 60 entries

blank_long : length blank_line ≡ 85
unfolding spelled
blank_long = refl

module _ (c : Contract) (f : fits c ≡ true) (es : List Entry) (h : every (is_payout c) es ≡ true) (few : length es ≤ 60) where
  sheet_line : (i : ℕ) → i < length es → line_at (sheet c es) i ≡ line_of c (get_or es i no_entry)
  unfolding sheet
  sheet_line i l = row_at (line_of c) (is_payout c) (line_long c f) es h (blank_lines (60 - length es) ++ foot (length es)) i no_entry l

  -- from line i on, where no entry is left
  rest_from : (i : ℕ) → length es ≤ i → drop (85 * i) (sheet c es) ≡ drop (85 * (i - length es)) (blank_lines (60 - length es) ++ foot (length es))
  unfolding sheet
  rest_from i l =
      let e : 85 * i ≡ length (joined (line_of c) es) + 85 * (i - length es) = omega (arith, lines_long c f es h) in
      ap (λ (k : ℕ). drop k (sheet c es)) e ∙ drop-append-add (joined (line_of c) es) (blank_lines (60 - length es) ++ foot (length es)) (85 * (i - length es))

  sheet_blank : (i : ℕ) → i < 60 → length es ≤ i → line_at (sheet c es) i ≡ blank_line
  sheet_blank i k l = ap (take 85) (rest_from i l) ∙ blank_at blank_long (60 - length es) (foot (length es)) (i - length es) (omega arith)

  sheet_foot : line_at (sheet c es) 60 ≡ foot (length es)
  sheet_foot =
      let e : 85 * (60 - length es) ≡ length (blank_lines (60 - length es)) + 0 = omega (arith, blanks_long (60 - length es)) in
      ap (take 85)
      (rest_from 60 few
      ∙ ap (λ (k : ℕ). drop k (blank_lines (60 - length es) ++ foot (length es))) e
      ∙ drop-append-add (blank_lines (60 - length es)) (foot (length es)) 0)
      ∙ take_all 85 (foot (length es)) (omega (arith, foot_long (length es)))

  sheet_first : take (85 * length es) (sheet c es) ≡ joined (line_of c) es
  unfolding sheet
  sheet_first = take_at (joined (line_of c) es) (blank_lines (60 - length es) ++ foot (length es)) (85 * length es) (lines_long c f es h)

-- ---- the pages

-- a page past the last payout
empty_page : (c : Contract) (es : List Entry) (n : ℕ) → length es ≤ 60 * n → page_of c es n ≡ blank_lines 60 ++ (spaces 82 ++ bytes "00\n")
unfolding sheet joined foot spelled
empty_page c es n l = ap (λ (l : List Entry). sheet c (take 60 l)) (drop_of_length-le es l)

module _ (c : Contract) (es : List Entry) (f : fits c ≡ true) (h : every (is_payout c) es ≡ true) where
  all : (n : ℕ) → every (is_payout c) (sixty n es) ≡ true
  all n = every_sixty (is_payout c) n es h

  few : (n : ℕ) → length (sixty n es) ≤ 60
  few n = omega (arith, sixty_long n es)

  page_line : (n i : ℕ) → i < 60 → 60 * n + i < length es → line_at (page_of c es n) i ≡ line_of c (get_or es (60 * n + i) no_entry)
  page_line n i k l =
      sheet_line c f (sixty n es) (all n) (few n) i (omega (arith, sixty_long n es))
      ∙ ap (line_of c) (sixty_at n es i no_entry k)

  page_lines : (k : ℕ) → payout_lines c es k ≡ joined (line_of c) (sixties k es)
  unfolding payout_lines sixties joined
  page_lines zero = refl
  page_lines (suc k) =
      (λ j. page_lines k j ++ sheet_first c f (sixty k es) (all k) (few k) j)
      ∙ sym (joined_append (line_of c) (sixties k es) (sixty k es))

pub filled : (c : Contract) (es : List Entry) → fits c ≡ true → every (is_payout c) es ≡ true → Filled c es
filled c es f h =
    record {
      wide = λ j l. line_long c f (get_or es j no_entry) (every_at (is_payout c) es h j l no_entry);
      long = λ n. sheet_long c f (sixty n es) (all c es f h n) (few c es f h n);
      line = page_line c es f h;
      placed = λ j l.
          let p : 60 * (j / 60) + j % 60 ≡ j = omega arith in
          page_line c es f h (j / 60) (j % 60) (omega arith) (omega arith) ∙ ap (λ (k : ℕ). line_of c (get_or es k no_entry)) p;
      blank = λ n i k l. sheet_blank c f (sixty n es) (all c es f h n) (few c es f h n) i k (omega (arith, sixty_long n es));
      counted = λ n. sheet_foot c f (sixty n es) (all c es f h n) (few c es f h n) ∙ ap foot (sixty_long n es);
      once = λ k l. sixties_all k es l;
      in_order = λ k l. page_lines c es f h k ∙ ap (joined (line_of c)) (sixties_all k es l);
      own = λ n. ap (sheet c) (sym (sixty_own n es));
      past = empty_page c es;
    }

-- ---- the pages that are asked for

module _ (w : List ℕ) (es : List Entry) (size : ℕ) (a : paged w es size ≡ Ok tt) where
  asked : (5185 ≤ size) × (passes w ≡ true) × (every (is_payout (contract_of w)) es ≡ true)
  unfolding paged
  asked =
      by_test (ltb size 5185)
      (λ t. let z : ◌≡◌ {A = ℕ} 0 1 = cc (sym (pick_true _ _ _ t) ∙ a) in absurd (omega arith))
      λ t.
      let b : pick (passes w) (pick (every (is_payout (contract_of w)) es) (Ok tt) (Err ask.PageEntries)) (Err ask.TableCheck) ≡ Ok tt = sym (pick_false _ _ _ t) ∙ a in
      by_test (passes w)
      (λ p.
      let d : pick (every (is_payout (contract_of w)) es) (Ok tt) (Err ask.PageEntries) ≡ Ok tt = sym (pick_true _ _ _ p) ∙ b in
      by_test (every (is_payout (contract_of w)) es)
      (λ e. (ltb-false size 5185 t, p, e))
      λ e. let z : ◌≡◌ {A = ℕ} 0 1 = cc (sym (pick_false _ _ _ e) ∙ d) in absurd (omega arith))
      λ p. let z : ◌≡◌ {A = ℕ} 0 1 = cc (sym (pick_false _ _ _ p) ∙ b) in absurd (omega arith)

  -- the page that is written is one of payouts on a contract that fits
  pub accepted_filled : Filled (contract_of w) es
  accepted_filled = filled (contract_of w) es (sound w asked.1) asked.2

-- a page of payouts is accepted
pub page_accepts : (w : List ℕ) (es : List Entry) (size : ℕ) → passes w ≡ true → every (is_payout (contract_of w)) es ≡ true → 5185 ≤ size → paged w es size ≡ Ok tt
unfolding paged
page_accepts w es size p e h = pick_false _ _ _ (le-ltb size 5185 h) ∙ pick_true _ _ _ p ∙ pick_true _ _ _ e

-- a refused page leaves the buffer
pub refused_untouched : RefusedPage
unfolding after
refused_untouched w es n old q e = ap (λ (r : Result Unit Question). after r (page_of (contract_of w) es n) old) e
