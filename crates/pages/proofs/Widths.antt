-- How long lines and pages are, and what a payout says. Assumes nothing.
use mathlib.Core.Path.{◌≡◌, refl, ap}
use mathlib.Core.Bool.{true, ◌||◌}
use mathlib.Core.List.{List, [], ◌∷◌, ◌++◌}
use Prim.Native.Nat.{ℕ, zero, suc, ◌-◌, ◌*◌, ◌<◌, ◌≤◌}
use native.Mathlib.Omega.{arith}
use lib.ListN.{length, get_or, length-append}
use lib.IntN.{pos, nat_abs}
use lib.Signed.{le_z}
use lib.Dec.{eqb, leb, ltb}
use borrow.Author.Tests.{eqb-true, ltb-true, leb-true}
use Rattle.laws.specs.Bytes.{bytes}
use Rattle.laws.specs.Choice.{pick}
use Rattle.laws.specs.Lists.{every}
use Rattle.laws.proofs.Truths.{link, either_true}
use Rattle.laws.proofs.Members.{every_at}
use Rattle.words.specs.Words.{spelled}
use Rattle.contract.specs.Limits.{top}
use Rattle.contract.specs.Tree.{Contract}
use Rattle.contract.specs.Fits.{is_name, fits}
use Rattle.contract.specs.Encode.{joined}
use Rattle.contract.proofs.Fitting.{name_length, fits_contract}
use Rattle.contract_laws.proofs.Lengths.{length_joined}
use Rattle.printing.specs.Decimal.{decimal}
use Rattle.printing.specs.Pieces.{spaces}
use Rattle.printing.proofs.Digits.{short}
use Rattle.printing.proofs.Names.{spaces_long}
use Rattle.results.specs.Lines.{rule_name}
use Rattle.pages.specs.Entries.{Entry, is_payout}
use Rattle.pages.specs.Page.{right, left, line_of, blank_line, blank_lines, foot, sheet}

-- ---- what a payout says

pub record Says (c : Contract) (e : Entry) : Type 0 where
  pub rule : (eqb e.rule 1 || eqb e.rule 2) ≡ true
  pub party : e.party < length c.parties
  pub clock : e.clock ≤ top
  pub sign : le_z (pos 0) e.value ≡ true
  pub amount : nat_abs e.value ≤ top

pub says : (c : Contract) (e : Entry) → is_payout c e ≡ true → Says c e
unfolding is_payout
says c e h =
    let t =
    link
    (eqb e.kind 3
    ∷ (eqb e.rule 1 || eqb e.rule 2)
    ∷ ltb e.party (length c.parties)
    ∷ leb e.clock top
    ∷ le_z (pos 0) e.value
    ∷ leb (nat_abs e.value) top
    ∷ [])
    h in
    record {
      rule = t 1;
      party = ltb-true e.party (length c.parties) (t 2);
      clock = leb-true e.clock top (t 3);
      sign = t 4;
      amount = leb-true (nat_abs e.value) top (t 5);
    }

-- ---- columns

pub amount_short : (n : ℕ) → n ≤ top → length (decimal n) ≤ 19
amount_short n h = short 18 n (omega arith)

module _ (n : ℕ) (w : List ℕ) (h : length w ≤ n) where
  pub right_long : length (right n w) ≡ n
  unfolding right
  right_long = omega (arith, length-append (spaces (n - length w)) w, spaces_long (n - length w))

  pub left_long : length (left n w) ≡ n
  unfolding left
  left_long = omega (arith, length-append w (spaces (n - length w)), spaces_long (n - length w))

pub rule_long : (rule : ℕ) → (eqb rule 1 || eqb rule 2) ≡ true → length (left 11 (rule_name rule)) ≡ 11
unfolding left rule_name spelled pick
rule_long rule h =
    either_true (eqb rule 1) (eqb rule 2) h
    (λ e. ap (λ (r : ℕ). length (left 11 (rule_name r))) (eqb-true rule 1 e))
    (λ e. ap (λ (r : ℕ). length (left 11 (rule_name r))) (eqb-true rule 2 e))

pub name_short : (c : Contract) → fits c ≡ true → (party : ℕ) → party < length c.parties → length (get_or c.parties party []) ≤ 32
name_short c f party h = name_length (get_or c.parties party []) (every_at is_name c.parties (fits_contract c f).parties party h [])

-- ---- lines and pages

pub line_long : (c : Contract) → fits c ≡ true → (e : Entry) → is_payout c e ≡ true → length (line_of c e) ≡ 85
unfolding line_of spelled
line_long c f e h =
    let s = says c e h in
    let clock = right 19 (decimal e.clock) in
    let rule = left 11 (rule_name e.rule) in
    let party = left 32 (get_or c.parties e.party []) in
    let amount = right 19 (decimal (nat_abs e.value)) in
    omega (
      arith,
      length-append clock (bytes " " ++ (rule ++ (bytes " " ++ (party ++ (bytes " " ++ (amount ++ bytes "\n")))))),
      length-append rule (bytes " " ++ (party ++ (bytes " " ++ (amount ++ bytes "\n")))),
      length-append party (bytes " " ++ (amount ++ bytes "\n")),
      length-append amount (bytes "\n"),
      right_long 19 (decimal e.clock) (amount_short e.clock s.clock),
      rule_long e.rule s.rule,
      left_long 32 (get_or c.parties e.party []) (name_short c f e.party s.party),
      right_long 19 (decimal (nat_abs e.value)) (amount_short (nat_abs e.value) s.amount),
    )

pub lines_long : (c : Contract) → fits c ≡ true → (es : List Entry) → every (is_payout c) es ≡ true → length (joined (line_of c) es) ≡ 85 * length es
lines_long c f es h = omega (arith, length_joined (line_of c) (is_payout c) 85 (line_long c f) es h)

pub blanks_long : (n : ℕ) → length (blank_lines n) ≡ 85 * n
unfolding blank_lines spelled
blanks_long zero = refl
blanks_long (suc n) = omega (arith, length-append blank_line (blank_lines n), blanks_long n)

pub foot_long : (n : ℕ) → length (foot n) ≡ 85
unfolding foot spelled
foot_long n = refl

pub sheet_long : (c : Contract) → fits c ≡ true → (es : List Entry) → every (is_payout c) es ≡ true → length es ≤ 60 → length (sheet c es) ≡ 5185
unfolding sheet
sheet_long c f es h k =
    omega (
      arith,
      length-append (joined (line_of c) es) (blank_lines (60 - length es) ++ foot (length es)),
      length-append (blank_lines (60 - length es)) (foot (length es)),
      lines_long c f es h,
      blanks_long (60 - length es),
      foot_long (length es),
    )
