-- What settlement pages promise (document 02, F-1): the pages of a list of payouts, and the pages of a session.
use Rattle.std.specs.Prelude.{ℕ, zero, suc, ◌+◌, ◌-◌, ◌*◌, ◌/◌, ◌%◌, ◌≤◌, ◌<◌, min, ◌≡◌, ◌&&◌, not, List, [], ◌∷◌, ◌++◌, length, get_or, take, drop, ℤ, eqb}
use Rattle.laws.specs.Choice.{pick}
use Rattle.laws.specs.Bytes.{bytes}
use Rattle.contract.specs.Tree.{Contract}
use Rattle.contract.specs.Encode.{joined}
use Rattle.printing.specs.Pieces.{spaces}
use Rattle.results.specs.declared.Report.{Report}
use Rattle.pages.specs.Entries.{Entry, no_entry, entries_of}
use Rattle.pages.specs.Page.{line_of, blank_line, blank_lines, foot, sixty, page_of}
use Rattle.pages.specs.Gathering.{payouts, gathered, numbers_after, values_after}
use Rattle.pages.specs.declared.Gathered.{Gathered}

-- ---- the pages of a list of payouts

-- line i of a page, from 0; line 60 is the foot
abbrev pub line_at : List ℕ → ℕ → List ℕ
line_at page i = take 85 (drop (85 * i) page)

-- the first k sixties of a list, end to end
unfoldable pub sixties : {A : Type 0} → ℕ → List A → List A
sixties zero es = []
sixties (suc k) es = sixties k es ++ sixty k es

-- the lines of payouts on the first k pages, end to end: on each page as many as its foot counts
unfoldable pub payout_lines : Contract → List Entry → ℕ → List ℕ
payout_lines c es zero = []
payout_lines c es (suc k) = payout_lines c es k ++ take (85 * length (sixty k es)) (page_of c es k)

-- proved (`filled`) of contracts that fit and entries that question 61 passes; so of whatever `page` accepts (`accepted_filled`)
pub record Filled (c : Contract) (es : List Entry) : Type 0 where
  -- an entry's line has 85 bytes
  pub wide : (j : ℕ) → j < length es → length (line_of c (get_or es j no_entry)) ≡ 85
  -- a page has 61 lines, the foot among them
  pub long : (n : ℕ) → length (page_of c es n) ≡ 5185
  -- entry 60 n + i is line i of page n
  pub line : (n i : ℕ) → i < 60 → 60 * n + i < length es → line_at (page_of c es n) i ≡ line_of c (get_or es (60 * n + i) no_entry)
  -- so that each entry has its one place
  pub placed : (j : ℕ) → j < length es → line_at (page_of c es (j / 60)) (j % 60) ≡ line_of c (get_or es j no_entry)
  -- where no entry is left, a line is blank
  pub blank : (n i : ℕ) → i < 60 → length es ≤ 60 * n + i → line_at (page_of c es n) i ≡ blank_line
  -- the foot counts the entries on its page
  pub counted : (n : ℕ) → line_at (page_of c es n) 60 ≡ foot (min 60 (length es - 60 * n))
  -- enough pages have each entry once, in order
  pub once : (k : ℕ) → length es ≤ 60 * k → sixties k es ≡ es
  pub in_order : (k : ℕ) → length es ≤ 60 * k → payout_lines c es k ≡ joined (line_of c) es
  -- a page goes by its own entries alone
  pub own : (n : ℕ) → page_of c es n ≡ page_of c (sixty n es) 0
  -- a page past the last payout
  pub past : (n : ℕ) → length es ≤ 60 * n → page_of c es n ≡ blank_lines 60 ++ (spaces 82 ++ bytes "00\n")

-- ---- the pages of a session, with lent lists for one page

-- what is gathered, the lent lists, and the bytes of the pages that were full
pub record Sheets : Type 0 where
  pub gathered : Gathered
  pub numbers : List ℕ
  pub values : List ℤ
  pub bytes : List ℕ

-- the entries that wait for their page: the first of the lent lists, as many as are counted
abbrev pub entries_in : Sheets → List Entry
entries_in s = entries_of (take (5 * s.gathered.count) s.numbers) (take s.gathered.count s.values)

-- a full page is written, and the count goes back to 0
unfoldable pub turned : Contract → Sheets → Sheets
turned c s =
    pick (eqb s.gathered.count 60)
    (record {
      gathered = record { rule = s.gathered.rule; clock = s.gathered.clock; count = 0 };
      numbers = s.numbers;
      values = s.values;
      bytes = s.bytes ++ page_of c (entries_in s) 0;
    })
    s

-- after one more result line
unfoldable pub taken : Sheets → Report → Sheets
taken s r =
    record {
      gathered = gathered s.gathered r;
      numbers = numbers_after s.gathered r s.numbers;
      values = values_after s.gathered r s.values;
      bytes = s.bytes;
    }

-- a session's result lines, each gathered, and a page written as soon as it is full
unfoldable pub sheets_after : Contract → Sheets → List Report → Sheets
sheets_after c s [] = s
sheets_after c s (r ∷ rs) = sheets_after c (turned c (taken s r)) rs

-- before the first result line
abbrev pub no_sheets : List ℕ → List ℤ → Sheets
no_sheets numbers values = record { gathered = record { rule = 0; clock = 0; count = 0 }; numbers = numbers; values = values; bytes = [] }

-- the first k pages of entries, end to end
unfoldable pub pages_up_to : Contract → List Entry → ℕ → List ℕ
pages_up_to c es zero = []
pages_up_to c es (suc k) = pages_up_to c es k ++ page_of c es k

-- the file of a session's pages (the customer's page of the desk's command line): page 0 to the last that has a payout, page 0 at least
unfoldable pub file_of : Contract → List Entry → List ℕ
file_of c es = pages_up_to c es (suc ((length es - 1) / 60))

-- all bytes written by the session's end: with the last page, if it has a payout or is the only one
unfoldable pub closed : Contract → Sheets → List ℕ
closed c s =
    pick (eqb s.gathered.count 0 && not (eqb (length s.bytes) 0))
    s.bytes
    (s.bytes ++ page_of c (entries_in s) 0)

-- s has the pages of es: those that are full are written, and the last has the entries gathered
pub record HasPages (c : Contract) (es : List Entry) (s : Sheets) : Type 0 where
  pub full : s.bytes ≡ pages_up_to c es (length es / 60)
  pub waiting : entries_in s ≡ sixty (length es / 60) es
  pub last : page_of c (entries_in s) 0 ≡ page_of c es (length es / 60)
  pub file : closed c s ≡ file_of c es

-- the pages of a session are those of all its payouts
abbrev pub SessionPages : Type 0
SessionPages =
    (c : Contract) (numbers : List ℕ) (values : List ℤ) (rs : List Report) → 300 ≤ length numbers → 60 ≤ length values
    → HasPages c (payouts 0 0 rs) (sheets_after c (no_sheets numbers values) rs)

-- after one more line, before a page that it fills is written, a sixty of the payouts so far waits
abbrev pub SessionWaits : Type 0
SessionWaits =
    (c : Contract) (numbers : List ℕ) (values : List ℤ) (rs : List Report) (r : Report) → 300 ≤ length numbers → 60 ≤ length values
    → entries_in (taken (sheets_after c (no_sheets numbers values) rs) r) ≡ sixty (length (payouts 0 0 rs) / 60) (payouts 0 0 (rs ++ (r ∷ [])))
