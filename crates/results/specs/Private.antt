-- For private functions only: what is known of a report that is in range.
use Rattle.std.specs.Prelude.{◌≡◌, true, List, ℕ, ◌-◌, ◌*◌, ◌+◌, ◌≤◌, length, ℤ, Option}
use Rattle.laws.specs.Lists.{every}
use Rattle.contract.specs.Decode.{contract_of}
use Rattle.results.specs.Coded.{reports_from}
use Rattle.results.specs.Lines.{value_ok, report_ok, told_ok}
use Rattle.printing.specs.Pieces.{Put}
use Rattle.printing.specs.declared.Writer.{Writer}
use Rattle.results.specs.declared.Report.{Report}
use Rattle.results.specs.declared.many.Coded.{Coded}

-- questions 52 and 53 are passed, for a line that is written into a buffer from a place on
pub record Ready (w : List ℕ) (report : Report) (old : List ℕ) (at : ℕ) : Type 0 where
  pub room : at + 128 ≤ length old
  pub range : report_ok (contract_of w) report ≡ true

-- the same of a label's value alone
pub record ReadyValue (w : List ℕ) (kind : ℕ) (value : ℤ) (old : List ℕ) (at : ℕ) : Type 0 where
  pub room : at + 128 ≤ length old
  pub range : value_ok (contract_of w) kind value ≡ true

-- a line that had room stands in the buffer, no longer than 128 bytes, and the place is the one after it
pub record PutLine (old : List ℕ) (at : ℕ) (line : List ℕ) (next : ℕ) (new : List ℕ) : Type 0 where
  pub put : Put old at line next new
  pub short : length line ≤ 128

abbrev pub WroteLine : Writer → List ℕ → Writer → Type 0
WroteLine old line new = PutLine old.buffer.now old.at line new.at new.buffer.now

-- the reports that are meant
abbrev pub reports_in : Coded → List (Option Report)
reports_in r = reports_from r.numbers.now r.integers.now r.from (r.to - r.from)

-- the same of all of them, with room for all their lines
pub record AllReady (r : Coded) (size : ℕ) : Type 0 where
  pub room : 128 * (r.to - r.from) ≤ size
  pub range : every (told_ok (contract_of r.terms.table.now)) (reports_in r) ≡ true
