-- Result lines as numbers, four and an integer each, so that many can be handed on at once.
use Rattle.std.specs.Prelude.{ℕ, zero, suc, ◌+◌, ◌*◌, ◌/◌, min, List, [], ◌∷◌, ◌++◌, length, get_or, eqb, ltb, ℤ, pos, Option, Some, None}
use Rattle.laws.specs.Choice.{pick}
use Rattle.results.specs.declared.Report.{Report}
use Rattle.results.specs.declared.Report.TheVariants.{Ruled, Sent, Held, Refused, Failed}

-- the four numbers of a report, the first telling which it is; those that it does not need are 0
abbrev pub coded : Report → List ℕ
coded (Ruled rule state clock) = 1 ∷ rule ∷ state ∷ clock ∷ []
coded (Sent kind party value group) = 2 ∷ kind ∷ party ∷ group ∷ []
coded (Held asset amount) = 3 ∷ asset ∷ amount ∷ 0 ∷ []
coded (Refused n) = 4 ∷ n ∷ 0 ∷ 0 ∷ []
coded (Failed n) = 5 ∷ n ∷ 0 ∷ 0 ∷ []

-- its integer: a label's value, else 0
abbrev pub integer_of : Report → ℤ
integer_of (Ruled rule state clock) = pos 0
integer_of (Sent kind party value group) = value
integer_of (Held asset amount) = pos 0
integer_of (Refused n) = pos 0
integer_of (Failed n) = pos 0

-- the same of many reports in a row
unfoldable pub coded_all : List Report → List ℕ
coded_all [] = []
coded_all (r ∷ rs) = coded r ++ coded_all rs

unfoldable pub integers_of : List Report → List ℤ
integers_of [] = []
integers_of (r ∷ rs) = integer_of r ∷ integers_of rs

-- the report of four numbers and an integer; none where the first tells none, or the second is more than a byte; numbers that a report does not
-- need are not looked at
unfoldable pub report_from : ℕ → ℕ → ℕ → ℕ → ℤ → Option Report
report_from which a b c value =
    pick (ltb a 256)
    (pick (eqb which 1) (Some (Ruled a b c))
    (pick (eqb which 2) (Some (Sent a b value c))
    (pick (eqb which 3) (Some (Held a b))
    (pick (eqb which 4) (Some (Refused a))
    (pick (eqb which 5) (Some (Failed a)) None)))))
    None

-- the same, the four numbers in a list
abbrev pub report_of : List ℕ → ℤ → Option Report
report_of ns value = report_from (get_or ns 0 0) (get_or ns 1 0) (get_or ns 2 0) (get_or ns 3 0) value

-- how many stand there whole, with four numbers and an integer each
abbrev pub whole_of : List ℕ → List ℤ → ℕ
whole_of numbers integers = min (length numbers / 4) (length integers)

-- report i of those in a row; past those that stand there whole there is none
unfoldable pub report_at : List ℕ → List ℤ → ℕ → Option Report
report_at numbers integers i =
    pick (ltb i (whole_of numbers integers))
    (report_from (get_or numbers (4 * i) 0) (get_or numbers (4 * i + 1) 0) (get_or numbers (4 * i + 2) 0) (get_or numbers (4 * i + 3) 0) (get_or integers i (pos 0)))
    None

-- n of them from report i on
unfoldable pub reports_from : List ℕ → List ℤ → ℕ → ℕ → List (Option Report)
reports_from numbers integers i zero = []
reports_from numbers integers i (suc n) = report_at numbers integers i ∷ reports_from numbers integers (suc i) n
