-- The settlement page (document 02, F-1), byte by byte.
use Rattle.std.specs.Prelude.{ℕ, zero, suc, ◌-◌, ◌*◌, ◌/◌, ◌%◌, List, [], ◌∷◌, ◌++◌, length, get_or, take, drop, nat_abs}
use Rattle.laws.specs.Bytes.{bytes}
use Rattle.words.specs.Words.{spelled, line_end}
use Rattle.contract.specs.Tree.{Contract}
use Rattle.contract.specs.Encode.{joined}
use Rattle.printing.specs.Decimal.{digit, decimal}
use Rattle.printing.specs.Pieces.{spaces}
use Rattle.results.specs.Lines.{rule_name}
use Rattle.pages.specs.Entries.{Entry}

-- a word at the right of n bytes, or at their left
unfoldable pub right : ℕ → List ℕ → List ℕ
right n w = spaces (n - length w) ++ w

unfoldable pub left : ℕ → List ℕ → List ℕ
left n w = w ++ spaces (n - length w)

-- clock, rule, party and amount: 84 bytes and LF
unfoldable pub line_of : Contract → Entry → List ℕ
line_of c e =
    right 19 (decimal e.clock) ++ (bytes " "
    ++ (left 11 (rule_name e.rule) ++ (bytes " "
    ++ (left 32 (get_or c.parties e.party []) ++ (bytes " "
    ++ (right 19 (decimal (nat_abs e.value)) ++ spelled line_end))))))

abbrev pub blank_line : List ℕ
blank_line = spaces 84 ++ spelled line_end

unfoldable pub blank_lines : ℕ → List ℕ
blank_lines zero = []
blank_lines (suc n) = blank_line ++ blank_lines n

-- how many payouts there are on the page, in two digits
unfoldable pub foot : ℕ → List ℕ
foot n = spaces 82 ++ (digit (n / 10) ∷ digit (n % 10) ∷ spelled line_end)

-- the lines of at most 60 entries, blank ones up to 60, and the foot
unfoldable pub sheet : Contract → List Entry → List ℕ
sheet c es = joined (line_of c) es ++ (blank_lines (60 - length es) ++ foot (length es))

-- the n-th sixty of a list, from 0
abbrev pub sixty : {A : Type 0} → ℕ → List A → List A
sixty n es = take 60 (drop (60 * n) es)

-- page n of entries
abbrev pub page_of : Contract → List Entry → ℕ → List ℕ
page_of c es n = sheet c (sixty n es)
