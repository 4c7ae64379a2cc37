-- The lines that the desk prints, each ended by LF, and which numbers each may hold.
use Rattle.std.specs.Prelude.{ℕ, Bool, true, false, ◌&&◌, ◌||◌, List, [], ◌++◌, length, get_or, ℤ, pos, nat_abs, eqb, leb, ltb, Option, Some, None}
use Rattle.std.specs.Int.Signed.{lt_z}
use Rattle.laws.specs.Choice.{pick}
use Rattle.laws.specs.Bytes.{bytes}
use Rattle.words.specs.Words.{spelled, agree, function, event_match, tick, refused, value_arrow, asset_arrow, quote, line_end}
use Rattle.contract.specs.Limits.{top}
use Rattle.contract.specs.Tree.{Contract}
use Rattle.contract.specs.Check.{ranges}
use Rattle.printing.specs.Decimal.{decimal, signed}
use Rattle.results.specs.declared.Report.{Report}
use Rattle.results.specs.declared.Report.TheVariants.{Ruled, Sent, Held, Refused, Failed}

-- ---- question 53: does each number name something of its kind?

-- a label's value: an integer; a string of the contract by its number; an amount
unfoldable pub value_ok : Contract → ℕ → ℤ → Bool
value_ok c kind value =
    pick (eqb kind 1) true
    (pick (lt_z value (pos 0)) false
    (pick (eqb kind 2) (ltb (nat_abs value) (length c.strings)) true))

-- the numbers that refuse a step or a session line
unfoldable pub refusal : ℕ → Bool
refusal n = eqb n 3 || (eqb n 4 || (ranges 20 n 37 || (ranges 39 n 41 || (ranges 50 n 51 || eqb n 62))))

-- the numbers that refuse a text
unfoldable pub text_refusal : ℕ → Bool
text_refusal n = eqb n 1 || (eqb n 2 || ranges 5 n 15)

unfoldable pub report_ok : Contract → Report → Bool
report_ok c (Ruled rule state clock) = leb rule 3 && (ltb state (length c.states) && leb clock top)
report_ok c (Sent kind party value group) = ranges 1 kind 3 && (ltb party (length c.parties) && value_ok c kind value)
report_ok c (Held asset amount) = ltb asset (length c.assets) && leb amount top
report_ok c (Refused n) = refusal n
report_ok c (Failed n) = ranges 30 n 36

-- of a report that numbers tell; where they tell none, it is refused
unfoldable pub told_ok : Contract → Option Report → Bool
told_ok c None = false
told_ok c (Some r) = report_ok c r

-- ---- the lines

-- the printed name of a rule: 0 an agreement, 1 a call, 2 a firing, 3 a tick or a jump
unfoldable pub rule_name : ℕ → List ℕ
rule_name rule =
    pick (eqb rule 0) (spelled agree) (pick (eqb rule 1) (spelled function) (pick (eqb rule 2) (spelled event_match) (spelled tick)))

-- a label's value: a string (kind 2) in its quotes
unfoldable pub value_text : Contract → ℕ → ℤ → List ℕ
value_text c kind value = pick (eqb kind 2) (spelled quote ++ (get_or c.strings (nat_abs value) [] ++ spelled quote)) (signed value)

-- kind 3 is an asset
unfoldable pub arrow : ℕ → List ℕ
arrow kind = pick (eqb kind 3) (spelled asset_arrow) (spelled value_arrow)

-- `refused` and the number
unfoldable pub refused_text : ℕ → List ℕ
refused_text n = spelled refused ++ (bytes " " ++ decimal n)

unfoldable pub line_of : Contract → Report → List ℕ
line_of c (Ruled rule state clock) =
    bytes "[" ++ (rule_name rule ++ (bytes "] " ++ (get_or c.states state [] ++ (bytes ", " ++ (decimal clock ++ spelled line_end)))))
line_of c (Sent kind party value group) =
    value_text c kind value ++ (bytes " " ++ (arrow kind ++ (bytes " " ++ (get_or c.parties party [] ++ spelled line_end))))
line_of c (Held asset amount) = get_or c.assets asset [] ++ (bytes " = " ++ (decimal amount ++ spelled line_end))
line_of c (Refused n) = refused_text n ++ spelled line_end
line_of c (Failed n) = bytes "[" ++ (spelled event_match ++ (bytes "] " ++ (refused_text n ++ spelled line_end)))

-- a refused text: number and place
unfoldable pub text_line : ℕ → ℕ → List ℕ
text_line n place = refused_text n ++ (bytes " " ++ (decimal place ++ spelled line_end))
