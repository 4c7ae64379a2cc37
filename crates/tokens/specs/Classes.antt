-- Classes of bytes, runs of bytes of a class, and the gap (blanks and comments) before a token.
use Rattle.std.specs.Prelude.{ℕ, suc, ◌+◌, ◌-◌, ◌*◌, List, [], ◌∷◌, Bool, true, false, leb, eqb}
use Prim.Native.Char.{code}
use Rattle.laws.specs.Choice.{pick}
use Rattle.laws.specs.Bytes.{bytes, starts_with}

-- lo ≤ b ≤ hi
unfoldable pub within : ℕ → ℕ → ℕ → Bool
within b lo hi = pick (leb lo b) (leb b hi) false

unfoldable pub is_letter : ℕ → Bool
is_letter b = pick (within b (code "a") (code "z")) true (within b (code "A") (code "Z"))

unfoldable pub is_digit : ℕ → Bool
is_digit b = within b (code "0") (code "9")

-- a letter, a digit or an underscore
unfoldable pub is_name_byte : ℕ → Bool
is_name_byte b = pick (is_letter b) true (pick (is_digit b) true (eqb b (code "_")))

unfoldable pub is_printable : ℕ → Bool
is_printable b = within b (code " ") (code "~")

-- space, tab, LF or CR
unfoldable pub is_blank : ℕ → Bool
is_blank b = pick (eqb b (code " ")) true (pick (eqb b (code "\t")) true (pick (eqb b (code "\n")) true (eqb b (code "\r"))))

-- printable ASCII, tab, LF or CR
unfoldable pub is_text : ℕ → Bool
is_text b = pick (is_printable b) true (is_blank b)

-- printable ASCII without the double quote
unfoldable pub is_string_byte : ℕ → Bool
is_string_byte b = pick (eqb b (code "\"")) false (is_printable b)

-- how many bytes at the front are of a class
unfoldable pub run : (ℕ → Bool) → List ℕ → ℕ
run p [] = 0
run p (x ∷ xs) = pick (p x) (suc (run p xs)) 0

-- v, followed by the digits at the front, as a decimal number
unfoldable pub decimal : ℕ → List ℕ → ℕ
decimal v [] = v
decimal v (x ∷ xs) = pick (is_digit x) (decimal (v * 10 + (x - code "0")) xs) v

-- How many bytes at the front are blanks or in comments; the Bool tells whether a comment is open.
-- `//` opens a comment and LF closes it. A byte that is no text ends the gap.
unfoldable pub gap : Bool → List ℕ → ℕ
gap opened [] = 0
gap false (x ∷ xs) = pick (is_blank x) (suc (gap false xs)) (pick (starts_with (x ∷ xs) (bytes "//")) (suc (gap true xs)) 0)
gap true (x ∷ xs) = pick (eqb x (code "\n")) (suc (gap false xs)) (pick (is_text x) (suc (gap true xs)) 0)
