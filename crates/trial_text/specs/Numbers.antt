use Rattle.std.specs.Prelude.{ℕ, zero, suc, ◌+◌, ◌-◌, ◌^◌, min, Bool, ◌&&◌, if◌then◌else◌, List, [], ◌∷◌, length, drop, map, nat_lt, nat_eq, slice_index, slice_get, slice_set, Result, ℤ, pos, ◌+ℤ◌, ◌-ℤ◌}
use Rattle.std.specs.Int.{saturate_signed, w64}
use Rattle.std.specs.List.{slice_split}
use Rattle.std.specs.Option.{unwrap_or}
use Rattle.std.specs.Result.{ResultUnwrapsOrElse}
use Rattle.std.specs.Str.{all_ascii_digits}
use Rattle.std.specs.Str.Parse.{digits_value, without_leading_plus, without_leading_sign, starts_with_minus, signed_digits_value}
use Rattle.tokens.specs.Classes.{is_digit, run, decimal}

-- ---- by the words of a text

-- n is what a word stands for: the number that it is read as, or else the default
abbrev pub StandsFor : {N E : Type 0} → (List ℕ → Result N E → Type 0) → (N → Type 0) → List ℕ → N → Type 0
StandsFor {N} {E} reads default word n = (r : Result N E) × reads word r × ResultUnwrapsOrElse r default n

-- the words of a text: what stands between its spaces
abbrev pub words : List ℕ → List (List ℕ)
words text = slice_split (λ b. nat_eq b 32) text

-- one digit or more, whose number is below an end
abbrev pub is_numeral_below : ℕ → List ℕ → Bool
is_numeral_below end digits = (nat_lt 0 (length digits) && all_ascii_digits digits) && nat_lt (digits_value 10 digits) end

-- the number of so many bits that a word stands for; 0 for one that stands for none
abbrev pub natural : ℕ → List ℕ → ℕ
natural bits word =
    let digits = without_leading_plus word in
    if is_numeral_below (2 ^ bits) digits then digits_value 10 digits else 0

-- the same of a number with a sign, of 64 bits
abbrev pub integer : List ℕ → ℤ
integer word =
    if is_numeral_below (if starts_with_minus word then 2 ^ 63 + 1 else 2 ^ 63) (without_leading_sign word) then signed_digits_value 10 word else pos 0

-- the numbers that word k of a text stands for, the first being word 0; 0 where it has no such word
abbrev pub natural_at : ℕ → List ℕ → ℕ → ℕ
natural_at bits text k = natural bits (unwrap_or (slice_get (words text) k) [])

abbrev pub integer_at : List ℕ → ℕ → ℤ
integer_at text k = integer (unwrap_or (slice_get (words text) k) [])

-- numbers with others written over them from a place on, as far as they reach
abbrev pub overwritten : ℕ → List ℕ → List ℕ → List ℕ
overwritten at [] numbers = numbers
overwritten at (n ∷ more) numbers = overwritten (at + 1) more (slice_set numbers at n)

-- numbers with those of a line written over them: its first word is the place, and the words after it are the numbers
abbrev pub stored : List ℕ → List ℕ → List ℕ
stored line numbers = overwritten (natural_at 64 line 0) (map (natural 64) (drop 1 (words line))) numbers

-- ---- by what any bytes begin with

-- the number that a text begins with, the greatest of 64 bits where it is greater; 0 where it begins with no digit
abbrev pub leading_natural : List ℕ → ℕ
leading_natural text = min (decimal 0 text) (2 ^ 64 - 1)

-- what stands behind the byte after these digits
abbrev pub behind : List ℕ → List ℕ
behind text = drop (suc (run is_digit text)) text

-- whether a text begins with a minus
abbrev pub is_minus : List ℕ → Bool
is_minus text = nat_eq (slice_index text 0) 45

-- the integer that a text begins with, the nearest of 64 bits where it does not fit
abbrev pub leading_integer : List ℕ → ℤ
leading_integer text = saturate_signed w64 (if is_minus text then pos 0 -ℤ pos (leading_natural (drop 1 text)) else pos 0 +ℤ pos (leading_natural text))

-- what stands behind it
abbrev pub behind_integer : List ℕ → List ℕ
behind_integer text = if is_minus text then behind (drop 1 text) else behind text

-- numbers with those of a text over them at so many places from one on, until the text ends
unfoldable pub leading_stored : ℕ → ℕ → List ℕ → List ℕ → List ℕ
leading_stored zero at text numbers = numbers
leading_stored (suc n) at [] numbers = numbers
leading_stored (suc n) at (b ∷ more) numbers = leading_stored n (suc at) (behind (b ∷ more)) (slice_set numbers at (leading_natural (b ∷ more)))

-- numbers with those of a line over them: its first number is the place, and the numbers after it are those from there on
abbrev pub line_stored : List ℕ → List ℕ → List ℕ
line_stored line numbers = leading_stored (length numbers - leading_natural line) (leading_natural line) (behind line) numbers
