-- Where place p lies in a text. Past the text's end it lies where the end does.
use Rattle.std.specs.Prelude.{ℕ, zero, suc, ◌+◌, ◌-◌, min, List, Bool, not, length, get_or, take, drop, eqb}
use Prim.Native.Char.{code}
use Rattle.laws.specs.Choice.{pick}
use Rattle.laws.specs.Lists.{keep}
use Rattle.tokens.specs.Classes.{run}
use Rattle.places.specs.declared.Place.{Place}

abbrev pub is_line_feed : ℕ → Bool
is_line_feed b = eqb b (code "\n")

-- one more than the LFs among the first p bytes
unfoldable pub line_of : List ℕ → ℕ → ℕ
line_of text p = suc (length (keep is_line_feed (take p text)))

-- after the last of them, or 0
unfoldable pub start_of : List ℕ → ℕ → ℕ
start_of text zero = 0
start_of text (suc p) = pick (is_line_feed (get_or text p 0)) (suc p) (start_of text p)

-- one more than the bytes between the start and p
unfoldable pub column_of : List ℕ → ℕ → ℕ
column_of text p = suc (min p (length text) - start_of text p)

unfoldable pub in_line : ℕ → Bool
in_line b = not (is_line_feed b)

-- the next LF from the start on, or the text's end
unfoldable pub end_of : List ℕ → ℕ → ℕ
end_of text p = start_of text p + run in_line (drop (start_of text p) text)

abbrev pub place_of : List ℕ → ℕ → Place
place_of text p = record { line = line_of text p; column = column_of text p; start = start_of text p; end = end_of text p }
