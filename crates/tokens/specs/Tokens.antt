-- The token at a place of a text, or the question that refuses it.
use Rattle.std.specs.Prelude.{ℕ, ◌+◌, ◌-◌, min, List, [], ◌∷◌, Bool, true, false, not, length, get_or, take, drop, ltb, leb, eqb}
use Prim.Native.Char.{code}
use Rattle.laws.specs.Choice.{pick}
use Rattle.laws.specs.Bytes.{same_bytes, starts_with}
use Rattle.words.specs.Words.{spelled, legal_contract, assets, fields, agreement, now_word, true_word, false_word}
use Rattle.words.specs.Words.{set_arrow, ok_arrow, maps_to, value_arrow, asset_arrow, state_arrow, event_mark, equal, unequal, at_most, at_least, and_mark, or_mark, open_paren, close_paren, open_brace, close_brace, open_bracket, close_bracket, comma, colon, at_sign, underscore, plus_mark, minus_mark, times_mark, over_mark, less, greater, not_mark}
use Rattle.tokens.specs.Classes.{is_letter, is_digit, is_name_byte, is_text, is_string_byte, run, decimal, gap}
use Rattle.tokens.specs.declared.Token.{Token}
use Rattle.tokens.specs.declared.Digits.{Digits}
use Rattle.tokens.specs.declared.Lexed.{Lexed}
use Rattle.tokens.specs.declared.Lexed.TheVariants.{Found, Refused, End}

abbrev pub top : ℕ
top = 9223372036854775807

-- A token's kind is the number of the fixed word that it is, or one of these.
abbrev pub name : ℕ
name = 200

abbrev pub number : ℕ
number = 201

abbrev pub string : ℕ
string = 202

abbrev pub reserved : List ℕ
reserved = legal_contract ∷ assets ∷ fields ∷ agreement ∷ now_word ∷ true_word ∷ false_word ∷ []

-- the tokens that are no name, number, string or reserved word, longest first
abbrev pub marks : List ℕ
marks =
    set_arrow ∷ ok_arrow ∷ maps_to ∷
    value_arrow ∷ asset_arrow ∷ state_arrow ∷ event_mark ∷ equal ∷ unequal ∷ at_most ∷ at_least ∷ and_mark ∷ or_mark ∷
    open_paren ∷ close_paren ∷ open_brace ∷ close_brace ∷ open_bracket ∷ close_bracket ∷ comma ∷ colon ∷ at_sign ∷ underscore ∷
    plus_mark ∷ minus_mark ∷ times_mark ∷ over_mark ∷ less ∷ greater ∷ not_mark ∷ []

-- a token of kind k from a up to, not including, e, with a number's value
abbrev pub token : ℕ → ℕ → ℕ → ℕ → Lexed
token k a e v = Found (record { kind = k; start = a; end = e; value = v })

-- which of the words k, ks .. these bytes spell; a name where none
unfoldable pub kind_among : List ℕ → List ℕ → ℕ
kind_among [] w = name
kind_among (k ∷ ks) w = pick (same_bytes w (spelled k)) k (kind_among ks w)

-- question 7
unfoldable pub name_at : List ℕ → ℕ → Lexed
name_at s i =
    pick (leb (run is_name_byte (drop i s)) 32)
    (token (kind_among reserved (take (run is_name_byte (drop i s)) (drop i s))) i (i + run is_name_byte (drop i s)) 0)
    (Refused 7 i)

-- the digits at a place: where they end, and their value; of what is greater than 2 ^ 63 only that it is
abbrev pub digits_at : List ℕ → ℕ → Digits
digits_at s at = record { end = at + run is_digit (drop at s); value = min (decimal 0 (drop at s)) 9223372036854775809 }

-- question 8
unfoldable pub number_at : List ℕ → ℕ → Lexed
number_at s i =
    pick (leb (decimal 0 (drop i s)) top)
    (token number i (i + run is_digit (drop i s)) (decimal 0 (drop i s)))
    (Refused 8 i)

-- a string of n bytes, opened at i: an unclosed one starts no token, question 6; then question 7
unfoldable pub string_at : List ℕ → ℕ → ℕ → Lexed
string_at s i n =
    pick (eqb (get_or s (i + 1 + n) 0) (code "\""))
    (pick (leb n 64) (token string i (i + 1 + n + 1) 0) (Refused 7 i))
    (Refused 6 i)

-- whether a text goes on with a mark; `-o` is one only if no name byte follows
unfoldable pub goes_on : List ℕ → ℕ → Bool
goes_on t k = pick (starts_with t (spelled k)) (pick (eqb k asset_arrow) (not (is_name_byte (get_or t 2 0))) true) false

-- the first of the marks that the text goes on with at i; question 6
unfoldable pub mark_at : List ℕ → List ℕ → ℕ → Lexed
mark_at [] s i = Refused 6 i
mark_at (k ∷ ks) s i = pick (goes_on (drop i s) k) (token k i (i + length (spelled k)) 0) (mark_at ks s i)

-- the token that starts with the byte b at i; question 5
unfoldable pub start_at : List ℕ → ℕ → ℕ → Lexed
start_at s i b =
    pick (is_text b)
    (pick (is_letter b) (name_at s i)
    (pick (is_digit b) (number_at s i)
    (pick (eqb b (code "\"")) (string_at s i (run is_string_byte (drop (i + 1) s)))
    (mark_at marks s i))))
    (Refused 5 i)

unfoldable pub here : List ℕ → ℕ → Lexed
here s i = pick (ltb i (length s)) (start_at s i (get_or s i 0)) End

-- the first token at or after a place
unfoldable pub token_at : List ℕ → ℕ → Lexed
token_at s at = here s (at + gap false (drop at s))

-- the bytes from a up to, not including, e; none where they are not all in s
unfoldable pub between : List ℕ → ℕ → ℕ → List ℕ
between s a e = pick (leb a e) (pick (leb e (length s)) (take (e - a) (drop a s)) []) []

-- the bytes of a token; of a string, those inside its quotes
unfoldable pub part_of : List ℕ → Token → List ℕ
part_of s t = pick (eqb t.kind string) (between s (t.start + 1) (t.end - 1)) (between s t.start t.end)
