-- The fixed words of document 01, each by its number.
use Rattle.std.specs.Prelude.{ℕ, List, [], ◌∷◌, get_or}
use Prim.Native.String.{String}
use Rattle.laws.specs.Bytes.{bytes}

-- the words as document 01 spells them; a word's number is its place here, from 0
abbrev pub spellings : List String
spellings =
    "legal_contract" ∷ "assets" ∷ "fields" ∷ "agreement" ∷ "now" ∷ "true" ∷ "false" ∷ "=SET=>" ∷ "=OK=>" ∷
    "|->" ∷ "->" ∷ "-o" ∷ "=>" ∷ ">>" ∷ "==" ∷ "!=" ∷ "<=" ∷ ">=" ∷ "&&" ∷ "||" ∷ "(" ∷ ")" ∷ "{" ∷ "}" ∷
    "[" ∷ "]" ∷ "," ∷ ":" ∷ "@" ∷ "_" ∷ "+" ∷ "-" ∷ "*" ∷ "/" ∷ "<" ∷ ">" ∷ "~" ∷ "SET" ∷ "OK" ∷ "TICK" ∷
    "AGREE" ∷ "FUNCTION" ∷ "EVENT MATCH" ∷ "refused" ∷ "=" ∷ "\"" ∷ " " ∷ "\n" ∷ []

-- the bytes of the word with this number, none past the last
unfoldable pub spelled : ℕ → List ℕ
spelled k = bytes (get_or spellings k "")

-- reserved words
abbrev pub legal_contract : ℕ
legal_contract = 0

abbrev pub assets : ℕ
assets = 1

abbrev pub fields : ℕ
fields = 2

abbrev pub agreement : ℕ
agreement = 3

abbrev pub now_word : ℕ
now_word = 4

abbrev pub true_word : ℕ
true_word = 5

abbrev pub false_word : ℕ
false_word = 6

-- marks of a contract's text, longest first
abbrev pub set_arrow : ℕ
set_arrow = 7

abbrev pub ok_arrow : ℕ
ok_arrow = 8

abbrev pub maps_to : ℕ
maps_to = 9

abbrev pub value_arrow : ℕ
value_arrow = 10

abbrev pub asset_arrow : ℕ
asset_arrow = 11

abbrev pub state_arrow : ℕ
state_arrow = 12

abbrev pub event_mark : ℕ
event_mark = 13

abbrev pub equal : ℕ
equal = 14

abbrev pub unequal : ℕ
unequal = 15

abbrev pub at_most : ℕ
at_most = 16

abbrev pub at_least : ℕ
at_least = 17

abbrev pub and_mark : ℕ
and_mark = 18

abbrev pub or_mark : ℕ
or_mark = 19

abbrev pub open_paren : ℕ
open_paren = 20

abbrev pub close_paren : ℕ
close_paren = 21

abbrev pub open_brace : ℕ
open_brace = 22

abbrev pub close_brace : ℕ
close_brace = 23

abbrev pub open_bracket : ℕ
open_bracket = 24

abbrev pub close_bracket : ℕ
close_bracket = 25

abbrev pub comma : ℕ
comma = 26

abbrev pub colon : ℕ
colon = 27

abbrev pub at_sign : ℕ
at_sign = 28

abbrev pub underscore : ℕ
underscore = 29

abbrev pub plus_mark : ℕ
plus_mark = 30

abbrev pub minus_mark : ℕ
minus_mark = 31

abbrev pub times_mark : ℕ
times_mark = 32

abbrev pub over_mark : ℕ
over_mark = 33

abbrev pub less : ℕ
less = 34

abbrev pub greater : ℕ
greater = 35

abbrev pub not_mark : ℕ
not_mark = 36

-- verbs and the tick of a session line
abbrev pub set_verb : ℕ
set_verb = 37

abbrev pub ok_verb : ℕ
ok_verb = 38

abbrev pub tick : ℕ
tick = 39

-- printed rule names and the printed refusal
abbrev pub agree : ℕ
agree = 40

abbrev pub function : ℕ
function = 41

abbrev pub event_match : ℕ
event_match = 42

abbrev pub refused : ℕ
refused = 43

-- what else a printed line holds
abbrev pub equals : ℕ
equals = 44

abbrev pub quote : ℕ
quote = 45

abbrev pub space : ℕ
space = 46

abbrev pub line_end : ℕ
line_end = 47
