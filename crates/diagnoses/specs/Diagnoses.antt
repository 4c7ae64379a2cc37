-- What is said of a refused contract: FILE:LINE:COLUMN: WORDS (N), the text's line, and a mark under the place.
use Rattle.std.specs.Prelude.{ℕ, ◌-◌, Bool, ◌&&◌, ◌||◌, List, [], ◌++◌, map, length, take, drop, eqb, ltb, leb}
use Prim.Native.Char.{code}
use Rattle.laws.specs.Choice.{pick}
use Rattle.laws.specs.Bytes.{bytes}
use Rattle.tokens.specs.Classes.{is_printable}
use Rattle.tokens.specs.Tokens.{between}
use Rattle.printing.specs.Decimal.{decimal}
use Rattle.printing.specs.Pieces.{spaces}
use Rattle.question_words.specs.Words.{words_of}
use Rattle.places.specs.Places.{place_of}
use Rattle.places.specs.declared.Place.{Place}

-- FILE:LINE:COLUMN and what stands before the words
unfoldable pub where_text : List ℕ → ℕ → ℕ → List ℕ
where_text file line column = file ++ (bytes ":" ++ (decimal line ++ (bytes ":" ++ (decimal column ++ bytes ": "))))

-- WORDS (N)
unfoldable pub what_text : ℕ → List ℕ
what_text n = words_of n ++ (bytes " (" ++ (decimal n ++ bytes ")\n"))

-- a byte as it is shown: a space where it is not printable
unfoldable pub shown : ℕ → ℕ
shown b = pick (is_printable b) b (code " ")

-- a line as it is shown: at most its first 200 bytes
unfoldable pub shown_line : List ℕ → List ℕ
shown_line line = map shown (take 200 line)

-- `^` under a column, none over 200
unfoldable pub mark_under : ℕ → List ℕ
mark_under column = pick (ltb 200 column) [] (spaces (column - 1) ++ bytes "^\n")

-- the text's line with a place, and the mark
unfoldable pub source_text : List ℕ → Place → List ℕ
source_text text place = shown_line (between text place.start place.end) ++ (bytes "\n" ++ mark_under place.column)

-- questions 1 and 2 have no place in the text
unfoldable pub diagnosis_at : List ℕ → List ℕ → ℕ → Place → List ℕ
diagnosis_at file text n place =
    where_text file place.line place.column ++ (what_text n ++ pick (eqb n 1 || eqb n 2) [] (source_text text place))

-- the diagnosis of a text that question n refused at place p
abbrev pub diagnosis : List ℕ → List ℕ → ℕ → ℕ → List ℕ
diagnosis file text n p = diagnosis_at file text n (place_of text p)

-- a file's name has at most 1,024 bytes and the buffer at least 2,048, or nothing is written
unfoldable pub fits : ℕ → ℕ → Bool
fits name room = leb name 1024 && leb 2048 room

-- how many bytes are written
abbrev pub written : List ℕ → List ℕ → ℕ → ℕ → ℕ → ℕ
written file text n p room = pick (fits (length file) room) (length (diagnosis file text n p)) 0

-- the buffer then: the diagnosis stands first, the bytes after it are as they were
abbrev pub buffer_after : List ℕ → List ℕ → ℕ → ℕ → List ℕ → List ℕ
buffer_after file text n p buffer =
    pick (fits (length file) (length buffer)) (diagnosis file text n p ++ drop (length (diagnosis file text n p)) buffer) buffer
