-- The worked cases hold of the definitions, jointly; a line of 201 bytes. Assumes nothing.
use mathlib.Core.Path.{◌≡◌, refl}
use mathlib.Core.List.{map, ◌++◌}
use Rattle.laws.specs.Choice.{pick}
use Rattle.laws.specs.Bytes.{bytes}
use Rattle.laws.specs.Lists.{keep}
use Rattle.tokens.specs.Classes.{run, within, is_printable}
use Rattle.tokens.specs.Tokens.{between}
use Rattle.printing.specs.Decimal.{decimal, decimal_within}
use Rattle.printing.specs.Pieces.{spaces}
use Rattle.question_words.specs.Words.{words_in, words_of}
use Rattle.places.specs.Places.{line_of, start_of, column_of, in_line, end_of}
use Rattle.diagnoses.specs.Diagnoses.{where_text, what_text, shown, shown_line, mark_under, source_text, diagnosis_at, diagnosis}
use Rattle.diagnoses.specs.Cases.{Case, cases}

pub worked : map (λ (c : Case). diagnosis (bytes c.file) (bytes c.text) c.number c.place) cases ≡ map (λ (c : Case). bytes c.said) cases
unfolding
    pick keep run within is_printable between decimal decimal_within words_in words_of line_of start_of column_of in_line end_of
    where_text what_text shown shown_line mark_under source_text diagnosis_at
worked = refl

-- a mark under column 200, and none under column 201
pub column_200 : diagnosis (bytes "lot") (spaces 199 ++ bytes "$$") 6 199 ≡ bytes "lot:1:200: no token starts here (6)\n" ++ (spaces 199 ++ (bytes "$\n" ++ (spaces 199 ++ bytes "^\n")))
unfolding
    pick keep run within is_printable between decimal decimal_within words_in words_of line_of start_of column_of in_line end_of
    where_text what_text shown shown_line mark_under source_text diagnosis_at
column_200 = refl

pub column_201 : diagnosis (bytes "lot") (spaces 200 ++ bytes "$") 6 200 ≡ bytes "lot:1:201: no token starts here (6)\n" ++ (spaces 200 ++ bytes "\n")
unfolding
    pick keep run within is_printable between decimal decimal_within words_in words_of line_of start_of column_of in_line end_of
    where_text what_text shown shown_line mark_under source_text diagnosis_at
column_201 = refl
