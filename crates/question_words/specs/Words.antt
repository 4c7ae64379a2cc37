-- The words of each question, as the desk says them.
use Rattle.std.specs.Prelude.{ℕ, List, [], ◌∷◌, eqb}
use Prim.Native.String.{String}
use Rattle.laws.specs.Choice.{pick}
use Rattle.laws.specs.Bytes.{bytes}

-- a question's number and its words
pub record Row : Type 0 where
  pub number : ℕ
  pub words : String

abbrev pub table : List Row
table =
    record { number = 1; words = "the text is over 16384 bytes" }
    ∷ record { number = 2; words = "the table has another length than docs/TABLE.md states" }
    ∷ record { number = 3; words = "the table does not pass its check" }
    ∷ record { number = 4; words = "the state is not within its ranges" }
    ∷ record { number = 5; words = "not a printable ASCII byte, tab, LF or CR" }
    ∷ record { number = 6; words = "no token starts here" }
    ∷ record { number = 7; words = "a name over 32 bytes or a string over 64" }
    ∷ record { number = 8; words = "a number over 9223372036854775807" }
    ∷ record { number = 9; words = "this does not fit the grammar" }
    ∷ record { number = 10; words = "more than 16 levels" }
    ∷ record { number = 11; words = "one more than the limit" }
    ∷ record { number = 12; words = "this name is declared already" }
    ∷ record { number = 13; words = "not a name of the kind wanted here" }
    ∷ record { number = 14; words = "the agreement breaks its rules" }
    ∷ record { number = 15; words = "this party has a function of this name in this state already" }
    ∷ record { number = 20; words = "the label slice is too short" }
    ∷ record { number = 21; words = "agreed already" }
    ∷ record { number = 22; words = "not agreed yet" }
    ∷ record { number = 23; words = "not the parties, verbs and fields of the agreement" }
    ∷ record { number = 24; words = "set and agreed values are not the same" }
    ∷ record { number = 25; words = "an event is due" }
    ∷ record { number = 26; words = "no such function for this party in this state" }
    ∷ record { number = 27; words = "a wrong number of arguments" }
    ∷ record { number = 28; words = "an asset below 0" }
    ∷ record { number = 29; words = "the precondition is false" }
    ∷ record { number = 30; words = "a field without a value" }
    ∷ record { number = 31; words = "an operand of the wrong kind" }
    ∷ record { number = 32; words = "a result over 64 bits" }
    ∷ record { number = 33; words = "a divisor of 0" }
    ∷ record { number = 34; words = "an amount below 0" }
    ∷ record { number = 35; words = "more than the source holds" }
    ∷ record { number = 36; words = "more than the other asset can hold" }
    ∷ record { number = 37; words = "an asset parameter is not empty at the end" }
    ∷ record { number = 39; words = "more than 64 events pending" }
    ∷ record { number = 40; words = "the clock is at its last value" }
    ∷ record { number = 41; words = "nothing is due" }
    ∷ record { number = 50; words = "a line over 512 bytes" }
    ∷ record { number = 51; words = "not a line of a session" }
    ∷ record { number = 52; words = "the result buffer is under 128 bytes" }
    ∷ record { number = 53; words = "a number that names nothing of its kind" }
    ∷ record { number = 60; words = "the page buffer is under 5185 bytes" }
    ∷ record { number = 61; words = "not an asset payout to a known party" }
    ∷ record { number = 62; words = "that time is past" }
    ∷ []

-- the words in the first of these rows with a number, none where no row has it
unfoldable pub words_in : List Row → ℕ → String
words_in [] number = ""
words_in (row ∷ rows) number = pick (eqb row.number number) row.words (words_in rows number)

-- the bytes of a number's words, none where it has no words
unfoldable pub words_of : ℕ → List ℕ
words_of number = bytes (words_in table number)
