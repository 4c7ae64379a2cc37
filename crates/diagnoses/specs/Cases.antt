-- Worked cases of diagnoses.
use Rattle.std.specs.Prelude.{ℕ, List, [], ◌∷◌}
use Prim.Native.String.{String}

pub record Case : Type 0 where
  pub file : String
  pub text : String
  pub number : ℕ
  pub place : ℕ
  pub said : String

abbrev pub cases : List Case
cases =
    -- a text that is too long: its first line alone
    record { file = "lot.stipula"; text = "legal"; number = 1; place = 0; said = "lot.stipula:1:1: the text is over 16384 bytes (1)\n" }
    ∷ record {
      file = "terms.stipula";
      text = "legal_contract 7 {\n assets";
      number = 9;
      place = 15;
      said = "terms.stipula:1:16: this does not fit the grammar (9)\nlegal_contract 7 {\n               ^\n";
    }
    -- a later line, with a tab in it
    ∷ record {
      file = "a b.txt";
      text = "legal_contract Lot {\n assets bales\n fields\tpart, bales\n agreement";
      number = 12;
      place = 49;
      said = "a b.txt:3:15: this name is declared already (12)\n fields part, bales\n              ^\n";
    }
    -- the text's end, after a last LF, and of an empty text
    ∷ record { file = "lot.stipula"; text = "\n\n\n"; number = 9; place = 3; said = "lot.stipula:4:1: this does not fit the grammar (9)\n\n^\n" }
    ∷ record { file = ""; text = ""; number = 9; place = 0; said = ":1:1: this does not fit the grammar (9)\n\n^\n" }
    ∷ []
