-- Reading a text into a table of words: what it answers, and what the table then holds.
use Rattle.std.specs.Prelude.{ℕ, List, [], length, eqb, leb, Result, Ok, Err, unwrap_or}
use Rattle.laws.specs.Choice.{pick}
use Rattle.contract.specs.Tree.{Contract}
use Rattle.contract.specs.Table.{table_length}
use Rattle.contract.specs.Encode.{encode, zeros}
use Rattle.reading.specs.Syntax.{Syntax}
use Rattle.reading.specs.Grammar.{Parsed, done, no, parse}
use Rattle.reading.specs.Items.{items}
use Rattle.reading.specs.Rules.{Finding, fine, breaks, judged}
use Rattle.reading.specs.Resolve.{resolve}
use Rattle.questions.specs.declared.Question.{Question}
use Rattle.questions.specs.declared.Question.TheVariants.{Grammar}
use Rattle.questions.specs.Numbers.{question_of}
use Rattle.reading.specs.declared.Refusal.{Refusal}

-- bytes of a text
abbrev pub max_text : ℕ
max_text = 16384

pub data Reading : Type 0 where
  accepted : Contract → Reading
  -- a question's number, and the byte's place
  refused : ℕ → ℕ → Reading

-- 11 to 15, then the contract
abbrev pub ruled : List ℕ → Syntax → Finding → Reading
ruled s c fine = accepted (resolve s c)
ruled s c (breaks q p) = refused q p

-- 5 to 10, then the rest
abbrev pub parsed : List ℕ → Parsed Syntax → Reading
parsed s (done c n) = ruled s c (judged s [] fine (items c))
parsed s (no q p) = refused q p

-- a text, with a lent table of so many words
unfoldable pub read_text : List ℕ → ℕ → Reading
read_text s words =
    pick (leb (length s) max_text)
    (pick (eqb words table_length) (parsed s (parse s)) (refused 2 0))
    (refused 1 0)

-- the question with a number; no text is refused by a number that no question has (`number_asked`, reading_laws/proofs/Asked.antt)
unfoldable pub asked : ℕ → Question
asked q = unwrap_or (question_of q) Grammar

abbrev pub refusal : ℕ → ℕ → Refusal
refusal q p = record { question = asked q; place = p }

abbrev pub Answered : Type 0
Answered = Result (Unit {0}) Refusal

abbrev pub answer_of : Reading → Answered
answer_of (accepted c) = Ok tt
answer_of (refused q p) = Err (refusal q p)

-- the table after reading: the contract's, or zeros
abbrev pub table_of : ℕ → Reading → List ℕ
table_of words (accepted c) = encode c
table_of words (refused q p) = zeros words
