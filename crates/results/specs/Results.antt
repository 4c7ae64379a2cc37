-- What writing a line answers, and what it leaves in the lent buffer.
use Rattle.std.specs.Prelude.{◌≡◌, Bool, true, false, ℕ, ◌/◌, List, [], ◌∷◌, ◌++◌, length, take, drop, ltb, Result, Ok, Err, Option, Some, None}
use Rattle.questions.specs.declared.Question.{Question}
use Rattle.questions.specs.declared.Question.TheVariants as ask
use Rattle.laws.specs.Choice.{pick}
use Rattle.laws.specs.Lists.{every}
use Rattle.contract.specs.Tree.{Contract}
use Rattle.contract.specs.Decode.{contract_of}
use Rattle.contract.specs.Check.{passes}
use Rattle.results.specs.Lines.{report_ok, told_ok, line_of, text_refusal, text_line}
use Rattle.results.specs.declared.Report.{Report}
use Rattle.results.specs.declared.Batch.{Batch}

-- what writing answers, for a table, a report and the buffer's length: questions 52, 3 and 53, else how many bytes the line has (`buffer_after` has the bytes)
unfoldable pub written : List ℕ → Report → ℕ → Result ℕ Question
written w report size =
    pick (ltb size 128) (Err ask.ResultRoom)
    (pick (passes w)
    (pick (report_ok (contract_of w) report) (Ok (length (line_of (contract_of w) report))) (Err ask.ResultKinds))
    (Err ask.TableCheck))

-- the same of a refused text: questions 52 and 53, else how many bytes its line has
unfoldable pub text_written : ℕ → ℕ → ℕ → Result ℕ Question
text_written n place size = pick (ltb size 128) (Err ask.ResultRoom) (pick (text_refusal n) (Ok (length (text_line n place))) (Err ask.ResultKinds))

-- the buffer after an answer: a line that was written stands first, and the bytes after it are as they were
unfoldable pub after : Result ℕ Question → List ℕ → List ℕ → List ℕ
after (Ok n) line old = line ++ drop n old
after (Err q) line old = old

abbrev pub buffer_after : List ℕ → Report → List ℕ → List ℕ
buffer_after w report old = after (written w report (length old)) (line_of (contract_of w) report) old

abbrev pub text_buffer_after : ℕ → ℕ → List ℕ → List ℕ
text_buffer_after n place old = after (text_written n place (length old)) (text_line n place) old

-- ---- many lines at once

-- the lines of the reports that numbers tell
unfoldable pub lines_of : Contract → List (Option Report) → List ℕ
lines_of c [] = []
lines_of c (None ∷ rs) = lines_of c rs
lines_of c (Some r ∷ rs) = line_of c r ++ lines_of c rs

-- the reports whose lines one call writes: as many as surely fit into a buffer of so many bytes, 128 to each, since no line is longer
abbrev pub first_reports : ℕ → List (Option Report) → List (Option Report)
first_reports size rs = take (size / 128) rs

-- question 53 is asked of all of these before the first is written; which one it refuses is not told (`written` of each tells it)
unfoldable pub batch_of : Contract → List (Option Report) → ℕ → Result Batch Question
batch_of c rs size =
    pick (every (told_ok c) (first_reports size rs))
    (Ok (record { many = length (first_reports size rs); used = length (lines_of c (first_reports size rs)) }))
    (Err ask.ResultKinds)

-- questions 52 and 3 come first, once
unfoldable pub batch : List ℕ → List (Option Report) → ℕ → Result Batch Question
batch w rs size =
    pick (ltb size 128) (Err ask.ResultRoom) (pick (passes w) (batch_of (contract_of w) rs size) (Err ask.TableCheck))

-- the lines that were written stand first, and the bytes after them are as they were; a refused batch writes none
unfoldable pub batch_after : Contract → List (Option Report) → Result Batch Question → List ℕ → List ℕ
batch_after c rs (Ok b) old = lines_of c (take b.many rs) ++ drop b.used old
batch_after c rs (Err q) old = old

-- ---- a refused writing leaves the lent buffer as it was

-- a call that writes: the line of a report on the contract in a table, the line of a refused text (number and place), the lines of many reports
pub data Writing : Type 0 where
  write : List ℕ → Report → Writing
  write_text_refusal : ℕ → ℕ → Writing
  write_batch : List ℕ → List (Option Report) → Writing

abbrev pub is_refused : {A : Type 0} → Result A Question → Bool
is_refused (Ok a) = false
is_refused (Err q) = true

-- whether it is refused, for the buffer's length
abbrev pub refuses : Writing → ℕ → Bool
refuses (write w report) size = is_refused (written w report size)
refuses (write_text_refusal n place) size = is_refused (text_written n place size)
refuses (write_batch w rs) size = is_refused (batch w rs size)

-- the buffer after it
abbrev pub leaves : Writing → List ℕ → List ℕ
leaves (write w report) old = buffer_after w report old
leaves (write_text_refusal n place) old = text_buffer_after n place old
leaves (write_batch w rs) old = batch_after (contract_of w) rs (batch w rs (length old)) old

abbrev pub RefusedWritesNothing : Type 0
RefusedWritesNothing = (w : Writing) (buffer : List ℕ) → refuses w (length buffer) ≡ true → leaves w buffer ≡ buffer
