-- A session's bytes in a buffer: what is kept of a line that has not ended, the last line; the question of a result line, and what each
-- asset holds at the end.
use Rattle.std.specs.Prelude.{ℕ, suc, ◌+◌, ◌*◌, List, [], ◌∷◌, get_or, take, set, eqb, ltb, pos, Option, Some, None, option_and_then}
use Rattle.laws.specs.Choice.{pick}
use Rattle.tokens.specs.Tokens.{between}
use Rattle.contract.specs.Rows.{head_of}
use Rattle.state.specs.declared.State.{State}
use Rattle.results.specs.Coded.{report_from}
use Rattle.results.specs.declared.Report.{Report}
use Rattle.results.specs.declared.Report.TheVariants.{Ruled, Sent, Held, Refused, Failed}

-- the most bytes that are kept of a line: one more than it may have, so that a longer one is refused
abbrev pub max_kept : ℕ
max_kept = 513

-- the bytes from a place up to an end, as many as are kept; none where they are not all in the buffer
unfoldable pub kept : List ℕ → ℕ → ℕ → List ℕ
kept bytes from end = take max_kept (between bytes from end)

-- how many bytes there are once a last line of `size` bytes has its LF: none where it has no byte, or the buffer no room
unfoldable pub closed_size : ℕ → ℕ → ℕ
closed_size room size = pick (eqb size 0) 0 (pick (ltb size room) (suc size) 0)

-- the buffer then; an LF past its end is not written
unfoldable pub closed : List ℕ → ℕ → List ℕ
closed bytes size = pick (eqb size 0) bytes (set bytes size 10)

-- a number that a result line has for its question; 0 stands for no question
abbrev pub numbered : ℕ → Option ℕ
numbered n = pick (eqb n 0) None (Some n)

-- the number of the question that refused a line, or that a failed firing met; none for any other result
unfoldable pub question_of : Report → Option ℕ
question_of (Ruled rule state clock) = None
question_of (Sent kind party value group) = None
question_of (Held asset amount) = None
question_of (Refused n) = numbered n
question_of (Failed n) = numbered n

-- the question of report i of those in a row, by its four numbers; its integer says nothing of it
unfoldable pub question_at : List ℕ → ℕ → Option ℕ
question_at numbers i =
    option_and_then question_of
    (report_from (get_or numbers (4 * i) 0) (get_or numbers (4 * i + 1) 0) (get_or numbers (4 * i + 2) 0) (get_or numbers (4 * i + 3) 0) (pos 0))

-- what assets hold, the first with number i
unfoldable pub held_from : ℕ → List ℕ → List Report
held_from i [] = []
held_from i (a ∷ rest) = Held i a ∷ held_from (suc i) rest

-- what each asset of the contract in a table holds
abbrev pub holdings : List ℕ → State → List Report
holdings w s = held_from 0 (take (head_of w).assets s.assets)
