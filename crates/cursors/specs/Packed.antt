-- A cursor, and a parser's answer, as one number. From the lowest: 8 bits for the kind, 15 each for where the token
-- starts, where it ends and from where it was looked for, 8 for the question that refuses it. A refusal has bit 61, its question in place of
-- the kind, and its place in place of the start. That is enough for a text of 16,384 bytes.
use Rattle.std.specs.Prelude.{ℕ, ◌/◌, ◌%◌, min, Bool, List, length, drop, eqb, leb}
use Rattle.laws.specs.Choice.{pick}
use Rattle.tokens.specs.Classes.{decimal}
use Rattle.tokens.specs.Tokens.{number}
use Rattle.contract.specs.Encode.{zeros}
use Rattle.entries.specs.Draft.{Draft}
use Rattle.reading_laws.specs.Walk.{Cursor, Step, On, Stop, Walk, on, stop}

abbrev pub kind_in : ℕ → ℕ
kind_in c = c % 256

abbrev pub start_in : ℕ → ℕ
start_in c = c / 256 % 32768

abbrev pub end_in : ℕ → ℕ
end_in c = c / 8388608 % 32768

abbrev pub at_in : ℕ → ℕ
at_in c = c / 274877906944 % 32768

abbrev pub question_in : ℕ → ℕ
question_in c = c / 9007199254740992 % 256

abbrev pub is_stop : ℕ → Bool
is_stop c = leb 2305843009213693952 c

-- the value of the digits at a place
abbrev pub digits_at : List ℕ → ℕ → ℕ
digits_at s at = min (decimal 0 (drop at s)) 9223372036854775809

-- the cursor
unfoldable pub cursor_in : List ℕ → ℕ → Cursor
cursor_in s c =
    record {
      at = at_in c;
      kind = kind_in c;
      question = question_in c;
      start = start_in c;
      end = end_in c;
      value = pick (eqb (kind_in c) number) (digits_at s (start_in c)) 0;
    }

-- the answer
unfoldable pub step_in : List ℕ → ℕ → Step
step_in s r = pick (is_stop r) (Stop (kind_in r) (start_in r)) (On (cursor_in s r))

-- ---- texts of any length

-- a cursor as 15 bits a place can tell it: the cursor itself where the text has at most 16,384 bytes and it was looked for below 32,768
unfoldable pub clipped : List ℕ → Cursor → Cursor
clipped s c =
    record {
      at = c.at % 32768;
      kind = c.kind;
      question = c.question;
      start = c.start % 32768;
      end = c.end % 32768;
      value = pick (eqb c.kind number) (digits_at s (c.start % 32768)) 0;
    }

unfoldable pub clipped_step : List ℕ → Step → Step
clipped_step s (On c) = On (clipped s c)
clipped_step s (Stop q o) = Stop q (o % 32768)

-- ---- what a parser leaves

-- zeros in both lists, as many as there were
abbrev pub cleared : Draft → Draft
cleared d = record { table = zeros (length d.table); notes = zeros (length d.notes) }

-- the lists after an answer: zeros where it is a refusal
unfoldable pub left_after : ℕ → Draft → Draft
left_after r d = pick (is_stop r) (cleared d) d

-- question 1 is asked before all others
unfoldable pub entered : List ℕ → Walk → Walk
entered s w = pick (leb (length s) 16384) w (stop 1 0)

-- the answer of a walk
unfoldable pub step_after : Walk → Step
step_after (on c p) = On c
step_after (stop q o) = Stop q o

-- the lists after a walk over those of d: a refusal leaves zeros
unfoldable pub draft_after : Draft → Walk → Draft
draft_after d (on c p) = p
draft_after d (stop q o) = cleared d
