-- Demand 1 of document 01: what is refused writes to nothing that was lent, but for a reading, whose table becomes zeros.
use Rattle.std.specs.Prelude.{ℕ, ◌≡◌, Bool, true, false, List, [], ℤ, Err}
use Rattle.std.proofs.lemmas.List.Edits.{sets}
use Rattle.contract.specs.Tree.{Contract}
use Rattle.contract.specs.Check.{ranges}
use Rattle.contract.specs.Encode.{zeros}
use Rattle.reading.specs.Reading.{refused, read_text, table_of}
use Rattle.state.specs.declared.State.{State}
use Rattle.lines.specs.Lines as lines
use Rattle.lines.specs.Answers.{numbers_after}
use Rattle.results.specs.Lines.{refusal}
use Rattle.results.specs.Results.{RefusedWritesNothing}
use Rattle.results.specs.Coded.{coded_all, integers_of}
use Rattle.pages.specs.Answers.{RefusedPage}
use Rattle.outcomes.specs.declared.Outcome.{Outcome}
use Rattle.outcomes.specs.declared.Outcome.TheVariants.{Accepted, Failed, Refused}
use Rattle.machine.specs.Sessions.{unread, heard, played, reports_of}
use Rattle.history.specs.Histories.{Step, answer_to, returned, is_refused, within64}
use Rattle.history.specs.Sessions.{Stored}
use Rattle.questions.specs.declared.Question.TheVariants as ask
use Rattle.questions.specs.declared.Question.{Question}
use Rattle.questions.specs.Numbers.{number_of}

-- accepted by a rule: neither refused nor a firing that fails
abbrev pub by_rule : Outcome Question → Bool
by_rule (Accepted r) = true
by_rule (Failed n) = false
by_rule (Refused n) = false

pub record Untouched : Type 0 where
  -- a step that is refused, and a firing that fails, leave the label slice as it was, of whatever length
  pub labels : (w : List ℕ) (s : State) (a : Step) → by_rule (answer_to w s a).outcome ≡ false → (returned w s a).slice ≡ a.slice
  -- a refused step hands back the state it was given
  pub state : (w : List ℕ) (s : State) (a : Step) → is_refused (answer_to w s a).outcome ≡ true → (answer_to w s a).state ≡ s
  -- a refused reading leaves a table of zeros, whatever its number
  pub table : (text : List ℕ) (words q p : ℕ) → read_text text words ≡ refused q p → table_of words (read_text text words) ≡ zeros words
  -- and every step on that table answers 3
  pub unread_table : (text : List ℕ) (words q p : ℕ) (s : State) (a : Step) → read_text text words ≡ refused q p
      → (answer_to (table_of words (read_text text words)) s a).outcome ≡ Refused ask.TableCheck
  -- a refused writing of result lines leaves the bytes that were lent for them
  pub results : RefusedWritesNothing
  -- a refused settlement page leaves the bytes that were lent for it
  pub page : RefusedPage
  -- a session line that questions 50 and 51 refuse leaves the state
  pub line : (c : Contract) (s : State) (q : Question) → (heard c s (unread q)).state ≡ s
  -- and the list that was lent for a call's integers
  pub line_integers : (bytes : List ℕ) (q : Question) (integers : List ℤ) → lines.asked bytes ≡ lines.refused q → numbers_after (lines.asked bytes) integers ≡ integers
  -- a session that is refused has no state after it and no bytes taken, by the type of its answer, and tells nothing
  pub session_told : (w : List ℕ) (s : State) (bytes : List ℕ) (room : ℕ) (q : Question) → played w s bytes room ≡ Err q
      → reports_of w s bytes room ≡ []
  -- and leaves both lists that were lent for its result lines
  pub session : (w : List ℕ) (s : State) (bytes : List ℕ) (room : ℕ) (numbers : List ℕ) (integers : List ℤ) (q : Question)
      → played w s bytes room ≡ Err q
      → (sets numbers 0 (coded_all (reports_of w s bytes room)) ≡ numbers) × (sets integers 0 (integers_of (reports_of w s bytes room)) ≡ integers)

-- a refused step has one of the documents' numbers for steps and session lines, a failed firing one of questions 30 to 36
abbrev pub number_ok : Outcome Question → Bool
number_ok (Accepted r) = true
number_ok (Failed q) = ranges 30 (number_of q) 36
number_ok (Refused q) = refusal (number_of q)

-- proved (`numbered`), of any table and slice
abbrev pub Numbered : Type 0
Numbered = (w : List ℕ) (s : State) (a : Step) → Stored s → within64 a.request ≡ true → number_ok (answer_to w s a).outcome ≡ true
