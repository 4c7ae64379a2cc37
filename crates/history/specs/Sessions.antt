-- The states that code can hold; sessions block by block; a session in which every step is asked questions 3, 4 and 20; that a session is a
-- history, and so is what a desk does with all its input, its settlement pages too; that the calls on a window come to an end.
use Rattle.std.specs.Prelude.{ℕ, zero, suc, ◌+◌, ◌-◌, ◌*◌, ◌<◌, ◌≤◌, ◌≡◌, true, List, [], ◌∷◌, ◌++◌, length, get_or, take, drop, leb, ℤ, pos}
use Rattle.laws.specs.Choice.{pick}
use Rattle.laws.specs.Lists.{every}
use Rattle.numbers.specs.Numbers.{within}
use Rattle.contract.specs.Limits.{max_fields, max_assets}
use Rattle.contract.specs.Tree.{Contract}
use Rattle.contract.specs.Decode.{contract_of}
use Rattle.state.specs.declared.State.{State}
use Rattle.state.specs.States.{max_pending, fresh_at}
use Rattle.statements.specs.declared.Label.{Label}
use Rattle.statements.specs.Running.{max_labels}
use Rattle.results.specs.declared.Report.{Report}
use Rattle.results.specs.declared.Report.TheVariants as report
use Rattle.results.specs.Lines.{report_ok}
use Rattle.pages.specs.Entries.{is_payout}
use Rattle.pages.specs.Answers.{page_bytes, paged}
use Rattle.pages.specs.Gathering.{payouts}
use Rattle.pages.specs.Promises.{entries_in, taken, sheets_after, no_sheets, file_of, closed}
use Rattle.std.specs.Prelude.{Ok}
use Rattle.questions.specs.declared.Question.{Question}
use Rattle.outcomes.specs.declared.Stepped.{Stepped}
use Rattle.outcomes.specs.Outcomes.{refused}
use Rattle.machine.specs.Steps.{requested, step}
use Rattle.step_reports.specs.Reports.{report_of, label_reports, told, max_told}
use Rattle.machine.specs.Sessions.{Said, asks, unread, heard, Turn, takes, wait, turn_at, Session, here, before, on_turn, session_for, session}
use Rattle.history.specs.Histories.{Step, Returned, history}
use Rattle.history.specs.Demand.{Demand}
use Rattle.history.specs.Settled.{settled, labels_in}
use Rattle.questions.specs.Numbers.{number_of}

-- arrays of full length and 64-bit integers, as every state has that code holds
pub record Stored (s : State) : Type 0 where
  pub kinds : length s.kinds ≡ max_fields
  pub numbers : length s.numbers ≡ max_fields
  pub texts : length s.texts ≡ max_fields
  pub assets : length s.assets ≡ max_assets
  pub events : length s.events ≡ max_pending
  pub integers : (i : ℕ) → i < max_fields → within (get_or s.numbers i (pos 0)) ≡ true

-- what is said, asked its questions 3, 4 and 20 on a table; a line that questions 50 and 51 refuse is no step
abbrev pub heard_on : List ℕ → State → Said → Stepped Question
heard_on w s (asks q) = step w max_labels s (requested s q)
heard_on w s (unread n) = refused s n

-- the session in which every step is asked them anew
abbrev pub asked_session : List ℕ → List ℕ → ℕ → State → Session
asked_session w bytes room s = session_for room (heard_on w) (contract_of w) bytes room s 0

-- ---- block by block

-- the session without a limit of result lines: so many turns at most
unfoldable pub whole_for : ℕ → Contract → List ℕ → State → ℕ → Session
whole_for zero c bytes s at = here s at
whole_for (suc turns) c bytes s at =
    on_turn (here s at) (λ x next. before (told (heard c s x)) (whole_for turns c bytes (heard c s x).state next)) (turn_at c bytes s at)

abbrev pub count_turn : (Said → ℕ → ℕ) → Turn → ℕ
count_turn next wait = 0
count_turn next (takes x at) = suc (next x at)

-- how many turns `session` makes
unfoldable pub turns_for : ℕ → Contract → List ℕ → ℕ → State → ℕ → ℕ
turns_for zero c bytes room s at = 0
turns_for (suc turns) c bytes room s at =
    pick (leb max_told room)
    (count_turn (λ x next. turns_for turns c bytes (room - length (told (heard c s x))) (heard c s x).state next) (turn_at c bytes s at))
    0

abbrev pub turns_of : Contract → List ℕ → ℕ → State → ℕ
turns_of c bytes room s = turns_for room c bytes room s 0

-- places counted from k bytes earlier
abbrev pub moved_turn : ℕ → Turn → Turn
moved_turn k wait = wait
moved_turn k (takes x at) = takes x (k + at)

abbrev pub moved : ℕ → Session → Session
moved k e = record { state = e.state; at = k + e.at; reports = e.reports }

-- a session for each of these rooms, each on the bytes that the ones before it left
unfoldable pub blocks : Contract → List ℕ → List ℕ → State → Session
blocks c bytes [] s = here s 0
blocks c bytes (room ∷ rooms) s =
    let e = session c bytes room s in
    before e.reports (moved e.at (blocks c (drop e.at bytes) rooms e.state))

-- how many turns they make
unfoldable pub turns_in : Contract → List ℕ → List ℕ → State → ℕ
turns_in c bytes [] s = 0
turns_in c bytes (room ∷ rooms) s =
    let e = session c bytes room s in
    turns_of c bytes room s + turns_in c (drop e.at bytes) rooms e.state

-- ---- a session is a history

abbrev pub then_said : (Said → ℕ → List Said) → Turn → List Said
then_said next wait = []
then_said next (takes x at) = x ∷ next x at

-- what is taken up in so many turns
unfoldable pub said_for : ℕ → Contract → List ℕ → State → ℕ → List Said
said_for zero c bytes s at = []
said_for (suc turns) c bytes s at = then_said (λ x next. said_for turns c bytes (heard c s x).state next) (turn_at c bytes s at)

-- the steps among it, each with this label slice
unfoldable pub steps_of : List Label → List Said → List Step
steps_of slice [] = []
steps_of slice (asks q ∷ xs) = record { request = q; slice = slice } ∷ steps_of slice xs
steps_of slice (unread n ∷ xs) = steps_of slice xs

-- the result lines of a step, by what its caller holds
abbrev pub lines_of : Returned → List Report
lines_of r = report_of r.left.outcome r.left.state.state r.left.state.clock ∷ label_reports (take r.left.count r.slice)

-- the result lines of what is taken up, given the answers to the steps among it
unfoldable pub told_by : List Said → List Returned → List Report
told_by [] rs = []
told_by (unread q ∷ xs) rs = report.Refused (number_of q) ∷ told_by xs rs
told_by (asks q ∷ xs) [] = []
told_by (asks q ∷ xs) (r ∷ rs) = lines_of r ++ told_by xs rs

-- a session that takes this up in state s is the history of its steps
pub record IsHistory (w : List ℕ) (s : State) (slice : List Label) (xs : List Said) (e : Session) : Type 0 where
  pub state : e.state ≡ (history w s (steps_of slice xs)).state
  pub reports : e.reports ≡ told_by xs (history w s (steps_of slice xs)).answers

-- ---- a desk

-- bytes in the desk's buffer, and the rooms of the calls on them; that the windows' bytes are the input's lines, with what is left of a line
-- at the front of the next window, is the program's part (`bring` and `close` of crate desk_lines), and nothing here says it
pub record Window : Type 0 where
  pub bytes : List ℕ
  pub rooms : List ℕ

-- one window after the other, each from the state that the one before left; a place has no meaning past its window
unfoldable pub windows : Contract → List Window → State → Session
windows c [] s = here s 0
windows c (x ∷ xs) s = let b = blocks c x.bytes x.rooms s in before b.reports (windows c xs b.state)

-- what is taken up in them
unfoldable pub said_in : Contract → List Window → State → List Said
said_in c [] s = []
said_in c (x ∷ xs) s =
    said_for (turns_in c x.bytes x.rooms s) c x.bytes s 0
    ++ said_in c xs (blocks c x.bytes x.rooms s).state

-- what holds of a desk that starts at a clock and plays these windows, in which `xs` is taken up
pub record Serves (w : List ℕ) (clock : ℕ) (ws : List Window) (slice : List Label) (xs : List Said) : Type 0 where
  pub is_history : IsHistory w (fresh_at clock) slice xs (windows (contract_of w) ws (fresh_at clock))
  pub demand : Demand w clock (steps_of slice xs)
  -- every result line is within question 53, so that it can be printed
  pub writable : every (report_ok (contract_of w)) (windows (contract_of w) ws (fresh_at clock)).reports ≡ true
  -- the entries of its settlement pages are the asset payouts of its history in order, each with its step's rule and the clock after it
  pub entries : payouts 0 0 (windows (contract_of w) ws (fresh_at clock)).reports ≡ settled (history w (fresh_at clock) (steps_of slice xs)).answers
  pub paid : labels_in (settled (history w (fresh_at clock) (steps_of slice xs)).answers) ≡ (history w (fresh_at clock) (steps_of slice xs)).payouts
  -- and question 61 passes each
  pub payable : every (is_payout (contract_of w)) (settled (history w (fresh_at clock) (steps_of slice xs)).answers) ≡ true
  -- with lent lists for one page, all bytes that the desk's loop writes (`sheets_after`, then `closed`; that the program goes so is tested) are
  -- the file of the pages of these entries
  pub file : (numbers : List ℕ) (values : List ℤ) → 300 ≤ length numbers → 60 ≤ length values
      → closed (contract_of w) (sheets_after (contract_of w) (no_sheets numbers values) (windows (contract_of w) ws (fresh_at clock)).reports)
      ≡ file_of (contract_of w) (settled (history w (fresh_at clock) (steps_of slice xs)).answers)
  -- and `page` accepts what that loop hands to it: the entries that wait after any line r, so also those that fill a page, and at the end
  pub asked : (numbers : List ℕ) (values : List ℤ) → 300 ≤ length numbers → 60 ≤ length values → (size : ℕ) → page_bytes ≤ size
      → (rs more : List Report) (r : Report) → (windows (contract_of w) ws (fresh_at clock)).reports ≡ rs ++ (r ∷ more)
      → paged w (entries_in (taken (sheets_after (contract_of w) (no_sheets numbers values) rs) r)) size ≡ Ok tt
  pub asked_last : (numbers : List ℕ) (values : List ℤ) → 300 ≤ length numbers → 60 ≤ length values → (size : ℕ) → page_bytes ≤ size
      → paged w (entries_in (sheets_after (contract_of w) (no_sheets numbers values) (windows (contract_of w) ws (fresh_at clock)).reports)) size ≡ Ok tt

-- proved (`desk`) of tables that pass, clocks up to top, and slices of `room_needed` entries or more, for all windows: the arguments of a
-- line that is read are within 64 bits
abbrev pub Desk : List ℕ → ℕ → List Window → List Label → Type 0
Desk w clock ws slice = Serves w clock ws slice (said_in (contract_of w) ws (fresh_at clock))

-- ---- the end of the calls on a window

-- each line takes a byte or more, and at most 64 firings follow it: on these bytes no more turns are made than so many
abbrev pub most_turns : List ℕ → State → ℕ
most_turns bytes s = s.pending + suc max_pending * length bytes

-- proved (`ends`) of the contract in a table that passes, and of states that code can hold (`Stored`) within question 4
pub record Ends (c : Contract) (bytes : List ℕ) (s : State) : Type 0 where
  -- after so many calls, each with room for the result lines of any step, nothing is due and no line is whole
  pub done : (rooms : List ℕ) → every (leb max_told) rooms ≡ true → most_turns bytes s < length rooms
      → let b = blocks c bytes rooms s in
      turn_at c (drop b.at bytes) b.state 0 ≡ wait
  -- a call with such room that tells nothing shows the same, which is what a loop tests
  pub told_nothing : (room : ℕ) → max_told ≤ room → (session c bytes room s).reports ≡ [] → turn_at c bytes s 0 ≡ wait
