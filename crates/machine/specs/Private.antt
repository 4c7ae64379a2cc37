-- What the parts of the code work out.
use Rattle.std.specs.Prelude.{ℕ, suc, ◌+◌, ◌<◌, true, ◌≡◌, List, [], ◌++◌, length, leb, ℤ, pos, nat_abs, Option, Some, None, Result, Ok, Err}
use Rattle.std.specs.Int.Signed.{le_z}
use Rattle.std.proofs.lemmas.List.Edits.{sets}
use Rattle.laws.specs.Choice.{pick}
use Rattle.contract.specs.Tree.{Block, Function, Event, Contract}
use Rattle.contract.specs.Table.{word_at}
use Rattle.contract.specs.Decode.{block_between, function_at, contract_of}
use Rattle.contract.specs.Check.{passes}
use Rattle.lines.specs.Lines.{Asked, asked}
use Rattle.state.specs.declared.State.{State}
use Rattle.state.specs.States.{max_pending, fresh_at, with_state, live, with_pending, state_ok}
use Rattle.statements.specs.declared.Label.{Label}
use Rattle.statements.specs.Running.{Work, memory_in, ran, labels_from}
use Rattle.outcomes.specs.declared.Rule.TheVariants.{Call, EventMatch, Tick}
use Rattle.outcomes.specs.Outcomes.{answered, refused}
use Rattle.holdings.specs.Holdings.{reached}
use Rattle.tokens.specs.Tokens.{between}
use Rattle.machine.specs.Steps.{firing, accepted, begun, unless_refused, Scheduled, times, no, schedule, with_scheduled, tick_by_due, room_needed}
use Rattle.machine.specs.declared.Handler.{Handler}
use Rattle.outcomes.specs.declared.Outcome.{Outcome}
use Rattle.outcomes.specs.declared.Outcome.TheVariants.{Accepted}
use Rattle.outcomes.specs.declared.Outcome.TheVariants as outcome
use Rattle.outcomes.specs.declared.Stepped.{Stepped}
use Rattle.machine.specs.declared.Reply.{Reply}
use Rattle.tables.specs.declared.Passed.{Passed}
use Rattle.groups.specs.Groups.{first_parameter, groups}
use Rattle.machine.specs.declared.Next.{Next}
use Rattle.machine.specs.declared.Next.TheVariants as next
use Rattle.machine.specs.Steps.{Invocation, Chosen, chosen, unknown, choose, called}
use Rattle.questions.specs.declared.Question.{Question}
use Rattle.questions.specs.declared.Question.TheVariants as ask
use Rattle.results.specs.Coded.{coded_all, integers_of}
use Rattle.machine.specs.declared.Played.{Played}
use Rattle.machine.specs.Sessions.{Said, asks, said_by, said, heard, Turn, takes, wait, Session}

-- the table, or the first question that every step asks and that is answered by no
unfoldable pub admission : List ℕ → ℕ → State → Result (List ℕ) Question
admission w room s =
    pick (passes w)
    (pick (state_ok (contract_of w) s) (pick (leb (room_needed (contract_of w)) room) (Ok w) (Err ask.LabelRoom)) (Err ask.StateRanges))
    (Err ask.TableCheck)

-- what is admitted
abbrev pub admitted : Result Passed Question → Result (List ℕ) Question
admitted (Ok x) = Ok x.table.now
admitted (Err q) = Err q

-- a time, if it is not before the clock
unfoldable pub not_before : ℕ → ℤ → Option ℕ
not_before t z = pick (le_z (pos t) z) (Some (nat_abs z)) None

-- the first two questions of a tick, a jump and a call: is the contract agreed, and is nothing due?
abbrev pub rest_by : Option ℕ → Result Unit Question
rest_by (Some k) = Err ask.NothingDue
rest_by None = Ok tt

unfoldable pub at_rest : State → Option ℕ → Result Unit Question
at_rest s due = pick s.agreed (rest_by due) (Err ask.Agreed)

-- a tick, by the event that is due
abbrev pub ticked_with : State → Option ℕ → Stepped Question
ticked_with s due = pick s.agreed (tick_by_due s due) (refused s ask.Agreed)

-- what came of a tick or a jump
abbrev pub passage : Result Unit Question → Outcome Question
passage (Ok u) = Accepted Tick
passage (Err q) = outcome.Refused q

-- what came of a step that sends nothing
abbrev pub silent : Outcome Question → Reply
silent o = record { outcome = o; count = 0 }

-- what came of a call
abbrev pub reply_of : Result ℕ Question → Reply
reply_of (Ok n) = record { outcome = Accepted Call; count = n }
reply_of (Err q) = silent (outcome.Refused q)

-- a step's answer, whose state and labels stand apart
abbrev pub stepped_in : Reply → State → List ℤ → Stepped Question
stepped_in r s words = record { outcome = r.outcome; state = s; labels = labels_from words; count = r.count }

-- how a call ends in a state, after its body has sent so many labels; they need not stand in words yet, as those of `stepped_in` do
abbrev pub ended_call : Result Unit Question → State → List Label → ℕ → Stepped Question
ended_call (Ok x) s labels n = record { outcome = Accepted Call; state = s; labels = labels; count = n }
ended_call (Err q) s labels n = refused s q

-- a call by its names and arguments
abbrev pub called_by : Contract → State → List ℕ → List ℕ → List ℤ → List ℤ → Stepped Question
called_by c s caller function values assets = called c s (record { caller = caller; function = function; values = values; assets = assets })

-- what a line does, by what it asks
unfoldable pub taken_by : Contract → State → List ℕ → Asked → Stepped Question
taken_by c s line a = heard c s (said_by line a)

abbrev pub taken : Contract → State → List ℕ → Stepped Question
taken c s line = taken_by c s line (asked line)

-- what is said by what is taken up from a place on, and where the next line starts after it
abbrev pub said_of : List ℕ → ℕ → Next → Said
said_of bytes at (next.Event k) = asks firing
said_of bytes at (next.Line end) = said (between bytes at end)

abbrev pub place_after : ℕ → Next → ℕ
place_after at (next.Event k) = at
place_after at (next.Line end) = suc end

-- the event that is due where it is taken up: none where a line is
abbrev pub due_of : Next → Option ℕ
due_of (next.Event k) = Some k
due_of (next.Line end) = None

-- a turn, by what is taken up
abbrev pub turn_of : List ℕ → ℕ → Option Next → Turn
turn_of bytes at (Some n) = takes (said_of bytes at n) (place_after at n)
turn_of bytes at None = wait

-- its line, if it is one, ends before a place
abbrev pub EndsWithin : ℕ → Next → Type 0
EndsWithin size (next.Event k) = Unit
EndsWithin size (next.Line end) = end < size

-- a session's answer, and its result lines as numbers
pub record PlayedIs (e : Session) (r : Played) (numbers : List ℕ) (integers : List ℤ) (told : List ℕ) (values : List ℤ) : Type 0 where
  pub state : r.state ≡ e.state
  pub used : r.used ≡ e.at
  pub many : r.many ≡ length e.reports
  pub numbers_after : told ≡ sets numbers 0 (coded_all e.reports)
  pub integers_after : values ≡ sets integers 0 (integers_of e.reports)

-- a call of this function by this party, whatever its arguments
abbrev pub naming : List ℕ → List ℕ → Invocation
naming caller function = record { caller = caller; function = function; values = []; assets = [] }

-- a call with these arguments, whoever makes it
abbrev pub arguments : List ℤ → List ℤ → Invocation
arguments v a = record { caller = []; function = []; values = v; assets = a }

-- the function of a table that was found
abbrev pub chosen_in : List ℕ → Option ℕ → Chosen
chosen_in w (Some n) = chosen n (function_at w n)
chosen_in w None = unknown

-- a state of which only its state counts
abbrev pub in_state : ℕ → State
in_state q = with_state (fresh_at 0) true q

-- the first function of the table's contract that is called in state q
pub record FoundIn (w : List ℕ) (q : ℕ) (i : Invocation) (r : Option ℕ) : Type 0 where
  pub same : choose (contract_of w) (in_state q) i 0 (contract_of w).functions ≡ chosen_in w r
  pub within : (n : ℕ) → r ≡ Some n → n < word_at w 6

-- where an event's handler stands, and the state after it
pub record HandlerOf (w : List ℕ) (e : Event) (n : ℕ) (h : Handler) : Type 0 where
  -- the number of the first asset parameter of its function
  pub first : h.first_parameter ≡ first_parameter n
  pub block : block_between w h.from h.end ≡ e.handler
  pub last : h.last ≡ e.last

-- a block runs on a state with no value parameters and no asset parameters
abbrev pub ran_on : (ℕ → ℕ) → State → Block → Work
ran_on g s b = ran g [] s.clock (begun s []) b

-- the groups of the contract in a table
abbrev pub groups_in : List ℕ → List ℕ
groups_in w = groups (contract_of w)

-- a handler has run; `left` is the state without its event
abbrev pub handled_by : State → ℕ → Work → Stepped Question
handled_by left q w = unless_refused w.refusal (λ x. answered (outcome.Failed x) left) (accepted EventMatch (reached left w q) w)

-- the state with the events of a call, or the question that refuses them
abbrev pub scheduled_state : State → Scheduled → Result State Question
scheduled_state s (no q) = Err q
scheduled_state s (times ps) = pick (leb (length (live s) + length ps) max_pending) (Ok (with_pending s (live s ++ ps))) (Err ask.PendingRoom)

-- the state that is left, which is free after a refusal
abbrev pub left_by : Result Unit Question → State → Result State Question
left_by (Ok x) s = Ok s
left_by (Err q) s = Err q

-- the body has run and left nothing: the guards with the memory reached, then the call's end
abbrev pub concluded : State → ℕ → Function → List ℤ → Work → Stepped Question
concluded s n f v w = with_scheduled s w f.last (schedule (memory_in v s.clock w) s.clock n 0 f.events)
