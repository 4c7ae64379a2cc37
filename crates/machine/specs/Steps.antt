-- The steps of the machine on a contract and a state: call, firing, tick and jump, each with its questions in the documents' order; the
-- requests.
use Rattle.std.specs.Prelude.{ℕ, suc, ◌+◌, ◌-◌, Bool, true, false, ◌&&◌, List, [], ◌∷◌, ◌++◌, length, take, drop, eqb, leb, ltb, ℤ, pos, nat_abs, Option, Some, None, Ok, Err}
use Rattle.std.specs.Int.Signed.{le_z}
use Rattle.laws.specs.Choice.{pick}
use Rattle.laws.specs.Bytes.{same_bytes}
use Rattle.numbers.specs.declared.Value.TheVariants.{Integer, Text}
use Rattle.contract.specs.Limits.{top, max_assets, max_parameters}
use Rattle.contract.specs.Tree.{Word, Precondition, omitted, given, Event, Function, Contract}
use Rattle.contract.specs.Decode.{contract_of}
use Rattle.contract.specs.Check.{passes}
use Rattle.laws.specs.Lists.{every, repeated}
use Rattle.evaluation.specs.Memory.{Memory}
use Rattle.evaluation.specs.Meaning.{value_of, truth_of}
use Rattle.state.specs.declared.State.{State}
use Rattle.state.specs.declared.Pending.{Pending}
use Rattle.state.specs.States.{event_of, live, state_ok, due_in, pending_at, with_pending, removed, time_passed, passed_times, times_until_due, party_name, max_pending}
use Rattle.statements.specs.Running.{Work, max_labels, memory_in, group_at, ran}
use Rattle.groups.specs.Groups.{first_parameter, groups}
use Rattle.outcomes.specs.declared.Rule.{Rule}
use Rattle.outcomes.specs.declared.Rule.TheVariants.{Call, EventMatch, Tick}
use Rattle.outcomes.specs.declared.Outcome.TheVariants.{Accepted, Failed}
use Rattle.outcomes.specs.declared.Stepped.{Stepped}
use Rattle.outcomes.specs.Outcomes.{no_labels, answered, refused}
use Rattle.holdings.specs.Holdings.{amounts, reached}
use Rattle.agreements.specs.Agreement.{Part, agreed_on}
use Rattle.numbers.specs.Numbers.{Answer, Truth}
use Rattle.questions.specs.declared.Question.{Question}
use Rattle.questions.specs.declared.Question.TheVariants as ask

-- ---- answers

-- an accepted step with the labels that its statements sent
abbrev pub accepted : Rule → State → Work → Stepped Question
accepted r s w = record { outcome = Accepted r; state = s; labels = w.labels; count = w.count }

-- ---- statements on a state

-- what comes of statements that met no refusal, and of the question that refused else
abbrev pub unless_refused : Option Question → (Question → Stepped Question) → Stepped Question → Stepped Question
unless_refused None f t = t
unless_refused (Some q) f t = f q

-- the work that statements begin with: the state's fields and assets, and the amounts of the asset parameters
abbrev pub begun : State → List ℕ → Work
begun s parameters =
    record {
      kinds = s.kinds;
      numbers = s.numbers;
      texts = s.texts;
      holdings = take max_assets s.assets ++ take max_parameters (parameters ++ repeated max_parameters 0);
      labels = no_labels;
      count = 0;
      refusal = None;
    }

-- the groups of places in function n
abbrev pub place_groups : Contract → ℕ → ℕ → ℕ
place_groups c n = group_at (groups c) (first_parameter n)

-- the state after statements have run, in state q, with these pending events
abbrev pub ended : State → Work → ℕ → List Pending → State
ended s w q ps = with_pending (reached s w q) ps

-- ---- call

-- how a party calls: its name, the function's name, the arguments
pub record Invocation : Type 0 where
  pub caller : Word
  pub function : Word
  pub values : List ℤ
  pub assets : List ℤ

-- the function is called by this party, by this name, in the state's state
unfoldable pub answers_to : Contract → State → Invocation → Function → Bool
answers_to c s i f =
    eqb f.state s.state
    && (same_bytes i.caller (party_name c s f.party)
    && same_bytes i.function f.name)

-- the first of these functions that is called, with its number, counted from n
pub data Chosen : Type 0 where
  chosen : ℕ → Function → Chosen
  unknown : Chosen

unfoldable pub choose : Contract → State → Invocation → ℕ → List Function → Chosen
choose c s i n [] = unknown
choose c s i n (f ∷ fs) = pick (answers_to c s i f) (chosen n f) (choose c s i (suc n) fs)

unfoldable pub precondition_holds : Memory → Precondition → Truth
precondition_holds m omitted = Ok true
precondition_holds m (given t) = truth_of m t

-- the events that guards give, in text order: event j of function n, and those after it
pub data Scheduled : Type 0 where
  times : List Pending → Scheduled
  no : Question → Scheduled

-- one more before the others; a time before the clock is dropped
abbrev pub scheduled : ℕ → ℕ → ℕ → Answer → Scheduled → Scheduled
scheduled t n j (Err q) rest = no q
scheduled t n j (Ok (Text x)) rest = no ask.OperandKind
scheduled t n j (Ok (Integer z)) (no q) = no q
scheduled t n j (Ok (Integer z)) (times ps) =
    times (pick (le_z (pos t) z) (record { function = n; event = j; time = nat_abs z } ∷ ps) ps)

unfoldable pub schedule : Memory → ℕ → ℕ → ℕ → List Event → Scheduled
schedule m t n j [] = times []
schedule m t n j (e ∷ es) = scheduled t n j (value_of m e.guard) (schedule m t n (suc j) es)

-- 39, then the call's end
abbrev pub with_scheduled : State → Work → ℕ → Scheduled → Stepped Question
with_scheduled s w q (no x) = refused s x
with_scheduled s w q (times ps) =
    pick (leb (length (live s) + length ps) max_pending) (accepted Call (ended s w q (live s ++ ps)) w) (refused s ask.PendingRoom)

-- the body has run: its refusal, 37, then the guards with the memory reached
unfoldable pub finished : State → ℕ → Function → List ℤ → Work → Stepped Question
finished s n f v w =
    unless_refused w.refusal (refused s)
    (pick (every (λ a. eqb a 0) (drop max_assets w.holdings))
    (with_scheduled s w f.last (schedule (memory_in v s.clock w) s.clock n 0 f.events))
    (refused s ask.ParametersEmpty))

-- 29, then the body; g gives the groups of places
abbrev pub by_precondition : (ℕ → ℕ) → State → ℕ → Function → List ℤ → Work → Truth → Stepped Question
by_precondition g s n f v w (Err q) = refused s q
by_precondition g s n f v w (Ok false) = refused s ask.Precondition
by_precondition g s n f v w (Ok true) = finished s n f v (ran g v s.clock w f.body)

-- 27 and 28, then the precondition; g gives the groups of places
unfoldable pub invoked : (ℕ → ℕ) → State → Invocation → ℕ → Function → Stepped Question
invoked g s i n f =
    pick (eqb (length i.values) (length f.values) && eqb (length i.assets) (length f.parameters))
    (pick (every (le_z (pos 0)) i.assets)
    (let w = begun s (amounts i.assets) in
    by_precondition g s n f i.values w (precondition_holds (memory_in i.values s.clock w) f.precondition))
    (refused s ask.AssetArguments))
    (refused s ask.ArgumentCount)

-- 26
abbrev pub by_chosen : Contract → State → Invocation → Chosen → Stepped Question
by_chosen c s i unknown = refused s ask.FunctionKnown
by_chosen c s i (chosen n f) = invoked (place_groups c n) s i n f

-- 25
abbrev pub call_by_due : Contract → State → Invocation → Option ℕ → Stepped Question
call_by_due c s i (Some k) = refused s ask.NothingDue
call_by_due c s i None = by_chosen c s i (choose c s i 0 c.functions)

-- 22
unfoldable pub called : Contract → State → Invocation → Stepped Question
called c s i = pick s.agreed (call_by_due c s i (due_in c s)) (refused s ask.Agreed)

-- ---- firing

-- the event at place k of the pending ones leaves the list, and its handler has run: a refusal fails the firing, all else stands
unfoldable pub handled : State → ℕ → Event → Work → Stepped Question
handled s k e w =
    unless_refused w.refusal (λ q. answered (Failed q) (removed s k)) (accepted EventMatch (ended s w e.last (live (removed s k))) w)

-- 41
abbrev pub fire_by_due : Contract → State → Option ℕ → Stepped Question
fire_by_due c s None = refused s ask.SomethingDue
fire_by_due c s (Some k) =
    let e = event_of c (pending_at s k) in
    handled s k e (ran (place_groups c (pending_at s k).function) [] s.clock (begun s []) e.handler)

-- 22
unfoldable pub fired : Contract → State → Stepped Question
fired c s = pick s.agreed (fire_by_due c s (due_in c s)) (refused s ask.Agreed)

-- ---- tick

-- 25, then 40
abbrev pub tick_by_due : State → Option ℕ → Stepped Question
tick_by_due s (Some k) = refused s ask.NothingDue
tick_by_due s None = pick (ltb s.clock top) (answered (Accepted Tick) (time_passed s)) (refused s ask.ClockBelowTop)

-- 22
unfoldable pub ticked : Contract → State → Stepped Question
ticked c s = pick s.agreed (tick_by_due s (due_in c s)) (refused s ask.Agreed)

-- ---- jump to clock T (document 02, F-3)

-- 25, then 62; then time passes until an event is due or T is reached, and nothing is asked again. 40 is not asked: T is at most top.
abbrev pub jump_by_due : Contract → State → ℤ → Option ℕ → Stepped Question
jump_by_due c s T (Some k) = refused s ask.NothingDue
jump_by_due c s T None =
    pick (le_z (pos s.clock) T)
    (answered (Accepted Tick) (passed_times (times_until_due c (nat_abs T - s.clock) s) s))
    (refused s ask.TimeNotPast)

-- 22
unfoldable pub jumped : Contract → State → ℤ → Stepped Question
jumped c s T = pick s.agreed (jump_by_due c s T (due_in c s)) (refused s ask.Agreed)

-- ---- requests

-- what a step can be asked for
pub data Request : Type 0 where
  agreement : List Part → Request
  call : Invocation → Request
  firing : Request
  tick : Request
  jump : ℤ → Request

abbrev pub requested : State → Request → Contract → Stepped Question
requested s (agreement ps) c = agreed_on c s ps
requested s (call i) c = called c s i
requested s firing c = fired c s
requested s tick c = ticked c s
requested s (jump T) c = jumped c s T

-- the clause of the contract that a step runs, if it runs one: function n, or event j of function n
pub data Runs : Type 0 where
  function : ℕ → Runs
  event : ℕ → ℕ → Runs
  neither : Runs

abbrev pub clause_chosen : Chosen → Runs
clause_chosen (chosen n f) = function n
clause_chosen unknown = neither

abbrev pub clause_due : State → Option ℕ → Runs
clause_due s (Some k) = let p = pending_at s k in event p.function p.event
clause_due s None = neither

abbrev pub clause_run : Contract → State → Request → Runs
clause_run c s (agreement ps) = neither
clause_run c s (call i) = clause_chosen (choose c s i 0 c.functions)
clause_run c s firing = clause_due s (due_in c s)
clause_run c s tick = neither
clause_run c s (jump T) = neither

-- how many entries a label slice needs
abbrev pub room_needed : Contract → ℕ
room_needed c = max_labels

-- ---- every step first: 3, 4, 20, on a table and with a label slice of `room` entries
unfoldable pub step : List ℕ → ℕ → State → (Contract → Stepped Question) → Stepped Question
step w room s f =
    pick (passes w)
    (pick (state_ok (contract_of w) s)
    (pick (leb (room_needed (contract_of w)) room) (f (contract_of w)) (refused s ask.LabelRoom))
    (refused s ask.StateRanges))
    (refused s ask.TableCheck)
