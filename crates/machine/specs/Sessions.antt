-- A session: whenever an event is due it is fired, else the next whole line is taken; and the result lines of these steps.
use Rattle.std.specs.Prelude.{ℕ, zero, suc, ◌+◌, ◌-◌, not, List, [], ◌∷◌, ◌++◌, length, drop, eqb, leb, ltb, Option, Some, None, Result, Ok, Err}
use Rattle.laws.specs.Choice.{pick}
use Rattle.contract.specs.Tree.{Word, Verb, Contract}
use Rattle.contract.specs.Tree as tree
use Rattle.contract.specs.Decode.{contract_of}
use Rattle.contract.specs.Check.{passes}
use Rattle.tokens.specs.Classes.{run}
use Rattle.tokens.specs.Tokens.{between}
use Rattle.state.specs.declared.State.{State}
use Rattle.state.specs.States.{state_ok, due_in}
use Rattle.lines.specs.Lines.{Span, Field, Asked, asked}
use Rattle.lines.specs.Lines as lines
use Rattle.lines.specs.Answers.{values_of}
use Rattle.results.specs.declared.Report.{Report}
use Rattle.outcomes.specs.declared.Stepped.{Stepped}
use Rattle.step_reports.specs.Reports.{told, max_told}
use Rattle.machine.specs.declared.Played.{Played}
use Rattle.outcomes.specs.Outcomes.{refused}
use Rattle.machine.specs.Steps.{Invocation, Request, agreement, call, firing, tick, jump, requested}
use Rattle.agreements.specs.Agreement.{Part}
use Rattle.questions.specs.declared.Question.{Question}
use Rattle.questions.specs.declared.Question.TheVariants as ask

-- ---- what a line says, in the machine's terms

-- a name of the line
abbrev pub name_in : List ℕ → Span → Word
name_in line n = between line n.start n.end

abbrev pub verb_in : lines.Verb → Verb
verb_in lines.set = tree.set
verb_in lines.ok = tree.ok

unfoldable pub names_in : List ℕ → List Field → List Word
names_in line [] = []
names_in line (f ∷ fs) = name_in line f.name ∷ names_in line fs

-- the parts of an agreement
unfoldable pub parts_said : List ℕ → List lines.Part → List Part
parts_said line [] = []
parts_said line (p ∷ ps) =
    record {
      party = name_in line p.party;
      verb = verb_in p.verb;
      fields = names_in line p.fields;
      values = values_of p.fields;
    }
    ∷ parts_said line ps

-- a call
abbrev pub invocation_in : List ℕ → lines.Call → Invocation
invocation_in line k =
    record {
      caller = name_in line k.names.party;
      function = name_in line k.names.function;
      values = k.lists.values;
      assets = k.lists.assets;
    }

-- what a line says: a request, or the question that refuses the line
pub data Said : Type 0 where
  asks : Request → Said
  unread : Question → Said

abbrev pub said_by : List ℕ → Asked → Said
said_by line (lines.refused q) = unread q
said_by line lines.tick = asks tick
said_by line (lines.jump T) = asks (jump T)
said_by line (lines.call k) = asks (call (invocation_in line k))
said_by line (lines.agreement ps) = asks (agreement (parts_said line ps))

abbrev pub said : List ℕ → Said
said line = said_by line (asked line)

-- what comes of it; a refused line changes nothing
abbrev pub heard : Contract → State → Said → Stepped Question
heard c s (asks q) = requested s q c
heard c s (unread q) = refused s q

-- ---- turns

-- the LF of the line that starts at a place, or the end of the bytes (a place past the end is its own end)
unfoldable pub end_of_line : List ℕ → ℕ → ℕ
end_of_line bytes at = at + run (λ b. not (eqb b 10)) (drop at bytes)

-- what is taken up, and where the next line starts; or nothing is due and no line is whole
pub data Turn : Type 0 where
  takes : Said → ℕ → Turn
  wait : Turn

abbrev pub turn_by_due : List ℕ → ℕ → Option ℕ → Turn
turn_by_due bytes at (Some k) = takes (asks firing) at
turn_by_due bytes at None =
    pick (ltb (end_of_line bytes at) (length bytes))
    (takes (said (between bytes at (end_of_line bytes at))) (suc (end_of_line bytes at)))
    wait

-- a due event is fired; else the next line is taken
unfoldable pub turn_at : Contract → List ℕ → State → ℕ → Turn
turn_at c bytes s at = turn_by_due bytes at (due_in c s)

-- ---- a session

-- the state, where the next line starts, and the result lines
pub record Session : Type 0 where
  pub state : State
  pub at : ℕ
  pub reports : List Report

-- nothing more is done
abbrev pub here : State → ℕ → Session
here s at = record { state = s; at = at; reports = [] }

-- result lines before the others
abbrev pub before : List Report → Session → Session
before rs e = record { state = e.state; at = e.at; reports = rs ++ e.reports }

-- a turn, and what is done after it
abbrev pub on_turn : Session → (Said → ℕ → Session) → Turn → Session
on_turn waiting next wait = waiting
on_turn waiting next (takes x at) = next x at

-- so many turns at most, while there is room for the result lines of any step; `hear` answers what is said in a state
unfoldable pub session_for : ℕ → (State → Said → Stepped Question) → Contract → List ℕ → ℕ → State → ℕ → Session
session_for zero hear c bytes room s at = here s at
session_for (suc turns) hear c bytes room s at =
    pick (leb max_told room)
    (on_turn (here s at)
    (λ x next. before (told (hear s x)) (session_for turns hear c bytes (room - length (told (hear s x))) (hear s x).state next))
    (turn_at c bytes s at))
    (here s at)

-- each turn has a result line, so there are no more turns than result lines
abbrev pub session : Contract → List ℕ → ℕ → State → Session
session c bytes room s = session_for room (heard c) c bytes room s 0

-- questions 3, 4 and 20 are asked once, before the first turn: there is room for the result lines of any step
unfoldable pub played : List ℕ → State → List ℕ → ℕ → Result Played Question
played w s bytes room =
    pick (passes w)
    (pick (state_ok (contract_of w) s)
    (pick (leb max_told room)
    (let e = session (contract_of w) bytes room s in
    Ok (record { state = e.state; used = e.at; many = length e.reports }))
    (Err ask.LabelRoom))
    (Err ask.StateRanges))
    (Err ask.TableCheck)

-- the result lines of it
unfoldable pub reports_of : List ℕ → State → List ℕ → ℕ → List Report
reports_of w s bytes room =
    pick (passes w) (pick (state_ok (contract_of w) s) (pick (leb max_told room) (session (contract_of w) bytes room s).reports []) []) []
