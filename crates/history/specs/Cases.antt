-- Document 01's starred cases, one as document 02, F-2, changes it: an expression, a move, or a step, with what it must give.
use Rattle.std.specs.Prelude.{ℕ, List, [], ◌∷◌, take, ℤ, pos, negsuc, Ok, Err, Option, Some, None}
use Rattle.laws.specs.Bytes.{bytes}
use Rattle.numbers.specs.declared.Value.TheVariants.{Integer}
use Rattle.numbers.specs.declared.Operator.TheVariants.{Plus, Minus, Over}
use Rattle.numbers.specs.declared.Comparison.TheVariants.{AtLeast}
use Rattle.contract.specs.Limits.{top, max_fields}
use Rattle.contract.specs.Tree.{Expression, constant, clock, field, held, apply, asset, asset_parameter, compare, Action, move, none, perform, move_all, pay, pay_all, omitted, given, set, ok, Contract}
use Rattle.contract.specs.Encode.{encode}
use Rattle.evaluation.specs.Memory.{memory_of}
use Rattle.evaluation.specs.Meaning.{value_of}
use Rattle.state.specs.declared.State.{State}
use Rattle.state.specs.States.{fresh_at, with_memory, opened, with_pending}
use Rattle.laws.specs.Lists.{repeated}
use Rattle.statements.specs.Running.{Work, performed}
use Rattle.outcomes.specs.declared.Rule.TheVariants.{Call}
use Rattle.outcomes.specs.declared.Outcome.{Outcome}
use Rattle.outcomes.specs.declared.Outcome.TheVariants.{Accepted, Refused}
use Rattle.outcomes.specs.declared.Stepped.{Stepped}
use Rattle.machine.specs.Steps.{begun, Request, call, tick}
use Rattle.outcomes.specs.Outcomes.{no_labels}
use Rattle.history.specs.Histories.{answer_to}
use Rattle.numbers.specs.Numbers.{Answer}
use Rattle.questions.specs.declared.Question.TheVariants as ask
use Rattle.questions.specs.declared.Question.{Question}

pub data Case : Type 0 where
  -- an expression
  works_out : Expression → Case
  -- a statement, where the first two assets hold these amounts
  moves : ℕ → ℕ → Action → Case
  -- a step in a state, on the contract's table and with a slice of 64 labels: 3, 4 and 20 are asked
  steps : Contract → State → Request → Case

pub data Result : Type 0 where
  gives : Answer → Result
  -- the two amounts after it, and the question that refused, if any
  leaves : List ℕ → Option Question → Result
  -- what came of the step, and how many events are pending
  comes : Outcome Question → ℕ → Result

-- a state that was agreed on, in state q at clock t, the first field holding 3 and the assets these amounts
abbrev pub agreed_at : ℕ → ℕ → ℕ → ℕ → State
agreed_at q t a b =
    opened (with_memory (fresh_at t) (1 ∷ repeated 31 0) (pos 3 ∷ repeated 31 (pos 0)) (repeated max_fields 0) (a ∷ b ∷ repeated 14 0)) q

-- document 01's Lot
abbrev pub lot : Contract
lot =
    record {
      name = bytes "Lot";
      parties = bytes "Broker" ∷ bytes "Ann" ∷ bytes "Bob" ∷ [];
      assets = bytes "bales" ∷ [];
      fields = bytes "part" ∷ [];
      states = bytes "Open" ∷ bytes "Held" ∷ bytes "Done" ∷ [];
      strings = [];
      clauses =
          record { party = 0; verb = set; fields = 0 ∷ [] }
          ∷ record { party = 1; verb = ok; fields = 0 ∷ [] }
          ∷ record { party = 2; verb = ok; fields = [] }
          ∷ [];
      initial = 0;
      functions =
          record {
            state = 0;
            party = 0;
            name = bytes "give";
            values = [];
            parameters = bytes "y" ∷ [];
            precondition = given (compare AtLeast (held (asset_parameter 0)) (constant 1));
            body = perform none (move_all (asset_parameter 0) (asset 0));
            events =
                record { guard = apply Plus clock (constant 2); state = 1; handler = perform none (pay_all (asset 0) 2); last = 2 }
                ∷ [];
            last = 1;
          }
          ∷ record {
            state = 1;
            party = 1;
            name = bytes "take";
            values = [];
            parameters = [];
            precondition = omitted;
            body = perform none (pay (apply Over (held (asset 0)) (field 0)) (asset 0) 1);
            events = [];
            last = 1;
          }
          ∷ [];
    }

-- legal_contract Other { assets bales fields part agreement (Broker, Ann) { Broker =SET=> part Ann =OK=> part } => @Open
-- @Open Broker : late { now - 1 >> @Open { } => @Open } => @Open
-- @Open Broker : keep [y] { } => @Open }
abbrev pub other : Contract
other =
    record {
      name = bytes "Other";
      parties = bytes "Broker" ∷ bytes "Ann" ∷ [];
      assets = bytes "bales" ∷ [];
      fields = bytes "part" ∷ [];
      states = bytes "Open" ∷ [];
      strings = [];
      clauses = record { party = 0; verb = set; fields = 0 ∷ [] } ∷ record { party = 1; verb = ok; fields = 0 ∷ [] } ∷ [];
      initial = 0;
      functions =
          record {
            state = 0;
            party = 0;
            name = bytes "late";
            values = [];
            parameters = [];
            precondition = omitted;
            body = none;
            events = record { guard = apply Minus clock (constant 1); state = 0; handler = none; last = 0 } ∷ [];
            last = 0;
          }
          ∷ record {
            state = 0;
            party = 0;
            name = bytes "keep";
            values = [];
            parameters = bytes "y" ∷ [];
            precondition = omitted;
            body = none;
            events = [];
            last = 0;
          }
          ∷ [];
    }

-- Broker : f()[..]
abbrev pub broker_calls : List ℕ → List ℤ → Request
broker_calls f zs = call (record { caller = bytes "Broker"; function = f; values = []; assets = zs })

abbrev pub minus : ℕ → Expression
minus n = apply Minus (constant 0) (constant n)

-- the least integer
abbrev pub least : Expression
least = apply Minus (minus top) (constant 1)

abbrev pub cases : List Case
cases =
    -- 10 / 3 is 3
    works_out (apply Over (constant 10) (constant 3))
    -- (0 - 7) / 2 is -4, by document 02, F-2
    ∷ works_out (apply Over (minus 7) (constant 2))
    -- least integer / -1: 32
    ∷ works_out (apply Over least (minus 1))
    -- moving 7 of 7 leaves 0
    ∷ moves 7 0 (move (constant 7) (asset 0) (asset 1))
    -- 8 of 7: 35
    ∷ moves 7 0 (move (constant 8) (asset 0) (asset 1))
    -- -1: 34
    ∷ moves 7 0 (move (minus 1) (asset 0) (asset 1))
    -- 4 of 7 to itself: still 7
    ∷ moves 7 0 (move (constant 4) (asset 0) (asset 0))
    -- 1 into top: 36
    ∷ moves 7 top (move (constant 1) (asset 0) (asset 1))
    -- give()[0]: 29
    ∷ steps lot (agreed_at 0 0 0 0) (broker_calls (bytes "give") (pos 0 ∷ []))
    -- give()[-1]: 28
    ∷ steps lot (agreed_at 0 0 0 0) (broker_calls (bytes "give") (negsuc 0 ∷ []))
    -- a tick with an event due: 25
    ∷ steps lot (with_pending (agreed_at 1 2 10 0) (record { function = 0; event = 0; time = 2 } ∷ [])) tick
    -- a guard of now - 1 adds nothing pending
    ∷ steps other (agreed_at 0 5 0 0) (broker_calls (bytes "late") [])
    -- a deposit not moved on: 37
    ∷ steps other (agreed_at 0 5 0 0) (broker_calls (bytes "keep") (pos 5 ∷ []))
    ∷ []

abbrev pub expected : List Result
expected =
    gives (Ok (Integer (pos 3)))
    ∷ gives (Ok (Integer (negsuc 3)))
    ∷ gives (Err ask.ResultRange)
    ∷ leaves (0 ∷ 7 ∷ []) None
    ∷ leaves (7 ∷ 0 ∷ []) (Some ask.AmountHeld)
    ∷ leaves (7 ∷ 0 ∷ []) (Some ask.AmountSign)
    ∷ leaves (7 ∷ 0 ∷ []) None
    ∷ leaves (7 ∷ top ∷ []) (Some ask.SumFits)
    ∷ comes (Refused ask.Precondition) 0
    ∷ comes (Refused ask.AssetArguments) 0
    ∷ comes (Refused ask.NothingDue) 1
    ∷ comes (Accepted Call) 0
    ∷ comes (Refused ask.ParametersEmpty) 0
    ∷ []

abbrev pub after_move : Work → Result
after_move w = leaves (take 2 w.holdings) w.refusal

abbrev pub after_step : Stepped Question → Result
after_step r = comes r.outcome r.state.pending

abbrev pub result : Case → Result
result (works_out e) = gives (value_of (memory_of [] [] [] [] [] 0) e)
result (moves a b m) = after_move (performed (λ i. 0) [] 0 (begun (agreed_at 0 0 a b) []) m)
result (steps c s q) = after_step (answer_to (encode c) s (record { request = q; slice = no_labels }))

unfoldable pub results : List Case → List Result
results [] = []
results (c ∷ cs) = result c ∷ results cs
