-- What it means that the machine's steps are exactly those of the published rules: in state s, on table w, with a label slice of so
-- many entries, each step is accepted with these labels, leading to C, if and only if the rules derive C from the idle configuration
-- of s with these labels; and it is refused, and hands back s, if and only if they derive nothing. A firing that fails is neither:
-- `event_failed` derives it. Proved (`exactly`) of tables that pass, states within question 4, and slices of `room_needed` entries or more:
-- elsewhere questions 3, 4 and 20 refuse every step (`FirstQuestions`).
use Rattle.std.specs.Prelude.{ℕ, ◌<◌, ◌≡◌, true, false, ◌↔◌, List, [], ℤ}
use Rattle.questions.specs.declared.Question.{Question}
use Rattle.questions.specs.declared.Question.TheVariants as ask
use Rattle.numbers.specs.Numbers.{within}
use Rattle.contract.specs.Decode.{contract_of}
use Rattle.contract.specs.Check.{passes}
use Rattle.state.specs.declared.State.{State}
use Rattle.state.specs.States.{state_ok}
use Rattle.statements.specs.declared.Label.{Label}
use Rattle.outcomes.specs.declared.Rule.TheVariants.{Agree, Call, EventMatch, Tick}
use Rattle.outcomes.specs.declared.Outcome.TheVariants.{Accepted, Failed}
use Rattle.outcomes.specs.declared.Stepped.{Stepped}
use Rattle.outcomes.specs.Outcomes.{refused}
use Rattle.machine.specs.Steps.{Invocation, Request, requested, room_needed, step}
use Rattle.machine.specs.Steps as steps
use Rattle.agreements.specs.Agreement.{Part}
use Rattle.history.specs.Histories.{within64}
use Rattle.history.specs.Sessions.{Stored}
use Rattle.published.specs.Published.{Configuration, agreement, call, match, failure, time, Table2, Whole, Jump, idle, Comes, IsRefused}

-- the machine's answer
abbrev pub answer : List ℕ → State → ℕ → Request → Stepped Question
answer w s room q = step w room s (requested s q)

-- the questions that every step asks first, in this order; proved (`first_questions`) of all tables, states, slices and steps
pub record FirstQuestions (w : List ℕ) (s : State) (room : ℕ) (q : Request) : Type 0 where
  pub table_refused : passes w ≡ false → answer w s room q ≡ refused s ask.TableCheck
  pub state_refused : passes w ≡ true → state_ok (contract_of w) s ≡ false → answer w s room q ≡ refused s ask.StateRanges
  pub slice_refused : passes w ≡ true → state_ok (contract_of w) s ≡ true → room < room_needed (contract_of w) → answer w s room q ≡ refused s ask.LabelRoom

pub record Exactly (w : List ℕ) (s : State) (room : ℕ) : Type 0 where
  -- AGREE
  pub agreements : (ps : List Part) (C : Configuration)
      → Comes (answer w s room (steps.agreement ps)) (Accepted Agree) [] C ↔ Table2 (contract_of w) (idle s) (agreement ps) C
  pub agreements_refused : (ps : List Part)
      → IsRefused s (answer w s room (steps.agreement ps)) ↔ ((C : Configuration) → Table2 (contract_of w) (idle s) (agreement ps) C → ⊥)
  -- FUNCTION, Table 3, STATE CHANGE
  pub calls : (i : Invocation) (ls : List Label) (C : Configuration)
      → Comes (answer w s room (steps.call i)) (Accepted Call) ls C ↔ Whole (contract_of w) (idle s) (call i) ls C
  pub calls_refused : (i : Invocation)
      → IsRefused s (answer w s room (steps.call i)) ↔ ((ls : List Label) (C : Configuration) → Whole (contract_of w) (idle s) (call i) ls C → ⊥)
  -- EVENT MATCH, Table 3, STATE CHANGE
  pub firings : (ls : List Label) (C : Configuration)
      → Comes (answer w s room steps.firing) (Accepted EventMatch) ls C ↔ Whole (contract_of w) (idle s) match ls C
  -- the failed handler, by the question that it meets
  pub failures : (n : Question) (C : Configuration)
      → Comes (answer w s room steps.firing) (Failed n) [] C ↔ Table2 (contract_of w) (idle s) (failure n) C
  pub firings_refused : IsRefused s (answer w s room steps.firing)
      ↔ (((ls : List Label) (C : Configuration) → Whole (contract_of w) (idle s) match ls C → ⊥) × ((n : Question) (C : Configuration) → Table2 (contract_of w) (idle s) (failure n) C → ⊥))
  -- TICK
  pub ticks : (C : Configuration)
      → Comes (answer w s room steps.tick) (Accepted Tick) [] C ↔ Table2 (contract_of w) (idle s) time C
  pub ticks_refused : IsRefused s (answer w s room steps.tick) ↔ ((C : Configuration) → Table2 (contract_of w) (idle s) time C → ⊥)
  -- TICK so many times, maybe none, for a signed 64-bit T
  pub jumps : (T : ℤ) → within T ≡ true → (C : Configuration)
      → Comes (answer w s room (steps.jump T)) (Accepted Tick) [] C ↔ Jump (contract_of w) T (idle s) C
  pub jumps_refused : (T : ℤ) → within T ≡ true
      → IsRefused s (answer w s room (steps.jump T)) ↔ ((C : Configuration) → Jump (contract_of w) T (idle s) C → ⊥)
  -- from a state that code can hold, any step with 64-bit arguments leads to a state that is again within question 4
  pub in_range : Stored s → (q : Request) → within64 q ≡ true → state_ok (contract_of w) (answer w s room q).state ≡ true
