-- Demand 3 of document 01, and what document 02 adds to it: what holds of every list of steps.
use Rattle.std.specs.Prelude.{ℕ, suc, ◌+◌, ◌*◌, ◌≤◌, ◌<◌, ◌≡◌, Bool, true, List, length, leb, ℤ, pos, ◌+ℤ◌, None}
use Rattle.std.specs.Int.Signed.{le_z}
use Rattle.contract.specs.Limits.{top}
use Rattle.laws.specs.Lists.{every}
use Rattle.numbers.specs.Numbers.{within}
use Rattle.contract.specs.Decode.{contract_of}
use Rattle.groups.specs.Chains.{is_group}
use Rattle.state.specs.declared.State.{State}
use Rattle.state.specs.States.{fresh_at, state_ok, due_in}
use Rattle.statements.specs.declared.Label.{Label}
use Rattle.outcomes.specs.declared.Rule.TheVariants.{Tick}
use Rattle.outcomes.specs.declared.Outcome.TheVariants.{Accepted}
use Rattle.questions.specs.declared.Question.{Question}
use Rattle.outcomes.specs.declared.Stepped.{Stepped}
use Rattle.outcomes.specs.Outcomes.{answered}
use Rattle.machine.specs.Steps.{tick, jump, room_needed}
use Rattle.history.specs.Histories.{Step, Returned, answer_to, History, history, total, amounts_of, values_of, holdings, group_deposits, group_payouts, group_holdings, Struck, unrefused, stayed, firings, ticks, AllTicks, steps_towards, none_refused}

-- after the steps that stay: the same state, deposits and payouts in order, and these answers to them
pub record Same (w : List ℕ) (s : State) (xs ys : List Step) (rs : List Returned) : Type 0 where
  pub state : (history w s ys).state ≡ (history w s xs).state
  pub answer : (history w s ys).answers ≡ rs
  pub deposit : (history w s ys).deposits ≡ (history w s xs).deposits
  pub payout : (history w s ys).payouts ≡ (history w s xs).payouts

-- after firings with these label slices: none was refused, nothing is due, and a tick is accepted and takes the clock one further
pub record Cleared (w : List ℕ) (s : State) (ls : List (List Label)) : Type 0 where
  pub none-refused : none_refused (history w s (firings ls)).answers ≡ true
  pub nothing_due : due_in (contract_of w) (history w s (firings ls)).state ≡ None
  pub tick_accepted : (l : List Label) → room_needed (contract_of w) ≤ length l
      → (answer_to w (history w s (firings ls)).state (record { request = tick; slice = l })).outcome ≡ Accepted Tick
  pub clock_rises : (l : List Label) → room_needed (contract_of w) ≤ length l
      → (answer_to w (history w s (firings ls)).state (record { request = tick; slice = l })).state.clock ≡ suc s.clock

-- a label slice of what question 20 wants
abbrev pub roomy : List ℕ → List Label → Bool
roomy w l = leb (room_needed (contract_of w)) (length l)

-- each of these is
abbrev pub all_roomy : List ℕ → List (List Label) → Bool
all_roomy w = every (roomy w)

-- so many firings, at most as many as events are pending, each given what question 20 wants
pub record GoesOn (w : List ℕ) (s : State) : Type 0 where
  pub count : ℕ
  pub count_few : count ≤ s.pending
  pub cleared : (ls : List (List Label)) → length ls ≡ count → all_roomy w ls ≡ true → Cleared w s ls

-- ---- jumps (document 02, F-3)

-- r, the answer to a jump from s to clock T, is that of so many accepted ticks, zero included
pub record IsTicks (w : List ℕ) (s : State) (T : ℤ) (r : Stepped Question) : Type 0 where
  pub count : ℕ
  -- each given what question 20 wants, all are accepted; the jump is accepted with the state that they end in, and sends nothing
  pub all_ticks : (ls : List (List Label)) → length ls ≡ count → all_roomy w ls ≡ true → AllTicks (history w s (ticks ls)).answers
  pub same : (ls : List (List Label)) → length ls ≡ count → all_roomy w ls ≡ true → r ≡ answered (Accepted Tick) (history w s (ticks ls)).state
  -- after fewer nothing is due
  pub not_before : (ls : List (List Label)) → length ls < count → all_roomy w ls ≡ true → due_in (contract_of w) (history w s (ticks ls)).state ≡ None
  -- the clock rises by one a tick
  pub clock_rises : r.state.clock ≡ s.clock + count
  -- T is not passed, and it is reached if nothing is due
  pub no_further : le_z (pos r.state.clock) T ≡ true
  pub due_or_there : due_in (contract_of w) r.state ≡ None → pos r.state.clock ≡ T

-- a jump with T not before the clock, from an agreed state with nothing due; proved (`jump_ticks`) of every table that question 3 passes and
-- every state that question 4 passes; a field of `Holds` below
abbrev pub JumpIsTicks : List ℕ → State → Type 0
JumpIsTicks w s =
    s.agreed ≡ true → due_in (contract_of w) s ≡ None → (T : ℤ) → within T ≡ true → le_z (pos s.clock) T ≡ true
    → (l : List Label) → roomy w l ≡ true → IsTicks w s T (answer_to w s (record { request = jump T; slice = l }))

-- after steps towards T with these label slices: none was refused, the clock is T, and nothing is due
pub record There (w : List ℕ) (T : ℤ) (s : State) (ls : List (List Label)) : Type 0 where
  pub none-refused : none_refused (history w s (steps_towards w T s ls)).answers ≡ true
  pub clock_is : pos (history w s (steps_towards w T s ls)).state.clock ≡ T
  pub nothing_due : due_in (contract_of w) (history w s (steps_towards w T s ls)).state ≡ None

-- so many steps towards T, each given what question 20 wants: at most 2 times the pending events plus 1, so at most 129
pub record Reaches (w : List ℕ) (T : ℤ) (s : State) : Type 0 where
  pub count : ℕ
  pub count_few : count ≤ 2 * s.pending + 1
  pub count_most : count ≤ 129
  pub there : (ls : List (List Label)) → length ls ≡ count → all_roomy w ls ≡ true → There w T s ls

-- ---- the whole

-- what holds of h, which a list of steps from the fresh state at a clock comes to
pub record Holds (w : List ℕ) (clock : ℕ) (xs : List Step) (h : History) : Type 0 where
  -- deposits of accepted calls are the holdings and the asset payouts; a holding is a natural number, so none is below 0
  pub count : total (amounts_of h.deposits) ≡ pos (holdings h.state) +ℤ total (values_of h.payouts)
  -- and for each group by itself (document 02, F-7)
  pub count_by_group : (g : ℕ)
      → total (amounts_of (group_deposits g h.deposits)) ≡ pos (group_holdings (contract_of w) g h.state) +ℤ total (values_of (group_payouts g h.payouts))
  -- each deposit is of a group, and each payout: none is missing from these counts
  pub deposits_in_groups : every (λ d. is_group (contract_of w) d.group) h.deposits ≡ true
  pub payouts_in_groups : every (λ l. is_group (contract_of w) l.group) h.payouts ≡ true
  -- no deposit is below 0, and no payout
  pub deposits_are_amounts : every (le_z (pos 0)) (amounts_of h.deposits) ≡ true
  pub payouts_are_amounts : every (le_z (pos 0)) (values_of h.payouts) ≡ true
  -- the last state is within question 4, so that only assets of the contract hold anything, each at most top
  pub in_range : clock ≤ top → state_ok (contract_of w) h.state ≡ true
  -- any refused steps can be struck out
  pub striking : (ys : List Step) (rs : List Returned) → Struck w (fresh_at clock) xs ys rs → Same w (fresh_at clock) xs ys rs
  -- and so can all of them: the others are answered as in the first list
  pub striking_all : Same w (fresh_at clock) xs (unrefused w (fresh_at clock) xs) (stayed h.answers)
  -- agreed and below top, the clock can't be stopped
  pub goes_on : h.state.agreed ≡ true → h.state.clock < top → GoesOn w h.state
  -- a jump is so many ticks
  pub jump_is_ticks : JumpIsTicks w h.state
  -- agreed, and T not before the clock: a firing wherever an event is due, else a jump to T, reaches T with nothing due
  pub reaches : h.state.agreed ≡ true → (T : ℤ) → within T ≡ true → le_z (pos h.state.clock) T ≡ true → Reaches w T h.state

-- proved (`demand`) of tables that pass and lists whose steps have 64-bit arguments (`within64` of each), whatever the lengths of their
-- slices; `in_range` asks for a clock up to top, `goes_on`, `jump_is_ticks` and `reaches` for slices of `room_needed` entries or more, and T is
-- a signed 64-bit integer
abbrev pub Demand : List ℕ → ℕ → List Step → Type 0
Demand w clock xs = Holds w clock xs (history w (fresh_at clock) xs)
