-- Lists of agreements, calls, firings, ticks and jumps, each with any arguments and a lent label slice of any length.
use Rattle.std.specs.Prelude.{ℕ, suc, ◌+◌, ◌*◌, ◌≡◌, Bool, true, false, not, ◌&&◌, List, [], ◌∷◌, ◌++◌, length, map, take, eqb, ℤ, pos, ◌+ℤ◌, Option, Some, None}
use Rattle.laws.specs.Choice.{pick}
use Rattle.laws.specs.Lists.{every, keep}
use Rattle.numbers.specs.Numbers.{within}
use Rattle.contract.specs.Tree.{Contract}
use Rattle.contract.specs.Decode.{contract_of}
use Rattle.state.specs.declared.State.{State}
use Rattle.state.specs.States.{due_in}
use Rattle.statements.specs.declared.Label.{Label}
use Rattle.statements.specs.Running.{asset_label}
use Rattle.outcomes.specs.declared.Rule.TheVariants.{Tick}
use Rattle.questions.specs.declared.Question.{Question}
use Rattle.outcomes.specs.declared.Outcome.{Outcome}
use Rattle.outcomes.specs.declared.Outcome.TheVariants.{Accepted, Failed, Refused}
use Rattle.outcomes.specs.declared.Stepped.{Stepped}
use Rattle.groups.specs.Groups.{first_parameter, group_of}
use Rattle.machine.specs.Steps.{Chosen, chosen, unknown, choose, Request, agreement, call, firing, tick, jump, requested, step}
use Rattle.steps.specs.declared.Left.{Left}
use Rattle.steps.specs.Left.{left_of, slots_of}

-- a step asked for, and the label slice lent to it
pub record Step : Type 0 where
  pub request : Request
  pub slice : List Label

-- the machine's answer to a step on a table
unfoldable pub answer_to : List ℕ → State → Step → Stepped Question
answer_to w s a = step w (length a.slice) s (requested s a.request)

-- what the caller holds then: what came of it, the state and how many labels there are; and the slice
pub record Returned : Type 0 where
  pub left : Left
  pub slice : List Label

abbrev pub returned : List ℕ → State → Step → Returned
returned w s a = record { left = left_of (answer_to w s a); slice = slots_of a.slice (answer_to w s a) }

-- ---- what a step brings in and pays out

-- an asset argument of an accepted call, with the group of its parameter (document 02, F-7)
pub record Deposit : Type 0 where
  pub group : ℕ
  pub amount : ℤ

-- those of function n's parameters from j on
unfoldable pub deposits_to : Contract → ℕ → ℕ → List ℤ → List Deposit
deposits_to c n j [] = []
deposits_to c n j (z ∷ zs) = record { group = group_of c (first_parameter n + j); amount = z } ∷ deposits_to c n (suc j) zs

-- every asset argument is a deposit; of an unknown function, which 26 refuses, it is of no group
abbrev pub deposits_by : Contract → List ℤ → Chosen → List Deposit
deposits_by c zs (chosen n f) = deposits_to c n 0 zs
deposits_by c zs unknown = map (λ z. record { group = 0; amount = z }) zs

-- the asset arguments of a call that is accepted
abbrev pub deposit : Contract → State → Request → Outcome Question → List Deposit
deposit c s (call i) (Accepted r) = deposits_by c i.assets (choose c s i 0 c.functions)
deposit c s (call i) (Failed n) = []
deposit c s (call i) (Refused n) = []
deposit c s (agreement ps) o = []
deposit c s firing o = []
deposit c s tick o = []
deposit c s (jump T) o = []

-- the asset payouts among some labels
unfoldable pub payouts_in : List Label → List Label
payouts_in [] = []
payouts_in (l ∷ ls) = pick (eqb l.kind asset_label) (l ∷ payouts_in ls) (payouts_in ls)

-- the asset payouts that an accepted step left, read off the slice
abbrev pub payouts_of : Returned → Outcome Question → List Label
payouts_of r (Accepted rule) = payouts_in (take r.left.count r.slice)
payouts_of r (Failed n) = payouts_in (take r.left.count r.slice)
payouts_of r (Refused n) = []

-- ---- a list of steps

-- what a list of steps comes to: the last state, what callers hold after each step, the asset arguments of accepted calls
-- with their groups, the payouts
pub record History : Type 0 where
  pub state : State
  pub answers : List Returned
  pub deposits : List Deposit
  pub payouts : List Label

-- one step, and what those after it come to
abbrev pub followed : Contract → State → Request → Returned → History → History
followed c s q r h =
    record {
      state = h.state;
      answers = r ∷ h.answers;
      deposits = deposit c s q r.left.outcome ++ h.deposits;
      payouts = payouts_of r r.left.outcome ++ h.payouts;
    }

unfoldable pub history : List ℕ → State → List Step → History
history w s [] = record { state = s; answers = []; deposits = []; payouts = [] }
history w s (a ∷ xs) = followed (contract_of w) s a.request (returned w s a) (history w (answer_to w s a).state xs)

-- ---- the count

unfoldable pub total : List ℤ → ℤ
total [] = pos 0
total (z ∷ zs) = z +ℤ total zs

-- the amounts of deposits
unfoldable pub amounts_of : List Deposit → List ℤ
amounts_of [] = []
amounts_of (d ∷ ds) = d.amount ∷ amounts_of ds

-- the values of labels
unfoldable pub values_of : List Label → List ℤ
values_of [] = []
values_of (l ∷ ls) = l.value ∷ values_of ls

-- amounts weighed by their places, which are counted from i
unfoldable pub weighed : (ℕ → ℕ) → ℕ → List ℕ → ℕ
weighed f i [] = 0
weighed f i (n ∷ ns) = f i * n + weighed f (suc i) ns

-- every unit counts one, wherever it is
abbrev pub alike : ℕ → ℕ
alike i = 1

-- what the state holds
abbrev pub holdings : State → ℕ
holdings s = weighed alike 0 s.assets

-- ---- by group (document 02, F-7)

-- the deposits of a group
abbrev pub group_deposits : ℕ → List Deposit → List Deposit
group_deposits g = keep (λ d. eqb d.group g)

-- the payouts of a group
abbrev pub group_payouts : ℕ → List Label → List Label
group_payouts g = keep (λ l. eqb l.group g)

-- the weight of place i: 1 for an asset of group g, 0 for any other
abbrev pub in_group : Contract → ℕ → ℕ → ℕ
in_group c g i = pick (eqb (group_of c i) g) 1 0

-- what the state holds of a group
abbrev pub group_holdings : Contract → ℕ → State → ℕ
group_holdings c g s = weighed (in_group c g) 0 s.assets

-- ---- striking out

abbrev pub is_refused : Outcome Question → Bool
is_refused (Accepted r) = false
is_refused (Failed n) = false
is_refused (Refused n) = true

-- the second list is the first without some refused steps; the third has the first's answers to the steps that stay
pub data Struck (w : List ℕ) : State → List Step → List Step → List Returned → Type 0 where
  end : {s : State} → Struck w s [] [] []
  stays : {s : State} {a : Step} {xs ys : List Step} {rs : List Returned}
      → Struck w (answer_to w s a).state xs ys rs
      → Struck w s (a ∷ xs) (a ∷ ys) (returned w s a ∷ rs)
  strikes : {s : State} {a : Step} {xs ys : List Step} {rs : List Returned}
      → is_refused (answer_to w s a).outcome ≡ true
      → Struck w (answer_to w s a).state xs ys rs
      → Struck w s (a ∷ xs) ys rs

-- the steps that are not refused
unfoldable pub unrefused : List ℕ → State → List Step → List Step
unrefused w s [] = []
unrefused w s (a ∷ xs) =
    let ys = unrefused w (answer_to w s a).state xs in
    pick (is_refused (answer_to w s a).outcome) ys (a ∷ ys)

-- the answers that are no refusals
abbrev pub stayed : List Returned → List Returned
stayed = keep (λ r. not (is_refused r.left.outcome))

-- ---- the clock

-- a firing with each of these label slices
unfoldable pub firings : List (List Label) → List Step
firings [] = []
firings (l ∷ ls) = record { request = firing; slice = l } ∷ firings ls

-- a tick with each of these label slices
unfoldable pub ticks : List (List Label) → List Step
ticks [] = []
ticks (l ∷ ls) = record { request = tick; slice = l } ∷ ticks ls

-- towards clock T: a firing where an event is due, else a jump to T
abbrev pub towards : ℤ → Option ℕ → Request
towards T (Some k) = firing
towards T None = jump T

-- that request, with a label slice
abbrev pub step_towards : List ℕ → ℤ → State → List Label → Step
step_towards w T s l = record { request = towards T (due_in (contract_of w) s); slice = l }

-- such a step with each of these label slices, each from the state that the one before it left
unfoldable pub steps_towards : List ℕ → ℤ → State → List (List Label) → List Step
steps_towards w T s [] = []
steps_towards w T s (l ∷ ls) = step_towards w T s l ∷ steps_towards w T (answer_to w s (step_towards w T s l)).state ls

-- each of these answers is an accepted tick
pub data AllTicks : List Returned → Type 0 where
  none : AllTicks []
  and : {r : Returned} {rs : List Returned} → r.left.outcome ≡ Accepted Tick → AllTicks rs → AllTicks (r ∷ rs)

-- none of these answers is a refusal
unfoldable pub none_refused : List Returned → Bool
none_refused [] = true
none_refused (r ∷ rs) = pick (is_refused r.left.outcome) false (none_refused rs)

-- arguments are signed 64-bit integers
unfoldable pub within64 : Request → Bool
within64 (agreement ps) = every (λ p. every within p.values) ps
within64 (call i) = every within i.values && every within i.assets
within64 firing = true
within64 tick = true
within64 (jump T) = within T
