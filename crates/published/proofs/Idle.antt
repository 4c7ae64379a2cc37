-- The configurations of states. Assumes nothing.
use mathlib.Core.Path.{◌≡◌, refl, sym, ap, subst}
use mathlib.Core.Bool.{true}
use mathlib.Core.List.{List, [], ◌∷◌, ◌++◌}
use Prim.Native.Nat.{ℕ, zero, suc, ◌≤◌}
use native.Mathlib.Omega.{arith}
use lib.ListN.{length, take, drop, length-take}
use lib.Seq.{take_all}
use lib.Dec.{eqb}
use lib.IntN.{ℤ}
use Rattle.std.specs.Prelude.{Option, None, Some}
use Rattle.questions.specs.declared.Question.{Question}
use Rattle.contract.specs.Limits.{max_assets, max_parameters}
use Rattle.laws.proofs.Members.{every_tail}
use Rattle.laws.specs.Lists.{every, repeated}
use Rattle.contract.specs.Tree.{Contract}
use Rattle.state.specs.declared.State.{State}
use Rattle.state.specs.declared.Pending.{Pending}
use Rattle.state.specs.States.{live, with_pending}
use Rattle.state.proofs.Within.{live_with}
use Rattle.statements.specs.declared.Label.{Label}
use Rattle.statements.specs.Running.{Work, memory_in}
use Rattle.outcomes.specs.declared.Outcome.{Outcome}
use Rattle.outcomes.specs.declared.Stepped.{Stepped}
use Rattle.machine.specs.Steps.{begun, ended, unless_refused}
use Rattle.published.specs.Published.{Configuration, runtime, no_state, in_state, nothing, unbound, Mark, agreement, call, change, match, failure, time, Table2, agree, function, state_change, event_match, event_failed, tick, Whole, phase_of, memory_at, idle, Comes}

-- an agreed state
abbrev pub standing : State → Configuration
standing s = runtime (in_state s.state) (memory_at s) nothing (live s)

pub idle_standing : (s : State) → s.agreed ≡ true → idle s ≡ standing s
idle_standing s a = λ i. runtime (phase_of (a i) s.state) (memory_at s) nothing (live s)

-- the state that statements lead to, without parameters
pub idle_ended : (s : State) (w : Work) (q : ℕ) (ps : List Pending) (v : List ℤ) → s.agreed ≡ true
    → idle (ended s w q ps) ≡ runtime (in_state q) (unbound (memory_in v s.clock w)) nothing ps
unfolding with_pending
idle_ended s w q ps v a =
    let few : length (take max_assets w.holdings) ≤ max_assets = simp length-take (omega arith) in
    let twice : take max_assets (take max_assets w.holdings) ≡ take max_assets w.holdings = take_all max_assets (take max_assets w.holdings) few in
    λ i. runtime (phase_of (a i) q)
    (record { kinds = w.kinds; numbers = w.numbers; texts = w.texts; holdings = twice i; values = []; clock = s.clock })
    nothing (live_with (ended s w q ps) ps i)

-- how a step comes out
pub comes_by : {r r' : Stepped Question} {o : Outcome Question} {ls : List Label} {C : Configuration} → r ≡ r' → Comes r' o ls C → Comes r o ls C
comes_by {o = o} {ls = ls} {C = C} e h = subst (λ (r : Stepped Question). Comes r o ls C) (sym e) h

-- what comes of statements that met no refusal, and of those that question q refused
pub goes_on : {r : Option Question} (f : Question → Stepped Question) (t : Stepped Question) → r ≡ None → unless_refused r f t ≡ t
goes_on f t e = ap (λ (r : Option Question). unless_refused r f t) e

pub stops_at : {r : Option Question} {q : Question} (f : Question → Stepped Question) (t : Stepped Question) → r ≡ Some q → unless_refused r f t ≡ f q
stops_at f t e = ap (λ (r : Option Question). unless_refused r f t) e

-- a derivation between equal configurations, with equal labels
pub whole_same : {c : Contract} {μ : Mark} {A B C D : Configuration} {ls ls' : List Label} → A ≡ B → ls ≡ ls' → C ≡ D → Whole c A μ ls C → Whole c B μ ls' D
whole_same {c} {μ} {A} {B} {C} {D} {ls} {ls'} a l d h =
    subst (λ (x : Configuration). Whole c x μ ls' D) a (subst (λ (x : List Label). Whole c A μ x D) l (subst (Whole c A μ ls) d h))

-- before the agreement no rule applies but AGREE
abbrev Starts : Configuration → Mark → Type 0
Starts (runtime (in_state q) m r Ψ) μ = Unit {0}
Starts (runtime no_state m r Ψ) (agreement ps) = Unit {0}
Starts (runtime no_state m r Ψ) (call i) = ⊥
Starts (runtime no_state m r Ψ) change = ⊥
Starts (runtime no_state m r Ψ) match = ⊥
Starts (runtime no_state m r Ψ) (failure n) = ⊥
Starts (runtime no_state m r Ψ) time = ⊥

pub starts : {c : Contract} {μ : Mark} {C D : Configuration} → Table2 c C μ D → Starts C μ
starts (agree o p n a) = tt
starts (function vs f n u v i p) = tt
starts (state_change h t l) = tt
starts (event_match f) = tt
starts (event_failed f r x k) = tt
starts (tick l n) = tt

-- ---- nothing but zeros after some first places

every_drop : (n : ℕ) (z : List ℕ) → every (λ a. eqb a 0) z ≡ true → every (λ a. eqb a 0) (drop n z) ≡ true
every_drop zero z e = e
every_drop (suc n) [] e = e
every_drop (suc n) (x ∷ z) e = every_drop n z (every_tail (λ a. eqb a 0) x z e)

zeros_after : (n : ℕ) (a z : List ℕ) → every (λ a. eqb a 0) z ≡ true → length a ≤ n → every (λ a. eqb a 0) (drop n (a ++ z)) ≡ true
zeros_after n [] z e h = every_drop n z e
zeros_after zero (x ∷ a) z e h = absurd (omega arith)
zeros_after (suc n) (x ∷ a) z e h = zeros_after n a z e (omega arith)

-- no parameter is bound
pub nothing_bound : (s : State) → every (λ a. eqb a 0) (drop max_assets (begun s []).holdings) ≡ true
unfolding repeated every
nothing_bound s = zeros_after max_assets (take max_assets s.assets) (take max_parameters (repeated max_parameters 0)) refl (simp length-take (omega arith))
