-- A jump is accepted exactly if so many [TICK]s lead there. Assumes nothing.
use mathlib.Core.Path.{◌≡◌, refl, sym, ap, subst, ◌∙◌}
use mathlib.Core.Bool.{Bool, true, false, not}
use mathlib.Core.List.{List, []}
use Prim.Native.Nat.{ℕ, zero, suc, ◌+◌, ◌-◌, ◌<◌, ◌≤◌}
use native.Mathlib.Omega.{arith}
use lib.Dec.{eqb}
use lib.IntN.{ℤ, pos, nat_abs}
use lib.Signed.{le_z}
use borrow.Author.Tests.{le-leb}
use Rattle.laws.specs.Lists.{keep}
use Rattle.laws.proofs.Choice.{pick_true}
use Rattle.numbers.specs.Numbers.{within}
use Rattle.contract.specs.Limits.{top}
use Rattle.contract.specs.Tree.{Contract}
use Rattle.evaluation.specs.Memory.{Memory}
use Rattle.state.specs.declared.State.{State}
use Rattle.state.specs.declared.Pending.{Pending}
use Rattle.std.specs.Prelude.{Option, Some}
use Rattle.std.specs.declared.option.Option.TheVariants as option
use Rattle.state.specs.States.{live, due_in, pending_at, with_pending, lapsed, time_passed, passed_times, times_until_due, FirstStop}
use Rattle.state.proofs.Within.{live_lapsed}
use Rattle.state.proofs.Passing.{passed_clock, passed_state, passed_agreed, first_stop, one_stop}
use Rattle.outcomes.specs.declared.Rule.TheVariants.{Tick}
use Rattle.outcomes.specs.declared.Outcome.TheVariants.{Accepted}
use Rattle.questions.specs.declared.Question.{Question}
use Rattle.outcomes.specs.declared.Stepped.{Stepped}
use Rattle.outcomes.specs.Outcomes.{answered}
use Rattle.machine.specs.Steps.{jump_by_due, jumped}
use Rattle.machine.specs.Steps as steps
use Rattle.history.proofs.Scheduling.{ahead, TimeIn, time_in}
use Rattle.history.proofs.Cases.{ComesOut, refusal, jumps, jump_came}
use Rattle.published.specs.Published.{Configuration, runtime, no_state, in_state, nothing, after_tick, phase_of, memory_at, idle, time, Table2, tick, Ticks, no_tick, one_more, Stop, at_time, at_event, Jump, jump, First, here, there, None, and, Ready, NothingReady, Comes}
use Rattle.published.proofs.Finding.{none_ready, ready_none, some_ready}
use Rattle.published.proofs.Idle.{standing, idle_standing, comes_by}

-- a state's configuration in a phase of its own
abbrev at : ℕ → State → Configuration
at q s = runtime (in_state q) (memory_at s) nothing (live s)

module _ (c : Contract) where
  -- the configuration after a tick
  one_later : (s : State) → runtime (in_state s.state) (after_tick (memory_at s)) nothing (keep (λ p. not (eqb p.time s.clock)) (live s)) ≡ standing (time_passed s)
  unfolding with_pending lapsed
  one_later s = λ i. runtime (in_state s.state) (after_tick (memory_at s)) nothing (sym (live_lapsed s) i)

  ticks_derive : (n : ℕ) (s : State) → s.clock + n ≤ top → ((k : ℕ) → k < n → due_in c (passed_times k s) ≡ option.None)
      → Ticks c n (standing s) (at s.state (passed_times n s))
  unfolding passed_times with_pending lapsed
  ticks_derive zero s h f = no_tick
  ticks_derive (suc n) s h f =
      one_more (subst (Table2 c (standing s) time) (one_later s) (tick (omega arith) (none_ready c s (f 0 (omega arith)))))
      (ticks_derive n (time_passed s) (omega arith) (λ k l. f (suc k) (omega arith)))

  -- so many ticks lead to one configuration, and nothing was due before it
  record Led (n : ℕ) (s : State) (C : Configuration) : Type 0 where
    end_is : C ≡ at s.state (passed_times n s)
    idle_before : (k : ℕ) → k < n → due_in c (passed_times k s) ≡ option.None

  ticks_lead : (n : ℕ) {C : Configuration} (s : State) → Ticks c n (standing s) C → Led n s C
  unfolding passed_times with_pending lapsed
  ticks_lead zero s no_tick = record { end_is = refl; idle_before = λ k h. absurd (omega arith) }
  ticks_lead (suc n) {C} s (one_more (tick l r) t) =
      let x : Led n (time_passed s) C = ticks_lead n (time_passed s) (subst (λ (D : Configuration). Ticks c n D C) (one_later s) t) in
      record { end_is = x.end_is; idle_before = before x }
    where
      before : Led n (time_passed s) C → (k : ℕ) → k < suc n → due_in c (passed_times k s) ≡ option.None
      before x zero h = ready_none c s r
      before x (suc k) h = x.idle_before k (omega arith)

-- ---- from the machine's answer

-- where so many ticks end, in the terms of the first state
end_stop : (c : Contract) (s : State) (T : ℤ) (n : ℕ) → le_z (pos (s.clock + n)) T ≡ true → (due_in c (passed_times n s) ≡ option.None → pos (s.clock + n) ≡ T)
    → Stop c T s.state (memory_at (passed_times n s)) (live (passed_times n s))
end_stop c s T n l f = go (due_in c (passed_times n s)) refl
  where
    go : (d : Option ℕ) → due_in c (passed_times n s) ≡ d → Stop c T s.state (memory_at (passed_times n s)) (live (passed_times n s))
    go option.None d = at_time (ap pos (passed_clock n s) ∙ f d)
    go (Some k) d =
        let r = some_ready c (passed_times n s) k d in
        at_event (ap (λ (t : ℕ). le_z (pos t) T) (passed_clock n s) ∙ l)
        (subst (λ (q : ℕ). First (Ready c q (passed_times n s).clock) r.0 (pending_at (passed_times n s) r.0) (live (passed_times n s))) (passed_state n s) r.1)

idle_end : (s : State) (n : ℕ) → s.agreed ≡ true → idle (passed_times n s) ≡ at s.state (passed_times n s)
idle_end s n a = idle_standing (passed_times n s) (passed_agreed n s ∙ a) ∙ ap (λ (q : ℕ). at q (passed_times n s)) (passed_state n s)

module _ (c : Contract) (s : State) where
  came_derives : {T : ℤ} {r : Stepped Question} {C : Configuration} → within T ≡ true → ComesOut c s (steps.jump T) r → Comes r (Accepted Tick) [] C → Jump c T (idle s) C
  came_derives e (refusal n) o = let z : ◌≡◌ {A = ℕ} 0 1 = cc o.outcome_is in absurd (omega arith)
  came_derives {C = C} e (jumps T a d l) o =
      let r : TimeIn s.clock T = time_in s.clock T e l in
      let n : ℕ = times_until_due c (nat_abs T - s.clock) s in
      let f : FirstStop c (nat_abs T - s.clock) s n = first_stop c (nat_abs T - s.clock) s in
      let h : s.clock + n ≤ nat_abs T = omega (arith, r.from, f.no_further) in
      subst (λ (x : Configuration). Jump c T x C) (sym (idle_standing s a))
      (subst (Jump c T (standing s)) (sym (idle_end s n a) ∙ o.leads_to)
      (jump (none_ready c s d) (ticks_derive c n s (omega (arith, r.most)) f.not_before)
      (end_stop c s T n (ap (le_z (pos (s.clock + n))) (sym r.is) ∙ le-leb (s.clock + n) (nat_abs T) h)
      (λ q. let k : s.clock + n ≡ nat_abs T = omega (arith, r.from, f.due_or_most q) in ap pos k ∙ r.is))))

  pub jump_derives : (T : ℤ) → within T ≡ true → {C : Configuration} → Comes (jumped c s T) (Accepted Tick) [] C → Jump c T (idle s) C
  jump_derives T e o = came_derives e (jump_came c s T) o

-- ---- from a derivation

-- no jump before the agreement
abbrev InSome : Configuration → Type 0
InSome (runtime (in_state q) m r Ψ) = Unit {0}
InSome (runtime no_state m r Ψ) = ⊥

starts : {c : Contract} {T : ℤ} {C D : Configuration} → Jump c T C D → InSome C
starts (jump r t x) = tt

some_none : {A : Type 0} {P : A → Type 0} {n : ℕ} {x : A} {xs : List A} → First P n x xs → None P xs → ⊥
some_none (here r) (and ne e) = ne r
some_none (there ne f) (and ne' e) = some_none f e

module _ {c : Contract} {T : ℤ} {q : ℕ} {m : Memory} {Ψ : List Pending} where
  stop_ahead : Stop c T q m Ψ → le_z (pos m.clock) T ≡ true
  stop_ahead (at_time e) = ap (le_z (pos m.clock)) (sym e) ∙ le-leb m.clock m.clock (omega arith)
  stop_ahead (at_event l f) = l

  stop_there : Stop c T q m Ψ → NothingReady c q m Ψ → pos m.clock ≡ T
  stop_there (at_time e) r = e
  stop_there (at_event l f) r = absurd (some_none f r)

module _ (c : Contract) (s : State) (T : ℤ) where
  -- the ticks of a derivation are those of the machine
  led_stop : (n : ℕ) → ((k : ℕ) → k < n → due_in c (passed_times k s) ≡ option.None)
      → Stop c T s.state (memory_at (passed_times n s)) (live (passed_times n s)) → FirstStop c (nat_abs T - s.clock) s n
  led_stop n f x =
      let u : State = passed_times n s in
      let h = (ahead u.clock T (stop_ahead x)).0 in
      record {
        no_further = omega (arith, h, passed_clock n s);
        not_before = f;
        due_or_most = λ d.
            let e : u.clock ≡ nat_abs T =
            ap nat_abs (stop_there x (subst (λ (q : ℕ). None (Ready c q u.clock) (live u)) (passed_state n s) (none_ready c u d))) in
            omega (arith, passed_clock n s);
      }

  led_comes : {C : Configuration} (n : ℕ) → s.agreed ≡ true → due_in c s ≡ option.None → Led c n s C
      → Stop c T s.state (memory_at (passed_times n s)) (live (passed_times n s)) → Comes (jumped c s T) (Accepted Tick) [] C
  unfolding jumped
  led_comes n a d t x =
      let h = ahead (passed_times n s).clock T (stop_ahead x) in
      let l : le_z (pos s.clock) T ≡ true = ap (le_z (pos s.clock)) (sym h.1) ∙ le-leb s.clock (nat_abs T) (omega (arith, h.0, passed_clock n s)) in
      let k : times_until_due c (nat_abs T - s.clock) s ≡ n = one_stop (first_stop c (nat_abs T - s.clock) s) (led_stop n t.idle_before x) in
      let e : jumped c s T ≡ answered (Accepted Tick) (passed_times n s) =
      pick_true _ _ _ a ∙ ap (jump_by_due c s T) d ∙ pick_true _ _ _ l ∙ ap (λ (j : ℕ). answered (Accepted Tick) (passed_times j s)) k in
      comes_by e (record { outcome_is = refl; count_is = refl; labels_are = refl; leads_to = idle_end s n a ∙ sym t.end_is })

  derived_comes : {C : Configuration} (b : Bool) → s.agreed ≡ b → Jump c T (runtime (phase_of b s.state) (memory_at s) nothing (live s)) C
      → Comes (jumped c s T) (Accepted Tick) [] C
  derived_comes false a j = absurd (starts j)
  derived_comes true a (jump {n = n} {m = m'} {Ψ = Ψ'} r t x) =
      let u : State = passed_times n s in
      let y : Led c n s (runtime (in_state s.state) m' nothing Ψ') = ticks_lead c n s t in
      let em : m' ≡ memory_at u = cc y.end_is in
      let ep : Ψ' ≡ live u = cc y.end_is in
      led_comes n a (ready_none c s r) y
      (subst (λ (z : Memory). Stop c T s.state z (live u)) em (subst (Stop c T s.state m') ep x))

  pub jump_comes : {C : Configuration} → Jump c T (idle s) C → Comes (jumped c s T) (Accepted Tick) [] C
  jump_comes j = derived_comes s.agreed refl j
