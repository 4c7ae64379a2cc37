-- A tick is accepted exactly if TICK applies. Assumes nothing.
use mathlib.Core.Path.{◌≡◌, refl, sym, ap, subst, ◌∙◌}
use mathlib.Core.Bool.{Bool, true, false, not}
use mathlib.Core.List.{[]}
use Prim.Native.Nat.{ℕ}
use native.Mathlib.Omega.{arith}
use lib.Dec.{eqb}
use borrow.Author.Tests.{lt-ltb}
use Rattle.laws.proofs.Choice.{pick_true}
use Rattle.contract.specs.Limits.{top}
use Rattle.contract.specs.Tree.{Contract}
use Rattle.state.specs.declared.State.{State}
use Rattle.std.specs.Prelude.{None}
use Rattle.state.specs.States.{live, due_in, with_pending, lapsed, time_passed}
use Rattle.laws.specs.Lists.{keep}
use Rattle.state.proofs.Within.{live_lapsed}
use Rattle.outcomes.specs.declared.Rule.TheVariants.{Tick}
use Rattle.outcomes.specs.declared.Outcome.TheVariants.{Accepted}
use Rattle.questions.specs.declared.Question.{Question}
use Rattle.outcomes.specs.declared.Stepped.{Stepped}
use Rattle.outcomes.specs.Outcomes.{answered}
use Rattle.machine.specs.Steps.{tick_by_due, ticked}
use Rattle.machine.specs.Steps as steps
use Rattle.history.proofs.Cases.{ComesOut, refusal, ticks, tick_came}
use Rattle.published.specs.Published.{Configuration, runtime, in_state, nothing, after_tick, phase_of, memory_at, idle, time, Table2, tick, Comes}
use Rattle.published.proofs.Finding.{none_ready, ready_none}
use Rattle.published.proofs.Idle.{standing, idle_standing, comes_by, starts}

module _ (c : Contract) (s : State) where
  -- the state after a tick
  idle_later : s.agreed ≡ true
      → idle (time_passed s) ≡ runtime (in_state s.state) (after_tick (memory_at s)) nothing (keep (λ p. not (eqb p.time s.clock)) (live s))
  unfolding with_pending lapsed
  idle_later a = λ i. runtime (phase_of (a i) s.state) (after_tick (memory_at s)) nothing (live_lapsed s i)

  came_derives : {r : Stepped Question} {C : Configuration} → ComesOut c s steps.tick r → Comes r (Accepted Tick) [] C → Table2 c (idle s) time C
  came_derives (refusal n) o = let z : ◌≡◌ {A = ℕ} 0 1 = cc o.outcome_is in absurd (omega arith)
  came_derives {C = C} (ticks a d l) o =
      subst (λ (x : Configuration). Table2 c x time C) (sym (idle_standing s a))
      (subst (Table2 c (standing s) time) (sym (idle_later a) ∙ o.leads_to) (tick l (none_ready c s d)))

  pub tick_derives : {C : Configuration} → Comes (ticked c s) (Accepted Tick) [] C → Table2 c (idle s) time C
  tick_derives o = came_derives (tick_came c s) o

  derived_comes : {C : Configuration} (b : Bool) → s.agreed ≡ b → Table2 c (runtime (phase_of b s.state) (memory_at s) nothing (live s)) time C
      → Comes (ticked c s) (Accepted Tick) [] C
  unfolding ticked
  derived_comes false a t = absurd (starts t)
  derived_comes true a (tick l n) =
      let d : due_in c s ≡ None = ready_none c s n in
      let e : ticked c s ≡ answered (Accepted Tick) (time_passed s) = pick_true _ _ _ a ∙ ap (tick_by_due s) d ∙ pick_true _ _ _ (lt-ltb s.clock top l) in
      comes_by e (record { outcome_is = refl; count_is = refl; labels_are = refl; leads_to = idle_later a })

  pub tick_comes : {C : Configuration} → Table2 c (idle s) time C → Comes (ticked c s) (Accepted Tick) [] C
  tick_comes t = derived_comes s.agreed refl t
