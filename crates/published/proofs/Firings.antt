-- A firing is accepted exactly if EVENT MATCH, the handler's statements and STATE CHANGE lead to an idle state, and fails with question n
-- exactly if the handler's statements stick at no n. Assumes nothing.
use mathlib.Core.Path.{◌≡◌, refl, sym, ap, subst, ◌∙◌}
use mathlib.Core.Bool.{Bool, true, false}
use mathlib.Core.List.{List, [], ◌++◌, append-nil}
use Prim.Native.Nat.{ℕ, ◌≤◌}
use native.Mathlib.Omega.{arith}
use lib.ListN.{length, drop}
use lib.Dec.{eqb}
use Rattle.laws.proofs.Choice.{pick_true}
use Rattle.std.specs.Prelude.{None, Some}
use Rattle.questions.specs.declared.Question.{Question}
use Rattle.contract.specs.Limits.{max_assets}
use Rattle.contract.specs.Tree.{Contract}
use Rattle.contract.specs.Fits.{scope_of}
use Rattle.evaluation.specs.Memory.{Memory}
use Rattle.laws.specs.Lists.{every}
use Rattle.state.specs.declared.State.{State}
use Rattle.state.specs.declared.Pending.{Pending}
use Rattle.state.specs.States.{max_pending, blank, event_of, live, pending_at, with_pending, removed}
use Rattle.state.proofs.Each.{without_length}
use Rattle.state.proofs.Within.{live_removed}
use Rattle.statements.specs.declared.Label.{Label}
use Rattle.statements.specs.Running.{memory_in}
use Rattle.outcomes.specs.declared.Rule.TheVariants.{EventMatch}
use Rattle.outcomes.specs.declared.Outcome.TheVariants.{Accepted, Failed}
use Rattle.outcomes.specs.declared.Stepped.{Stepped}
use Rattle.machine.specs.Steps.{place_groups, begun, ended, handled, fire_by_due, fired}
use Rattle.machine.specs.Steps as steps
use Rattle.history.proofs.Parameters.{Parameters, ran_same}
use Rattle.history.proofs.ContractBounds.{Bounded, BoundedEvent}
use Rattle.history.proofs.Cases.{event_at, handler_ran, ComesOut, refusal, fires, fails, firing_came}
use Rattle.history.proofs.RefusalNumbers.{Stops}
use Rattle.published.specs.Published.{Configuration, runtime, in_state, nothing, left, in_order, bound, unbound, First, Foremost, without, Statements, no_event, change, match, failure, Table2, state_change, event_match, event_failed, Whole, whole, phase_of, memory_at, idle, Comes}
use Rattle.published.proofs.Meeting.{meets_stuck}
use Rattle.published.proofs.Actions.{labels_of}
use Rattle.published.proofs.Blocks.{Sticks, at}
use Rattle.published.proofs.Bodies.{Fit, body_runs, body_counts, body_sticks, body_stops, run_is, stick_is}
use Rattle.published.proofs.Finding.{first_ready, ready_first, first_at}
use Rattle.published.proofs.Idle.{standing, idle_standing, idle_ended, comes_by, goes_on, stops_at, whole_same, starts, nothing_bound}

module _ (c : Contract) (b : Bounded c) (s : State) where
  handler_bounded : (k : ℕ) → BoundedEvent c (event_at c s k)
  unfolding event_of
  handler_bounded k = let p = pending_at s k in (b.functions p.function).events p.event

  handler_fit : (k : ℕ) → Fit (event_at c s k).handler
  unfolding scope_of
  handler_fit k =
      record {
        scope = scope_of c 0 0;
        limited = record { parties = b.parties_few; assets = b.assets_few; parameters = omega arith };
        inside = (handler_bounded k).handler_in;
        few = omega (arith, (handler_bounded k).handler_few);
      }

  pub handler_counts : (k : ℕ) → (handler_ran c s k).refusal ≡ None → (handler_ran c s k).count ≡ length (labels_of (handler_ran c s k))
  handler_counts k z = body_counts (place_groups c (pending_at s k).function) s [] [] (event_at c s k).handler (handler_fit k) z

  -- a handler names no parameter
  handler_spends : (k : ℕ) → every (λ a. eqb a 0) (drop max_assets (handler_ran c s k).holdings) ≡ true
  unfolding scope_of
  handler_spends k =
      let z : Parameters (drop max_assets (begun s []).holdings) (handler_ran c s k) =
      ran_same (scope_of c 0 0) b.assets_few refl (place_groups c (pending_at s k).function) [] s.clock (event_at c s k).handler (handler_bounded k).handler_in (record { amounts = refl }) in
      ap (every (λ a. eqb a 0)) z.amounts ∙ nothing_bound s

  idle_fired : (k : ℕ) → s.agreed ≡ true
      → idle (ended s (handler_ran c s k) (event_at c s k).last (live (removed s k)))
      ≡ runtime (in_state (event_at c s k).last) (unbound (memory_in [] s.clock (handler_ran c s k))) nothing (without k (live s) ++ [])
  idle_fired k a =
      idle_ended s (handler_ran c s k) (event_at c s k).last (live (removed s k)) [] a
      ∙ ap (runtime (in_state (event_at c s k).last) (unbound (memory_in [] s.clock (handler_ran c s k))) nothing)
      (live_removed s k ∙ sym (append-nil (without k (live s))))

  idle_removed : (k : ℕ) → s.agreed ≡ true → idle (removed s k) ≡ runtime (in_state s.state) (memory_at s) nothing (without k (live s))
  unfolding with_pending removed
  idle_removed k a = λ i. runtime (phase_of (a i) s.state) (memory_at s) nothing (live_removed s k i)

  -- ---- from the machine to the rules

  module _ (few : length (live s) ≤ max_pending) where
    fired_derives : {r : Stepped Question} {ls : List Label} {C : Configuration} → ComesOut c s steps.firing r → Comes r (Accepted EventMatch) ls C → Whole c (idle s) match ls C
    fired_derives (refusal n) o = let z : ◌≡◌ {A = ℕ} 0 1 = cc o.outcome_is in absurd (omega arith)
    fired_derives (fails k x a d h) o = let z : ◌≡◌ {A = ℕ} 0 1 = cc o.outcome_is in absurd (omega arith)
    fired_derives {ls = ls} {C = C} (fires k a d h) o =
        whole_same (sym (idle_standing s a)) o.labels_are (sym (idle_fired k a) ∙ o.leads_to)
        (whole (event_match (first_ready c s k d)) (body_runs (place_groups c (pending_at s k).function) s [] [] (event_at c s k).handler (handler_fit k) h)
        (state_change (handler_spends k) no_event (omega (arith, without_length k (live s)))))

    pub firing_derives : {ls : List Label} {C : Configuration} → Comes (fired c s) (Accepted EventMatch) ls C → Whole c (idle s) match ls C
    firing_derives o = fired_derives (firing_came c s) o

  failed_derives : {r : Stepped Question} {n : Question} {ls : List Label} {C : Configuration} → ComesOut c s steps.firing r → Comes r (Failed n) ls C → Table2 c (idle s) (failure n) C
  failed_derives (refusal n) o = let z : ◌≡◌ {A = ℕ} 0 1 = cc o.outcome_is in absurd (omega arith)
  failed_derives (fires k a d h) o = let z : ◌≡◌ {A = ℕ} 0 1 = cc o.outcome_is in absurd (omega arith)
  failed_derives {n = n} {C = C} (fails k x a d h) o =
      let e : x ≡ n = cc o.outcome_is in
      subst (λ (x : Configuration). Table2 c x (failure n) C) (sym (idle_standing s a))
      (subst (Table2 c (standing s) (failure n)) (sym (idle_removed k a) ∙ o.leads_to)
      (subst (λ (x : Question). Table2 c (standing s) (failure x) (runtime (in_state s.state) (memory_at s) nothing (without k (live s)))) e
      (go (body_sticks (place_groups c (pending_at s k).function) s [] [] (event_at c s k).handler (handler_fit k) x h))))
    where
      go : {x : Question} → Sticks (bound (memory_at s) [] []) (in_order (event_at c s k).handler) x
          → Table2 c (standing s) (failure x) (runtime (in_state s.state) (memory_at s) nothing (without k (live s)))
      go (at r x) = event_failed (first_ready c s k d) r (meets_stuck x _) x

  pub failure_derives : {n : Question} {ls : List Label} {C : Configuration} → Comes (fired c s) (Failed n) ls C → Table2 c (idle s) (failure n) C
  failure_derives o = failed_derives (firing_came c s) o

  -- ---- from the rules to the machine

  -- an event that is fired, its handler to its end, and the change of state
  changed_comes : {k : ℕ} {p : Pending} {m : Memory} {ls : List Label} {C : Configuration} → s.agreed ≡ true → First (Foremost c s.state s.clock (live s)) k p (live s)
      → Statements (bound (memory_at s) [] []) (in_order (event_of c p).handler) ls m []
      → Table2 c (runtime (in_state s.state) m (left [] 0 [] (event_of c p).last) (without k (live s))) change C
      → Comes (fired c s) (Accepted EventMatch) ls C
  unfolding fired handled
  changed_comes {k} {p} {m} {ls} a f r (state_change h no_event l) =
      let e : pending_at s k ≡ p = first_at blank f in
      let t = run_is (place_groups c (pending_at s k).function) s [] [] (event_at c s k).handler (handler_fit k)
      (subst (λ (x : Pending). Statements (bound (memory_at s) [] []) (in_order (event_of c x).handler) ls m []) (sym e) r) in
      comes_by (pick_true _ _ _ a ∙ ap (fire_by_due c s) (ready_first c s f) ∙ goes_on _ _ t.0)
      (record {
        outcome_is = refl;
        count_is = handler_counts k t.0 ∙ ap length t.1;
        labels_are = t.1;
        leads_to = idle_fired k a ∙ (λ i. runtime (in_state (event_of c (e i)).last) (unbound (t.2 i)) nothing (without k (live s) ++ []));
      })

  match_comes : {ls : List Label} {C : Configuration} (x : Bool) → s.agreed ≡ x → Whole c (runtime (phase_of x s.state) (memory_at s) nothing (live s)) match ls C
      → Comes (fired c s) (Accepted EventMatch) ls C
  match_comes true a (whole (event_match f) r u) = changed_comes a f r u
  match_comes false a (whole t r u) = absurd (starts t)

  pub firing_comes : {ls : List Label} {C : Configuration} → Whole c (idle s) match ls C → Comes (fired c s) (Accepted EventMatch) ls C
  firing_comes t = match_comes s.agreed refl t

  fail_comes : {n : Question} {C : Configuration} (x : Bool) → s.agreed ≡ x → Table2 c (runtime (phase_of x s.state) (memory_at s) nothing (live s)) (failure n) C
      → Comes (fired c s) (Failed n) [] C
  unfolding fired handled
  fail_comes false a t = absurd (starts t)
  fail_comes {n} true a (event_failed {k = k} {p = p} f r x y) =
      let e : pending_at s k ≡ p = first_at blank f in
      let g : Sticks (bound (memory_at s) [] []) (in_order (event_at c s k).handler) n =
      subst (λ (z : Pending). Sticks (bound (memory_at s) [] []) (in_order (event_of c z).handler) n) (sym e) (at r y) in
      let j : (handler_ran c s k).refusal ≡ Some n = stick_is (place_groups c (pending_at s k).function) s [] [] (event_at c s k).handler (handler_fit k) g in
      comes_by (pick_true _ _ _ a ∙ ap (fire_by_due c s) (ready_first c s f) ∙ stops_at _ _ j)
      (record { outcome_is = refl; count_is = refl; labels_are = refl; leads_to = idle_removed k a })

  pub failure_comes : {n : Question} {C : Configuration} → Table2 c (idle s) (failure n) C → Comes (fired c s) (Failed n) [] C
  failure_comes t = fail_comes s.agreed refl t

  -- ---- the question of a failed firing is one of questions 30 to 36

  failed_stops : {r : Stepped Question} {n : Question} {ls : List Label} {C : Configuration} → ComesOut c s steps.firing r → Comes r (Failed n) ls C → Stops n
  failed_stops (refusal n) o = let z : ◌≡◌ {A = ℕ} 0 1 = cc o.outcome_is in absurd (omega arith)
  failed_stops (fires k a d h) o = let z : ◌≡◌ {A = ℕ} 0 1 = cc o.outcome_is in absurd (omega arith)
  failed_stops {n = n} (fails k x a d h) o =
      let e : x ≡ n = cc o.outcome_is in
      subst Stops e (body_stops (place_groups c (pending_at s k).function) s [] [] (event_at c s k).handler (handler_fit k) x h)

  pub failure_stops : {n : Question} {C : Configuration} → Table2 c (idle s) (failure n) C → Stops n
  failure_stops t = failed_stops (firing_came c s) (failure_comes t)
