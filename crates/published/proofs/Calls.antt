-- A call is accepted exactly if FUNCTION, the body's statements and STATE CHANGE lead to an idle state. Assumes nothing.
use mathlib.Core.Path.{◌≡◌, refl, sym, ap, subst, ◌∙◌}
use mathlib.Core.Bool.{Bool, true, false}
use mathlib.Core.List.{List, [], ◌∷◌, ◌++◌}
use Prim.Native.Nat.{ℕ, suc, ◌+◌, ◌≤◌}
use native.Mathlib.Omega.{arith}
use lib.ListN.{length, drop}
use lib.Dec.{eqb}
use lib.IntN.{ℤ, pos, negsuc}
use lib.Signed.{le_z}
use borrow.Author.Tests.{eqb-true, eq-eqb, leb-true, le-leb}
use Rattle.laws.proofs.Choice.{by_cases, pick_true, true_false}
use Rattle.questions.specs.declared.Question.{Question}
use Rattle.questions.specs.declared.Question.TheVariants as ask
use Rattle.numbers.specs.Numbers.{Truth}
use Rattle.contract.specs.Limits.{max_assets}
use Rattle.contract.specs.Tree.{Function, Contract}
use Rattle.contract.specs.Fits.{scope_of, scope_in, function_in}
use Rattle.laws.proofs.Members.{every_head, every_tail}
use Rattle.laws.proofs.Truths.{both_left, both_right, both_true}
use Rattle.laws.specs.Lists.{every}
use Rattle.contract.proofs.Fitting.{FitsContract, fits_function}
use Rattle.evaluation.specs.Memory.{Memory}
use Rattle.state.specs.declared.State.{State}
use Rattle.state.specs.declared.Pending.{Pending}
use Rattle.std.specs.Prelude.{Option, Some, None, Ok, Err}
use Rattle.state.specs.States.{max_pending, live, due_in}
use Rattle.statements.specs.declared.Label.{Label}
use Rattle.statements.specs.Running.{memory_in}
use Rattle.outcomes.specs.declared.Rule.TheVariants.{Call}
use Rattle.outcomes.specs.declared.Outcome.TheVariants.{Accepted}
use Rattle.outcomes.specs.declared.Stepped.{Stepped}
use Rattle.outcomes.specs.Outcomes.{refused}
use Rattle.holdings.specs.Holdings.{amounts}
use Rattle.machine.specs.Steps.{accepted, begun, ended, Invocation, Chosen, chosen, unknown, choose, precondition_holds, place_groups, Scheduled, times, no, schedule, with_scheduled, finished, by_precondition, invoked, by_chosen, call_by_due, called}
use Rattle.machine.proofs.Refusals.{by_refusal}
use Rattle.history.proofs.Cases.{body_ran}
use Rattle.published.specs.Published.{here, there, Configuration, runtime, in_state, nothing, in_order, bound, unbound, Statements, First, Called, Times, integers, call, function, state_change, Whole, whole, phase_of, memory_at, idle, Comes}
use Rattle.published.proofs.Actions.{labels_of}
use Rattle.published.proofs.Bodies.{Fit, body_runs, body_counts, run_is}
use Rattle.published.proofs.Finding.{none_ready, ready_none, first_called, called_first}
use Rattle.published.proofs.Guards.{schedule_times, times_schedule}
use Rattle.published.proofs.Idle.{idle_standing, idle_ended, comes_by, goes_on, whole_same, starts}

-- ---- asset arguments of 0 or more are amounts

integers_amounts : (zs : List ℤ) → every (le_z (pos 0)) zs ≡ true → zs ≡ integers (amounts zs)
unfolding amounts integers
integers_amounts [] e = refl
integers_amounts (pos n ∷ zs) e = ap (λ (l : List ℤ). pos n ∷ l) (integers_amounts zs (every_tail (le_z (pos 0)) (pos n) zs e))
integers_amounts (negsuc n ∷ zs) e = true_false (sym (every_head (le_z (pos 0)) (negsuc n) zs e))

amounts_integers : (ns : List ℕ) → amounts (integers ns) ≡ ns
unfolding amounts integers
amounts_integers [] = refl
amounts_integers (n ∷ ns) = ap (λ (l : List ℕ). n ∷ l) (amounts_integers ns)

integers_positive : (ns : List ℕ) → every (le_z (pos 0)) (integers ns) ≡ true
unfolding integers every
integers_positive [] = refl
integers_positive (n ∷ ns) = both_true _ _ (le-leb 0 n (omega arith)) (integers_positive ns)

length_amounts : (zs : List ℤ) → length (amounts zs) ≡ length zs
unfolding amounts
length_amounts [] = refl
length_amounts (z ∷ zs) = ap suc (length_amounts zs)

length_integers : (ns : List ℕ) → length (integers ns) ≡ length ns
unfolding integers
length_integers [] = refl
length_integers (n ∷ ns) = ap suc (length_integers ns)

-- what holds of each, holds of the first
first_every : {A : Type 0} {P : A → Type 0} {n : ℕ} {x : A} {xs : List A} (p : A → Bool) → First P n x xs → every p xs ≡ true → p x ≡ true
first_every p (here {x = x} {xs = xs} r) e = every_head p x xs e
first_every p (there {y = y} {xs = xs} ne r) e = first_every p r (every_tail p y xs e)

module _ (c : Contract) (fit : FitsContract c) (s : State) (i : Invocation) where
  body_fit : {n : ℕ} {f : Function} → First (Called c s.state i) n f c.functions → Fit f.body
  unfolding scope_of
  body_fit {f = f} h =
      let g = fits_function c f (first_every (function_in c) h fit.functions) in
      record {
        scope = scope_in c f;
        limited = record { parties = fit.parties_few; assets = fit.assets_few; parameters = g.parameters_few };
        inside = g.body;
        few = omega (arith, g.body_few);
      }

  pub call_counts : (n : ℕ) (f : Function) → choose c s i 0 c.functions ≡ chosen n f → (body_ran c s i n f).refusal ≡ None → (body_ran c s i n f).count ≡ length (labels_of (body_ran c s i n f))
  call_counts n f e z = body_counts (place_groups c n) s i.values (amounts i.assets) f.body (body_fit (first_called c s i 0 n f c.functions e).2) z

  -- ---- from the machine to the rules

  abbrev Derives : Stepped Question → Type 0
  Derives r = (ls : List Label) (C : Configuration) → Comes r (Accepted Call) ls C → Whole c (idle s) (call i) ls C

  refused_derives : (n : Question) → Derives (refused s n)
  refused_derives n ls C o = let z : ◌≡◌ {A = ℕ} 0 1 = cc o.outcome_is in absurd (omega arith)

  module _ (a : s.agreed ≡ true) (d : due_in c s ≡ None) {n : ℕ} {f : Function} (h : First (Called c s.state i) n f c.functions) where
    module _ (v : length i.values ≡ length f.values) (l : length i.assets ≡ length f.parameters) (p : every (le_z (pos 0)) i.assets ≡ true) where
      module _ (q : precondition_holds (bound (memory_at s) i.values (amounts i.assets)) f.precondition ≡ Ok true) where
        scheduled_derives : (body_ran c s i n f).refusal ≡ None → every (λ a. eqb a 0) (drop max_assets (body_ran c s i n f).holdings) ≡ true → (z : Scheduled)
            → schedule (memory_in i.values s.clock (body_ran c s i n f)) s.clock n 0 f.events ≡ z
            → Derives (with_scheduled s (body_ran c s i n f) f.last z)
        scheduled_derives w e (no k) t = refused_derives k
        scheduled_derives w e (times ps) t =
            by_cases Derives _ _ _
            (λ r ls C o.
            whole_same (sym (idle_standing s a)) o.labels_are (sym (idle_ended s (body_ran c s i n f) f.last (live s ++ ps) i.values a) ∙ o.leads_to)
            (whole
            (function (amounts i.assets) h (none_ready c s d) v (length_amounts i.assets ∙ l) (integers_amounts i.assets p) q)
            (body_runs (place_groups c n) s i.values (amounts i.assets) f.body (body_fit h) w)
            (state_change e (schedule_times (memory_in i.values s.clock (body_ran c s i n f)) n 0 f.events ps t) (leb-true (length (live s) + length ps) max_pending r))))
            (λ _. refused_derives ask.PendingRoom)

        finished_derives : Derives (finished s n f i.values (body_ran c s i n f))
        unfolding finished
        finished_derives =
            by_refusal Derives (body_ran c s i n f).refusal (refused s) _
            (λ w. by_cases Derives (every (λ a. eqb a 0) (drop max_assets (body_ran c s i n f).holdings)) _ _ (λ e. scheduled_derives w e _ refl) (λ _. refused_derives ask.ParametersEmpty))
            (λ q _. refused_derives q)

      precondition_derives : (t : Truth) → precondition_holds (bound (memory_at s) i.values (amounts i.assets)) f.precondition ≡ t
          → Derives (by_precondition (place_groups c n) s n f i.values (begun s (amounts i.assets)) t)
      precondition_derives (Err k) q = refused_derives k
      precondition_derives (Ok false) q = refused_derives ask.Precondition
      precondition_derives (Ok true) q = finished_derives q

    invoked_derives : Derives (invoked (place_groups c n) s i n f)
    unfolding invoked
    invoked_derives =
        by_cases Derives _ _ _
        (λ v. by_cases Derives _ _ _
        (λ p. precondition_derives
        (eqb-true _ _ (both_left (eqb (length i.values) (length f.values)) (eqb (length i.assets) (length f.parameters)) v))
        (eqb-true _ _ (both_right (eqb (length i.values) (length f.values)) (eqb (length i.assets) (length f.parameters)) v))
        p (precondition_holds (memory_in i.values s.clock (begun s (amounts i.assets))) f.precondition) refl)
        (λ _. refused_derives ask.AssetArguments))
        (λ _. refused_derives ask.ArgumentCount)

  chosen_derives : s.agreed ≡ true → due_in c s ≡ None → (z : Chosen) → choose c s i 0 c.functions ≡ z → Derives (by_chosen c s i z)
  chosen_derives a d unknown e = refused_derives ask.FunctionKnown
  chosen_derives a d (chosen n f) e =
      let h = first_called c s i 0 n f c.functions e in
      let k : h.0 ≡ n = omega (arith, h.1) in
      invoked_derives a d (subst (λ (j : ℕ). First (Called c s.state i) j f c.functions) k h.2)

  due_derives : s.agreed ≡ true → (d : Option ℕ) → due_in c s ≡ d → Derives (call_by_due c s i d)
  due_derives a (Some k) d = refused_derives ask.NothingDue
  due_derives a None d = chosen_derives a d (choose c s i 0 c.functions) refl

  called_derives : Derives (called c s i)
  unfolding called
  called_derives = by_cases Derives _ _ _ (λ a. due_derives a (due_in c s) refl) (λ _. refused_derives ask.Agreed)

  pub call_derives : {ls : List Label} {C : Configuration} → Comes (called c s i) (Accepted Call) ls C → Whole c (idle s) (call i) ls C
  call_derives {ls} {C} o = called_derives ls C o

  -- ---- from the rules to the machine

  module _ {n : ℕ} (f : Function) {ps : List Pending}
      (v : length i.values ≡ length f.values) (l : length i.assets ≡ length f.parameters) (p : every (le_z (pos 0)) i.assets ≡ true)
      (q : precondition_holds (bound (memory_at s) i.values (amounts i.assets)) f.precondition ≡ Ok true)
      (w : (body_ran c s i n f).refusal ≡ None) (e : every (λ a. eqb a 0) (drop max_assets (body_ran c s i n f).holdings) ≡ true)
      (t : Times (memory_in i.values s.clock (body_ran c s i n f)) n 0 f.events ps) (r : length (live s) + length ps ≤ max_pending) where
    finished_is : finished s n f i.values (body_ran c s i n f) ≡ accepted Call (ended s (body_ran c s i n f) f.last (live s ++ ps)) (body_ran c s i n f)
    unfolding finished
    finished_is =
        goes_on _ _ w
        ∙ pick_true _ _ _ e
        ∙ ap (with_scheduled s (body_ran c s i n f) f.last) (times_schedule (memory_in i.values s.clock (body_ran c s i n f)) n 0 t)
        ∙ pick_true _ _ _ (le-leb (length (live s) + length ps) max_pending r)

    invoked_is : invoked (place_groups c n) s i n f ≡ accepted Call (ended s (body_ran c s i n f) f.last (live s ++ ps)) (body_ran c s i n f)
    unfolding invoked
    invoked_is =
        pick_true _ _ _ (both_true _ _ (eq-eqb (length i.values) (length f.values) v) (eq-eqb (length i.assets) (length f.parameters) l))
        ∙ pick_true _ _ _ p
        ∙ ap (by_precondition (place_groups c n) s n f i.values (begun s (amounts i.assets))) q
        ∙ finished_is

  derived_comes : {ls : List Label} {C : Configuration} (x : Bool) → s.agreed ≡ x → Whole c (runtime (phase_of x s.state) (memory_at s) nothing (live s)) (call i) ls C
      → Comes (called c s i) (Accepted Call) ls C
  unfolding called
  derived_comes false a (whole t r u) = absurd (starts t)
  derived_comes true a (whole {ls = ls} (function {n = n} {f = f} vs h d v l e q) r (state_change {m = m} {Ψ' = ps} z t k)) =
      let same : amounts i.assets ≡ vs = ap amounts e ∙ amounts_integers vs in
      let run = run_is (place_groups c n) s i.values (amounts i.assets) f.body (body_fit h)
      (subst (λ (y : List ℕ). Statements (bound (memory_at s) i.values y) (in_order f.body) ls m []) (sym same) r) in
      comes_by
      (pick_true _ _ _ a
      ∙ ap (call_by_due c s i) (ready_none c s d)
      ∙ ap (by_chosen c s i) (called_first c s i 0 h ∙ ap (λ (j : ℕ). chosen j f) (omega arith))
      ∙ invoked_is f v (ap length e ∙ length_integers vs ∙ l) (ap (every (le_z (pos 0))) e ∙ integers_positive vs)
      (subst (λ (y : List ℕ). precondition_holds (bound (memory_at s) i.values y) f.precondition ≡ Ok true) (sym same) q)
      run.0
      (subst (λ (y : Memory). every (λ a. eqb a 0) (drop max_assets y.holdings) ≡ true) (sym run.2) z)
      (subst (λ (y : Memory). Times y n 0 f.events ps) (sym run.2) t)
      k)
      (record {
        outcome_is = refl;
        count_is = body_counts (place_groups c n) s i.values (amounts i.assets) f.body (body_fit h) run.0 ∙ ap length run.1;
        labels_are = run.1;
        leads_to = idle_ended s (body_ran c s i n f) f.last (live s ++ ps) i.values a ∙ (λ j. runtime (in_state f.last) (unbound (run.2 j)) nothing (live s ++ ps));
      })

  pub call_comes : {ls : List Label} {C : Configuration} → Whole c (idle s) (call i) ls C → Comes (called c s i) (Accepted Call) ls C
  call_comes t = derived_comes s.agreed refl t
