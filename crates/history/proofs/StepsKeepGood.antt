-- Steps with 64-bit arguments, on a contract that a table can hold, lead from good states to good ones. Assumes nothing.
use mathlib.Core.Path.{◌≡◌, refl, sym, ap, subst, ◌∙◌}
use mathlib.Core.Bool.{true, false, not}
use mathlib.Core.List.{List, [], ◌∷◌, ◌++◌}
use Prim.Native.Nat.{ℕ, zero, suc, ◌+◌, ◌-◌, ◌<◌, ◌≤◌}
use native.Mathlib.Omega.{arith}
use native.Mathlib.Nat.{zero-add}
use lib.ListN.{length, get_or, length-append}
use lib.Dec.{eqb}
use lib.IntN.{nat_abs}
use borrow.Author.Tests.{lt-ltb}
use Rattle.laws.proofs.Choice.{by_cases, pick_true, pick_false}
use Rattle.numbers.specs.Numbers.{within}
use Rattle.contract.specs.Limits.{top}
use Rattle.contract.specs.Tree.{Event, Function, Contract}
use Rattle.contract.specs.Decode.{contract_of}
use Rattle.contract.specs.Check.{passes}
use Rattle.laws.proofs.Members.{every_at, every_head, every_tail, keep_length}
use Rattle.laws.proofs.Truths.{both_left, both_right}
use Rattle.laws.specs.Lists.{every, keep}
use Rattle.contract.specs.Fits.{block_in, scope_of, scope_in, event_in, function_in}
use Rattle.contract.proofs.Fitting.{FitsFunction, FitsContract, fits_event, fits_function, fits_contract}
use Rattle.contract_laws.proofs.Sound.{sound}
use Rattle.state.specs.declared.State.{State}
use Rattle.state.specs.declared.Pending.{Pending}
use Rattle.state.specs.States.{max_pending, blank, fresh_at, no_function, no_event, used, event_of, live, state_ok, pending_ok, with_pending, lapsed, removed, opened, later, time_passed, passed_times, times_until_due}
use Rattle.state.proofs.Each.{Each, each_append, each_take, each_drop, without_length}
use Rattle.state.proofs.Kept.{without}
use Rattle.state.proofs.Passing.{first_stop}
use Rattle.state.proofs.Within.{live_ok, lapsed_later, live_lapsed, live_removed}
use Rattle.statements.specs.Running.{memory_in}
use Rattle.questions.specs.declared.Question.{Question}
use Rattle.outcomes.specs.declared.Stepped.{Stepped}
use Rattle.holdings.specs.Holdings.{amounts}
use Rattle.machine.specs.Steps.{Invocation, ended, step, Request, requested}
use Rattle.agreements.specs.Agreement.{Part, set_clauses}
use Rattle.history.specs.Histories.{Step, answer_to, history, within64}
use Rattle.history.proofs.Cases.{body_ran, event_at, handler_ran, CallOk, ComesOut, refusal, agrees, calls, fires, fails, ticks, jumps, request_came}
use Rattle.history.proofs.ContractBounds.{anywhere}
use Rattle.history.proofs.ValuesInRange.{Fields}
use Rattle.history.proofs.Ranges.{Right, memory_in_lem, ran_right}
use Rattle.history.proofs.GoodState.{Assets, Good, good_within, good_ok, fresh_good, live_length, agreed_name, with_events}
use Rattle.history.proofs.GoodWork.{values_in, amounts_most, begun_right, ended_good}
use Rattle.history.proofs.Scheduling.{time_in, ScheduledIn, schedule_in}
use Rattle.history.proofs.Agreeing.{Filled, filled_so, set_clauses_filled, no_texts, more_fields, more_assets}

-- ---- each step

-- the handler of a pending event, and the state that it leads to
record EventRight (c : Contract) (e : Event) : Type 0 where
  handler : block_in (scope_of c 0 0) e.handler ≡ true
  last : e.last < length c.states

module _ (c : Contract) (t : FitsContract c) where
  no_event_lem : EventRight c no_event
  unfolding block_in
  no_event_lem = record { handler = refl; last = omega (arith, t.initial) }

  function_events : (f : Function) → function_in c f ≡ true → (j : ℕ) → EventRight c (get_or f.events j no_event)
  function_events f h =
      anywhere (EventRight c) no_event f.events no_event_lem λ j l.
      let e = fits_event c f (get_or f.events j no_event) (every_at (event_in c f) f.events (fits_function c f h).events j l no_event) in
      record { handler = e.handler; last = e.last }

  event_right : (p : Pending) → EventRight c (event_of c p)
  unfolding event_of
  event_right p =
      anywhere (λ (f : Function). (j : ℕ) → EventRight c (get_or f.events j no_event)) no_function c.functions (λ _. no_event_lem)
      (λ i l. function_events (get_or c.functions i no_function) (every_at (function_in c) c.functions t.functions i l no_function)) p.function p.event

  module _ {s : State} (g : Good c s) where
    agreement_good : (ps : List Part) → s.agreed ≡ false → every (λ p. every within p.values) ps ≡ true → Good c (opened (set_clauses s c.clauses ps) c.initial)
    agreement_good ps a e =
        let n = length c.fields in
        let unused : (m : ℕ) → used s m ≡ 0 = λ m. pick_false s.agreed m 0 a in
        let o : Fields (length c.strings) 0 s.kinds s.numbers s.texts =
        subst (λ (u : ℕ). Fields (length c.strings) u s.kinds s.numbers s.texts) (unused n) g.fields in
        let b : Assets 0 s.assets = subst (λ (u : ℕ). Assets u s.assets) (unused (length c.assets)) g.assets in
        opened_good b
        (set_clauses_filled (length c.strings) n t.fields_few s (no_texts o) c refl c.clauses ps t.clauses e
        (filled_so s.kinds s.numbers (more_fields o n)))
      where
        opened_good : {q : State} → Assets 0 s.assets → Filled (length c.strings) (length c.fields) s q → Good c (opened q c.initial)
        opened_good b (filled_so ks ns o) =
            record {
              clock = g.clock;
              name = pick_true _ _ _ refl ∙ lt-ltb c.initial (length c.states) t.initial;
              fields = subst (λ (u : ℕ). Fields (length c.strings) u ks ns s.texts) (sym (pick_true true (length c.fields) 0 refl)) o;
              assets = subst (λ (u : ℕ). Assets u s.assets) (sym (pick_true true (length c.assets) 0 refl)) (more_assets b (length c.assets));
              events = g.events;
            }

    module _ (a : s.agreed ≡ true) where
      -- the events that stay where one is taken out
      others_in : (k : ℕ) → Each (λ p. pending_ok c s.clock p ≡ true) (without k (live s))
      others_in k = let l = live_ok c s (good_within g) in each_append (each_take k l) (each_drop (suc k) l)

      others_few : (k : ℕ) → length (without k (live s)) ≤ max_pending
      others_few k = omega (arith, without_length k (live s), live_length g, g.events.few)

      call_good : (i : Invocation) (n : ℕ) (f : Function) (ps : List Pending) → CallOk c s i n f ps → every within i.values ≡ true → every within i.assets ≡ true
          → Good c (ended s (body_ran c s i n f) f.last (live s ++ ps))
      unfolding scope_of
      call_good i n f ps o v d =
          let q : FitsFunction c f =
          subst (FitsFunction c) o.function_is (fits_function c (get_or c.functions n no_function) (every_at (function_in c) c.functions t.functions n o.known no_function)) in
          let b = scope_in c f in
          let r : Right b (body_ran c s i n f) =
          ran_right b t.fields_few i.values (values_in i.values v) s.clock _ f.body q.body
          (begun_right g a (length f.values) (length f.parameters) (amounts i.assets) (amounts_most i.assets d o.deposits)) in
          let es : Each (λ p. pending_ok c s.clock p ≡ true) ps =
          subst (ScheduledIn c s.clock) o.given
          (schedule_in c f n s.clock (memory_in i.values s.clock (body_ran c s i n f)) (memory_in_lem b t.fields_few i.values (values_in i.values v) s.clock r) o.known
          0 f.events (zero-add (length f.events) ∙ ap (λ (h : Function). length h.events) (sym o.function_is)) q.events) in
          ended_good g a (length f.values) (length f.parameters) (body_ran c s i n f) r t.assets_few f.last q.last (live s ++ ps)
          (omega (arith, length-append (live s) ps, o.room)) (each_append (live_ok c s (good_within g)) es)

      firing_good : (k : ℕ) → Good c (ended s (handler_ran c s k) (event_at c s k).last (live (removed s k)))
      unfolding scope_of
      firing_good k =
          let e : EventRight c (event_at c s k) = event_right (get_or (live s) k blank) in
          subst (λ ps. Good c (ended s (handler_ran c s k) (event_at c s k).last ps)) (sym (live_removed s k))
          (ended_good g a 0 0 (handler_ran c s k)
          (ran_right (scope_of c 0 0) t.fields_few [] (λ _. refl) s.clock _ (event_at c s k).handler e.handler (begun_right g a 0 0 [] (λ _. omega arith)))
          t.assets_few (event_at c s k).last e.last (without k (live s)) (others_few k) (others_in k))

      removed_good : (k : ℕ) → Good c (removed s k)
      unfolding removed with_pending
      removed_good k =
          record {
            clock = g.clock;
            name = pick_true _ _ _ a ∙ lt-ltb s.state (length c.states) (agreed_name g a);
            fields = g.fields;
            assets = g.assets;
            events = with_events c s (without k (live s)) (others_few k) (others_in k);
          }

      tick_good : s.clock < top → Good c (time_passed s)
      unfolding lapsed with_pending
      tick_good h =
          let ps = keep (λ p. not (eqb p.time s.clock)) (live s) in
          record {
            clock = h;
            name = pick_true _ _ _ a ∙ lt-ltb s.state (length c.states) (agreed_name g a);
            fields = g.fields;
            assets = g.assets;
            events =
                with_events c (later s) ps (omega (arith, keep_length (λ p. not (eqb p.time s.clock)) (live s), live_length g, g.events.few))
                (subst (Each (λ p. pending_ok c (suc s.clock) p ≡ true)) (live_lapsed s) (lapsed_later c s (good_ok g)));
          }

  passed_good : (n : ℕ) {s : State} → Good c s → s.agreed ≡ true → s.clock + n ≤ top → Good c (passed_times n s)
  unfolding passed_times lapsed with_pending
  passed_good zero g a h = g
  passed_good (suc n) g a h = passed_good n (tick_good g a (omega arith)) a (omega arith)

  module _ {s : State} (g : Good c s) where
    came_good : {q : Request} {r : Stepped Question} → within64 q ≡ true → ComesOut c s q r → Good c r.state
    unfolding within64
    came_good e (refusal n) = g
    came_good e (agrees ps a) = agreement_good g ps a e
    came_good e (calls i n f ps o) =
        call_good g o.agreed i n f ps o (both_left (every within i.values) (every within i.assets) e) (both_right (every within i.values) (every within i.assets) e)
    came_good e (fires k a d h) = firing_good g a k
    came_good e (fails k n a d h) = removed_good g a k
    came_good e (ticks a d l) = tick_good g a l
    came_good e (jumps T a d l) =
        let r = time_in s.clock T e l in
        let m = nat_abs T - s.clock in
        passed_good (times_until_due c m s) g a (omega (arith, r.from, r.most, (first_stop c m s).no_further))

  pub request_good : {s : State} → Good c s → (q : Request) → within64 q ≡ true → Good c (requested s q c).state
  request_good {s} g q e = came_good g e (request_came c s q)

-- ---- lists of steps

module _ (w : List ℕ) (p : passes w ≡ true) where
  pub step_good : {s : State} → Good (contract_of w) s → (a : Step) → within64 a.request ≡ true → Good (contract_of w) (answer_to w s a).state
  unfolding answer_to step
  step_good {s} g a e =
      let P : Stepped Question → Type 0 = λ r. Good (contract_of w) r.state in
      let t = fits_contract (contract_of w) (sound w p) in
      by_cases P _ _ _ (λ _. by_cases P _ _ _ (λ _. by_cases P _ _ _ (λ _. request_good (contract_of w) t g a.request e) (λ _. g)) (λ _. g)) (λ _. g)

  pub last_good : {s : State} → Good (contract_of w) s → (xs : List Step) → every (λ a. within64 a.request) xs ≡ true → Good (contract_of w) (history w s xs).state
  unfolding history
  last_good g [] e = g
  last_good {s = s} g (a ∷ xs) e = last_good {s = (answer_to w s a).state} (step_good g a (every_head (λ a. within64 a.request) a xs e)) xs (every_tail (λ a. within64 a.request) a xs e)

  -- from the fresh state on, no state fails question 4
  pub last_ok : (clock : ℕ) → clock ≤ top → (xs : List Step) → every (λ a. within64 a.request) xs ≡ true → state_ok (contract_of w) (history w (fresh_at clock) xs).state ≡ true
  last_ok clock h xs e = good_ok (last_good (fresh_good (contract_of w) clock h) xs e)
