-- A jump is so many accepted ticks; and a firing wherever an event is due, else a jump to T, reaches T. Assumes nothing.
use mathlib.Core.Path.{◌≡◌, refl, sym, ap, subst, ◌∙◌}
use mathlib.Core.Bool.{true, false}
use mathlib.Core.List.{List, [], ◌∷◌}
use Prim.Native.Nat.{ℕ, zero, suc, ◌+◌, ◌-◌, ◌*◌, ◌<◌, ◌≤◌}
use native.Mathlib.Omega.{arith}
use lib.ListN.{length}
use lib.IntN.{ℤ, pos, nat_abs}
use lib.Signed.{le_z}
use borrow.Author.Tests.{le-leb, leb-true}
use Rattle.laws.specs.Choice.{pick}
use Rattle.laws.proofs.Choice.{pick_true, pick_false}
use Rattle.laws.proofs.Members.{every_head, every_tail}
use Rattle.numbers.specs.Numbers.{within}
use Rattle.contract.specs.Limits.{top}
use Rattle.contract.specs.Tree.{Contract}
use Rattle.contract.specs.Decode.{contract_of}
use Rattle.contract.specs.Check.{passes}
use Rattle.contract.proofs.Fitting.{FitsContract, fits_contract}
use Rattle.contract_laws.proofs.Sound.{sound}
use Rattle.state.specs.declared.State.{State}
use Rattle.std.specs.Prelude.{Some, None}
use Rattle.state.specs.States.{state_ok, due_in, with_pending, lapsed, time_passed, passed_times, times_until_due, FirstStop}
use Rattle.state.proofs.Passing.{passed_clock, passed_agreed, passed_fewer, passed_ok, first_stop}
use Rattle.statements.specs.declared.Label.{Label}
use Rattle.outcomes.specs.declared.Rule.TheVariants.{Tick}
use Rattle.outcomes.specs.declared.Outcome.TheVariants.{Accepted}
use Rattle.questions.specs.declared.Question.{Question}
use Rattle.outcomes.specs.declared.Stepped.{Stepped}
use Rattle.outcomes.specs.Outcomes.{answered}
use Rattle.machine.specs.Steps.{fired, jump_by_due, jumped, Request, firing, tick, jump, requested, room_needed}
use Rattle.history.specs.Histories.{Step, answer_to, history, is_refused, ticks, AllTicks, none, and, towards, step_towards, steps_towards, none_refused, within64}
use Rattle.history.specs.Demand.{roomy, all_roomy, IsTicks, JumpIsTicks, There, Reaches}
use Rattle.history.proofs.GoodState.{Good, good_ok, live_length}
use Rattle.history.proofs.Scheduling.{TimeIn, time_in}
use Rattle.history.proofs.StepsKeepGood.{request_good}
use Rattle.history.proofs.Clock.{Fired, fired_so, ticked_so, by_due, answered_by}

-- how often time passes in a jump
abbrev passes_by : Contract → State → ℤ → ℕ
passes_by c s T = times_until_due c (nat_abs T - s.clock) s

jumped_so : (c : Contract) (s : State) (T : ℤ) → s.agreed ≡ true → due_in c s ≡ None → le_z (pos s.clock) T ≡ true
    → jumped c s T ≡ answered (Accepted Tick) (passed_times (passes_by c s T) s)
unfolding jumped
jumped_so c s T a d l = pick_true _ _ _ a ∙ ap (jump_by_due c s T) d ∙ pick_true _ _ _ l

-- where it ends
record Ended (c : Contract) (s : State) (T : ℤ) : Type 0 where
  most : s.clock + passes_by c s T ≤ top
  not_passed : le_z (pos (passed_times (passes_by c s T) s).clock) T ≡ true
  there : due_in c (passed_times (passes_by c s T) s) ≡ None → pos (passed_times (passes_by c s T) s).clock ≡ T

jump_ended : (c : Contract) (s : State) (T : ℤ) → within T ≡ true → le_z (pos s.clock) T ≡ true → Ended c s T
jump_ended c s T e l =
    let r : TimeIn s.clock T = time_in s.clock T e l in
    let n = passes_by c s T in
    let f : FirstStop c (nat_abs T - s.clock) s n = first_stop c (nat_abs T - s.clock) s in
    let h : s.clock + n ≤ nat_abs T = omega (arith, r.from, f.no_further) in
    record {
      most = omega (arith, r.most);
      not_passed = (λ i. le_z (pos (passed_clock n s i)) (sym r.is i)) ∙ le-leb (s.clock + n) (nat_abs T) h;
      there = λ d.
          let k : s.clock + n ≡ nat_abs T = omega (arith, r.from, f.due_or_most d) in
          ap pos (passed_clock n s ∙ k) ∙ r.is;
    }

-- ---- a jump is so many ticks

module _ (w : List ℕ) (p : passes w ≡ true) where
  tick_answer : (s : State) → state_ok (contract_of w) s ≡ true → s.agreed ≡ true → due_in (contract_of w) s ≡ None → s.clock < top
      → (l : List Label) → roomy w l ≡ true → answer_to w s (record { request = tick; slice = l }) ≡ answered (Accepted Tick) (time_passed s)
  tick_answer s o a d h l r =
      answered_by w p s o (record { request = tick; slice = l }) (leb-true (room_needed (contract_of w)) (length l) r) ∙ ticked_so (contract_of w) s a d h

  -- ticks with nothing due at any of them
  record Passed (s : State) (ls : List (List Label)) : Type 0 where
    accepted : AllTicks (history w s (ticks ls)).answers
    state_is : (history w s (ticks ls)).state ≡ passed_times (length ls) s

  ticks_pass : (ls : List (List Label)) (s : State) → state_ok (contract_of w) s ≡ true → s.agreed ≡ true → s.clock + length ls ≤ top
      → ((k : ℕ) → k < length ls → due_in (contract_of w) (passed_times k s) ≡ None) → all_roomy w ls ≡ true → Passed s ls
  unfolding history ticks passed_times lapsed with_pending
  ticks_pass [] s o a h f r = record { accepted = none; state_is = refl }
  ticks_pass (l ∷ ls) s o a h f r =
      let e = tick_answer s o a (f 0 (omega arith)) (omega arith) l (every_head (roomy w) l ls r) in
      let q = ap (λ (t : Stepped Question). t.state) e in
      let x : Passed (time_passed s) ls =
      ticks_pass ls (time_passed s) (passed_ok (contract_of w) 1 s o a (omega arith)) a (omega arith) (λ k m. f (suc k) (omega arith)) (every_tail (roomy w) l ls r) in
      record {
        accepted = and (ap (λ (t : Stepped Question). t.outcome) e) (subst (λ (u : State). AllTicks (history w u (ticks ls)).answers) (sym q) x.accepted);
        state_is = ap (λ (u : State). (history w u (ticks ls)).state) q ∙ x.state_is;
      }

  pub jump_ticks : (s : State) → state_ok (contract_of w) s ≡ true → JumpIsTicks w s
  jump_ticks s o a d T e l x m =
      let c = contract_of w in
      let n = passes_by c s T in
      let f : FirstStop c (nat_abs T - s.clock) s n = first_stop c (nat_abs T - s.clock) s in
      let g : Ended c s T = jump_ended c s T e l in
      let run : (ls : List (List Label)) → length ls ≤ n → all_roomy w ls ≡ true → Passed s ls =
      λ ls h r. ticks_pass ls s o a (omega (arith, g.most)) (λ k i. f.not_before k (omega arith)) r in
      subst (IsTicks w s T) (sym (answered_by w p s o (record { request = jump T; slice = x }) (leb-true (room_needed c) (length x) m) ∙ jumped_so c s T a d l))
      (record {
        count = n;
        all_ticks = λ ls q r. (run ls (omega arith) r).accepted;
        same = λ ls q r. ap (answered (Accepted Tick)) (sym ((run ls (omega arith) r).state_is ∙ ap (λ (k : ℕ). passed_times k s) q));
        not_before = λ ls q r. ap (due_in c) (run ls (omega arith) r).state_is ∙ f.not_before (length ls) q;
        clock_rises = passed_clock n s;
        no_further = g.not_passed;
        due_or_there = g.there;
      })

-- ---- T is reached

module _ (w : List ℕ) (p : passes w ≡ true) (T : ℤ) (e : within T ≡ true) where
  abbrev c : Contract
  c = contract_of w

  fit : FitsContract c
  fit = fits_contract c (sound w p)

  -- in at most n steps
  record ReachesBy (s : State) (n : ℕ) : Type 0 where
    count : ℕ
    count_few : count ≤ n
    there : (ls : List (List Label)) → length ls ≡ count → all_roomy w ls ≡ true → There w T s ls

  longer : {s : State} {n m : ℕ} → ReachesBy s n → n ≤ m → ReachesBy s m
  longer x h = record { count = x.count; count_few = omega (arith, x.count_few); there = x.there }

  arrived : {s : State} → due_in c s ≡ None → pos s.clock ≡ T → ReachesBy s 0
  unfolding history steps_towards none_refused
  arrived {s} d q = record { count = 0; count_few = omega arith; there = so }
    where
      so : (ls : List (List Label)) → length ls ≡ 0 → all_roomy w ls ≡ true → There w T s ls
      so [] h r = record { none-refused = refl; clock_is = q; nothing_due = d }
      so (l ∷ ls) h r = absurd (omega arith)

  -- a step that is not refused, and those after it
  step_then : {s : State} → Good c s → (q : Request) → towards T (due_in c s) ≡ q → is_refused (requested s q c).outcome ≡ false
      → {n : ℕ} → ReachesBy (requested s q c).state n → ReachesBy s (suc n)
  unfolding history steps_towards none_refused
  step_then {s} g q t f x = record { count = suc x.count; count_few = omega (arith, x.count_few); there = so }
    where
      so : (ls : List (List Label)) → length ls ≡ suc x.count → all_roomy w ls ≡ true → There w T s ls
      so [] h r = absurd (omega arith)
      so (l ∷ ls) h r =
          let a : Step = step_towards w T s l in
          let y : There w T (requested s q c).state ls = x.there ls (omega arith) (every_tail (roomy w) l ls r) in
          let k : answer_to w s a ≡ requested s q c =
          answered_by w p s (good_ok g) a (leb-true (room_needed c) (length l) (every_head (roomy w) l ls r)) ∙ ap (λ (z : Request). requested s z c) t in
          let u = ap (λ (z : Stepped Question). z.state) k in
          record {
            none-refused =
                subst (λ (z : Stepped Question). pick (is_refused z.outcome) false (none_refused (history w z.state (steps_towards w T z.state ls)).answers) ≡ true) (sym k)
                (pick_false _ _ _ f ∙ y.none-refused);
            clock_is = subst (λ (z : State). pos (history w z (steps_towards w T z ls)).state.clock ≡ T) (sym u) y.clock_is;
            nothing_due = subst (λ (z : State). due_in c (history w z (steps_towards w T z ls)).state ≡ None) (sym u) y.nothing_due;
          }

  -- from states with fewer pending events T is reached
  abbrev Fewer : State → Type 0
  Fewer s = (u : State) → u.pending < s.pending → Good c u → u.agreed ≡ true → le_z (pos u.clock) T ≡ true → ReachesBy u (2 * u.pending + 1)

  by_firing : {s : State} → Good c s → s.agreed ≡ true → le_z (pos s.clock) T ≡ true → Fewer s → (k : ℕ) → due_in c s ≡ Some k → ReachesBy s (2 * s.pending)
  unfolding within64
  by_firing {s} g a l f k d =
      let o : Fired s (fired c s) = fired_so g a k d in
      let v = o.one_less in
      longer (step_then g firing (ap (towards T) d) o.not_refused
      (f (fired c s).state (omega (arith, v)) (request_good c fit g firing refl) o.agreed (ap (λ (t : ℕ). le_z (pos t) T) o.clock ∙ l)))
      (omega (arith, v))

  by_jumping : {s : State} → Good c s → s.agreed ≡ true → le_z (pos s.clock) T ≡ true → Fewer s → due_in c s ≡ None → ReachesBy s (2 * s.pending + 1)
  unfolding within64
  by_jumping {s} g a l f d =
      let n = passes_by c s T in
      let u : State = passed_times n s in
      let j : jumped c s T ≡ answered (Accepted Tick) u = jumped_so c s T a d l in
      let g' : Good c u = subst (λ (z : Stepped Question). Good c z.state) j (request_good c fit g (jump T) e) in
      let h : Ended c s T = jump_ended c s T e l in
      let fewer : u.pending ≤ s.pending = omega (arith, live_length g, live_length g', passed_fewer n s) in
      let rest : ReachesBy u (2 * u.pending) =
      by_due c u (by_firing g' (passed_agreed n s ∙ a) h.not_passed (λ z m. f z (omega (arith, fewer))))
      (λ d'. longer (arrived d' (h.there d')) (omega arith)) in
      longer (step_then g (jump T) (ap (towards T) d) (ap (λ (z : Stepped Question). is_refused z.outcome) j) (subst (λ (z : Stepped Question). ReachesBy z.state (2 * u.pending)) (sym j) rest))
      (omega (arith, fewer))

  by_step : {s : State} → Good c s → s.agreed ≡ true → le_z (pos s.clock) T ≡ true → Fewer s → ReachesBy s (2 * s.pending + 1)
  by_step {s} g a l f = by_due c s (λ k d. longer (by_firing g a l f k d) (omega arith)) (by_jumping g a l f)

  reached : (m : ℕ) {s : State} → s.pending ≤ m → Good c s → s.agreed ≡ true → le_z (pos s.clock) T ≡ true → ReachesBy s (2 * s.pending + 1)
  reached zero h g a l = by_step g a l (λ u q. absurd (omega arith))
  reached (suc m) h g a l = by_step g a l (λ u q. reached m (omega arith))

  pub day_reached : {s : State} → Good c s → s.agreed ≡ true → le_z (pos s.clock) T ≡ true → Reaches w T s
  day_reached {s} g a l =
      let x : ReachesBy s (2 * s.pending + 1) = reached s.pending (omega arith) g a l in
      record { count = x.count; count_few = x.count_few; count_most = omega (arith, x.count_few, g.events.few); there = x.there }
