-- The clock is never held up: in an agreed state before the last clock value, at most as many firings as events are pending, none of
-- them refused, leave nothing due, and a tick is accepted and takes the clock one further. Assumes nothing.
use mathlib.Core.Path.{◌≡◌, refl, sym, ap, subst, ◌∙◌}
use mathlib.Core.Bool.{Bool, true, false}
use mathlib.Core.List.{List, [], ◌∷◌}
use Prim.Native.Nat.{ℕ, zero, suc, ◌<◌, ◌≤◌}
use native.Mathlib.Omega.{arith}
use lib.ListN.{length}
use lib.Dec.{ltb}
use borrow.Author.Tests.{lt-ltb, ltb-true, ltb-false, le-leb, leb-true}
use Rattle.laws.specs.Choice.{pick}
use Rattle.laws.proofs.Choice.{by_cases, pick_true, pick_false, true_false}
use Rattle.contract.specs.Limits.{top}
use Rattle.contract.specs.Tree.{Contract}
use Rattle.contract.specs.Decode.{contract_of}
use Rattle.contract.specs.Check.{passes}
use Rattle.laws.proofs.Members.{every_head, every_tail}
use Rattle.laws.specs.Lists.{every}
use Rattle.contract.proofs.Fitting.{fits_contract}
use Rattle.contract_laws.proofs.Sound.{sound}
use Rattle.state.specs.declared.State.{State}
use Rattle.std.specs.Prelude.{Option, Some, None}
use Rattle.state.specs.States.{fresh_at, live, state_ok, due_in, with_pending, removed, lapsed, time_passed}
use Rattle.state.proofs.Dues.{first_to_fire}
use Rattle.state.proofs.Each.{without_count}
use Rattle.state.proofs.Within as state
use Rattle.state.proofs.Within.{removed_count}
use Rattle.statements.specs.declared.Label.{Label}
use Rattle.outcomes.specs.declared.Rule.TheVariants.{Tick}
use Rattle.outcomes.specs.declared.Outcome.TheVariants.{Accepted}
use Rattle.questions.specs.declared.Question.{Question}
use Rattle.outcomes.specs.declared.Stepped.{Stepped}
use Rattle.outcomes.specs.Outcomes.{answered}
use Rattle.machine.specs.Steps.{handled, fire_by_due, fired, tick_by_due, ticked, step, firing, tick, requested, room_needed}
use Rattle.history.specs.Histories.{Step, answer_to, history, is_refused, firings, none_refused, within64}
use Rattle.history.specs.Demand.{roomy, all_roomy, Cleared, GoesOn}
use Rattle.history.proofs.GoodState.{Good, good_ok, fresh_good, live_length}
use Rattle.history.proofs.StepsKeepGood.{request_good, last_good}
use Rattle.history.proofs.Cases.{handler_ran}
use Rattle.machine.proofs.Refusals.{by_refusal}

-- ---- one firing

pub record Fired (s : State) (r : Stepped Question) : Type 0 where
  pub not_refused : is_refused r.outcome ≡ false
  pub agreed : r.state.agreed ≡ true
  pub clock : r.state.clock ≡ s.clock
  pub one_less : suc r.state.pending ≡ s.pending

module _ {c : Contract} {s : State} (g : Good c s) (a : s.agreed ≡ true) where
  pub fired_so : (k : ℕ) → due_in c s ≡ Some k → Fired s (fired c s)
  unfolding fired handled removed with_pending
  fired_so k d =
      let h : k < length (live s) = (first_to_fire c s k d).is_pending in
      let n : length (live s) ≡ s.pending = live_length g in
      subst (Fired s) (sym (pick_true _ _ _ a ∙ ap (fire_by_due c s) d))
      (by_refusal (Fired s) (handler_ran c s k).refusal _ _
      (λ _. record { not_refused = refl; agreed = a; clock = refl; one_less = removed_count s k h ∙ n })
      (λ _ _. record { not_refused = refl; agreed = a; clock = refl; one_less = without_count k (live s) h ∙ n }))

pub ticked_so : (c : Contract) (s : State) → s.agreed ≡ true → due_in c s ≡ None → s.clock < top → ticked c s ≡ answered (Accepted Tick) (time_passed s)
unfolding ticked
ticked_so c s a d l = pick_true _ _ _ a ∙ ap (tick_by_due s) d ∙ pick_true _ _ _ (lt-ltb s.clock top l)

pub by_due : {X : Type 0} (c : Contract) (s : State) → ((k : ℕ) → due_in c s ≡ Some k → X) → (due_in c s ≡ None → X) → X
by_due {X} c s f g = go (due_in c s) refl
  where
    go : (d : Option ℕ) → due_in c s ≡ d → X
    go (Some k) d = f k d
    go None d = g d

-- ---- all that are due

module _ (w : List ℕ) (p : passes w ≡ true) where
  -- questions 3, 4 and 20 are passed
  pub answered_by : (s : State) → state_ok (contract_of w) s ≡ true → (a : Step) → room_needed (contract_of w) ≤ length a.slice → answer_to w s a ≡ requested s a.request (contract_of w)
  unfolding answer_to step
  answered_by s o a h = pick_true _ _ _ p ∙ pick_true _ _ _ o ∙ pick_true _ _ _ (le-leb (room_needed (contract_of w)) (length a.slice) h)

  module _ {s : State} (g : Good (contract_of w) s) (a : s.agreed ≡ true) where
    none_fired : due_in (contract_of w) s ≡ None → s.clock < top → (ls : List (List Label)) → length ls ≡ 0 → Cleared w s ls
    unfolding history firings none_refused lapsed with_pending
    none_fired d l [] e =
        record {
          none-refused = refl;
          nothing_due = d;
          tick_accepted = λ k h. ap (λ (r : Stepped Question). r.outcome) (tick_is k h);
          clock_rises = λ k h. ap (λ (r : Stepped Question). r.state.clock) (tick_is k h);
        }
      where
        tick_is : (k : List Label) → room_needed (contract_of w) ≤ length k → answer_to w s (record { request = tick; slice = k }) ≡ answered (Accepted Tick) (time_passed s)
        tick_is k h = answered_by s (good_ok g) (record { request = tick; slice = k }) h ∙ ticked_so (contract_of w) s a d l
    none_fired d l (k ∷ ls) e = absurd (omega arith)

    one_fired : (k : ℕ) → due_in (contract_of w) s ≡ Some k → (m : ℕ)
        → ((ls : List (List Label)) → length ls ≡ m → all_roomy w ls ≡ true → Cleared w (fired (contract_of w) s).state ls)
        → (ls : List (List Label)) → length ls ≡ suc m → all_roomy w ls ≡ true → Cleared w s ls
    unfolding history firings none_refused
    one_fired k d m f [] e h = absurd (omega arith)
    one_fired k d m f (l ∷ ls) e h =
        let c = contract_of w in
        let x : Cleared w (fired c s).state ls = f ls (omega arith) (every_tail (roomy w) l ls h) in
        let r : answer_to w s (record { request = firing; slice = l }) ≡ fired c s =
        answered_by s (good_ok g) (record { request = firing; slice = l }) (leb-true (room_needed c) (length l) (every_head (roomy w) l ls h)) in
        let q : (answer_to w s (record { request = firing; slice = l })).state ≡ (fired c s).state = ap (λ (r : Stepped Question). r.state) r in
        record {
          none-refused =
              subst (λ (r : Stepped Question). pick (is_refused r.outcome) false (none_refused (history w r.state (firings ls)).answers) ≡ true) (sym r)
              (pick_false _ _ _ (fired_so g a k d).not_refused ∙ x.none-refused);
          nothing_due = subst (λ (u : State). due_in c (history w u (firings ls)).state ≡ None) (sym q) x.nothing_due;
          tick_accepted = λ i n.
              subst (λ (u : State). (answer_to w (history w u (firings ls)).state (record { request = tick; slice = i })).outcome ≡ Accepted Tick) (sym q)
              (x.tick_accepted i n);
          clock_rises = λ i n.
              subst (λ (u : State). (answer_to w (history w u (firings ls)).state (record { request = tick; slice = i })).state.clock ≡ suc s.clock) (sym q)
              (x.clock_rises i n ∙ ap suc (fired_so g a k d).clock);
        }

    -- nothing is due, or the event that is due fires first
    by_firing : s.clock < top → (Fired s (fired (contract_of w) s) → GoesOn w (fired (contract_of w) s).state) → GoesOn w s
    by_firing l f =
        by_due (contract_of w) s
        (λ k d.
        let o : Fired s (fired (contract_of w) s) = fired_so g a k d in
        let x = f o in
        record { count = suc x.count; count_few = omega (arith, o.one_less, x.count_few); cleared = one_fired k d x.count x.cleared })
        (λ d. record { count = 0; count_few = omega arith; cleared = λ ls e _. none_fired d l ls e })

  -- by the number of pending events
  goes_on : (m : ℕ) {s : State} → s.pending ≤ m → Good (contract_of w) s → s.agreed ≡ true → s.clock < top → GoesOn w s
  unfolding within64
  goes_on zero h g a l = by_firing g a l (λ o. absurd (omega (arith, o.one_less)))
  goes_on (suc m) {s} h g a l =
      by_firing g a l λ o.
      goes_on m (omega (arith, o.one_less)) (request_good (contract_of w) (fits_contract (contract_of w) (sound w p)) g firing refl) o.agreed (omega (arith, o.clock))

-- ---- from the fresh state

-- with a clock past the greatest one no state passes question 4, and nothing is agreed
module _ (w : List ℕ) (clock : ℕ) (h : top < clock) where
  late_same : (a : Step) → (answer_to w (fresh_at clock) a).state ≡ fresh_at clock
  unfolding answer_to step fresh_at
  late_same a =
      let P : Stepped Question → Type 0 = λ r. r.state ≡ fresh_at clock in
      by_cases P _ _ _
      (λ _. by_cases P _ _ _ (λ o. absurd (omega (arith, (state.within (contract_of w) (fresh_at clock) o).clock))) (λ _. refl))
      (λ _. refl)

  late_last : (xs : List Step) → (history w (fresh_at clock) xs).state ≡ fresh_at clock
  unfolding history
  late_last [] = refl
  late_last (a ∷ xs) = ap (λ (s : State). (history w s xs).state) (late_same a) ∙ late_last xs

  late_unagreed : (xs : List Step) → (history w (fresh_at clock) xs).state.agreed ≡ false
  unfolding fresh_at
  late_unagreed xs = ap (λ (s : State). s.agreed) (late_last xs)

-- an agreed state that steps with 64-bit arguments lead to from the fresh one, at whatever clock
pub agreed_good : (w : List ℕ) → passes w ≡ true → (clock : ℕ) (xs : List Step) → every (λ a. within64 a.request) xs ≡ true
    → (history w (fresh_at clock) xs).state.agreed ≡ true → Good (contract_of w) (history w (fresh_at clock) xs).state
agreed_good w p clock xs e a = go (ltb top clock) refl
  where
    go : (b : Bool) → ltb top clock ≡ b → Good (contract_of w) (history w (fresh_at clock) xs).state
    go true q = true_false (sym a ∙ late_unagreed w clock (ltb-true top clock q) xs)
    go false q = last_good w p (fresh_good (contract_of w) clock (ltb-false top clock q)) xs e

pub clock_goes_on : (w : List ℕ) → passes w ≡ true → (clock : ℕ) (xs : List Step) → every (λ a. within64 a.request) xs ≡ true
    → (history w (fresh_at clock) xs).state.agreed ≡ true → (history w (fresh_at clock) xs).state.clock < top → GoesOn w (history w (fresh_at clock) xs).state
clock_goes_on w p clock xs e a l =
    let s : State = (history w (fresh_at clock) xs).state in
    goes_on w p s.pending (omega arith) (agreed_good w p clock xs e a) a l
