-- On a table that passes, in a state within its ranges and with room for the labels, the machine's steps are exactly those of the
-- published rules. Assumes nothing.
use mathlib.Core.Path.{◌≡◌, refl, sym, subst, ◌∙◌}
use mathlib.Core.Bool.{true, false}
use mathlib.Core.List.{List}
use mathlib.Core.Logic.{⊎_elim}
use Prim.Native.Nat.{ℕ, ◌≤◌}
use native.Mathlib.Omega.{arith}
use lib.ListN.{length, length-take}
use lib.Dec.{leb}
use borrow.Author.Tests.{leb-true, le-leb, lt-leb}
use Rattle.questions.specs.declared.Question.{Question}
use Rattle.questions.specs.Numbers.{number_of}
use Rattle.laws.specs.Lists.{repeated}
use Rattle.laws.proofs.Members.{repeated_length}
use Rattle.laws.proofs.Choice.{pick_true, pick_false, true_false}
use Rattle.laws.proofs.Truths.{both_left, both_right}
use Rattle.contract.specs.Check.{ranges, passes}
use Rattle.contract.specs.Decode.{contract_of}
use Rattle.contract.proofs.Fitting.{FitsContract, fits_contract}
use Rattle.contract_laws.proofs.Sound.{sound}
use Rattle.state.specs.declared.State.{State}
use Rattle.state.specs.States.{max_pending, live, state_ok}
use Rattle.state.proofs.Within.{within}
use Rattle.statements.specs.declared.Label.{Label}
use Rattle.statements.specs.Running.{max_labels}
use Rattle.outcomes.specs.declared.Outcome.{Outcome}
use Rattle.outcomes.specs.Outcomes.{no_label}
use Rattle.machine.specs.Steps.{step, Request, requested}
use Rattle.machine.specs.Steps as steps
use Rattle.history.specs.Histories.{answer_to, is_refused, within64}
use Rattle.history.proofs.Cases.{request_came}
use Rattle.history.proofs.ContractBounds.{Bounded, bounded}
use Rattle.history.proofs.GoodState.{Good, good_ok}
use Rattle.history.proofs.StepsKeepGood.{step_good}
use Rattle.history.proofs.AskedOnce.{stored_good}
use Rattle.published.specs.Published.{Configuration, failure, Table2, idle, IsRefused, Comes}
use Rattle.published.specs.Exactly.{answer, FirstQuestions, Exactly}
use Rattle.published.proofs.Idle.{comes_by}
use Rattle.published.proofs.Agreements.{agreement_derives, agreement_comes}
use Rattle.published.proofs.Calls.{call_derives, call_comes}
use Rattle.published.proofs.Firings.{firing_derives, firing_comes, failure_derives, failure_comes, failure_stops}
use Rattle.published.proofs.IdleDetermines.{idle_tells}
use Rattle.published.proofs.Ticks.{tick_derives, tick_comes}
use Rattle.published.proofs.Jumps.{jump_derives, jump_comes}
use Rattle.published.proofs.RefusedSteps.{ByRule, refused_or_by, not_fired, comes_refused}

pub first_questions : (w : List ℕ) (s : State) (room : ℕ) (q : Request) → FirstQuestions w s room q
unfolding step
first_questions w s room q =
    record {
      table_refused = λ p. pick_false _ _ _ p;
      state_refused = λ p o. pick_true _ _ _ p ∙ pick_false _ _ _ o;
      slice_refused = λ p o h. pick_true _ _ _ p ∙ pick_true _ _ _ o ∙ pick_false _ _ _ (lt-leb max_labels room h);
    }

-- a step from a good state, with 64-bit arguments, leads to a good one
answer_good : (w : List ℕ) → passes w ≡ true → {s : State} → Good (contract_of w) s → (room : ℕ) (q : Request) → within64 q ≡ true → Good (contract_of w) (answer w s room q).state
unfolding answer_to
answer_good w p {s} g room q e =
    subst (λ (n : ℕ). Good (contract_of w) (answer w s n q).state) (repeated_length room no_label)
    (step_good w p g (record { request = q; slice = repeated room no_label }) e)

module _ (w : List ℕ) (s : State) (room : ℕ) (p : passes w ≡ true) (o : state_ok (contract_of w) s ≡ true) (h : max_labels ≤ room) where
  -- the questions that every step asks first pass
  past_first : (q : Request) → answer w s room q ≡ requested s q (contract_of w)
  unfolding step
  past_first q = pick_true _ _ _ p ∙ pick_true _ _ _ o ∙ pick_true _ _ _ (le-leb max_labels room h)

  here : (q : Request) {x : Outcome Question} {ls : List Label} {C : Configuration} → Comes (answer w s room q) x ls C → Comes (requested s q (contract_of w)) x ls C
  here q c = comes_by (sym (past_first q)) c

  there : (q : Request) {x : Outcome Question} {ls : List Label} {C : Configuration} → Comes (requested s q (contract_of w)) x ls C → Comes (answer w s room q) x ls C
  there q c = comes_by (past_first q) c

  few : length (live s) ≤ max_pending
  few = simp length-take (omega (arith, (within (contract_of w) s o).pending))

  -- what no rule gives is refused, and what is refused no rule gives
  unless : (q : Request) → (ByRule q (requested s q (contract_of w)) → ⊥) → IsRefused s (answer w s room q)
  unless q f =
      let c = contract_of w in
      subst (IsRefused s) (sym (past_first q))
      (⊎_elim (λ x. x) (λ x. absurd (f x)) (refused_or_by c (fits_contract c (sound w p)) (bounded c (sound w p)) (request_came c s q)))

  never : (q : Request) {x : Outcome Question} {ls : List Label} {C : Configuration} → IsRefused s (answer w s room q) → is_refused x ≡ false → Comes (requested s q (contract_of w)) x ls C → ⊥
  never q r e c = true_false (sym (comes_refused r (there q c)) ∙ e)

  pub exactly : Exactly w s room
  exactly =
      let c = contract_of w in
      let t : FitsContract c = fits_contract c (sound w p) in
      let b : Bounded c = bounded c (sound w p) in
      record {
        agreements = λ ps C. (λ x. agreement_derives c s ps o (here (steps.agreement ps) x), λ d. there (steps.agreement ps) (agreement_comes c s ps o d));
        agreements_refused = λ ps. (λ r C d. never (steps.agreement ps) r refl (agreement_comes c s ps o d), λ f. unless (steps.agreement ps) (λ x. f _ (agreement_derives c s ps o x)));
        calls = λ i ls C. (λ x. call_derives c t s i (here (steps.call i) x), λ d. there (steps.call i) (call_comes c t s i d));
        calls_refused = λ i. (λ r ls C d. never (steps.call i) r refl (call_comes c t s i d), λ f. unless (steps.call i) (λ x. f _ _ (call_derives c t s i x)));
        firings = λ ls C. (λ x. firing_derives c b s few (here steps.firing x), λ d. there steps.firing (firing_comes c b s d));
        failures = λ n C. (λ x. failure_derives c b s (here steps.firing x), λ d. there steps.firing (failure_comes c b s d));
        firings_refused = (
          λ r. (λ ls C d. never steps.firing r refl (firing_comes c b s d), λ n C d. never steps.firing r refl (failure_comes c b s d)),
          λ f. unless steps.firing (not_fired (λ x. f.0 _ _ (firing_derives c b s few x)) (λ n x. f.1 n _ (failure_derives c b s x))),
        );
        ticks = λ C. (λ x. tick_derives c s (here steps.tick x), λ d. there steps.tick (tick_comes c s d));
        ticks_refused = (λ r C d. never steps.tick r refl (tick_comes c s d), λ f. unless steps.tick (λ x. f _ (tick_derives c s x)));
        jumps = λ T e C. (λ x. jump_derives c s T e (here (steps.jump T) x), λ d. there (steps.jump T) (jump_comes c s T d));
        jumps_refused = λ T e. (λ r C d. never (steps.jump T) r refl (jump_comes c s T d), λ f. unless (steps.jump T) (λ x. f _ (jump_derives c s T e x)));
        in_range = λ a q e. good_ok (answer_good w p (stored_good c s a o) room q e);
      }

  -- a handler fails at one of questions 30 to 36
  pub failure_numbered : {q : Question} {C : Configuration} → Table2 (contract_of w) (idle s) (failure q) C → (30 ≤ number_of q) × (number_of q ≤ 36)
  unfolding ranges
  failure_numbered {q} d =
      let n = number_of q in
      let k = failure_stops (contract_of w) (bounded (contract_of w) (sound w p)) s d in
      (leb-true 30 n (both_left (leb 30 n) (leb n 36) k), leb-true n 36 (both_right (leb 30 n) (leb n 36) k))

-- between good states, which all are that are reached from the fresh one, the configuration tells the state that a step leads to
module _ (w : List ℕ) (p : passes w ≡ true) {s s' : State} (g : Good (contract_of w) s) (g' : Good (contract_of w) s') (room : ℕ) (q : Request) (e : within64 q ≡ true) where
  pub result_is : {x : Outcome Question} {ls : List Label} → Comes (answer w s room q) x ls (idle s') → (answer w s room q).state ≡ s'
  result_is c = idle_tells (answer_good w p g room q e) g' c.leads_to
