-- The cases of a tick and of a jump. Assumes nothing.
use mathlib.Core.Path.{◌≡◌, refl, sym, ap, ◌∙◌}
use mathlib.Core.Bool.{true, false}
use Prim.Native.Nat.{ℕ, zero, suc, ◌+◌, ◌-◌, ◌<◌, ◌≤◌}
use native.Mathlib.Omega.{arith}
use lib.IntN.{ℤ, pos, nat_abs}
use lib.Signed.{le_z}
use borrow.Author.Tests.{lt-ltb, le-ltb}
use Rattle.std.specs.Prelude.{Option, None, Err}
use Rattle.laws.specs.Choice.{pick}
use Rattle.laws.proofs.Choice.{pick_true, pick_false}
use Rattle.questions.specs.declared.Question.{Question}
use Rattle.questions.specs.declared.Question.TheVariants as ask
use Rattle.contract.specs.Limits.{top}
use Rattle.contract.specs.Tree.{Contract}
use Rattle.state.specs.declared.State.{State}
use Rattle.state.specs.States.{due_in, passed_times, times_until_due}
use Rattle.outcomes.specs.declared.Rule.TheVariants.{Tick}
use Rattle.outcomes.specs.declared.Outcome.TheVariants.{Accepted}
use Rattle.outcomes.specs.Outcomes.{answered, refused}
use Rattle.machine.specs.Steps.{tick_by_due, jump_by_due, jumped}
use Rattle.machine.specs.Private.{at_rest, ticked_with}
use Rattle.machine.proofs.Gates.{away}

module _ (s : State) (due : Option ℕ) where
  pub tick_away : {q : Question} → Err q ≡ at_rest s due → refused s q ≡ ticked_with s due
  tick_away e = away s due (tick_by_due s) (λ k. refl) e

  module _ (e : s.agreed ≡ true) where
    by_due : ticked_with s due ≡ tick_by_due s due
    by_due = pick_true _ _ _ e

    module _ (d : due ≡ None) where
      pub tick_top : top ≤ s.clock → refused s ask.ClockBelowTop ≡ ticked_with s due
      unfolding pick
      tick_top h = sym (by_due ∙ ap (tick_by_due s) d ∙ rw (le-ltb s.clock top h))

      pub tick_on : (n : State) → n ≡ passed_times (s.clock + 1 - s.clock) s → s.clock < top → answered (Accepted Tick) n ≡ ticked_with s due
      unfolding passed_times
      tick_on n q h =
          let z : s.clock + 1 - s.clock ≡ suc zero = omega arith in
          ap (answered (Accepted Tick)) (q ∙ ap (λ (k : ℕ). passed_times k s) z)
          ∙ sym (by_due ∙ ap (tick_by_due s) d ∙ pick_true _ _ _ (lt-ltb s.clock top h))

-- ---- a jump

module _ (c : Contract) (s : State) (T : ℤ) (due : Option ℕ) (so : due ≡ due_in c s) where
  by_its_due : pick s.agreed (jump_by_due c s T due) (refused s ask.Agreed) ≡ jumped c s T
  unfolding jumped
  by_its_due = ap (λ (d : Option ℕ). pick s.agreed (jump_by_due c s T d) (refused s ask.Agreed)) so

  pub jump_away : {q : Question} → Err q ≡ at_rest s due → refused s q ≡ jumped c s T
  jump_away e = away s due (jump_by_due c s T) (λ k. refl) e ∙ by_its_due

  module _ (e : s.agreed ≡ true) where
    by_agreed : jumped c s T ≡ jump_by_due c s T due
    by_agreed = sym by_its_due ∙ pick_true _ _ _ e

    module _ (d : due ≡ None) where
      pub jump_past : le_z (pos s.clock) T ≡ false → refused s ask.TimeNotPast ≡ jumped c s T
      jump_past h = sym (by_agreed ∙ ap (jump_by_due c s T) d ∙ pick_false _ _ _ h)

      pub jump_on : le_z (pos s.clock) T ≡ true → (stop : ℕ) → stop ≡ s.clock + times_until_due c (nat_abs T - s.clock) s → (x : State) → x ≡ passed_times (stop - s.clock) s
          → answered (Accepted Tick) x ≡ jumped c s T
      jump_on h stop r x p =
          let m = times_until_due c (nat_abs T - s.clock) s in
          let k : stop - s.clock ≡ m = omega (arith, r) in
          ap (answered (Accepted Tick)) (p ∙ ap (λ (i : ℕ). passed_times i s) k) ∙ sym (by_agreed ∙ ap (jump_by_due c s T) d ∙ pick_true _ _ _ h)
