-- The events that guards give, as the machine schedules them. Assumes nothing.
use mathlib.Core.Path.{◌≡◌, refl, sym, ap, subst, ◌∙◌}
use mathlib.Core.Bool.{Bool, true, false}
use mathlib.Core.List.{List, [], ◌∷◌}
use Prim.Native.Nat.{ℕ, suc}
use lib.IntN.{ℤ, pos, negsuc, nat_abs}
use lib.Signed.{le_z}
use borrow.Author.Tests.{leb-true, le-leb}
use Rattle.laws.specs.Choice.{pick}
use Rattle.laws.proofs.Choice.{pick_true, pick_false, true_false}
use Rattle.numbers.specs.declared.Value.TheVariants.{Integer, Text}
use Rattle.std.specs.Prelude.{Ok, Err}
use Rattle.numbers.specs.Numbers.{Answer}
use Rattle.contract.specs.Tree.{Event}
use Rattle.evaluation.specs.Memory.{Memory}
use Rattle.evaluation.specs.Meaning.{value_of}
use Rattle.state.specs.declared.Pending.{Pending}
use Rattle.machine.specs.Steps.{Scheduled, times, no, scheduled, schedule}
use Rattle.published.specs.Published.{Times, no_event, pending, dropped}

module _ (m : Memory) (n : ℕ) where
  -- a time at or after the clock joins, an earlier one is dropped
  timed : (j : ℕ) (e : Event) (es : List Event) (z : ℤ) (ps : List Pending) → value_of m e.guard ≡ Ok (Integer z) → Times m n (suc j) es ps
      → (b : Bool) → le_z (pos m.clock) z ≡ b → Times m n j (e ∷ es) (pick b (record { function = n; event = j; time = nat_abs z } ∷ ps) ps)
  unfolding pick
  timed j e es (pos t) ps q r true h = pending q (leb-true m.clock t h) r
  timed j e es (negsuc t) ps q r true h = true_false (sym h)
  timed j e es z ps q r false h = dropped q h r

  -- what is scheduled
  abbrev Given : ℕ → List Event → Scheduled → Type 0
  Given j es (times ps) = Times m n j es ps
  Given j es (no q) = Unit {0}

  scheduled_given : (j : ℕ) (e : Event) (es : List Event) (x : Answer) → value_of m e.guard ≡ x → (r : Scheduled) → Given (suc j) es r → Given j (e ∷ es) (scheduled m.clock n j x r)
  scheduled_given j e es (Err q) h r g = tt
  scheduled_given j e es (Ok (Text x)) h r g = tt
  scheduled_given j e es (Ok (Integer z)) h (no q) g = tt
  scheduled_given j e es (Ok (Integer z)) h (times ps) g = timed j e es z ps h g (le_z (pos m.clock) z) refl

  schedule_given : (j : ℕ) (es : List Event) → Given j es (schedule m m.clock n j es)
  unfolding schedule
  schedule_given j [] = no_event
  schedule_given j (e ∷ es) = scheduled_given j e es (value_of m e.guard) refl (schedule m m.clock n (suc j) es) (schedule_given (suc j) es)

  pub schedule_times : (j : ℕ) (es : List Event) (ps : List Pending) → schedule m m.clock n j es ≡ times ps → Times m n j es ps
  schedule_times j es ps e = subst (Given j es) e (schedule_given j es)

  pub times_schedule : (j : ℕ) {es : List Event} {ps : List Pending} → Times m n j es ps → schedule m m.clock n j es ≡ times ps
  unfolding schedule
  times_schedule j no_event = refl
  times_schedule j (pending {t = t} {e = e} {es = es} {ps = ps} q h r) =
      (λ i. scheduled m.clock n j (q i) (times_schedule (suc j) r i)) ∙ ap times (pick_true _ _ _ (le-leb m.clock t h))
  times_schedule j (dropped {e = e} {es = es} {ps = ps} q h r) =
      (λ i. scheduled m.clock n j (q i) (times_schedule (suc j) r i)) ∙ ap times (pick_false _ _ _ h)
