-- The events that guards give are the contract's, with times from the clock on. Assumes nothing.
use mathlib.Core.Path.{◌≡◌, refl, sym}
use mathlib.Core.Bool.{true}
use mathlib.Core.List.{List, [], ◌∷◌}
use Prim.Native.Nat.{ℕ, suc, ◌+◌, ◌^◌, ◌<◌, ◌≤◌}
use native.Mathlib.Omega.{arith}
use lib.ListN.{length, get_or}
use lib.IntN.{ℤ, pos, negsuc, nat_abs}
use lib.Signed.{le_z}
use borrow.Author.Tests.{ltb-true, lt-ltb, leb-true, le-leb}
use Rattle.laws.proofs.Choice.{by_cases, true_false}
use Rattle.numbers.specs.Numbers.{within, Answer}
use Rattle.numbers.specs.declared.Value.TheVariants.{Integer, Text}
use Rattle.contract.specs.Limits.{top}
use Rattle.contract.specs.Tree.{Event, Function, Contract}
use Rattle.contract.specs.Fits.{scope_in, event_in}
use Rattle.laws.proofs.Members.{every_head, every_tail}
use Rattle.laws.proofs.Truths.{both_true}
use Rattle.laws.specs.Lists.{every}
use Rattle.contract.proofs.Fitting.{fits_event}
use Rattle.evaluation.specs.Memory.{Memory}
use Rattle.evaluation.specs.Meaning.{value_of}
use Rattle.state.specs.States.{no_function, pending_ok}
use Rattle.state.proofs.Each.{Each, none, more}
use Rattle.machine.specs.Steps.{Scheduled, times, no, scheduled, schedule}
use Rattle.history.proofs.ValuesInRange.{AnswerIn, MemoryIn, value_in}
use Rattle.std.specs.Prelude.{Ok, Err}

abbrev pub ScheduledIn : Contract → ℕ → Scheduled → Type 0
ScheduledIn c t (times ps) = Each (λ p. pending_ok c t p ≡ true) ps
ScheduledIn c t (no q) = Unit {0}

-- a time that is not before a clock
pub ahead : (clock : ℕ) (z : ℤ) → le_z (pos clock) z ≡ true → (clock ≤ nat_abs z) × (pos (nat_abs z) ≡ z)
ahead clock (pos m) l = (leb-true clock m l, refl)
ahead clock (negsuc m) l = true_false (sym l)

-- and a 64-bit integer
pub record TimeIn (clock : ℕ) (z : ℤ) : Type 0 where
  pub from : clock ≤ nat_abs z
  pub most : nat_abs z ≤ top
  pub is : pos (nat_abs z) ≡ z

pub time_in : (clock : ℕ) (z : ℤ) → within z ≡ true → le_z (pos clock) z ≡ true → TimeIn clock z
time_in clock (pos m) e l = let a = ahead clock (pos m) l in record { from = a.0; most = omega (arith, ltb-true m (2 ^ 63) e); is = a.1 }
time_in clock (negsuc m) e l = true_false (sym l)

-- event j of function n, at a time not before the clock
pending_in : (c : Contract) (t n j : ℕ) (z : ℤ) → n < length c.functions → j < length (get_or c.functions n no_function).events → within z ≡ true → le_z (pos t) z ≡ true
    → pending_ok c t (record { function = n; event = j; time = nat_abs z }) ≡ true
unfolding pending_ok
pending_in c t n j (pos m) h k e l =
    both_true _ _ (lt-ltb n (length c.functions) h)
    (both_true _ _ (lt-ltb j (length (get_or c.functions n no_function).events) k)
    (both_true _ _ l (le-leb m top (omega (arith, ltb-true m (2 ^ 63) e)))))
pending_in c t n j (negsuc m) h k e l = true_false (sym l)

scheduled_in : (c : Contract) (strings t n j : ℕ) → n < length c.functions → j < length (get_or c.functions n no_function).events
    → (x : Answer) → AnswerIn strings x → (r : Scheduled) → ScheduledIn c t r → ScheduledIn c t (scheduled t n j x r)
scheduled_in c strings t n j h k (Err q) i r e = tt
scheduled_in c strings t n j h k (Ok (Text x)) i r e = tt
scheduled_in c strings t n j h k (Ok (Integer z)) i (no q) e = tt
scheduled_in c strings t n j h k (Ok (Integer z)) i (times ps) e =
    by_cases (Each (λ p. pending_ok c t p ≡ true)) (le_z (pos t) z) _ _ (λ l. more (pending_in c t n j z h k i l) e) (λ _. e)

pub schedule_in : (c : Contract) (f : Function) (n t : ℕ) (m : Memory) → MemoryIn (scope_in c f) m → n < length c.functions
    → (j : ℕ) (es : List Event) → j + length es ≡ length (get_or c.functions n no_function).events → every (event_in c f) es ≡ true → ScheduledIn c t (schedule m t n j es)
unfolding schedule
schedule_in c f n t m o h j [] k i = none
schedule_in c f n t m o h j (e ∷ es) k i =
    let q = scope_in c f in
    scheduled_in c q.strings t n j h (omega arith) (value_of m e.guard) (value_in q m o e.guard (fits_event c f e (every_head (event_in c f) e es i)).guard)
    (schedule m t n (suc j) es) (schedule_in c f n t m o h (suc j) es (omega arith) (every_tail (event_in c f) e es i))
