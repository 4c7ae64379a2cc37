-- Demand 3 holds of every list of steps on every table that passes. Assumes nothing.
use mathlib.Core.Path.{◌≡◌}
use mathlib.Core.Bool.{true}
use mathlib.Core.List.{List}
use Prim.Native.Nat.{ℕ}
use Rattle.laws.specs.Lists.{every}
use Rattle.contract.specs.Check.{passes}
use Rattle.state.specs.States.{fresh_at}
use Rattle.history.specs.Histories.{Step, history, within64}
use Rattle.history.specs.Demand.{Demand}
use Rattle.history.proofs.Count.{counts, count}
use Rattle.history.proofs.AmountSums.{amounts_are, values_are}
use Rattle.history.proofs.GroupCount.{all_deposits_grouped, all_payouts_grouped, count_of_group}
use Rattle.history.proofs.Striking.{struck_same, all_struck}
use Rattle.history.proofs.StepsKeepGood.{last_ok}
use Rattle.history.proofs.GoodState.{good_ok}
use Rattle.history.proofs.Clock.{agreed_good, clock_goes_on}
use Rattle.history.proofs.Jumps.{jump_ticks, day_reached}

pub demand : (w : List ℕ) → passes w ≡ true → (clock : ℕ) (xs : List Step) → every (λ a. within64 a.request) xs ≡ true → Demand w clock xs
demand w e clock xs f =
    record {
      count = count w clock xs;
      count_by_group = count_of_group w e clock xs;
      deposits_in_groups = all_deposits_grouped w e clock xs;
      payouts_in_groups = all_payouts_grouped w e clock xs;
      deposits_are_amounts = amounts_are (history w (fresh_at clock) xs).deposits (counts w clock xs).deposits;
      payouts_are_amounts = values_are (history w (fresh_at clock) xs).payouts (counts w clock xs).payouts;
      in_range = λ h. last_ok w e clock h xs f;
      striking = λ ys rs t. struck_same t;
      striking_all = struck_same (all_struck w (fresh_at clock) xs);
      goes_on = clock_goes_on w e clock xs f;
      jump_is_ticks = λ a. jump_ticks w e (history w (fresh_at clock) xs).state (good_ok (agreed_good w e clock xs f a)) a;
      reaches = λ a T h l. day_reached w e T h (agreed_good w e clock xs f a) a l;
    }
