-- A time that is not before the clock, or none. Assumes nothing.
use mathlib.Core.Path.{◌≡◌, refl, sym, ap, ◌∙◌}
use mathlib.Core.Bool.{Bool, true, false}
use Prim.Native.Nat.{ℕ}
use lib.IntN.{ℤ, pos, nat_abs}
use lib.Signed.{le_z}
use Rattle.std.specs.Prelude.{Option, Some, None}
use Rattle.laws.specs.Choice.{pick}
use Rattle.machine.specs.Private.{not_before}

module _ (n : ℕ) where
  none_false : (b : Bool) → None ≡ pick b (Some n) None → b ≡ false
  unfolding pick
  none_false true e = cc
  none_false false e = refl

  some_true : (b : Bool) {k : ℕ} → Some k ≡ pick b (Some n) None → (b ≡ true) × (k ≡ n)
  unfolding pick
  some_true true e = (refl, cc)
  some_true false e = cc

module _ (t : ℕ) {y z : ℤ} {r : Option ℕ} (h : r ≡ not_before t y) (same : y ≡ z) where
  pub too_early : r ≡ None → le_z (pos t) z ≡ false
  unfolding not_before
  too_early e = none_false (nat_abs z) (le_z (pos t) z) (sym e ∙ h ∙ ap (not_before t) same)

  pub in_time : {k : ℕ} → r ≡ Some k → (le_z (pos t) z ≡ true) × (k ≡ nat_abs z)
  unfolding not_before
  in_time e = some_true (nat_abs z) (le_z (pos t) z) (sym e ∙ h ∙ ap (not_before t) same)
