-- Turns of a loop over a range, as how many are left. Assumes nothing.
use Prim.Native.Nat.{ℕ, ◌+◌, ◌-◌, ◌<◌, ◌≤◌}
use native.Mathlib.Omega.{arith}
use mathlib.Core.Path.{◌≡◌}

pub fewer : (n i : ℕ) → n - (i + 1) ≡ n - i - 1
fewer n i = omega arith

pub more : (n i : ℕ) → i < n → 0 < n - i
more n i h = omega (arith, h)

pub none : (n i : ℕ) → n ≤ i → n - i ≤ 0
none n i h = omega (arith, h)
