-- A number that is none of some. Assumes nothing.
use mathlib.Core.Path.{◌≡◌}
use Prim.Native.Nat.{ℕ, zero, suc, ◌+◌, ◌≤◌}
use native.Mathlib.Omega.{arith}

-- x is none of the n numbers from a on
abbrev pub Misses : ℕ → ℕ → ℕ → Type 0
Misses zero a x = Unit {0}
Misses (suc n) a x = Misses n a x × (x ≡ a + n → ⊥)

pub past_all : (n a x : ℕ) → Misses n a x → a ≤ x → a + n ≤ x
past_all zero a x m h = omega arith
past_all (suc n) a x m h =
    let l = past_all n a x m.0 h in
    let d = m.1 in
    omega arith
