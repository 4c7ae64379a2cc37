-- What the quotient is, said by products and not by a division: the greatest integer not above a / b (`greatest`, numbers/proofs/Floor.antt). For b = 0 there is none.
use Rattle.std.specs.Prelude.{◌≡◌, Bool, true, false, ℤ, pos, negsuc, ◌+ℤ◌, ◌*ℤ◌}
use Rattle.std.specs.Int.Signed.{le_z}

-- z ≤ a / b: both sides times b, which turns the order where b is below 0
abbrev pub not_above : ℤ → ℤ → ℤ → Bool
not_above a (pos b) z = le_z (z *ℤ pos b) a
not_above a (negsuc b) z = le_z a (z *ℤ negsuc b)

pub record Floor (a b q : ℤ) : Type 0 where
  -- q is not above a / b
  pub not-above : not_above a b q ≡ true
  -- q + 1 is above a / b
  pub next_above : not_above a b (q +ℤ pos 1) ≡ false
