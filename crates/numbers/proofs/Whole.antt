-- Integers for `omega`, which reads ℕ alone: z is  up z - down z,  one of which is 0. Each law states a fact of ℤ as a linear one of these two.
--     lt_true, lt_false, le_true, le_false     a test's flag
--     le_of, gt_of                             and back
--     both_above, above_below, below_above     a test of two signs
--     sum, diff                                the sum and the difference
--     fits_of, fits_up, fits_down              the range of 64 bits, both ways
-- Assumes nothing.
use mathlib.Core.Path.{◌≡◌, refl, sym, ap, subst}
use mathlib.Core.Bool.{Bool, true, false, cond, beq}
use Prim.Native.Nat.{ℕ, zero, suc, ◌+◌, ◌-◌, ◌^◌, ◌<◌, ◌≤◌}
use native.Mathlib.Omega.{arith}
use lib.Dec.{ltb, eqb, leb-suc-zero}
use lib.IntN.{ℤ, pos, negsuc, neg_ℤ, nat_abs, sub_ℕ, ◌+ℤ◌, ◌-ℤ◌}
use lib.Signed.{lt_z, le_z}
use borrow.Author.Tests.{ltb-true, ltb-false, leb-true, leb-false, eqb-true, eqb-false, le-leb, lt-leb, eq-eqb, ne_eqb}
use mir.Syntax.{w64}
use mir.Val.{SFits, to_z, of_z}
use mir.ValLaws.{to_z-of_z}
use Rattle.laws.proofs.Choice.{true_false}
use Rattle.numbers.specs.Numbers.{eq_z}

abbrev pub up : ℤ → ℕ
up (pos n) = n
up (negsuc n) = 0

abbrev pub down : ℤ → ℕ
down (pos n) = 0
down (negsuc n) = suc n

-- the ends of the range
abbrev pub least : ℤ
least = negsuc 9223372036854775807

abbrev pub top : ℤ
top = pos 9223372036854775807

-- ---- the order
pub lt_true : (a b : ℤ) → lt_z a b ≡ true → up a + down b < up b + down a
lt_true (pos a) (pos b) e = omega (arith, ltb-true a b e)
lt_true (pos a) (negsuc b) e = true_false (sym e)
lt_true (negsuc a) (pos b) e = omega arith
lt_true (negsuc a) (negsuc b) e = omega (arith, ltb-true b a e)

pub lt_false : (a b : ℤ) → lt_z a b ≡ false → up b + down a ≤ up a + down b
lt_false (pos a) (pos b) e = omega (arith, ltb-false a b e)
lt_false (pos a) (negsuc b) e = omega arith
lt_false (negsuc a) (pos b) e = true_false e
lt_false (negsuc a) (negsuc b) e = omega (arith, ltb-false b a e)

pub le_true : (a b : ℤ) → le_z a b ≡ true → up a + down b ≤ up b + down a
le_true (pos a) (pos b) e = omega (arith, leb-true a b e)
le_true (pos a) (negsuc b) e = true_false (sym e)
le_true (negsuc a) (pos b) e = omega arith
le_true (negsuc a) (negsuc b) e = omega (arith, leb-true b a e)

pub le_false : (a b : ℤ) → le_z a b ≡ false → up b + down a < up a + down b
le_false (pos a) (pos b) e = omega (arith, leb-false a b e)
le_false (pos a) (negsuc b) e = omega arith
le_false (negsuc a) (pos b) e = true_false e
le_false (negsuc a) (negsuc b) e = omega (arith, leb-false b a e)

pub le_of : (a b : ℤ) → up a + down b ≤ up b + down a → le_z a b ≡ true
le_of (pos a) (pos b) h = le-leb a b (omega arith)
le_of (pos a) (negsuc b) h = absurd (omega arith)
le_of (negsuc a) (pos b) h = refl
le_of (negsuc a) (negsuc b) h = le-leb b a (omega arith)

pub gt_of : (a b : ℤ) → up b + down a < up a + down b → le_z a b ≡ false
gt_of (pos a) (pos b) h = lt-leb a b (omega arith)
gt_of (pos a) (negsuc b) h = refl
gt_of (negsuc a) (pos b) h = absurd (omega arith)
gt_of (negsuc a) (negsuc b) h = lt-leb b a (omega arith)

-- ---- signs
-- whether two numbers have the same sign, as code tests it: 0 goes with those above
abbrev pub alike : ℤ → ℤ → Bool
alike a b = beq (lt_z a (pos 0)) (lt_z b (pos 0))

pub both_above : (a b : ℕ) → alike (pos a) (pos b) ≡ true
both_above a b = rw (leb-suc-zero a, leb-suc-zero b)

pub above_below : (a b : ℕ) → alike (pos a) (negsuc b) ≡ false
above_below a b = rw (leb-suc-zero a)

pub below_above : (a b : ℕ) → alike (negsuc a) (pos b) ≡ false
below_above a b = rw (leb-suc-zero b)

-- ---- sums
-- z is p - n
abbrev Is : ℤ → ℕ → ℕ → Type 0
Is z p n = up z + n ≡ p + down z

cond_is : (t : Bool) (x y : ℤ) (p n : ℕ) → (t ≡ true → Is x p n) → (t ≡ false → Is y p n) → Is (cond t x y) p n
cond_is true x y p n f g = f refl
cond_is false x y p n f g = g refl

sub_is : (p n : ℕ) → Is (sub_ℕ p n) p n
sub_is p n =
    cond_is (ltb p n) (negsuc (n - suc p)) (pos (p - n)) p n (λ e. let h : p < n = ltb-true p n e in omega arith)
    (λ e. let h : n ≤ p = ltb-false p n e in omega arith)

pub sum : (a b : ℤ) → up (a +ℤ b) + (down a + down b) ≡ (up a + up b) + down (a +ℤ b)
sum (pos a) (pos b) = omega arith
sum (pos a) (negsuc b) = omega (arith, sub_is a (suc b))
sum (negsuc a) (pos b) = omega (arith, sub_is b (suc a))
sum (negsuc a) (negsuc b) = omega arith

pub up_neg : (a : ℤ) → up (neg_ℤ a) ≡ down a
up_neg (pos zero) = refl
up_neg (pos (suc n)) = refl
up_neg (negsuc n) = refl

pub down_neg : (a : ℤ) → down (neg_ℤ a) ≡ up a
down_neg (pos zero) = refl
down_neg (pos (suc n)) = refl
down_neg (negsuc n) = refl

pub diff : (a b : ℤ) → up (a -ℤ b) + (down a + up b) ≡ (up a + down b) + down (a -ℤ b)
diff a b = omega (arith, sum a (neg_ℤ b), up_neg b, down_neg b)

-- ---- the range
pub fits_of : (z : ℤ) → up z < down z + 2 ^ 63 → down z ≤ up z + 2 ^ 63 → SFits w64 z
fits_of (pos n) h k = record { sfits = omega arith }
fits_of (negsuc n) h k = record { sfits = omega arith }

pub fits_up : (z : ℤ) → SFits w64 z → up z < 2 ^ 63
fits_up (pos n) f = f.sfits
fits_up (negsuc n) f = omega arith

pub fits_down : (z : ℤ) → SFits w64 z → down z ≤ 2 ^ 63
fits_down (pos n) f = omega arith
fits_down (negsuc n) f = f.sfits

-- ---- the two parts
pub abs : (z : ℤ) → nat_abs z ≡ up z + down z
abs (pos n) = omega arith
abs (negsuc n) = omega arith

-- two whole numbers that are the same difference
pub same_of : (x y : ℤ) → up x + down y ≡ up y + down x → x ≡ y
same_of (pos m) (pos n) e = ap pos (omega arith)
same_of (pos m) (negsuc n) e = absurd (omega arith)
same_of (negsuc m) (pos n) e = absurd (omega arith)
same_of (negsuc m) (negsuc n) e = ap negsuc (omega arith)

-- ---- tests of equality on the bits
pub eqb_both : (a b x y : ℕ) → (a ≡ b → x ≡ y) → (x ≡ y → a ≡ b) → eqb a b ≡ eqb x y
eqb_both a b x y f g = by (eqb a b) refl
  where
    by : (t : Bool) → eqb a b ≡ t → t ≡ eqb x y
    by true e = sym (eq-eqb x y (f (eqb-true a b e)))
    by false e = sym (ne_eqb x y (λ q. eqb-false a b e (g q)))

pub eq_bits : (a b : ℤ) → SFits w64 a → SFits w64 b → eqb (of_z w64 a) (of_z w64 b) ≡ eq_z a b
eq_bits (pos a) (pos b) fa fb = refl
eq_bits (pos a) (negsuc b) fa fb = ne_eqb a (2 ^ 64 - suc b) (λ e. omega (arith, fa.sfits, fb.sfits))
eq_bits (negsuc a) (pos b) fa fb = ne_eqb (2 ^ 64 - suc a) b (λ e. omega (arith, fa.sfits, fb.sfits))
eq_bits (negsuc a) (negsuc b) fa fb = eqb_both (2 ^ 64 - suc a) (2 ^ 64 - suc b) a b (λ e. omega (arith, fa.sfits, fb.sfits)) (λ e. omega arith)

-- ---- a signed local holds bits: what is read back from them
pub again : {z : ℤ} → SFits w64 z → SFits w64 (to_z w64 (of_z w64 z))
again {z} f = subst (SFits w64) (sym (to_z-of_z w64 z f)) f

pub back {ℓ} : {X : Type ℓ} (f : ℤ → ℤ → X) {a b : ℤ} → SFits w64 a → SFits w64 b → f (to_z w64 (of_z w64 a)) (to_z w64 (of_z w64 b)) ≡ f a b
back f {a} {b} fa fb = λ i. f (to_z-of_z w64 a fa i) (to_z-of_z w64 b fb i)
