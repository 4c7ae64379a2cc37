-- The floor of a / b: by every divisor but 0 `quotient` is one, no other integer is, and it is what `/` answers. Assumes nothing.
use mathlib.Core.Path.{◌≡◌, refl, sym, ap, subst, ◌∙◌}
use mathlib.Core.Bool.{Bool, true, false}
use Prim.Native.Nat.{ℕ, zero, suc, ◌+◌, ◌*◌, ◌/◌, ◌^◌, ◌<◌, ◌≤◌}
use native.Mathlib.Nat.{mul-zero, pos_of_ne-zero, div-one, div-le_self, div-lt_self, le-div_iff_mul-le, div-lt_iff_lt-mul}
use native.Mathlib.Omega.{arith}
use lib.IntN.{ℤ, pos, negsuc, neg_ℤ, ◌+ℤ◌, ◌*ℤ◌}
use lib.Signed.{le_z}
use lib.Dec.{eqb}
use borrow.Author.Tests.{ltb-true, ltb-false, eqb-true, eqb-false}
use Rattle.std.specs.Prelude.{Ok, Err}
use Rattle.laws.proofs.Choice.{pick_false, by_cases, true_false}
use Rattle.numbers.specs.declared.Value.TheVariants.{Integer, Text}
use Rattle.numbers.specs.declared.Operator.TheVariants.{Over}
use Rattle.numbers.specs.Numbers.{Answer, within, in_range, eq_z, rounded_down, quotient, divided, applied}
use Rattle.numbers.specs.Floor.{not_above, Floor}
use Rattle.numbers.proofs.Whole.{up, down, least, le_true, le_false, le_of, gt_of, up_neg, down_neg, sum, same_of}

-- ---- the integers not above a / b are those up to the quotient

abbrev Le : ℤ → ℤ → Type 0
Le a b = up a + down b ≤ up b + down a

le_both : (a b x y : ℤ) → (Le a b → Le x y) → (Le x y → Le a b) → le_z a b ≡ le_z x y
le_both a b x y f g = by (le_z a b) refl
  where
    by : (t : Bool) → le_z a b ≡ t → t ≡ le_z x y
    by true e = sym (le_of x y (f (le_true a b e)))
    by false e = sym (not_le (le_z x y) refl)
      where
        not_le : (t : Bool) → le_z x y ≡ t → le_z x y ≡ false
        not_le true t = absurd (omega (arith, g (le_true x y t), le_false a b e))
        not_le false t = t

-- by a divisor above 0
up_to_down : (z x : ℤ) (d : ℕ) → 0 < d → le_z (x *ℤ pos d) z ≡ le_z x (rounded_down z d)
up_to_down (pos n) (pos m) d h =
    le_both (pos (m * d)) (pos n) (pos m) (pos (n / d)) (λ l. omega (arith, (le-div_iff_mul-le {k = d} {x = m} {y = n} h).1 (omega arith)))
    (λ l. omega (arith, (le-div_iff_mul-le {k = d} {x = m} {y = n} h).0 (omega arith)))
up_to_down (pos n) (negsuc m) d h =
    le_both (neg_ℤ (pos (suc m * d))) (pos n) (negsuc m) (pos (n / d)) (λ l. omega arith) (λ l. omega (arith, up_neg (pos (suc m * d)), down_neg (pos (suc m * d))))
up_to_down (negsuc n) (pos m) d h = le_both (pos (m * d)) (negsuc n) (pos m) (negsuc (n / d)) (λ l. omega arith) (λ l. omega arith)
up_to_down (negsuc n) (negsuc m) d h =
    le_both (neg_ℤ (pos (suc m * d))) (negsuc n) (negsuc m) (negsuc (n / d))
    (λ l. omega (arith, (div-lt_iff_lt-mul {k = d} {x = n} {y = suc m} h).1 (omega (arith, up_neg (pos (suc m * d)), down_neg (pos (suc m * d))))))
    (λ l. omega (arith, up_neg (pos (suc m * d)), down_neg (pos (suc m * d)), (div-lt_iff_lt-mul {k = d} {x = n} {y = suc m} h).0 (omega arith)))

-- a divisor below 0 turns the order, and the dividend's sign turns it back
turned : (a z : ℤ) (b : ℕ) → le_z a (z *ℤ negsuc b) ≡ le_z (z *ℤ pos (suc b)) (neg_ℤ a)
turned a (pos m) b =
    le_both a (neg_ℤ (pos (m * suc b))) (pos (m * suc b)) (neg_ℤ a) (λ l. omega (arith, up_neg a, down_neg a, up_neg (pos (m * suc b)), down_neg (pos (m * suc b))))
    (λ l. omega (arith, up_neg a, down_neg a, up_neg (pos (m * suc b)), down_neg (pos (m * suc b))))
turned a (negsuc m) b =
    le_both a (pos (suc m * suc b)) (neg_ℤ (pos (suc m * suc b))) (neg_ℤ a)
    (λ l. omega (arith, up_neg a, down_neg a, up_neg (pos (suc m * suc b)), down_neg (pos (suc m * suc b))))
    (λ l. omega (arith, up_neg a, down_neg a, up_neg (pos (suc m * suc b)), down_neg (pos (suc m * suc b))))

up_to : (a b : ℤ) → eq_z b (pos 0) ≡ false → (z : ℤ) → not_above a b z ≡ le_z z (quotient a b)
up_to a (pos b) h z = up_to_down a z b (pos_of_ne-zero (eqb-false b 0 h))
up_to a (negsuc b) h z = turned a z b ∙ up_to_down (neg_ℤ a) z (suc b) (omega arith)

-- ---- the floor

pub floor : (a b : ℤ) → eq_z b (pos 0) ≡ false → Floor a b (quotient a b)
floor a b h =
    let q = quotient a b in
    record {
      not-above = up_to a b h q ∙ le_of q q (omega arith);
      next_above = up_to a b h (q +ℤ pos 1) ∙ gt_of (q +ℤ pos 1) q (omega (arith, sum q (pos 1)));
    }

times_zero : (z : ℤ) → z *ℤ pos 0 ≡ pos 0
times_zero (pos m) = ap pos (mul-zero m)
times_zero (negsuc m) = ap (λ (k : ℕ). neg_ℤ (pos k)) (mul-zero (suc m))

-- by 0 there is none
divisor : (a b q : ℤ) → Floor a b q → eq_z b (pos 0) ≡ false
divisor a (pos b) q f = by (eqb b 0) refl
  where
    flat : (z : ℤ) → eqb b 0 ≡ true → not_above a (pos b) z ≡ le_z (pos 0) a
    flat z t = ap (λ (x : ℤ). le_z x a) (ap (λ (k : ℕ). z *ℤ pos k) (eqb-true b 0 t) ∙ times_zero z)

    by : (t : Bool) → eqb b 0 ≡ t → eqb b 0 ≡ false
    by true t = true_false (sym f.not-above ∙ flat q t ∙ sym (flat (q +ℤ pos 1) t) ∙ f.next_above)
    by false t = t
divisor a (negsuc b) q f = refl

pub one_floor : (a b q : ℤ) → Floor a b q → q ≡ quotient a b
one_floor a b q f =
    let h = divisor a b q f in
    same_of q (quotient a b)
    (omega (arith, le_true q (quotient a b) (sym (up_to a b h q) ∙ f.not-above), le_false (q +ℤ pos 1) (quotient a b) (sym (up_to a b h (q +ℤ pos 1)) ∙ f.next_above), sum q (pos 1)))

-- document 02's words: every integer not above a / b is at most the floor
pub greatest : (a b q z : ℤ) → Floor a b q → not_above a b z ≡ true → le_z z q ≡ true
greatest a b q z f e = ap (le_z z) (one_floor a b q f) ∙ sym (up_to a b (divisor a b q f) z) ∙ e

-- ---- what `/` answers: the floor where it is within 64 bits, else 32

pub over_floor : (a b q : ℤ) → Floor a b q → applied Over (Integer a) (Integer b) ≡ in_range q
unfolding divided
over_floor a b q f = pick_false (eq_z b (pos 0)) _ _ (divisor a b q f) ∙ ap in_range (sym (one_floor a b q f))

abbrev Gives : ℤ → ℤ → Answer → Type 0
Gives a b (Ok (Integer q)) = Floor a b q
Gives a b (Ok (Text n)) = ⊥
Gives a b (Err q) = Unit {0}

gives : (a b : ℤ) → Gives a b (divided a b)
unfolding divided in_range
gives a b = by_cases (Gives a b) _ _ _ (λ _. tt) (λ h. by_cases (Gives a b) _ _ _ (λ _. floor a b h) (λ _. tt))

pub over_gives : (a b q : ℤ) → applied Over (Integer a) (Integer b) ≡ Ok (Integer q) → Floor a b q
over_gives a b q e = subst (Gives a b) e (gives a b)

-- of two integers within 64 bits only the least by -1 is 32
pub only_least : (a b : ℤ) → within a ≡ true → within (quotient a b) ≡ false → (a ≡ least) × (b ≡ negsuc 0)
only_least (pos a) (pos b) h g = absurd (omega (arith, ltb-true a (2 ^ 63) h, ltb-false (a / b) (2 ^ 63) g, div-le_self a b))
only_least (negsuc a) (pos b) h g = absurd (omega (arith, ltb-true a (2 ^ 63) h, ltb-false (a / b) (2 ^ 63) g, div-le_self a b))
only_least (pos zero) (negsuc b) h g = absurd (omega (arith, ltb-false (0 / suc b) (2 ^ 63) g, div-le_self 0 (suc b)))
only_least (pos (suc a)) (negsuc b) h g = absurd (omega (arith, ltb-true (suc a) (2 ^ 63) h, ltb-false (a / suc b) (2 ^ 63) g, div-le_self a (suc b)))
only_least (negsuc a) (negsuc zero) h g = (ap negsuc (omega (arith, ltb-true a (2 ^ 63) h, ltb-false (suc a / 1) (2 ^ 63) g, div-one (suc a))), refl)
only_least (negsuc a) (negsuc (suc b)) h g =
    absurd (omega (arith, ltb-true a (2 ^ 63) h, ltb-false (suc a / suc (suc b)) (2 ^ 63) g, div-lt_self {n = suc a} {k = suc (suc b)} (omega arith) (omega arith)))
