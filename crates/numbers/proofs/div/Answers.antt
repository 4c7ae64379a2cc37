-- `numbers::div` meets its contract. The code's a / b is rounded towards zero: one too many where the signs differ and something is left over. Only the least integer by -1 leaves the range. Assumes nothing.
use borrow.Author.Tests.{ne_eqb, eqb-true, eqb-false}
use mathlib.Core.Path.{◌≡◌, refl, sym, ap, subst, ◌∙◌}
use mathlib.Core.Bool.{true, false}
use Prim.Native.Nat.{ℕ, zero, suc, ◌+◌, ◌/◌, ◌%◌, ◌^◌, ◌<◌, ◌≤◌}
use native.Mathlib.Nat.{zero-div, zero-mod, mod-one, div-zero, div-le_self, pos_of_ne-zero, mul-suc, suc-mul, div-add-mod', div-mul-le_self, lt-div-mul-add, le-div_iff_mul-le, div-lt_iff_lt-mul}
use native.Mathlib.Omega.{arith}
use lib.IntN.{ℤ, pos, negsuc, neg_ℤ, nat_abs, ◌-ℤ◌}
use lib.Signed.{quot_z, rem_z, mag_rem}
use mir.Syntax.{w64}
use mir.Val.{SFits, to_z, of_z}
use mir.Facts.{to_z-of_z}
use Rattle.std.specs.Prelude.{Ok, Err}
use Rattle.std.specs.Int.{CanDivide}
use Rattle.questions.specs.declared.Question.TheVariants as ask
use Rattle.laws.specs.Choice.{pick}
use Rattle.laws.proofs.Choice.{pick_false, true_false}
use Rattle.numbers.specs.Numbers.{Answer, in_range, eq_z, quotient, divided}
use Rattle.numbers.proofs.Whole.{up, down, alike, both_above, above_below, below_above, up_neg, down_neg, diff, fits_of, same_of, back}
use Rattle.numbers.proofs.Range.{is_in, outside, neg_fits}
use Rattle.numbers.specs.declared.Value.TheVariants.{Integer}
use Rattle.numbers.proofs.div.Goals.{then-a-b, else-a-b}
use Rattle.numbers.proofs.div.Goals as goal

-- ---- the divisor's bits

zero_of : (b : ℤ) → SFits w64 b → of_z w64 b ≡ 0 → b ≡ pos 0
zero_of (pos n) f e = ap pos e
zero_of (negsuc n) f e = absurd (omega (arith, f.sfits))

-- ---- n + 1 and n by d: one apart where d divides n + 1, else the same

whole : (n d : ℕ) → 0 < d → suc n % d ≡ 0 → suc n / d ≡ suc (n / d)
whole n d h e =
    let f : n / d < suc n / d = (div-lt_iff_lt-mul {k = d} {x = n} {y = suc n / d} h).1 (omega (arith, div-add-mod' (suc n) d)) in
    let g : suc n / d < suc (suc (n / d)) =
    (div-lt_iff_lt-mul {k = d} {x = suc n} {y = suc (suc (n / d))} h).1 (omega (arith, suc-mul (suc (n / d)) d, suc-mul (n / d) d, lt-div-mul-add {a = n} {b = d} h)) in
    omega arith

inexact : (n d : ℕ) → 0 < d → (suc n % d ≡ 0 → ⊥) → suc n / d ≡ n / d
inexact n d h s =
    let f : suc n / d ≤ n / d = (le-div_iff_mul-le {k = d} {x = suc n / d} {y = n} h).1 (omega (arith, div-add-mod' (suc n) d, pos_of_ne-zero s)) in
    let g : n / d ≤ suc n / d = (le-div_iff_mul-le {k = d} {x = n / d} {y = suc n} h).1 (omega (arith, div-mul-le_self n d)) in
    omega arith

-- ---- the quotient, and the code's, which is truncated

-- -(n + 1) by d: with nothing left over, and with something
below_exact : (n d : ℕ) → 0 < d → suc n % d ≡ 0 → neg_ℤ (pos (suc n / d)) ≡ negsuc (n / d)
below_exact n d h e = ap (λ (k : ℕ). neg_ℤ (pos k)) (whole n d h e)

below_inexact : (n d : ℕ) → 0 < d → (suc n % d ≡ 0 → ⊥) → neg_ℤ (pos (suc n / d)) -ℤ pos 1 ≡ negsuc (n / d)
below_inexact n d h s =
    let q = neg_ℤ (pos (suc n / d)) in
    same_of (q -ℤ pos 1) (negsuc (n / d)) (omega (arith, diff q (pos 1), up_neg (pos (suc n / d)), down_neg (pos (suc n / d)), inexact n d h s))

-- rounding down and rounding towards zero differ where the signs do and something is left over, and there by one
same_signs : (a b : ℤ) → alike a b ≡ true → quot_z a b ≡ quotient a b
same_signs (pos a) (pos b) t = refl
same_signs (pos a) (negsuc b) t = true_false (sym t ∙ above_below a b)
same_signs (negsuc a) (pos b) t = true_false (sym t ∙ below_above a b)
same_signs (negsuc a) (negsuc b) t = refl

nothing_left : (a b : ℤ) → (b ≡ pos 0 → ⊥) → rem_z a b ≡ pos 0 → quot_z a b ≡ quotient a b
nothing_left (pos a) (pos b) s e = refl
nothing_left (pos zero) (negsuc b) s e = ap (λ (k : ℕ). neg_ℤ (pos k)) (zero-div (suc b)) ∙ sym (ap pos (zero-div (suc b)))
nothing_left (pos (suc a)) (negsuc b) s e = below_exact a (suc b) (omega arith) (ap nat_abs e)
nothing_left (negsuc a) (pos b) s e = below_exact a b (pos_of_ne-zero λ z. s (ap pos z)) (omega (arith, down_neg (pos (suc a % b)), ap down e))
nothing_left (negsuc a) (negsuc b) s e = refl

one_less : (a b : ℤ) → (b ≡ pos 0 → ⊥) → alike a b ≡ false → (rem_z a b ≡ pos 0 → ⊥) → quot_z a b -ℤ pos 1 ≡ quotient a b
one_less (pos a) (pos b) s t r = true_false (sym (both_above a b) ∙ t)
one_less (pos zero) (negsuc b) s t r = absurd (r (ap pos (zero-mod (suc b))))
one_less (pos (suc a)) (negsuc b) s t r = below_inexact a (suc b) (omega arith) (λ e. r (ap pos e))
one_less (negsuc a) (pos b) s t r = below_inexact a b (pos_of_ne-zero λ z. s (ap pos z)) (λ e. r (ap (λ (k : ℕ). neg_ℤ (pos k)) e))
one_less (negsuc a) (negsuc b) s t r = true_false t

-- ---- the range

-- where rounding down fits, the truncated quotient does
truncated_fits : (a b : ℤ) → SFits w64 a → SFits w64 (quotient a b) → SFits w64 (quot_z a b)
truncated_fits (pos a) (pos b) f g = g
truncated_fits (pos a) (negsuc b) f g = neg_fits (a / suc b) (omega (arith, div-le_self a (suc b), f.sfits))
truncated_fits (negsuc a) (pos b) f g = neg_fits (suc a / b) (omega (arith, div-le_self (suc a) b, f.sfits))
truncated_fits (negsuc a) (negsuc b) f g = g

-- with something left over the divisor is not 1 or -1, so the truncated quotient is at most half of a, and one less fits
half : (n d : ℕ) → (n % d ≡ 0 → ⊥) → n / d + n / d ≤ n
half n zero s = omega (arith, div-zero n)
half n (suc zero) s = absurd (s (mod-one n))
half n (suc (suc e)) s = omega (arith, div-mul-le_self n (suc (suc e)), mul-suc (n / suc (suc e)) (suc e), mul-suc (n / suc (suc e)) e)

small : (a b : ℤ) → SFits w64 a → (rem_z a b ≡ pos 0 → ⊥) → up (quot_z a b) + down (quot_z a b) ≤ 2 ^ 62
small (pos a) (pos b) f s = omega (arith, half a b (λ e. s (ap pos e)), f.sfits)
small (pos a) (negsuc b) f s = omega (arith, half a (suc b) (λ e. s (ap pos e)), up_neg (pos (a / suc b)), down_neg (pos (a / suc b)), f.sfits)
small (negsuc a) (pos b) f s =
    omega (arith, half (suc a) b (λ e. s (ap (λ (k : ℕ). neg_ℤ (pos k)) e)), up_neg (pos (suc a / b)), down_neg (pos (suc a / b)), f.sfits)
small (negsuc a) (negsuc b) f s = omega (arith, half (suc a) (suc b) (λ e. s (ap (λ (k : ℕ). neg_ℤ (pos k)) e)), f.sfits)

less_fits : (a b : ℤ) → SFits w64 a → (rem_z a b ≡ pos 0 → ⊥) → SFits w64 (quot_z a b -ℤ pos 1)
less_fits a b f s = fits_of _ (omega (arith, diff (quot_z a b) (pos 1), small a b f s)) (omega (arith, diff (quot_z a b) (pos 1), small a b f s))

module _ (a b : ℤ) (fa : SFits w64 a) (fb : SFits w64 b) (some : of_z w64 b ≡ 0 → ⊥) where
  nonzero : b ≡ pos 0 → ⊥
  nonzero e = some (ap (of_z w64) e)

  kept : (r : Answer) → r ≡ in_range (quotient a b) → r ≡ divided a b
  unfolding divided
  kept r e = e ∙ sym (pick_false (eq_z b (pos 0)) _ _ (none b some))
    where
      none : (b : ℤ) → (of_z w64 b ≡ 0 → ⊥) → eq_z b (pos 0) ≡ false
      none (pos n) s = ne_eqb n 0 s
      none (negsuc n) s = refl

  -- the remainder's bits
  rest : of_z w64 (rem_z (to_z w64 (of_z w64 a)) (to_z w64 (of_z w64 b))) ≡ of_z w64 (rem_z a b)
  rest = back (λ (x y : ℤ). of_z w64 (rem_z x y)) fa fb

  none_left : of_z w64 (rem_z (to_z w64 (of_z w64 a)) (to_z w64 (of_z w64 b))) ≡ 0 → rem_z a b ≡ pos 0
  none_left e = zero_of (rem_z a b) (record { sfits = omega (arith, mag_rem a b, fa.sfits) }) (sym rest ∙ e)

  past : (CanDivide w64 (to_z w64 (of_z w64 a)) (to_z w64 (of_z w64 b)) → ⊥) → Err ask.ResultRange ≡ divided a b
  past h =
      kept _ (outside (quotient a b) λ f.
      h (
        subst (λ (z : ℤ). 0 < of_z w64 z) (sym (to_z-of_z fb)) (pos_of_ne-zero some),
        subst (SFits w64) (sym (back quot_z fa fb)) (truncated_fits a b fa f),
      ))

  -- the library's quotient, and one less
  module _ (q : ℤ) (f : SFits w64 q) (e : q ≡ quot_z (to_z w64 (of_z w64 a)) (to_z w64 (of_z w64 b))) where
    truncated : quot_z a b ≡ quotient a b → Ok (Integer (to_z w64 (of_z w64 q))) ≡ divided a b
    truncated d = kept _ (is_in q f ∙ ap in_range (e ∙ back quot_z fa fb ∙ d))

    like : alike (to_z w64 (of_z w64 a)) (to_z w64 (of_z w64 b)) ≡ true → Ok (Integer (to_z w64 (of_z w64 q))) ≡ divided a b
    like t = truncated (same_signs a b (sym (back alike fa fb) ∙ t))

    exact : of_z w64 (rem_z (to_z w64 (of_z w64 a)) (to_z w64 (of_z w64 b))) ≡ 0 → Ok (Integer (to_z w64 (of_z w64 q))) ≡ divided a b
    exact r = truncated (nothing_left a b nonzero (none_left r))

    less : alike (to_z w64 (of_z w64 a)) (to_z w64 (of_z w64 b)) ≡ false
        → (of_z w64 (rem_z (to_z w64 (of_z w64 a)) (to_z w64 (of_z w64 b))) ≡ 0 → ⊥)
        → Ok (Integer (to_z w64 (of_z w64 (to_z w64 (of_z w64 q) -ℤ pos 1)))) ≡ divided a b
    less t r =
        let s : rem_z a b ≡ pos 0 → ⊥ = λ z. r (rest ∙ ap (of_z w64) z) in
        let z : to_z w64 (of_z w64 q) -ℤ pos 1 ≡ quot_z a b -ℤ pos 1 = ap (λ (z : ℤ). z -ℤ pos 1) (to_z-of_z f ∙ e ∙ back quot_z fa fb) in
        kept _ (is_in _ (subst (SFits w64) (sym z) (less_fits a b fa s)) ∙ ap in_range (z ∙ one_less a b nonzero (sym (back alike fa fb) ∙ t) s))

-- ---- the needs
pub returns-then-b-eq0 : goal.returns-then-b-eq0
unfolding divided pick
returns-then-b-eq0 c = rw (zero_of _ c.ranges.b c.if-b-eq0.true)

pub returns-in_default : goal.returns-in_default
returns-in_default c = past _ _ c.ranges.a c.ranges.b c.if-b-eq0.false c.in_default.ensures

pub returns-then-down : goal.returns-then-down
returns-then-down c =
    let some = c.if-b-eq0.false in
    let k = c.in-Some.ensures in
    elim c.if-a-b.branch [
      | then-a-b w ↦ like _ _ c.ranges.a c.ranges.b some _ (record { sfits = omega arith }) k.1 w.if-a-b.true
      | else-a-b w ↦ exact _ _ c.ranges.a c.ranges.b some _ (record { sfits = omega arith }) k.1 (eqb-true _ _ (sym w.down-is ∙ c.if-down.true))
    ]

pub returns-else-down : goal.returns-else-down
returns-else-down c =
    let some = c.if-b-eq0.false in
    let k = c.in-Some.ensures in
    elim c.if-a-b.branch [
      | then-a-b w ↦ true_false (sym w.if-a-b.true ∙ sym w.down-is ∙ c.if-down.false)
      | else-a-b w ↦
          less _ _ c.ranges.a c.ranges.b some _ (record { sfits = omega arith }) k.1 w.if-a-b.false (eqb-false _ _ (sym w.down-is ∙ c.if-down.false))
    ]
