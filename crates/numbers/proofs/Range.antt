-- What `in_range` gives, from the linear facts of `Whole.antt`. Assumes nothing.
use mathlib.Core.Path.{◌≡◌, refl, sym, ap, ◌∙◌}
use mathlib.Core.Bool.{Bool, true, false}
use Prim.Native.Nat.{ℕ, ◌^◌, ◌≤◌}
use native.Mathlib.Omega.{arith}
use lib.IntN.{ℤ, pos, neg_ℤ}
use lib.Signed.{mag}
use lib.Dec.{ltb}
use borrow.Author.Tests.{lt-ltb, ltb-true}
use mir.Syntax.{w64}
use mir.Val.{SFits, to_z, of_z}
use mir.ValLaws.{to_z-of_z}
use Rattle.std.specs.Prelude.{Option, Result, OkIff, Some, None, SomeIff, Ok, Err, ok_or, option_map}
use Rattle.std.specs.Result.{result_ok}
use Rattle.questions.specs.declared.Question.TheVariants as ask
use Rattle.laws.specs.Choice.{pick}
use Rattle.laws.proofs.Choice.{pick_true}
use Rattle.numbers.specs.Numbers.{within, in_range}
use Rattle.numbers.specs.declared.Value.TheVariants.{Integer}
use Rattle.numbers.proofs.Whole.{fits_of, up_neg, down_neg}

inside : (z : ℤ) → SFits w64 z → Ok (Integer z) ≡ in_range z
unfolding in_range
inside z f = sym (pick_true _ _ _ (lt-ltb (mag z) (2 ^ 63) f.sfits))

-- the number as it is read back from its bits
pub is_in : (z : ℤ) → SFits w64 z → Ok (Integer (to_z w64 (of_z w64 z))) ≡ in_range z
is_in z f = ap (λ (y : ℤ). Ok (Integer y)) (to_z-of_z w64 z f) ∙ inside z f

pub outside : (z : ℤ) → (SFits w64 z → ⊥) → Err ask.ResultRange ≡ in_range z
unfolding in_range pick
outside z f = go (ltb (mag z) (2 ^ 63)) refl
  where
    go : (t : Bool) → within z ≡ t → Err ask.ResultRange ≡ pick t (Ok (Integer z)) (Err ask.ResultRange)
    go true e = absurd (f (record { sfits = ltb-true (mag z) (2 ^ 63) e }))
    go false e = refl

-- an integer that the library worked out where 64 bits hold it
pub answered : (r : Option ℤ) (z : ℤ) → SomeIff r (SFits w64 z) z → ok_or (option_map Integer r) ask.ResultRange ≡ in_range z
answered None z f = outside z f
answered (Some x) z (f, e) = ap (λ (y : ℤ). Ok (Integer y)) e ∙ inside z f

-- -n, for the magnitudes that fit
pub neg_fits : (n : ℕ) → n ≤ 2 ^ 63 → SFits w64 (neg_ℤ (pos n))
neg_fits n h = fits_of (neg_ℤ (pos n)) (omega (arith, up_neg (pos n), down_neg (pos n))) (omega (arith, up_neg (pos n), down_neg (pos n)))

-- the same of an answer with an error of the library's
pub converted : {E : Type 0} (r : Result ℤ E) (z : ℤ) → OkIff r (SFits w64 z) z → SomeIff (result_ok r) (SFits w64 z) z
converted (Ok x) z h = h
converted (Err e) z h = h
