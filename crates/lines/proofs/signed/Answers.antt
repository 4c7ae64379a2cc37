-- `lines::signed` meets its contract. Assumes nothing.
use mathlib.Core.Path.{◌≡◌, refl, sym, ap, ◌∙◌}
use mathlib.Core.Bool.{Bool, true, false}
use Prim.Native.Nat.{ℕ, ◌+◌, ◌^◌}
use native.Mathlib.Omega.{arith}
use Rattle.std.specs.Prelude.{Option, Some, None}
use Rattle.std.specs.Option.{SomeIff}
use lib.IntN.{ℤ, pos, neg_ℤ, ◌-ℤ◌}
use lib.Signed.{mag}
use borrow.Author.Tests.{ltb-true, lt-ltb}
use mir.Syntax.{w64}
use mir.Val.{SFits}
use Rattle.laws.specs.Choice.{pick}
use Rattle.laws.proofs.Choice.{pick_true}
use Rattle.numbers.specs.Numbers.{within}
use Rattle.numbers.proofs.Whole.{up_neg, down_neg, diff, same_of}
use Rattle.lines.specs.Private.{ranged, sign_of}
use Rattle.lines.proofs.signed.Goals as goal

-- a checked sum is the integer where it is within 64 bits
checked : (r : Option ℤ) (z : ℤ) → SomeIff r (SFits w64 z) z → r ≡ ranged z
unfolding pick
checked (Some x) z h = ap Some h.1 ∙ sym (pick_true _ _ _ (lt-ltb (mag z) (2 ^ 63) h.0.sfits))
checked None z h = go (within z) refl
  where
    go : (b : Bool) → within z ≡ b → None ≡ pick b (Some z) None
    go true e = absurd (h (record { sfits = ltb-true (mag z) (2 ^ 63) e }))
    go false e = refl

from_zero : (n : ℕ) → pos 0 -ℤ pos n ≡ neg_ℤ (pos n)
from_zero n = same_of _ _ (omega (arith, diff (pos 0) (pos n), up_neg (pos n), down_neg (pos n)))

pub returns-then-minus : goal.returns-then-minus
returns-then-minus c =
    checked _ _ c.checked_sub_unsigned.ensures ∙ ap ranged (from_zero c.args.n) ∙ ap (λ (b : Bool). ranged (sign_of b (pos c.args.n))) (sym c.if-minus.true)

pub returns-else-minus : goal.returns-else-minus
returns-else-minus c =
    let z : 0 + c.args.n ≡ c.args.n = omega arith in
    checked _ _ c.checked_add_unsigned.ensures ∙ ap (λ (k : ℕ). ranged (pos k)) z ∙ ap (λ (b : Bool). ranged (sign_of b (pos c.args.n))) (sym c.if-minus.false)
