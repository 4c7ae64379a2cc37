-- `numbers::apply` meets its contract. Assumes nothing.
use mathlib.Core.Path.{◌≡◌, sym, ◌∙◌}
use Prim.Native.Nat.{◌^◌, ◌<◌}
use native.Mathlib.Omega.{arith}
use lib.IntN.{ℤ}
use lib.Signed.{mag}
use mir.Syntax.{w64}
use mir.Val.{to_z, of_z}
use Rattle.numbers.specs.Numbers.{Answer, arithmetic, applied}
use Rattle.numbers.specs.declared.Value.{Value}
use Rattle.numbers.specs.declared.Value.TheVariants.{Integer}
use Rattle.numbers.specs.declared.Operator.{Operator}
use Rattle.numbers.specs.declared.Operator.TheVariants.{Plus, Minus, Times}
use Rattle.numbers.proofs.Whole.{back}
use Rattle.numbers.proofs.Range.{answered}
use Rattle.numbers.proofs.apply.Goals as goal

-- the operator and two integers that were found, read back from their bits
known : {o : Operator} {a b : Value} {x y : ℤ} {r : Answer} (p : Operator) → o ≡ p → a ≡ Integer x → b ≡ Integer y → mag x < 2 ^ 63 → mag y < 2 ^ 63
    → r ≡ arithmetic p (to_z w64 (of_z w64 x)) (to_z w64 (of_z w64 y)) → r ≡ applied o a b
known p eo ea eb fx fy e = e ∙ back (arithmetic p) (record { sfits = fx }) (record { sfits = fy }) ∙ sym (λ i. applied (eo i) (ea i) (eb i))

pub returns-in-Plus : goal.returns-in-Plus
returns-in-Plus c =
    let k = c.in-Integer-Integer in
    known Plus c.in-Plus.is k.is-0 k.is-1 (omega arith) (omega arith) (c.answer.ensures ∙ answered _ _ c.checked_add.ensures)

pub returns-in-Minus : goal.returns-in-Minus
returns-in-Minus c =
    let k = c.in-Integer-Integer in
    known Minus c.in-Minus.is k.is-0 k.is-1 (omega arith) (omega arith) (c.answer-in-Minus.ensures ∙ answered _ _ c.checked_sub.ensures)

pub returns-in-Times : goal.returns-in-Times
returns-in-Times c =
    let k = c.in-Integer-Integer in
    known Times c.in-Times.is k.is-0 k.is-1 (omega arith) (omega arith) (c.answer-in-Times.ensures ∙ answered _ _ c.checked_mul.ensures)
