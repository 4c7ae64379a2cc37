-- `statements::left_of` meets its contract. Assumes nothing.
use mathlib.Core.Path.{◌≡◌, refl, ap, ◌∙◌}
use mathlib.Core.Bool.{Bool, true, false}
use Prim.Native.Nat.{ℕ, ◌-◌, ◌≤◌}
use native.Mathlib.Omega.{arith}
use lib.Dec.{ltb}
use borrow.Author.Tests.{ltb-true, ltb-false}
use Rattle.std.specs.Prelude.{Option, None, Some, Result, Ok, Err, ok_or}
use Rattle.std.specs.Option.{SomeIff}
use Rattle.laws.specs.Choice.{pick}
use Rattle.questions.specs.declared.Question.{Question}
use Rattle.questions.specs.declared.Question.TheVariants as ask
use Rattle.statements.proofs.left_of.Goals as goal

taken : (r : Option ℕ) (h n : ℕ) → SomeIff r (n ≤ h) (h - n) → ok_or r ask.AmountHeld ≡ pick (ltb h n) (Err ask.AmountHeld) (Ok (h - n))
unfolding pick
taken r h n w = go (ltb h n) refl r w
  where
    go : (b : Bool) → ltb h n ≡ b → (o : Option ℕ) → SomeIff o (n ≤ h) (h - n) → ok_or o ask.AmountHeld ≡ pick {A = Result ℕ Question} b (Err ask.AmountHeld) (Ok (h - n))
    go true q None w = refl
    go true q (Some x) w = let l = ltb-true h n q in absurd (omega (arith, w.0))
    go false q None w = absurd (w (ltb-false h n q))
    go false q (Some x) w = ap (λ (z : ℕ). Ok z) w.1

pub returns : goal.returns
unfolding pick
returns c =
    c.ok_or.ensures.value ∙ taken c.checked_sub.result c.get_or.result c.args.n c.checked_sub.ensures ∙ ap (λ (h : ℕ). pick {A = Result ℕ Question} (ltb h c.args.n) (Err ask.AmountHeld) (Ok (h - c.args.n))) c.get_or.ensures
