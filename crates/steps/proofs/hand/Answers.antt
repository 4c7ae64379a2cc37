-- `steps::hand` meets its contract. Assumes nothing.
use Rattle.std.proofs.Common.{ℕ, List, ◌++◌, take, drop, refl, ap, ◌∙◌}
use Rattle.statements.specs.declared.Label.{Label}
use Rattle.steps.specs.Left.{copied_of}
use Rattle.steps.proofs.hand.Goals as goal

pub returns : goal.returns
unfolding copied_of
returns c =
    let old = c.args.labels.now in (
      refl,
      ap (λ (l : List Label). l ++ drop c.count-m.result old) c.copy_from_slice.ensures.after
          ∙ ap (λ (k : ℕ). take k c.args.r.labels ++ drop k old) c.count-m.ensures,
    )
