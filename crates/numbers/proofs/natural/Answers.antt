-- `numbers::natural` meets its contract. Assumes nothing.
use mathlib.Core.Path.{ap, ◌∙◌}
use lib.IntN.{ℤ, pos}
use Rattle.std.specs.Prelude.{Option, ok_or, option_map}
use Rattle.questions.specs.declared.Question.TheVariants as ask
use Rattle.numbers.specs.declared.Value.TheVariants.{Integer}
use Rattle.numbers.proofs.Range.{answered, converted}
use Rattle.numbers.proofs.natural.Goals as goal

pub returns : goal.returns
returns c =
    c.answer.ensures
    ∙ ap (λ (r : Option ℤ). ok_or (option_map Integer r) ask.ResultRange) c.ok.ensures.value
    ∙ answered _ (pos c.args.n) (converted c.try_from.result _ c.try_from.ensures)
