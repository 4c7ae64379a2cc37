-- `lines::no_agreement` meets its contract. Assumes nothing.
use mathlib.Core.Path.{refl}
use Rattle.lines.specs.Answers.{agreement_of, fields_of, heads_of, spans_of, values_of}
use Rattle.lines.proofs.no_agreement.Goals as goal

pub returns : goal.returns
unfolding agreement_of fields_of heads_of spans_of values_of
returns c =
    refl
