-- `lines::Agreement::add_field` meets its contract. Assumes nothing.
use Rattle.std.proofs.Common.{rules}
use Rattle.lines.specs.Answers.{spans_of, values_of}
use Rattle.lines.proofs.Agreement.add_field.Goals as goal

pub returns : goal.returns
unfolding spans_of values_of
returns c = search rules
