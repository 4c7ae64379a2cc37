-- `machine::clear` meets its contract. Assumes nothing.
use Rattle.laws.specs.Lists.{repeated}
use Rattle.outcomes.proofs.Labels.{no_labels_lem}
use Rattle.machine.proofs.clear.Goals as goal

pub returns : goal.returns
unfolding repeated
returns c = no_labels_lem
