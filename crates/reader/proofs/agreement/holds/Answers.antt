-- `reader::agreement::holds` meets its contract. Assumes nothing.
use mathlib.Core.Path.{refl}
use Rattle.reading_laws.specs.Masks.{holds}
use Rattle.reader.proofs.agreement.holds.Goals as goal

pub returns : goal.returns
unfolding holds
returns c = rw c.place.ensures refl
