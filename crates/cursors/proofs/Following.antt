-- Two lent lists that stay the same two. Assumes nothing.
use mathlib.Core.Path.{◌∙◌}
use Rattle.entries.specs.declared.Lent.{Lent}
use Rattle.entries.specs.Lending.{SameLists}

pub still_same : (a b c : Lent) → SameLists a b → SameLists b c → SameLists a c
still_same a b c h k = ((k.0.0 ∙ h.0.0, k.0.1 ∙ h.0.1), (k.1.0 ∙ h.1.0, k.1.1 ∙ h.1.1))
