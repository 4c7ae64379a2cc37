-- What comes of a step. A refused step hands back the state that it was given.
use Rattle.std.specs.Prelude.{ℕ, ◌+◌, ◌*◌, List, get_or, ℤ, pos, nat_abs}
use Rattle.laws.specs.Lists.{repeated}
use Rattle.state.specs.declared.State.{State}
use Rattle.statements.specs.declared.Label.{Label}
use Rattle.statements.specs.Running.{max_labels, label_words}
use Rattle.outcomes.specs.declared.Outcome.{Outcome}
use Rattle.outcomes.specs.declared.Outcome.TheVariants.{Refused}
use Rattle.outcomes.specs.declared.Stepped.{Stepped}

abbrev pub no_label : Label
no_label = record { kind = 0; party = 0; value = pos 0; group = 0 }

-- label i of these words
abbrev pub label_at : List ℤ → ℕ → Label
label_at words i =
    record {
      kind = nat_abs (get_or words (label_words * i) (pos 0));
      party = nat_abs (get_or words (label_words * i + 1) (pos 0));
      value = get_or words (label_words * i + 2) (pos 0);
      group = nat_abs (get_or words (label_words * i + 3) (pos 0));
    }

abbrev pub no_labels : List Label
no_labels = repeated max_labels no_label

-- an answer without labels
abbrev pub answered : {Q : Type 0} → Outcome Q → State → Stepped Q
answered o s = record { outcome = o; state = s; labels = no_labels; count = 0 }

-- a refused step hands back the state it was given
abbrev pub refused : {Q : Type 0} → State → Q → Stepped Q
refused s q = answered (Refused q) s
