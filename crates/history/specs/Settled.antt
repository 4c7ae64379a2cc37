-- The asset payouts of steps as entries of settlement pages (document 02, F-1).
use Rattle.std.specs.Prelude.{ℕ, List, [], ◌∷◌, ◌++◌, map}
use Rattle.statements.specs.declared.Label.{Label}
use Rattle.outcomes.specs.declared.Rule.{Rule}
use Rattle.questions.specs.declared.Question.{Question}
use Rattle.outcomes.specs.declared.Outcome.{Outcome}
use Rattle.outcomes.specs.declared.Outcome.TheVariants.{Accepted, Failed, Refused}
use Rattle.pages.specs.Entries.{Entry}
use Rattle.step_reports.specs.Reports.{rule_number}
use Rattle.history.specs.Histories.{Returned, payouts_of}

-- a label that a step sent, with its rule and the clock after it, which is the one before it: calls and firings leave the clock (`clock_left`)
abbrev pub entry_by : Rule → ℕ → Label → Entry
entry_by r clock l = record { kind = l.kind; party = l.party; rule = rule_number r; clock = clock; value = l.value; group = l.group }

-- labels of a step as entries; a failed firing and a refused step have none
abbrev pub entries_by : Outcome Question → ℕ → List Label → List Entry
entries_by (Accepted r) clock ls = map (entry_by r clock) ls
entries_by (Failed n) clock ls = []
entries_by (Refused n) clock ls = []

-- the asset payouts of a step, by what its caller holds
abbrev pub settled_by : Returned → List Entry
settled_by r = entries_by r.left.outcome r.left.state.clock (payouts_of r r.left.outcome)

-- those of steps, in order
unfoldable pub settled : List Returned → List Entry
settled [] = []
settled (r ∷ rs) = settled_by r ++ settled rs

-- entries as labels again
abbrev pub labels_in : List Entry → List Label
labels_in = map (λ e. record { kind = e.kind; party = e.party; value = e.value; group = e.group })
