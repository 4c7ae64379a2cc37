-- The result lines of a step: what came of it, then its labels.
use Rattle.std.specs.Prelude.{ℕ, zero, suc, ◌+◌, ◌/◌, min, Bool, List, [], ◌∷◌, ◌++◌, length, take, leb, ℤ}
use Rattle.questions.specs.declared.Question.{Question}
use Rattle.questions.specs.Numbers.{number_of}
use Rattle.statements.specs.declared.Label.{Label}
use Rattle.statements.specs.Running.{max_labels}
use Rattle.results.specs.declared.Report.{Report}
use Rattle.results.specs.declared.Report.TheVariants as report
use Rattle.outcomes.specs.declared.Rule.{Rule}
use Rattle.outcomes.specs.declared.Rule.TheVariants.{Agree, Call, EventMatch, Tick}
use Rattle.outcomes.specs.declared.Outcome.{Outcome}
use Rattle.outcomes.specs.declared.Outcome.TheVariants as outcome
use Rattle.outcomes.specs.declared.Stepped.{Stepped}
use Rattle.outcomes.specs.Outcomes.{label_at}
use Rattle.step_reports.specs.declared.Done.{Done}

-- a rule's number in a result line
abbrev pub rule_number : Rule → ℕ
rule_number Agree = 0
rule_number Call = 1
rule_number EventMatch = 2
rule_number Tick = 3

-- what came of a step, with the state's number and the clock after it, where a refusal has this number
unfoldable pub report_by : {Q : Type 0} → (Q → ℕ) → Outcome Q → ℕ → ℕ → Report
report_by number (outcome.Accepted r) state clock = report.Ruled (rule_number r) state clock
report_by number (outcome.Failed q) state clock = report.Failed (number q)
report_by number (outcome.Refused q) state clock = report.Refused (number q)

-- the same of a refusal by a question
abbrev pub report_of : Outcome Question → ℕ → ℕ → Report
report_of o state clock = report_by number_of o state clock

abbrev pub label_report : Label → Report
label_report l = report.Sent l.kind l.party l.value l.group

unfoldable pub label_reports : List Label → List Report
label_reports [] = []
label_reports (l ∷ ls) = label_report l ∷ label_reports ls

-- the result lines of a step
unfoldable pub told : Stepped Question → List Report
told t = report_of t.outcome t.state.state t.state.clock ∷ label_reports (take t.count t.labels)

-- a step has at most so many result lines: what came of it, and 64 labels
abbrev pub max_told : ℕ
max_told = suc max_labels

-- how many result lines go into so many numbers, four each, and integers, one each
abbrev pub room_in : ℕ → ℕ → ℕ
room_in numbers integers = min (numbers / 4) integers

-- the result lines of any step fit into these numbers and integers from line n on
abbrev pub has_room : List ℕ → List ℤ → ℕ → Bool
has_room numbers integers n = leb (n + max_told) (room_in (length numbers) (length integers))

-- the first n labels of these words as result lines
unfoldable pub sent : ℕ → List ℤ → List Report
sent zero words = []
sent (suc n) words = sent n words ++ (label_report (label_at words n) ∷ [])

-- the result lines of a step whose labels stand in these words
abbrev pub step_reports_by : {Q : Type 0} → (Q → ℕ) → Outcome Q → ℕ → ℕ → ℕ → List ℤ → List Report
step_reports_by number o state clock count words = report_by number o state clock ∷ sent (min count max_labels) words

abbrev pub step_reports : Outcome Question → ℕ → ℕ → ℕ → List ℤ → List Report
step_reports o state clock count words = step_reports_by number_of o state clock count words

abbrev pub reports_by : {Q : Type 0} → (Q → ℕ) → Done Q → List Report
reports_by number d = step_reports_by number d.outcome d.state d.clock d.count d.labels.now

abbrev pub reports_of : Done Question → List Report
reports_of d = reports_by number_of d
