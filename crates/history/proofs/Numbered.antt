-- A refused step has one of the documents' numbers for steps and session lines, a failed firing one of questions 30 to 36. Assumes nothing.
use mathlib.Core.Path.{◌≡◌, refl}
use mathlib.Core.Bool.{true}
use Prim.Native.Nat.{ℕ}
use Rattle.laws.proofs.Choice.{by_cases}
use Rattle.contract.specs.Tree.{Contract}
use Rattle.contract.specs.Decode.{contract_of}
use Rattle.contract.specs.Check.{ranges}
use Rattle.contract_laws.proofs.Sound.{sound}
use Rattle.results.specs.Lines.{refusal, report_ok}
use Rattle.questions.specs.declared.Question.{Question}
use Rattle.outcomes.specs.declared.Outcome.{Outcome}
use Rattle.outcomes.specs.declared.Outcome.TheVariants.{Accepted, Failed, Refused}
use Rattle.outcomes.specs.declared.Stepped.{Stepped}
use Rattle.machine.specs.Steps.{step}
use Rattle.step_reports.specs.Reports.{report_of, report_by}
use Rattle.history.specs.Histories.{answer_to}
use Rattle.history.specs.Untouched.{number_ok, Numbered}
use Rattle.history.proofs.Reported.{request_fine}
use Rattle.history.proofs.AskedOnce.{stored_good}

-- question 53 asks the same of the step's result line
reported_number : (c : Contract) (o : Outcome Question) (q t : ℕ) → report_ok c (report_of o q t) ≡ true → number_ok o ≡ true
unfolding report_by report_ok
reported_number c (Accepted r) q t e = refl
reported_number c (Failed n) q t e = e
reported_number c (Refused n) q t e = e

pub numbered : Numbered
unfolding answer_to step refusal ranges
numbered w s a h e =
    let P : Stepped Question → Type 0 = λ r. number_ok r.outcome ≡ true in
    let c = contract_of w in
    by_cases P _ _ _
    (λ p. by_cases P _ _ _
    (λ o. by_cases P _ _ _ (λ _. reported_number c _ _ _ (request_fine c (sound w p) (stored_good c s h o) a.request e).outcome) (λ _. refl))
    (λ _. refl))
    (λ _. refl)
