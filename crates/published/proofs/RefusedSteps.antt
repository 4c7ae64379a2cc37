-- A step that is not refused came out by its rule, and no rule gives a refused one. Assumes nothing.
use mathlib.Core.Path.{◌≡◌, refl, sym, ap, ◌∙◌}
use mathlib.Core.Bool.{true}
use mathlib.Core.List.{List, [], map}
use mathlib.Core.Logic.{◌⊎◌, inl, inr}
use lib.ListN.{take}
use Rattle.questions.specs.declared.Question.{Question}
use Rattle.contract.specs.Tree.{Contract}
use Rattle.contract.proofs.Fitting.{FitsContract}
use Rattle.state.specs.declared.State.{State}
use Rattle.statements.specs.declared.Label.{Label}
use Rattle.outcomes.specs.declared.Rule.TheVariants.{Agree, Call, EventMatch, Tick}
use Rattle.outcomes.specs.declared.Outcome.{Outcome}
use Rattle.outcomes.specs.declared.Outcome.TheVariants.{Accepted, Failed}
use Rattle.outcomes.specs.declared.Stepped.{Stepped}
use Rattle.machine.specs.Steps.{Request, agreement, call, firing, tick, jump}
use Rattle.history.specs.Histories.{is_refused}
use Rattle.history.proofs.Cases.{ComesOut, refusal, agrees, calls, fires, fails, ticks, jumps}
use Rattle.history.proofs.ContractBounds.{Bounded}
use Rattle.published.specs.Published.{as_published, Configuration, idle, IsRefused, Comes}
use Rattle.published.proofs.Calls.{call_counts}
use Rattle.published.proofs.Firings.{handler_counts}

-- an answer by this rule, whatever it sends and leads to
abbrev pub By : Outcome Question → Stepped Question → Type 0
By o r = Comes r o (map as_published (take r.count r.labels)) (idle r.state)

-- an answer by the rule of a request
abbrev pub ByRule : Request → Stepped Question → Type 0
ByRule (agreement ps) r = Comes r (Accepted Agree) [] (idle r.state)
ByRule (call i) r = By (Accepted Call) r
ByRule firing r = By (Accepted EventMatch) r ⊎ ((n : Question) × Comes r (Failed n) [] (idle r.state))
ByRule tick r = Comes r (Accepted Tick) [] (idle r.state)
ByRule (jump T) r = Comes r (Accepted Tick) [] (idle r.state)

pub refused_or_by : (c : Contract) → FitsContract c → Bounded c → {s : State} {q : Request} {r : Stepped Question} → ComesOut c s q r → IsRefused s r ⊎ ByRule q r
refused_or_by c t b (refusal n) = inl (n, refl)
refused_or_by c t b (agrees ps a) = inr (record { outcome_is = refl; count_is = refl; labels_are = refl; leads_to = refl })
refused_or_by c t b {s} (calls i n f ps o) = inr (record { outcome_is = refl; count_is = call_counts c t s i n f o.runs o.went; labels_are = refl; leads_to = refl })
refused_or_by c t b {s} (fires k a d h) = inr (inl (record { outcome_is = refl; count_is = handler_counts c b s k h; labels_are = refl; leads_to = refl }))
refused_or_by c t b (fails k n a d h) = inr (inr (_, record { outcome_is = refl; count_is = refl; labels_are = refl; leads_to = refl }))
refused_or_by c t b (ticks a d l) = inr (record { outcome_is = refl; count_is = refl; labels_are = refl; leads_to = refl })
refused_or_by c t b (jumps T a d l) = inr (record { outcome_is = refl; count_is = refl; labels_are = refl; leads_to = refl })

pub not_fired : {r : Stepped Question} → (By (Accepted EventMatch) r → ⊥) → ((n : Question) → Comes r (Failed n) [] (idle r.state) → ⊥) → ByRule firing r → ⊥
not_fired f g (inl x) = f x
not_fired f g (inr x) = g x.0 x.1

pub comes_refused : {s : State} {r : Stepped Question} {o : Outcome Question} {ls : List Label} {C : Configuration} → IsRefused s r → Comes r o ls C → is_refused o ≡ true
comes_refused x y = ap is_refused (sym y.outcome_is) ∙ ap (λ (r : Stepped Question). is_refused r.outcome) x.1
