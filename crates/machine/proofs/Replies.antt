-- What statements begin with, and a step that sends nothing. Assumes nothing.
use mathlib.Core.Path.{◌≡◌, ap, ◌∙◌}
use mathlib.Core.List.{List}
use Prim.Native.Nat.{ℕ}
use lib.IntN.{ℤ}
use Rattle.state.specs.declared.State.{State}
use Rattle.std.specs.Prelude.{None}
use Rattle.statements.specs.declared.Label.{Label}
use Rattle.statements.specs.Running.{work_from, labels_from}
use Rattle.statements.specs.Lending.{work_of}
use Rattle.questions.specs.declared.Question.{Question}
use Rattle.outcomes.specs.declared.Outcome.{Outcome}
use Rattle.outcomes.specs.declared.Stepped.{Stepped}
use Rattle.machine.specs.declared.Reply.{Reply}
use Rattle.statements.specs.declared.Runner.{Runner}
use Rattle.outcomes.specs.Outcomes.{no_labels, answered}
use Rattle.holdings.specs.Holdings.{amounts}
use Rattle.machine.specs.Steps.{begun}
use Rattle.holdings.specs.Holdings.{holdings_of}
use Rattle.machine.specs.Private.{silent, stepped_in}

-- ---- a step that sends nothing
pub quiet : (o : Outcome Question) (s : State) (words : List ℤ) → labels_from words ≡ no_labels → stepped_in (silent o) s words ≡ answered o s
quiet o s words h = λ i. record { outcome = o; state = s; labels = h i; count = 0 }

-- an answer by another name
pub in_reply : {r q : Reply} {s : State} (words : List ℤ) {t : Stepped Question} → r ≡ q → stepped_in q s words ≡ t → stepped_in r s words ≡ t
in_reply {r} {q} {s} words {t} e f = ap (λ (x : Reply). stepped_in x s words) e ∙ f

pub quiet_as : {o : Outcome Question} {r : Reply} {s : State} (words : List ℤ) {t : Stepped Question} → r ≡ silent o → labels_from words ≡ no_labels → answered o s ≡ t → stepped_in r s words ≡ t
quiet_as {o} {r} {s} words {t} e h f = in_reply words e (quiet o s words h ∙ f)

-- ---- what a runner leaves in the lists that it was lent
pub left_in : (r : Runner) (kinds : List ℕ) (numbers : List ℤ) (texts holdings : List ℕ) (words : List ℤ) → kinds ≡ r.kinds.now → numbers ≡ r.numbers.now → texts ≡ r.texts.now
    → holdings ≡ r.holdings.now → words ≡ r.labels.now → work_from kinds numbers texts holdings (labels_from words) r.count None ≡ work_of r
left_in r kinds numbers texts holdings words a b d e f = λ i. work_from (a i) (b i) (d i) (e i) (labels_from (f i)) r.count None

-- what statements begin with
pub started : (s : State) (zs : List ℤ) (h : List ℕ) (ls : List Label) → h ≡ holdings_of s.assets zs → ls ≡ no_labels → work_from s.kinds s.numbers s.texts h ls 0 None ≡ begun s (amounts zs)
unfolding holdings_of
started s zs h ls e f = λ i. work_from s.kinds s.numbers s.texts (e i) (f i) 0 None
