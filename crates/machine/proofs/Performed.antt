-- What a call begins with, and its end after its body has run. Assumes nothing.
use mathlib.Core.Path.{◌≡◌, sym, ap, ◌∙◌}
use mathlib.Core.List.{List}
use Prim.Native.Nat.{ℕ}
use lib.IntN.{ℤ}
use Rattle.contract.specs.Tree.{Function}
use Rattle.state.specs.declared.State.{State}
use Rattle.statements.specs.declared.Label.{Label}
use Rattle.statements.specs.declared.Runner.{Runner}
use Rattle.statements.specs.Running.{Work, work_from, labels_from}
use Rattle.statements.specs.Lending.{work_of}
use Rattle.machine.proofs.Replies.{left_in}
use Rattle.outcomes.specs.Outcomes.{no_labels, refused}
use Rattle.holdings.specs.Holdings.{amounts, holdings_of}
use Rattle.machine.specs.Steps.{begun, finished}
use Rattle.machine.specs.Private.{reply_of, stepped_in, ended_call}
use Rattle.std.specs.Prelude.{None, Result, Ok, Err}
use Rattle.questions.specs.declared.Question.{Question}
use Rattle.outcomes.specs.declared.Stepped.{Stepped}

-- ---- a call's begin
pub begins : (s : State) (a : List ℤ) (h : List ℕ) → h ≡ holdings_of s.assets a → work_from s.kinds s.numbers s.texts h no_labels 0 None ≡ begun s (amounts a)
unfolding holdings_of
begins s a h e = ap (λ (x : List ℕ). work_from s.kinds s.numbers s.texts x no_labels 0 None) e

-- ---- a refused call, with no labels
pub turned : (s : State) (q : Question) (words : List ℤ) → labels_from words ≡ no_labels → (t : Stepped Question) → refused s q ≡ t → stepped_in (reply_of (Err q)) s words ≡ t
turned s q words h t e = (λ i. record { outcome = (refused s q).outcome; state = s; labels = h i; count = 0 }) ∙ e

-- ---- a call's end

-- the body has run on lent lists; its end goes by the work that they hold
module _ (s : State) (n : ℕ) (f : Function) (v : List ℤ) (y : Work) (r : Runner) (run : work_of r ≡ y) {kinds : List ℕ} {numbers : List ℤ} {texts holdings : List ℕ} (words : List ℤ)
    (x : State) (o : Result Unit Question)
    (ends : (k : ℕ) (ls : List Label) → ended_call o x ls k ≡ finished s n f v (work_from kinds numbers texts holdings ls k None))
    (a : kinds ≡ r.kinds.now) (b : numbers ≡ r.numbers.now) (d : texts ≡ r.texts.now) (e : holdings ≡ r.holdings.now) (g : words ≡ r.labels.now) where
  ended_so : ended_call o x (labels_from words) r.count ≡ finished s n f v y
  ended_so = ends r.count (labels_from words) ∙ ap (finished s n f v) (left_in r kinds numbers texts holdings words a b d e g ∙ run)

  pub performed_sends : o ≡ Ok tt → stepped_in (reply_of (Ok r.count)) x words ≡ finished s n f v y
  performed_sends h = ap (λ (z : Result Unit Question). ended_call z x (labels_from words) r.count) (sym h) ∙ ended_so

  pub performed_nothing : (q : Question) → o ≡ Err q → (none : List ℤ) → labels_from none ≡ no_labels → stepped_in (reply_of (Err q)) x none ≡ finished s n f v y
  performed_nothing q h none z =
      turned x q none z _ (ap (λ (w : Result Unit Question). ended_call w x (labels_from words) r.count) (sym h) ∙ ended_so)
