-- What is refused writes nothing: no label, no state, no table, no result line. Assumes nothing.
use mathlib.Core.Path.{◌≡◌, refl, sym, ap, ◌∙◌}
use mathlib.Core.Bool.{Bool, true, false, cond}
use mathlib.Core.List.{List, [], ◌++◌}
use Prim.Native.Nat.{ℕ, min}
use lib.ListN.{length, take, drop}
use lib.Seq.{sets}
use lib.Dec.{leb, ltb}
use lib.IntN.{ℤ}
use Rattle.laws.specs.Choice.{pick}
use Rattle.laws.proofs.Choice.{true_false, pick_false}
use Rattle.contract.specs.Tree.{Contract}
use Rattle.contract.specs.Decode.{contract_of}
use Rattle.contract.specs.Check.{passes}
use Rattle.contract.specs.Encode.{zeros}
use Rattle.contract_laws.proofs.Sound.{zeros_fail}
use Rattle.reading.specs.Reading.{refused, read_text, table_of}
use Rattle.state.specs.declared.State.{State}
use Rattle.state.specs.States.{state_ok}
use Rattle.statements.specs.declared.Label.{Label}
use Rattle.results.specs.declared.Report.{Report}
use Rattle.results.specs.Coded.{coded_all, integers_of}
use Rattle.results.proofs.Refusals.{refused_writes_nothing}
use Rattle.pages.proofs.Filling.{refused_untouched}
use Rattle.outcomes.specs.declared.Outcome.TheVariants.{Refused}
use Rattle.outcomes.specs.declared.Stepped.{Stepped}
use Rattle.machine.specs.Steps.{Request, step}
use Rattle.step_reports.specs.Reports.{max_told}
use Rattle.machine.specs.Sessions.{session, played, reports_of}
use Rattle.steps.specs.Left.{copied_of}
use Rattle.history.specs.Histories.{Step, answer_to, returned, is_refused}
use Rattle.history.specs.Untouched.{by_rule, Untouched}
use Rattle.history.proofs.Cases.{ComesOut, refusal, agrees, calls, fires, fails, ticks, jumps, Answers, first_refusal, by_rule_lem, answered_so}
use Rattle.questions.specs.declared.Question.TheVariants as ask
use Rattle.std.specs.Prelude.{Ok, Err}
use Rattle.questions.specs.declared.Question.{Question}
use Rattle.machine.specs.declared.Played.{Played}
use Rattle.lines.specs.Lines.{Asked}
use Rattle.lines.specs.Answers.{numbers_after}

-- an answer that no rule accepts has no label, and a refusal has the state it was given
pub record Idle (s : State) (r : Stepped Question) : Type 0 where
  pub no_labels : by_rule r.outcome ≡ false → r.count ≡ 0
  pub state_same : is_refused r.outcome ≡ true → r.state ≡ s

accepted_idle : {s : State} (r : Stepped Question) → by_rule r.outcome ≡ true → is_refused r.outcome ≡ false → Idle s r
accepted_idle r a e = record { no_labels = λ f. true_false (sym a ∙ f); state_same = λ f. true_false (sym f ∙ e) }

came_idle : {s : State} {q : Request} (c : Contract) {r : Stepped Question} → ComesOut c s q r → Idle s r
came_idle c (refusal n) = record { no_labels = λ _. refl; state_same = λ _. refl }
came_idle c (agrees ps a) = accepted_idle _ refl refl
came_idle c (calls i n f ps o) = accepted_idle _ refl refl
came_idle c (fires k a d h) = accepted_idle _ refl refl
came_idle c (fails k n a d h) = record { no_labels = λ _. refl; state_same = λ f. true_false (sym f) }
came_idle c (ticks a d l) = accepted_idle _ refl refl
came_idle c (jumps T a d l) = accepted_idle _ refl refl

answer_idle : {w : List ℕ} {s : State} {a : Step} {r : Stepped Question} → Answers w s a r → Idle s r
answer_idle (first_refusal n) = record { no_labels = λ _. refl; state_same = λ _. refl }
answer_idle {w} (by_rule_lem p o h c) = came_idle (contract_of w) c

pub step_idle : (w : List ℕ) (s : State) (a : Step) → Idle s (answer_to w s a)
step_idle w s a = answer_idle (answered_so w s a)

-- ---- lent slices

-- no entry is written, whatever the slice's length
none_written : (t : Bool) → cond t 0 (min 64 0) ≡ 0
none_written true = refl
none_written false = refl

none_copied : (old from : List Label) → copied_of old from 0 ≡ old
unfolding copied_of
none_copied old from = ap (λ (n : ℕ). take n from ++ drop n old) (none_written (ltb (length old) 64))

labels_same : (w : List ℕ) (s : State) (a : Step) → by_rule (answer_to w s a).outcome ≡ false → (returned w s a).slice ≡ a.slice
labels_same w s a e =
    let r = answer_to w s a in
    ap (λ (n : ℕ). copied_of a.slice r.labels n) ((step_idle w s a).no_labels e) ∙ none_copied a.slice r.labels

-- ---- a lent table

table_zeros : (text : List ℕ) (words q p : ℕ) → read_text text words ≡ refused q p → table_of words (read_text text words) ≡ zeros words
table_zeros text words q p e = ap (table_of words) e

-- question 3 comes first
step_unread : (w : List ℕ) (s : State) (a : Step) → passes w ≡ false → (answer_to w s a).outcome ≡ Refused ask.TableCheck
unfolding answer_to step
step_unread w s a e = ap (λ (r : Stepped Question). r.outcome) (pick_false _ _ _ e)

zeros_unread : (text : List ℕ) (words q p : ℕ) (s : State) (a : Step) → read_text text words ≡ refused q p
    → (answer_to (table_of words (read_text text words)) s a).outcome ≡ Refused ask.TableCheck
zeros_unread text words q p s a e = step_unread _ s a (ap passes (table_zeros text words q p e) ∙ zeros_fail words)

-- ---- a session

-- question 3, 4 or 20 has done nothing and told nothing
nothing_told : (a b d : Bool) (p : Played) (rs : List Report) (q : Question)
    → pick a (pick b (pick d (Ok p) (Err ask.LabelRoom)) (Err ask.StateRanges)) (Err ask.TableCheck) ≡ Err q → pick a (pick b (pick d rs []) []) [] ≡ []
unfolding pick
nothing_told true true true p rs q h = cc
nothing_told true true false p rs q h = refl
nothing_told true false d p rs q h = refl
nothing_told false b d p rs q h = refl

module _ (w : List ℕ) (s : State) (bytes : List ℕ) (room : ℕ) (q : Question) (h : played w s bytes room ≡ Err q) where
  refused_session : reports_of w s bytes room ≡ []
  unfolding played reports_of
  refused_session = let c = contract_of w in nothing_told (passes w) (state_ok c s) (leb max_told room) _ (session c bytes room s).reports q h

  lists_same : (numbers : List ℕ) (integers : List ℤ)
      → (sets numbers 0 (coded_all (reports_of w s bytes room)) ≡ numbers) × (sets integers 0 (integers_of (reports_of w s bytes room)) ≡ integers)
  unfolding coded_all integers_of
  lists_same numbers integers = (
    ap (λ (l : List Report). sets numbers 0 (coded_all l)) refused_session,
    ap (λ (l : List Report). sets integers 0 (integers_of l)) refused_session,
  )

pub untouched : Untouched
untouched =
    record {
      labels = labels_same;
      state = λ w s a. (step_idle w s a).state_same;
      table = table_zeros;
      unread_table = zeros_unread;
      results = refused_writes_nothing;
      page = refused_untouched;
      line = λ c s n. refl;
      line_integers = λ bytes q integers e. ap (λ (a : Asked). numbers_after a integers) e;
      session_told = refused_session;
      session = λ w s bytes room numbers integers q h. lists_same w s bytes room q h numbers integers;
    }
