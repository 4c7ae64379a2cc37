-- Steps keep the labels of an answer at their number, and blank after those sent. Assumes nothing.
use mathlib.Core.Path.{◌≡◌, refl, sym, ap, ◌∙◌}
use native.Mathlib.Omega.{arith}
use mathlib.Core.Bool.{true, false}
use mathlib.Core.List.{List, [], ◌∷◌, ◌++◌}
use Prim.Native.Nat.{ℕ, zero, suc, ◌+◌, ◌-◌, ◌≤◌}
use lib.ListN.{length, get_or, set, length-set, drop}
use Rattle.std.proofs.lemmas.List.{drop-set-lt}
use lib.Dec.{eqb}
use lib.IntN.{ℤ, pos, negsuc, nat_abs}
use borrow.Author.Tests.{leb-true}
use Rattle.laws.proofs.Choice.{by_cases}
use Rattle.numbers.specs.declared.Value.{Value}
use Rattle.numbers.specs.declared.Value.TheVariants.{Integer, Text}
use Rattle.contract.specs.Tree.{Function, Contract, held, Action, assign, send, move, pay, move_all, pay_all, Block, none, perform, conditional, broken_block}
use Rattle.evaluation.specs.Meaning.{value_of, truth_of}
use Rattle.state.specs.declared.State.{State}
use Rattle.state.specs.declared.Pending.{Pending}
use Rattle.std.specs.Prelude.{Option, Some, None, Ok, Err}
use Rattle.state.specs.States.{blank, live, event_of, due_in, removed, opened, time_passed, passed_times, times_until_due}
use Rattle.laws.specs.Lists.{every}
use Rattle.statements.specs.Running.{Work, integer_label, string_label, asset_label, memory_in, onward, stored, labelled, sent, receiver, place, moved, paid, with_value, with_amount, performed, by_truth, ran}
use Rattle.statements.specs.declared.Label.{Label}
use Rattle.lines.specs.Lines.{Asked, asked}
use Rattle.lines.specs.Lines as lines
use Rattle.outcomes.specs.declared.Rule.TheVariants.{Agree, Call, EventMatch, Tick}
use Rattle.outcomes.specs.declared.Outcome.TheVariants.{Accepted, Failed}
use Rattle.outcomes.specs.declared.Stepped.{Stepped}
use Rattle.outcomes.specs.Outcomes.{no_label, no_labels, answered, refused}
use Rattle.holdings.specs.Holdings.{amounts}
use Rattle.machine.specs.Steps.{place_groups, accepted, begun, ended, Invocation, Chosen, chosen, answers_to, choose, precondition_holds, Scheduled, times, no, schedule, with_scheduled, finished, by_precondition, invoked, by_chosen, call_by_due, called, handled, fire_by_due, fired, tick_by_due, ticked, jump_by_due, jumped}
use Rattle.agreements.specs.Agreement.{Part, set_clauses, agreed_on}
use Rattle.machine.specs.Sessions.{parts_said, invocation_in}
use Rattle.machine.specs.Private.{taken_by, taken}
use Rattle.laws.proofs.Members.{repeated_length}
use Rattle.numbers.specs.Numbers.{Answer, Truth}
use Rattle.questions.specs.declared.Question.{Question}
use Rattle.questions.specs.declared.Question.TheVariants as ask
use Rattle.machine.proofs.Refusals.{by_refusal}

-- ---- how a step can come out

pub data Outcomes (s : State) : Stepped Question → Type 0 where
  refusal : (q : Question) → Outcomes s (refused s q)
  agrees : (c : Contract) (ps : List Part) → Outcomes s (answered (Accepted Agree) (opened (set_clauses s c.clauses ps) c.initial))
  calls : (g : ℕ → ℕ) (v : List ℤ) (hs : List ℕ) (b : Block) (q : ℕ) (ps : List Pending) → length (live s) + length ps ≤ 64
      → Outcomes s (accepted Call (ended s (ran g v s.clock (begun s hs) b) q (live s ++ ps)) (ran g v s.clock (begun s hs) b))
  fires : (g : ℕ → ℕ) (k : ℕ) (b : Block) (q : ℕ)
      → Outcomes s (accepted EventMatch (ended s (ran g [] s.clock (begun s []) b) q (live (removed s k))) (ran g [] s.clock (begun s []) b))
  fails : (k : ℕ) (q : Question) → Outcomes s (answered (Failed q) (removed s k))
  ticks : Outcomes s (answered (Accepted Tick) (time_passed s))
  jumps : (n : ℕ) → Outcomes s (answered (Accepted Tick) (passed_times n s))

module _ (c : Contract) (s : State) where
  agreement_outcomes : (ps : List Part) → Outcomes s (agreed_on c s ps)
  unfolding agreed_on
  agreement_outcomes ps =
      by_cases (Outcomes s) _ _ _ (λ _. refusal ask.NotAgreed) λ _.
      by_cases (Outcomes s) _ _ _ (λ _. by_cases (Outcomes s) _ _ _ (λ _. agrees c ps) (λ _. refusal ask.SameValues)) (λ _. refusal ask.SameClauses)

  tick_outcomes : Outcomes s (ticked c s)
  unfolding ticked
  tick_outcomes = by_cases (Outcomes s) _ _ _ (λ _. go (due_in c s)) (λ _. refusal ask.Agreed)
    where
      go : (d : Option ℕ) → Outcomes s (tick_by_due s d)
      go (Some k) = refusal ask.NothingDue
      go None = by_cases (Outcomes s) _ _ _ (λ _. ticks) (λ _. refusal ask.ClockBelowTop)

  jump_outcomes : (T : ℤ) → Outcomes s (jumped c s T)
  unfolding jumped
  jump_outcomes T = by_cases (Outcomes s) _ _ _ (λ _. go (due_in c s)) (λ _. refusal ask.Agreed)
    where
      go : (d : Option ℕ) → Outcomes s (jump_by_due c s T d)
      go (Some k) = refusal ask.NothingDue
      go None = by_cases (Outcomes s) _ _ _ (λ _. jumps (times_until_due c (nat_abs T - s.clock) s)) (λ _. refusal ask.TimeNotPast)

  fired_outcomes : Outcomes s (fired c s)
  unfolding fired handled
  fired_outcomes = by_cases (Outcomes s) _ _ _ (λ _. go (due_in c s)) (λ _. refusal ask.Agreed)
    where
      go : (d : Option ℕ) → Outcomes s (fire_by_due c s d)
      go None = refusal ask.SomethingDue
      go (Some k) =
          let e = event_of c (get_or (live s) k blank) in
          by_refusal (Outcomes s) _ _ _ (λ _. fires (place_groups c (get_or (live s) k blank).function) k e.handler e.last) (λ q _. fails k q)

  module _ (i : Invocation) where
    module _ (g : ℕ → ℕ) (n : ℕ) (f : Function) where
      scheduled_outcomes : (z : Scheduled) → Outcomes s (with_scheduled s (ran g i.values s.clock (begun s (amounts i.assets)) f.body) f.last z)
      scheduled_outcomes (no q) = refusal q
      scheduled_outcomes (times ps) =
          by_cases (Outcomes s) _ _ _
          (λ r. calls g i.values (amounts i.assets) f.body f.last ps (leb-true (length (live s) + length ps) 64 r))
          (λ _. refusal ask.PendingRoom)

      finished_outcomes : Outcomes s (finished s n f i.values (ran g i.values s.clock (begun s (amounts i.assets)) f.body))
      unfolding finished
      finished_outcomes =
          let w = ran g i.values s.clock (begun s (amounts i.assets)) f.body in
          by_refusal (Outcomes s) w.refusal (refused s) _
          (λ _. by_cases (Outcomes s) (every (λ a. eqb a 0) (drop 16 w.holdings)) _ _
          (λ _. scheduled_outcomes (schedule (memory_in i.values s.clock w) s.clock n 0 f.events))
          (λ _. refusal ask.ParametersEmpty))
          (λ q _. refusal q)

      precondition_outcomes : (t : Truth) → Outcomes s (by_precondition g s n f i.values (begun s (amounts i.assets)) t)
      precondition_outcomes (Err q) = refusal q
      precondition_outcomes (Ok false) = refusal ask.Precondition
      precondition_outcomes (Ok true) = finished_outcomes

      invoked_outcomes : Outcomes s (invoked g s i n f)
      unfolding invoked
      invoked_outcomes =
          by_cases (Outcomes s) _ _ _
          (λ _. by_cases (Outcomes s) _ _ _
          (λ _. precondition_outcomes (precondition_holds (memory_in i.values s.clock (begun s (amounts i.assets))) f.precondition))
          (λ _. refusal ask.AssetArguments))
          (λ _. refusal ask.ArgumentCount)

    chosen_outcomes : (n : ℕ) (fs : List Function) → Outcomes s (by_chosen c s i (choose c s i n fs))
    unfolding choose
    chosen_outcomes n [] = refusal ask.FunctionKnown
    chosen_outcomes n (f ∷ fs) =
        by_cases (λ (z : Chosen). Outcomes s (by_chosen c s i z)) (answers_to c s i f) (chosen n f) (choose c s i (suc n) fs)
        (λ _. invoked_outcomes (place_groups c n) n f) (λ _. chosen_outcomes (suc n) fs)

    call_outcomes : Outcomes s (called c s i)
    unfolding called
    call_outcomes = by_cases (Outcomes s) _ _ _ (λ _. go (due_in c s)) (λ _. refusal ask.Agreed)
      where
        go : (d : Option ℕ) → Outcomes s (call_by_due c s i d)
        go (Some k) = refusal ask.NothingDue
        go None = chosen_outcomes 0 c.functions

  taken_outcomes : (line : List ℕ) (a : Asked) → Outcomes s (taken_by c s line a)
  unfolding taken_by
  taken_outcomes line (lines.refused q) = refusal q
  taken_outcomes line lines.tick = tick_outcomes
  taken_outcomes line (lines.jump T) = jump_outcomes T
  taken_outcomes line (lines.call k) = call_outcomes (invocation_in line k)
  taken_outcomes line (lines.agreement ps) = agreement_outcomes (parts_said line ps)

-- ---- the labels

-- there is one for each place, and those after the ones that were sent are blank
abbrev pub Left : List Label → ℕ → Type 0
Left ls n = (length ls ≡ 64) × (drop n ls ≡ drop n no_labels)

abbrev Labels : Work → Type 0
Labels w = Left w.labels w.count

drop_more : (n : ℕ) (l : List Label) → drop (suc n) l ≡ drop 1 (drop n l)
drop_more zero l = refl
drop_more (suc n) [] = refl
drop_more (suc n) (x ∷ l) = drop_more n l

left_more : (ls : List Label) (n : ℕ) (l : Label) → Left ls n → Left (set ls n l) (suc n)
left_more ls n l h =
    (length-set ls n l ∙ h.0, drop-set-lt (suc n) ls n l (omega arith) ∙ drop_more n ls ∙ ap (drop 1) h.1 ∙ sym (drop_more n no_labels))

labelled_labels : (w : Work) (kind party : ℕ) (value : ℤ) (group : ℕ) → Labels w → Labels (labelled w kind party value group)
unfolding labelled
labelled_labels w kind party value group h = by_cases Labels _ _ _ (λ _. left_more w.labels w.count _ h) (λ _. h)

sent_labels : (w : Work) (a : ℕ) (v : Value) → Labels w → Labels (sent w a v)
sent_labels w a (Integer z) h = labelled_labels w integer_label a z 0 h
sent_labels w a (Text n) h = labelled_labels w string_label a (pos n) 0 h

stored_labels : (w : Work) (x : ℕ) (v : Value) → Labels w → Labels (stored w x v)
stored_labels w x (Integer z) h = h
stored_labels w x (Text n) h = h

moved_labels : (w : Work) (i j n : ℕ) → Labels w → Labels (moved w i j n)
unfolding moved
moved_labels w i j n h =
    by_cases Labels _ _ _ (λ _. h) λ _. by_cases Labels _ _ _ (λ _. h) λ _. by_cases Labels _ _ _ (λ _. h) λ _. by_cases Labels _ _ _ (λ _. h) (λ _. h)

paid_labels : (g : ℕ → ℕ) (w : Work) (i a n : ℕ) → Labels w → Labels (paid g w i a n)
unfolding paid
paid_labels g w i a n h = by_cases Labels _ _ _ (λ _. h) (λ _. labelled_labels _ asset_label a (pos n) (g i) h)

value_labels : (w : Work) (x : Answer) (f : Value → Work) → Labels w → ((v : Value) → Labels (f v)) → Labels (with_value w x f)
value_labels w (Err n) f h g = h
value_labels w (Ok v) f h g = g v

amount_labels : (w : Work) (x : Answer) (f : ℕ → Work) → Labels w → ((n : ℕ) → Labels (f n)) → Labels (with_amount w x f)
amount_labels w (Err n) f h g = h
amount_labels w (Ok (Text t)) f h g = h
amount_labels w (Ok (Integer (pos n))) f h g = g n
amount_labels w (Ok (Integer (negsuc n))) f h g = h

onward_labels : (w : Work) (f : Work → Work) → Labels w → (Labels w → Labels (f w)) → Labels (onward w f)
unfolding onward
onward_labels w f h g = by_cases Labels _ _ _ (λ _. g h) (λ _. h)

truth_labels : (w x : Work) (t : Truth) → Labels w → Labels x → Labels (by_truth w t x)
truth_labels w x (Err q) h g = h
truth_labels w x (Ok true) h g = g
truth_labels w x (Ok false) h g = h

module _ (g : ℕ → ℕ) (v : List ℤ) (t : ℕ) where
  performed_labels : (w : Work) (a : Action) → Labels w → Labels (performed g v t w a)
  unfolding performed
  performed_labels w (assign e x) h = value_labels w (value_of (memory_in v t w) e) _ h (λ z. stored_labels w x z h)
  performed_labels w (send e a) h = value_labels w (value_of (memory_in v t w) e) _ h (λ z. sent_labels w (receiver a) z h)
  performed_labels w (move e i j) h = amount_labels w (value_of (memory_in v t w) e) _ h (λ n. moved_labels w (place i) (place j) n h)
  performed_labels w (pay e i a) h = amount_labels w (value_of (memory_in v t w) e) _ h (λ n. paid_labels g w (place i) (receiver a) n h)
  performed_labels w (move_all i j) h = amount_labels w (value_of (memory_in v t w) (held i)) _ h (λ n. moved_labels w (place i) (place j) n h)
  performed_labels w (pay_all i a) h = amount_labels w (value_of (memory_in v t w) (held i)) _ h (λ n. paid_labels g w (place i) (receiver a) n h)

  ran_labels : (w : Work) (b : Block) → Labels w → Labels (ran g v t w b)
  unfolding ran
  ran_labels w none h = h
  ran_labels w (perform b a) h = onward_labels (ran g v t w b) _ (ran_labels w b h) (performed_labels (ran g v t w b) a)
  ran_labels w (conditional b u s) h =
      onward_labels (ran g v t w b) _ (ran_labels w b h)
      (λ k. truth_labels (ran g v t w b) (ran g v t (ran g v t w b) s) (truth_of (memory_in v t (ran g v t w b)) u) k (ran_labels (ran g v t w b) s k))
  ran_labels w broken_block h = h

none_left : Left no_labels 0
none_left = (repeated_length 64 no_label, refl)

outcome_labels : {s : State} {r : Stepped Question} → Outcomes s r → Left r.labels r.count
outcome_labels (refusal n) = none_left
outcome_labels (agrees c ps) = none_left
outcome_labels {s} (calls g v hs b q ps l) = ran_labels g v s.clock (begun s hs) b none_left
outcome_labels {s} (fires g k b q) = ran_labels g [] s.clock (begun s []) b none_left
outcome_labels (fails k n) = none_left
outcome_labels ticks = none_left
outcome_labels (jumps n) = none_left

-- ---- firings and lines

module _ (c : Contract) (s : State) where
  pub labels_fired : Left (fired c s).labels (fired c s).count
  labels_fired = outcome_labels (fired_outcomes c s)

  pub labels_taken : (line : List ℕ) → Left (taken c s line).labels (taken c s line).count
  labels_taken line = outcome_labels (taken_outcomes c s line (asked line))
