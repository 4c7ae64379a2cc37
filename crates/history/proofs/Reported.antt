-- The result lines of a step from a good state, with 64-bit arguments, pass question 53. Assumes nothing.
use mathlib.Core.Path.{◌≡◌, refl, sym, ◌∙◌}
use mathlib.Core.Bool.{true, false, ◌&&◌}
use mathlib.Core.List.{List, [], ◌∷◌}
use Prim.Native.Nat.{ℕ, suc, ◌-◌, ◌≤◌}
use native.Mathlib.Omega.{arith}
use lib.ListN.{length, get_or, take, drop}
use lib.Dec.{eqb, leb, ltb}
use lib.IntN.{ℤ, pos, nat_abs}
use lib.Signed.{le_z}
use borrow.Author.Tests.{lt-ltb, le-leb, leb-true}
use Rattle.laws.proofs.Choice.{by_cases}
use Rattle.numbers.specs.Numbers.{within, Answer, Truth}
use Rattle.numbers.specs.declared.Value.TheVariants.{Integer, Text}
use Rattle.contract.specs.Limits.{top, max_assets, max_parameters}
use Rattle.contract.specs.Tree.{Precondition, omitted, given, Event, Function, Contract}
use Rattle.contract.specs.Decode.{contract_of}
use Rattle.contract.specs.Check.{passes, ranges}
use Rattle.laws.proofs.Members.{every_head, every_tail, repeated_length}
use Rattle.laws.proofs.Truths.{both_left, both_right, both_true, first_true, second_true}
use Rattle.laws.specs.Lists.{every}
use Rattle.contract.specs.Fits.{Scope, precondition_in, scope_of, scope_in, event_in, function_in, fits}
use Rattle.contract.proofs.Fitting.{FitsFunction, FitsContract, fits_event, fits_function, fits_contract}
use Rattle.contract_laws.proofs.Sound.{sound}
use Rattle.evaluation.specs.Memory.{Memory}
use Rattle.evaluation.specs.Meaning.{value_of}
use Rattle.state.specs.declared.State.{State}
use Rattle.std.specs.Prelude.{Option, Some, None, Ok, Err}
use Rattle.state.specs.States.{blank, event_of, live, due_in, with_pending, lapsed, times_until_due}
use Rattle.state.proofs.Passing.{passed_agreed}
use Rattle.statements.specs.declared.Label.{Label}
use Rattle.statements.specs.Running.{Work, max_labels, memory_in}
use Rattle.results.specs.Lines.{refusal, report_ok}
use Rattle.outcomes.specs.declared.Rule.{Rule}
use Rattle.outcomes.specs.declared.Rule.TheVariants.{Agree, Call, EventMatch, Tick}
use Rattle.outcomes.specs.declared.Outcome.TheVariants.{Accepted, Failed}
use Rattle.outcomes.specs.declared.Stepped.{Stepped}
use Rattle.outcomes.specs.Outcomes.{no_label, answered, refused}
use Rattle.holdings.specs.Holdings.{amounts}
use Rattle.machine.specs.Steps.{place_groups, accepted, begun, Invocation, Chosen, chosen, answers_to, choose, precondition_holds, Scheduled, times, no, scheduled, schedule, with_scheduled, finished, by_precondition, invoked, by_chosen, call_by_due, called, handled, fire_by_due, fired, tick_by_due, ticked, jump_by_due, jumped, step, Request, agreement, call, firing, tick, jump, requested}
use Rattle.agreements.specs.Agreement.{Part, agreed_on}
use Rattle.step_reports.specs.Reports.{rule_number, report_of, report_by, label_report, label_reports, told}
use Rattle.history.specs.Histories.{Step, answer_to, within64}
use Rattle.history.proofs.Cases.{body_ran, event_at, handler_ran}
use Rattle.history.proofs.ContractBounds.{BoundedEvent, bounded}
use Rattle.history.proofs.GoodState.{Good, agreed_name}
use Rattle.history.proofs.GoodWork.{values_in, amounts_most, begun_right}
use Rattle.history.proofs.StepsKeepGood.{request_good}
use Rattle.history.proofs.RefusalNumbers.{Stops, AnswerStops, TruthStops, value_stops, truth_stops}
use Rattle.history.proofs.LabelsOk.{payout_ok, label_ok, Fair, Inside, ran_fair}
use Rattle.questions.specs.declared.Question.TheVariants as ask
use Rattle.questions.specs.declared.Question.{Question}
use Rattle.questions.specs.Numbers.{number_of}
use Rattle.machine.proofs.Gates.{none_some}
use Rattle.machine.proofs.Refusals.{by_refusal}

-- what a step tells passes question 53, and its payouts are up to top
pub record Fine (c : Contract) (r : Stepped Question) : Type 0 where
  pub outcome : report_ok c (report_of r.outcome r.state.state r.state.clock) ≡ true
  pub labels : every (label_ok c) (take r.count r.labels) ≡ true

labels_told : (c : Contract) (ls : List Label) → every (label_ok c) ls ≡ true → every (report_ok c) (label_reports ls) ≡ true
unfolding every label_reports
labels_told c [] e = refl
labels_told c (l ∷ ls) e =
    both_true (report_ok c (label_report l)) (every (report_ok c) (label_reports ls))
    (both_left (report_ok c (label_report l)) (payout_ok l.kind l.value) (every_head (label_ok c) l ls e))
    (labels_told c ls (every_tail (label_ok c) l ls e))

pub fine_told : {c : Contract} {r : Stepped Question} → Fine c r → every (report_ok c) (told r) ≡ true
unfolding told every
fine_told {c} {r} o =
    both_true (report_ok c (report_of r.outcome r.state.state r.state.clock)) (every (report_ok c) (label_reports (take r.count r.labels))) o.outcome
    (labels_told c (take r.count r.labels) o.labels)

-- ---- numbers of questions

stops_refusal : (q : Question) → Stops q → refusal (number_of q) ≡ true
unfolding refusal ranges
stops_refusal q e =
    let n = number_of q in
    let l : 30 ≤ n = leb-true 30 n (both_left (leb 30 n) (leb n 36) e) in
    let m : n ≤ 36 = leb-true n 36 (both_right (leb 30 n) (leb n 36) e) in
    second_true (eqb n 3)
    (second_true (eqb n 4)
    (first_true _ (both_true (leb 20 n) (leb n 37) (le-leb 20 n (omega arith)) (le-leb n 37 (omega arith)))))

rule_few : (r : Rule) → leb (rule_number r) 3 ≡ true
rule_few Agree = refl
rule_few Call = refl
rule_few EventMatch = refl
rule_few Tick = refl

-- ---- answers

module _ (c : Contract) where
  pub refused_fine : (s : State) (q : Question) → refusal (number_of q) ≡ true → Fine c (refused s q)
  unfolding report_by report_ok every
  refused_fine s n e = record { outcome = e; labels = refl }

  failed_fine : (s : State) (q : Question) → Stops q → Fine c (answered (Failed q) s)
  unfolding report_by report_ok every
  failed_fine s n e = record { outcome = e; labels = refl }

  ruled_fine : (r : Rule) (s : State) → Good c s → s.agreed ≡ true → report_ok c (report_of (Accepted r) s.state s.clock) ≡ true
  unfolding report_by report_ok
  ruled_fine r s g a =
      both_true (leb (rule_number r) 3) (ltb s.state (length c.states) && leb s.clock top) (rule_few r)
      (both_true (ltb s.state (length c.states)) (leb s.clock top) (lt-ltb s.state (length c.states) (agreed_name g a)) (le-leb s.clock top g.clock))

  answered_fine : (r : Rule) (s : State) → Good c s → s.agreed ≡ true → Fine c (answered (Accepted r) s)
  unfolding every
  answered_fine r s g a = record { outcome = ruled_fine r s g a; labels = refl }

  accepted_fine : (r : Rule) (s : State) (w : Work) → Good c s → s.agreed ≡ true → Fair c w → Fine c (accepted r s w)
  accepted_fine r s w g a o = record { outcome = ruled_fine r s g a; labels = o.labels }

  begun_fair : (s : State) (ps : List ℕ) → Fair c (begun s ps)
  unfolding every
  begun_fair s ps = record { labels_length = repeated_length max_labels no_label; labels = refl; stop = λ q e. none_some q (sym e) }

  -- where the state that it leads to is good
  abbrev Once : Stepped Question → Type 0
  Once r = Good c r.state → Fine c r

-- ---- steps

-- guards
abbrev ScheduleStops : Scheduled → Type 0
ScheduleStops (times ps) = Unit {0}
ScheduleStops (no q) = Stops q

scheduled_stops : (t n j : ℕ) (x : Answer) → AnswerStops x → (r : Scheduled) → ScheduleStops r → ScheduleStops (scheduled t n j x r)
unfolding ranges
scheduled_stops t n j (Err q) h r e = h
scheduled_stops t n j (Ok (Text x)) h r e = refl
scheduled_stops t n j (Ok (Integer z)) h (no q) e = e
scheduled_stops t n j (Ok (Integer z)) h (times ps) e = tt

schedule_stops : (c : Contract) (f : Function) (m : Memory) (t n j : ℕ) (es : List Event) → every (event_in c f) es ≡ true → ScheduleStops (schedule m t n j es)
unfolding schedule
schedule_stops c f m t n j [] i = tt
schedule_stops c f m t n j (e ∷ es) i =
    scheduled_stops t n j (value_of m e.guard) (value_stops (scope_in c f) m e.guard (fits_event c f e (every_head (event_in c f) e es i)).guard)
    (schedule m t n (suc j) es) (schedule_stops c f m t n (suc j) es (every_tail (event_in c f) e es i))

precondition_stops : (c : Scope) (m : Memory) (x : Precondition) → precondition_in c x ≡ true → TruthStops (precondition_holds m x)
unfolding precondition_holds precondition_in
precondition_stops c m omitted i = tt
precondition_stops c m (given t) i = truth_stops c m t i

module _ (c : Contract) (e : fits c ≡ true) where
  t : FitsContract c
  t = fits_contract c e

  inside : (v p : ℕ) → p ≤ max_parameters → Inside c (scope_of c v p)
  unfolding scope_of
  inside v p h = record { parties = omega arith; strings = refl; fields_few = t.fields_few; assets_few = t.assets_few; parameters_few = h }

  agreement_fine : (s : State) (ps : List Part) → Once c (agreed_on c s ps)
  unfolding agreed_on refusal ranges
  agreement_fine s ps =
      by_cases (Once c) _ _ _ (λ _ _. refused_fine c s ask.NotAgreed refl) λ _.
      by_cases (Once c) _ _ _
      (λ _. by_cases (Once c) _ _ _ (λ _ g. answered_fine c Agree _ g refl) (λ _ _. refused_fine c s ask.SameValues refl))
      (λ _ _. refused_fine c s ask.SameClauses refl)

  tick_fine : (s : State) → Once c (ticked c s)
  unfolding ticked refusal ranges lapsed with_pending
  tick_fine s = by_cases (Once c) _ _ _ (λ a. go a (due_in c s)) (λ _ _. refused_fine c s ask.Agreed refl)
    where
      go : s.agreed ≡ true → (d : Option ℕ) → Once c (tick_by_due s d)
      go a (Some k) = λ _. refused_fine c s ask.NothingDue refl
      go a None = by_cases (Once c) _ _ _ (λ _ g. answered_fine c Tick _ g a) (λ _ _. refused_fine c s ask.ClockBelowTop refl)

  jump_fine : (s : State) (T : ℤ) → Once c (jumped c s T)
  unfolding jumped refusal ranges
  jump_fine s T = by_cases (Once c) _ _ _ (λ a. go a (due_in c s)) (λ _ _. refused_fine c s ask.Agreed refl)
    where
      go : s.agreed ≡ true → (d : Option ℕ) → Once c (jump_by_due c s T d)
      go a (Some k) = λ _. refused_fine c s ask.NothingDue refl
      go a None =
          by_cases (Once c) _ _ _ (λ _ g. answered_fine c Tick _ g (passed_agreed (times_until_due c (nat_abs T - s.clock) s) s ∙ a)) (λ _ _. refused_fine c s ask.TimeNotPast refl)

  module _ {s : State} (g : Good c s) where
    handler_fair : s.agreed ≡ true → (k : ℕ) → Fair c (handler_ran c s k)
    unfolding event_of
    handler_fair a k =
        let p = get_or (live s) k blank in
        let b : BoundedEvent c (event_at c s k) = ((bounded c e).functions p.function).events p.event in
        ran_fair c (scope_of c 0 0) (inside 0 0 (omega arith)) [] (λ _. refl) s.clock _ (event_at c s k).handler b.handler_in
        (begun_right g a 0 0 [] (λ _. omega arith)) (begun_fair c s [])

    firing_fine : Once c (fired c s)
    unfolding fired handled refusal ranges with_pending
    firing_fine = by_cases (Once c) _ _ _ (λ a. go a (due_in c s)) (λ _ _. refused_fine c s ask.Agreed refl)
      where
        go : s.agreed ≡ true → (d : Option ℕ) → Once c (fire_by_due c s d)
        go a None = λ _. refused_fine c s ask.SomethingDue refl
        go a (Some k) =
            by_refusal (Once c) (handler_ran c s k).refusal _ _ (λ _ h. accepted_fine c EventMatch _ (handler_ran c s k) h a (handler_fair a k))
            (λ q e _. failed_fine c _ q ((handler_fair a k).stop q e))

    module _ (i : Invocation) (v : every within i.values ≡ true) (d : every within i.assets ≡ true) (a : s.agreed ≡ true) where
      module _ (n : ℕ) (f : Function) (q : FitsFunction c f) where
        scheduled_fine : (w : Work) → Fair c w → (z : Scheduled) → ScheduleStops z → Once c (with_scheduled s w f.last z)
        unfolding refusal ranges with_pending
        scheduled_fine w o (no m) h = λ _. refused_fine c s m (stops_refusal m h)
        scheduled_fine w o (times ps) h = by_cases (Once c) _ _ _ (λ _ x. accepted_fine c Call _ w x a o) (λ _ _. refused_fine c s ask.PendingRoom refl)

        finished_fine : (w : Work) → Fair c w → Once c (finished s n f i.values w)
        unfolding finished refusal ranges
        finished_fine w o =
            by_refusal (Once c) w.refusal (refused s) _
            (λ _. by_cases (Once c) (every (λ a. eqb a 0) (drop max_assets w.holdings)) _ _
            (λ _. scheduled_fine w o (schedule (memory_in i.values s.clock w) s.clock n 0 f.events)
            (schedule_stops c f (memory_in i.values s.clock w) s.clock n 0 f.events q.events))
            (λ _ _. refused_fine c s ask.ParametersEmpty refl))
            (λ p e _. refused_fine c s p (stops_refusal p (o.stop p e)))

        body_fair : every (le_z (pos 0)) i.assets ≡ true → Fair c (body_ran c s i n f)
        body_fair p =
            ran_fair c (scope_in c f) (inside (length f.values) (length f.parameters) q.parameters_few) i.values (values_in i.values v) s.clock _ f.body q.body
            (begun_right g a (length f.values) (length f.parameters) (amounts i.assets) (amounts_most i.assets d p)) (begun_fair c s (amounts i.assets))

        precondition_fine : every (le_z (pos 0)) i.assets ≡ true → (u : Truth) → TruthStops u → Once c (by_precondition (place_groups c n) s n f i.values (begun s (amounts i.assets)) u)
        unfolding refusal ranges
        precondition_fine p (Err m) h = λ _. refused_fine c s m (stops_refusal m h)
        precondition_fine p (Ok false) h = λ _. refused_fine c s ask.Precondition refl
        precondition_fine p (Ok true) h = finished_fine (body_ran c s i n f) (body_fair p)

        invoked_fine : Once c (invoked (place_groups c n) s i n f)
        unfolding invoked refusal ranges
        invoked_fine =
            let m = memory_in i.values s.clock (begun s (amounts i.assets)) in
            by_cases (Once c) _ _ _
            (λ _. by_cases (Once c) _ _ _
            (λ p. precondition_fine p (precondition_holds m f.precondition) (precondition_stops (scope_in c f) m f.precondition q.precondition))
            (λ _ _. refused_fine c s ask.AssetArguments refl))
            (λ _ _. refused_fine c s ask.ArgumentCount refl)

      chosen_fine : (n : ℕ) (fs : List Function) → every (function_in c) fs ≡ true → Once c (by_chosen c s i (choose c s i n fs))
      unfolding choose refusal ranges
      chosen_fine n [] h = λ _. refused_fine c s ask.FunctionKnown refl
      chosen_fine n (f ∷ fs) h =
          by_cases (λ (z : Chosen). Once c (by_chosen c s i z)) (answers_to c s i f) (chosen n f) (choose c s i (suc n) fs)
          (λ _. invoked_fine n f (fits_function c f (every_head (function_in c) f fs h)))
          (λ _. chosen_fine (suc n) fs (every_tail (function_in c) f fs h))

      due_fine : (x : Option ℕ) → Once c (call_by_due c s i x)
      unfolding refusal ranges
      due_fine (Some k) = λ _. refused_fine c s ask.NothingDue refl
      due_fine None = chosen_fine 0 c.functions t.functions

    call_fine : (i : Invocation) → every within i.values ≡ true → every within i.assets ≡ true → Once c (called c s i)
    unfolding called refusal ranges
    call_fine i v d = by_cases (Once c) _ _ _ (λ a. due_fine i v d a (due_in c s)) (λ _ _. refused_fine c s ask.Agreed refl)

    -- any step
    once_fine : (q : Request) → within64 q ≡ true → Once c (requested s q c)
    unfolding within64
    once_fine (agreement ps) h = agreement_fine s ps
    once_fine (call i) h = call_fine i (both_left (every within i.values) (every within i.assets) h) (both_right (every within i.values) (every within i.assets) h)
    once_fine firing h = firing_fine
    once_fine tick h = tick_fine s
    once_fine (jump T) h = jump_fine s T

    pub request_fine : (q : Request) → within64 q ≡ true → Fine c (requested s q c)
    request_fine q h = once_fine q h (request_good c t g q h)

-- any step on a table that passes
pub step_fine : (w : List ℕ) → passes w ≡ true → {s : State} → Good (contract_of w) s → (a : Step) → within64 a.request ≡ true → Fine (contract_of w) (answer_to w s a)
unfolding answer_to step refusal ranges
step_fine w p {s} g a e =
    let c = contract_of w in
    by_cases (Fine c) _ _ _
    (λ _. by_cases (Fine c) _ _ _
    (λ _. by_cases (Fine c) _ _ _ (λ _. request_fine c (sound w p) g a.request e) (λ _. refused_fine c s ask.LabelRoom refl))
    (λ _. refused_fine c s ask.StateRanges refl))
    (λ _. refused_fine c s ask.TableCheck refl)
