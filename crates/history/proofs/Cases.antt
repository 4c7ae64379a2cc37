-- How each step can come out: refused, with the state it was given, or by one of the rules, with what the rule tested. Every theorem
-- on steps goes by these cases. Assumes nothing.
use mathlib.Core.Path.{◌≡◌, refl, sym, ap, ◌∙◌}
use mathlib.Core.Bool.{true, false}
use mathlib.Core.List.{List, [], ◌∷◌, ◌++◌}
use Prim.Native.Nat.{ℕ, suc, ◌+◌, ◌-◌, ◌<◌, ◌≤◌}
use native.Mathlib.Omega.{arith}
use native.Mathlib.Numerals.{add-one}
use native.Mathlib.Nat.{add-zero}
use lib.ListN.{length, get_or, drop, length-drop}
use lib.Seq.{get_or-drop, drop-drop}
use lib.Dec.{eqb}
use lib.IntN.{ℤ, pos, nat_abs}
use lib.Signed.{le_z}
use borrow.Author.Tests.{ltb-true, leb-true, eqb-true}
use Rattle.laws.proofs.Choice.{by_cases, pick_true, pick_false}
use Rattle.contract.specs.Limits.{top, max_assets}
use Rattle.contract.specs.Tree.{Event, Function, Contract}
use Rattle.contract.specs.Decode.{contract_of}
use Rattle.contract.specs.Check.{passes}
use Rattle.laws.proofs.Truths.{both_left, both_right}
use Rattle.laws.specs.Lists.{every}
use Rattle.state.specs.declared.State.{State}
use Rattle.state.specs.declared.Pending.{Pending}
use Rattle.std.specs.Prelude.{Option, Some, None, Ok, Err}
use Rattle.state.specs.States.{blank, no_function, event_of, live, state_ok, due_in, removed, max_pending, opened, time_passed, passed_times, times_until_due}
use Rattle.statements.specs.Running.{Work, memory_in, ran}
use Rattle.outcomes.specs.declared.Rule.TheVariants.{Agree, Call, EventMatch, Tick}
use Rattle.outcomes.specs.declared.Outcome.TheVariants.{Accepted, Failed}
use Rattle.outcomes.specs.declared.Stepped.{Stepped}
use Rattle.outcomes.specs.Outcomes.{answered, refused}
use Rattle.holdings.specs.Holdings.{amounts}
use Rattle.machine.specs.Steps.{place_groups, accepted, begun, ended, Invocation, Chosen, chosen, answers_to, choose, precondition_holds, Scheduled, times, no, schedule, with_scheduled, finished, by_precondition, invoked, by_chosen, call_by_due, called, handled, fire_by_due, fired, tick_by_due, ticked, jump_by_due, jumped, step, Request, agreement, call, firing, tick, jump, requested, room_needed}
use Rattle.agreements.specs.Agreement.{Part, set_clauses, agreed_on}
use Rattle.history.specs.Histories.{Step, answer_to}
use Rattle.numbers.specs.Numbers.{Truth}
use Rattle.questions.specs.declared.Question.TheVariants as ask
use Rattle.questions.specs.declared.Question.{Question}
use Rattle.machine.proofs.Refusals.{by_refusal}

-- the work of a call's body, and of the handler of an event
abbrev pub body_ran : Contract → State → Invocation → ℕ → Function → Work
body_ran c s i n f = ran (place_groups c n) i.values s.clock (begun s (amounts i.assets)) f.body

abbrev pub event_at : Contract → State → ℕ → Event
event_at c s k = event_of c (get_or (live s) k blank)

abbrev pub handler_ran : Contract → State → ℕ → Work
handler_ran c s k = ran (place_groups c (get_or (live s) k blank).function) [] s.clock (begun s []) (event_at c s k).handler

-- what a call that is accepted was found to keep to, as it gives these pending events
pub record CallOk (c : Contract) (s : State) (i : Invocation) (n : ℕ) (f : Function) (ps : List Pending) : Type 0 where
  pub agreed : s.agreed ≡ true
  pub nothing_due : due_in c s ≡ None
  -- the function that is called is the contract's n-th
  pub runs : choose c s i 0 c.functions ≡ chosen n f
  pub known : n < length c.functions
  pub function_is : get_or c.functions n no_function ≡ f
  pub values : length i.values ≡ length f.values
  pub assets : length i.assets ≡ length f.parameters
  pub deposits : every (le_z (pos 0)) i.assets ≡ true
  pub went : (body_ran c s i n f).refusal ≡ None
  pub spent : every (λ a. eqb a 0) (drop max_assets (body_ran c s i n f).holdings) ≡ true
  pub given : schedule (memory_in i.values s.clock (body_ran c s i n f)) s.clock n 0 f.events ≡ times ps
  pub room : length (live s) + length ps ≤ max_pending

pub data ComesOut (c : Contract) (s : State) : Request → Stepped Question → Type 0 where
  refusal : {q : Request} (n : Question) → ComesOut c s q (refused s n)
  agrees : (ps : List Part) → s.agreed ≡ false → ComesOut c s (agreement ps) (answered (Accepted Agree) (opened (set_clauses s c.clauses ps) c.initial))
  calls : (i : Invocation) (n : ℕ) (f : Function) (ps : List Pending) → CallOk c s i n f ps
      → ComesOut c s (call i) (accepted Call (ended s (body_ran c s i n f) f.last (live s ++ ps)) (body_ran c s i n f))
  fires : (k : ℕ) → s.agreed ≡ true → due_in c s ≡ Some k → (handler_ran c s k).refusal ≡ None
      → ComesOut c s firing (accepted EventMatch (ended s (handler_ran c s k) (event_at c s k).last (live (removed s k))) (handler_ran c s k))
  fails : (k : ℕ) (n : Question) → s.agreed ≡ true → due_in c s ≡ Some k → (handler_ran c s k).refusal ≡ Some n
      → ComesOut c s firing (answered (Failed n) (removed s k))
  ticks : s.agreed ≡ true → due_in c s ≡ None → s.clock < top → ComesOut c s tick (answered (Accepted Tick) (time_passed s))
  jumps : (T : ℤ) → s.agreed ≡ true → due_in c s ≡ None → le_z (pos s.clock) T ≡ true
      → ComesOut c s (jump T) (answered (Accepted Tick) (passed_times (times_until_due c (nat_abs T - s.clock) s) s))

-- ---- what is left of a list from n on

some_left : {A : Type 0} {x : A} {xs : List A} (n : ℕ) (l : List A) → drop n l ≡ x ∷ xs → n < length l
some_left {x = x} {xs = xs} n l h = omega (arith, length-drop n l, ap length h)

next_is : {A : Type 0} {x : A} {xs : List A} (d : A) (n : ℕ) (l : List A) → drop n l ≡ x ∷ xs → get_or l n d ≡ x
next_is d n l h = ap (λ (k : ℕ). get_or l k d) (sym (add-zero n)) ∙ sym (get_or-drop n l 0 d) ∙ ap (λ r. get_or r 0 d) h

rest_is : {A : Type 0} {x : A} {xs : List A} (n : ℕ) (l : List A) → drop n l ≡ x ∷ xs → drop (suc n) l ≡ xs
rest_is n l h = ap (λ (k : ℕ). drop k l) (sym (add-one n)) ∙ sym (drop-drop 1 n l) ∙ ap (drop 1) h

-- ---- each step's cases

pub agreement_came : (c : Contract) (s : State) (ps : List Part) → ComesOut c s (agreement ps) (agreed_on c s ps)
unfolding agreed_on
agreement_came c s ps =
    by_cases (ComesOut c s (agreement ps)) _ _ _ (λ _. refusal ask.NotAgreed) λ e.
    by_cases (ComesOut c s (agreement ps)) _ _ _
    (λ _. by_cases (ComesOut c s (agreement ps)) _ _ _ (λ _. agrees ps e) (λ _. refusal ask.SameValues))
    (λ _. refusal ask.SameClauses)

module _ (c : Contract) (s : State) (i : Invocation) (e : s.agreed ≡ true) (d : due_in c s ≡ None) where
  module _ (n : ℕ) (f : Function) (k : choose c s i 0 c.functions ≡ chosen n f) (l : n < length c.functions) (g : get_or c.functions n no_function ≡ f)
      (v : length i.values ≡ length f.values) (a : length i.assets ≡ length f.parameters) (z : every (le_z (pos 0)) i.assets ≡ true) where
    scheduled_came : (body_ran c s i n f).refusal ≡ None → every (λ a. eqb a 0) (drop max_assets (body_ran c s i n f).holdings) ≡ true → (x : Scheduled)
        → schedule (memory_in i.values s.clock (body_ran c s i n f)) s.clock n 0 f.events ≡ x
        → ComesOut c s (call i) (with_scheduled s (body_ran c s i n f) f.last x)
    scheduled_came w h (no q) t = refusal q
    scheduled_came w h (times ps) t =
        by_cases (ComesOut c s (call i)) _ _ _
        (λ r. calls i n f ps
        (record {
          agreed = e;
          nothing_due = d;
          runs = k;
          known = l;
          function_is = g;
          values = v;
          assets = a;
          deposits = z;
          went = w;
          spent = h;
          given = t;
          room = leb-true (length (live s) + length ps) max_pending r;
        }))
        (λ _. refusal ask.PendingRoom)

    finished_came : ComesOut c s (call i) (finished s n f i.values (body_ran c s i n f))
    unfolding finished
    finished_came =
        by_refusal (ComesOut c s (call i)) (body_ran c s i n f).refusal (refused s) _
        (λ w. by_cases (ComesOut c s (call i)) (every (λ a. eqb a 0) (drop max_assets (body_ran c s i n f).holdings)) _ _
        (λ h. scheduled_came w h _ refl)
        (λ _. refusal ask.ParametersEmpty))
        (λ q _. refusal q)

    precondition_came : (t : Truth) → ComesOut c s (call i) (by_precondition (place_groups c n) s n f i.values (begun s (amounts i.assets)) t)
    precondition_came (Err q) = refusal q
    precondition_came (Ok false) = refusal ask.Precondition
    precondition_came (Ok true) = finished_came

  invoked_came : (n : ℕ) (f : Function) → choose c s i 0 c.functions ≡ chosen n f → n < length c.functions → get_or c.functions n no_function ≡ f
      → ComesOut c s (call i) (invoked (place_groups c n) s i n f)
  unfolding invoked
  invoked_came n f k l g =
      by_cases (ComesOut c s (call i)) _ _ _
      (λ v. by_cases (ComesOut c s (call i)) _ _ _
      (λ z. precondition_came n f k l g
      (eqb-true _ _ (both_left (eqb (length i.values) (length f.values)) (eqb (length i.assets) (length f.parameters)) v))
      (eqb-true _ _ (both_right (eqb (length i.values) (length f.values)) (eqb (length i.assets) (length f.parameters)) v))
      z
      (precondition_holds (memory_in i.values s.clock (begun s (amounts i.assets))) f.precondition))
      (λ _. refusal ask.AssetArguments))
      (λ _. refusal ask.ArgumentCount)

  -- the first that answers among the functions from n on
  chosen_came : (n : ℕ) (fs : List Function) → drop n c.functions ≡ fs → choose c s i 0 c.functions ≡ choose c s i n fs
      → ComesOut c s (call i) (by_chosen c s i (choose c s i n fs))
  unfolding choose
  chosen_came n [] h k = refusal ask.FunctionKnown
  chosen_came n (f ∷ fs) h k =
      by_cases (λ (z : Chosen). ComesOut c s (call i) (by_chosen c s i z)) (answers_to c s i f) (chosen n f) (choose c s i (suc n) fs)
      (λ e. invoked_came n f (k ∙ pick_true _ _ _ e) (some_left n c.functions h) (next_is no_function n c.functions h))
      (λ e. chosen_came (suc n) fs (rest_is n c.functions h) (k ∙ pick_false _ _ _ e))

pub call_came : (c : Contract) (s : State) (i : Invocation) → ComesOut c s (call i) (called c s i)
unfolding called
call_came c s i = by_cases (ComesOut c s (call i)) _ _ _ (λ e. go e (due_in c s) refl) (λ _. refusal ask.Agreed)
  where
    go : s.agreed ≡ true → (d : Option ℕ) → due_in c s ≡ d → ComesOut c s (call i) (call_by_due c s i d)
    go e (Some k) d = refusal ask.NothingDue
    go e None d = chosen_came c s i e d 0 c.functions refl refl

pub firing_came : (c : Contract) (s : State) → ComesOut c s firing (fired c s)
unfolding fired handled
firing_came c s = by_cases (ComesOut c s firing) _ _ _ (λ e. go e (due_in c s) refl) (λ _. refusal ask.Agreed)
  where
    go : s.agreed ≡ true → (d : Option ℕ) → due_in c s ≡ d → ComesOut c s firing (fire_by_due c s d)
    go e None d = refusal ask.SomethingDue
    go e (Some k) d =
        by_refusal (ComesOut c s firing) (handler_ran c s k).refusal _ _ (λ w. fires k e d w) (λ q w. fails k q e d w)

pub tick_came : (c : Contract) (s : State) → ComesOut c s tick (ticked c s)
unfolding ticked
tick_came c s = by_cases (ComesOut c s tick) _ _ _ (λ e. go e (due_in c s) refl) (λ _. refusal ask.Agreed)
  where
    go : s.agreed ≡ true → (d : Option ℕ) → due_in c s ≡ d → ComesOut c s tick (tick_by_due s d)
    go e (Some k) d = refusal ask.NothingDue
    go e None d = by_cases (ComesOut c s tick) _ _ _ (λ l. ticks e d (ltb-true s.clock top l)) (λ _. refusal ask.ClockBelowTop)

pub jump_came : (c : Contract) (s : State) (T : ℤ) → ComesOut c s (jump T) (jumped c s T)
unfolding jumped
jump_came c s T = by_cases (ComesOut c s (jump T)) _ _ _ (λ e. go e (due_in c s) refl) (λ _. refusal ask.Agreed)
  where
    go : s.agreed ≡ true → (d : Option ℕ) → due_in c s ≡ d → ComesOut c s (jump T) (jump_by_due c s T d)
    go e (Some k) d = refusal ask.NothingDue
    go e None d = by_cases (ComesOut c s (jump T)) _ _ _ (λ l. jumps T e d l) (λ _. refusal ask.TimeNotPast)

-- ---- any step

pub request_came : (c : Contract) (s : State) (q : Request) → ComesOut c s q (requested s q c)
request_came c s (agreement ps) = agreement_came c s ps
request_came c s (call i) = call_came c s i
request_came c s firing = firing_came c s
request_came c s tick = tick_came c s
request_came c s (jump T) = jump_came c s T

-- on a table: refused, or the table, the state and the label slice were found right
pub data Answers (w : List ℕ) (s : State) (a : Step) : Stepped Question → Type 0 where
  first_refusal : (n : Question) → Answers w s a (refused s n)
  by_rule_lem : {r : Stepped Question} → passes w ≡ true → state_ok (contract_of w) s ≡ true → room_needed (contract_of w) ≤ length a.slice
      → ComesOut (contract_of w) s a.request r → Answers w s a r

pub answered_so : (w : List ℕ) (s : State) (a : Step) → Answers w s a (answer_to w s a)
unfolding answer_to step
answered_so w s a =
    by_cases (Answers w s a) _ _ _
    (λ p. by_cases (Answers w s a) _ _ _
    (λ o. by_cases (Answers w s a) _ _ _
    (λ h. by_rule_lem p o (leb-true (room_needed (contract_of w)) (length a.slice) h) (request_came (contract_of w) s a.request))
    (λ _. first_refusal ask.LabelRoom))
    (λ _. first_refusal ask.StateRanges))
    (λ _. first_refusal ask.TableCheck)
