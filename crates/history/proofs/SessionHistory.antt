-- A session is the history of its steps, and demand 3 holds of what a desk does. Assumes nothing.
use mathlib.Core.Path.{◌≡◌, refl, sym, ap, subst, ◌∙◌}
use mathlib.Core.Bool.{true}
use mathlib.Core.List.{List, [], ◌∷◌, ◌++◌, append_assoc}
use Prim.Native.Nat.{ℕ, zero, suc, ◌≤◌}
use lib.ListN.{length}
use Rattle.laws.proofs.Truths.{both_true}
use Rattle.laws.proofs.Members.{every_append}
use Rattle.laws.specs.Lists.{every}
use Rattle.contract.specs.Limits.{top}
use Rattle.contract.specs.Tree.{Contract}
use Rattle.contract.specs.Decode.{contract_of}
use Rattle.contract.specs.Check.{passes}
use Rattle.state.specs.declared.State.{State}
use Rattle.state.specs.States.{fresh_at, state_ok}
use Rattle.statements.specs.declared.Label.{Label}
use Rattle.results.specs.declared.Report.{Report}
use Rattle.results.specs.declared.Report.TheVariants as report
use Rattle.results.specs.Lines.{report_ok}
use Rattle.pages.specs.Gathering.{payouts}
use Rattle.questions.specs.declared.Question.{Question}
use Rattle.outcomes.specs.declared.Stepped.{Stepped}
use Rattle.machine.specs.Steps.{Request, requested, room_needed}
use Rattle.step_reports.specs.Reports.{report_of, report_by, label_reports, told}
use Rattle.machine.specs.Sessions.{Said, asks, unread, heard, Turn, takes, wait, turn_at, Session, here, before, on_turn}
use Rattle.history.specs.Histories.{Step, answer_to, Returned, returned, History, history, within64}
use Rattle.history.specs.Settled.{settled}
use Rattle.history.specs.Sessions.{Stored, whole_for, blocks, turns_in, then_said, said_for, steps_of, lines_of, told_by, IsHistory, Window, windows, said_in, Desk}
use Rattle.history.proofs.GoodState.{Good, good_ok, fresh_good}
use Rattle.history.proofs.Count.{labels_left}
use Rattle.history.proofs.Clock.{answered_by}
use Rattle.history.proofs.Demand.{demand}
use Rattle.history.proofs.LineIntegers.{TurnIn, turn_in}
use Rattle.history.proofs.AskedOnce.{stored_good, heard_good, blocks_good, blocks_fine}
use Rattle.history.proofs.Continued.{blocks_turns}
use Rattle.history.proofs.Settled.{told_settled, settled_paid, settled_payable, file_settled, waiting_accepted, last_accepted}
use Rattle.questions.specs.Numbers.{number_of}

-- ---- the steps of a session have 64-bit arguments

module _ (slice : List Label) (c : Contract) (bytes : List ℕ) where
  pub steps_in : (turns : ℕ) (s : State) (at : ℕ) → every (λ a. within64 a.request) (steps_of slice (said_for turns c bytes s at)) ≡ true
  unfolding said_for steps_of every
  steps_in zero s at = refl
  steps_in (suc turns) s at = go (steps_in turns) (turn_at c bytes s at) (turn_in c bytes s at)
    where
      go : ((s : State) (at : ℕ) → every (λ a. within64 a.request) (steps_of slice (said_for turns c bytes s at)) ≡ true)
          → (u : Turn) → TurnIn u
          → every (λ a. within64 a.request) (steps_of slice (then_said (λ x next. said_for turns c bytes (heard c s x).state next) u)) ≡ true
      go f wait h = refl
      go f (takes (asks q) next) h = both_true (within64 q) _ h (f (requested s q c).state next)
      go f (takes (unread n) next) h = f s next

-- ---- one turn

module _ (w : List ℕ) (p : passes w ≡ true) (slice : List Label) (room : room_needed (contract_of w) ≤ length slice) where
  abbrev c : Contract
  c = contract_of w

  abbrev asked : Request → Step
  asked q = record { request = q; slice = slice }

  module _ {s : State} (g : Good c s) where
    answer_is : (q : Request) → answer_to w s (asked q) ≡ requested s q c
    answer_is q = answered_by w p s (good_ok g) (asked q) room

    -- the result lines, read off what the caller holds
    lines_are : (q : Request) → lines_of (returned w s (asked q)) ≡ told (requested s q c)
    unfolding told
    lines_are q =
        ap (λ (l : List Label). report_of (answer_to w s (asked q)).outcome (answer_to w s (asked q)).state.state (answer_to w s (asked q)).state.clock ∷ label_reports l)
        (labels_left s g.assets.assets_length w (asked q))
        ∙ ap told (answer_is q)

    -- what is said, then the rest
    said_history : (x : Said) (xs : List Said) (e : Session) → IsHistory w (heard c s x).state slice xs e → IsHistory w s slice (x ∷ xs) (before (told (heard c s x)) e)
    unfolding steps_of told_by history told report_by label_reports
    said_history (unread n) xs e h = record { state = h.state; reports = ap (λ (rs : List Report). told (heard c s (unread n)) ++ rs) h.reports }
    said_history (asks q) xs e h =
        let same : history w (answer_to w s (asked q)).state (steps_of slice xs) ≡ history w (requested s q c).state (steps_of slice xs) =
        ap (λ (r : Stepped Question). history w r.state (steps_of slice xs)) (answer_is q) in
        record {
          state = h.state ∙ sym (ap (λ (k : History). k.state) same);
          reports =
              ap (λ (rs : List Report). told (requested s q c) ++ rs) h.reports
              ∙ sym (λ i. lines_are q i ++ told_by xs (same i).answers);
        }

  -- ---- a session

  whole_history : (bytes : List ℕ) (turns : ℕ) (s : State) (at : ℕ) → Good c s → IsHistory w s slice (said_for turns c bytes s at) (whole_for turns c bytes s at)
  unfolding said_for whole_for steps_of told_by history
  whole_history bytes zero s at g = record { state = refl; reports = refl }
  whole_history bytes (suc turns) s at g = go (whole_history bytes turns) (turn_at c bytes s at) (turn_in c bytes s at)
    where
      go : ((s : State) (at : ℕ) → Good c s → IsHistory w s slice (said_for turns c bytes s at) (whole_for turns c bytes s at))
          → (u : Turn) → TurnIn u
          → IsHistory w s slice (then_said (λ x next. said_for turns c bytes (heard c s x).state next) u)
          (on_turn (here s at) (λ x next. before (told (heard c s x)) (whole_for turns c bytes (heard c s x).state next)) u)
      go f wait h = record { state = refl; reports = refl }
      go f (takes x next) h = said_history g x _ _ (f (heard c s x).state next (heard_good w p g x h))

  -- from any state that code holds and that passes question 4
  pub session_history : (s : State) → Stored s → state_ok (contract_of w) s ≡ true → (bytes : List ℕ) (turns at : ℕ)
      → IsHistory w s slice (said_for turns (contract_of w) bytes s at) (whole_for turns (contract_of w) bytes s at)
  session_history s a e bytes turns at = whole_history bytes turns s at (stored_good c s a e)

  -- ---- one list after the other

  state_append : (s : State) (xs ys : List Step) → (history w s (xs ++ ys)).state ≡ (history w (history w s xs).state ys).state
  unfolding history
  state_append s [] ys = refl
  state_append s (a ∷ xs) ys = state_append (answer_to w s a).state xs ys

  answers_append : (s : State) (xs ys : List Step) → (history w s (xs ++ ys)).answers ≡ (history w s xs).answers ++ (history w (history w s xs).state ys).answers
  unfolding history
  answers_append s [] ys = refl
  answers_append s (a ∷ xs) ys = ap (λ (rs : List Returned). returned w s a ∷ rs) (answers_append (answer_to w s a).state xs ys)

  steps_append : (xs ys : List Said) → steps_of slice (xs ++ ys) ≡ steps_of slice xs ++ steps_of slice ys
  unfolding steps_of
  steps_append [] ys = refl
  steps_append (asks q ∷ xs) ys = ap (λ (l : List Step). asked q ∷ l) (steps_append xs ys)
  steps_append (unread n ∷ xs) ys = steps_append xs ys

  told_append : (s : State) (xs ys : List Said) (rs : List Returned)
      → let first = (history w s (steps_of slice xs)).answers in
      told_by (xs ++ ys) (first ++ rs) ≡ told_by xs first ++ told_by ys rs
  unfolding steps_of told_by history
  told_append s [] ys rs = refl
  told_append s (unread q ∷ xs) ys rs = ap (λ (l : List Report). report.Refused (number_of q) ∷ l) (told_append s xs ys rs)
  told_append s (asks q ∷ xs) ys rs =
      let t = (answer_to w s (asked q)).state in
      let lines = lines_of (returned w s (asked q)) in
      ap (λ (l : List Report). lines ++ l) (told_append t xs ys rs)
      ∙ sym (append_assoc lines (told_by xs (history w t (steps_of slice xs)).answers) (told_by ys rs))

  -- ---- a desk

  -- one session, and then another from the state that it left
  joined : {s : State} {xs ys : List Said} {b e : Session} → IsHistory w s slice xs b → IsHistory w b.state slice ys e → IsHistory w s slice (xs ++ ys) (before b.reports e)
  joined {s} {xs} {ys} {b} {e} h k =
      let t = (history w s (steps_of slice xs)).state in
      let rs = (history w s (steps_of slice xs)).answers in
      let same : history w b.state (steps_of slice ys) ≡ history w t (steps_of slice ys) = ap (λ (u : State). history w u (steps_of slice ys)) h.state in
      let steps = steps_append xs ys in
      record {
        state =
            k.state ∙ ap (λ (x : History). x.state) same
            ∙ sym (ap (λ (l : List Step). (history w s l).state) steps ∙ state_append s (steps_of slice xs) (steps_of slice ys));
        reports =
            (λ i. h.reports i ++ k.reports i)
            ∙ ap (λ (x : History). told_by xs rs ++ told_by ys x.answers) same
            ∙ sym (told_append s xs ys (history w t (steps_of slice ys)).answers)
            ∙ ap (told_by (xs ++ ys)) (sym (ap (λ (l : List Step). (history w s l).answers) steps ∙ answers_append s (steps_of slice xs) (steps_of slice ys)));
      }

  windows_history : (ws : List Window) (s : State) → Good c s → IsHistory w s slice (said_in c ws s) (windows c ws s)
  unfolding said_in windows steps_of told_by history
  windows_history [] s g = record { state = refl; reports = refl }
  windows_history (x ∷ ws) s g =
      let n = turns_in c x.bytes x.rooms s in
      joined
      (subst (IsHistory w s slice (said_for n c x.bytes s 0)) (blocks_turns c x.bytes x.rooms s) (whole_history x.bytes n s 0 g))
      (windows_history ws (blocks c x.bytes x.rooms s).state (blocks_good w p x.rooms x.bytes s g))

  windows_fine : (ws : List Window) (s : State) → Good c s → every (report_ok c) (windows c ws s).reports ≡ true
  unfolding windows every
  windows_fine [] s g = refl
  windows_fine (x ∷ ws) s g =
      let b = blocks c x.bytes x.rooms s in
      every_append (report_ok c) b.reports (windows c ws b.state).reports (blocks_fine w p x.rooms x.bytes s g)
      (windows_fine ws b.state (blocks_good w p x.rooms x.bytes s g))

  windows_in : (ws : List Window) (s : State) → every (λ a. within64 a.request) (steps_of slice (said_in c ws s)) ≡ true
  unfolding said_in steps_of every
  windows_in [] s = refl
  windows_in (x ∷ ws) s =
      let n = turns_in c x.bytes x.rooms s in
      let t = (blocks c x.bytes x.rooms s).state in
      ap (every (λ a. within64 a.request)) (steps_append (said_for n c x.bytes s 0) (said_in c ws t))
      ∙ every_append (λ a. within64 a.request) (steps_of slice (said_for n c x.bytes s 0)) (steps_of slice (said_in c ws t))
      (steps_in slice c x.bytes n s 0) (windows_in ws t)

  -- a desk that plays these windows, each by calls of `play` for its rooms
  pub desk : (clock : ℕ) → clock ≤ top → (ws : List Window) → Desk w clock ws slice
  desk clock h ws =
      let s = fresh_at clock in
      let g : Good c s = fresh_good c clock h in
      let xs = said_in c ws s in
      let played = windows_history ws s g in
      let in64 = windows_in ws s in
      let rs = (windows c ws s).reports in
      let es = settled (history w s (steps_of slice xs)).answers in
      let entered : payouts 0 0 rs ≡ es = ap (payouts 0 0) played.reports ∙ told_settled w slice s xs 0 0 in
      let payable = settled_payable w p s g (steps_of slice xs) in64 in
      record {
        is_history = played;
        demand = demand w p clock (steps_of slice xs) in64;
        writable = windows_fine ws s g;
        entries = entered;
        paid = settled_paid w s (steps_of slice xs);
        payable = payable;
        file = file_settled w p rs es entered payable;
        asked = waiting_accepted w p rs es entered payable;
        asked_last = last_accepted w p rs es entered payable;
      }
