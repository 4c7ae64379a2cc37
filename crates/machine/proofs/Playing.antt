-- Result lines told as numbers one after the other, and a session turn by turn. Assumes nothing.
use mathlib.Core.Path.{◌≡◌, refl, sym, ap, subst, ◌∙◌}
use mathlib.Core.Bool.{Bool, true, false}
use mathlib.Core.List.{List, [], ◌∷◌, ◌++◌, append_assoc, append-nil}
use Prim.Native.Nat.{ℕ, zero, suc, ◌+◌, ◌-◌, ◌*◌, ◌≤◌, ◌<◌, min}
use native.Mathlib.Omega.{arith}
use lib.Dec.{leb}
use lib.IntN.{ℤ}
use lib.ListN.{length, take, drop, length-append}
use lib.Seq.{sets}
use borrow.Author.Tests.{lt-ltb, le-ltb, le-leb, lt-leb, leb-true, leb-false}
use Rattle.laws.specs.Choice.{pick}
use Rattle.laws.proofs.Choice.{pick_true, pick_false, by_cases}
use Rattle.tokens.specs.Tokens.{between}
use Rattle.contract.specs.Tree.{Contract}
use Rattle.contract.specs.Decode.{contract_of}
use Rattle.contract.specs.Check.{passes}
use Rattle.state.specs.declared.State.{State}
use Rattle.std.specs.Prelude.{Option, Some, None, IfSome, Result, Ok, Err}
use Rattle.state.specs.States.{state_ok, due_in}
use Rattle.statements.specs.Running.{labels_from}
use Rattle.results.specs.declared.Report.{Report}
use Rattle.results.specs.Coded.{coded_all, integers_of}
use Rattle.outcomes.specs.declared.Stepped.{Stepped}
use Rattle.outcomes.specs.Outcomes.{no_labels}
use Rattle.machine.specs.declared.Reply.{Reply}
use Rattle.tables.specs.declared.Passed.{Passed}
use Rattle.machine.specs.declared.Next.{Next}
use Rattle.machine.specs.declared.Next.TheVariants as next
use Rattle.machine.specs.declared.Played.{Played}
use Rattle.machine.specs.Sessions.{Said, said, heard, end_of_line, Turn, takes, wait, turn_by_due, turn_at, Session, here, before, on_turn, session_for, session, played, reports_of}
use Rattle.machine.specs.Private.{admission, admitted, stepped_in, taken_by, taken, said_of, due_of, turn_of, PlayedIs}
use Rattle.step_reports.specs.Reports.{report_of, label_reports, told as lines_told, room_in, has_room, step_reports}
use Rattle.step_reports.proofs.Reports.{Told, told_none, told_more, numbers_kept, integers_kept, sent_length, words_told}
use Rattle.questions.specs.declared.Question.{Question}
use Rattle.machine.proofs.Gates.{first_of, stops, goes}
use Rattle.machine.proofs.Pendings.{Left, labels_fired, labels_taken}

-- ---- what a turn takes up

module _ (c : Contract) (bytes : List ℕ) (s : State) (at : ℕ) where
  pub turn_fires : {d : Option ℕ} (k : ℕ) → d ≡ due_in c s → d ≡ Some k → turn_at c bytes s at ≡ turn_of bytes at (Some (next.Event k))
  unfolding turn_at
  turn_fires k f e = ap (turn_by_due bytes at) (sym f ∙ e)

  module _ {d : Option ℕ} (f : d ≡ due_in c s) (e : d ≡ None) (end : ℕ) (g : end ≡ end_of_line bytes at) where
    pub turn_reads : end < length bytes → turn_at c bytes s at ≡ turn_of bytes at (Some (next.Line end))
    unfolding turn_at
    turn_reads h =
        let l : end_of_line bytes at < length bytes = omega arith in
        ap (turn_by_due bytes at) (sym f ∙ e)
        ∙ pick_true _ _ _ (lt-ltb _ _ l)
        ∙ (λ i. takes (said (between bytes at (sym g i))) (suc (sym g i)))

    pub turn_waits : length bytes ≤ end → turn_at c bytes s at ≡ turn_of bytes at None
    unfolding turn_at
    turn_waits h =
        let l : length bytes ≤ end_of_line bytes at = omega arith in
        ap (turn_by_due bytes at) (sym f ∙ e) ∙ pick_false _ _ _ (le-ltb _ _ l)

-- a line is heard as it is taken
pub line_heard : (c : Contract) (s : State) (bytes : List ℕ) (at end : ℕ) {line : List ℕ} {n : Next} → line ≡ between bytes at end → n ≡ next.Line end → taken c s line ≡ heard c s (said_of bytes at n)
unfolding taken_by
line_heard c s bytes at end e f = ap (taken c s) e ∙ sym (ap (λ (x : Next). heard c s (said_of bytes at x)) f)

pub some_due : (due : Option ℕ) (n : Next) {r : Option Next} → IfSome r (λ x. due ≡ due_of x) → r ≡ Some n → due ≡ due_of n
some_due due n h e = subst (λ (r : Option Next). IfSome r (λ x. due ≡ due_of x)) e h

-- ---- turns

module _ (c : Contract) (s : State) where
  abbrev Kept : Turn → Type 0
  Kept wait = Unit
  Kept (takes x next) = Left (heard c s x).labels (heard c s x).count

  module _ (bytes : List ℕ) (at : ℕ) where
    line_kept : (line : List ℕ) (next : ℕ) → Kept (takes (said line) next)
    unfolding taken_by
    line_kept line next = labels_taken c s line

    kept_by : (d : Option ℕ) → Kept (turn_by_due bytes at d)
    kept_by (Some k) = labels_fired c s
    kept_by None = by_cases Kept _ _ _ (λ _. line_kept (between bytes at (end_of_line bytes at)) (suc (end_of_line bytes at))) (λ _. tt)

    kept : Kept (turn_at c bytes s at)
    unfolding turn_at
    kept = kept_by (due_in c s)

  -- a turn that took something up: where the next line starts, and the step
  pub record Made (at : ℕ) (came : Stepped Question) (turn : Turn) : Type 0 where
    pub taken_up : Said
    pub turned : turn ≡ takes taken_up at
    pub came_so : came ≡ heard c s taken_up

-- ---- a session from its turns

module _ (hear : State → Said → Stepped Question) (c : Contract) (bytes : List ℕ) (room : ℕ) (s : State) (at : ℕ) where
  -- what is done after a turn, with so many more at most
  abbrev further : ℕ → Said → ℕ → Session
  further k x next = before (lines_told (hear s x)) (session_for k hear c bytes (room - length (lines_told (hear s x))) (hear s x).state next)

  session_full : (turns : ℕ) → room < 65 → session_for turns hear c bytes room s at ≡ here s at
  unfolding session_for
  session_full zero h = refl
  session_full (suc k) h = pick_false _ _ _ (lt-leb 65 room h)

  session_wait : (turns : ℕ) → turn_at c bytes s at ≡ wait → session_for turns hear c bytes room s at ≡ here s at
  unfolding session_for
  session_wait zero e = refl
  session_wait (suc k) e =
      by_cases (λ x. x ≡ here s at) _ _ _ (λ _. ap (on_turn (here s at) (further k)) e) (λ _. refl)

  session_step : (turns k : ℕ) (x : Said) (next : ℕ) → turns ≡ suc k → 65 ≤ room → turn_at c bytes s at ≡ takes x next → session_for turns hear c bytes room s at ≡ further k x next
  unfolding session_for
  session_step turns k x next e h f =
      ap (λ n. session_for n hear c bytes room s at) e ∙ pick_true _ _ _ (le-leb 65 room h) ∙ ap (on_turn (here s at) (further k)) f

before_before : (a b : List Report) (e : Session) → before a (before b e) ≡ before (a ++ b) e
before_before a b e = ap (λ l. record { state = e.state; at = e.at; reports = l }) (sym (append_assoc a b e.reports))

-- the result lines of an answer whose labels stand in these words
abbrev pub replies_of : Reply → State → List ℤ → List Report
replies_of r s ws = step_reports r.outcome s.state s.clock r.count ws

-- what is told so far, followed by the session from here on, is the whole session
pub record Going (c : Contract) (bytes : List ℕ) (room : ℕ) (e : Session) (numbers : List ℕ) (integers : List ℤ) (told : List ℕ) (values : List ℤ) (s : State) (at n : ℕ) : Type 0 where
  pub so : List Report
  pub turns : ℕ
  pub counted : n ≡ length so
  pub within : n ≤ room
  pub enough : room ≤ n + turns
  pub same : e ≡ before so (session_for turns (heard c) c bytes (room - n) s at)
  pub written : Told numbers integers 0 so told values

module _ {c : Contract} {bytes : List ℕ} {room : ℕ} {numbers : List ℕ} {integers : List ℤ} where
  pub going_first : (whole : ℕ) → room ≡ whole → (s : State) → Going c bytes room (session c bytes whole s) numbers integers numbers integers s 0 0
  going_first whole e s =
      let z : room ≡ room - 0 = omega arith in
      record {
        so = [];
        turns = room;
        counted = refl;
        within = omega arith;
        enough = omega arith;
        same = ap (λ k. session_for k (heard c) c bytes k s 0) (sym e) ∙ ap (λ k. session_for room (heard c) c bytes k s 0) z;
        written = told_none;
      }

  module _ {e : Session} {told : List ℕ} {values : List ℤ} {s : State} {at n : ℕ} (g : Going c bytes room e numbers integers told values s at n) where
    ended : e ≡ before g.so (here s at) → PlayedIs e (record { state = s; used = at; many = n }) numbers integers told values
    ended f =
        let so : e.reports ≡ g.so = ap (λ (x : Session). x.reports) f ∙ append-nil g.so in
        record {
          state = sym (ap (λ (x : Session). x.state) f);
          used = sym (ap (λ (x : Session). x.at) f);
          many = g.counted ∙ ap length (sym so);
          numbers_after = g.written.numbers_after ∙ ap (λ l. sets numbers 0 (coded_all l)) (sym so);
          integers_after = g.written.integers_after ∙ ap (λ l. sets integers 0 (integers_of l)) (sym so);
        }

    pub ended_full : room - n < 65 → PlayedIs e (record { state = s; used = at; many = n }) numbers integers told values
    ended_full h = ended (g.same ∙ ap (before g.so) (session_full (heard c) c bytes (room - n) s at g.turns h))

    pub ended_wait : turn_at c bytes s at ≡ wait → PlayedIs e (record { state = s; used = at; many = n }) numbers integers told values
    ended_wait h =
        ended (g.same ∙ ap (before g.so) (session_wait (heard c) c bytes (room - n) s at g.turns h))

    -- after the labels that a turn sent there are none
    pub left_blank : {next : ℕ} (r : Reply) (now : State) (ws : List ℤ) → Made c s next (stepped_in r now ws) (turn_at c bytes s at) → drop r.count (labels_from ws) ≡ drop r.count no_labels
    left_blank {next} r now ws w =
        (subst (λ (x : Stepped Question). Left x.labels x.count) (sym w.came_so) (subst (Kept c s) w.turned (kept c s bytes at))).1

    -- there is room for the result lines of a step
    module _ (enough : 65 ≤ room - n) (whole : room ≡ room_in (length numbers) (length integers)) where
      fit : has_room told values n ≡ true
      fit =
          let a = numbers_kept g.written in
          let b = integers_kept g.written in
          le-leb (n + 65) (room_in (length told) (length values)) (omega arith)

      pub goes_up : (k m : ℕ) → m ≡ pick (has_room told values n) (n + 1 + k) n → room - m < room - n
      goes_up k m e = let d : m ≡ n + 1 + k = e ∙ pick_true _ _ _ fit in omega arith

      pub going_on : {next : ℕ} (r : Reply) (now : State) (ws : List ℤ) → Made c s next (stepped_in r now ws) (turn_at c bytes s at)
          → {m : ℕ} {more : List ℕ} {others : List ℤ}
          → m ≡ pick (has_room told values n) (n + 1 + min r.count 64) n
          → more ≡ pick (has_room told values n) (sets told (4 * n) (coded_all (replies_of r now ws))) told
          → others ≡ pick (has_room told values n) (sets values n (integers_of (replies_of r now ws))) values
          → Going c bytes room e numbers integers more others now next m
      unfolding lines_told
      going_on {next} r now ws w {m} {more} {others} up a b =
          let t : Stepped Question = heard c s w.taken_up in
          let k = subst (Kept c s) w.turned (kept c s bytes at) in
          let l : length (labels_from ws) ≡ 64 = ap (λ (x : Stepped Question). length x.labels) w.came_so ∙ k.0 in
          let f : replies_of r now ws ≡ lines_told t =
          ap (λ (z : List Report). report_of r.outcome now.state now.clock ∷ z) (words_told r.count ws l)
          ∙ (λ i. report_of (w.came_so i).outcome (w.came_so i).state.state (w.came_so i).state.clock ∷ label_reports (take (w.came_so i).count (w.came_so i).labels)) in
          let y : Told told values n (lines_told t) more others =
          subst (λ (z : List Report). Told told values n z more others) f (record { numbers_after = a ∙ pick_true _ _ _ fit; integers_after = b ∙ pick_true _ _ _ fit }) in
          let len : length (lines_told t) ≡ suc (min r.count 64) = ap length (sym f) ∙ ap suc (sent_length (min r.count 64) ws) in
          let d : m ≡ n + 1 + min r.count 64 = up ∙ pick_true _ _ _ fit in
          let i : 0 + length g.so ≡ n = omega (arith, g.counted) in
          let j : room - n - length (lines_told t) ≡ room - m = omega arith in
          let o : g.turns ≡ suc (g.turns - 1) = omega (arith, g.enough) in
          record {
            so = g.so ++ lines_told t;
            turns = g.turns - 1;
            counted = sym (length-append g.so (lines_told t) ∙ omega (arith, g.counted));
            within = omega arith;
            enough = omega (arith, g.enough);
            same =
                g.same
                ∙ ap (before g.so) (session_step (heard c) c bytes (room - n) s at g.turns (g.turns - 1) w.taken_up next o enough w.turned)
                ∙ before_before g.so (lines_told t) _
                ∙ ap (λ x. before (g.so ++ lines_told t) (session_for (g.turns - 1) (heard c) c bytes x t.state next)) j
                ∙ ap (λ (x : Stepped Question). before (g.so ++ lines_told t) (session_for (g.turns - 1) (heard c) c bytes (room - m) x.state next)) (sym w.came_so);
            written = told_more g.written (sym i) y;
          }

-- ---- the first questions of a session

module _ (w : List ℕ) (s : State) (bytes : List ℕ) (room : ℕ) where
  -- all that a session's contract says
  abbrev Plays : Result Played Question → List ℕ → List ℤ → List ℕ → List ℤ → Type 0
  Plays r numbers integers told values =
      (r ≡ played w s bytes room)
      × ((told ≡ sets numbers 0 (coded_all (reports_of w s bytes room)))
      × (values ≡ sets integers 0 (integers_of (reports_of w s bytes room))))

  -- room for a step's labels after its first result line is room for its result lines
  room_test : (b : Bool) → leb 65 room ≡ b → leb 64 (room - 1) ≡ b
  room_test true e = let h = leb-true 65 room e in le-leb 64 (room - 1) (omega arith)
  room_test false e = let h = leb-false 65 room e in lt-leb 64 (room - 1) (omega arith)

  module _ (m : ℕ) (l : m ≡ room - 1) (n : Result Passed Question) (e : admitted n ≡ admission w m s) where
    first : admitted n ≡ first_of w (passes w) (state_ok (contract_of w) s) (leb 65 room)
    unfolding admission
    first = e ∙ ap (first_of w (passes w) (state_ok (contract_of w) s)) (ap (leb 64) l ∙ room_test (leb 65 room) refl)

    pub play_stopped : (p : Question) → n ≡ Err p → (numbers : List ℕ) (integers : List ℤ) → Plays (Err p) numbers integers numbers integers
    unfolding played reports_of coded_all integers_of
    play_stopped r z numbers integers =
        let a = passes w in
        let b = state_ok (contract_of w) s in
        let d = leb 65 room in
        let none : Question → List Report = λ _. [] in
        let refuse : Question → Result Played Question = λ q. Err q in
        let p = stops refuse _ w a b d r (sym (ap admitted z) ∙ first) in
        let q = stops none (session (contract_of w) bytes room s).reports w a b d r (sym (ap admitted z) ∙ first) in
        (p, (ap (λ (l : List Report). sets numbers 0 (coded_all l)) q, ap (λ (l : List Report). sets integers 0 (integers_of l)) q))

    pub play_went : (x : Passed) → n ≡ Ok x → (r : Played) (numbers told : List ℕ) (integers values : List ℤ) → PlayedIs (session (contract_of x.table.now) bytes room s) r numbers integers told values → Plays (Ok r) numbers integers told values
    unfolding played reports_of
    play_went x z r numbers told integers values h =
        let a = passes w in
        let b = state_ok (contract_of w) s in
        let d = leb 65 room in
        let none : Question → List Report = λ _. [] in
        let refuse : Question → Result Played Question = λ q. Err q in
        let g = goes refuse _ w _ a b d (sym (ap admitted z) ∙ first) in
        let p = g.2 in
        let q = (goes none (session (contract_of w) bytes room s).reports w _ a b d (sym (ap admitted z) ∙ first)).2 in
        let k = subst (λ (y : List ℕ). PlayedIs (session (contract_of y) bytes room s) r numbers integers told values) g.0 h in (
          (λ i. Ok (record { state = k.state i; used = k.used i; many = k.many i })) ∙ p,
          (
            k.numbers_after ∙ ap (λ (l : List Report). sets numbers 0 (coded_all l)) q,
            k.integers_after ∙ ap (λ (l : List Report). sets integers 0 (integers_of l)) q,
          ),
        )
