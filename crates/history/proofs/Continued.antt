-- A session played block by block, each block on the bytes that are left, is one session, whatever the rooms. Assumes nothing.
use mathlib.Core.Path.{◌≡◌, refl, sym, ap, subst, ◌∙◌}
use mathlib.Core.Bool.{Bool, true, false, not}
use mathlib.Core.List.{List, [], ◌∷◌, ◌++◌, append_assoc, append-nil}
use Prim.Native.Nat.{ℕ, zero, suc, ◌+◌, ◌-◌, ◌<◌, ◌≤◌}
use native.Mathlib.Omega.{arith}
use native.Mathlib.Nat.{not-le_of_lt, add-zero, zero-add, suc-add, add-suc, add_assoc}
use lib.ListN.{length, take, drop, length-drop}
use lib.Seq.{drop-drop}
use lib.Dec.{eqb, leb, ltb}
use borrow.Author.Tests.{ltb-true, ltb-false, lt-ltb, le-ltb, le-leb}
use Rattle.laws.specs.Choice.{pick}
use Rattle.laws.proofs.Choice.{by_cases, pick_true, pick_false}
use Rattle.tokens.specs.Classes.{run}
use Rattle.tokens.specs.Tokens.{between}
use Rattle.contract.specs.Tree.{Contract}
use Rattle.contract.specs.Decode.{contract_of}
use Rattle.contract.specs.Check.{passes}
use Rattle.state.specs.declared.State.{State}
use Rattle.std.specs.Prelude.{Option, Some, None, Ok}
use Rattle.state.specs.States.{state_ok, due_in}
use Rattle.results.specs.declared.Report.{Report}
use Rattle.machine.specs.declared.Played.{Played}
use Rattle.step_reports.specs.Reports.{told, max_told}
use Rattle.machine.specs.Sessions.{Said, said, heard, end_of_line, Turn, takes, wait, turn_by_due, turn_at, Session, here, before, on_turn, session_for, session, played, reports_of}
use Rattle.history.specs.Sessions.{whole_for, count_turn, turns_for, turns_of, moved_turn, moved, blocks, turns_in}

-- ---- places counted from a later byte

module _ (bytes : List ℕ) (k : ℕ) where
  end_shifted : (at : ℕ) → end_of_line bytes (k + at) ≡ k + end_of_line (drop k bytes) at
  unfolding end_of_line
  end_shifted at =
      ap (λ (l : List ℕ). k + at + run (λ b. not (eqb b 10)) l) (sym (drop-drop at k bytes))
      ∙ add_assoc k at (run (λ b. not (eqb b 10)) (drop at (drop k bytes)))

  between_shifted : (a e : ℕ) → a ≤ e → e < length (drop k bytes) → between bytes (k + a) (k + e) ≡ between (drop k bytes) a e
  unfolding between
  between_shifted a e h l =
      let n = length-drop k bytes in
      let d : k + e - (k + a) ≡ e - a = omega arith in
      pick_true _ _ _ (le-leb (k + a) (k + e) (omega arith)) ∙ pick_true _ _ _ (le-leb (k + e) (length bytes) (omega arith))
      ∙ ap (λ (m : ℕ). take m (drop (k + a) bytes)) d ∙ ap (take (e - a)) (sym (drop-drop a k bytes))
      ∙ sym (pick_true _ _ _ (le-leb a e h) ∙ pick_true _ _ _ (le-leb e (length (drop k bytes)) (omega arith)))

  end_after : (at : ℕ) → at ≤ end_of_line (drop k bytes) at
  unfolding end_of_line
  end_after at = omega arith

  due_shifted : (at : ℕ) (d : Option ℕ) → turn_by_due bytes (k + at) d ≡ moved_turn k (turn_by_due (drop k bytes) at d)
  due_shifted at (Some n) = refl
  due_shifted at None =
      let e = end_of_line (drop k bytes) at in
      let n = length-drop k bytes in
      ap (λ (e : ℕ). pick (ltb e (length bytes)) (takes (said (between bytes (k + at) e)) (suc e)) wait) (end_shifted at)
      ∙ by_cases (λ (u : Turn). pick (ltb (k + e) (length bytes)) (takes (said (between bytes (k + at) (k + e))) (suc (k + e))) wait ≡ moved_turn k u)
      (ltb e (length (drop k bytes))) _ _
      (λ h.
      let l : e < length (drop k bytes) = ltb-true e (length (drop k bytes)) h in
      pick_true _ _ _ (lt-ltb (k + e) (length bytes) (omega arith))
      ∙ ap (λ (line : List ℕ). takes (said line) (suc (k + e))) (between_shifted at e (end_after at) l)
      ∙ ap (λ (m : ℕ). takes (said (between (drop k bytes) at e)) m) (sym (add-suc k e)))
      (λ h.
      let l : length (drop k bytes) ≤ e = ltb-false e (length (drop k bytes)) h in
      pick_false _ _ _ (le-ltb (k + e) (length bytes) (omega arith)))

  -- a turn at k + at is one at `at` on the bytes from k on
  pub shifted : (c : Contract) (s : State) (at : ℕ) → turn_at c bytes s (k + at) ≡ moved_turn k (turn_at c (drop k bytes) s at)
  unfolding turn_at
  shifted c s at = due_shifted at (due_in c s)

module _ (c : Contract) (bytes : List ℕ) (k : ℕ) where
  -- and so are all turns from there on
  pub whole_shifted : (turns : ℕ) (s : State) (at : ℕ) → whole_for turns c bytes s (k + at) ≡ moved k (whole_for turns c (drop k bytes) s at)
  unfolding whole_for
  whole_shifted zero s at = refl
  whole_shifted (suc turns) s at =
      ap (on_turn (here s (k + at)) (λ x next. before (told (heard c s x)) (whole_for turns c bytes (heard c s x).state next))) (shifted bytes k c s at)
      ∙ go (whole_shifted turns) (turn_at c (drop k bytes) s at)
    where
      go : ((s : State) (at : ℕ) → whole_for turns c bytes s (k + at) ≡ moved k (whole_for turns c (drop k bytes) s at))
          → (u : Turn)
          → on_turn (here s (k + at)) (λ x next. before (told (heard c s x)) (whole_for turns c bytes (heard c s x).state next)) (moved_turn k u)
          ≡ moved k (on_turn (here s at) (λ x next. before (told (heard c s x)) (whole_for turns c (drop k bytes) (heard c s x).state next)) u)
      go f wait = refl
      go f (takes x next) = ap (before (told (heard c s x))) (f (heard c s x).state next)

-- ---- a session goes on where it stopped

before_before : (a b : List Report) (e : Session) → before a (before b e) ≡ before (a ++ b) e
before_before a b e = ap (λ l. record { state = e.state; at = e.at; reports = l }) (sym (append_assoc a b e.reports))

nothing_more : (e : Session) → before e.reports (moved e.at (here e.state 0)) ≡ e
nothing_more e = λ i. record { state = e.state; at = add-zero e.at i; reports = append-nil e.reports i }

abbrev Empty : List Report → Type 0
Empty [] = Unit {0}
Empty (r ∷ rs) = ⊥

-- a list of length 0 is empty
none_left : (rs : List Report) → length rs ≡ 0 → rs ≡ []
none_left [] e = refl
none_left (r ∷ rs) e = absurd (omega arith)

some_none : {r : Report} {rs : List Report} → r ∷ rs ≡ [] → ⊥
some_none e = subst Empty (sym e) tt

-- what holds of some turns and the session that they make, and of none, holds whether or not there is room
pub roomy : (P : ℕ → Session → Type 0) (b : Bool) (n : ℕ) (e none : Session) → P n e → P 0 none → P (pick b n 0) (pick b e none)
unfolding pick
roomy P true n e none h g = h
roomy P false n e none h g = g

module _ (c : Contract) where
  module _ (bytes : List ℕ) where
    -- with n turns made so far, the whole session is this one and then what comes from its end on
    abbrev Follows : State → ℕ → ℕ → ℕ → Session → Type 0
    Follows s at more n e = whole_for (n + more) c bytes s at ≡ before e.reports (whole_for more c bytes e.state e.at)

    follows_here : (s : State) (at more : ℕ) → Follows s at more 0 (here s at)
    follows_here s at more = ap (λ (n : ℕ). whole_for n c bytes s at) (zero-add more)

    one_turn : (n : ℕ) (s : State) (at : ℕ) (x : Said) (next : ℕ) → turn_at c bytes s at ≡ takes x next
        → whole_for (suc n) c bytes s at ≡ before (told (heard c s x)) (whole_for n c bytes (heard c s x).state next)
    unfolding whole_for
    one_turn n s at x next h = ap (on_turn (here s at) (λ x next. before (told (heard c s x)) (whole_for n c bytes (heard c s x).state next))) h

    follows : (turns room : ℕ) (s : State) (at more : ℕ) → Follows s at more (turns_for turns c bytes room s at) (session_for turns (heard c) c bytes room s at)
    unfolding turns_for session_for
    follows zero room s at more = follows_here s at more
    follows (suc turns) room s at more = roomy (Follows s at more) (leb max_told room) _ _ (here s at) (go (follows turns) (turn_at c bytes s at) refl) (follows_here s at more)
      where
        go : ((room : ℕ) (s : State) (at more : ℕ) → Follows s at more (turns_for turns c bytes room s at) (session_for turns (heard c) c bytes room s at))
            → (u : Turn) → turn_at c bytes s at ≡ u
            → Follows s at more (count_turn (λ x next. turns_for turns c bytes (room - length (told (heard c s x))) (heard c s x).state next) u)
            (on_turn (here s at) (λ x next. before (told (heard c s x)) (session_for turns (heard c) c bytes (room - length (told (heard c s x))) (heard c s x).state next)) u)
        go f wait h = follows_here s at more
        go f (takes x next) h =
            let t = heard c s x in
            let n = turns_for turns c bytes (room - length (told t)) t.state next in
            let e = session_for turns (heard c) c bytes (room - length (told t)) t.state next in
            ap (λ (m : ℕ). whole_for m c bytes s at) (suc-add n more)
            ∙ one_turn (n + more) s at x next h
            ∙ ap (before (told t)) (f (room - length (told t)) t.state next more)
            ∙ before_before (told t) e.reports (whole_for more c bytes e.state e.at)

    -- the turns of a session, and then more of them
    pub continued : (turns room : ℕ) (s : State) (at more : ℕ)
        → let e = session_for turns (heard c) c bytes room s at in
        whole_for (turns_for turns c bytes room s at + more) c bytes s at ≡ before e.reports (whole_for more c bytes e.state e.at)
    continued turns room s at more = follows turns room s at more

    -- where nothing is due and no line is whole, nothing more is done
    pub stays : (s : State) (at : ℕ) → turn_at c bytes s at ≡ wait → (turns : ℕ) → whole_for turns c bytes s at ≡ here s at
    unfolding whole_for
    stays s at h zero = refl
    stays s at h (suc turns) = ap (on_turn (here s at) (λ x next. before (told (heard c s x)) (whole_for turns c bytes (heard c s x).state next))) h

    -- a block, and then the session on the bytes that are left
    pub block_by_block : (room : ℕ) (s : State) (turns : ℕ)
        → let e = session c bytes room s in
        whole_for (turns_of c bytes room s + turns) c bytes s 0 ≡ before e.reports (moved e.at (whole_for turns c (drop e.at bytes) e.state 0))
    block_by_block room s turns =
        let e = session c bytes room s in
        continued room room s 0 turns
        ∙ ap (before e.reports)
        (ap (whole_for turns c bytes e.state) (sym (add-zero e.at)) ∙ whole_shifted c bytes e.at turns e.state 0)

    told_nothing : (turns room : ℕ) (s : State) (at : ℕ) → max_told ≤ room → (session_for (suc turns) (heard c) c bytes room s at).reports ≡ [] → turn_at c bytes s at ≡ wait
    unfolding session_for told
    told_nothing turns room s at h e =
        go (turn_at c bytes s at) (ap (λ (x : Session). x.reports) (sym (pick_true _ _ _ (le-leb max_told room h))) ∙ e)
      where
        go : (u : Turn) → (on_turn (here s at) (λ x next. before (told (heard c s x)) (session_for turns (heard c) c bytes (room - length (told (heard c s x))) (heard c s x).state next)) u).reports ≡ [] → u ≡ wait
        go wait q = refl
        go (takes x next) q = absurd (some_none q)

    -- where a block with room for a step tells nothing, nothing is due and no line is whole
    pub done : (room : ℕ) (s : State) → max_told ≤ room → (session c bytes room s).reports ≡ [] → turn_at c bytes s 0 ≡ wait
    done zero s h e = absurd (not-le_of_lt (omega arith) h)
    done (suc room) s h e = told_nothing room (suc room) s 0 h e

  -- blocks, and then the session on the bytes that are left
  pub blocks_whole : (rooms bytes : List ℕ) (s : State) (turns : ℕ)
      → let b = blocks c bytes rooms s in
      whole_for (turns_in c bytes rooms s + turns) c bytes s 0 ≡ before b.reports (moved b.at (whole_for turns c (drop b.at bytes) b.state 0))
  unfolding blocks turns_in
  blocks_whole [] bytes s turns =
      let e = whole_for turns c bytes s 0 in
      ap (λ (n : ℕ). whole_for n c bytes s 0) (zero-add turns)
      ∙ ap (λ (n : ℕ). record { state = e.state; at = n; reports = e.reports }) (sym (zero-add e.at))
  blocks_whole (room ∷ rooms) bytes s turns =
      let e = session c bytes room s in
      let b = blocks c (drop e.at bytes) rooms e.state in
      let n = turns_in c (drop e.at bytes) rooms e.state in
      let x = whole_for turns c (drop b.at (drop e.at bytes)) b.state 0 in
      ap (λ (m : ℕ). whole_for m c bytes s 0) (add_assoc (turns_of c bytes room s) n turns)
      ∙ block_by_block bytes room s (n + turns)
      ∙ ap (λ (y : Session). before e.reports (moved e.at y)) (blocks_whole rooms (drop e.at bytes) e.state turns)
      ∙ before_before e.reports b.reports (moved e.at (moved b.at x))
      ∙ ap (λ (m : ℕ). record { state = x.state; at = m; reports = (e.reports ++ b.reports) ++ x.reports }) (sym (add_assoc e.at b.at x.at))
      ∙ ap (λ (l : List ℕ). before (e.reports ++ b.reports) (moved (e.at + b.at) (whole_for turns c l b.state 0))) (drop-drop b.at e.at bytes)

  -- blocks are the session of so many turns
  pub blocks_turns : (bytes rooms : List ℕ) (s : State) → whole_for (turns_in c bytes rooms s) c bytes s 0 ≡ blocks c bytes rooms s
  unfolding whole_for
  blocks_turns bytes rooms s =
      let b = blocks c bytes rooms s in
      ap (λ (n : ℕ). whole_for n c bytes s 0) (sym (add-zero (turns_in c bytes rooms s)))
      ∙ blocks_whole rooms bytes s 0
      ∙ nothing_more b

  -- blocks up to one that tells nothing are the whole session
  pub one_session : (bytes rooms : List ℕ) (s : State) (room : ℕ) → max_told ≤ room
      → let b = blocks c bytes rooms s in
      (session c (drop b.at bytes) room b.state).reports ≡ [] → (turns : ℕ) → turns_in c bytes rooms s ≤ turns → whole_for turns c bytes s 0 ≡ b
  one_session bytes rooms s room h e turns l =
      let b = blocks c bytes rooms s in
      let n = turns_in c bytes rooms s in
      let m : turns ≡ n + (turns - n) = omega arith in
      ap (λ (k : ℕ). whole_for k c bytes s 0) m
      ∙ blocks_whole rooms bytes s (turns - n)
      ∙ ap (λ (x : Session). before b.reports (moved b.at x)) (stays (drop b.at bytes) b.state 0 (done (drop b.at bytes) room b.state h e) (turns - n))
      ∙ nothing_more b

-- what `play` answers is the session, where questions 3, 4 and 20 let it pass
pub played_session : (w : List ℕ) → passes w ≡ true → (s : State) → state_ok (contract_of w) s ≡ true → (bytes : List ℕ) (room : ℕ) → max_told ≤ room
    → let e = session (contract_of w) bytes room s in
    played w s bytes room ≡ Ok (record { state = e.state; used = e.at; many = length e.reports })
unfolding played
played_session w p s q bytes room h = pick_true _ _ _ p ∙ pick_true _ _ _ q ∙ pick_true _ _ _ (le-leb max_told room h)

-- and so are its result lines
pub reports_session : (w : List ℕ) → passes w ≡ true → (s : State) → state_ok (contract_of w) s ≡ true → (bytes : List ℕ) (room : ℕ) → max_told ≤ room
    → reports_of w s bytes room ≡ (session (contract_of w) bytes room s).reports
unfolding reports_of
reports_session w p s q bytes room h = pick_true _ _ _ p ∙ pick_true _ _ _ q ∙ pick_true _ _ _ (le-leb max_told room h)

-- as `done`, of what `play` answers
pub played_done : (w : List ℕ) → passes w ≡ true → (s : State) → state_ok (contract_of w) s ≡ true → (bytes : List ℕ) (room : ℕ) → max_told ≤ room
    → (r : Played) → played w s bytes room ≡ Ok r → r.many ≡ 0 → turn_at (contract_of w) bytes s 0 ≡ wait
played_done w p s q bytes room h r z e =
    let g = session (contract_of w) bytes room s in
    let x : Ok (record { state = g.state; used = g.at; many = length g.reports }) ≡ Ok r = sym (played_session w p s q bytes room h) ∙ z in
    let same : ◌≡◌ {A = Played} (record { state = g.state; used = g.at; many = length g.reports }) r = cc in
    done (contract_of w) bytes room s h (none_left _ (ap (λ (x : Played). x.many) same ∙ e))
