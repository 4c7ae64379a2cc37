-- The calls of `play` on some bytes come to their end: a turn takes a line or fires an event, and after a line at most 64 events are
-- pending. Assumes nothing.
use mathlib.Core.Path.{◌≡◌, refl, sym, ap, subst, ◌∙◌}
use mathlib.Core.Bool.{Bool, true, false}
use mathlib.Core.List.{List, [], ◌∷◌}
use Prim.Native.Nat.{ℕ, zero, suc, ◌+◌, ◌-◌, ◌*◌, ◌<◌, ◌≤◌}
use native.Mathlib.Omega.{arith}
use lib.ListN.{length, drop, length-drop}
use lib.Seq.{drop-drop}
use lib.Dec.{leb, ltb}
use borrow.Author.Tests.{ltb-true, leb-true, le-leb}
use Rattle.laws.proofs.Choice.{by_cases, pick_true}
use Rattle.laws.proofs.Members.{every_head, every_tail}
use Rattle.laws.specs.Lists.{every}
use Rattle.contract.specs.Tree.{Contract}
use Rattle.contract.specs.Decode.{contract_of}
use Rattle.contract.specs.Check.{passes}
use Rattle.state.specs.declared.State.{State}
use Rattle.std.specs.Prelude.{Option, Some, None, Ok}
use Rattle.state.specs.States.{max_pending, state_ok, due_in}
use Rattle.state.proofs.Dues.{first_to_fire}
use Rattle.state.proofs.Within.{unagreed}
use Rattle.step_reports.specs.Reports.{told, max_told}
use Rattle.machine.specs.Sessions.{Said, heard, end_of_line, Turn, takes, wait, turn_by_due, turn_at, Session, here, before, on_turn, session_for, session, played}
use Rattle.history.specs.Sessions.{Stored, count_turn, turns_for, turns_of, moved, whole_for, blocks, turns_in, most_turns, Ends}
use Rattle.history.proofs.GoodState.{Good, good_within, good_ok, live_length}
use Rattle.history.proofs.Clock.{fired_so}
use Rattle.history.proofs.LineIntegers.{TurnIn, due_in_lem, turn_in}
use Rattle.history.proofs.AskedOnce.{stored_good, heard_good, sessions_good, blocks_good}
use Rattle.history.proofs.Continued.{roomy, done, one_session, played_session}

-- ---- where nothing is due and no line is whole

module _ (c : Contract) where
  session_waits : (bytes : List ℕ) (s : State) (at : ℕ) → turn_at c bytes s at ≡ wait → (turns room : ℕ) → session_for turns (heard c) c bytes room s at ≡ here s at
  unfolding session_for
  session_waits bytes s at h zero room = refl
  session_waits bytes s at h (suc turns) room =
      by_cases (λ (e : Session). e ≡ here s at) (leb max_told room) _ _
      (λ _. ap (on_turn (here s at) (λ x next. before (told (heard c s x)) (session_for turns (heard c) c bytes (room - length (told (heard c s x))) (heard c s x).state next))) h)
      (λ _. refl)

  blocks_wait : (bytes : List ℕ) (s : State) → turn_at c bytes s 0 ≡ wait → (rooms : List ℕ) → blocks c bytes rooms s ≡ here s 0
  unfolding blocks
  blocks_wait bytes s h [] = refl
  blocks_wait bytes s h (room ∷ rooms) =
      ap (λ (e : Session). before e.reports (moved e.at (blocks c (drop e.at bytes) rooms e.state))) (session_waits bytes s 0 h room room)
      ∙ ap (λ (e : Session). before [] (moved 0 e)) (blocks_wait bytes s h rooms)

-- ---- what is left

-- no more turns than so many are left at a place
abbrev turns_left : List ℕ → State → ℕ → ℕ
turns_left bytes s at = s.pending + suc max_pending * (length bytes - at)

-- where an event is due the contract has been agreed on
due_agreed : {c : Contract} {s : State} → Good c s → (k : ℕ) → due_in c s ≡ Some k → s.agreed ≡ true
due_agreed {c} {s} g k d = go s.agreed refl
  where
    go : (b : Bool) → s.agreed ≡ b → b ≡ true
    go true e = refl
    go false e = absurd (omega (arith, (first_to_fire c s k d).is_pending, live_length g, unagreed c s (good_within g) e))

module _ (w : List ℕ) (p : passes w ≡ true) where
  abbrev c : Contract
  c = contract_of w

  module _ (bytes : List ℕ) where
    -- a line goes past its LF
    abbrev Advances : ℕ → Turn → Type 0
    Advances at wait = Unit {0}
    Advances at (takes x next) = (at < next) × (next ≤ length bytes)

    line_advances : (at : ℕ) → Advances at (turn_by_due bytes at None)
    unfolding end_of_line
    line_advances at =
        by_cases (Advances at) (ltb (end_of_line bytes at) (length bytes)) _ _
        (λ h. let l : end_of_line bytes at < length bytes = ltb-true (end_of_line bytes at) (length bytes) h in (omega arith, l)) (λ _. tt)

    -- a turn leaves one turn less, or fewer
    abbrev Falls : State → ℕ → Turn → Type 0
    Falls s at wait = Unit {0}
    Falls s at (takes x next) = turns_left bytes (heard c s x).state next < turns_left bytes s at

    turn_falls : {s : State} → Good c s → (at : ℕ) → Falls s at (turn_at c bytes s at)
    unfolding turn_at
    turn_falls {s} g at = go (due_in c s) refl
      where
        line_falls : (u : Turn) → TurnIn u → Advances at u → Falls s at u
        line_falls wait h a = tt
        line_falls (takes x next) h a = omega (arith, (heard_good w p g x h).events.few, a.0, a.1)

        go : (d : Option ℕ) → due_in c s ≡ d → Falls s at (turn_by_due bytes at d)
        go (Some k) e = omega (arith, (fired_so g (due_agreed g k e) k e).one_less)
        go None e = line_falls (turn_by_due bytes at None) (due_in_lem bytes at None) (line_advances at)

    -- a session takes the turns that it makes
    session_falls : (turns room : ℕ) (s : State) (at : ℕ) → Good c s
        → let e = session_for turns (heard c) c bytes room s at in
        turns_for turns c bytes room s at + turns_left bytes e.state e.at ≤ turns_left bytes s at
    unfolding turns_for session_for
    session_falls zero room s at g = omega arith
    session_falls (suc turns) room s at g =
        roomy (λ n e. n + turns_left bytes e.state e.at ≤ turns_left bytes s at) (leb max_told room) _ _ (here s at)
        (go (session_falls turns) (turn_at c bytes s at) (turn_in c bytes s at) (turn_falls g at)) (omega arith)
      where
        go : ((room : ℕ) (s : State) (at : ℕ) → Good c s
            → let e = session_for turns (heard c) c bytes room s at in
            turns_for turns c bytes room s at + turns_left bytes e.state e.at ≤ turns_left bytes s at)
            → (u : Turn) → TurnIn u → Falls s at u
            → let e = on_turn (here s at) (λ x next. before (told (heard c s x)) (session_for turns (heard c) c bytes (room - length (told (heard c s x))) (heard c s x).state next)) u in
            count_turn (λ x next. turns_for turns c bytes (room - length (told (heard c s x))) (heard c s x).state next) u + turns_left bytes e.state e.at ≤ turns_left bytes s at
        go f wait h l = omega arith
        go f (takes x next) h l = omega (arith, f (room - length (told (heard c s x))) (heard c s x).state next (heard_good w p g x h))

    -- with room for the result lines of any step a turn is made if there is one
    some_turn : (room : ℕ) (s : State) (x : Said) (next : ℕ) → max_told ≤ room → turn_at c bytes s 0 ≡ takes x next → 0 < turns_of c bytes room s
    unfolding turns_for
    some_turn zero s x next h e = absurd (omega arith)
    some_turn (suc room) s x next h e =
        subst (λ (n : ℕ). 0 < n)
        (sym (pick_true _ _ _ (le-leb max_told (suc room) h)
        ∙ ap (count_turn (λ x next. turns_for room c bytes (suc room - length (told (heard c s x))) (heard c s x).state next)) e))
        (omega arith)

  -- ---- block by block

  abbrev Waits : List ℕ → Session → Type 0
  Waits bytes b = turn_at c (drop b.at bytes) b.state 0 ≡ wait

  blocks_end : (rooms bytes : List ℕ) (s : State) → Good c s → every (leb max_told) rooms ≡ true → most_turns bytes s < length rooms → Waits bytes (blocks c bytes rooms s)
  unfolding blocks
  blocks_end [] bytes s g r h = absurd (omega arith)
  blocks_end (room ∷ rooms) bytes s g r h = go (blocks_end rooms) (turn_at c bytes s 0) refl
    where
      go : ((bytes : List ℕ) (s : State) → Good c s → every (leb max_told) rooms ≡ true → most_turns bytes s < length rooms → Waits bytes (blocks c bytes rooms s))
          → (u : Turn) → turn_at c bytes s 0 ≡ u → Waits bytes (blocks c bytes (room ∷ rooms) s)
      go f wait q = subst (Waits bytes) (sym (blocks_wait c bytes s q (room ∷ rooms))) q
      go f (takes x next) q =
          let e = session c bytes room s in
          let b = blocks c (drop e.at bytes) rooms e.state in
          let l : 0 < turns_of c bytes room s = some_turn bytes room s x next (leb-true max_told room (every_head (leb max_told) room rooms r)) q in
          let m : most_turns (drop e.at bytes) e.state < length rooms = omega (arith, session_falls bytes room room s 0 g, length-drop e.at bytes) in
          ap (λ (l : List ℕ). turn_at c l b.state 0) (sym (drop-drop b.at e.at bytes))
          ∙ f (drop e.at bytes) e.state (sessions_good w p bytes room room s 0 g) (every_tail (leb max_told) room rooms r) m

  blocks_few : (rooms bytes : List ℕ) (s : State) → Good c s → turns_in c bytes rooms s ≤ most_turns bytes s
  unfolding turns_in
  blocks_few [] bytes s g = omega arith
  blocks_few (room ∷ rooms) bytes s g =
      let e = session c bytes room s in
      omega (arith, session_falls bytes room room s 0 g, length-drop e.at bytes, blocks_few rooms (drop e.at bytes) e.state (sessions_good w p bytes room room s 0 g))

  module _ (s : State) (a : Stored s) (o : state_ok (contract_of w) s ≡ true) (bytes : List ℕ) where
    pub ends : Ends (contract_of w) bytes s
    ends = record { done = λ rooms r h. blocks_end rooms bytes s (stored_good c s a o) r h; told_nothing = λ room h e. done c bytes room s h e }

    -- on these bytes no more turns are made, whatever the rooms
    pub few_turns : (rooms : List ℕ) → turns_in (contract_of w) bytes rooms s ≤ most_turns bytes s
    few_turns rooms = blocks_few rooms bytes s (stored_good c s a o)

    -- so many calls are the whole session
    pub whole_session : (rooms : List ℕ) → every (leb max_told) rooms ≡ true → most_turns bytes s < length rooms
        → whole_for (most_turns bytes s) (contract_of w) bytes s 0 ≡ blocks (contract_of w) bytes rooms s
    whole_session rooms r h =
        let b = blocks c bytes rooms s in
        one_session c bytes rooms s max_told (omega arith)
        (ap (λ (e : Session). e.reports) (session_waits c (drop b.at bytes) b.state 0 (ends.done rooms r h) max_told max_told))
        (most_turns bytes s) (few_turns rooms)

    -- the next call of `play` then does nothing and tells nothing
    pub play_ends : (rooms : List ℕ) → every (leb max_told) rooms ≡ true → most_turns bytes s < length rooms → (room : ℕ) → max_told ≤ room
        → let b = blocks (contract_of w) bytes rooms s in
        played w b.state (drop b.at bytes) room ≡ Ok (record { state = b.state; used = 0; many = 0 })
    play_ends rooms r h room l =
        let b = blocks c bytes rooms s in
        let g = stored_good c s a o in
        played_session w p b.state (good_ok (blocks_good w p rooms bytes s g)) (drop b.at bytes) room l
        ∙ ap (λ (e : Session). Ok (record { state = e.state; used = e.at; many = length e.reports }))
        (session_waits c (drop b.at bytes) b.state 0 (ends.done rooms r h) room room)
