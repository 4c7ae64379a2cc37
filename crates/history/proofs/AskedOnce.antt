-- Questions 3 and 4, asked once before a session, need not be asked at its steps: every step leads to a state that passes them again.
-- The result lines of a session pass question 53. Assumes nothing.
use mathlib.Core.Path.{◌≡◌, refl, ap, ◌∙◌}
use mathlib.Core.Bool.{true}
use mathlib.Core.List.{List, [], ◌∷◌}
use Prim.Native.Nat.{ℕ, zero, suc, ◌-◌}
use native.Mathlib.Omega.{arith}
use lib.ListN.{length, drop}
use lib.Dec.{leb}
use lib.IntN.{pos}
use Rattle.laws.specs.Choice.{pick}
use Rattle.laws.proofs.Choice.{by_cases}
use Rattle.numbers.specs.Numbers.{within}
use Rattle.contract.specs.Limits.{max_fields, max_assets}
use Rattle.contract.specs.Tree.{Contract}
use Rattle.laws.proofs.Members.{below_at, repeated_at, repeated_length, every_append}
use Rattle.laws.specs.Lists.{every, repeated}
use Rattle.contract.specs.Decode.{contract_of}
use Rattle.contract.specs.Check.{passes}
use Rattle.contract.proofs.Fitting.{fits_contract}
use Rattle.contract_laws.proofs.Sound.{sound}
use Rattle.state.specs.declared.State.{State}
use Rattle.state.specs.States.{max_pending, blank, fresh_at, used, field_slot_ok, asset_slot_ok, pending_slot_ok, state_ok}
use Rattle.state.proofs.Within as state
use Rattle.state.proofs.Within.{Within}
use Rattle.results.specs.Lines.{report_ok}
use Rattle.questions.specs.declared.Question.{Question}
use Rattle.outcomes.specs.declared.Stepped.{Stepped}
use Rattle.outcomes.specs.Outcomes.{no_labels}
use Rattle.step_reports.specs.Reports.{told, max_told}
use Rattle.machine.specs.Sessions.{Said, asks, unread, heard, Turn, takes, wait, turn_at, Session, here, before, on_turn, session_for, session}
use Rattle.history.specs.Histories.{answer_to}
use Rattle.history.specs.Sessions.{Stored, heard_on, asked_session, blocks}
use Rattle.history.proofs.GoodState.{Good, good_ok}
use Rattle.history.proofs.StepsKeepGood.{request_good}
use Rattle.history.proofs.Clock.{answered_by}
use Rattle.history.proofs.Reported.{Fine, refused_fine, fine_told, request_fine}
use Rattle.history.proofs.LineIntegers.{SaidIn, TurnIn, turn_in}

-- a state that code holds and that passes question 4 is good
pub stored_good : (c : Contract) (s : State) → Stored s → state_ok c s ≡ true → Good c s
unfolding field_slot_ok asset_slot_ok pending_slot_ok
stored_good c s a e =
    let o : Within c s = state.within c s e in
    record {
      clock = o.clock;
      name = o.name;
      fields =
          record {
            kinds_length = a.kinds;
            numbers_length = a.numbers;
            texts_length = a.texts;
            slots = below_at (field_slot_ok (length c.strings) (used s (length c.fields)) s) max_fields o.fields;
            numbers_in = a.integers;
          };
      assets = record { assets_length = a.assets; slots = below_at (asset_slot_ok (used s (length c.assets)) s) max_assets o.assets };
      events = record { few = o.pending; events_length = a.events; slots = below_at (pending_slot_ok c s) max_pending o.events };
    }

good_stored : {c : Contract} {s : State} → Good c s → Stored s
good_stored g =
    record {
      kinds = g.fields.kinds_length;
      numbers = g.fields.numbers_length;
      texts = g.fields.texts_length;
      assets = g.assets.assets_length;
      events = g.events.events_length;
      integers = g.fields.numbers_in;
    }

pub fresh_stored : (clock : ℕ) → Stored (fresh_at clock)
unfolding fresh_at
fresh_stored clock =
    record {
      kinds = repeated_length {A = ℕ} max_fields 0;
      numbers = repeated_length max_fields (pos 0);
      texts = repeated_length {A = ℕ} max_fields 0;
      assets = repeated_length {A = ℕ} max_assets 0;
      events = repeated_length max_pending blank;
      integers = λ i _ p. within (repeated_at max_fields (pos 0) i p);
    }

module _ (w : List ℕ) (p : passes w ≡ true) where
  abbrev c : Contract
  c = contract_of w

  -- ---- what is said

  module _ {s : State} (g : Good c s) where
    heard_same : (x : Said) → heard_on w s x ≡ heard c s x
    unfolding answer_to repeated
    heard_same (asks q) = answered_by w p s (good_ok g) (record { request = q; slice = no_labels }) (omega arith)
    heard_same (unread n) = refl

    pub heard_good : (x : Said) → SaidIn x → Good c (heard c s x).state
    heard_good (asks q) h = request_good c (fits_contract c (sound w p)) g q h
    heard_good (unread n) h = g

    heard_fine : (x : Said) → SaidIn x → Fine c (heard c s x)
    heard_fine (asks q) h = request_fine c (sound w p) g q h
    heard_fine (unread n) h = refused_fine c s n h

  -- ---- a session

  module _ (bytes : List ℕ) where
    abbrev asking : ℕ → ℕ → State → ℕ → Session
    asking turns = session_for turns (heard_on w) c bytes

    abbrev plain : ℕ → ℕ → State → ℕ → Session
    plain turns = session_for turns (heard c) c bytes

    sessions_same : (turns room : ℕ) (s : State) (at : ℕ) → Good c s → asking turns room s at ≡ plain turns room s at
    unfolding session_for
    sessions_same zero room s at g = refl
    sessions_same (suc turns) room s at g =
        ap (λ (e : Session). pick (leb max_told room) e (here s at)) (go (sessions_same turns) (turn_at c bytes s at) (turn_in c bytes s at))
      where
        go : ((room : ℕ) (s : State) (at : ℕ) → Good c s → asking turns room s at ≡ plain turns room s at)
            → (u : Turn) → TurnIn u
            → on_turn (here s at) (λ x next. before (told (heard_on w s x)) (asking turns (room - length (told (heard_on w s x))) (heard_on w s x).state next)) u
            ≡ on_turn (here s at) (λ x next. before (told (heard c s x)) (plain turns (room - length (told (heard c s x))) (heard c s x).state next)) u
        go f wait h = refl
        go f (takes x next) h =
            ap (λ (t : Stepped Question). before (told t) (asking turns (room - length (told t)) t.state next)) (heard_same g x)
            ∙ ap (before (told (heard c s x))) (f (room - length (told (heard c s x))) (heard c s x).state next (heard_good g x h))

    pub sessions_good : (turns room : ℕ) (s : State) (at : ℕ) → Good c s → Good c (plain turns room s at).state
    unfolding session_for
    sessions_good zero room s at g = g
    sessions_good (suc turns) room s at g =
        by_cases (λ (e : Session). Good c e.state) (leb max_told room) _ _
        (λ _. go (sessions_good turns) (turn_at c bytes s at) (turn_in c bytes s at)) (λ _. g)
      where
        go : ((room : ℕ) (s : State) (at : ℕ) → Good c s → Good c (plain turns room s at).state)
            → (u : Turn) → TurnIn u
            → Good c (on_turn (here s at) (λ x next. before (told (heard c s x)) (plain turns (room - length (told (heard c s x))) (heard c s x).state next)) u).state
        go f wait h = g
        go f (takes x next) h = f (room - length (told (heard c s x))) (heard c s x).state next (heard_good g x h)

    abbrev Told : Session → Type 0
    Told e = every (report_ok c) e.reports ≡ true

    pub sessions_fine : (turns room : ℕ) (s : State) (at : ℕ) → Good c s → Told (plain turns room s at)
    unfolding session_for every
    sessions_fine zero room s at g = refl
    sessions_fine (suc turns) room s at g =
        by_cases Told (leb max_told room) _ _ (λ _. go (sessions_fine turns) (turn_at c bytes s at) (turn_in c bytes s at)) (λ _. refl)
      where
        go : ((room : ℕ) (s : State) (at : ℕ) → Good c s → Told (plain turns room s at))
            → (u : Turn) → TurnIn u
            → Told (on_turn (here s at) (λ x next. before (told (heard c s x)) (plain turns (room - length (told (heard c s x))) (heard c s x).state next)) u)
        go f wait h = refl
        go f (takes x next) h =
            let t = heard c s x in
            every_append (report_ok c) (told t) (plain turns (room - length (told t)) t.state next).reports (fine_told (heard_fine g x h))
            (f (room - length (told t)) t.state next (heard_good g x h))

  pub blocks_good : (rooms bytes : List ℕ) (s : State) → Good c s → Good c (blocks c bytes rooms s).state
  unfolding blocks
  blocks_good [] bytes s g = g
  blocks_good (room ∷ rooms) bytes s g = let e = session c bytes room s in blocks_good rooms (drop e.at bytes) e.state (sessions_good bytes room room s 0 g)

  pub blocks_fine : (rooms bytes : List ℕ) (s : State) → Good c s → every (report_ok c) (blocks c bytes rooms s).reports ≡ true
  unfolding blocks every
  blocks_fine [] bytes s g = refl
  blocks_fine (room ∷ rooms) bytes s g =
      let e = session c bytes room s in
      every_append (report_ok c) e.reports (blocks c (drop e.at bytes) rooms e.state).reports (sessions_fine bytes room room s 0 g)
      (blocks_fine rooms (drop e.at bytes) e.state (sessions_good bytes room room s 0 g))

  module _ (s : State) (a : Stored s) (e : state_ok (contract_of w) s ≡ true) (bytes : List ℕ) (room : ℕ) where
    -- asking every step gives the same session
    pub asked_once : asked_session w bytes room s ≡ session (contract_of w) bytes room s
    asked_once = sessions_same bytes room room s 0 (stored_good (contract_of w) s a e)

    -- the state after it is one that code holds
    pub session_stored : Stored (session (contract_of w) bytes room s).state
    session_stored = good_stored (sessions_good bytes room room s 0 (stored_good (contract_of w) s a e))

    -- and passes question 4
    pub session_ok : state_ok (contract_of w) (session (contract_of w) bytes room s).state ≡ true
    session_ok = good_ok (sessions_good bytes room room s 0 (stored_good (contract_of w) s a e))

    -- its result lines pass question 53
    pub told_ok : every (report_ok (contract_of w)) (session (contract_of w) bytes room s).reports ≡ true
    told_ok = sessions_fine bytes room room s 0 (stored_good (contract_of w) s a e)
