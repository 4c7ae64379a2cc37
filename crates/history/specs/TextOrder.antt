-- The first due event by the byte of the contract's text where each event begins (document 02, F-4).
use Rattle.std.specs.Prelude.{ℕ, ◌<◌, ◌≤◌, ◌≡◌, true, length}
use Rattle.contract.specs.Tree.{Contract}
use Rattle.reading.specs.Syntax.{Syntax}
use Rattle.grammar.specs.Order.{event_place}
use Rattle.state.specs.declared.State.{State}
use Rattle.state.specs.States.{live, is_due, pending_at}

-- the byte of the text where the event begins that is at place k of the pending ones
abbrev pub beginning : Syntax → State → ℕ → ℕ
beginning t s k = event_place t (pending_at s k).function (pending_at s k).event

-- the event at place k is due, none that is due begins in the text before it, and of those that begin where it does it is the oldest;
-- proved (`first_in_text`), for a text that means c and a state within question 4, of the place that `due_in` gives, and of no other
pub record FirstInText (t : Syntax) (c : Contract) (s : State) (k : ℕ) : Type 0 where
  pub is_pending : k < length (live s)
  pub is-due : is_due c s (pending_at s k) ≡ true
  pub none_earlier : (j : ℕ) → j < length (live s) → is_due c s (pending_at s j) ≡ true → beginning t s k ≤ beginning t s j
  pub oldest : (j : ℕ) → j < length (live s) → is_due c s (pending_at s j) ≡ true → beginning t s j ≡ beginning t s k → k ≤ j
