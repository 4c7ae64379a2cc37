-- The state of a contract: fresh, within its ranges (question 4), which pending events are due and which of them comes first, and how time
-- passes.
use Rattle.std.specs.Prelude.{ℕ, zero, suc, ◌+◌, ◌-◌, ◌≤◌, ◌<◌, Bool, true, false, not, ◌&&◌, List, [], ◌∷◌, ◌++◌, ◌≡◌, length, get_or, take, drop, set, eqb, leb, ltb, ℤ, pos, Option, Some, None}
use Rattle.laws.specs.Choice.{pick}
use Rattle.numbers.specs.Numbers.{eq_z}
use Rattle.contract.specs.Limits.{top, max_assets, max_fields}
use Rattle.laws.specs.Lists.{all_below}
use Rattle.contract.specs.Tree.{Word, Contract, Function, Event, none, omitted, broken_expression}
use Rattle.contract.specs.Table.{word_at}
use Rattle.contract.specs.Rows.{function_row_of, event_row_of}
use Rattle.contract.specs.declared.Event.{Event as Row}
use Rattle.state.specs.declared.State.{State}
use Rattle.state.specs.declared.Pending.{Pending}
use Rattle.laws.specs.Lists.{every, repeated, keep}

-- at most so many events are pending
abbrev pub max_pending : ℕ
max_pending = 64

-- a slot for a pending event that is not in use
abbrev pub blank : Pending
blank = record { function = 0; event = 0; time = 0 }

-- none, nothing, zeros, a given clock
unfoldable pub fresh_at : ℕ → State
fresh_at clock =
    record {
      agreed = false;
      state = 0;
      kinds = repeated max_fields 0;
      numbers = repeated max_fields (pos 0);
      texts = repeated max_fields 0;
      assets = repeated max_assets 0;
      clock = clock;
      pending = 0;
      events = repeated max_pending blank;
    }

-- what no function of a contract is, and no event
abbrev pub no_function : Function
no_function =
    record { state = 0; party = 0; name = []; values = []; parameters = []; precondition = omitted; body = none; events = []; last = 0 }

abbrev pub no_event : Event
no_event = record { guard = broken_expression; state = 0; handler = none; last = 0 }

-- a pending event in the contract's text: an event of one of its functions
unfoldable pub event_of : Contract → Pending → Event
event_of c p = get_or (get_or c.functions p.function no_function).events p.event no_event

-- its row in the table, if the contract has it
unfoldable pub row_of : List ℕ → Pending → Option Row
row_of w p =
    pick (ltb p.function (word_at w 6))
    (pick (ltb p.event (function_row_of w p.function).events) (Some (event_row_of w ((function_row_of w p.function).event + p.event))) None)
    None

-- the pending events, oldest first
abbrev pub live : State → List Pending
live s = take s.pending s.events

-- ---- question 4

-- a field's value: nothing, an integer, or a string of the contract
unfoldable pub field_ok : ℕ → ℕ → ℤ → ℕ → Bool
field_ok strings kind number text =
    pick (eqb kind 0) (eq_z number (pos 0) && eqb text 0)
    (pick (eqb kind 1) (eqb text 0)
    (eqb kind 2 && (eq_z number (pos 0) && ltb text strings)))

-- field i: one of the contract's, or nothing
unfoldable pub field_slot_ok : ℕ → ℕ → State → ℕ → Bool
field_slot_ok strings used s i =
    field_ok strings (get_or s.kinds i 0) (get_or s.numbers i (pos 0)) (get_or s.texts i 0)
    && pick (ltb i used) true (eqb (get_or s.kinds i 0) 0)

-- asset i: one of the contract's, or 0
unfoldable pub asset_slot_ok : ℕ → State → ℕ → Bool
asset_slot_ok used s i = pick (ltb i used) (leb (get_or s.assets i 0) top) (eqb (get_or s.assets i 0) 0)

-- a pending event: of the contract, its time not before the clock
unfoldable pub pending_ok : Contract → ℕ → Pending → Bool
pending_ok c clock p =
    ltb p.function (length c.functions)
    && (ltb p.event (length (get_or c.functions p.function no_function).events)
    && (leb clock p.time && leb p.time top))

unfoldable pub is_blank : Pending → Bool
is_blank p = eqb p.function 0 && (eqb p.event 0 && eqb p.time 0)

unfoldable pub pending_slot_ok : Contract → State → ℕ → Bool
pending_slot_ok c s i =
    pick (ltb i s.pending) (pending_ok c s.clock (get_or s.events i blank)) (is_blank (get_or s.events i blank))

-- an unagreed state uses nothing
abbrev pub used : State → ℕ → ℕ
used s n = pick s.agreed n 0

-- within the ranges and, unagreed, fresh
unfoldable pub state_ok : Contract → State → Bool
state_ok c s =
    leb s.clock top
    && (pick s.agreed (ltb s.state (length c.states)) (eqb s.state 0 && eqb s.pending 0)
    && (leb s.pending max_pending
    && (all_below max_fields (field_slot_ok (length c.strings) (used s (length c.fields)) s)
    && (all_below max_assets (asset_slot_ok (used s (length c.assets)) s)
    && all_below max_pending (pending_slot_ok c s)))))

-- ---- due

-- its time equals the clock and its state equals the current one
unfoldable pub is_due : Contract → State → Pending → Bool
is_due c s p = eqb p.time s.clock && eqb (event_of c p).state s.state

-- p stands before r in the contract's text: its function's number is lower or, in the same function, its place among that function's
-- events is; in a text that means the contract, events begin in the same order (`events_in_order`, grammar)
unfoldable pub stands_before : Pending → Pending → Bool
stands_before p r = pick (eqb p.function r.function) (ltb p.event r.event) (ltb p.function r.function)

-- p is due, and no due event stands before it in the text
unfoldable pub is_foremost : Contract → State → Pending → Bool
is_foremost c s p = is_due c s p && every (λ r. not (is_due c s r && stands_before r p)) (live s)

-- the place of the first of these that is foremost, counted from i
unfoldable pub first_due : Contract → State → ℕ → List Pending → Option ℕ
first_due c s i [] = None
first_due c s i (p ∷ ps) = pick (is_foremost c s p) (Some i) (first_due c s (suc i) ps)

-- where the first due event is: among due events the one that stands first in the contract's text; for two of the same event in the text,
-- the older (document 02, F-4); None if none is due
unfoldable pub due_in : Contract → State → Option ℕ
due_in c s = first_due c s 0 (live s)

-- the pending event at a place, the oldest at 0
abbrev pub pending_at : State → ℕ → Pending
pending_at s k = get_or (live s) k blank

-- the event that a firing takes is at place k: it is due, no due event stands before it in the text, and of the due ones that are the same
-- event of the text it is the oldest; proved (`first_to_fire`) of the place that `due_in` gives, and of no other (`one_to_fire`)
pub record FirstToFire (c : Contract) (s : State) (k : ℕ) : Type 0 where
  pub is_pending : k < length (live s)
  pub is-due : is_due c s (pending_at s k) ≡ true
  pub none_before : (j : ℕ) → j < length (live s) → is_due c s (pending_at s j) ≡ true → stands_before (pending_at s j) (pending_at s k) ≡ false
  pub none_older : (j : ℕ) → j < k → is_due c s (pending_at s j) ≡ true
      → (pending_at s j).function ≡ (pending_at s k).function → (pending_at s j).event ≡ (pending_at s k).event → ⊥

-- ---- a state with a part changed; nowhere else is the record written out again

-- with these values of fields and amounts of assets
abbrev pub with_memory : State → List ℕ → List ℤ → List ℕ → List ℕ → State
with_memory s kinds numbers texts assets =
    record {
      agreed = s.agreed;
      state = s.state;
      kinds = kinds;
      numbers = numbers;
      texts = texts;
      assets = assets;
      clock = s.clock;
      pending = s.pending;
      events = s.events;
    }

-- with an integer in field x
abbrev pub with_integer : State → ℕ → ℤ → State
with_integer s x z = with_memory s (set s.kinds x 1) (set s.numbers x z) s.texts s.assets

-- agreed on, or not, and in state q
abbrev pub with_state : State → Bool → ℕ → State
with_state s agreed q =
    record {
      agreed = agreed;
      state = q;
      kinds = s.kinds;
      numbers = s.numbers;
      texts = s.texts;
      assets = s.assets;
      clock = s.clock;
      pending = s.pending;
      events = s.events;
    }

-- an agreement opens state q
abbrev pub opened : State → ℕ → State
opened s q = with_state s true q

-- with n pending events in these slots, at a clock
abbrev pub with_times : State → ℕ → ℕ → List Pending → State
with_times s clock n slots =
    record {
      agreed = s.agreed;
      state = s.state;
      kinds = s.kinds;
      numbers = s.numbers;
      texts = s.texts;
      assets = s.assets;
      clock = clock;
      pending = n;
      events = slots;
    }

-- with these pending events
unfoldable pub with_pending : State → List Pending → State
with_pending s ps = with_times s s.clock (length ps) (ps ++ repeated (max_pending - length ps) blank)

-- the clock rises by 1
abbrev pub later : State → State
later s = with_times s (suc s.clock) s.pending s.events

-- ---- the pending events change

-- without the events whose time equals the clock
unfoldable pub lapsed : State → State
lapsed s = with_pending s (keep (λ p. not (eqb p.time s.clock)) (live s))

-- without the event at place i
unfoldable pub removed : State → ℕ → State
removed s i = with_pending s (take i (live s) ++ drop (suc i) (live s))

-- with one more after the last, if there is room
unfoldable pub joined_by : State → Pending → State
joined_by s p = pick (ltb s.pending max_pending) (with_times s s.clock (suc s.pending) (set s.events s.pending p)) s

-- ---- time passes

-- once: the events of the old clock are dropped, and the clock rises by 1
abbrev pub time_passed : State → State
time_passed s = later (lapsed s)

-- n times
unfoldable pub passed_times : ℕ → State → State
passed_times zero s = s
passed_times (suc n) s = passed_times n (time_passed s)

-- 0 where an event is due
abbrev pub unless_due : ℕ → Option ℕ → ℕ
unless_due n (Some k) = 0
unless_due n None = n

-- how many times time passes until an event is due, `most` if none is due before
unfoldable pub times_until_due : Contract → ℕ → State → ℕ
times_until_due c zero s = 0
times_until_due c (suc most) s = unless_due (suc (times_until_due c most (time_passed s))) (due_in c s)

-- n is the least number of times after which an event is due, or `most` if there is no such number below `most`; proved (`first_stop`) of
-- `times_until_due c most s`, and of no other number (`one_stop`)
pub record FirstStop (c : Contract) (most : ℕ) (s : State) (n : ℕ) : Type 0 where
  pub no_further : n ≤ most
  pub not_before : (k : ℕ) → k < n → due_in c (passed_times k s) ≡ None
  pub due_or_most : due_in c (passed_times n s) ≡ None → n ≡ most

-- ---- names

-- the name that party p of the contract goes by
abbrev pub party_name : Contract → State → ℕ → Word
party_name c s p = get_or c.parties p []
