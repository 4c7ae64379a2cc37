-- Events and functions, one after the other. Assumes nothing.
use mathlib.Core.Path.{◌≡◌, sym, subst, ◌∙◌}
use mathlib.Core.Bool.{true}
use mathlib.Core.List.{List}
use Prim.Native.Nat.{ℕ, zero, suc, ◌+◌, ◌<◌, ◌≤◌}
use native.Mathlib.Omega.{arith}
use native.Mathlib.Numerals.{add-one}
use borrow.Author.Tests.{ltb-true}
use Rattle.contract.specs.Table.{word_at, function_word, event_word}
use Rattle.contract.specs.Rows.{function_row_of, event_row_of}
use Rattle.contract.specs.Fits.{Scope}
use Rattle.laws.proofs.Truths.{both_left}
use Rattle.contract.proofs.Passed.{function_passed, event_passed}
use Rattle.contract.specs.declared.Function.{Function}
use Rattle.contract.specs.declared.Event.{Event}
use Rattle.contract.specs.Check.{scope_at, event_nodes_ok, event_ok, event_first, first_node, first_event, function_ok}
use Rattle.tables.specs.Private.{event_passes}

-- its node is one of the nodes
pub event_node : (w : List ℕ) (c : Scope) (first i : ℕ) → event_ok w c first i ≡ true → event_word w i 2 < word_at w 8
unfolding event_nodes_ok
event_node w c first i e = ltb-true (event_word w i 2) (word_at w 8) (both_left _ _ (event_passed w c first i e).nodes)

-- ---- the events of function i
module _ (w : List ℕ) (i : ℕ) (f : Function) (e : f ≡ function_row_of w i) where
  pub event_same : (first j : ℕ) → first ≡ event_first w i j → event_ok w (scope_at w f.values f.parameters) first (f.event + j) ≡ event_passes w i j
  event_same first j g = λ t. event_ok w (scope_at w (e t).values (e t).parameters) (g t) ((e t).event + j)

  pub event_next : (j : ℕ) (r : Event) → r ≡ event_row_of w (f.event + j) → r.node + 1 ≡ event_first w i (j + 1)
  unfolding event_first
  event_next j r g = rw (add-one j) ((λ t. (g t).node + 1) ∙ λ t. event_word w ((e t).event + j) 2 + 1)

  pub events_first_lem : f.first + f.precondition + f.body ≡ event_first w i 0
  unfolding event_first
  events_first_lem = λ t. (e t).first + (e t).precondition + (e t).body

-- ---- where a function that passes ends
events_room : (w : List ℕ) (i n : ℕ) → event_first w i 0 ≤ word_at w 8 → ((j : ℕ) → j < n → event_passes w i j ≡ true) → event_first w i n ≤ word_at w 8
unfolding event_first
events_room w i zero h e = h
events_room w i (suc j) h e =
    let l = event_node w _ (event_first w i j) (function_word w i 8 + j) (e j (omega arith)) in
    omega arith

pub record Ended (w : List ℕ) (i : ℕ) (f : Function) : Type 0 where
  pub room : f.first + f.precondition + f.body ≤ word_at w 8
  pub few : f.events ≤ 64
  pub event : f.event ≡ first_event w i
  pub end : event_first w i f.events ≤ word_at w 8

pub ended : (w : List ℕ) (i : ℕ) (f : Function) → f ≡ function_row_of w i → function_ok w i ≡ true → Ended w i f
unfolding event_first
ended w i f e h =
    let p = function_passed w i h in
    subst (Ended w i) (sym e)
    (record {
      room = p.nodes.room;
      few = p.nodes.few;
      event = p.event;
      end = events_room w i (function_word w i 9) p.nodes.room p.nodes.events;
    })

-- the next function starts there
pub function_next : (w : List ℕ) (i : ℕ) (f : Function) → f ≡ function_row_of w i → event_first w i f.events ≡ first_node w (i + 1)
unfolding first_node
function_next w i f e = rw (add-one i) (λ t. event_first w i (e t).events)

pub function_next_event : (w : List ℕ) (i : ℕ) (f : Function) → f ≡ function_row_of w i → f.event + f.events ≡ first_event w (i + 1)
unfolding first_event
function_next_event w i f e = rw (add-one i) (λ t. (e t).event + (e t).events)
