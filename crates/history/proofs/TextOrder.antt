-- The event that a firing takes is the due one that begins first in the text, and of those that begin there the oldest. Assumes nothing.
use mathlib.Core.Path.{◌≡◌, refl, sym, subst}
use mathlib.Core.Bool.{Bool, true, false}
use mathlib.Core.Logic.{◌↔◌}
use mathlib.Core.List.{List, []}
use Prim.Native.Nat.{ℕ, ◌<◌, ◌≤◌}
use native.Mathlib.Omega.{arith}
use lib.ListN.{length, get_or}
use lib.Dec.{ltb}
use borrow.Author.Tests.{ltb-true, ltb-false}
use Rattle.laws.proofs.Truths.{not_so}
use Rattle.contract.specs.Tree.{Contract}
use Rattle.reading.specs.Syntax.{Syntax}
use Rattle.reading.specs.Resolve.{resolve}
use Rattle.grammar.specs.Meaning.{Means}
use Rattle.grammar.specs.Order.{event_places, InOrder}
use Rattle.grammar.proofs.Order.{events_in_order, resolved_functions, resolved_events}
use Rattle.state.specs.declared.State.{State}
use Rattle.std.specs.Prelude.{Some}
use Rattle.state.specs.States.{no_function, live, state_ok, is_due, stands_before, due_in, pending_at, FirstToFire}
use Rattle.state.proofs.Dues.{before_by, neither_before, first_to_fire, one_to_fire}
use Rattle.history.specs.TextOrder.{beginning, FirstInText}
use Rattle.history.proofs.ClauseRun.{pending_clause}

-- a pending event is one of the tree's
pending_there : (x : List ℕ) (t : Syntax) (s : State) → state_ok (resolve x t) s ≡ true → (k : ℕ) → k < length (live s)
    → (pending_at s k).event < length (get_or (event_places t) (pending_at s k).function [])
pending_there x t s o k h =
    let p = pending_at s k in
    let e = pending_clause (resolve x t) s k o h in
    omega (arith, e.1, resolved_events x t p.function no_function (omega (arith, e.0, resolved_functions x t)))

module _ (x : List ℕ) (t : Syntax) (i : InOrder t) (s : State) (o : state_ok (resolve x t) s ≡ true) where
  abbrev c : Contract
  c = resolve x t

  -- an event that stands before another begins before it
  begins : (j k : ℕ) → j < length (live s) → k < length (live s) → stands_before (pending_at s j) (pending_at s k) ≡ true → beginning t s j < beginning t s k
  begins j k h l b =
      let p = pending_at s j in
      let r = pending_at s k in
      before_by p r b
      (λ f. i.by_function p.function r.function p.event r.event f (pending_there x t s o j h) (pending_there x t s o k l))
      (λ e f. subst (λ (n : ℕ). beginning t s j < get_or (get_or (event_places t) n []) r.event 0) e
      (i.by_event p.function p.event r.event f
      (subst (λ (n : ℕ). r.event < length (get_or (event_places t) n [])) (sym e) (pending_there x t s o k l))))

  -- two that are the same event of the text begin at one place
  together : (j k : ℕ) → (pending_at s j).function ≡ (pending_at s k).function → (pending_at s j).event ≡ (pending_at s k).event → beginning t s j ≡ beginning t s k
  together j k u v = λ z. get_or (get_or (event_places t) (u z) []) (v z) 0

  module _ (k : ℕ) where
    text_first : FirstToFire c s k → FirstInText t c s k
    text_first f =
        record {
          is_pending = f.is_pending;
          is-due = f.is-due;
          none_earlier = λ j h e. later j h (f.none_before j h e) (stands_before (pending_at s k) (pending_at s j)) refl;
          oldest = λ j h e q. aged j h e q (ltb j k) refl;
        }
      where
        later : (j : ℕ) → j < length (live s) → stands_before (pending_at s j) (pending_at s k) ≡ false → (b : Bool) → stands_before (pending_at s k) (pending_at s j) ≡ b
            → beginning t s k ≤ beginning t s j
        later j h a true b = omega (arith, begins k j f.is_pending h b)
        later j h a false b = let y = neither_before (pending_at s j) (pending_at s k) a b in omega (arith, together j k y.0 y.1)

        aged : (j : ℕ) → j < length (live s) → is_due c s (pending_at s j) ≡ true → beginning t s j ≡ beginning t s k → (b : Bool) → ltb j k ≡ b → k ≤ j
        aged j h e q true l =
            let b = not_so (stands_before (pending_at s k) (pending_at s j)) (λ z. omega (arith, begins k j f.is_pending h z)) in
            let y = neither_before (pending_at s j) (pending_at s k) (f.none_before j h e) b in
            absurd (f.none_older j (ltb-true j k l) e y.0 y.1)
        aged j h e q false l = ltb-false j k l

    first_text : FirstInText t c s k → FirstToFire c s k
    first_text f =
        record {
          is_pending = f.is_pending;
          is-due = f.is-due;
          none_before = λ j h e. not_so _ λ b. omega (arith, begins j k h f.is_pending b, f.none_earlier j h e);
          none_older = λ j h e u v. omega (arith, f.oldest j (omega (arith, f.is_pending)) e (together j k u v));
        }

    due_text : (due_in c s ≡ Some k) ↔ FirstInText t c s k
    due_text = (λ d. text_first (first_to_fire c s k d), λ f. one_to_fire c s (first_text f))

-- of every text that means a contract (those that reading accepts, `read_exactly`), in each state within question 4: the first due event is
-- the due one that begins first in the text, the oldest of those that begin there
pub first_in_text : (x : List ℕ) (c : Contract) (m : Means x c) (s : State) → state_ok c s ≡ true → (k : ℕ) → (due_in c s ≡ Some k) ↔ FirstInText m.tree c s k
first_in_text x c m s o k =
    subst (λ (d : Contract). (due_in d s ≡ Some k) ↔ FirstInText m.tree d s k) m.resolved
    (due_text x m.tree (events_in_order x m.tree m.tokens m.all m.derives) s (subst (λ (d : Contract). state_ok d s ≡ true) (sym m.resolved) o) k)
