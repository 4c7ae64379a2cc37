-- The search for the first due event: one turn, and its end. Assumes nothing.
use mathlib.Core.Path.{◌≡◌, sym, ap, ◌∙◌}
use mathlib.Core.Bool.{Bool, true, false, ◌&&◌}
use mathlib.Core.List.{List, [], ◌∷◌}
use Prim.Native.Nat.{ℕ, suc, ◌+◌, ◌<◌, ◌≤◌}
use native.Mathlib.Numerals.{add-one}
use lib.ListN.{length, drop, get_or, drop_of_length-le}
use lib.Seq.{drop-cons}
use borrow.Author.Tests.{eq-eqb, ne_eqb}
use Rattle.laws.specs.Choice.{pick}
use Rattle.contract.specs.Tree.{Contract}
use Rattle.state.specs.States.{event_of}
use Rattle.state.specs.Private.{due_at, takes_over}
use Rattle.state.specs.declared.Pending.{Pending}
use Rattle.std.specs.Prelude.{Option, Some}

-- what was found so far, with its place, and the events that are left, from place i on
unfoldable pub searched : (Pending → Bool) → Option (ℕ × Pending) → ℕ → List Pending → Option (ℕ × Pending)
searched test found i [] = found
searched test found i (p ∷ ps) = searched test (pick (test p && takes_over found p) (Some (i, p)) found) (suc i) ps

-- the search at place i of a list
module _ (test : Pending → Bool) (l : List Pending) (d : Option (ℕ × Pending)) (i : ℕ) where
  pub one_turn : (p : Pending) → i < length l → p ≡ get_or l i p
      → searched test d i (drop i l) ≡ searched test (pick (test p && takes_over d p) (Some (i, p)) d) (i + 1) (drop (i + 1) l)
  unfolding searched
  one_turn p h e =
      rw (add-one) (ap (searched test d i) (drop-cons l i p h) ∙ ap (λ (q : Pending). searched test (pick (test q && takes_over d q) (Some (i, q)) d) (suc i) (drop (suc i) l)) (sym e))

  pub turns_end : length l ≤ i → searched test d i (drop i l) ≡ d
  unfolding searched
  turns_end h = ap (searched test d i) (drop_of_length-le l h)

module _ (c : Contract) (clock state : ℕ) (p : Pending) where
  pub due_now : p.time ≡ clock → (event_of c p).state ≡ state → due_at c clock state p ≡ true
  unfolding due_at
  due_now e h = simp (eq-eqb _ _ e, eq-eqb _ _ h)

  pub other_time : (p.time ≡ clock → ⊥) → due_at c clock state p ≡ false
  unfolding due_at
  other_time e = simp (ne_eqb _ _ e)
