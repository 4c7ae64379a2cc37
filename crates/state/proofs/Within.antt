-- What question 4 says of a state part by part, and the pending events after a change. Assumes nothing.
use mathlib.Core.Path.{◌≡◌, refl, sym, ap, ◌∙◌}
use mathlib.Core.Bool.{Bool, true, false, not, ◌&&◌}
use mathlib.Core.List.{List, ◌++◌}
use Prim.Native.Nat.{ℕ, suc, ◌+◌, ◌-◌, ◌<◌, ◌≤◌}
use native.Mathlib.Omega.{arith}
use lib.ListN.{length, get_or, length-take, get_or-append}
use lib.Seq.{get_or-take, get_or-append-add, take-append_seam}
use lib.Dec.{eqb, leb, ltb}
use borrow.Author.Tests.{le-leb, lt-ltb, ltb-true, ltb-false, leb-true, eqb-true, eqb-false, not-true}
use Rattle.laws.specs.Choice.{pick}
use Rattle.laws.proofs.Choice.{pick_true, pick_false}
use Rattle.contract.specs.Limits.{top, max_fields, max_assets}
use Rattle.laws.proofs.Members.{all_below_lem, below_at, repeated_at}
use Rattle.laws.proofs.Truths.{both_of}
use Rattle.laws.specs.Lists.{all_below, repeated, keep}
use Rattle.contract.specs.Tree.{Contract}
use Rattle.state.specs.States.{max_pending, no_function, blank, live, used, field_slot_ok, asset_slot_ok, pending_ok, is_blank, pending_slot_ok, state_ok, with_pending, lapsed, removed}
use Rattle.state.specs.declared.State.{State}
use Rattle.state.specs.declared.Pending.{Pending}
use Rattle.state.proofs.Kept.{without}
use Rattle.state.proofs.Each.{Each, each_get_or, each_of, each_keep, without_count}

-- ---- the parts of question 4
pub record Within (c : Contract) (s : State) : Type 0 where
  pub clock : s.clock ≤ top
  pub name : pick s.agreed (ltb s.state (length c.states)) (eqb s.state 0 && eqb s.pending 0) ≡ true
  pub pending : s.pending ≤ max_pending
  pub fields : all_below max_fields (field_slot_ok (length c.strings) (used s (length c.fields)) s) ≡ true
  pub assets : all_below max_assets (asset_slot_ok (used s (length c.assets)) s) ≡ true
  pub events : all_below max_pending (pending_slot_ok c s) ≡ true

module _ (c : Contract) (s : State) where
  pub within : state_ok c s ≡ true → Within c s
  unfolding state_ok
  within e =
      let one = both_of _ _ e in
      let two = both_of _ _ one.1 in
      let three = both_of _ _ two.1 in
      let four = both_of _ _ three.1 in
      let five = both_of _ _ four.1 in
      record {
        clock = leb-true s.clock top one.0;
        name = two.0;
        pending = leb-true s.pending max_pending three.0;
        fields = four.0;
        assets = five.0;
        events = five.1;
      }

  pub is_ok : Within c s → state_ok c s ≡ true
  unfolding state_ok
  is_ok k = simp (le-leb s.clock top k.clock, k.name, le-leb s.pending max_pending k.pending, k.fields, k.assets, k.events)

  -- each pending event is one of the contract, not before the clock
  pub live_ok : Within c s → Each (λ p. pending_ok c s.clock p ≡ true) (live s)
  unfolding pending_slot_ok
  live_ok k =
      each_of (live s) blank λ i h.
      let l : i < s.pending = omega (arith, length-take s.pending s.events) in
      let b : s.pending ≤ 64 = k.pending in
      let e = below_at (pending_slot_ok c s) max_pending k.events i (omega arith) in
      rw (get_or-take s.pending s.events i blank l) (sym (pick_true _ _ _ (lt-ltb i s.pending l)) ∙ e)

-- ---- the state with other pending events
pub live_with : (s : State) (ps : List Pending) → live (with_pending s ps) ≡ ps
unfolding with_pending
live_with s ps = take-append_seam ps _

pub slots_ok : (c : Contract) (s : State) (ps : List Pending) → Each (λ p. pending_ok c s.clock p ≡ true) ps → all_below max_pending (pending_slot_ok c (with_pending s ps)) ≡ true
unfolding pending_slot_ok with_pending is_blank
slots_ok c s ps e = all_below_lem _ max_pending (λ i _. go i (ltb i (length ps)) refl)
  where
    slots : List Pending
    slots = ps ++ repeated (max_pending - length ps) blank

    go : (i : ℕ) (t : Bool) → ltb i (length ps) ≡ t → pick (ltb i (length ps)) (pending_ok c s.clock (get_or slots i blank)) (is_blank (get_or slots i blank)) ≡ true
    go i true q =
        let h : i < length ps = ltb-true i (length ps) q in
        pick_true _ _ _ q ∙ ap (pending_ok c s.clock) (get_or-append ps _ blank i h) ∙ each_get_or e i blank h
    go i false q =
        let h : length ps ≤ i = ltb-false i (length ps) q in
        let j : i ≡ length ps + (i - length ps) = omega arith in
        let b : get_or slots i blank ≡ blank = ap (λ (k : ℕ). get_or slots k blank) j ∙ get_or-append-add ps _ (i - length ps) blank ∙ repeated_at (max_pending - length ps) blank (i - length ps) in
        pick_false _ _ _ q ∙ ap is_blank b

-- an unagreed state has nothing pending
pub unagreed : (c : Contract) (s : State) → Within c s → s.agreed ≡ false → s.pending ≡ 0
unagreed c s k e =
    eqb-true s.pending 0 (both_of (eqb s.state 0) (eqb s.pending 0) (sym (pick_false _ _ _ e) ∙ k.name)).1

later : (a b : Bool) (k t : ℕ) → (a && (b && (leb k t && leb t top))) ≡ true → not (eqb t k) ≡ true → (a && (b && (leb (suc k) t && leb t top))) ≡ true
later false b k t e n = e
later true false k t e n = e
later true true k t e n =
    let h : k ≤ t = leb-true k t (both_of (leb k t) (leb t top) e).0 in
    let d = eqb-false t k (not-true _ n) in
    simp (le-leb (suc k) t (omega arith), (both_of (leb k t) (leb t top) e).1)

module _ (c : Contract) (s : State) (e : state_ok c s ≡ true) where
  -- what has not lapsed comes after the clock
  pub lapsed_later : Each (λ p. pending_ok c (suc s.clock) p ≡ true) (live (lapsed s))
  unfolding lapsed pending_ok
  lapsed_later =
      rw (live_with) (each_keep _ (λ p q n. later (ltb p.function (length c.functions)) (ltb p.event (length (get_or c.functions p.function no_function).events)) s.clock p.time q n) (live_ok c s (within c s e)))

-- ---- one less, one more
pub live_lapsed : (s : State) → live (lapsed s) ≡ keep (λ p. not (eqb p.time s.clock)) (live s)
unfolding lapsed
live_lapsed s = live_with s _

pub live_removed : (s : State) (i : ℕ) → live (removed s i) ≡ without i (live s)
unfolding removed
live_removed s i = live_with s _

pub removed_count : (s : State) (i : ℕ) → i < length (live s) → suc (length (live (removed s i))) ≡ length (live s)
removed_count s i h = rw (live_removed) (without_count i (live s) h)
