-- The states that steps go through: within their ranges, question 4, with arrays of full length and 64-bit integers. Assumes nothing.
use mathlib.Core.Path.{◌≡◌, refl, sym, ◌∙◌}
use mathlib.Core.Bool.{Bool, true, false, ◌&&◌}
use mathlib.Core.List.{List, ◌++◌}
use Prim.Native.Nat.{ℕ, ◌-◌, ◌<◌, ◌≤◌}
use native.Mathlib.Omega.{arith}
use lib.ListN.{length, get_or, length-append, get_or-eq_default}
use lib.Seq.{length-take-le}
use lib.Dec.{eqb, leb, ltb}
use lib.IntN.{pos}
use borrow.Author.Tests.{ltb-true, leb-true, eqb-true, le-ltb, ltb-false}
use Rattle.laws.specs.Choice.{pick}
use Rattle.laws.proofs.Choice.{pick_true, pick_false}
use Rattle.numbers.specs.Numbers.{within}
use Rattle.contract.specs.Limits.{top, max_assets, max_fields}
use Rattle.contract.specs.Tree.{Contract}
use Rattle.state.specs.declared.State.{State}
use Rattle.state.specs.declared.Pending.{Pending}
use Rattle.state.specs.States.{max_pending, blank, fresh_at, used, live, field_slot_ok, asset_slot_ok, pending_ok, is_blank, pending_slot_ok, state_ok, with_pending}
use Rattle.laws.proofs.Members.{all_below_lem, below_at, repeated_at, repeated_length}
use Rattle.laws.specs.Lists.{repeated}
use Rattle.state.proofs.Each.{Each}
use Rattle.state.proofs.Fresh.{fresh_ok}
use Rattle.state.proofs.Within as state
use Rattle.state.proofs.Within.{Within, is_ok, slots_ok}
use Rattle.history.proofs.ValuesInRange.{Fields}

-- the amounts of so many assets
pub record Assets (used : ℕ) (l : List ℕ) : Type 0 where
  pub assets_length : length l ≡ max_assets
  pub slots : (i : ℕ) → i < max_assets → pick (ltb i used) (leb (get_or l i 0) top) (eqb (get_or l i 0) 0) ≡ true

-- so many events are pending, of the contract and not before the clock
pub record Events (c : Contract) (clock pending : ℕ) (es : List Pending) : Type 0 where
  pub few : pending ≤ max_pending
  pub events_length : length es ≡ max_pending
  pub slots : (i : ℕ) → i < max_pending → pick (ltb i pending) (pending_ok c clock (get_or es i blank)) (is_blank (get_or es i blank)) ≡ true

pub record Good (c : Contract) (s : State) : Type 0 where
  pub clock : s.clock ≤ top
  pub name : pick s.agreed (ltb s.state (length c.states)) (eqb s.state 0 && eqb s.pending 0) ≡ true
  pub fields : Fields (length c.strings) (used s (length c.fields)) s.kinds s.numbers s.texts
  pub assets : Assets (used s (length c.assets)) s.assets
  pub events : Events c s.clock s.pending s.events

-- question 4
pub good_within : {c : Contract} {s : State} → Good c s → Within c s
unfolding field_slot_ok asset_slot_ok pending_slot_ok
good_within {c} {s} g =
    record {
      clock = g.clock;
      name = g.name;
      pending = g.events.few;
      fields = all_below_lem (field_slot_ok (length c.strings) (used s (length c.fields)) s) max_fields g.fields.slots;
      assets = all_below_lem (asset_slot_ok (used s (length c.assets)) s) max_assets g.assets.slots;
      events = all_below_lem (pending_slot_ok c s) max_pending g.events.slots;
    }

pub good_ok : {c : Contract} {s : State} → Good c s → state_ok c s ≡ true
good_ok {c} {s} g = is_ok c s (good_within g)

pub fresh_good : (c : Contract) (clock : ℕ) → clock ≤ top → Good c (fresh_at clock)
unfolding fresh_at field_slot_ok asset_slot_ok pending_slot_ok pick
fresh_good c clock h =
    let o : Within c (fresh_at clock) = state.within c (fresh_at clock) (fresh_ok c clock h) in
    record {
      clock = h;
      name = refl;
      fields =
          record {
            kinds_length = repeated_length {A = ℕ} max_fields 0;
            numbers_length = repeated_length max_fields (pos 0);
            texts_length = repeated_length {A = ℕ} max_fields 0;
            slots = below_at (field_slot_ok (length c.strings) 0 (fresh_at clock)) max_fields o.fields;
            numbers_in = λ i _. (λ p. within (repeated_at max_fields (pos 0) i p));
          };
      assets =
          record {
            assets_length = repeated_length {A = ℕ} max_assets 0;
            slots = below_at (asset_slot_ok 0 (fresh_at clock)) max_assets o.assets;
          };
      events =
          record {
            few = o.pending;
            events_length = repeated_length max_pending blank;
            slots = below_at (pending_slot_ok c (fresh_at clock)) max_pending o.events;
          };
    }

-- ---- amounts

module _ {used : ℕ} {l : List ℕ} (o : Assets used l) where
  pub asset_most : (i : ℕ) → get_or l i 0 ≤ top
  asset_most i = go (ltb i max_assets) refl (ltb i used) refl
    where
      go : (a : Bool) → ltb i max_assets ≡ a → (b : Bool) → ltb i used ≡ b → get_or l i 0 ≤ top
      go true h true q = leb-true (get_or l i 0) top (sym (pick_true _ _ _ q) ∙ o.slots i (ltb-true i max_assets h))
      go true h false q = omega (arith, eqb-true (get_or l i 0) 0 (sym (pick_false _ _ _ q) ∙ o.slots i (ltb-true i max_assets h)))
      go false h b q = omega (arith, get_or-eq_default l 0 {n = i} (omega (arith, ltb-false i max_assets h, o.assets_length)))

  pub asset_unused : (i : ℕ) → used ≤ i → i < max_assets → get_or l i 0 ≡ 0
  asset_unused i h k = eqb-true (get_or l i 0) 0 (sym (pick_false _ _ _ (le-ltb i used h)) ∙ o.slots i k)

-- ---- an agreed state

module _ {c : Contract} {s : State} (g : Good c s) where
  pub live_length : length (live s) ≡ s.pending
  live_length = length-take-le s.pending s.events (omega (arith, g.events.few, g.events.events_length))

  module _ (a : s.agreed ≡ true) where
    pub agreed_used : (n : ℕ) → used s n ≡ n
    agreed_used n = pick_true s.agreed n 0 a

    pub agreed_name : s.state < length c.states
    agreed_name = ltb-true _ _ (sym (pick_true _ _ _ a) ∙ g.name)

-- these are pending
pub with_events : (c : Contract) (s : State) (ps : List Pending) → length ps ≤ max_pending → Each (λ p. pending_ok c s.clock p ≡ true) ps
    → Events c s.clock (length ps) (ps ++ repeated (max_pending - length ps) blank)
unfolding with_pending pending_slot_ok
with_events c s ps h e =
    record {
      few = h;
      events_length = length-append ps _ ∙ omega (arith, repeated_length (max_pending - length ps) blank);
      slots = below_at (pending_slot_ok c (with_pending s ps)) max_pending (slots_ok c s ps e);
    }
