-- A fresh state is within its ranges, whatever the contract. Assumes nothing.
use mathlib.Core.Path.{◌≡◌}
use mathlib.Core.Bool.{true}
use Prim.Native.Nat.{ℕ, ◌≤◌}
use lib.IntN.{pos}
use lib.ListN.{length}
use lib.Dec.{leb-suc-zero}
use borrow.Author.Tests.{le-leb}
use Rattle.laws.specs.Choice.{pick}
use Rattle.contract.specs.Limits.{top, max_fields, max_assets}
use Rattle.contract.specs.Tree.{Contract}
use Rattle.state.specs.States.{max_pending, blank, fresh_at, field_ok, field_slot_ok, asset_slot_ok, is_blank, pending_slot_ok, state_ok}
use Rattle.laws.proofs.Members.{all_below_lem}
use Rattle.laws.proofs.Members.{repeated_at}

module _ (clock : ℕ) (i : ℕ) where
  fields_fresh : (strings : ℕ) → field_slot_ok strings 0 (fresh_at clock) i ≡ true
  unfolding field_slot_ok field_ok fresh_at pick
  fields_fresh strings = simp (repeated_at {A = ℕ} 32 0 i, repeated_at 32 (pos 0) i, leb-suc-zero i)

  assets_fresh : asset_slot_ok 0 (fresh_at clock) i ≡ true
  unfolding asset_slot_ok fresh_at pick
  assets_fresh = simp (repeated_at {A = ℕ} 16 0 i, leb-suc-zero i)

  pending_fresh : (c : Contract) → pending_slot_ok c (fresh_at clock) i ≡ true
  unfolding pending_slot_ok is_blank fresh_at pick
  pending_fresh c = simp (repeated_at 64 blank i, leb-suc-zero i)

pub fresh_ok : (c : Contract) (clock : ℕ) → clock ≤ top → state_ok c (fresh_at clock) ≡ true
unfolding state_ok fresh_at pick
fresh_ok c clock h =
    simp (
      le-leb clock top h,
      all_below_lem (field_slot_ok (length c.strings) 0 (fresh_at clock)) max_fields (λ i _. fields_fresh clock i (length c.strings)),
      all_below_lem (asset_slot_ok 0 (fresh_at clock)) max_assets (λ i _. assets_fresh clock i),
      all_below_lem (pending_slot_ok c (fresh_at clock)) max_pending (λ i _. pending_fresh clock i c),
    )
