-- `state::State::in_range` meets its contract. Assumes nothing.
use mathlib.Core.Path.{◌≡◌, refl, sym, ap, ◌∙◌}
use mathlib.Core.Bool.{◌&&◌}
use Prim.Native.Nat.{ℕ}
use borrow.Author.Tests.{lt-leb, le-leb}
use lib.Dec.{eqb, leb, ltb}
use Rattle.laws.specs.Choice.{pick}
use Rattle.laws.specs.Lists.{all_below}
use Rattle.contract.specs.Limits.{top, max_fields, max_assets}
use Rattle.state.specs.States.{max_pending, field_slot_ok, asset_slot_ok}
use Rattle.state.proofs.Rows.{parts, all_six, asked, passed_over}
use Rattle.state.proofs.State.in_range.Goals.{then-self-le-TOP, else-self-le-TOP, then-name_ok, else-name_ok, then-few, else-few, then-fields_ok, else-fields_ok}
use Rattle.state.proofs.State.in_range.Goals as goal

pub returns-then-assets_ok : goal.returns-then-assets_ok
returns-then-assets_ok c =
    let s = c.args.self.now in
    let h = c.head-c.result in
    let named : c.if-self-le-TOP.value ≡ (leb s.clock top && pick s.agreed (ltb s.state h.states) (eqb s.state 0 && eqb s.pending 0)) =
    elim c.if-self-le-TOP.branch [
      | then-self-le-TOP w ↦ asked _ (le-leb _ _ w.if-self-le-TOP.true) (w.value-is ∙ w.name_ok.ensures)
      | else-self-le-TOP w ↦ passed_over _ (lt-leb _ _ w.if-self-le-TOP.false) w.value-is
    ] in
    let few : c.if-name_ok.value ≡ (c.if-self-le-TOP.value && leb s.pending max_pending) =
    elim c.if-name_ok.branch [
      | then-name_ok w ↦ asked _ w.if-name_ok.true w.value-is
      | else-name_ok w ↦ passed_over _ w.if-name_ok.false w.value-is
    ] in
    let fields : c.if-few.value ≡ (c.if-name_ok.value && all_below max_fields (field_slot_ok h.strings (pick s.agreed h.fields 0) s)) =
    elim c.if-few.branch [
      | then-few w ↦
          asked _ w.if-few.true (w.value-is ∙ w.fields_ok.ensures ∙ ap (λ (u : ℕ). all_below max_fields (field_slot_ok h.strings u s)) w.used.ensures)
      | else-few w ↦ passed_over _ w.if-few.false w.value-is
    ] in
    let assets : c.if-fields_ok.value ≡ (c.if-few.value && all_below max_assets (asset_slot_ok (pick s.agreed h.assets 0) s)) =
    elim c.if-fields_ok.branch [
      | then-fields_ok w ↦
          asked _ w.if-fields_ok.true (w.value-is ∙ w.assets_ok.ensures ∙ ap (λ (u : ℕ). all_below max_assets (asset_slot_ok u s)) w.used-then-fields_ok.ensures)
      | else-fields_ok w ↦ passed_over _ w.if-fields_ok.false w.value-is
    ] in
    all_six _ _ _ _ _ _ named few fields assets (asked _ c.if-assets_ok.true c.events_ok.ensures) ∙ sym (parts c.args.table.now s h c.head-c.ensures)

pub returns-else-assets_ok : goal.returns-else-assets_ok
returns-else-assets_ok c =
    let s = c.args.self.now in
    let h = c.head-c.result in
    let named : c.if-self-le-TOP.value ≡ (leb s.clock top && pick s.agreed (ltb s.state h.states) (eqb s.state 0 && eqb s.pending 0)) =
    elim c.if-self-le-TOP.branch [
      | then-self-le-TOP w ↦ asked _ (le-leb _ _ w.if-self-le-TOP.true) (w.value-is ∙ w.name_ok.ensures)
      | else-self-le-TOP w ↦ passed_over _ (lt-leb _ _ w.if-self-le-TOP.false) w.value-is
    ] in
    let few : c.if-name_ok.value ≡ (c.if-self-le-TOP.value && leb s.pending max_pending) =
    elim c.if-name_ok.branch [
      | then-name_ok w ↦ asked _ w.if-name_ok.true w.value-is
      | else-name_ok w ↦ passed_over _ w.if-name_ok.false w.value-is
    ] in
    let fields : c.if-few.value ≡ (c.if-name_ok.value && all_below max_fields (field_slot_ok h.strings (pick s.agreed h.fields 0) s)) =
    elim c.if-few.branch [
      | then-few w ↦
          asked _ w.if-few.true (w.value-is ∙ w.fields_ok.ensures ∙ ap (λ (u : ℕ). all_below max_fields (field_slot_ok h.strings u s)) w.used.ensures)
      | else-few w ↦ passed_over _ w.if-few.false w.value-is
    ] in
    let assets : c.if-fields_ok.value ≡ (c.if-few.value && all_below max_assets (asset_slot_ok (pick s.agreed h.assets 0) s)) =
    elim c.if-fields_ok.branch [
      | then-fields_ok w ↦
          asked _ w.if-fields_ok.true (w.value-is ∙ w.assets_ok.ensures ∙ ap (λ (u : ℕ). all_below max_assets (asset_slot_ok u s)) w.used-then-fields_ok.ensures)
      | else-fields_ok w ↦ passed_over _ w.if-fields_ok.false w.value-is
    ] in
    all_six _ _ _ _ _ _ named few fields assets (passed_over _ c.if-assets_ok.false refl) ∙ sym (parts c.args.table.now s h c.head-c.ensures)
