-- Question 53 as the code asks it, and what a report in range says of its numbers. Assumes nothing.
use mathlib.Core.Path.{◌≡◌, sym, ap, ◌∙◌}
use mathlib.Core.Bool.{Bool, true, false, ◌&&◌}
use mathlib.Core.List.{List, [], ◌∷◌}
use Prim.Native.Nat.{ℕ, ◌<◌}
use native.Mathlib.Omega.{arith}
use lib.ListN.{length}
use lib.IntN.{ℤ, pos, nat_abs}
use lib.Signed.{lt_z}
use lib.Dec.{leb, ltb}
use borrow.Author.Tests.{eq-eqb, ne_eqb, ltb-true}
use mir.Syntax.{w64}
use mir.Val.{SFits, to_z, of_z}
use mir.Facts.{to_z-of_z}
use Rattle.laws.proofs.Choice.{pick_true, pick_false, true_false}
use Rattle.contract.specs.Limits.{top}
use Rattle.contract.specs.Tree.{Contract}
use Rattle.contract.specs.Table.{word_at}
use Rattle.contract.specs.Decode.{contract_of}
use Rattle.contract.specs.Check.{ranges}
use Rattle.laws.proofs.Truths.{link}
use Rattle.contract_laws.proofs.Inversions.{by_test}
use Rattle.contract_laws.proofs.Sound.{counts}
use Rattle.results.specs.Lines.{value_ok, refusal, report_ok}
use Rattle.results.specs.declared.Report.{Report}
use Rattle.results.specs.declared.Report.TheVariants.{Ruled, Sent, Held, Refused, Failed}

-- ---- a label's value

module _ (c : Contract) (kind : ℕ) (z : ℤ) where
  pub value_integer : kind ≡ 1 → true ≡ value_ok c kind z
  unfolding value_ok
  value_integer e = sym (pick_true _ _ _ (eq-eqb kind 1 e))

  pub value_negative : (kind ≡ 1 → ⊥) → lt_z z (pos 0) ≡ true → false ≡ value_ok c kind z
  unfolding value_ok
  value_negative e f = sym (pick_false _ _ _ (ne_eqb kind 1 e) ∙ pick_true _ _ _ f)

  pub value_string : (kind ≡ 1 → ⊥) → lt_z z (pos 0) ≡ false → kind ≡ 2 → {m n : ℕ} → m ≡ nat_abs z → n ≡ length c.strings → ltb m n ≡ value_ok c kind z
  unfolding value_ok
  value_string e f g p q = (λ i. ltb (p i) (q i)) ∙ sym (pick_false _ _ _ (ne_eqb kind 1 e) ∙ pick_false _ _ _ f ∙ pick_true _ _ _ (eq-eqb kind 2 g))

  pub value_amount : (kind ≡ 1 → ⊥) → lt_z z (pos 0) ≡ false → (kind ≡ 2 → ⊥) → true ≡ value_ok c kind z
  unfolding value_ok
  value_amount e f g = sym (pick_false _ _ _ (ne_eqb kind 1 e) ∙ pick_false _ _ _ f ∙ pick_false _ _ _ (ne_eqb kind 2 g))

-- ---- a report

module _ (w : List ℕ) {report : Report} where
  pub ruled_ok : {rule state clock n : ℕ} → report ≡ Ruled rule state clock → n ≡ word_at w 3
      → (leb rule 3 && (ltb state n && leb clock top)) ≡ report_ok (contract_of w) report
  unfolding report_ok
  ruled_ok {rule} {state} {clock} e p =
      (λ i. leb rule 3 && (ltb state ((p ∙ sym (counts w).states) i) && leb clock top)) ∙ sym (ap (report_ok (contract_of w)) e)

  pub sent_ok : {kind party group n : ℕ} {z : ℤ} {r v : Bool} → report ≡ Sent kind party z group → SFits w64 z → r ≡ ranges 1 kind 3 → n ≡ word_at w 0
      → v ≡ value_ok (contract_of w) kind (to_z w64 (of_z w64 z)) → (r && (ltb party n && v)) ≡ report_ok (contract_of w) report
  unfolding report_ok
  sent_ok {kind} {party} {group} {n} {z} {r} {v} e f a p b =
      let q : v ≡ value_ok (contract_of w) kind z = b ∙ ap (value_ok (contract_of w) kind) (to_z-of_z f) in
      (λ i. a i && (ltb party ((p ∙ sym (counts w).parties) i) && q i)) ∙ sym (ap (report_ok (contract_of w)) e)

  pub held_ok : {asset amount n : ℕ} → report ≡ Held asset amount → n ≡ word_at w 1 → (ltb asset n && leb amount top) ≡ report_ok (contract_of w) report
  unfolding report_ok
  held_ok {asset} {amount} e p = (λ i. ltb asset ((p ∙ sym (counts w).assets) i) && leb amount top) ∙ sym (ap (report_ok (contract_of w)) e)

  pub refused_ok : {n : ℕ} {r : Bool} → report ≡ Refused n → r ≡ refusal n → r ≡ report_ok (contract_of w) report
  unfolding report_ok
  refused_ok e p = p ∙ sym (ap (report_ok (contract_of w)) e)

  pub failed_ok : {n : ℕ} {r : Bool} → report ≡ Failed n → r ≡ ranges 30 n 36 → r ≡ report_ok (contract_of w) report
  unfolding report_ok
  failed_ok e p = p ∙ sym (ap (report_ok (contract_of w)) e)

-- ---- what a report in range names

module _ (c : Contract) where
  pub state_below : (rule state clock : ℕ) → report_ok c (Ruled rule state clock) ≡ true → state < length c.states
  unfolding report_ok
  state_below rule state clock e =
      ltb-true state (length c.states) (link (leb rule 3 ∷ ltb state (length c.states) ∷ leb clock top ∷ []) e 1)

  pub party_below : (kind party : ℕ) (z : ℤ) (group : ℕ) → report_ok c (Sent kind party z group) ≡ true → party < length c.parties
  unfolding report_ok
  party_below kind party z group e =
      ltb-true party (length c.parties) (link (ranges 1 kind 3 ∷ ltb party (length c.parties) ∷ value_ok c kind z ∷ []) e 1)

  pub asset_below : (asset amount : ℕ) → report_ok c (Held asset amount) ≡ true → asset < length c.assets
  unfolding report_ok
  asset_below asset amount e = ltb-true asset (length c.assets) (link (ltb asset (length c.assets) ∷ leb amount top ∷ []) e 0)

  pub value_below : (kind party : ℕ) (z : ℤ) (group : ℕ) → report_ok c (Sent kind party z group) ≡ true → value_ok c kind z ≡ true
  unfolding report_ok
  value_below kind party z group e = link (ranges 1 kind 3 ∷ ltb party (length c.parties) ∷ value_ok c kind z ∷ []) e 2

  pub string_below : (kind : ℕ) (z : ℤ) → value_ok c kind z ≡ true → kind ≡ 2 → nat_abs z < length c.strings
  unfolding value_ok
  string_below kind z v k =
      let a = pick_false _ _ _ (ne_eqb kind 1 (λ h. omega (arith, h, k))) in
      by_test (lt_z z (pos 0))
      (λ t. true_false (sym v ∙ a ∙ pick_true _ _ _ t))
      λ t. ltb-true (nat_abs z) (length c.strings) (sym (a ∙ pick_false _ _ _ t ∙ pick_true _ _ _ (eq-eqb kind 2 k)) ∙ v)
