-- Labels that stand in words. Assumes nothing.
use mathlib.Core.Path.{◌≡◌, refl, sym, ap, ◌∙◌}
use mathlib.Core.List.{List, [], ◌∷◌, ◌++◌}
use Prim.Native.Nat.{ℕ, zero, suc, ◌+◌, ◌*◌, ◌<◌, ◌≤◌}
use native.Mathlib.Numerals.{add-one}
use native.Mathlib.Omega.{arith}
use lib.ListN.{length, get_or, take, set, length-set}
use lib.Seq.{take_all, take-suc, take-suc-set}
use lib.IntN.{ℤ, pos, nat_abs}
use Rattle.laws.specs.Lists.{repeated}
use Rattle.statements.specs.declared.Label.{Label}
use Rattle.statements.specs.Running.{labels_from}
use Rattle.outcomes.specs.Outcomes.{no_label, no_labels, label_at}

-- four words a label
fourfold : (i : ℕ) → 4 * suc i ≡ suc (suc (suc (suc (4 * i))))
fourfold i = omega arith

pub labels_length : (n : ℕ) (ws : List ℤ) → length ws ≡ 4 * n → length (labels_from ws) ≡ n
unfolding labels_from
labels_length n [] h = omega arith
labels_length n (k ∷ []) h = absurd (omega arith)
labels_length n (k ∷ p ∷ []) h = absurd (omega arith)
labels_length n (k ∷ p ∷ v ∷ []) h = absurd (omega arith)
labels_length zero (k ∷ p ∷ v ∷ g ∷ ws) h = absurd (omega arith)
labels_length (suc n) (k ∷ p ∷ v ∷ g ∷ ws) h = ap suc (labels_length n ws (omega arith))

pub label_at_lem : (ws : List ℤ) (i : ℕ) → i < length (labels_from ws) → label_at ws i ≡ get_or (labels_from ws) i no_label
unfolding labels_from
label_at_lem [] i h = absurd (omega arith)
label_at_lem (k ∷ []) i h = absurd (omega arith)
label_at_lem (k ∷ p ∷ []) i h = absurd (omega arith)
label_at_lem (k ∷ p ∷ v ∷ []) i h = absurd (omega arith)
label_at_lem (k ∷ p ∷ v ∷ g ∷ ws) zero h = refl
label_at_lem (k ∷ p ∷ v ∷ g ∷ ws) (suc i) h =
    let all = k ∷ p ∷ v ∷ g ∷ ws in
    let b : 4 * suc i + 1 ≡ suc (suc (suc (suc (4 * i + 1)))) = omega arith in
    let c : 4 * suc i + 2 ≡ suc (suc (suc (suc (4 * i + 2)))) = omega arith in
    let d : 4 * suc i + 3 ≡ suc (suc (suc (suc (4 * i + 3)))) = omega arith in
    (λ t. record { kind = nat_abs (get_or all (fourfold i t) (pos 0)); party = nat_abs (get_or all (b t) (pos 0)); value = get_or all (c t) (pos 0); group = nat_abs (get_or all (d t) (pos 0)) })
    ∙ label_at_lem ws i (omega arith)

-- words that are all 0 are blank labels
zero_labels : (n : ℕ) → labels_from (repeated (4 * n) (pos 0)) ≡ repeated n no_label
unfolding repeated labels_from
zero_labels zero = refl
zero_labels (suc n) = ap (λ (m : ℕ). labels_from (repeated m (pos 0))) (fourfold n) ∙ ap (λ (l : List Label). no_label ∷ l) (zero_labels n)

pub no_labels_lem : labels_from (repeated 256 (pos 0)) ≡ no_labels
no_labels_lem = zero_labels 64

-- ---- a copy of n labels, its first i made
pub record Drawn (ws : List ℤ) (out : List Label) (n i : ℕ) : Type 0 where
  pub room : length out ≡ n
  pub same : take i out ≡ take i (labels_from ws)

module _ (ws : List ℤ) (n : ℕ) where
  pub drawn_none : (out : List Label) → length out ≡ n → Drawn ws out n 0
  drawn_none out h = record { room = h; same = refl }

  module _ (a : length ws ≡ 4 * n) where
    pub drawn_more : {out : List Label} {i : ℕ} (k p : ℕ) (v : ℤ) (g : ℕ) → k ≡ (label_at ws i).kind → p ≡ (label_at ws i).party → v ≡ (label_at ws i).value
        → g ≡ (label_at ws i).group → Drawn ws out n i → i < n → Drawn ws (set out i (record { kind = k; party = p; value = v; group = g })) n (i + 1)
    drawn_more {out} {i} k p v g ek ep ev eg d h =
        let l : Label = record { kind = k; party = p; value = v; group = g } in
        let e : l ≡ label_at ws i = λ j. record { kind = ek j; party = ep j; value = ev j; group = eg j } in
        let r : length out ≡ n = d.room in
        let x : i < length out = omega arith in
        let y : i < length (labels_from ws) = omega (arith, labels_length n ws a) in
        record {
          room = length-set out i l ∙ r;
          same = rw (add-one) (take-suc-set out i l x ∙ (λ j. d.same j ++ ((e ∙ label_at_lem ws i y) j ∷ [])) ∙ sym (take-suc (labels_from ws) i no_label y));
        }

    pub drawn_all : {out : List Label} {i : ℕ} → Drawn ws out n i → n ≡ i → out ≡ labels_from ws
    drawn_all {out} {i} d h =
        let r : length out ≤ i = omega (arith, d.room) in
        let s : length (labels_from ws) ≤ i = omega (arith, labels_length n ws a) in
        sym (take_all i out r) ∙ d.same ∙ take_all i (labels_from ws) s
