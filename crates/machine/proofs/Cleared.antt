-- The words of the labels that were sent, made zeros. Assumes nothing.
use mathlib.Core.Path.{◌≡◌, refl, sym, ap, ◌∙◌}
use mathlib.Core.List.{List, [], ◌∷◌, ◌++◌}
use Prim.Native.Nat.{ℕ, zero, suc, ◌*◌, ◌<◌, ◌≤◌, min}
use native.Mathlib.Omega.{arith}
use lib.ListN.{length, drop, replicate, drop_of_length-le}
use mathlib.Core.Bool.{Bool, true, false}
use lib.Dec.{leb}
use borrow.Author.Tests.{leb-true, leb-false}
use lib.IntN.{ℤ, pos}
use Rattle.laws.specs.Lists.{repeated}
use Rattle.laws.proofs.Members.{repeated_length}
use Rattle.statements.specs.declared.Label.{Label}
use Rattle.statements.specs.Running.{labels_from}
use Rattle.outcomes.specs.Outcomes.{no_label, no_labels}
use Rattle.outcomes.proofs.Labels.{labels_length}

-- four words a label
fourfold : (n : ℕ) → 4 * suc n ≡ suc (suc (suc (suc (4 * n))))
fourfold n = omega arith

zeros_first : (n : ℕ) (ws : List ℤ) → 4 * n ≤ length ws → labels_from (replicate (4 * n) (pos 0) ++ drop (4 * n) ws) ≡ repeated n no_label ++ drop n (labels_from ws)
unfolding labels_from repeated
zeros_first zero ws h = refl
zeros_first (suc n) [] h = absurd (omega arith)
zeros_first (suc n) (k ∷ []) h = absurd (omega arith)
zeros_first (suc n) (k ∷ p ∷ []) h = absurd (omega arith)
zeros_first (suc n) (k ∷ p ∷ v ∷ []) h = absurd (omega arith)
zeros_first (suc n) (k ∷ p ∷ v ∷ g ∷ ws) h =
    (λ i. labels_from (replicate (fourfold n i) (pos 0) ++ drop (fourfold n i) (k ∷ p ∷ v ∷ g ∷ ws)))
    ∙ ap (λ (l : List Label). no_label ∷ l) (zeros_first n ws (omega arith))

repeated_whole : {A : Type 0} (x : A) (n m : ℕ) → n ≤ m → repeated n x ++ drop n (repeated m x) ≡ repeated m x
unfolding repeated
repeated_whole x zero m h = refl
repeated_whole x (suc n) zero h = absurd (omega arith)
repeated_whole x (suc n) (suc m) h = ap (λ (l : List _). x ∷ l) (repeated_whole x n m (omega arith))

-- after so many, or after all
none_after : (count n : ℕ) (ls : List Label) → n ≡ min count 64 → length ls ≡ 64 → drop count ls ≡ drop count no_labels → drop n ls ≡ drop n no_labels
none_after count n ls e f h = go (leb count 64) refl
  where
    go : (b : Bool) → leb count 64 ≡ b → drop n ls ≡ drop n no_labels
    go true t =
        let a : count ≤ 64 = leb-true count 64 t in
        let k : n ≡ count = omega arith in
        ap (λ (i : ℕ). drop i ls) k ∙ h ∙ ap (λ (i : ℕ). drop i no_labels) (sym k)
    go false t =
        let a : 64 < count = leb-false count 64 t in
        let l : length no_labels ≡ 64 = repeated_length 64 no_label in
        drop_of_length-le ls (omega arith) ∙ sym (drop_of_length-le no_labels (omega arith))

pub all_cleared : (count n : ℕ) (ws zeros : List ℤ) → n ≡ min count 64 → length ws ≡ 256 → drop count (labels_from ws) ≡ drop count no_labels → zeros ≡ replicate (4 * n) (pos 0)
    → labels_from (zeros ++ drop (4 * n) ws) ≡ no_labels
all_cleared count n ws zeros e f h z =
    ap (λ (l : List ℤ). labels_from (l ++ drop (4 * n) ws)) z
    ∙ zeros_first n ws (omega arith)
    ∙ ap (λ (l : List Label). repeated n no_label ++ l) (none_after count n (labels_from ws) e (labels_length 64 ws f) h)
    ∙ repeated_whole no_label n 64 (omega arith)
