-- What is written to a list of words that hold labels. Assumes nothing.
use mathlib.Core.Path.{◌≡◌, refl, sym, ap, ◌∙◌}
use mathlib.Core.List.{List, [], ◌∷◌}
use Prim.Native.Nat.{ℕ, zero, suc, ◌*◌, ◌<◌, ◌≤◌}
use native.Mathlib.Omega.{arith}
use lib.ListN.{set}
use lib.IntN.{ℤ, pos, nat_abs}
use borrow.Author.Tests.{lt-ltb, le-ltb}
use Rattle.std.specs.Prelude.{None}
use Rattle.laws.proofs.Choice.{pick_true, pick_false}
use Rattle.statements.specs.declared.Label.{Label}
use Rattle.statements.specs.Running.{Work, labelled, labels_from, work_from, work_in}

-- words k, p, v and g in the place of label i are a store of that label
pub words_set : (ws : List ℤ) (i k p : ℕ) (v : ℤ) (g : ℕ)
    → labels_from (set (set (set (set ws (4 * i) (pos k)) (suc (4 * i)) (pos p)) (suc (suc (4 * i))) v) (suc (suc (suc (4 * i)))) (pos g))
    ≡ set (labels_from ws) i (record { kind = k; party = p; value = v; group = g })
unfolding labels_from
words_set [] i k p v g = refl
words_set (x ∷ []) zero k p v g = refl
words_set (x ∷ []) (suc i) k p v g = let e : 4 * suc i ≡ suc (suc (suc (suc (4 * i)))) = omega arith in rw e refl
words_set (x ∷ y ∷ []) zero k p v g = refl
words_set (x ∷ y ∷ []) (suc i) k p v g = let e : 4 * suc i ≡ suc (suc (suc (suc (4 * i)))) = omega arith in rw e refl
words_set (x ∷ y ∷ z ∷ []) zero k p v g = refl
words_set (x ∷ y ∷ z ∷ []) (suc i) k p v g = let e : 4 * suc i ≡ suc (suc (suc (suc (4 * i)))) = omega arith in rw e refl
words_set (x ∷ y ∷ z ∷ u ∷ ws) zero k p v g = refl
words_set (x ∷ y ∷ z ∷ u ∷ ws) (suc i) k p v g =
    let e : 4 * suc i ≡ suc (suc (suc (suc (4 * i)))) = omega arith in
    rw e (ap (λ (l : List Label). record { kind = nat_abs x; party = nat_abs y; value = z; group = nat_abs u } ∷ l) (words_set ws i k p v g))

-- a label after those sent so far; the code reads words back from their bits
pub label_added : (ks : List ℕ) (ns : List ℤ) (ts hs : List ℕ) (ws : List ℤ) (n kind party : ℕ) (value : ℤ) (group : ℕ) (x y z u : ℤ) (a b c d m : ℕ)
    → x ≡ pos kind → y ≡ pos party → z ≡ value → u ≡ pos group → a ≡ 4 * n → b ≡ suc (4 * n) → c ≡ suc (suc (4 * n)) → d ≡ suc (suc (suc (4 * n))) → m ≡ suc n → n < 64
    → work_in ks ns ts hs (set (set (set (set ws a x) b y) c z) d u) m None ≡ labelled (work_in ks ns ts hs ws n None) kind party value group
unfolding labelled
label_added ks ns ts hs ws n kind party value group x y z u a b c d m ex ey ez eu ea eb ec ed em h =
    (λ i. work_in ks ns ts hs (set (set (set (set ws (ea i) (ex i)) (eb i) (ey i)) (ec i) (ez i)) (ed i) (eu i)) (em i) None)
    ∙ ap (λ (l : List Label). work_from ks ns ts hs l (suc n) None) (words_set ws n kind party value group)
    ∙ sym (pick_true _ _ _ (lt-ltb n 64 h))

pub label_full : (w : Work) (kind party : ℕ) (value : ℤ) (group : ℕ) → 64 ≤ w.count → w ≡ labelled w kind party value group
unfolding labelled
label_full w kind party value group h = sym (pick_false _ _ _ (le-ltb w.count 64 h))
