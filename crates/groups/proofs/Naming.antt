-- Which numbers are names, by the rows that the code reads. Assumes nothing.
use mathlib.Core.Path.{◌≡◌, sym, ap, ◌∙◌}
use mathlib.Core.Bool.{Bool, false, ◌&&◌}
use mathlib.Core.List.{List}
use Prim.Native.Nat.{ℕ, zero, suc, ◌+◌, ◌-◌, ◌*◌, ◌/◌, ◌%◌, ◌<◌, ◌≤◌}
use native.Mathlib.Omega.{arith}
use native.Mathlib.Nat.{mod-lt}
use lib.ListN.{length}
use lib.Dec.{ltb}
use borrow.Author.Tests.{lt-ltb, le-ltb, ltb-true, ltb-false}
use Rattle.std.proofs.lemmas.Nat.{div-add-mod'}
use Rattle.laws.proofs.Choice.{pick_true, pick_false}
use Rattle.contract.specs.Tree.{Function}
use Rattle.contract.specs.Table.{word_at, function_word}
use Rattle.contract.specs.Decode.{each_from, function_at, contract_of}
use Rattle.contract_laws.proofs.Sound.{parameters_count}
use Rattle.state.proofs.Decoded.{assets_count}
use Rattle.groups.specs.Groups.{numbers_parameter, numbers_name}
use Rattle.contract_laws.proofs.Inversions.{by_test}

ltb_suc : (q m : ℕ) → ltb (suc q) (suc m) ≡ ltb q m
ltb_suc q m =
    by_test (ltb q m) (λ t. let h : q < m = ltb-true q m t in lt-ltb (suc q) (suc m) (omega arith) ∙ sym t)
    (λ t. let h : m ≤ q = ltb-false q m t in le-ltb (suc q) (suc m) (omega arith) ∙ sym t)

-- parameter r of the q-th of m functions, the first of which is f i
named_at : (f : ℕ → Function) (i m q r k : ℕ) → k ≡ q * 4 + r → r < 4 → numbers_parameter (each_from i m f) k ≡ (ltb q m && ltb r (length (f (i + q)).parameters))
unfolding numbers_parameter each_from
named_at f i zero q r k e h = ap (λ (b : Bool). b && ltb r (length (f (i + q)).parameters)) (sym (le-ltb q 0 (omega arith)))
named_at f i (suc m) zero r k e h =
    let a : k ≡ r = omega arith in
    let b : i ≡ i + 0 = omega arith in
    pick_true (ltb k 4) _ _ (lt-ltb k 4 (omega arith))
    ∙ (λ t. ltb (a t) (length (f (b t)).parameters))
    ∙ ap (λ (b : Bool). b && ltb r (length (f (i + 0)).parameters)) (sym (lt-ltb 0 (suc m) (omega arith)))
named_at f i (suc m) (suc q) r k e h =
    let a : k - 4 ≡ q * 4 + r = omega arith in
    let b : suc i + q ≡ i + suc q = omega arith in
    pick_false (ltb k 4) _ _ (le-ltb k 4 (omega arith))
    ∙ named_at f (suc i) m q r (k - 4) a h
    ∙ (λ t. sym (ltb_suc q m) t && ltb r (length (f (b t)).parameters))

module _ (w : List ℕ) (k : ℕ) where
  pub name_asset : k < 16 → ltb k (word_at w 1) ≡ numbers_name (contract_of w) k
  unfolding numbers_name
  name_asset h = sym (pick_true (ltb k 16) _ _ (lt-ltb k 16 h) ∙ ap (ltb k) (assets_count w))

  module _ (h : 16 ≤ k) where
    pub by_place : numbers_name (contract_of w) k ≡ (ltb ((k - 16) / 4) (word_at w 6) && ltb ((k - 16) % 4) (length (function_at w (0 + (k - 16) / 4)).parameters))
    unfolding numbers_name contract_of
    by_place =
        pick_false (ltb k 16) _ _ (le-ltb k 16 h)
        ∙ named_at (function_at w) 0 (word_at w 6) ((k - 16) / 4) ((k - 16) % 4) (k - 16) (sym (div-add-mod' (k - 16) 4)) (mod-lt (k - 16) (omega arith))

    pub name_parameter : (k - 16) / 4 < word_at w 6 → ltb ((k - 16) % 4) (function_word w ((k - 16) / 4) 4) ≡ numbers_name (contract_of w) k
    name_parameter l =
        let z : 0 + (k - 16) / 4 ≡ (k - 16) / 4 = omega arith in
        sym (by_place
        ∙ ap (λ (b : Bool). b && ltb ((k - 16) % 4) (length (function_at w (0 + (k - 16) / 4)).parameters)) (lt-ltb ((k - 16) / 4) (word_at w 6) l)
        ∙ ap (λ (n : ℕ). ltb ((k - 16) % 4) (length (function_at w n).parameters)) z
        ∙ ap (ltb ((k - 16) % 4)) (parameters_count w ((k - 16) / 4)))

    pub no_parameter : word_at w 6 ≤ (k - 16) / 4 → false ≡ numbers_name (contract_of w) k
    no_parameter l =
        sym (by_place
        ∙ ap (λ (b : Bool). b && ltb ((k - 16) % 4) (length (function_at w (0 + (k - 16) / 4)).parameters)) (le-ltb ((k - 16) / 4) (word_at w 6) l))
