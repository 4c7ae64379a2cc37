-- More levels than a node's number change nothing in what a table gives, whatever its words; so what stands at a node follows from what
-- stands at its parts. Assumes nothing.
use mathlib.Core.Path.{◌≡◌, refl, ap}
use mathlib.Core.Bool.{Bool, true, false}
use mathlib.Core.List.{List}
use Prim.Native.Nat.{ℕ, zero, suc, ◌+◌, ◌-◌, ◌<◌}
use native.Mathlib.Omega.{arith}
use lib.Dec.{eqb, leb, ltb}
use borrow.Author.Tests.{eqb-true, leb-false}
use Rattle.laws.specs.Choice.{pick}
use Rattle.contract.specs.Tree.{apply, broken_expression, truth, compare, negation, both, either, broken_condition, none, perform, conditional, broken_block}
use Rattle.contract.specs.Table.{kind_at, argument_at, size_at, plus_kind, over_kind, true_kind, false_kind, equal_kind, at_least_kind, not_kind, and_kind, or_kind, value_move_kind, asset_move_kind, whole_move_kind, conditional_kind}
use Rattle.contract.specs.Decode.{operator_of, comparison_of, leaf_of, counts_two, counts_one, expression_within, expression_at, condition_within, condition_at, block_within, block_between, value_move_at, asset_move_at, whole_move_at}

-- two choices by one test
pub pick_same : {A : Type 0} (b : Bool) {x x' y y' : A} → (b ≡ true → x ≡ x') → (b ≡ false → y ≡ y') → pick b x y ≡ pick b x' y'
unfolding pick
pick_same true f g = f refl
pick_same false f g = g refl

-- a node that counts parts is not the first
pub two_some : (w : List ℕ) (k : ℕ) → counts_two w k ≡ true → 0 < k
unfolding counts_two
two_some w zero e =
    let q : size_at w 0 ≡ suc (size_at w (0 - 1 - size_at w (0 - 1)) + size_at w 0) = eqb-true _ _ e in
    absurd (omega arith)
two_some w (suc k) e = omega arith

pub one_some : (w : List ℕ) (k : ℕ) → counts_one w k ≡ true → 0 < k
unfolding counts_one
one_some w zero e = let q : size_at w 0 ≡ suc (size_at w 0) = eqb-true _ _ e in absurd (omega arith)
one_some w (suc k) e = omega arith

pub expression_enough : (f g : ℕ) (w : List ℕ) (k : ℕ) → k < f → k < g → expression_within f w k ≡ expression_within g w k
unfolding expression_within
expression_enough zero g w k h l = absurd (omega arith)
expression_enough (suc f) zero w k h l = absurd (omega arith)
expression_enough (suc f) (suc g) w k h l =
    pick_same _ (λ _. refl) λ _.
    pick_same _ (λ _. pick_same _ (λ e.
    let n : 0 < k = two_some w k e in
    let left : expression_within f w (k - 1 - size_at w (k - 1)) ≡ expression_within g w (k - 1 - size_at w (k - 1)) =
    expression_enough f g w (k - 1 - size_at w (k - 1)) (omega arith) (omega arith) in
    let right : expression_within f w (k - 1) ≡ expression_within g w (k - 1) = expression_enough f g w (k - 1) (omega arith) (omega arith) in
    λ t. apply (operator_of (kind_at w k)) (left t) (right t)) (λ _. refl)) (λ _. refl)

pub condition_enough : (f g : ℕ) (w : List ℕ) (k : ℕ) → k < f → k < g → condition_within f w k ≡ condition_within g w k
unfolding condition_within
condition_enough zero g w k h l = absurd (omega arith)
condition_enough (suc f) zero w k h l = absurd (omega arith)
condition_enough (suc f) (suc g) w k h l =
    let part : (j : ℕ) → j < k → condition_within f w j ≡ condition_within g w j = λ j r. condition_enough f g w j (omega arith) (omega arith) in
    pick_same _ (λ _. refl) λ _.
    pick_same _ (λ _. refl) λ _.
    pick_same _ (λ _. pick_same _ (λ e.
    let n : 0 < k = one_some w k e in
    ap negation (part (k - 1) (omega arith))) (λ _. refl)) λ _.
    pick_same _ (λ e.
    let n : 0 < k = two_some w k e in
    let left = part (k - 1 - size_at w (k - 1)) (omega arith) in
    let right = part (k - 1) (omega arith) in
    pick_same _ (λ _ t. both (left t) (right t)) λ _.
    pick_same _ (λ _ t. either (left t) (right t)) λ _. refl) (λ _. refl)

pub block_enough : (f g : ℕ) (w : List ℕ) (from end : ℕ) → end < f → end < g → block_within f w from end ≡ block_within g w from end
unfolding block_within
block_enough zero g w from end h l = absurd (omega arith)
block_enough (suc f) zero w from end h l = absurd (omega arith)
block_enough (suc f) (suc g) w from end h l =
    let k = end - 1 in
    pick_same _ (λ _. refl) λ e.
    let n : from < end = leb-false end from e in
    let part : (p q : ℕ) → q < end → block_within f w p q ≡ block_within g w p q =
    λ p q r. block_enough f g w p q (omega arith) (omega arith) in
    pick_same _ (λ _ t. perform (part from (k - 1 - size_at w (k - 2)) (omega arith) t) (value_move_at w k)) λ _.
    pick_same _ (λ _ t. perform (part from (k - 2 - size_at w (k - 3)) (omega arith) t) (asset_move_at w k)) λ _.
    pick_same _ (λ _ t. perform (part from (k - 2) (omega arith) t) (whole_move_at w k)) λ _.
    pick_same _ (λ _ t.
    conditional
    (part from (k - argument_at w k - size_at w (k - argument_at w k - 1)) (omega arith) t)
    (condition_at w (k - argument_at w k - 1))
    (part (k - argument_at w k) k (omega arith) t)) λ _. refl

-- ---- what stands at a node by what stands at its parts, without levels

pub expression_step : (w : List ℕ) (k : ℕ)
    → expression_at w k
    ≡ pick (ltb (kind_at w k) plus_kind) (leaf_of (kind_at w k) (argument_at w k))
    (pick (leb (kind_at w k) over_kind)
    (pick (counts_two w k)
    (apply (operator_of (kind_at w k)) (expression_at w (k - 1 - size_at w (k - 1))) (expression_at w (k - 1)))
    broken_expression)
    broken_expression)
unfolding expression_within
expression_step w k =
    pick_same _ (λ _. refl) λ _.
    pick_same _ (λ _. pick_same _ (λ e.
    let n : 0 < k = two_some w k e in
    let part : (j : ℕ) → j < k → expression_within k w j ≡ expression_at w j = λ j l. expression_enough k (suc j) w j l (omega arith) in
    λ t. apply (operator_of (kind_at w k)) (part (k - 1 - size_at w (k - 1)) (omega arith) t) (part (k - 1) (omega arith) t)) (λ _. refl)) (λ _. refl)

pub condition_step : (w : List ℕ) (k : ℕ)
    → condition_at w k
    ≡ pick (eqb (kind_at w k) true_kind) (truth true)
    (pick (eqb (kind_at w k) false_kind) (truth false)
    (pick (eqb (kind_at w k) not_kind)
    (pick (counts_one w k) (negation (condition_at w (k - 1))) broken_condition)
    (pick (counts_two w k)
    (pick (eqb (kind_at w k) and_kind) (both (condition_at w (k - 1 - size_at w (k - 1))) (condition_at w (k - 1)))
    (pick (eqb (kind_at w k) or_kind) (either (condition_at w (k - 1 - size_at w (k - 1))) (condition_at w (k - 1)))
    (pick (ltb (kind_at w k) equal_kind) broken_condition
    (pick (ltb at_least_kind (kind_at w k)) broken_condition
    (compare (comparison_of (kind_at w k)) (expression_at w (k - 1 - size_at w (k - 1))) (expression_at w (k - 1)))))))
    broken_condition)))
unfolding condition_within
condition_step w k =
    let part : (j : ℕ) → j < k → condition_within k w j ≡ condition_at w j = λ j l. condition_enough k (suc j) w j l (omega arith) in
    pick_same _ (λ _. refl) λ _.
    pick_same _ (λ _. refl) λ _.
    pick_same _ (λ _. pick_same _ (λ e.
    let n : 0 < k = one_some w k e in
    ap negation (part (k - 1) (omega arith))) (λ _. refl)) λ _.
    pick_same _ (λ e.
    let n : 0 < k = two_some w k e in
    let left = part (k - 1 - size_at w (k - 1)) (omega arith) in
    let right = part (k - 1) (omega arith) in
    pick_same _ (λ _ t. both (left t) (right t)) λ _.
    pick_same _ (λ _ t. either (left t) (right t)) λ _. refl) (λ _. refl)

pub block_step : (w : List ℕ) (from end : ℕ)
    → block_between w from end
    ≡ (let k = end - 1 in
    pick (leb end from) (pick (eqb end from) none broken_block)
    (pick (eqb (kind_at w k) value_move_kind)
    (perform (block_between w from (k - 1 - size_at w (k - 2))) (value_move_at w k))
    (pick (eqb (kind_at w k) asset_move_kind)
    (perform (block_between w from (k - 2 - size_at w (k - 3))) (asset_move_at w k))
    (pick (eqb (kind_at w k) whole_move_kind)
    (perform (block_between w from (k - 2)) (whole_move_at w k))
    (pick (eqb (kind_at w k) conditional_kind)
    (conditional
    (block_between w from (k - argument_at w k - size_at w (k - argument_at w k - 1)))
    (condition_at w (k - argument_at w k - 1))
    (block_between w (k - argument_at w k) k))
    broken_block)))))
unfolding block_within
block_step w from end =
    let k = end - 1 in
    pick_same _ (λ _. refl) λ e.
    let n : from < end = leb-false end from e in
    let part : (p q : ℕ) → q < end → block_within end w p q ≡ block_between w p q = λ p q r. block_enough end (suc q) w p q r (omega arith) in
    pick_same _ (λ _ t. perform (part from (k - 1 - size_at w (k - 2)) (omega arith) t) (value_move_at w k)) λ _.
    pick_same _ (λ _ t. perform (part from (k - 2 - size_at w (k - 3)) (omega arith) t) (asset_move_at w k)) λ _.
    pick_same _ (λ _ t. perform (part from (k - 2) (omega arith) t) (whole_move_at w k)) λ _.
    pick_same _ (λ _ t.
    conditional
    (part from (k - argument_at w k - size_at w (k - argument_at w k - 1)) (omega arith) t)
    (condition_at w (k - argument_at w k - 1))
    (part (k - argument_at w k) k (omega arith) t)) λ _. refl
