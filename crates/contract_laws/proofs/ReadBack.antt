-- The nodes of a tree give it back, wherever they stand in a table. Assumes nothing.
use mathlib.Core.Path.{◌≡◌, refl, sym, ap, ◌∙◌}
use mathlib.Core.Bool.{Bool, true, false, ◌&&◌}
use mathlib.Core.List.{List, [], ◌∷◌, ◌++◌}
use Prim.Native.Nat.{ℕ, zero, suc, ◌+◌, ◌-◌, ◌*◌, ◌<◌, ◌≤◌}
use native.Mathlib.Omega.{arith}
use lib.ListN.{length}
use lib.Dec.{leb, ltb}
use borrow.Author.Tests.{ltb-true, lt-ltb, le-ltb, le-leb, lt-leb, eq-eqb, ne_eqb}
use Rattle.numbers.specs.declared.Operator.{Operator}
use Rattle.numbers.specs.declared.Operator.TheVariants.{Plus, Minus, Times, Over}
use Rattle.numbers.specs.declared.Comparison.{Comparison}
use Rattle.numbers.specs.declared.Comparison.TheVariants.{Equal, Unequal, Less, AtMost, Greater, AtLeast}
use Rattle.laws.specs.Choice.{pick}
use Rattle.laws.proofs.Choice.{pick_true, pick_false, true_false}
use Rattle.contract.specs.Limits.{top, max_strings}
use Rattle.contract.specs.Tree.{Holder, asset, asset_parameter, Expression, constant, string, clock, field, value_parameter, held, apply, broken_expression, Condition, truth, compare, negation, both, either, broken_condition, Action, assign, send, move, pay, move_all, pay_all, Block, none, perform, conditional, broken_block, Precondition, omitted, given}
use Rattle.contract.specs.Sizes.{expression_size, condition_size, action_size, block_size, precondition_size}
use Rattle.contract.specs.Fits.{Scope, holder_in, expression_in, condition_in, action_in, block_in, precondition_in}
use Rattle.laws.proofs.Truths.{both_left, both_right}
use Rattle.contract.specs.Table.{kind_at, argument_at, size_at, constant_kind, string_kind, now_kind, field_kind, asset_kind, value_kind, parameter_kind, plus_kind, over_kind, true_kind, false_kind, equal_kind, at_least_kind, not_kind, and_kind, or_kind, party_kind, value_move_kind, asset_move_kind, whole_move_kind, conditional_kind}
use Rattle.contract.specs.Encode.{node, operator_kind, comparison_kind, truth_kind, holder_node, expression_nodes, condition_nodes, action_parts, action_kind, block_nodes, precondition_nodes}
use Rattle.contract.specs.Decode.{operator_of, comparison_of, holder_at, leaf_of, counts_two, counts_one, expression_within, expression_at, condition_within, condition_at, value_move_at, asset_move_at, whole_move_at, block_within, block_between, precondition_at}
use Rattle.contract_laws.proofs.Stands.{first_part, moved}
use Rattle.contract_laws.proofs.Lengths.{length_holder, length_expression, length_condition, length_parts, length_block, expression_some, condition_some, action_some}
use Rattle.contract_laws.proofs.Sections.{Nodes, nodes_after, NodeIs, node_is}

-- ---- kinds

operator_back : (o : Operator) → operator_of (operator_kind o) ≡ o
unfolding pick
operator_back Plus = refl
operator_back Minus = refl
operator_back Times = refl
operator_back Over = refl

operator_range : (o : Operator) → (plus_kind ≤ operator_kind o) × (operator_kind o ≤ over_kind)
operator_range Plus = omega arith
operator_range Minus = omega arith
operator_range Times = omega arith
operator_range Over = omega arith

comparison_back : (o : Comparison) → comparison_of (comparison_kind o) ≡ o
unfolding pick
comparison_back Equal = refl
comparison_back Unequal = refl
comparison_back Less = refl
comparison_back AtMost = refl
comparison_back Greater = refl
comparison_back AtLeast = refl

comparison_range : (o : Comparison) → (equal_kind ≤ comparison_kind o) × (comparison_kind o ≤ at_least_kind)
comparison_range Equal = omega arith
comparison_range Unequal = omega arith
comparison_range Less = omega arith
comparison_range AtMost = omega arith
comparison_range Greater = omega arith
comparison_range AtLeast = omega arith

-- ---- parts of a node: two lists of m and n nodes before it

pub record Parts (w : List ℕ) (k : ℕ) (a b : List ℕ) (m n t x z : ℕ) : Type 0 where
  pub first : Nodes w k a
  pub second : Nodes w (k + m) b
  pub last : NodeIs w (k + (m + n + 1) - 1) t x z

pub parts : {w : List ℕ} (k : ℕ) (a b : List ℕ) (m n t x z : ℕ) → length a ≡ m * 3 → length b ≡ n * 3
    → Nodes w k (a ++ (b ++ (t ∷ x ∷ z ∷ []))) → Parts w k a b m n t x z
parts {w} k a b m n t x z la lb s =
    let r : Nodes w (k + m) (b ++ (t ∷ x ∷ z ∷ [])) = nodes_after k a (b ++ (t ∷ x ∷ z ∷ [])) m la s in
    record {
      first = first_part a (b ++ (t ∷ x ∷ z ∷ [])) s;
      second = first_part b (t ∷ x ∷ z ∷ []) r;
      last = node_is (k + (m + n + 1) - 1) t x z (moved (omega arith) (nodes_after (k + m) b (t ∷ x ∷ z ∷ []) n lb r));
    }

-- a node by itself
single : {w : List ℕ} (k t x z : ℕ) → Nodes w k (t ∷ x ∷ z ∷ []) → NodeIs w (k + 1 - 1) t x z
single k t x z s = node_is (k + 1 - 1) t x z (moved (omega arith) s)

-- what two parts of m and n nodes give that stand before node k
record Halves {X : Type 0} (w : List ℕ) (read : ℕ → X) (k : ℕ) (a b : X) : Type 0 where
  left : read (k - 1 - size_at w (k - 1)) ≡ a
  right : read (k - 1) ≡ b
  counted : counts_two w k ≡ true

halves : {X : Type 0} {a b : X} (w : List ℕ) (read : ℕ → X) (k m n : ℕ) → 1 ≤ m → 1 ≤ n → read (k + m - 1) ≡ a → read (k + m + n - 1) ≡ b
    → size_at w (k + m - 1) ≡ m → size_at w (k + m + n - 1) ≡ n → size_at w (k + (m + n + 1) - 1) ≡ m + n + 1 → Halves w read (k + (m + n + 1) - 1) a b
unfolding counts_two
halves w read k m n p q x y u z v =
    let j = k + (m + n + 1) - 1 in
    let size : size_at w (j - 1) ≡ n = ap (size_at w) (omega arith) ∙ z in
    let before : size_at w (j - 1 - size_at w (j - 1)) ≡ m = ap (size_at w) (omega arith) ∙ u in
    record {
      left = ap read (omega arith) ∙ x;
      right = ap read (omega arith) ∙ y;
      counted = eq-eqb (size_at w j) (suc (size_at w (j - 1 - size_at w (j - 1)) + size_at w (j - 1))) (omega arith);
    }

-- ---- holders

holder_size : {w : List ℕ} (k : ℕ) (h : Holder) → Nodes w k (holder_node h) → size_at w k ≡ 1
holder_size k (asset i) s = (node_is k asset_kind i 1 s).size
holder_size k (asset_parameter i) s = (node_is k parameter_kind i 1 s).size

holder_read : {w : List ℕ} (k : ℕ) (h : Holder) → Nodes w k (holder_node h) → holder_at w k ≡ h
unfolding pick
holder_read k (asset i) s =
    let n = node_is k asset_kind i 1 s in rw (n.kind, n.argument)
holder_read k (asset_parameter i) s =
    let n = node_is k parameter_kind i 1 s in rw (n.kind, n.argument)

holder_kind : {w : List ℕ} (k : ℕ) (h : Holder) → Nodes w k (holder_node h) → kind_at w k < party_kind
holder_kind k (asset i) s = omega (arith, (node_is k asset_kind i 1 s).kind)
holder_kind k (asset_parameter i) s = omega (arith, (node_is k parameter_kind i 1 s).kind)

module _ (w : List ℕ) where
  -- ---- expressions

  leaf_read : (f k t x z : ℕ) → NodeIs w k t x z → t < plus_kind → expression_within (suc f) w k ≡ leaf_of t x
  unfolding expression_within
  leaf_read f k t x z n h =
      pick_true _ _ _ (lt-ltb (kind_at w k) plus_kind (omega arith)) ∙ (λ i. leaf_of (n.kind i) (n.argument i))

  apply_read : (f k x z : ℕ) (o : Operator) {a b : Expression} → NodeIs w k (operator_kind o) x z → counts_two w k ≡ true
      → expression_within f w (k - 1 - size_at w (k - 1)) ≡ a → expression_within f w (k - 1) ≡ b → expression_within (suc f) w k ≡ apply o a b
  unfolding expression_within
  apply_read f k x z o n h l r =
      let q = operator_range o in
      pick_false _ _ _ (le-ltb (kind_at w k) plus_kind (omega arith))
      ∙ pick_true _ _ _ (le-leb (kind_at w k) over_kind (omega arith))
      ∙ pick_true _ _ _ h
      ∙ (λ i. apply ((ap operator_of n.kind ∙ operator_back o) i) (l i) (r i))

  pub expression_size_lem : (e : Expression) (k : ℕ) → Nodes w k (expression_nodes e) → size_at w (k + expression_size e - 1) ≡ expression_size e
  unfolding expression_nodes expression_size
  expression_size_lem (constant n) k s = (single k constant_kind n 1 s).size
  expression_size_lem (string n) k s = (single k string_kind n 1 s).size
  expression_size_lem clock k s = (single k now_kind 0 1 s).size
  expression_size_lem (field i) k s = (single k field_kind i 1 s).size
  expression_size_lem (value_parameter i) k s = (single k value_kind i 1 s).size
  expression_size_lem (held h) k s = holder_size (k + 1 - 1) h (moved (omega arith) s)
  expression_size_lem (apply o a b) k s =
      (parts k (expression_nodes a) (expression_nodes b) (expression_size a) (expression_size b) (operator_kind o) 0 _
      (length_expression a) (length_expression b) s).last.size
  expression_size_lem broken_expression k s = (single k 0 0 1 s).size

  module _ (c : Scope) (few : c.strings ≤ max_strings) where
    constant_back : (n : ℕ) → leb n top ≡ true → leaf_of constant_kind n ≡ constant n
    unfolding leaf_of pick
    constant_back n e = rw e

    string_back : (n : ℕ) → ltb n c.strings ≡ true → leaf_of string_kind n ≡ string n
    unfolding leaf_of pick
    string_back n e = rw (lt-ltb n max_strings (omega (arith, ltb-true n c.strings e)))

    pub expression_within_lem : (e : Expression) (k f : ℕ) → expression_size e ≤ f → expression_in c e ≡ true → Nodes w k (expression_nodes e)
        → expression_within f w (k + expression_size e - 1) ≡ e
    unfolding expression_nodes expression_size expression_in leaf_of pick
    expression_within_lem e k zero l h s = absurd (omega (arith, expression_some e))
    expression_within_lem (constant n) k (suc f) l h s = leaf_read f (k + 1 - 1) constant_kind n 1 (single k constant_kind n 1 s) (omega arith) ∙ constant_back n h
    expression_within_lem (string n) k (suc f) l h s = leaf_read f (k + 1 - 1) string_kind n 1 (single k string_kind n 1 s) (omega arith) ∙ string_back n h
    expression_within_lem clock k (suc f) l h s = leaf_read f (k + 1 - 1) now_kind 0 1 (single k now_kind 0 1 s) (omega arith)
    expression_within_lem (field i) k (suc f) l h s = leaf_read f (k + 1 - 1) field_kind i 1 (single k field_kind i 1 s) (omega arith)
    expression_within_lem (value_parameter i) k (suc f) l h s = leaf_read f (k + 1 - 1) value_kind i 1 (single k value_kind i 1 s) (omega arith)
    expression_within_lem (held (asset i)) k (suc f) l h s = leaf_read f (k + 1 - 1) asset_kind i 1 (single k asset_kind i 1 s) (omega arith)
    expression_within_lem (held (asset_parameter i)) k (suc f) l h s = leaf_read f (k + 1 - 1) parameter_kind i 1 (single k parameter_kind i 1 s) (omega arith)
    expression_within_lem (apply o a b) k (suc f) l h s =
        let m = expression_size a in
        let n = expression_size b in
        let p = parts k (expression_nodes a) (expression_nodes b) m n (operator_kind o) 0 (m + n + 1) (length_expression a) (length_expression b) s in
        let q =
        halves w (expression_within f w) k m n (expression_some a) (expression_some b)
        (expression_within_lem a k f (omega arith) (both_left (expression_in c a) (expression_in c b) h) p.first)
        (expression_within_lem b (k + m) f (omega arith) (both_right (expression_in c a) (expression_in c b) h) p.second)
        (expression_size_lem a k p.first) (expression_size_lem b (k + m) p.second) p.last.size in
        apply_read f (k + (m + n + 1) - 1) 0 (m + n + 1) o p.last q.counted q.left q.right
    expression_within_lem broken_expression k (suc f) l h s = true_false (sym h)

    pub expression_read : (e : Expression) (k : ℕ) → expression_in c e ≡ true → Nodes w k (expression_nodes e)
        → expression_at w (k + expression_size e - 1) ≡ e
    expression_read e k h s = expression_within_lem e k (suc (k + expression_size e - 1)) (omega arith) h s

  -- ---- conditions

  pub condition_size_lem : (t : Condition) (k : ℕ) → Nodes w k (condition_nodes t) → size_at w (k + condition_size t - 1) ≡ condition_size t
  unfolding condition_nodes condition_size
  condition_size_lem (truth t) k s = (single k (truth_kind t) 0 1 s).size
  condition_size_lem (compare o a b) k s =
      (parts k (expression_nodes a) (expression_nodes b) (expression_size a) (expression_size b) (comparison_kind o) 0 _
      (length_expression a) (length_expression b) s).last.size
  condition_size_lem (negation a) k s =
      let m = condition_size a in
      (node_is (k + (m + 1) - 1) not_kind 0 (m + 1)
      (moved (omega arith) (nodes_after k (condition_nodes a) (not_kind ∷ 0 ∷ (m + 1) ∷ []) m (length_condition a) s))).size
  condition_size_lem (both a b) k s =
      (parts k (condition_nodes a) (condition_nodes b) (condition_size a) (condition_size b) and_kind 0 _
      (length_condition a) (length_condition b) s).last.size
  condition_size_lem (either a b) k s =
      (parts k (condition_nodes a) (condition_nodes b) (condition_size a) (condition_size b) or_kind 0 _
      (length_condition a) (length_condition b) s).last.size
  condition_size_lem broken_condition k s = (single k 0 0 1 s).size

  truth_read : (f k x z : ℕ) (t : Bool) → NodeIs w k (truth_kind t) x z → condition_within (suc f) w k ≡ truth t
  unfolding condition_within
  truth_read f k x z true n = pick_true _ _ _ (eq-eqb (kind_at w k) true_kind n.kind)
  truth_read f k x z false n =
      pick_false _ _ _ (ne_eqb (kind_at w k) true_kind (omega arith)) ∙ pick_true _ _ _ (eq-eqb (kind_at w k) false_kind n.kind)

  negation_read : (f k x z : ℕ) {a : Condition} → NodeIs w k not_kind x z → counts_one w k ≡ true → condition_within f w (k - 1) ≡ a
      → condition_within (suc f) w k ≡ negation a
  unfolding condition_within
  negation_read f k x z n h r =
      pick_false _ _ _ (ne_eqb (kind_at w k) true_kind (omega arith))
      ∙ pick_false _ _ _ (ne_eqb (kind_at w k) false_kind (omega arith))
      ∙ pick_true _ _ _ (eq-eqb (kind_at w k) not_kind n.kind)
      ∙ pick_true _ _ _ h
      ∙ ap negation r

  both_read : (f k x z : ℕ) {a b : Condition} → NodeIs w k and_kind x z → counts_two w k ≡ true
      → condition_within f w (k - 1 - size_at w (k - 1)) ≡ a → condition_within f w (k - 1) ≡ b → condition_within (suc f) w k ≡ both a b
  unfolding condition_within
  both_read f k x z n h l r =
      pick_false _ _ _ (ne_eqb (kind_at w k) true_kind (omega arith))
      ∙ pick_false _ _ _ (ne_eqb (kind_at w k) false_kind (omega arith))
      ∙ pick_false _ _ _ (ne_eqb (kind_at w k) not_kind (omega arith))
      ∙ pick_true _ _ _ h
      ∙ pick_true _ _ _ (eq-eqb (kind_at w k) and_kind n.kind)
      ∙ (λ i. both (l i) (r i))

  either_read : (f k x z : ℕ) {a b : Condition} → NodeIs w k or_kind x z → counts_two w k ≡ true
      → condition_within f w (k - 1 - size_at w (k - 1)) ≡ a → condition_within f w (k - 1) ≡ b → condition_within (suc f) w k ≡ either a b
  unfolding condition_within
  either_read f k x z n h l r =
      pick_false _ _ _ (ne_eqb (kind_at w k) true_kind (omega arith))
      ∙ pick_false _ _ _ (ne_eqb (kind_at w k) false_kind (omega arith))
      ∙ pick_false _ _ _ (ne_eqb (kind_at w k) not_kind (omega arith))
      ∙ pick_true _ _ _ h
      ∙ pick_false _ _ _ (ne_eqb (kind_at w k) and_kind (omega arith))
      ∙ pick_true _ _ _ (eq-eqb (kind_at w k) or_kind n.kind)
      ∙ (λ i. either (l i) (r i))

  compare_read : (f k x z : ℕ) (o : Comparison) {a b : Expression} → NodeIs w k (comparison_kind o) x z → counts_two w k ≡ true
      → expression_at w (k - 1 - size_at w (k - 1)) ≡ a → expression_at w (k - 1) ≡ b → condition_within (suc f) w k ≡ compare o a b
  unfolding condition_within
  compare_read f k x z o n h l r =
      let q = comparison_range o in
      pick_false _ _ _ (ne_eqb (kind_at w k) true_kind (omega arith))
      ∙ pick_false _ _ _ (ne_eqb (kind_at w k) false_kind (omega arith))
      ∙ pick_false _ _ _ (ne_eqb (kind_at w k) not_kind (omega arith))
      ∙ pick_true _ _ _ h
      ∙ pick_false _ _ _ (ne_eqb (kind_at w k) and_kind (omega arith))
      ∙ pick_false _ _ _ (ne_eqb (kind_at w k) or_kind (omega arith))
      ∙ pick_false _ _ _ (le-ltb (kind_at w k) equal_kind (omega arith))
      ∙ pick_false _ _ _ (le-ltb at_least_kind (kind_at w k) (omega arith))
      ∙ (λ i. compare ((ap comparison_of n.kind ∙ comparison_back o) i) (l i) (r i))

  module _ (c : Scope) (few : c.strings ≤ max_strings) where
    pub condition_within_lem : (t : Condition) (k f : ℕ) → condition_size t ≤ f → condition_in c t ≡ true → Nodes w k (condition_nodes t)
        → condition_within f w (k + condition_size t - 1) ≡ t
    unfolding condition_nodes condition_size condition_in counts_one
    condition_within_lem t k zero l h s = absurd (omega (arith, condition_some t))
    condition_within_lem (truth t) k (suc f) l h s = truth_read f (k + 1 - 1) 0 1 t (single k (truth_kind t) 0 1 s)
    condition_within_lem (compare o a b) k (suc f) l h s =
        let m = expression_size a in
        let n = expression_size b in
        let p = parts k (expression_nodes a) (expression_nodes b) m n (comparison_kind o) 0 (m + n + 1) (length_expression a) (length_expression b) s in
        let q =
        halves w (expression_at w) k m n (expression_some a) (expression_some b)
        (expression_read c few a k (both_left (expression_in c a) (expression_in c b) h) p.first)
        (expression_read c few b (k + m) (both_right (expression_in c a) (expression_in c b) h) p.second)
        (expression_size_lem a k p.first) (expression_size_lem b (k + m) p.second) p.last.size in
        compare_read f (k + (m + n + 1) - 1) 0 (m + n + 1) o p.last q.counted q.left q.right
    condition_within_lem (negation a) k (suc f) l h s =
        let m = condition_size a in
        let ma = condition_some a in
        let n = node_is (k + (m + 1) - 1) not_kind 0 (m + 1)
        (moved (omega arith) (nodes_after k (condition_nodes a) (not_kind ∷ 0 ∷ (m + 1) ∷ []) m (length_condition a) s)) in
        let part : condition_within f w (k + (m + 1) - 1 - 1) ≡ a =
        ap (condition_within f w) (omega arith)
        ∙ condition_within_lem a k f (omega arith) h (first_part (condition_nodes a) (not_kind ∷ 0 ∷ (m + 1) ∷ []) s) in
        let below : size_at w (k + (m + 1) - 1 - 1) ≡ m =
        ap (size_at w) (omega arith) ∙ condition_size_lem a k (first_part (condition_nodes a) (not_kind ∷ 0 ∷ (m + 1) ∷ []) s) in
        negation_read f (k + (m + 1) - 1) 0 (m + 1) n
        (eq-eqb (size_at w (k + (m + 1) - 1)) (suc (size_at w (k + (m + 1) - 1 - 1))) (omega (arith, n.size))) part
    condition_within_lem (both a b) k (suc f) l h s =
        let m = condition_size a in
        let n = condition_size b in
        let p = parts k (condition_nodes a) (condition_nodes b) m n and_kind 0 (m + n + 1) (length_condition a) (length_condition b) s in
        let q =
        halves w (condition_within f w) k m n (condition_some a) (condition_some b)
        (condition_within_lem a k f (omega arith) (both_left (condition_in c a) (condition_in c b) h) p.first)
        (condition_within_lem b (k + m) f (omega arith) (both_right (condition_in c a) (condition_in c b) h) p.second)
        (condition_size_lem a k p.first) (condition_size_lem b (k + m) p.second) p.last.size in
        both_read f (k + (m + n + 1) - 1) 0 (m + n + 1) p.last q.counted q.left q.right
    condition_within_lem (either a b) k (suc f) l h s =
        let m = condition_size a in
        let n = condition_size b in
        let p = parts k (condition_nodes a) (condition_nodes b) m n or_kind 0 (m + n + 1) (length_condition a) (length_condition b) s in
        let q =
        halves w (condition_within f w) k m n (condition_some a) (condition_some b)
        (condition_within_lem a k f (omega arith) (both_left (condition_in c a) (condition_in c b) h) p.first)
        (condition_within_lem b (k + m) f (omega arith) (both_right (condition_in c a) (condition_in c b) h) p.second)
        (condition_size_lem a k p.first) (condition_size_lem b (k + m) p.second) p.last.size in
        either_read f (k + (m + n + 1) - 1) 0 (m + n + 1) p.last q.counted q.left q.right
    condition_within_lem broken_condition k (suc f) l h s = true_false (sym h)

    pub condition_read : (t : Condition) (k : ℕ) → condition_in c t ≡ true → Nodes w k (condition_nodes t)
        → condition_at w (k + condition_size t - 1) ≡ t
    condition_read t k h s = condition_within_lem t k (suc (k + condition_size t - 1)) (omega arith) h s

  -- ---- statements without statements in them

  assign_read : (k x z : ℕ) {e : Expression} → NodeIs w (k - 1) field_kind x z → expression_at w (k - 2) ≡ e → value_move_at w k ≡ assign e x
  unfolding value_move_at
  assign_read k x z n e = pick_false _ _ _ (ne_eqb (kind_at w (k - 1)) party_kind (omega arith)) ∙ (λ i. assign (e i) (n.argument i))

  send_read : (k x z : ℕ) {e : Expression} → NodeIs w (k - 1) party_kind x z → expression_at w (k - 2) ≡ e → value_move_at w k ≡ send e x
  unfolding value_move_at
  send_read k x z n e = pick_true _ _ _ (eq-eqb (kind_at w (k - 1)) party_kind n.kind) ∙ (λ i. send (e i) (n.argument i))

  move_read : (k : ℕ) (h t : Holder) {e : Expression} → Nodes w (k - 2) (holder_node h) → Nodes w (k - 1) (holder_node t)
      → expression_at w (k - 3) ≡ e → asset_move_at w k ≡ move e h t
  unfolding asset_move_at
  move_read k h t nh nt e =
      pick_false _ _ _ (ne_eqb (kind_at w (k - 1)) party_kind (omega (arith, holder_kind (k - 1) t nt)))
      ∙ (λ i. move (e i) (holder_read (k - 2) h nh i) (holder_read (k - 1) t nt i))

  pay_read : (k x z : ℕ) (h : Holder) {e : Expression} → Nodes w (k - 2) (holder_node h) → NodeIs w (k - 1) party_kind x z
      → expression_at w (k - 3) ≡ e → asset_move_at w k ≡ pay e h x
  unfolding asset_move_at
  pay_read k x z h nh n e =
      pick_true _ _ _ (eq-eqb (kind_at w (k - 1)) party_kind n.kind)
      ∙ (λ i. pay (e i) (holder_read (k - 2) h nh i) (n.argument i))

  move_all_read : (k : ℕ) (h t : Holder) → Nodes w (k - 2) (holder_node h) → Nodes w (k - 1) (holder_node t) → whole_move_at w k ≡ move_all h t
  unfolding whole_move_at
  move_all_read k h t nh nt =
      pick_false _ _ _ (ne_eqb (kind_at w (k - 1)) party_kind (omega (arith, holder_kind (k - 1) t nt)))
      ∙ (λ i. move_all (holder_read (k - 2) h nh i) (holder_read (k - 1) t nt i))

  pay_all_read : (k x z : ℕ) (h : Holder) → Nodes w (k - 2) (holder_node h) → NodeIs w (k - 1) party_kind x z → whole_move_at w k ≡ pay_all h x
  unfolding whole_move_at
  pay_all_read k x z h nh n =
      pick_true _ _ _ (eq-eqb (kind_at w (k - 1)) party_kind n.kind) ∙ (λ i. pay_all (holder_read (k - 2) h nh i) (n.argument i))

  -- ---- blocks: the last statement, after the block before it

  value_step : (f from end p : ℕ) {b : Block} {a : Action} → from < end → kind_at w (end - 1) ≡ value_move_kind
      → end - 1 - 1 - size_at w (end - 1 - 2) ≡ p → block_within f w from p ≡ b → value_move_at w (end - 1) ≡ a
      → block_within (suc f) w from end ≡ perform b a
  unfolding block_within
  value_step f from end p l n q b a =
      pick_false _ _ _ (lt-leb end from l)
      ∙ pick_true _ _ _ (eq-eqb (kind_at w (end - 1)) value_move_kind n)
      ∙ (λ i. perform ((ap (block_within f w from) q ∙ b) i) (a i))

  asset_step : (f from end p : ℕ) {b : Block} {a : Action} → from < end → kind_at w (end - 1) ≡ asset_move_kind
      → end - 1 - 2 - size_at w (end - 1 - 3) ≡ p → block_within f w from p ≡ b → asset_move_at w (end - 1) ≡ a
      → block_within (suc f) w from end ≡ perform b a
  unfolding block_within
  asset_step f from end p l n q b a =
      pick_false _ _ _ (lt-leb end from l)
      ∙ pick_false _ _ _ (ne_eqb (kind_at w (end - 1)) value_move_kind (omega arith))
      ∙ pick_true _ _ _ (eq-eqb (kind_at w (end - 1)) asset_move_kind n)
      ∙ (λ i. perform ((ap (block_within f w from) q ∙ b) i) (a i))

  whole_step : (f from end p : ℕ) {b : Block} {a : Action} → from < end → kind_at w (end - 1) ≡ whole_move_kind
      → end - 1 - 2 ≡ p → block_within f w from p ≡ b → whole_move_at w (end - 1) ≡ a
      → block_within (suc f) w from end ≡ perform b a
  unfolding block_within
  whole_step f from end p l n q b a =
      pick_false _ _ _ (lt-leb end from l)
      ∙ pick_false _ _ _ (ne_eqb (kind_at w (end - 1)) value_move_kind (omega arith))
      ∙ pick_false _ _ _ (ne_eqb (kind_at w (end - 1)) asset_move_kind (omega arith))
      ∙ pick_true _ _ _ (eq-eqb (kind_at w (end - 1)) whole_move_kind n)
      ∙ (λ i. perform ((ap (block_within f w from) q ∙ b) i) (a i))

  conditional_step : (f from end p : ℕ) {b s : Block} {t : Condition} → from < end → kind_at w (end - 1) ≡ conditional_kind
      → end - 1 - argument_at w (end - 1) - size_at w (end - 1 - argument_at w (end - 1) - 1) ≡ p → block_within f w from p ≡ b
      → condition_at w (end - 1 - argument_at w (end - 1) - 1) ≡ t → block_within f w (end - 1 - argument_at w (end - 1)) (end - 1) ≡ s
      → block_within (suc f) w from end ≡ conditional b t s
  unfolding block_within
  conditional_step f from end p l n q b t s =
      pick_false _ _ _ (lt-leb end from l)
      ∙ pick_false _ _ _ (ne_eqb (kind_at w (end - 1)) value_move_kind (omega arith))
      ∙ pick_false _ _ _ (ne_eqb (kind_at w (end - 1)) asset_move_kind (omega arith))
      ∙ pick_false _ _ _ (ne_eqb (kind_at w (end - 1)) whole_move_kind (omega arith))
      ∙ pick_true _ _ _ (eq-eqb (kind_at w (end - 1)) conditional_kind n)
      ∙ (λ i. conditional ((ap (block_within f w from) q ∙ b) i) (t i) (s i))

  -- the node of an action after its parts
  own_node : (a : Action) (p z : ℕ) → Nodes w p (action_parts a ++ (action_kind a ∷ 0 ∷ z ∷ [])) → NodeIs w (p + action_size a - 1) (action_kind a) 0 z
  own_node a p z s =
      let l = length_parts a in
      node_is (p + action_size a - 1) (action_kind a) 0 z
      (moved (omega (arith, action_some a)) (nodes_after p (action_parts a) (action_kind a ∷ 0 ∷ z ∷ []) (action_size a - 1) (omega arith) s))

  module _ (c : Scope) (few : c.strings ≤ max_strings) where
    -- an action that ends a block, after the block before it
    pub action_step : (a : Action) (b : Block) (f from p z : ℕ) → from ≤ p → action_in c a ≡ true
        → Nodes w p (action_parts a ++ (action_kind a ∷ 0 ∷ z ∷ [])) → block_within f w from p ≡ b
        → block_within (suc f) w from (p + action_size a) ≡ perform b a
    unfolding action_parts action_size action_in
    action_step (assign e x) b f from p z l h s r =
        let m = expression_size e in
        let q = first_part (expression_nodes e ++ node field_kind x 1) (node value_move_kind 0 z) s in
        let se = first_part (expression_nodes e) (node field_kind x 1) q in
        let size : size_at w (p + (m + 2) - 1 - 2) ≡ m = ap (size_at w) (omega arith) ∙ expression_size_lem e p se in
        value_step f from (p + (m + 2)) p (omega arith) (own_node (assign e x) p z s).kind (omega arith) r
        (assign_read (p + (m + 2) - 1) x 1
        (node_is (p + (m + 2) - 1 - 1) field_kind x 1 (moved (omega arith) (nodes_after p (expression_nodes e) (node field_kind x 1) m (length_expression e) q)))
        (ap (expression_at w) (omega arith) ∙ expression_read c few e p (both_left (expression_in c e) (ltb x c.fields) h) se))
    action_step (send e x) b f from p z l h s r =
        let m = expression_size e in
        let q = first_part (expression_nodes e ++ node party_kind x 1) (node value_move_kind 0 z) s in
        let se = first_part (expression_nodes e) (node party_kind x 1) q in
        let size : size_at w (p + (m + 2) - 1 - 2) ≡ m = ap (size_at w) (omega arith) ∙ expression_size_lem e p se in
        value_step f from (p + (m + 2)) p (omega arith) (own_node (send e x) p z s).kind (omega arith) r
        (send_read (p + (m + 2) - 1) x 1
        (node_is (p + (m + 2) - 1 - 1) party_kind x 1 (moved (omega arith) (nodes_after p (expression_nodes e) (node party_kind x 1) m (length_expression e) q)))
        (ap (expression_at w) (omega arith) ∙ expression_read c few e p (both_left (expression_in c e) (ltb x c.parties) h) se))
    action_step (move e j t) b f from p z l h s r =
        let m = expression_size e in
        let q = first_part (expression_nodes e ++ (holder_node j ++ holder_node t)) (node asset_move_kind 0 z) s in
        let se = first_part (expression_nodes e) (holder_node j ++ holder_node t) q in
        let sh = nodes_after p (expression_nodes e) (holder_node j ++ holder_node t) m (length_expression e) q in
        let size : size_at w (p + (m + 3) - 1 - 3) ≡ m = ap (size_at w) (omega arith) ∙ expression_size_lem e p se in
        asset_step f from (p + (m + 3)) p (omega arith) (own_node (move e j t) p z s).kind (omega arith) r
        (move_read (p + (m + 3) - 1) j t
        (moved (omega arith) (first_part (holder_node j) (holder_node t) sh))
        (moved (omega arith) (nodes_after (p + m) (holder_node j) (holder_node t) 1 (length_holder j) sh))
        (ap (expression_at w) (omega arith) ∙ expression_read c few e p (both_left (expression_in c e) (holder_in c j && holder_in c t) h) se))
    action_step (pay e j x) b f from p z l h s r =
        let m = expression_size e in
        let q = first_part (expression_nodes e ++ (holder_node j ++ node party_kind x 1)) (node asset_move_kind 0 z) s in
        let se = first_part (expression_nodes e) (holder_node j ++ node party_kind x 1) q in
        let sh = nodes_after p (expression_nodes e) (holder_node j ++ node party_kind x 1) m (length_expression e) q in
        let size : size_at w (p + (m + 3) - 1 - 3) ≡ m = ap (size_at w) (omega arith) ∙ expression_size_lem e p se in
        asset_step f from (p + (m + 3)) p (omega arith) (own_node (pay e j x) p z s).kind (omega arith) r
        (pay_read (p + (m + 3) - 1) x 1 j
        (moved (omega arith) (first_part (holder_node j) (node party_kind x 1) sh))
        (node_is (p + (m + 3) - 1 - 1) party_kind x 1
        (moved (omega arith) (nodes_after (p + m) (holder_node j) (node party_kind x 1) 1 (length_holder j) sh)))
        (ap (expression_at w) (omega arith) ∙ expression_read c few e p (both_left (expression_in c e) (holder_in c j && ltb x c.parties) h) se))
    action_step (move_all j t) b f from p z l h s r =
        let q = first_part (holder_node j ++ holder_node t) (node whole_move_kind 0 z) s in
        whole_step f from (p + 3) p (omega arith) (own_node (move_all j t) p z s).kind (omega arith) r
        (move_all_read (p + 3 - 1) j t
        (moved (omega arith) (first_part (holder_node j) (holder_node t) q))
        (moved (omega arith) (nodes_after p (holder_node j) (holder_node t) 1 (length_holder j) q)))
    action_step (pay_all j x) b f from p z l h s r =
        let q = first_part (holder_node j ++ node party_kind x 1) (node whole_move_kind 0 z) s in
        whole_step f from (p + 3) p (omega arith) (own_node (pay_all j x) p z s).kind (omega arith) r
        (pay_all_read (p + 3 - 1) x 1 j
        (moved (omega arith) (first_part (holder_node j) (node party_kind x 1) q))
        (node_is (p + 3 - 1 - 1) party_kind x 1 (moved (omega arith) (nodes_after p (holder_node j) (node party_kind x 1) 1 (length_holder j) q))))

    none_read : (f k : ℕ) → block_within (suc f) w k (k + 0) ≡ none
    unfolding block_within
    none_read f k = pick_true _ _ _ (le-leb (k + 0) k (omega arith)) ∙ pick_true _ _ _ (eq-eqb (k + 0) k (omega arith))

    pub block_within_lem : (b : Block) (k f : ℕ) → block_size b < f → block_in c b ≡ true → Nodes w k (block_nodes b)
        → block_within f w k (k + block_size b) ≡ b
    unfolding block_nodes block_size block_in
    block_within_lem b k zero l h s = absurd (omega arith)
    block_within_lem none k (suc f) l h s = none_read f k
    block_within_lem (perform b a) k (suc f) l h s =
        let m = block_size b in
        let z = m + action_size a in
        let rest = action_parts a ++ node (action_kind a) 0 z in
        ap (block_within (suc f) w k) (omega arith)
        ∙ action_step a b f k (k + m) z (omega arith) (both_right (block_in c b) (action_in c a) h)
        (nodes_after k (block_nodes b) rest m (length_block b) s)
        (block_within_lem b k f (omega (arith, action_some a)) (both_left (block_in c b) (action_in c a) h) (first_part (block_nodes b) rest s))
    block_within_lem (conditional b t d) k (suc f) l h s =
        let m = block_size b in
        let n = condition_size t in
        let o = block_size d in
        let end = k + (m + (n + o + 1)) in
        let rest = condition_nodes t ++ (block_nodes d ++ node conditional_kind o (m + (n + o + 1))) in
        let p =
        parts (k + m) (condition_nodes t) (block_nodes d) n o conditional_kind o (m + (n + o + 1)) (length_condition t) (length_block d)
        (nodes_after k (block_nodes b) rest m (length_block b) s) in
        let i : end - 1 ≡ k + m + (n + o + 1) - 1 = omega arith in
        let kind : kind_at w (end - 1) ≡ conditional_kind = ap (kind_at w) i ∙ p.last.kind in
        let argument : argument_at w (end - 1) ≡ o = ap (argument_at w) i ∙ p.last.argument in
        let size : size_at w (end - 1 - argument_at w (end - 1) - 1) ≡ n = ap (size_at w) (omega arith) ∙ condition_size_lem t (k + m) p.first in
        let right = both_right (block_in c b) (condition_in c t && block_in c d) h in
        conditional_step f k end (k + m) (omega arith) kind (omega arith)
        (block_within_lem b k f (omega arith) (both_left (block_in c b) (condition_in c t && block_in c d) h) (first_part (block_nodes b) rest s))
        (ap (condition_at w) (omega arith) ∙ condition_read c few t (k + m) (both_left (condition_in c t) (block_in c d) right) p.first)
        (ap (λ (j : ℕ). block_within f w j (end - 1)) (omega arith)
        ∙ ap (block_within f w (k + m + n)) (omega arith)
        ∙ block_within_lem d (k + m + n) f (omega arith) (both_right (condition_in c t) (block_in c d) right) p.second)
    block_within_lem broken_block k (suc f) l h s = true_false (sym h)

    pub block_read : (b : Block) (k : ℕ) → block_in c b ≡ true → Nodes w k (block_nodes b) → block_between w k (k + block_size b) ≡ b
    block_read b k h s = block_within_lem b k (suc (k + block_size b)) (omega arith) h s

    pub precondition_read : (p : Precondition) (k : ℕ) → precondition_in c p ≡ true → Nodes w k (precondition_nodes p)
        → precondition_at w k (precondition_size p) ≡ p
    unfolding precondition_at precondition_in precondition_nodes precondition_size
    precondition_read omitted k h s = pick_true _ _ _ (eq-eqb 0 0 refl)
    precondition_read (given t) k h s =
        pick_false _ _ _ (ne_eqb (condition_size t) 0 (omega (arith, condition_some t))) ∙ ap given (condition_read c few t k h s)
