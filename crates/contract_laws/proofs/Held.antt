-- Nodes that the check accepts hold expressions and conditions that name what there is, and count their nodes. Assumes nothing.
use mathlib.Core.Path.{◌≡◌, refl, sym, ap, subst, ◌∙◌}
use mathlib.Core.Bool.{Bool, true, false}
use mathlib.Core.List.{List, [], ◌∷◌}
use Prim.Native.Nat.{ℕ, zero, suc, ◌+◌, ◌-◌, ◌<◌, ◌≤◌}
use native.Mathlib.Omega.{arith}
use lib.Dec.{eqb, leb, ltb}
use borrow.Author.Tests.{ltb-true, ltb-false, lt-ltb, le-ltb, le-leb, eq-eqb, ne_eqb}
use Rattle.laws.specs.Choice.{pick}
use Rattle.laws.proofs.Choice.{pick_true, pick_false}
use Rattle.contract.specs.Limits.{top, max_strings}
use Rattle.contract.specs.Tree.{Expression, constant, string, apply, broken_expression, truth, compare, negation, both, either}
use Rattle.contract.specs.Sizes.{expression_size, condition_size}
use Rattle.contract.specs.Fits.{Scope, holder_in, expression_in, condition_in}
use Rattle.laws.proofs.Truths.{both_true, first_true}
use Rattle.contract.specs.Table.{kind_at, argument_at, size_at, constant_kind, parameter_kind, plus_kind, over_kind, true_kind, false_kind, equal_kind, at_least_kind, not_kind, and_kind, or_kind}
use Rattle.contract.specs.Decode.{operator_of, comparison_of, leaf_of, counts_two, counts_one, expression_at, condition_at}
use Rattle.contract.specs.Check.{ranges, Sort, expression, condition, is_sort, parts_start, whole_from, leaf_ok, is_leaf, whole_ok, node_ok}
use Rattle.contract.proofs.Tests.{ranges_true}
use Rattle.contract_laws.proofs.Levels.{expression_step, condition_step}
use Rattle.contract_laws.proofs.Inversions.{by_test, ranges_of, each_of, Two, two, one, leaf_of_lem, whole_of, kind_of}

-- what holds of the parts of a node with two parts of one sort, and its size
record Pair (w : List ℕ) (from k : ℕ) (P : ℕ → Type 0) : Type 0 where
  left : ℕ
  left_is : k - 1 - size_at w (k - 1) ≡ left
  first : P left
  second : P (k - 1)
  counted : counts_two w k ≡ true
  size : size_at w left + size_at w (k - 1) + 1 ≡ size_at w k
  room : from + size_at w k ≤ k + 1

-- what holds of each node of a sort at a lower number
abbrev Lower : List ℕ → Sort → ℕ → ℕ → (ℕ → Type 0) → Type 0
Lower w sort from k P = (j : ℕ) → from ≤ j → j < k → is_sort sort (kind_at w j) ≡ true → P j

pair : {w : List ℕ} {from k : ℕ} {sort : Sort} (P : ℕ → Type 0) → Two w from k sort sort → Lower w sort from k P → Pair w from k P
unfolding counts_two
pair {w} {from} {k} P t lower =
    let m : t.start + size_at w (t.middle - 1) ≡ t.middle = t.first.starts in
    let n : t.middle + size_at w (k - 1) ≡ k = t.second.starts in
    let c : from < t.middle = t.first.some in
    let d : from < k = t.second.some in
    let g : from ≤ t.start = t.first.room in
    let z : size_at w k + t.start ≡ k + 1 = t.size in
    let l : k - 1 - size_at w (k - 1) ≡ t.middle - 1 = omega arith in
    let u : size_at w (k - 1 - size_at w (k - 1)) ≡ size_at w (t.middle - 1) = ap (size_at w) l in
    record {
      left = t.middle - 1;
      left_is = l;
      first = lower (t.middle - 1) (omega arith) (omega arith) t.first.sorted;
      second = lower (k - 1) (omega arith) (omega arith) t.second.sorted;
      counted = eq-eqb (size_at w k) (suc (size_at w (k - 1 - size_at w (k - 1)) + size_at w (k - 1))) (omega arith);
      size = omega arith;
      room = omega arith;
    }

-- ---- expressions

-- the expression at node k names what there is, and its nodes end at k and start at `from` or later
pub record ExpressionHeld (w : List ℕ) (s : Scope) (from k : ℕ) : Type 0 where
  pub inside : expression_in s (expression_at w k) ≡ true
  pub size : expression_size (expression_at w k) ≡ size_at w k
  pub room : from + size_at w k ≤ k + 1

-- an expression of no parts
record Leaf (s : Scope) (e : Expression) : Type 0 where
  inside : expression_in s e ≡ true
  size : expression_size e ≡ 1

constant_leaf : (s : Scope) (n : ℕ) → leb n top ≡ true → Leaf s (pick (leb n top) (constant n) broken_expression)
unfolding expression_in expression_size
constant_leaf s n e = subst (Leaf s) (sym (pick_true _ _ _ e)) (record { inside = e; size = refl })

string_leaf : (s : Scope) (n : ℕ) → s.strings ≤ max_strings → ltb n s.strings ≡ true → Leaf s (pick (ltb n max_strings) (string n) broken_expression)
unfolding expression_in expression_size
string_leaf s n few e =
    let l : n < s.strings = ltb-true n s.strings e in
    subst (Leaf s) (sym (pick_true _ _ _ (lt-ltb n max_strings (omega arith)))) (record { inside = e; size = refl })

leaf_expression : (s : Scope) (kind n : ℕ) → s.strings ≤ max_strings → constant_kind ≤ kind → kind < plus_kind → leaf_ok s kind n ≡ true → Leaf s (leaf_of kind n)
unfolding leaf_ok leaf_of pick expression_in holder_in expression_size
leaf_expression s kind n few a b =
    each_of (λ kind. leaf_ok s kind n ≡ true → Leaf s (leaf_of kind n)) 1 7 (
      constant_leaf s n,
      (
        string_leaf s n few,
        (
          λ e. record { inside = refl; size = refl },
          (
            λ e. record { inside = e; size = refl },
            (
              λ e. record { inside = e; size = refl },
              (
                λ e. record { inside = e; size = refl },
                (
                  λ e. record { inside = e; size = refl },
                  tt,
                ),
              ),
            ),
          ),
        ),
      ),
    )
    kind a b

operator_parts : (w : List ℕ) (from k kind : ℕ) → plus_kind ≤ kind → kind ≤ over_kind
    → (is_leaf kind ≡ false) × (whole_ok w from k kind ≡ whole_from w k (parts_start w from (expression ∷ expression ∷ []) k))
unfolding is_leaf whole_ok ranges pick
operator_parts w from k kind a b =
    each_of (λ kind. (is_leaf kind ≡ false) × (whole_ok w from k kind ≡ whole_from w k (parts_start w from (expression ∷ expression ∷ []) k))) 8 4
    ((refl, refl), ((refl, refl), ((refl, refl), ((refl, refl), tt))))
    kind a (omega arith)

module _ {w : List ℕ} {s : Scope} {from k : ℕ} (few : s.strings ≤ max_strings) (ok : node_ok w s from k ≡ true) where
  leaf_held : from ≤ k → constant_kind ≤ kind_at w k → kind_at w k < plus_kind → ExpressionHeld w s from k
  unfolding is_leaf
  leaf_held h a b =
      let t = leaf_of_lem w s from k ok (first_true _ (ranges_true constant_kind (kind_at w k) parameter_kind a (omega arith))) in
      let z : size_at w k ≡ 1 = t.1 in
      let l = leaf_expression s (kind_at w k) (argument_at w k) few a b t.0 in
      let q = expression_step w k ∙ pick_true _ _ _ (lt-ltb (kind_at w k) plus_kind b) in
      record {
        inside = ap (expression_in s) q ∙ l.inside;
        size = ap expression_size q ∙ l.size ∙ sym z;
        room = omega arith;
      }

  operator_held : plus_kind ≤ kind_at w k → kind_at w k ≤ over_kind → Lower w expression from k (ExpressionHeld w s from) → ExpressionHeld w s from k
  unfolding expression_in expression_size
  operator_held a b lower =
      let o = operator_parts w from k (kind_at w k) a b in
      let r = pair (ExpressionHeld w s from) (two w from k expression expression (sym o.1 ∙ whole_of w s from k ok o.0)) lower in
      let q =
      expression_step w k
      ∙ pick_false _ _ _ (le-ltb (kind_at w k) plus_kind a)
      ∙ pick_true _ _ _ (le-leb (kind_at w k) over_kind b)
      ∙ pick_true _ _ _ r.counted
      ∙ ap (λ (j : ℕ). apply (operator_of (kind_at w k)) (expression_at w j) (expression_at w (k - 1))) r.left_is in
      record {
        inside = ap (expression_in s) q ∙ both_true _ _ r.first.inside r.second.inside;
        size = ap expression_size q ∙ omega (arith, r.first.size, r.second.size, r.size);
        room = r.room;
      }

  -- by the expressions at lower numbers
  expression_by : from ≤ k → is_sort expression (kind_at w k) ≡ true → Lower w expression from k (ExpressionHeld w s from) → ExpressionHeld w s from k
  unfolding is_sort
  expression_by h e lower =
      let r = ranges_of constant_kind (kind_at w k) over_kind e in
      by_test (ltb (kind_at w k) plus_kind)
      (λ t. leaf_held h r.0 (ltb-true (kind_at w k) plus_kind t))
      λ t. operator_held (ltb-false (kind_at w k) plus_kind t) r.1 lower

-- ---- conditions

pub record ConditionHeld (w : List ℕ) (s : Scope) (from k : ℕ) : Type 0 where
  pub inside : condition_in s (condition_at w k) ≡ true
  pub size : condition_size (condition_at w k) ≡ size_at w k
  pub room : from + size_at w k ≤ k + 1

comparison_parts : (w : List ℕ) (from k kind : ℕ) → equal_kind ≤ kind → kind ≤ at_least_kind
    → (is_leaf kind ≡ false) × (whole_ok w from k kind ≡ whole_from w k (parts_start w from (expression ∷ expression ∷ []) k))
unfolding is_leaf whole_ok ranges pick
comparison_parts w from k kind a b =
    each_of (λ kind. (is_leaf kind ≡ false) × (whole_ok w from k kind ≡ whole_from w k (parts_start w from (expression ∷ expression ∷ []) k))) 14 6
    ((refl, refl), ((refl, refl), ((refl, refl), ((refl, refl), ((refl, refl), ((refl, refl), tt))))))
    kind a (omega arith)

not_parts : (w : List ℕ) (from k : ℕ) → (is_leaf not_kind ≡ false) × (whole_ok w from k not_kind ≡ whole_from w k (parts_start w from (condition ∷ []) k))
unfolding is_leaf whole_ok ranges pick
not_parts w from k = (refl, refl)

and_parts : (w : List ℕ) (from k : ℕ) → (is_leaf and_kind ≡ false) × (whole_ok w from k and_kind ≡ whole_from w k (parts_start w from (condition ∷ condition ∷ []) k))
unfolding is_leaf whole_ok ranges pick
and_parts w from k = (refl, refl)

or_parts : (w : List ℕ) (from k : ℕ) → (is_leaf or_kind ≡ false) × (whole_ok w from k or_kind ≡ whole_from w k (parts_start w from (condition ∷ condition ∷ []) k))
unfolding is_leaf whole_ok ranges pick
or_parts w from k = (refl, refl)

truth_leaf : (is_leaf true_kind ≡ true) × (is_leaf false_kind ≡ true)
unfolding is_leaf ranges
truth_leaf = (refl, refl)

-- what a table gives at a condition of each kind
condition_true : (w : List ℕ) (k : ℕ) → kind_at w k ≡ true_kind → condition_at w k ≡ truth true
condition_true w k d = condition_step w k ∙ pick_true _ _ _ (ap (λ (z : ℕ). eqb z true_kind) d)

condition_false : (w : List ℕ) (k : ℕ) → kind_at w k ≡ false_kind → condition_at w k ≡ truth false
condition_false w k d = condition_step w k ∙ pick_false _ _ _ (ap (λ (z : ℕ). eqb z true_kind) d) ∙ pick_true _ _ _ (ap (λ (z : ℕ). eqb z false_kind) d)

condition_not : (w : List ℕ) (k : ℕ) → counts_one w k ≡ true → kind_at w k ≡ not_kind → condition_at w k ≡ negation (condition_at w (k - 1))
condition_not w k h d =
    condition_step w k
    ∙ pick_false _ _ _ (ap (λ (z : ℕ). eqb z true_kind) d)
    ∙ pick_false _ _ _ (ap (λ (z : ℕ). eqb z false_kind) d)
    ∙ pick_true _ _ _ (ap (λ (z : ℕ). eqb z not_kind) d)
    ∙ pick_true _ _ _ h

condition_and : (w : List ℕ) (k m : ℕ) → counts_two w k ≡ true → k - 1 - size_at w (k - 1) ≡ m → kind_at w k ≡ and_kind → condition_at w k ≡ both (condition_at w m) (condition_at w (k - 1))
condition_and w k m h i d =
    condition_step w k
    ∙ pick_false _ _ _ (ap (λ (z : ℕ). eqb z true_kind) d)
    ∙ pick_false _ _ _ (ap (λ (z : ℕ). eqb z false_kind) d)
    ∙ pick_false _ _ _ (ap (λ (z : ℕ). eqb z not_kind) d)
    ∙ pick_true _ _ _ h
    ∙ pick_true _ _ _ (ap (λ (z : ℕ). eqb z and_kind) d)
    ∙ ap (λ (j : ℕ). both (condition_at w j) (condition_at w (k - 1))) i

condition_or : (w : List ℕ) (k m : ℕ) → counts_two w k ≡ true → k - 1 - size_at w (k - 1) ≡ m → kind_at w k ≡ or_kind → condition_at w k ≡ either (condition_at w m) (condition_at w (k - 1))
condition_or w k m h i d =
    condition_step w k
    ∙ pick_false _ _ _ (ap (λ (z : ℕ). eqb z true_kind) d)
    ∙ pick_false _ _ _ (ap (λ (z : ℕ). eqb z false_kind) d)
    ∙ pick_false _ _ _ (ap (λ (z : ℕ). eqb z not_kind) d)
    ∙ pick_true _ _ _ h
    ∙ pick_false _ _ _ (ap (λ (z : ℕ). eqb z and_kind) d)
    ∙ pick_true _ _ _ (ap (λ (z : ℕ). eqb z or_kind) d)
    ∙ ap (λ (j : ℕ). either (condition_at w j) (condition_at w (k - 1))) i

condition_comparison : (w : List ℕ) (k m : ℕ) → counts_two w k ≡ true → k - 1 - size_at w (k - 1) ≡ m → equal_kind ≤ kind_at w k → kind_at w k ≤ at_least_kind
    → condition_at w k ≡ compare (comparison_of (kind_at w k)) (expression_at w m) (expression_at w (k - 1))
condition_comparison w k m h i a b =
    condition_step w k
    ∙ pick_false _ _ _ (ne_eqb (kind_at w k) true_kind (omega arith))
    ∙ pick_false _ _ _ (ne_eqb (kind_at w k) false_kind (omega arith))
    ∙ pick_false _ _ _ (ne_eqb (kind_at w k) not_kind (omega arith))
    ∙ pick_true _ _ _ h
    ∙ pick_false _ _ _ (ne_eqb (kind_at w k) and_kind (omega arith))
    ∙ pick_false _ _ _ (ne_eqb (kind_at w k) or_kind (omega arith))
    ∙ pick_false _ _ _ (le-ltb (kind_at w k) equal_kind a)
    ∙ pick_false _ _ _ (le-ltb at_least_kind (kind_at w k) b)
    ∙ ap (λ (j : ℕ). compare (comparison_of (kind_at w k)) (expression_at w j) (expression_at w (k - 1))) i

module _ {w : List ℕ} {s : Scope} {from k : ℕ} (ok : node_ok w s from k ≡ true) where
  truth_held : (kind : ℕ) (v : Bool) → is_leaf kind ≡ true → kind_at w k ≡ kind → from ≤ k → condition_at w k ≡ truth v → ConditionHeld w s from k
  unfolding condition_in condition_size
  truth_held kind v l d h q =
      let z : size_at w k ≡ 1 = (leaf_of_lem w s from k ok (ap is_leaf d ∙ l)).1 in
      record {
        inside = ap (condition_in s) q;
        size = ap condition_size q ∙ sym z;
        room = omega arith;
      }

  not_held : kind_at w k ≡ not_kind → Lower w condition from k (ConditionHeld w s from) → ConditionHeld w s from k
  unfolding condition_in condition_size counts_one
  not_held d lower =
      let t = one w from k condition (kind_of w s from k ok not_kind (not_parts w from k) d) in
      let n : t.start + size_at w (k - 1) ≡ k = t.first.starts in
      let c : from < k = t.first.some in
      let g : from ≤ t.start = t.first.room in
      let z : size_at w k + t.start ≡ k + 1 = t.size in
      let x = lower (k - 1) (omega arith) (omega arith) t.first.sorted in
      let q = condition_not w k (eq-eqb (size_at w k) (suc (size_at w (k - 1))) (omega arith)) d in
      record {
        inside = ap (condition_in s) q ∙ x.inside;
        size = ap condition_size q ∙ omega (arith, x.size);
        room = omega arith;
      }

  and_held : kind_at w k ≡ and_kind → Lower w condition from k (ConditionHeld w s from) → ConditionHeld w s from k
  unfolding condition_in condition_size
  and_held d lower =
      let r = pair (ConditionHeld w s from) (two w from k condition condition (kind_of w s from k ok and_kind (and_parts w from k) d)) lower in
      let q = condition_and w k r.left r.counted r.left_is d in
      record {
        inside = ap (condition_in s) q ∙ both_true _ _ r.first.inside r.second.inside;
        size = ap condition_size q ∙ omega (arith, r.first.size, r.second.size, r.size);
        room = r.room;
      }

  or_held : kind_at w k ≡ or_kind → Lower w condition from k (ConditionHeld w s from) → ConditionHeld w s from k
  unfolding condition_in condition_size
  or_held d lower =
      let r = pair (ConditionHeld w s from) (two w from k condition condition (kind_of w s from k ok or_kind (or_parts w from k) d)) lower in
      let q = condition_or w k r.left r.counted r.left_is d in
      record {
        inside = ap (condition_in s) q ∙ both_true _ _ r.first.inside r.second.inside;
        size = ap condition_size q ∙ omega (arith, r.first.size, r.second.size, r.size);
        room = r.room;
      }

  comparison_held : equal_kind ≤ kind_at w k → kind_at w k ≤ at_least_kind → Lower w expression from k (ExpressionHeld w s from) → ConditionHeld w s from k
  unfolding condition_in condition_size
  comparison_held a b lower =
      let o = comparison_parts w from k (kind_at w k) a b in
      let r = pair (ExpressionHeld w s from) (two w from k expression expression (sym o.1 ∙ whole_of w s from k ok o.0)) lower in
      let q = condition_comparison w k r.left r.counted r.left_is a b in
      record {
        inside = ap (condition_in s) q ∙ both_true _ _ r.first.inside r.second.inside;
        size = ap condition_size q ∙ omega (arith, r.first.size, r.second.size, r.size);
        room = r.room;
      }

  -- by the expressions and the conditions at lower numbers
  condition_by : from ≤ k → is_sort condition (kind_at w k) ≡ true → Lower w expression from k (ExpressionHeld w s from) → Lower w condition from k (ConditionHeld w s from)
      → ConditionHeld w s from k
  unfolding is_sort
  condition_by h e x y =
      let r = ranges_of true_kind (kind_at w k) or_kind e in
      let compared : (z : ℕ) → equal_kind ≤ z → z ≤ at_least_kind → kind_at w k ≡ z → ConditionHeld w s from k =
      λ z a b d. comparison_held (omega arith) (omega arith) x in
      each_of (λ z. kind_at w k ≡ z → ConditionHeld w s from k) 12 11 (
        λ d. truth_held true_kind true truth_leaf.0 d h (condition_true w k d),
        (
          λ d. truth_held false_kind false truth_leaf.1 d h (condition_false w k d),
          (
            compared 14 (omega arith) (omega arith),
            (
              compared 15 (omega arith) (omega arith),
              (
                compared 16 (omega arith) (omega arith),
                (
                  compared 17 (omega arith) (omega arith),
                  (
                    compared 18 (omega arith) (omega arith),
                    (
                      compared 19 (omega arith) (omega arith),
                      (
                        λ d. not_held d y,
                        (
                          λ d. and_held d y,
                          (
                            λ d. or_held d y,
                            tt,
                          ),
                        ),
                      ),
                    ),
                  ),
                ),
              ),
            ),
          ),
        ),
      )
      (kind_at w k) r.0 (omega (arith, r.1)) refl

-- ---- nodes in a row

-- the check accepts each node from `from` up to, not including, `end`
pub record Accepted (w : List ℕ) (s : Scope) (from end : ℕ) : Type 0 where
  pub strings_few : s.strings ≤ max_strings
  pub node : (k : ℕ) → from ≤ k → k < end → node_ok w s from k ≡ true

module _ {w : List ℕ} {s : Scope} {from end : ℕ} (ok : Accepted w s from end) where
  expression_within_lem : (f k : ℕ) → k < f → from ≤ k → k < end → is_sort expression (kind_at w k) ≡ true → ExpressionHeld w s from k
  expression_within_lem zero k l h g e = absurd (omega arith)
  expression_within_lem (suc f) k l h g e =
      expression_by ok.strings_few (ok.node k h g) h e λ j a b. expression_within_lem f j (omega arith) a (omega arith)

  pub expression_held : (k : ℕ) → from ≤ k → k < end → is_sort expression (kind_at w k) ≡ true → ExpressionHeld w s from k
  expression_held k h g e = expression_within_lem (suc k) k (omega arith) h g e

  condition_within_lem : (f k : ℕ) → k < f → from ≤ k → k < end → is_sort condition (kind_at w k) ≡ true → ConditionHeld w s from k
  condition_within_lem zero k l h g e = absurd (omega arith)
  condition_within_lem (suc f) k l h g e =
      condition_by (ok.node k h g) h e
      (λ j a b. expression_held j a (omega arith))
      λ j a b. condition_within_lem f j (omega arith) a (omega arith)

  pub condition_held : (k : ℕ) → from ≤ k → k < end → is_sort condition (kind_at w k) ≡ true → ConditionHeld w s from k
  condition_held k h g e = condition_within_lem (suc k) k (omega arith) h g e
