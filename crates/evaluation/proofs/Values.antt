-- What values are: of a field, of a node without parts, and of an operator's node. Assumes nothing.
use mathlib.Core.Path.{◌≡◌, refl, sym, ap, subst, ◌∙◌}
use mathlib.Core.Bool.{Bool, true, false}
use mathlib.Core.List.{List}
use Prim.Native.Nat.{ℕ, ◌-◌, ◌<◌, ◌≤◌}
use native.Mathlib.Omega.{arith}
use borrow.Author.Tests.{lt-ltb, le-ltb, le-leb, lt-leb}
use Rattle.std.specs.Prelude.{Result, Ok, Err}
use Rattle.laws.specs.Choice.{pick}
use Rattle.questions.specs.declared.Question.{Question}
use Rattle.questions.specs.declared.Question.TheVariants as ask
use Rattle.laws.proofs.Choice.{pick_true, pick_false, by_cases}
use Rattle.numbers.specs.declared.Value.{Value}
use Rattle.numbers.specs.Numbers.{Answer, applied}
use Rattle.numbers.specs.declared.Operator.{Operator}
use Rattle.contract.specs.Tree.{apply, broken_expression}
use Rattle.contract.specs.declared.Node.{Node}
use Rattle.contract.specs.Rows.{node_of}
use Rattle.contract.specs.Table.{kind_at}
use Rattle.contract.specs.Decode.{counts_two, operator_of, leaf_of, expression_at}
use Rattle.contract_laws.proofs.Levels.{two_some, expression_step}
use Rattle.evaluation.specs.Memory.{Memory}
use Rattle.evaluation.specs.Meaning.{joined, value_of}
use Rattle.evaluation.specs.Private.{left_at, left_from}

-- a function of a choice
pub pick_ap : {A B : Type 0} (f : A → B) (b : Bool) (x y : A) → f (pick b x y) ≡ pick b (f x) (f y)
unfolding pick
pick_ap f true x y = refl
pick_ap f false x y = refl

-- ---- what `left_of` says of node k
pub record Counted (w : List ℕ) (k j : ℕ) : Type 0 where
  pub two : counts_two w k ≡ true
  pub left : j ≡ left_at w k
  pub below : j < k

abbrev Told : List ℕ → ℕ → Result ℕ Question → Type 0
Told w k (Err q) = (counts_two w k ≡ false) × (q ≡ ask.TableCheck)
Told w k (Ok j) = Counted w k j

told : (w : List ℕ) (k : ℕ) → Told w k (left_from w k)
unfolding left_from
told w k =
    by_cases (Told w k) (counts_two w k) (Ok (left_at w k)) (Err ask.TableCheck)
    (λ t. let h : 0 < k = two_some w k t in record { two = t; left = refl; below = omega arith }) (λ t. (t, refl))

pub is_counted : (w : List ℕ) (k j : ℕ) (o : Result ℕ Question) → o ≡ left_from w k → o ≡ Ok j → Counted w k j
is_counted w k j o e q = subst (Told w k) (sym e ∙ q) (told w k)

pub is_uncounted : (w : List ℕ) (k : ℕ) (q : Question) (o : Result ℕ Question) → o ≡ left_from w k → o ≡ Err q → (counts_two w k ≡ false) × (q ≡ ask.TableCheck)
is_uncounted w k p o e q = subst (Told w k) (sym e ∙ q) (told w k)

-- ---- a node
module _ (m : Memory) (w : List ℕ) (k : ℕ) (n : Node) (e : n ≡ node_of w k) where
  pub leaf_at : (r : Answer) → n.kind < 8 → r ≡ value_of m (leaf_of n.kind n.argument) → r ≡ value_of m (expression_at w k)
  leaf_at r h q =
      q ∙ ap (λ (x : Node). value_of m (leaf_of x.kind x.argument)) e
      ∙ sym (ap (value_of m) (expression_step w k ∙ pick_true _ _ _ (lt-ltb _ _ (subst (λ (x : Node). x.kind < 8) e h))))

  pub beyond_at : 11 < n.kind → Err ask.TableCheck ≡ value_of m (expression_at w k)
  unfolding value_of
  beyond_at h =
      let g : 11 < kind_at w k = subst (λ (x : Node). 11 < x.kind) e h in
      sym (ap (value_of m) (expression_step w k ∙ pick_false _ _ _ (le-ltb (kind_at w k) 8 (omega arith)) ∙ pick_false _ _ _ (lt-leb _ _ g)))

-- an operator's node, of this kind
module _ (m : Memory) (w : List ℕ) (k kind : ℕ) (e : kind ≡ kind_at w k) (h : 8 ≤ kind) (h' : kind ≤ 11) where
  operator : expression_at w k ≡ pick (counts_two w k) (apply (operator_of (kind_at w k)) (expression_at w (left_at w k)) (expression_at w (k - 1))) broken_expression
  operator =
      expression_step w k ∙ pick_false _ _ _ (le-ltb _ _ (subst (λ (x : ℕ). 8 ≤ x) e h))
      ∙ pick_true _ _ _ (le-leb _ _ (subst (λ (x : ℕ). x ≤ 11) e h'))

  pub uncounted_at : counts_two w k ≡ false → Err ask.TableCheck ≡ value_of m (expression_at w k)
  unfolding value_of
  uncounted_at u = sym (ap (value_of m) (operator ∙ pick_false _ _ _ u))

  -- whose left part ends at node j and gives x
  module _ (j : ℕ) (x : Answer) (c : Counted w k j) (ex : x ≡ value_of m (expression_at w j)) where
    joined_at : (y : Answer) → y ≡ value_of m (expression_at w (k - 1)) → value_of m (expression_at w k) ≡ joined (operator_of kind) x y
    unfolding value_of
    joined_at y ey =
        ap (value_of m) (operator ∙ pick_true _ _ _ c.two)
        ∙ sym (λ i. joined (operator_of (e i)) ((ex ∙ ap (λ (v : ℕ). value_of m (expression_at w v)) c.left) i) (ey i))

    pub refused_left : (a : Question) → x ≡ Err a → x ≡ value_of m (expression_at w k)
    refused_left a ax =
        let y = value_of m (expression_at w (k - 1)) in
        ax ∙ sym (ap (λ (v : Answer). joined (operator_of kind) v y) ax) ∙ sym (joined_at y refl)

    pub refused_right : (y : Answer) (a : Value) (b : Question) → x ≡ Ok a → y ≡ Err b → y ≡ value_of m (expression_at w (k - 1)) → y ≡ value_of m (expression_at w k)
    refused_right y a b ax ay ey = ay ∙ sym (λ i. joined (operator_of kind) (ax i) (ay i)) ∙ sym (joined_at y ey)

    pub applied_both : (y r : Answer) (a b : Value) (o : Operator) → x ≡ Ok a → y ≡ Ok b → y ≡ value_of m (expression_at w (k - 1))
        → o ≡ operator_of kind → r ≡ applied o a b → r ≡ value_of m (expression_at w k)
    applied_both y r a b o ax ay ey eo er = er ∙ sym (λ i. joined (sym eo i) (ax i) (ay i)) ∙ sym (joined_at y ey)
