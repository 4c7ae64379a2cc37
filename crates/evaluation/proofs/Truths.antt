-- What truths are: of a comparison, below `~`s in a row, and of two parts joined. Assumes nothing.
use mathlib.Core.Path.{◌≡◌, refl, sym, ap, subst, ◌∙◌}
use mathlib.Core.Bool.{Bool, true, false, not}
use mathlib.Core.List.{List}
use Prim.Native.Nat.{ℕ, zero, suc, ◌-◌, ◌<◌, ◌≤◌}
use native.Mathlib.Omega.{arith}
use native.Mathlib.Numerals.{sub-one}
use lib.Dec.{eqb, ltb}
use borrow.Author.Tests.{eqb-true, eqb-false, ltb-false, ne_eqb, eq-eqb, lt-ltb, le-ltb}
use Rattle.std.specs.Prelude.{Ok, Err}
use Rattle.laws.specs.Choice.{pick}
use Rattle.questions.specs.declared.Question.{Question}
use Rattle.questions.specs.declared.Question.TheVariants as ask
use Rattle.laws.proofs.Choice.{pick_true, pick_false, by_cases, true_false}
use Rattle.numbers.specs.Numbers.{Answer, Truth, compared}
use Rattle.numbers.specs.declared.Value.{Value}
use Rattle.numbers.specs.declared.Comparison.{Comparison}
use Rattle.contract.specs.declared.Node.{Node}
use Rattle.contract.specs.Rows.{node_of}
use Rattle.contract.specs.Tree.{Condition, compare, negation, both, either, broken_condition}
use Rattle.contract.specs.Table.{kind_at}
use Rattle.contract.specs.Decode.{counts_two, counts_one, comparison_of, expression_at, condition_at}
use Rattle.contract_laws.proofs.Levels.{one_some, condition_step}
use Rattle.evaluation.specs.declared.Run.{Run}
use Rattle.evaluation.specs.Memory.{Memory}
use Rattle.evaluation.specs.Meaning.{value_of, comparison, negated, conjunction, disjunction, truth_of}
use Rattle.evaluation.specs.Private.{left_at, compared_at, simple_at, negates_at, run_from, turned_by}
use Rattle.evaluation.proofs.Values.{pick_ap, Counted}

-- ---- a comparison
module _ (m : Memory) (w : List ℕ) (k : ℕ) (n : Node) (e : n ≡ node_of w k) where
  pub compared_uncounted : counts_two w k ≡ false → Err ask.TableCheck ≡ compared_at m w k
  unfolding compared_at
  compared_uncounted u = sym (pick_false _ _ _ u)

-- whose left part ends at node j and gives x
module _ (m : Memory) (w : List ℕ) (k : ℕ) (node : Node) (e : node ≡ node_of w k) (j : ℕ) (x : Answer) (c : Counted w k j)
    (ex : x ≡ value_of m (expression_at w j)) where
  whole : (y : Answer) → y ≡ value_of m (expression_at w (k - 1)) → comparison (comparison_of (kind_at w k)) x y ≡ compared_at m w k
  unfolding compared_at
  whole y ey =
      (λ i. comparison (comparison_of (kind_at w k)) ((ex ∙ ap (λ (q : ℕ). value_of m (expression_at w q)) c.left) i) (ey i)) ∙ sym (pick_true _ _ _ c.two)

  pub compared_left : (q : Question) → x ≡ Err q → Err q ≡ compared_at m w k
  compared_left q ax =
      let y = value_of m (expression_at w (k - 1)) in
      sym (ap (λ (v : Answer). comparison (comparison_of (kind_at w k)) v y) ax) ∙ whole y refl

  pub compared_right : (y : Answer) (a : Value) (q : Question) → x ≡ Ok a → y ≡ Err q → y ≡ value_of m (expression_at w (k - 1))
      → Err q ≡ compared_at m w k
  compared_right y a q ax ay ey = sym (λ i. comparison (comparison_of (kind_at w k)) (ax i) (ay i)) ∙ whole y ey

  pub compared_both : (y : Answer) (a b : Value) (o : Comparison) (r : Truth) → x ≡ Ok a → y ≡ Ok b
      → y ≡ value_of m (expression_at w (k - 1)) → o ≡ comparison_of node.kind → r ≡ compared o a b → r ≡ compared_at m w k
  compared_both y a b o r ax ay ey eo er =
      er ∙ sym (λ i. comparison (sym (eo ∙ ap (λ (v : Node). comparison_of v.kind) e) i) (ax i) (ay i)) ∙ whole y ey

-- ---- a node
pub pick_same : {A : Type 0} (b : Bool) (x : A) → pick b x x ≡ x
unfolding pick
pick_same true x = refl
pick_same false x = refl

-- a condition with two parts, conditions or expressions
abbrev two_parts : List ℕ → ℕ → Condition
two_parts w k =
    pick (eqb (kind_at w k) 21) (both (condition_at w (left_at w k)) (condition_at w (k - 1)))
    (pick (eqb (kind_at w k) 22) (either (condition_at w (left_at w k)) (condition_at w (k - 1)))
    (pick (ltb (kind_at w k) 14) broken_condition
    (pick (ltb 19 (kind_at w k)) broken_condition
    (compare (comparison_of (kind_at w k)) (expression_at w (left_at w k)) (expression_at w (k - 1))))))

-- neither true nor false nor `~`
past_others : (w : List ℕ) (k : ℕ) → (kind_at w k ≡ 12 → ⊥) → (kind_at w k ≡ 13 → ⊥) → (kind_at w k ≡ 20 → ⊥)
    → condition_at w k ≡ pick (counts_two w k) (two_parts w k) broken_condition
past_others w k f g h =
    condition_step w k ∙ pick_false _ _ _ (ne_eqb (kind_at w k) 12 f) ∙ pick_false _ _ _ (ne_eqb (kind_at w k) 13 g) ∙ pick_false _ _ _ (ne_eqb (kind_at w k) 20 h)

-- `~`
at_not : (w : List ℕ) (k : ℕ) → kind_at w k ≡ 20 → condition_at w k ≡ pick (counts_one w k) (negation (condition_at w (k - 1))) broken_condition
at_not w k q =
    condition_step w k ∙ pick_false _ _ _ (ne_eqb (kind_at w k) 12 (λ i. omega arith)) ∙ pick_false _ _ _ (ne_eqb (kind_at w k) 13 (λ i. omega arith))
    ∙ pick_true _ _ _ (eq-eqb (kind_at w k) 20 q)

-- a kind of no condition
broken_at : (w : List ℕ) (k : ℕ) → (kind_at w k ≡ 12 → ⊥) → (kind_at w k ≡ 13 → ⊥) → (kind_at w k ≡ 20 → ⊥) → two_parts w k ≡ broken_condition → condition_at w k ≡ broken_condition
broken_at w k f g h e = past_others w k f g h ∙ ap (λ (c : Condition). pick (counts_two w k) c broken_condition) e ∙ pick_same (counts_two w k) broken_condition

-- a kind that is neither `&&` nor `||`
no_parts : (w : List ℕ) (k : ℕ) → (kind_at w k ≡ 21 → ⊥) → (kind_at w k ≡ 22 → ⊥)
    → two_parts w k ≡ pick (ltb (kind_at w k) 14) broken_condition (pick (ltb 19 (kind_at w k)) broken_condition (compare (comparison_of (kind_at w k)) (expression_at w (left_at w k)) (expression_at w (k - 1))))
no_parts w k b c = pick_false _ _ _ (ne_eqb (kind_at w k) 21 b) ∙ pick_false _ _ _ (ne_eqb (kind_at w k) 22 c)

-- a kind from 21 to 22 that is not 21
last_kind : (i : ℕ) → 21 ≤ i → i ≤ 22 → (i ≡ 21 → ⊥) → i ≡ 22
last_kind i h h' g = omega arith

-- a left side that decides `&&` (b), else `||`, and one that doesn't
alone : (b a : Bool) (y : Truth) → pick b (not a) a ≡ true → Ok a ≡ pick b (conjunction (Ok a) y) (disjunction (Ok a) y)
unfolding pick
alone true true y h = true_false (sym h)
alone true false y h = refl
alone false true y h = refl
alone false false y h = true_false (sym h)

passed_on : (b a : Bool) (y : Truth) → pick b (not a) a ≡ false → y ≡ pick b (conjunction (Ok a) y) (disjunction (Ok a) y)
unfolding pick
passed_on true true y h = refl
passed_on true false y h = true_false h
passed_on false true y h = true_false h
passed_on false false y h = refl

module _ (m : Memory) (w : List ℕ) (k : ℕ) (n : Node) (e : n ≡ node_of w k) where
  kind_is : n.kind ≡ kind_at w k
  kind_is = ap (λ (x : Node). x.kind) e

  simple_is : (t : Truth) → kind_at w k < 20 → truth_of m (condition_at w k) ≡ t → t ≡ simple_at m w k
  unfolding simple_at
  simple_is t h q = sym (pick_true _ _ _ (lt-ltb (kind_at w k) 20 h) ∙ q)

  pub simple_low : (n.kind ≡ 12 → ⊥) → (n.kind ≡ 13 → ⊥) → n.kind < 14 → Err ask.TableCheck ≡ simple_at m w k
  unfolding truth_of
  simple_low f g h =
      let q = kind_is in
      simple_is (Err ask.TableCheck) (omega arith)
      (ap (truth_of m) (broken_at w k (λ z. f (q ∙ z)) (λ z. g (q ∙ z)) (λ z. omega arith)
      (no_parts w k (λ z. omega arith) (λ z. omega arith) ∙ pick_true _ _ _ (lt-ltb (kind_at w k) 14 (omega arith)))))

  pub simple_compared : (t : Truth) → 14 ≤ n.kind → n.kind ≤ 19 → t ≡ compared_at m w k → t ≡ simple_at m w k
  unfolding truth_of compared_at
  simple_compared t h h' c =
      let q = kind_is in
      simple_is t (omega arith)
      (ap (truth_of m) (past_others w k (λ y. omega arith) (λ y. omega arith) (λ y. omega arith)
      ∙ ap (λ (c : Condition). pick (counts_two w k) c broken_condition) (no_parts w k (λ y. omega arith) (λ y. omega arith)
      ∙ pick_false _ _ _ (le-ltb (kind_at w k) 14 (omega arith)) ∙ pick_false _ _ _ (le-ltb 19 (kind_at w k) (omega arith))))
      ∙ pick_ap (truth_of m) (counts_two w k) _ _ ∙ sym c)

  -- what `simple` gives of a node where a run of `~` ends
  pub simple_at_lem : (t : Truth) → n.kind < 21 → negates_at w k ≡ false → t ≡ simple_at m w k → t ≡ truth_of m (condition_at w k)
  unfolding simple_at negates_at truth_of
  simple_at_lem t h p s =
      s ∙ by_cases (λ (u : Truth). u ≡ truth_of m (condition_at w k)) _ _ _ (λ z. refl)
      λ z.
      let q : kind_at w k ≡ 20 = let i = kind_is in let l = ltb-false (kind_at w k) 20 z in omega arith in
      sym (ap (truth_of m) (at_not w k q ∙ pick_false _ _ _ (sym (pick_true _ _ _ (eq-eqb (kind_at w k) 20 q)) ∙ p)))

  pub beyond_at : 22 < n.kind → Err ask.TableCheck ≡ truth_of m (condition_at w k)
  unfolding truth_of
  beyond_at h =
      let q = kind_is in
      sym (ap (truth_of m) (broken_at w k (λ z. omega arith) (λ z. omega arith) (λ z. omega arith)
      (no_parts w k (λ z. omega arith) (λ z. omega arith) ∙ pick_false _ _ _ (le-ltb (kind_at w k) 14 (omega arith)) ∙ pick_true _ _ _ (lt-ltb 19 (kind_at w k) (omega arith)))))

  pub uncounted_at : 21 ≤ n.kind → counts_two w k ≡ false → Err ask.TableCheck ≡ truth_of m (condition_at w k)
  unfolding truth_of
  uncounted_at h u =
      let q = kind_is in
      sym (ap (truth_of m) (past_others w k (λ y. omega arith) (λ y. omega arith) (λ y. omega arith) ∙ pick_false _ _ _ u))

  -- `&&` or `||`, whose left part ends at node j and gives x
  module _ (j : ℕ) (x : Truth) (h : 21 ≤ n.kind) (h' : n.kind ≤ 22) (c : Counted w k j) (ex : x ≡ truth_of m (condition_at w j)) where
    -- the two truths, joined
    abbrev junction : Truth → Truth
    junction y = pick (eqb n.kind 21) (conjunction x y) (disjunction x y)

    joined_at : (y : Truth) → y ≡ truth_of m (condition_at w (k - 1)) → truth_of m (condition_at w k) ≡ junction y
    unfolding truth_of
    joined_at y ey =
        let q = kind_is in
        let start = past_others w k (λ i. omega arith) (λ i. omega arith) (λ i. omega arith) ∙ pick_true _ _ _ c.two in
        let xs = ex ∙ ap (λ (i : ℕ). truth_of m (condition_at w i)) c.left in
        by_cases (λ (t : Truth). truth_of m (condition_at w k) ≡ t) (eqb n.kind 21) (conjunction x y) (disjunction x y)
        (λ s. ap (truth_of m) (start ∙ pick_true _ _ _ (eq-eqb _ _ (sym q ∙ eqb-true _ _ s))) ∙ sym (λ i. conjunction (xs i) (ey i)))
        (λ s.
        let u = eqb-false n.kind 21 s in
        ap (truth_of m) (start ∙ pick_false _ _ _ (ne_eqb (kind_at w k) 21 (λ i. u (q ∙ i))) ∙ pick_true _ _ _ (eq-eqb (kind_at w k) 22 (sym q ∙ last_kind n.kind h h' u)))
        ∙ sym (λ i. disjunction (xs i) (ey i)))

    -- where the left side gives v, and the whole z by that
    by_left : (v y z : Truth) → x ≡ v → y ≡ truth_of m (condition_at w (k - 1)) → z ≡ pick (eqb n.kind 21) (conjunction v y) (disjunction v y)
        → z ≡ truth_of m (condition_at w k)
    by_left v y z ev ey ez = ez ∙ sym (λ i. pick (eqb n.kind 21) (conjunction (ev i) y) (disjunction (ev i) y)) ∙ sym (joined_at y ey)

    pub refused_left : (q : Question) → x ≡ Err q → x ≡ truth_of m (condition_at w k)
    refused_left q ax = ax ∙ by_left (Err q) _ (Err q) ax refl (sym (pick_same (eqb n.kind 21) (Err q)))

    pub left_decides : (a d : Bool) → x ≡ Ok a → d ≡ pick (eqb n.kind 21) (not a) a → d ≡ true → Ok a ≡ truth_of m (condition_at w k)
    left_decides a d ax ed t = by_left (Ok a) _ (Ok a) ax refl (alone (eqb n.kind 21) a _ (sym ed ∙ t))

    pub right_decides : (a d : Bool) (y : Truth) → x ≡ Ok a → d ≡ pick (eqb n.kind 21) (not a) a → d ≡ false → y ≡ truth_of m (condition_at w (k - 1))
        → y ≡ truth_of m (condition_at w k)
    right_decides a d y ax ed t ey = by_left (Ok a) y y ax ey (passed_on (eqb n.kind 21) a y (sym ed ∙ t))

-- ---- `~`s in a row
turn_twice : (odd : Bool) (t : Truth) → turned_by odd (negated t) ≡ turned_by (not odd) t
turn_twice true (Ok true) = refl
turn_twice true (Ok false) = refl
turn_twice true (Err n) = refl
turn_twice false t = refl

-- what a run says of the node where it starts
pub record Below (w : List ℕ) (k : ℕ) (odd : Bool) (r : Run) : Type 0 where
  pub means : (m : Memory) → turned_by odd (truth_of m (condition_at w k)) ≡ turned_by r.odd (truth_of m (condition_at w r.end))
  pub low : r.end ≤ k
  pub plain : negates_at w r.end ≡ false

-- a `~` that counts its part
negates_kind : (w : List ℕ) (k : ℕ) → negates_at w k ≡ true → (kind_at w k ≡ 20) × (counts_one w k ≡ true)
unfolding negates_at
negates_kind w k e = go (eqb (kind_at w k) 20) refl
  where
    go : (b : Bool) → eqb (kind_at w k) 20 ≡ b → (kind_at w k ≡ 20) × (counts_one w k ≡ true)
    go true q = (eqb-true _ _ q, sym (pick_true _ _ _ q) ∙ e)
    go false q = true_false (sym e ∙ pick_false _ _ _ q)

first_plain : (w : List ℕ) (b : Bool) → negates_at w 0 ≡ b → b ≡ false
first_plain w true e = absurd (omega (arith, one_some w 0 (negates_kind w 0 e).1))
first_plain w false e = refl

below_more : (w : List ℕ) (k : ℕ) (odd : Bool) (r : Run) → negates_at w (suc k) ≡ true → Below w k (not odd) r → Below w (suc k) odd r
unfolding truth_of
below_more w k odd r q b =
    let h = negates_kind w (suc k) q in
    let e = at_not w (suc k) h.0 ∙ pick_true _ _ _ h.1 in
    record {
      means = λ m.
          ap (λ (c : Condition). turned_by odd (truth_of m c)) e ∙ turn_twice odd (truth_of m (condition_at w (suc k - 1)))
          ∙ ap (λ (j : ℕ). turned_by (not odd) (truth_of m (condition_at w j))) (sub-one (suc k)) ∙ b.means m;
      low = omega (arith, b.low);
      plain = b.plain;
    }

below : (w : List ℕ) (k : ℕ) (odd : Bool) → Below w k odd (run_from w k odd)
unfolding run_from
below w zero odd = record { means = λ m. refl; low = omega arith; plain = first_plain w (negates_at w 0) refl }
below w (suc k) odd =
    by_cases (Below w (suc k) odd) _ _ _
    (λ q. below_more w k odd _ q (below w k (not odd)))
    (λ q. record { means = λ m. refl; low = omega arith; plain = q })

pub run_below : (w : List ℕ) (k : ℕ) (r : Run) → r ≡ run_from w k false → Below w k false r
run_below w k r e = subst (Below w k false) (sym e) (below w k false)

-- what the node below the `~`s gives, turned
pub turned_below : (m : Memory) (w : List ℕ) (k : ℕ) (r : Run) → r ≡ run_from w k false → (s t : Truth)
    → s ≡ turned_by r.odd t → t ≡ truth_of m (condition_at w r.end) → s ≡ truth_of m (condition_at w k)
turned_below m w k r e s t q h = q ∙ ap (turned_by r.odd) h ∙ sym ((run_below w k r e).means m)

-- a refusal stays
pub stays : (odd : Bool) (t : Truth) (n : Question) → t ≡ Err n → t ≡ turned_by odd t
stays true t n q = q ∙ sym (ap negated q)
stays false t n q = refl

pub refused_below : (m : Memory) (w : List ℕ) (k : ℕ) (r : Run) → r ≡ run_from w k false → (t : Truth) (n : Question)
    → t ≡ Err n → t ≡ truth_of m (condition_at w r.end) → t ≡ truth_of m (condition_at w k)
refused_below m w k r e t n q h = turned_below m w k r e t t (stays r.odd t n q) h
