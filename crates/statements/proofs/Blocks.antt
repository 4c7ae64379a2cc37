-- What a block does by its last node: the block before its last statement, then that statement. Assumes nothing.
use mathlib.Core.Path.{◌≡◌, refl, sym, ap, ◌∙◌}
use mathlib.Core.Bool.{Bool, true, false}
use mathlib.Core.List.{List}
use Prim.Native.Nat.{ℕ, ◌-◌, ◌<◌, ◌≤◌}
use native.Mathlib.Omega.{arith}
use lib.IntN.{ℤ}
use lib.Dec.{eqb, ltb}
use borrow.Author.Tests.{le-leb, lt-leb, le-ltb, eq-eqb, ne_eqb, eqb-true, eqb-false, ltb-false, leb-true}
use Rattle.std.specs.Prelude.{Option, None, Some, is_none, Ok, Err}
use Rattle.laws.specs.Choice.{pick}
use Rattle.questions.specs.declared.Question.{Question}
use Rattle.questions.specs.declared.Question.TheVariants as ask
use Rattle.laws.proofs.Choice.{pick_true, pick_false, true_false}
use Rattle.numbers.specs.Numbers.{Truth}
use Rattle.contract.specs.Tree.{perform, conditional, broken_block}
use Rattle.contract.specs.Table.{kind_at, argument_at, size_at}
use Rattle.contract.specs.Rows.{node_of}
use Rattle.contract.specs.declared.Node.{Node}
use Rattle.contract.specs.Decode.{block_between, condition_at}
use Rattle.contract_laws.proofs.Levels.{block_step}
use Rattle.evaluation.specs.Meaning.{truth_of}
use Rattle.statements.specs.Running.{Work, memory_in, stopped, onward, performed, by_truth, ran, work_from}
use Rattle.statements.specs.Blocks.{end_before, action_at, statement_at}
use Rattle.statements.specs.Private.{branched, performed_at}

-- the block before the statement at node k ends there or before
pub before_falls : (w : List ℕ) (k : ℕ) → end_before w k ≤ k
unfolding end_before pick
before_falls w k = go (eqb (kind_at w k) 24) (eqb (kind_at w k) 25) (eqb (kind_at w k) 26)
  where
    go : (a b c : Bool)
        → pick a (k - 1 - size_at w (k - 2))
        (pick b (k - 2 - size_at w (k - 3)) (pick c (k - 2) (k - argument_at w k - size_at w (k - argument_at w k - 1))))
        ≤ k
    go true b c = omega arith
    go false true c = omega arith
    go false false true = omega arith
    go false false false = omega arith

-- ---- the block of the nodes from `from` up to, not including, end

module _ (w : List ℕ) (from end : ℕ) (h : from < end) where
  abbrev k : ℕ
  k = end - 1

  pub broken : (kind_at w k ≡ 24 → ⊥) → (kind_at w k ≡ 25 → ⊥) → (kind_at w k ≡ 26 → ⊥) → (kind_at w k ≡ 27 → ⊥) → block_between w from end ≡ broken_block
  broken a b c d =
      block_step w from end
      ∙ pick_false _ _ _ (lt-leb end from h)
      ∙ pick_false _ _ _ (ne_eqb (kind_at w k) 24 a)
      ∙ pick_false _ _ _ (ne_eqb (kind_at w k) 25 b)
      ∙ pick_false _ _ _ (ne_eqb (kind_at w k) 26 c)
      ∙ pick_false _ _ _ (ne_eqb (kind_at w k) 27 d)

  value_last : kind_at w k ≡ 24 → block_between w from end ≡ perform (block_between w from (end_before w k)) (action_at w k)
  unfolding end_before action_at pick
  value_last e = block_step w from end ∙ simp (lt-leb end from h, eq-eqb (kind_at w k) 24 e)

  asset_last : kind_at w k ≡ 25 → block_between w from end ≡ perform (block_between w from (end_before w k)) (action_at w k)
  unfolding end_before action_at pick
  asset_last e = block_step w from end ∙ simp (lt-leb end from h, ne_eqb (kind_at w k) 24 (λ q. omega arith), eq-eqb (kind_at w k) 25 e)

  whole_last : kind_at w k ≡ 26 → block_between w from end ≡ perform (block_between w from (end_before w k)) (action_at w k)
  unfolding end_before action_at pick
  whole_last e =
      block_step w from end
      ∙ simp
      (lt-leb end from h, ne_eqb (kind_at w k) 24 (λ q. omega arith), ne_eqb (kind_at w k) 25 (λ q. omega arith), eq-eqb (kind_at w k) 26 e)

  pub action_last : 24 ≤ kind_at w k → kind_at w k < 27 → block_between w from end ≡ perform (block_between w from (end_before w k)) (action_at w k)
  action_last l u = go (eqb (kind_at w k) 24) refl (eqb (kind_at w k) 25) refl
    where
      go : (a : Bool) → eqb (kind_at w k) 24 ≡ a → (b : Bool) → eqb (kind_at w k) 25 ≡ b
          → block_between w from end ≡ perform (block_between w from (end_before w k)) (action_at w k)
      go true p b q = value_last (eqb-true _ _ p)
      go false p true q = asset_last (eqb-true _ _ q)
      go false p false q =
          let m : kind_at w k ≡ 24 → ⊥ = eqb-false _ _ p in
          let n : kind_at w k ≡ 25 → ⊥ = eqb-false _ _ q in
          whole_last (omega arith)

  pub conditional_last : kind_at w k ≡ 27
      → block_between w from end
      ≡ conditional (block_between w from (end_before w k)) (condition_at w (k - argument_at w k - 1)) (block_between w (k - argument_at w k) k)
  unfolding end_before pick
  conditional_last e =
      block_step w from end
      ∙ simp
      (lt-leb end from h, ne_eqb (kind_at w k) 24 (λ q. omega arith), ne_eqb (kind_at w k) 25 (λ q. omega arith), ne_eqb (kind_at w k) 26 (λ q. omega arith), eq-eqb (kind_at w k) 27 e)

-- ---- running it

-- before the first statement, which must start where the block does
pub ran_none : (g : ℕ → ℕ) (v : List ℤ) (c : ℕ) (x : Work) (w : List ℕ) (from end : ℕ) → end ≤ from → (o : Option Question)
    → o ≡ pick (eqb end from) None (Some ask.TableCheck)
    → work_from x.kinds x.numbers x.texts x.holdings x.labels x.count o ≡ ran g v c (work_from x.kinds x.numbers x.texts x.holdings x.labels x.count None) (block_between w from end)
unfolding ran
ran_none g v c x w from end h o eo = ap ended eo ∙ go (eqb end from) refl
  where
    ended : Option Question → Work
    ended o = work_from x.kinds x.numbers x.texts x.holdings x.labels x.count o

    go : (b : Bool) → eqb end from ≡ b → ended (pick (eqb end from) None (Some ask.TableCheck)) ≡ ran g v c (ended None) (block_between w from end)
    go true e =
        ap ended (pick_true _ _ _ e)
        ∙ sym (ap (ran g v c (ended None)) (block_step w from end ∙ pick_true _ _ _ (le-leb end from h) ∙ pick_true _ _ _ e))
    go false e =
        ap ended (pick_false _ _ _ e)
        ∙ sym (ap (ran g v c (ended None)) (block_step w from end ∙ pick_true _ _ _ (le-leb end from h) ∙ pick_false _ _ _ e))

-- ---- where a statement ends

pub from_first : (w : List ℕ) (j : ℕ) → statement_at w j ≡ true → 24 ≤ kind_at w j
unfolding statement_at
from_first w j e = go (ltb (kind_at w j) 24) refl
  where
    go : (a : Bool) → ltb (kind_at w j) 24 ≡ a → 24 ≤ kind_at w j
    go true p = true_false (sym e ∙ pick_true _ _ _ p)
    go false p = ltb-false _ _ p

pub to_last : (w : List ℕ) (j : ℕ) → statement_at w j ≡ true → kind_at w j ≤ 27
unfolding statement_at
to_last w j e = go (ltb (kind_at w j) 24) refl
  where
    go : (a : Bool) → ltb (kind_at w j) 24 ≡ a → kind_at w j ≤ 27
    go true p = true_false (sym e ∙ pick_true _ _ _ p)
    go false p = leb-true _ _ (sym (pick_false _ _ _ p) ∙ e)

pub not_within : (w : List ℕ) (j n : ℕ) → statement_at w j ≡ false → 24 ≤ n → n ≤ 27 → kind_at w j ≡ n → ⊥
unfolding statement_at
not_within w j n e l u q =
    true_false
    (sym (le-leb (kind_at w j) 27 (omega (arith, q, u))) ∙ sym (pick_false _ _ _ (le-ltb (kind_at w j) 24 (omega (arith, q, l)))) ∙ e)

-- ---- the last statement of a block

module _ (g : ℕ → ℕ) (v : List ℤ) (c : ℕ) (x : Work) (w : List ℕ) (from end : ℕ) (h : from < end) where
  -- what the last statement does with a work
  abbrev last : Work → Work
  last y = performed_at g v c y w (end - 1)

  pub ran_broken : statement_at w (end - 1) ≡ false → stopped x ask.TableCheck ≡ ran g v c x (block_between w from end)
  unfolding ran
  ran_broken e =
      sym
      (ap (ran g v c x)
      (broken w from end h
      (not_within w (end - 1) 24 e (omega arith) (omega arith))
      (not_within w (end - 1) 25 e (omega arith) (omega arith))
      (not_within w (end - 1) 26 e (omega arith) (omega arith))
      (not_within w (end - 1) 27 e (omega arith) (omega arith))))

  module _ (s : statement_at w (end - 1) ≡ true) (j : ℕ) (ej : j ≡ end_before w (end - 1)) (y : Work) (ey : y ≡ ran g v c x (block_between w from j)) where
    before : y ≡ ran g v c x (block_between w from (end_before w (end - 1)))
    before = ey ∙ ap (λ (m : ℕ). ran g v c x (block_between w from m)) ej

    ran_last : onward y last ≡ ran g v c x (block_between w from end)
    unfolding ran branched performed_at
    ran_last = go (eqb (kind_at w (end - 1)) 27) refl
      where
        go : (b : Bool) → eqb (kind_at w (end - 1)) 27 ≡ b
            → onward y last ≡ ran g v c x (block_between w from end)
        go true e =
            (λ i.
            onward (before i)
            (λ z.
            pick_true (eqb (kind_at w (end - 1)) 27) (branched g v c z w (end - 1 - argument_at w (end - 1)) (end - 1))
            (performed g v c z (action_at w (end - 1))) e i))
            ∙ sym (ap (ran g v c x) (conditional_last w from end h (eqb-true _ _ e)))
        go false e =
            let n : kind_at w (end - 1) ≡ 27 → ⊥ = eqb-false _ _ e in
            let l : 24 ≤ kind_at w (end - 1) = from_first w (end - 1) s in
            let u : kind_at w (end - 1) ≤ 27 = to_last w (end - 1) s in
            (λ i.
            onward (before i)
            (λ z.
            pick_false (eqb (kind_at w (end - 1)) 27) (branched g v c z w (end - 1 - argument_at w (end - 1)) (end - 1))
            (performed g v c z (action_at w (end - 1))) e i))
            ∙ sym (ap (ran g v c x) (action_last w from end h l (omega arith)))

    pub ran_refused : (q : Question) → y.refusal ≡ Some q → y ≡ ran g v c x (block_between w from end)
    unfolding onward
    ran_refused q e = sym (pick_false _ _ _ (ap is_none e)) ∙ ran_last

    -- what goes on starts with no refusal
    pub ran_on : y.refusal ≡ None → performed_at g v c y w (end - 1) ≡ ran g v c x (block_between w from end)
    unfolding onward
    ran_on e = sym (pick_true _ _ _ (ap is_none e)) ∙ ran_last

-- ---- the statement at node k

module _ (g : ℕ → ℕ) (v : List ℤ) (c : ℕ) (y : Work) (w : List ℕ) (k : ℕ) (node : Node) (en : node ≡ node_of w k) where
  same_kind : node.kind ≡ kind_at w k
  same_kind = λ i. (en i).kind

  pub one_action : (node.kind ≡ 27 → ⊥) → performed g v c y (action_at w k) ≡ performed_at g v c y w k
  unfolding performed_at
  one_action n = sym (pick_false _ _ _ (ne_eqb (kind_at w k) 27 (λ q. n (same_kind ∙ q))))

  pub one_branch : node.kind ≡ 27 → (x first : ℕ) → x ≡ argument_at w k → first ≡ k - x → branched g v c y w first k ≡ performed_at g v c y w k
  unfolding performed_at
  one_branch q x first ex ef =
      ap (λ (i : ℕ). branched g v c y w i k) (ef ∙ (λ i. k - ex i))
      ∙ sym (pick_true _ _ _ (eq-eqb (kind_at w k) 27 (sym same_kind ∙ q)))

-- ---- the conditional at node k whose block starts at node first

module _ (g : ℕ → ℕ) (v : List ℤ) (c : ℕ) (y : Work) (w : List ℕ) (first k : ℕ) (m : ℕ) (em : m ≡ first - 1)
    (a : Truth) (ea : a ≡ truth_of (memory_in v c y) (condition_at w m)) where
  by_truth_lem : (b : Truth) → a ≡ b → by_truth y b (ran g v c y (block_between w first k)) ≡ branched g v c y w first k
  unfolding branched
  by_truth_lem b z =
      ap (λ (d : Truth). by_truth y d (ran g v c y (block_between w first k)))
      (sym z ∙ ea ∙ ap (λ (n : ℕ). truth_of (memory_in v c y) (condition_at w n)) em)

  pub branch_stopped : (q : Question) → a ≡ Err q → stopped y q ≡ branched g v c y w first k
  branch_stopped q z = by_truth_lem (Err q) z

  pub branch_held : (b : Bool) → a ≡ Ok b → b ≡ true → ran g v c y (block_between w first k) ≡ branched g v c y w first k
  branch_held b z t = by_truth_lem (Ok true) (z ∙ ap Ok t)

  pub branch_skipped : (b : Bool) → a ≡ Ok b → b ≡ false → y ≡ branched g v c y w first k
  branch_skipped b z t = by_truth_lem (Ok false) (z ∙ ap Ok t)
