-- What the check tells of a node that it accepts. Assumes nothing.
use mathlib.Core.Path.{◌≡◌, refl, sym, ap, subst, ◌∙◌}
use mathlib.Core.Bool.{Bool, true, false, ◌&&◌, ◌||◌}
use mathlib.Core.List.{List, [], ◌∷◌}
use Prim.Native.Nat.{ℕ, zero, suc, ◌+◌, ◌-◌, ◌<◌, ◌≤◌}
use native.Mathlib.Omega.{arith}
use lib.Dec.{eqb, leb, ltb}
use borrow.Author.Tests.{ltb-true, ltb-false, leb-true, eqb-true, eqb-false}
use Rattle.laws.proofs.Choice.{pick_true, pick_false, true_false}
use Rattle.contract.specs.Fits.{Scope}
use Rattle.laws.proofs.Truths.{both_left, both_right}
use Rattle.contract.specs.Table.{kind_at, argument_at, size_at}
use Rattle.contract.specs.Check.{ranges, Sort, statement, is_sort, Start, at, nowhere, part_start, parts_start, on_start, whole_from, statement_from, block_ok, leaf_ok, is_leaf, whole_ok, node_ok}

-- ---- tests

pub by_test : {P : Type 0} (t : Bool) → (t ≡ true → P) → (t ≡ false → P) → P
by_test true f g = f refl
by_test false f g = g refl

pub of_either : {P : Type 0} (a b : Bool) → (a || b) ≡ true → (a ≡ true → P) → (b ≡ true → P) → P
of_either true b e f g = f refl
of_either false b e f g = g e

pub ranges_of : (lo n hi : ℕ) → ranges lo n hi ≡ true → (lo ≤ n) × (n ≤ hi)
unfolding ranges
ranges_of lo n hi e = (leb-true lo n (both_left (leb lo n) (leb n hi) e), leb-true n hi (both_right (leb lo n) (leb n hi) e))

-- P lo, P (lo + 1), .. n of them
abbrev pub Each : (ℕ → Type 0) → ℕ → ℕ → Type 0
Each P lo zero = Unit {0}
Each P lo (suc n) = P lo × Each P (suc lo) n

-- what holds of each of some numbers in a row
pub each_of : (P : ℕ → Type 0) (lo n : ℕ) → Each P lo n → (k : ℕ) → lo ≤ k → k < lo + n → P k
each_of P lo zero t k a b = absurd (omega arith)
each_of P lo (suc n) t k a b = go (each_of P (suc lo) n t.1 k)
  where
    go : (suc lo ≤ k → k < suc lo + n → P k) → P k
    go f =
        by_test (eqb k lo) (λ q. subst P (sym (eqb-true k lo q)) t.0) λ q.
        let z : k ≡ lo → ⊥ = eqb-false k lo q in
        f (omega arith) (omega arith)

-- ---- parts

-- the part that ends before node `end` starts at p
pub record Before (w : List ℕ) (from : ℕ) (sort : Sort) (end p : ℕ) : Type 0 where
  pub some : from < end
  pub sorted : is_sort sort (kind_at w (end - 1)) ≡ true
  pub starts : p + size_at w (end - 1) ≡ end
  pub room : from ≤ p

pub at_at : {p q : ℕ} → at p ≡ at q → p ≡ q
at_at e = cc

pub nowhere_at {ℓ} : {X : Type ℓ} {p : ℕ} → nowhere ≡ at p → X
nowhere_at e = let z : ◌≡◌ {A = ℕ} 0 1 = cc in absurd (omega arith)

pub part_before : (w : List ℕ) (from : ℕ) (sort : Sort) (end p : ℕ) → part_start w from sort end ≡ at p → Before w from sort end p
unfolding part_start
part_before w from sort end p e =
    let a = ltb from end in
    let b = is_sort sort (kind_at w (end - 1)) in
    let c = leb (size_at w (end - 1)) (end - from) in
    by_test (a && (b && c)) (λ t.
    let h : from < end = ltb-true from end (both_left a (b && c) t) in
    let l : size_at w (end - 1) ≤ end - from = leb-true (size_at w (end - 1)) (end - from) (both_right b c (both_right a (b && c) t)) in
    let q : end - size_at w (end - 1) ≡ p = at_at (sym (pick_true _ _ _ t) ∙ e) in
    record {
      some = h;
      sorted = both_left b c (both_right a (b && c) t);
      starts = omega arith;
      room = omega arith;
    })
    λ t. nowhere_at (sym (pick_false _ _ _ t) ∙ e)

-- the last of some parts, and the parts before it
pub record Last (w : List ℕ) (from : ℕ) (sort : Sort) (ss : List Sort) (end p : ℕ) : Type 0 where
  pub start : ℕ
  pub last : Before w from sort end start
  pub rest : parts_start w from ss start ≡ at p

pub parts_before : (w : List ℕ) (from : ℕ) (sort : Sort) (ss : List Sort) (end p : ℕ) → parts_start w from (sort ∷ ss) end ≡ at p → Last w from sort ss end p
unfolding parts_start
parts_before w from sort ss end p e = go (part_start w from sort end) refl e
  where
    go : (z : Start) → part_start w from sort end ≡ z → on_start z (parts_start w from ss) ≡ at p → Last w from sort ss end p
    go (at q) d f = record { start = q; last = part_before w from sort end q d; rest = f }
    go nowhere d f = nowhere_at f

pub no_parts : (w : List ℕ) (from end p : ℕ) → parts_start w from [] end ≡ at p → end ≡ p
unfolding parts_start
no_parts w from end p e = at_at e

-- ---- nodes

-- where the parts of a node start that counts them and itself
pub record Counted (w : List ℕ) (k : ℕ) (z : Start) : Type 0 where
  pub start : ℕ
  pub starts : z ≡ at start
  pub size : size_at w k + start ≡ k + 1

pub counted : (w : List ℕ) (k : ℕ) (z : Start) → whole_from w k z ≡ true → Counted w k z
counted w k (at p) e = record { start = p; starts = refl; size = eqb-true (size_at w k + p) (k + 1) e }
counted w k nowhere e = true_false (sym e)

-- two parts and their node
pub record Two (w : List ℕ) (from k : ℕ) (left right : Sort) : Type 0 where
  pub start : ℕ
  pub middle : ℕ
  pub first : Before w from left middle start
  pub second : Before w from right k middle
  pub size : size_at w k + start ≡ k + 1

pub two : (w : List ℕ) (from k : ℕ) (left right : Sort) → whole_from w k (parts_start w from (right ∷ left ∷ []) k) ≡ true → Two w from k left right
two w from k left right e =
    let c = counted w k (parts_start w from (right ∷ left ∷ []) k) e in
    let a = parts_before w from right (left ∷ []) k c.start c.starts in
    let b = parts_before w from left [] a.start c.start a.rest in
    let q : b.start ≡ c.start = no_parts w from b.start c.start b.rest in
    record {
      start = c.start;
      middle = a.start;
      first = subst (Before w from left a.start) q b.last;
      second = a.last;
      size = c.size;
    }

-- one part and its node
pub record One (w : List ℕ) (from k : ℕ) (sort : Sort) : Type 0 where
  pub start : ℕ
  pub first : Before w from sort k start
  pub size : size_at w k + start ≡ k + 1

pub one : (w : List ℕ) (from k : ℕ) (sort : Sort) → whole_from w k (parts_start w from (sort ∷ []) k) ≡ true → One w from k sort
one w from k sort e =
    let c = counted w k (parts_start w from (sort ∷ []) k) e in
    let a = parts_before w from sort [] k c.start c.starts in
    let q : a.start ≡ c.start = no_parts w from a.start c.start a.rest in
    record {
      start = c.start;
      first = subst (Before w from sort k) q a.last;
      size = c.size;
    }

-- a statement whose own parts start at p is the first of its block, or counts the statement before it
pub data Follows (w : List ℕ) (from k p : ℕ) : Type 0 where
  first : size_at w k + p ≡ k + 1 → Follows w from k p
  after : from < p → is_sort statement (kind_at w (p - 1)) ≡ true → size_at w k + p ≡ k + 1 + size_at w (p - 1) → Follows w from k p

pub record Statement (w : List ℕ) (from k : ℕ) (z : Start) : Type 0 where
  pub start : ℕ
  pub starts : z ≡ at start
  pub follows : Follows w from k start

pub statement_of : (w : List ℕ) (from k : ℕ) (z : Start) → statement_from w from k z ≡ true → Statement w from k z
statement_of w from k (at p) e =
    let a = ltb from p in
    let b = is_sort statement (kind_at w (p - 1)) in
    let c = eqb (size_at w k + p) (k + 1 + size_at w (p - 1)) in
    record {
      start = p;
      starts = refl;
      follows =
          of_either (eqb (size_at w k + p) (k + 1)) (a && (b && c)) e
          (λ t. first (eqb-true (size_at w k + p) (k + 1) t))
          λ t. after (ltb-true from p (both_left a (b && c) t)) (both_left b c (both_right a (b && c) t))
          (eqb-true (size_at w k + p) (k + 1 + size_at w (p - 1)) (both_right b c (both_right a (b && c) t)));
    }
statement_of w from k nowhere e = true_false (sym e)

-- a node without parts, and one with parts
pub leaf_of_lem : (w : List ℕ) (s : Scope) (from k : ℕ) → node_ok w s from k ≡ true → is_leaf (kind_at w k) ≡ true
    → (leaf_ok s (kind_at w k) (argument_at w k) ≡ true) × (size_at w k ≡ 1)
unfolding node_ok
leaf_of_lem w s from k e l =
    let a = leaf_ok s (kind_at w k) (argument_at w k) in
    let b = eqb (size_at w k) 1 in
    let t : (a && b) ≡ true = sym (pick_true _ _ _ l) ∙ e in
    (both_left a b t, eqb-true (size_at w k) 1 (both_right a b t))

pub whole_of : (w : List ℕ) (s : Scope) (from k : ℕ) → node_ok w s from k ≡ true → is_leaf (kind_at w k) ≡ false → whole_ok w from k (kind_at w k) ≡ true
unfolding node_ok
whole_of w s from k e l = sym (pick_false _ _ _ l) ∙ e

-- what the check asks of a node of this kind, which has parts
pub kind_of : (w : List ℕ) (s : Scope) (from k : ℕ) → node_ok w s from k ≡ true → {b : Bool} (kind : ℕ) → (is_leaf kind ≡ false) × (whole_ok w from k kind ≡ b)
    → kind_at w k ≡ kind → b ≡ true
kind_of w s from k e kind o d = sym o.1 ∙ ap (whole_ok w from k) (sym d) ∙ whole_of w s from k e (ap is_leaf d ∙ o.0)

-- a block in the nodes from p up to, not including, `end`: none, or its last statement counts them all
pub data Closed (w : List ℕ) (p end : ℕ) : Type 0 where
  empty : p ≡ end → Closed w p end
  closed : p < end → is_sort statement (kind_at w (end - 1)) ≡ true → size_at w (end - 1) + p ≡ end → Closed w p end

pub block_of_lem : (w : List ℕ) (p end n : ℕ) → p + n ≡ end → block_ok w end n ≡ true → Closed w p end
unfolding block_ok
block_of_lem w p end n q e =
    let a = is_sort statement (kind_at w (end - 1)) in
    let b = eqb (size_at w (end - 1)) n in
    by_test (eqb n 0) (λ t. let z : n ≡ 0 = eqb-true n 0 t in empty (omega arith)) λ t.
    let z : n ≡ 0 → ⊥ = eqb-false n 0 t in
    of_either (eqb n 0) (a && b) e (λ u. true_false (sym u ∙ t)) λ u.
    let y : size_at w (end - 1) ≡ n = eqb-true (size_at w (end - 1)) n (both_right a b u) in
    closed (omega arith) (both_left a b u) (omega arith)

-- the block before a statement that counts the nodes from p on
pub block_before : (w : List ℕ) (from k p q : ℕ) → size_at w k + p ≡ k + 1 → Follows w from k q → (p ≤ q) × Closed w p q
block_before w from k p q h (first e) =
    let z : p ≡ q = omega arith in
    (omega arith, empty z)
block_before w from k p q h (after l s e) =
    let y : size_at w (q - 1) + p ≡ q = omega arith in
    (omega arith, by_test (ltb p q) (λ t. closed (ltb-true p q t) s y) λ t. let z : q ≤ p = ltb-false p q t in empty (omega arith))
