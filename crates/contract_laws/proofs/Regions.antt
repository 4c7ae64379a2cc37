-- Nodes in a row that the check accepts, and parts that end before a node. Assumes nothing.
use mathlib.Core.Path.{◌≡◌, refl, sym, ap, subst, ◌∙◌}
use mathlib.Core.Bool.{Bool, true, false}
use mathlib.Core.List.{List, [], ◌∷◌, ◌++◌}
use Prim.Native.Nat.{ℕ, zero, suc, ◌+◌, ◌-◌, ◌*◌, ◌<◌, ◌≤◌}
use native.Mathlib.Omega.{arith}
use native.Mathlib.Nat.{add-zero, add-suc, add_assoc}
use lib.ListN.{length}
use lib.Dec.{eqb, ltb}
use borrow.Author.Tests.{ltb-true, ltb-false, lt-ltb, le-leb, eq-eqb}
use Rattle.laws.specs.Choice.{pick}
use Rattle.laws.proofs.Choice.{pick_true, pick_false}
use Rattle.contract.specs.Fits.{Scope}
use Rattle.laws.proofs.Truths.{both_true, first_true, second_true}
use Rattle.contract.specs.Table.{kind_at, size_at}
use Rattle.contract.specs.Check.{Sort, statement, is_sort, Start, at, part_start, parts_start, on_start, whole_from, statement_from, block_ok, leaf_ok, is_leaf, whole_ok, node_ok, statements_in}
use Rattle.contract_laws.proofs.Stands.{first_part, moved}
use Rattle.contract_laws.proofs.Sections.{Nodes, nodes_after, NodeIs}

-- ---- where nodes stand

-- words of m nodes, words of n nodes, and what follows them
pub record Rows (w : List ℕ) (k m n : ℕ) (x y z : List ℕ) : Type 0 where
  pub first : Nodes w k x
  pub second : Nodes w (k + m) y
  pub rest : Nodes w (k + (m + n)) z

pub rows : {w : List ℕ} (k m n : ℕ) (x y z : List ℕ) → length x ≡ m * 3 → length y ≡ n * 3 → Nodes w k (x ++ (y ++ z)) → Rows w k m n x y z
rows {w} k m n x y z a b d =
    let l : Nodes w (k + m) (y ++ z) = nodes_after k x (y ++ z) m a d in
    record {
      first = first_part x (y ++ z) d;
      second = first_part y z l;
      rest = moved (omega arith) (nodes_after (k + m) y z n b l);
    }

-- ---- nodes in a row

-- n nodes from k on, with t statements among them
pub record Region (w : List ℕ) (s : Scope) (from k n t : ℕ) : Type 0 where
  pub each : (j : ℕ) → j < n → node_ok w s from (k + j) ≡ true
  pub counted : statements_in w k n ≡ t

counted_more : (b : Bool) (x y z : ℕ) → x ≡ y + z → pick b (suc x) x ≡ y + pick b (suc z) z
unfolding pick
counted_more true x y z e = omega arith
counted_more false x y z e = e

pub statements_append : (w : List ℕ) (k m n : ℕ) → statements_in w k (m + n) ≡ statements_in w k m + statements_in w (k + m) n
unfolding statements_in
statements_append w k m zero = ap (statements_in w k) (add-zero m) ∙ sym (add-zero (statements_in w k m))
statements_append w k m (suc n) =
    ap (statements_in w k) (add-suc m n)
    ∙ ap (λ (j : ℕ). pick (is_sort statement (kind_at w j)) (suc (statements_in w k (m + n))) (statements_in w k (m + n))) (sym (add_assoc k m n))
    ∙ counted_more (is_sort statement (kind_at w (k + m + n))) (statements_in w k (m + n)) (statements_in w k m) (statements_in w (k + m) n) (statements_append w k m n)

-- the same nodes, counted another way
pub same_region : {w : List ℕ} {s : Scope} {from k n t n₂ t₂ : ℕ} → n ≡ n₂ → t ≡ t₂ → Region w s from k n t → Region w s from k n₂ t₂
same_region {w} {s} {from} {k} {n} {t} {n₂} {t₂} e f r = subst (λ (m : ℕ). Region w s from k m t₂) e (subst (λ (u : ℕ). Region w s from k n u) f r)

pub empty : {w : List ℕ} {s : Scope} {from k : ℕ} → Region w s from k 0 0
unfolding statements_in
empty = record { each = λ j h. absurd (omega arith); counted = refl }

pub join : {w : List ℕ} {s : Scope} {from k m t n u : ℕ} → Region w s from k m t → Region w s from (k + m) n u → Region w s from k (m + n) (t + u)
join {w} {s} {from} {k} {m} {t} {n} {u} a b =
    record {
      each = λ j h. go j h (ltb j m) refl;
      counted = statements_append w k m n ∙ (λ i. a.counted i + b.counted i);
    }
  where
    go : (j : ℕ) → j < m + n → (v : Bool) → ltb j m ≡ v → node_ok w s from (k + j) ≡ true
    go j h true e = a.each j (ltb-true j m e)
    go j h false e =
        let l : m ≤ j = ltb-false j m e in
        let q : k + m + (j - m) ≡ k + j = omega arith in
        subst (λ (i : ℕ). node_ok w s from i ≡ true) q (b.each (j - m) (omega arith))

one_counted : (w : List ℕ) (k : ℕ) (v : Bool) → is_sort statement (kind_at w k) ≡ v → statements_in w k 1 ≡ pick v 1 0
unfolding statements_in
one_counted w k v e = ap (λ (b : Bool). pick b 1 0) (ap (λ (j : ℕ). is_sort statement (kind_at w j)) (add-zero k) ∙ e)

-- a node that is a statement, or is none
pub one : {w : List ℕ} {s : Scope} {from k : ℕ} (v : Bool) → node_ok w s from k ≡ true → is_sort statement (kind_at w k) ≡ v → Region w s from k 1 (pick v 1 0)
one {w} {s} {from} {k} v e f =
    record {
      each = λ j h. let q : k ≡ k + j = omega arith in subst (λ (i : ℕ). node_ok w s from i ≡ true) q e;
      counted = one_counted w k v f;
    }

-- ---- parts

-- n nodes from p on, the last of which is of this sort and counts them all
pub record Part (w : List ℕ) (sort : Sort) (p n : ℕ) : Type 0 where
  pub sorted : is_sort sort (kind_at w (p + n - 1)) ≡ true
  pub sized : size_at w (p + n - 1) ≡ n
  pub some : 1 ≤ n

-- the last node of n + 1 nodes
pub part_of : {w : List ℕ} {sort : Sort} (p n : ℕ) {kind argument : ℕ} → NodeIs w (p + n) kind argument (n + 1) → is_sort sort kind ≡ true → Part w sort p (n + 1)
part_of {w} {sort} p n {kind} {argument} d e =
    let q : p + n ≡ p + (n + 1) - 1 = omega arith in
    record {
      sorted = subst (λ (i : ℕ). is_sort sort (kind_at w i) ≡ true) q (ap (is_sort sort) d.kind ∙ e);
      sized = subst (λ (i : ℕ). size_at w i ≡ n + 1) q d.size;
      some = omega arith;
    }

module _ {w : List ℕ} {sort : Sort} {p n : ℕ} (from : ℕ) (h : from ≤ p) (d : Part w sort p n) where
  pub part_start_lem : part_start w from sort (p + n) ≡ at p
  unfolding part_start
  part_start_lem =
      let l : 1 ≤ n = d.some in
      let e : size_at w (p + n - 1) ≡ n = d.sized in
      let q : p + n - size_at w (p + n - 1) ≡ p = omega arith in
      pick_true _ _ _ (both_true _ _ (lt-ltb from (p + n) (omega arith)) (both_true _ _ d.sorted (le-leb (size_at w (p + n - 1)) (p + n - from) (omega arith))))
      ∙ ap at q

  pub parts_start_lem : (ss : List Sort) → parts_start w from (sort ∷ ss) (p + n) ≡ parts_start w from ss p
  unfolding parts_start
  parts_start_lem ss = ap (λ (z : Start). on_start z (parts_start w from ss)) part_start_lem

pub parts_end : (w : List ℕ) (from end : ℕ) → parts_start w from [] end ≡ at end
unfolding parts_start
parts_end w from end = refl

-- ---- kinds of nodes

pub leaf_node : {w : List ℕ} {k kind argument : ℕ} (s : Scope) (from : ℕ) → NodeIs w k kind argument 1 → is_leaf kind ≡ true → leaf_ok s kind argument ≡ true → node_ok w s from k ≡ true
unfolding node_ok
leaf_node {w} {k} s from d e f =
    pick_true _ _ _ (ap is_leaf d.kind ∙ e)
    ∙ both_true _ _ ((λ i. leaf_ok s (d.kind i) (d.argument i)) ∙ f) (eq-eqb (size_at w k) 1 d.size)

pub whole_node : {w : List ℕ} {k kind argument size : ℕ} (s : Scope) (from : ℕ) → NodeIs w k kind argument size → is_leaf kind ≡ false → whole_ok w from k kind ≡ true → node_ok w s from k ≡ true
unfolding node_ok
whole_node {w} {k} s from d e f =
    pick_false _ _ _ (ap is_leaf d.kind ∙ e) ∙ ap (whole_ok w from k) d.kind ∙ f

-- a part of this sort that starts at k, whose nodes the check accepts
pub record Formed (w : List ℕ) (s : Scope) (from k n : ℕ) (sort : Sort) : Type 0 where
  pub region : Region w s from k n 0
  pub part : Part w sort k n

pub leaf_formed : {w : List ℕ} {k kind argument : ℕ} (s : Scope) (from : ℕ) (sort : Sort) → NodeIs w k kind argument 1 → is_leaf kind ≡ true → is_sort statement kind ≡ false → is_sort sort kind ≡ true → leaf_ok s kind argument ≡ true → Formed w s from k 1 sort
unfolding pick
leaf_formed {w} {k} {kind} {argument} s from sort d e g h f =
    let q : k ≡ k + 0 = omega arith in
    let d₀ : NodeIs w (k + 0) kind argument 1 = subst (λ (i : ℕ). NodeIs w i kind argument 1) q d in
    record {
      region = one false (leaf_node s from d e f) (ap (is_sort statement) d.kind ∙ g);
      part = part_of k 0 d₀ h;
    }

-- the kind of an expression or a condition with parts of these sorts
pub record Whole (w : List ℕ) (from k kind : ℕ) (sort : Sort) (parts : List Sort) : Type 0 where
  pub no_leaf : is_leaf kind ≡ false
  pub no_statement : is_sort statement kind ≡ false
  pub of_sort : is_sort sort kind ≡ true
  pub of_parts : whole_ok w from k kind ≡ whole_from w k (parts_start w from parts k)

-- a node whose parts take the n nodes before it
pub whole_formed : {w : List ℕ} {s : Scope} {from k n kind argument : ℕ} {sort : Sort} {parts : List Sort} → Region w s from k n 0 → NodeIs w (k + n) kind argument (n + 1)
    → Whole w from (k + n) kind sort parts → parts_start w from parts (k + n) ≡ at k → Formed w s from k (n + 1) sort
unfolding pick
whole_formed {w} {s} {from} {k} {n} {kind} r d o e =
    let z : size_at w (k + n) ≡ n + 1 = d.size in
    let l : whole_ok w from (k + n) kind ≡ true = o.of_parts ∙ ap (whole_from w (k + n)) e ∙ eq-eqb (size_at w (k + n) + k) (k + n + 1) (omega arith) in
    record {
      region = join r (one false (whole_node s from d o.no_leaf l) (ap (is_sort statement) d.kind ∙ o.no_statement));
      part = part_of k n d o.of_sort;
    }

-- where two parts in a row start
pub two_start : {w : List ℕ} {from k m n : ℕ} {first second : Sort} → from ≤ k → Part w first k m → Part w second (k + m) n
    → parts_start w from (second ∷ first ∷ []) (k + (m + n)) ≡ at k
two_start {w} {from} {k} {m} {n} {first} {second} h a b =
    let l : from ≤ k + m = omega arith in
    let q : k + (m + n) ≡ k + m + n = omega arith in
    ap (parts_start w from (second ∷ first ∷ [])) q ∙ parts_start_lem from l b (first ∷ []) ∙ parts_start_lem from h a [] ∙ parts_end w from k

-- the node that takes them
pub two_formed : {w : List ℕ} {s : Scope} {from k m n kind argument : ℕ} {first second sort : Sort} → from ≤ k
    → Formed w s from k m first → Formed w s from (k + m) n second → NodeIs w (k + (m + n)) kind argument (m + n + 1)
    → Whole w from (k + (m + n)) kind sort (second ∷ first ∷ []) → Formed w s from k (m + n + 1) sort
two_formed h a b d o = whole_formed (join a.region b.region) d o (two_start h a.part b.part)

-- ---- statements

-- a block of n nodes from k on: none, or its last statement counts them all
pub data Ended (w : List ℕ) (k n : ℕ) : Type 0 where
  nothing : n ≡ 0 → Ended w k n
  counts : Part w statement k n → Ended w k n

pub ended_ok : {w : List ℕ} {k n : ℕ} → Ended w k n → block_ok w (k + n) n ≡ true
unfolding block_ok
ended_ok {w} {k} {n} (nothing e) = first_true _ (eq-eqb n 0 e)
ended_ok {w} {k} {n} (counts d) = second_true (eqb n 0) (both_true _ _ d.sorted (eq-eqb (size_at w (k + n - 1)) n d.sized))

-- a statement of n parts after a block of m nodes
pub statement_ok : {w : List ℕ} {k m : ℕ} (from n : ℕ) → from ≤ k → Ended w k m → size_at w (k + m + n) ≡ m + n + 1 → statement_from w from (k + m + n) (at (k + m)) ≡ true
statement_ok {w} {k} {m} from n h (nothing e) f =
    first_true _ (eq-eqb (size_at w (k + m + n) + (k + m)) (k + m + n + 1) (omega arith))
statement_ok {w} {k} {m} from n h (counts d) f =
    let l : 1 ≤ m = d.some in
    let z : size_at w (k + m - 1) ≡ m = d.sized in
    second_true (eqb (size_at w (k + m + n) + (k + m)) (k + m + n + 1))
    (both_true _ _ (lt-ltb from (k + m) (omega arith))
    (both_true _ _ d.sorted (eq-eqb (size_at w (k + m + n) + (k + m)) (k + m + n + 1 + size_at w (k + m - 1)) (omega arith))))

-- a block of n nodes from k on, with t statements
pub record Blocked (w : List ℕ) (s : Scope) (from k n t : ℕ) : Type 0 where
  pub region : Region w s from k n t
  pub ended : Ended w k n

pub same_block : {w : List ℕ} {s : Scope} {from k n t n₂ t₂ : ℕ} → n ≡ n₂ → t ≡ t₂ → Blocked w s from k n t → Blocked w s from k n₂ t₂
same_block {w} {s} {from} {k} {n} {t} {n₂} {t₂} e f r = subst (λ (m : ℕ). Blocked w s from k m t₂) e (subst (λ (u : ℕ). Blocked w s from k n u) f r)

-- the parts of a statement of this kind in the n nodes from k on, with u statements among them
pub record Parts (w : List ℕ) (s : Scope) (from k n u kind : ℕ) : Type 0 where
  pub region : Region w s from k n u
  pub of_parts : whole_ok w from (k + n) kind ≡ statement_from w from (k + n) (at k)

pub statement_formed : {w : List ℕ} {s : Scope} {from k m n t u kind argument : ℕ} → from ≤ k → Blocked w s from k m t → Parts w s from (k + m) n u kind
    → NodeIs w (k + (m + n)) kind argument (m + (n + 1)) → is_leaf kind ≡ false → is_sort statement kind ≡ true → Blocked w s from k (m + (n + 1)) (t + (u + 1))
unfolding pick
statement_formed {w} {s} {from} {k} {m} {n} {t} {u} {kind} {argument} h b p d e f =
    let q : k + (m + n) ≡ k + m + n = omega arith in
    let v : m + (n + 1) ≡ m + n + 1 = omega arith in
    let g : NodeIs w (k + m + n) kind argument (m + (n + 1)) = subst (λ (i : ℕ). NodeIs w i kind argument (m + (n + 1))) q d in
    let z : size_at w (k + m + n) ≡ m + n + 1 = g.size ∙ v in
    let l : node_ok w s from (k + m + n) ≡ true = whole_node s from g e (p.of_parts ∙ statement_ok from n h b.ended z) in
    let c : Part w statement k (m + n + 1) = part_of k (m + n) (subst (λ (i : ℕ). NodeIs w (k + (m + n)) kind argument i) v d) f in
    record {
      region = join b.region (join p.region (one true l (ap (is_sort statement) g.kind ∙ f)));
      ended = counts (subst (λ (i : ℕ). Part w statement k i) (sym v) c);
    }
