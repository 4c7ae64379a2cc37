-- Which parties have a clause, in a contract and in a table. Assumes nothing.
use mathlib.Core.Path.{◌≡◌, sym}
use mathlib.Core.Bool.{true}
use mathlib.Core.List.{List, [], ◌∷◌}
use Prim.Native.Nat.{ℕ, zero, suc, ◌<◌}
use native.Mathlib.Omega.{arith}
use lib.ListN.{length, get_or}
use lib.Dec.{eqb}
use Rattle.laws.proofs.Choice.{true_false}
use Rattle.laws.proofs.Truths.{first_true, second_true, either_true}
use Rattle.contract.specs.Tree.{Clause}
use Rattle.contract.specs.Fits.{has_clause}
use Rattle.contract.specs.Table.{clause_word}
use Rattle.contract.specs.Check.{clause_below}

-- clause i is of party p
pub has_of : (ks : List Clause) (p i : ℕ) → i < length ks → (d : Clause) → eqb (get_or ks i d).party p ≡ true → has_clause ks p ≡ true
unfolding has_clause
has_of [] p i h d e = absurd (omega arith)
has_of (k ∷ ks) p zero h d e = first_true _ e
has_of (k ∷ ks) p (suc i) h d e = second_true (eqb k.party p) (has_of ks p i (omega arith) d e)

-- some clause is
pub has_at : {X : Type 0} (ks : List Clause) (p : ℕ) (d : Clause) → has_clause ks p ≡ true
    → ((i : ℕ) → i < length ks → eqb (get_or ks i d).party p ≡ true → X) → X
unfolding has_clause
has_at [] p d e f = true_false (sym e)
has_at (k ∷ ks) p d e f =
    either_true (eqb k.party p) (has_clause ks p) e (λ t. f 0 (omega arith) t) λ t. has_at ks p d t λ i h g. f (suc i) (omega arith) g

module _ (w : List ℕ) where
  -- the same of the first n rows
  pub below_has : {X : Type 0} (n p : ℕ) → clause_below w n p ≡ true → ((i : ℕ) → i < n → eqb (clause_word w i 0) p ≡ true → X) → X
  unfolding clause_below
  below_has zero p e f = true_false (sym e)
  below_has (suc n) p e f =
      either_true (clause_below w n p) (eqb (clause_word w n 0) p) e
      (λ t. below_has n p t λ i h g. f i (omega arith) g)
      λ t. f n (omega arith) t
