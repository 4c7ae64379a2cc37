-- Tests in a row, as the code makes them. Assumes nothing.
use mathlib.Core.Path.{◌≡◌, refl, sym, ap, subst, ◌∙◌}
use mathlib.Core.Bool.{Bool, true, false, ◌||◌}
use mathlib.Core.List.{List}
use Prim.Native.Nat.{ℕ, zero, suc, ◌<◌, ◌≤◌}
use native.Mathlib.Omega.{arith}
use lib.Dec.{eqb}
use borrow.Author.Tests.{le-leb, eqb-true, eqb-false}
use Rattle.laws.specs.Choice.{pick}
use Rattle.contract.specs.Check.{ranges, clause_below}
use Rattle.contract.specs.Table.{clause_word}
use Rattle.laws.proofs.Truths.{both_true, first_true, second_true}
use Rattle.laws.proofs.Members as members
use Rattle.laws.specs.Lists.{all_below}

pub or_pick : (a b : Bool) → (a || b) ≡ pick a true b
unfolding pick
or_pick true b = refl
or_pick false b = refl

pub ranges_true : (lo n hi : ℕ) → lo ≤ n → n ≤ hi → ranges lo n hi ≡ true
unfolding ranges
ranges_true lo n hi h g = both_true _ _ (le-leb lo n h) (le-leb n hi g)

-- one that is not is enough
pub all_stop : (p : ℕ → Bool) (i n : ℕ) → i < n → p i ≡ false → false ≡ all_below n p
all_stop p i n h e = sym (members.all_stop p n i h e)

pub all_end : (p : ℕ → Bool) (i n : ℕ) → i ≤ n → n ≤ i → all_below i p ≡ true → true ≡ all_below n p
all_end p i n h l e = let q : i ≡ n = omega arith in sym (subst (λ (k : ℕ). all_below k p ≡ true) q e)

-- clause i is of party p
module _ (w : List ℕ) (p : ℕ) where
  pub below_of : (n i : ℕ) → i < n → eqb (clause_word w i 0) p ≡ true → clause_below w n p ≡ true
  unfolding clause_below
  below_of zero i h e = absurd (omega arith)
  below_of (suc n) i h e = go (eqb i n) refl (below_of n i)
    where
      go : (b : Bool) → eqb i n ≡ b → (i < n → eqb (clause_word w i 0) p ≡ true → clause_below w n p ≡ true) → (clause_below w n p || eqb (clause_word w n 0) p) ≡ true
      go true q f = second_true (clause_below w n p) (ap (λ (k : ℕ). eqb (clause_word w k 0) p) (sym (eqb-true i n q)) ∙ e)
      go false q f = let d = eqb-false i n q in first_true _ (f (omega arith) e)
