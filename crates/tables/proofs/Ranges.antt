-- A party's clause among the first n. Assumes nothing.
use Rattle.std.proofs.Common.{◌≡◌, ℕ, zero, suc, Bool, ◌||◌, List, refl, ap}
use lib.Dec.{eqb}
use Rattle.laws.proofs.Ranges.{any_below}
use Rattle.contract.specs.Table.{clause_word}
use Rattle.contract.specs.Check.{clause_below}

pub any_clause : (w : List ℕ) (n p : ℕ) → any_below n (λ i. eqb (clause_word w i 0) p) ≡ clause_below w n p
unfolding clause_below
any_clause w zero p = refl
any_clause w (suc n) p = ap (λ (b : Bool). b || eqb (clause_word w n 0) p) (any_clause w n p)
