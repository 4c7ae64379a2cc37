-- What a holder holds. Assumes nothing.
use mathlib.Core.Path.{◌≡◌, refl, sym, ap, ◌∙◌}
use mathlib.Core.Bool.{Bool, true, false}
use mathlib.Core.List.{List}
use Prim.Native.Nat.{ℕ, ◌<◌, ◌≤◌}
use native.Mathlib.Omega.{arith}
use lib.ListN.{length, get_or, get_or-eq_default}
use lib.Dec.{leb}
use borrow.Author.Tests.{leb-true, leb-false}
use Rattle.contract.specs.Tree.{Holder}
use Rattle.evaluation.specs.Memory.{place_of}
use Rattle.statements.specs.Running.{place}

-- what a holder holds: past the last place, 0
pub held_is : (l : List ℕ) (h : Holder) → length l ≡ 20 → get_or l (place h) 0 ≡ get_or l (place_of h) 0
held_is l h e = go (leb (place_of h) 20) refl
  where
    go : (b : Bool) → leb (place_of h) 20 ≡ b → get_or l (place h) 0 ≡ get_or l (place_of h) 0
    go true f = let k : place_of h ≤ 20 = leb-true _ _ f in ap (λ (i : ℕ). get_or l i 0) (omega arith)
    go false f =
        let k : 20 < place_of h = leb-false _ _ f in
        get_or-eq_default l 0 (omega arith) ∙ sym (get_or-eq_default l 0 (omega arith))
