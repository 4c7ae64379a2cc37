-- Two lists of bytes compared place by place. Assumes nothing.
use Rattle.std.proofs.Common.{◌≡◌, refl, sym, ap, ◌∙◌, ℕ, List, [], ◌∷◌, Bool, true, false, ◌&&◌, length, arith}
use lib.ListN.{get_or}
use lib.Dec.{eqb}
use Rattle.laws.specs.Choice.{pick}
use Rattle.laws.specs.Bytes.{same_bytes}
use Rattle.laws.specs.Lists.{all_below}
use Rattle.laws.proofs.Ranges.{first_others}

same_both : (a b : Bool) → pick a b false ≡ (a && b)
unfolding pick
same_both true b = refl
same_both false b = refl

pub same_places : (a b : List ℕ) → length a ≡ length b → same_bytes a b ≡ all_below (length a) (λ i. eqb (get_or a i 0) (get_or b i 0))
unfolding same_bytes all_below
same_places [] [] e = refl
same_places [] (y ∷ ys) e = absurd (omega arith)
same_places (x ∷ xs) [] e = absurd (omega arith)
same_places (x ∷ xs) (y ∷ ys) e =
    same_both (eqb x y) (same_bytes xs ys)
    ∙ ap (λ (t : Bool). eqb x y && t) (same_places xs ys (omega arith))
    ∙ sym (first_others (λ i. eqb (get_or (x ∷ xs) i 0) (get_or (y ∷ ys) i 0)) (length xs))
