-- How many `~`s stand in a row at a node: what comes down from it and counts them reaches the end of the run. Assumes nothing.
use mathlib.Core.Path.{◌≡◌, refl, sym, ap, subst, ◌∙◌}
use mathlib.Core.Bool.{Bool, true, false, not, cond}
use mathlib.Core.List.{List, [], ◌∷◌}
use Prim.Native.Nat.{ℕ, zero, suc, ◌+◌, ◌-◌, ◌%◌}
use native.Mathlib.Omega.{arith}
use native.Mathlib.Numerals.{add-one}
use lib.Dec.{eqb}
use lib.ListN.{length, take}
use Rattle.std.specs.Prelude.{Option}
use Rattle.std.specs.List.{prefix_len}
use Rattle.std.specs.Iterator.Adapters.{rev_source, rev_steps}
use Rattle.std.specs.declared.ops.Range.{Range}
use Rattle.std.specs.declared.iter.Rev.{Rev}
use Rattle.std.specs.Range.{range_steps_back}
use Rattle.std.proofs.lemmas.Iterator.{YieldsList}
use Rattle.std.proofs.lemmas.Iterator.Splits.{YieldsList-from_shown_while}
use Rattle.std.proofs.lemmas.List.Folds.{length-prefix_len}
use Rattle.laws.specs.Choice.{pick}
use Rattle.laws.proofs.Choice.{pick_true, pick_false}
use Rattle.evaluation.specs.declared.Run.{Run}
use Rattle.evaluation.specs.Private.{negates_at, run_from}

-- the numbers below n, the greatest first
pub down : ℕ → List ℕ
down zero = []
down (suc n) = n ∷ down n

-- a step of a range's iterator from the back
abbrev pub Comes : Range ℕ → Option ℕ → Range ℕ → Type 0
Comes = range_steps_back (λ a b. b - a) (λ a b. b ≡ a + 1)

none_left : (n : ℕ) → n ≡ 0 → length (down n) ≡ 0
unfolding down
none_left n e = ap (λ m. length (down m)) e

-- a range from 0 gives them from the back
pub from_back : {s : Rev (Range ℕ)} (k : ℕ) → rev_source s ≡ record { start = 0; end = k } → YieldsList (rev_steps Comes) (λ x. x) s (down k)
unfolding down
from_back {s} k e =
    subst (λ (r : Range ℕ). YieldsList (rev_steps Comes) (λ x. x) s (down r.end)) e
    (YieldsList-from_shown_while (rev_steps Comes) (λ x. x) (λ u. down (rev_source u).end) (λ u. (rev_source u).start ≡ 0)
    (λ u t low p. none_left (rev_source u).end (omega (arith, low, p.0, p.1.0)))
    (λ u x t low p. (p.0 ∙ low, ap down (p.1.2 ∙ add-one (rev_source t).end) ∙ ap (λ n. n ∷ down (rev_source t).end) (sym p.1.1)))
    s (ap (λ (r : Range ℕ). r.start) e))

-- how many `~`s that count their part stand in a row at node k
abbrev pub nots : List ℕ → ℕ → ℕ
nots w k = prefix_len (λ i. negates_at w (i + 1)) (down k)

-- a truth turned so often
flips : ℕ → Bool → Bool
flips zero odd = odd
flips (suc n) odd = flips n (not odd)

flips_is : (n : ℕ) → (flips n false ≡ eqb (n % 2) 1) × (flips n true ≡ eqb (suc n % 2) 1)
unfolding flips
flips_is zero = (refl, refl)
flips_is (suc n) = ((flips_is n).1, (flips_is n).0 ∙ ap (λ m. eqb m 1) (omega arith))

-- the run of n `~`s at node k
abbrev reached : ℕ → ℕ → Bool → Run
reached k n odd = record { end = k - n; odd = flips n odd }

-- the same run, one `~` longer
more : (k m n : ℕ) (odd : Bool) → n ≡ suc m → reached k m (not odd) ≡ reached (suc k) n odd
unfolding flips
more k m n odd e =
    let less : k - m ≡ suc k - suc m = omega arith in
    ap (λ i. record { end = i; odd = flips m (not odd) }) less ∙ sym (ap (λ i. reached (suc k) i odd) e)

-- no `~`
none : (k n : ℕ) (odd : Bool) → n ≡ 0 → record { end = k; odd = odd } ≡ reached k n odd
unfolding flips
none k n odd e =
    let whole : k ≡ k - 0 = omega arith in
    ap (λ i. record { end = i; odd = odd }) whole ∙ sym (ap (λ i. reached k i odd) e)

-- a run one node longer, with what holds of the run below it
longer : (w : List ℕ) (k : ℕ) (odd : Bool) (r : Run) → r ≡ reached k (nots w k) (not odd) → (b : Bool) → negates_at w (suc k) ≡ b
    → pick (negates_at w (suc k)) r (record { end = suc k; odd = odd }) ≡ reached (suc k) (nots w (suc k)) odd
unfolding down
longer w k odd r below true e =
    let here : negates_at w (k + 1) ≡ true = ap (negates_at w) (add-one k) ∙ e in
    let one : nots w (suc k) ≡ 1 + nots w k = ap (λ b. cond b (1 + nots w k) 0) here in
    pick_true _ _ _ e ∙ below ∙ more k (nots w k) (nots w (suc k)) odd (omega (arith, one))
longer w k odd r below false e =
    let here : negates_at w (k + 1) ≡ false = ap (negates_at w) (add-one k) ∙ e in
    pick_false _ _ _ e ∙ none (suc k) (nots w (suc k)) odd (ap (λ b. cond b (1 + nots w k) 0) here)

along : (w : List ℕ) (k : ℕ) (odd : Bool) → run_from w k odd ≡ reached k (nots w k) odd
unfolding run_from down flips
along w zero odd = refl
along w (suc k) odd = longer w k odd (run_from w k (not odd)) (along w k (not odd)) (negates_at w (suc k)) refl

-- the run at node k, from the number of items that `take_while` gives
pub counted : (w : List ℕ) (k n : ℕ) → n ≡ length (take (nots w k) (down k)) → record { end = k - n; odd = eqb (n % 2) 1 } ≡ run_from w k false
counted w k n e =
    let same : n ≡ nots w k = e ∙ length-prefix_len (λ i. negates_at w (i + 1)) (down k) in
    ap (λ m. record { end = k - m; odd = eqb (m % 2) 1 }) same ∙ sym (along w k false ∙ ap (λ b. record { end = k - nots w k; odd = b }) (flips_is (nots w k)).0)
