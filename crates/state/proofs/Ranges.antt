-- A test of each number below a bound, as a chain over a range gives it. Assumes nothing.
use mathlib.Core.Path.{◌≡◌, refl, sym, ap, ◌∙◌}
use mathlib.Core.Bool.{Bool, true, false}
use Prim.Native.Nat.{ℕ, zero, suc, ◌+◌, ◌<◌}
use native.Mathlib.Omega.{arith}
use Rattle.std.specs.List.{list_all, range_with_len}
use Rattle.laws.specs.Lists.{all_below}
use Rattle.laws.proofs.Choice.{true_false}
use Rattle.laws.proofs.Truths.{both_left, both_right, both_true}
use Rattle.laws.proofs.Members.{all_below_lem, below_at}

-- each of n numbers from a on passes
from_all : (p : ℕ → Bool) (a n : ℕ) → list_all p (range_with_len a n) ≡ true → (i : ℕ) → i < n → p (a + i) ≡ true
from_all p a zero e i h = absurd (omega arith)
from_all p a (suc n) e zero h = let z : a + 0 ≡ a = omega arith in ap p z ∙ both_left (p a) _ e
from_all p a (suc n) e (suc i) h =
    let z : a + suc i ≡ a + 1 + i = omega arith in
    ap p z ∙ from_all p (a + 1) n (both_right (p a) _ e) i (omega arith)

to_all : (p : ℕ → Bool) (a n : ℕ) → ((i : ℕ) → i < n → p (a + i) ≡ true) → list_all p (range_with_len a n) ≡ true
to_all p a zero f = refl
to_all p a (suc n) f =
    let z : a ≡ a + 0 = omega arith in
    both_true (p a) _ (ap p z ∙ f 0 (omega arith))
    (to_all p (a + 1) n (λ i h. let y : a + 1 + i ≡ a + suc i = omega arith in ap p y ∙ f (suc i) (omega arith)))

pub all_in_range : (p : ℕ → Bool) (n : ℕ) → list_all p (range_with_len 0 n) ≡ all_below n p
all_in_range p n = go (all_below n p) (list_all p (range_with_len 0 n)) refl refl
  where
    go : (a b : Bool) → all_below n p ≡ a → list_all p (range_with_len 0 n) ≡ b → list_all p (range_with_len 0 n) ≡ all_below n p
    go true b e f = to_all p 0 n (λ i h. let z : 0 + i ≡ i = omega arith in ap p z ∙ below_at p n e i h) ∙ sym e
    go false false e f = f ∙ sym e
    go false true e f = true_false (sym (all_below_lem p n (λ i h. let z : i ≡ 0 + i = omega arith in ap p z ∙ from_all p 0 n f i h)) ∙ e)
