-- A test of each number of a range, as `all` makes it, is `all_below`. Assumes nothing.
use Prim.Native.Nat.{ℕ, zero, suc, ◌+◌}
use native.Mathlib.Omega.{arith}
use mathlib.Core.Path.{◌≡◌, refl, sym, ap, ◌∙◌}
use mathlib.Core.Bool.{Bool, true, false, ◌&&◌}
use Rattle.std.specs.List.{list_all, range_with_len}
use Rattle.laws.specs.Lists.{every, all_below}
use Rattle.contract.specs.Decode.{each_from}

both_then : (a b c : Bool) → a && (b && c) ≡ (a && b) && c
both_then true b c = refl
both_then false b c = refl

both_end : (a : Bool) → a && true ≡ a
both_end true = refl
both_end false = refl

zero_below : (p : ℕ → Bool) → all_below 0 p ≡ true
unfolding all_below
zero_below p = refl

one_more : (p : ℕ → Bool) (a : ℕ) → all_below a p && p a ≡ all_below (suc a) p
unfolding all_below
one_more p a = refl

-- those below a, then n more
below_more : (p : ℕ → Bool) (n a : ℕ) → all_below a p && list_all p (range_with_len a n) ≡ all_below (a + n) p
below_more p zero a =
    let none : a ≡ a + zero = omega arith in
    both_end (all_below a p) ∙ ap (λ (k : ℕ). all_below k p) none
below_more p (suc n) a =
    let next : suc a ≡ a + 1 = omega arith in
    let same : (a + 1) + n ≡ a + suc n = omega arith in
    both_then (all_below a p) (p a) (list_all p (range_with_len (a + 1) n))
    ∙ ap (λ (b : Bool). b && list_all p (range_with_len (a + 1) n)) (one_more p a ∙ ap (λ (k : ℕ). all_below k p) next)
    ∙ below_more p n (a + 1)
    ∙ ap (λ (k : ℕ). all_below k p) same

pub below_range : (p : ℕ → Bool) (n : ℕ) → list_all p (range_with_len 0 n) ≡ all_below n p
below_range p n =
    let whole : 0 + n ≡ n = omega arith in
    ap (λ (b : Bool). b && list_all p (range_with_len 0 n)) (sym (zero_below p)) ∙ below_more p n 0 ∙ ap (λ (k : ℕ). all_below k p) whole

-- a test of each member that numbers of a range give
pub range_each : {A : Type 0} (q : A → Bool) (f : ℕ → A) (n a : ℕ) → list_all (λ i. q (f i)) (range_with_len a n) ≡ every q (each_from a n f)
unfolding every each_from
range_each q f zero a = refl
range_each q f (suc n) a =
    let next : a + 1 ≡ suc a = omega arith in
    ap (λ (b : Bool). q (f a) && b) (range_each q f n (a + 1) ∙ ap (λ (k : ℕ). every q (each_from k n f)) next)
