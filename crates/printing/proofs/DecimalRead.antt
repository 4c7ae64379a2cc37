-- A number that was printed reads as itself, by the definition that the tokens have. Assumes nothing.
use mathlib.Core.Path.{◌≡◌, sym, ap, ◌∙◌}
use mathlib.Core.Bool.{true}
use mathlib.Core.List.{List, [], ◌∷◌, ◌++◌, append_assoc, append-nil}
use Prim.Native.Nat.{ℕ, zero, suc, ◌+◌, ◌-◌, ◌*◌, ◌/◌, ◌%◌, ◌<◌, ◌≤◌}
use native.Mathlib.Nat.{zero-add}
use native.Mathlib.Omega.{arith}
use lib.Dec.{ltb}
use borrow.Author.Tests.{ltb-true, ltb-false, le-leb}
use Rattle.laws.proofs.Choice.{pick_true, by_cases}
use Rattle.tokens.specs.Classes.{within, is_digit}
use Rattle.tokens.specs.Classes as tokens
use Rattle.printing.specs.Decimal.{digit, decimal_within, decimal}

digit_is : (d : ℕ) → d < 10 → is_digit (digit d) ≡ true
unfolding is_digit within
digit_is d h = pick_true _ _ _ (le-leb 48 (48 + d) (omega arith)) ∙ le-leb (48 + d) 57 (omega arith)

-- one digit more
one_more : (v d : ℕ) (ys : List ℕ) → d < 10 → tokens.decimal v (digit d ∷ ys) ≡ tokens.decimal (v * 10 + d) ys
unfolding tokens.decimal
one_more v d ys h =
    let e : v * 10 + (48 + d - 48) ≡ v * 10 + d = omega arith in
    pick_true _ _ _ (digit_is d h) ∙ ap (λ (k : ℕ). tokens.decimal k ys) e

-- printed and followed by ys
before : (f n : ℕ) (ys : List ℕ) → n < f → tokens.decimal 0 (decimal_within f n ++ ys) ≡ tokens.decimal n ys
unfolding decimal_within
before zero n ys h = absurd (omega arith)
before (suc f) n ys h = go (before f (n / 10) (digit (n % 10) ∷ ys))
  where
    go : (n / 10 < f → tokens.decimal 0 (decimal_within f (n / 10) ++ (digit (n % 10) ∷ ys)) ≡ tokens.decimal (n / 10) (digit (n % 10) ∷ ys))
        → tokens.decimal 0 (decimal_within (suc f) n ++ ys) ≡ tokens.decimal n ys
    go r =
        by_cases (λ (l : List ℕ). tokens.decimal 0 (l ++ ys) ≡ tokens.decimal n ys) (ltb n 10) (digit n ∷ []) (decimal_within f (n / 10) ++ (digit (n % 10) ∷ []))
        (λ t. let k : n < 10 = ltb-true n 10 t in one_more 0 n ys k ∙ ap (λ (m : ℕ). tokens.decimal m ys) (zero-add n))
        λ t.
        let k : 10 ≤ n = ltb-false n 10 t in
        let e : n / 10 * 10 + n % 10 ≡ n = omega arith in
        ap (tokens.decimal 0) (append_assoc (decimal_within f (n / 10)) (digit (n % 10) ∷ []) ys)
        ∙ r (omega arith)
        ∙ one_more (n / 10) (n % 10) ys (omega arith)
        ∙ ap (λ (m : ℕ). tokens.decimal m ys) e

pub decimal_read : (n : ℕ) → tokens.decimal 0 (decimal n) ≡ n
unfolding decimal tokens.decimal
decimal_read n = ap (tokens.decimal 0) (sym (append-nil (decimal n))) ∙ before (suc n) n [] (omega arith)
