-- The digits that a text begins with, gone over once: each follows the value. Assumes nothing.
use Rattle.std.proofs.Common.{◌≡◌, ◌∙◌, arith, ℕ, suc, ◌+◌, ◌-◌, ◌*◌, ◌≤◌, min, Bool, true, false, cond, List, [], ◌∷◌, take, fold}
use Rattle.std.specs.List.{prefix_len}
use Rattle.laws.specs.Choice.{pick}
use Rattle.tokens.proofs.Laws.{decimal_min}
use Rattle.tokens.specs.Classes.{is_digit, decimal}

abbrev pub greatest : ℕ
greatest = 18446744073709551615

-- a number with one more digit
abbrev pub followed : ℕ → ℕ → ℕ
followed v b = min (v * 10 + (b - 48)) greatest

pub followed_all : (xs : List ℕ) (v : ℕ) → v ≤ greatest → fold followed v (take (prefix_len is_digit xs) xs) ≡ min (decimal v xs) greatest
unfolding decimal pick
followed_all [] v k = omega (arith, k)
followed_all (x ∷ xs) v k = go (is_digit x) (followed_all xs (min (v * 10 + (x - 48)) greatest) (omega arith))
  where
    w : ℕ
    w = v * 10 + (x - 48)

    one : 1 + prefix_len is_digit xs ≡ suc (prefix_len is_digit xs)
    one = omega arith

    same : min (decimal (min w greatest) xs) greatest ≡ min (decimal w xs) greatest
    same = decimal_min greatest (min w greatest) w xs (omega arith)

    go : (b : Bool) → fold followed (followed v x) (take (prefix_len is_digit xs) xs) ≡ min (decimal (min w greatest) xs) greatest → fold followed v (take (cond b (1 + prefix_len is_digit xs) 0) (x ∷ xs)) ≡ min (pick b (decimal w xs) v) greatest
    go true r = rw one (r ∙ same)
    go false r = omega (arith, k)
