-- The digits at a place, gone over once: each moves the end on by one, and follows the value. Assumes nothing.
use Rattle.std.proofs.Common.{◌≡◌, ◌∙◌, arith, ℕ, suc, ◌+◌, ◌-◌, ◌*◌, ◌≤◌, min, Bool, true, false, cond, List, [], ◌∷◌, length, take, drop, fold, length-drop}
use Rattle.std.specs.List.{prefix_len}
use Rattle.laws.specs.Choice.{pick}
use Rattle.tokens.proofs.Laws.{decimal_min}
use Rattle.tokens.specs.Classes.{is_digit, run, decimal}
use Rattle.tokens.specs.Tokens.{digits_at}
use Rattle.tokens.specs.declared.Digits.{Digits}

abbrev limit : ℕ
limit = 9223372036854775809

-- digits, with one more
abbrev pub followed : Digits → ℕ → Digits
followed d b = record { end = min (d.end + 1) 18446744073709551615; value = min (d.value * 10 + (b - 48)) limit }

abbrev pub taken_digits : List ℕ → List ℕ
taken_digits xs = take (prefix_len is_digit xs) xs

followed_all : (xs : List ℕ) (e v : ℕ) → e + length xs ≤ 18446744073709551615 → v ≤ limit
    → fold followed (record { end = e; value = v }) (taken_digits xs) ≡ record { end = e + run is_digit xs; value = min (decimal v xs) limit }
unfolding run decimal pick
followed_all [] e v h k = λ i. record { end = p i; value = q i }
  where
    p : e ≡ e + 0
    p = omega arith

    q : v ≡ min v limit
    q = omega (arith, k)
followed_all (x ∷ xs) e v h k = go (is_digit x) (followed_all xs (min (e + 1) 18446744073709551615) (min (v * 10 + (x - 48)) limit) (omega (arith, h)) (omega arith))
  where
    w : ℕ
    w = v * 10 + (x - 48)

    one : 1 + prefix_len is_digit xs ≡ suc (prefix_len is_digit xs)
    one = omega arith

    moved : min (e + 1) 18446744073709551615 + run is_digit xs ≡ e + suc (run is_digit xs)
    moved = omega (arith, h)

    same : min (decimal (min w limit) xs) limit ≡ min (decimal w xs) limit
    same = decimal_min limit (min w limit) w xs (omega arith)

    go : (b : Bool)
        → fold followed (followed (record { end = e; value = v }) x) (taken_digits xs) ≡ record { end = min (e + 1) 18446744073709551615 + run is_digit xs; value = min (decimal (min w limit) xs) limit }
        → fold followed (record { end = e; value = v }) (take (cond b (1 + prefix_len is_digit xs) 0) (x ∷ xs))
        ≡ record { end = e + pick b (suc (run is_digit xs)) 0; value = min (pick b (decimal w xs) v) limit }
    go true r = rw one (r ∙ (λ i. record { end = moved i; value = same i }))
    go false r = λ i. record { end = p i; value = q i }
      where
        p : e ≡ e + 0
        p = omega arith

        q : v ≡ min v limit
        q = omega (arith, k)

-- of a text's rest
pub followed_at : (s : List ℕ) (at : ℕ) → at ≤ 18446744073709551615 → length s ≤ 18446744073709551615
    → fold followed (record { end = at; value = 0 }) (taken_digits (drop at s)) ≡ digits_at s at
followed_at s at h k = followed_all (drop at s) at 0 (omega (arith, length-drop at s)) (omega arith)
