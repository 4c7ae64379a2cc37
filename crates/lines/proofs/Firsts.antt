-- Where the first byte that fails stands is how long the run before it is. Assumes nothing.
use Rattle.std.proofs.Common.{◌≡◌, ◌∷◌, ◌+◌, ◌<◌, ℕ, Bool, true, false, List, Option, length, refl, arith}
use Rattle.std.specs.List.{AllWithin, HoldsAt}
use Rattle.std.specs.Option.{MatchOption, unwrap_or}
use Rattle.std.proofs.lemmas.Iterator.{index_from_first}
use Rattle.laws.specs.Choice.{pick}
use Rattle.tokens.specs.Classes.{run}

module _ (p : ℕ → Bool) where
  fails : (x : ℕ) (xs : List ℕ) → p x ≡ false → run p (x ∷ xs) ≡ 0
  unfolding run pick
  fails x xs e = rw e refl

  passes : (x : ℕ) (xs : List ℕ) → p x ≡ true → run p (x ∷ xs) ≡ run p xs + 1
  unfolding run pick
  passes x xs e = rw e (omega arith)

  pub run_first : (xs : List ℕ) (r : Option ℕ) → MatchOption r (AllWithin (λ b. p b ≡ true) xs 0 (length xs)) (λ i. (i < length xs) × HoldsAt (λ b. p b ≡ false) xs i × AllWithin (λ b. p b ≡ true) xs 0 i)
      → run p xs ≡ unwrap_or r (length xs)
  unfolding run
  run_first = index_from_first (run p) (λ b. p b ≡ false) (λ b. p b ≡ true) refl fails passes
