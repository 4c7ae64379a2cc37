-- An answer is one value or one refusal, a truth one decision or one refusal. Assumes nothing.
use mathlib.Core.Path.{◌≡◌}
use mathlib.Core.Bool.{Bool, true, false}
use Prim.Native.Nat.{ℕ}
use native.Mathlib.Omega.{arith}
use lib.IntN.{pos, negsuc}
use Rattle.std.specs.Prelude.{Ok, Err}
use Rattle.questions.specs.declared.Question.{Question}
use Rattle.numbers.specs.declared.Value.{Value}
use Rattle.numbers.specs.declared.Value.TheVariants.{Integer, Text}
use Rattle.numbers.specs.Numbers.{Answer, Truth}

module _ {x : Answer} where
  pub same_value : {v v' : Value} → x ≡ Ok v → x ≡ Ok v' → v ≡ v'
  same_value p q = cc

  pub same_amount : {n n' : ℕ} → x ≡ Ok (Integer (pos n)) → x ≡ Ok (Integer (pos n')) → n ≡ n'
  same_amount p q = cc

  pub same_refusal : {q q' : Question} → x ≡ Err q → x ≡ Err q' → q ≡ q'
  same_refusal p q = cc

  pub no_value : {q : Question} {v : Value} → x ≡ Err q → x ≡ Ok v → ⊥
  no_value p q = let y : ◌≡◌ {A = ℕ} 0 1 = cc in omega arith

  pub no_text : {n k : ℕ} → x ≡ Ok (Text n) → x ≡ Ok (Integer (pos k)) → ⊥
  no_text p q = let y : ◌≡◌ {A = ℕ} 0 1 = cc in omega arith

  pub no_negative : {n k : ℕ} → x ≡ Ok (Integer (negsuc n)) → x ≡ Ok (Integer (pos k)) → ⊥
  no_negative p q = let y : ◌≡◌ {A = ℕ} 0 1 = cc in omega arith

module _ {x : Truth} where
  pub same_undecided : {q q' : Question} → x ≡ Err q → x ≡ Err q' → q ≡ q'
  same_undecided p q = cc

  pub undecided : {q : Question} {b : Bool} → x ≡ Err q → x ≡ Ok b → ⊥
  undecided p q = let y : ◌≡◌ {A = ℕ} 0 1 = cc in omega arith

  pub true_not_false : x ≡ Ok true → x ≡ Ok false → ⊥
  true_not_false p q = let y : ◌≡◌ {A = ℕ} 0 1 = cc in omega arith
