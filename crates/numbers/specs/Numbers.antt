-- Arithmetic and comparisons on values: the integer where it is within 64 bits, else the question that refuses it.
use Rattle.std.specs.Prelude.{ℕ, suc, ◌/◌, ◌^◌, Bool, false, not, ℤ, pos, negsuc, neg_ℤ, ◌+ℤ◌, ◌-ℤ◌, ◌*ℤ◌, ltb, eqb, Result, Ok, Err}
use Rattle.std.specs.Int.Signed.{mag, lt_z, le_z}
use Rattle.laws.specs.Choice.{pick}
use Rattle.questions.specs.declared.Question.{Question}
use Rattle.questions.specs.declared.Question.TheVariants as ask
use Rattle.numbers.specs.declared.Value.{Value}
use Rattle.numbers.specs.declared.Value.TheVariants.{Integer, Text}
use Rattle.numbers.specs.declared.Operator.{Operator}
use Rattle.numbers.specs.declared.Operator.TheVariants.{Plus, Minus, Times, Over}
use Rattle.numbers.specs.declared.Comparison.{Comparison}
use Rattle.numbers.specs.declared.Comparison.TheVariants.{Equal, Unequal, Less, AtMost, Greater, AtLeast}

-- what working out an expression gives, and a condition: a value, a truth, or the question that refused
abbrev pub Answer : Type 0
Answer = Result Value Question

abbrev pub Truth : Type 0
Truth = Result Bool Question

-- from -2 ^ 63 up to, not including, 2 ^ 63: `mag` of n is n, and of -(n + 1) is n
abbrev pub within : ℤ → Bool
within z = ltb (mag z) (2 ^ 63)

-- question 32
unfoldable pub in_range : ℤ → Answer
in_range z = pick (within z) (Ok (Integer z)) (Err ask.ResultRange)

abbrev pub eq_z : ℤ → ℤ → Bool
eq_z (pos a) (pos b) = eqb a b
eq_z (pos a) (negsuc b) = false
eq_z (negsuc a) (pos b) = false
eq_z (negsuc a) (negsuc b) = eqb a b

-- divided by d, above 0, and rounded down: -(n + 1) gives -(n / d + 1), so -7 by 2 is -(6 / 2 + 1) = -4
abbrev pub rounded_down : ℤ → ℕ → ℤ
rounded_down (pos n) d = pos (n / d)
rounded_down (negsuc n) d = negsuc (n / d)

-- what `/` gives (document 02, F-2): the greatest integer not above a / b, as Floor.antt says by products; a / -(b + 1) is -a / (b + 1), and 33 refuses b = 0
abbrev pub quotient : ℤ → ℤ → ℤ
quotient a (pos b) = rounded_down a b
quotient a (negsuc b) = rounded_down (neg_ℤ a) (suc b)

-- question 33, then 32 of the quotient
unfoldable pub divided : ℤ → ℤ → Answer
divided a b = pick (eq_z b (pos 0)) (Err ask.Divisor) (in_range (quotient a b))

abbrev pub arithmetic : Operator → ℤ → ℤ → Answer
arithmetic Plus a b = in_range (a +ℤ b)
arithmetic Minus a b = in_range (a -ℤ b)
arithmetic Times a b = in_range (a *ℤ b)
arithmetic Over a b = divided a b

-- an operator on two values; question 31 refuses a string
abbrev pub applied : Operator → Value → Value → Answer
applied o (Integer a) (Integer b) = arithmetic o a b
applied o (Integer a) (Text n) = Err ask.OperandKind
applied o (Text m) b = Err ask.OperandKind

abbrev pub integers : Comparison → ℤ → ℤ → Truth
integers Equal a b = Ok (eq_z a b)
integers Unequal a b = Ok (not (eq_z a b))
integers Less a b = Ok (lt_z a b)
integers AtMost a b = Ok (le_z a b)
integers Greater a b = Ok (lt_z b a)
integers AtLeast a b = Ok (le_z b a)

-- strings compare by == and != alone
abbrev pub strings : Comparison → ℕ → ℕ → Truth
strings Equal m n = Ok (eqb m n)
strings Unequal m n = Ok (not (eqb m n))
strings Less m n = Err ask.OperandKind
strings AtMost m n = Err ask.OperandKind
strings Greater m n = Err ask.OperandKind
strings AtLeast m n = Err ask.OperandKind

-- a comparison of two values, integers or strings; question 31 refuses one of each
abbrev pub compared : Comparison → Value → Value → Truth
compared c (Integer a) (Integer b) = integers c a b
compared c (Text m) (Text n) = strings c m n
compared c (Integer a) (Text n) = Err ask.OperandKind
compared c (Text m) (Integer b) = Err ask.OperandKind
