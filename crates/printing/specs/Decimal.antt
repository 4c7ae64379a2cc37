-- Numbers as they are printed: the digits, the most significant first.
use Rattle.std.specs.Prelude.{ℕ, zero, suc, ◌+◌, ◌/◌, ◌%◌, List, [], ◌∷◌, ◌++◌, ℤ, pos, negsuc, ltb}
use Prim.Native.Char.{code}
use Rattle.laws.specs.Choice.{pick}
use Rattle.laws.specs.Bytes.{bytes}

abbrev pub digit : ℕ → ℕ
digit d = code "0" + d

-- n with at most so many digits
unfoldable pub decimal_within : ℕ → ℕ → List ℕ
decimal_within zero n = []
decimal_within (suc digits) n = pick (ltb n 10) (digit n ∷ []) (decimal_within digits (n / 10) ++ (digit (n % 10) ∷ []))

-- n has at most n + 1 digits
unfoldable pub decimal : ℕ → List ℕ
decimal n = decimal_within (suc n) n

-- the same of a whole number; -(n + 1) is `negsuc n`
unfoldable pub signed : ℤ → List ℕ
signed (pos n) = decimal n
signed (negsuc n) = bytes "-" ++ decimal (suc n)
