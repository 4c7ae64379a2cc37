-- What the words of a text stand for. Assumes nothing.
use Rattle.std.proofs.Common.{◌≡◌, ℕ, ◌+◌, ◌<◌, ◌^◌, Bool, true, false, refl, if◌then◌else◌, List, [], length, Option, None, Some, MatchOption, Result, Ok, Err, arith, ℤ, pos, neg_ℤ, nat_lt, w64, zero, suc, lit<}
use mir.Val.{SFits}
use Rattle.std.specs.Bool.{Decides}
use Rattle.std.specs.Option.{unwrap_or}
use Rattle.std.specs.Result.{OkIff, ResultUnwrapsOrElse}
use Rattle.std.specs.Str.{all_ascii_digits}
use Rattle.std.specs.Str.Parse.{IsNumeral, ParsesUnsigned, ParsesSigned, digits_value, without_leading_plus, without_leading_sign, starts_with_minus, signed_digits_value}
use Rattle.std.proofs.lemmas.Bool.Decides.{Decides-and, Decides-ltb, Decides-like}
use Rattle.std.proofs.lemmas.Str.Parse.{IsNumeralModel, numerals_by_value, tells_all_ascii_digits}
use Rattle.trial_text.specs.Numbers.{StandsFor, is_numeral_below, natural, integer}

own : IsNumeralModel (λ ds. all_ascii_digits ds ≡ true) (digits_value 10)
own = numerals_by_value _ tells_all_ascii_digits

numeral_below : (end : ℕ) (ds : List ℕ) → Decides (is_numeral_below end ds) (IsNumeral 10 ds × (digits_value 10 ds < end))
numeral_below end ds = Decides-and _ _ (Decides-and _ _ (Decides-ltb 0 (length ds)) (own.to ds, own.from ds)) (Decides-ltb (digits_value 10 ds) end)

-- what is read where a test holds, and the default where it does not
read_as : {N E : Type 0} {P : Type 0} (v d : N) (b : Bool) → Decides b P → (r : Result N E) (n : N) → OkIff r P v → ResultUnwrapsOrElse r (λ m. m ≡ d) n → n ≡ (if b then v else d)
read_as v d true k (Ok x) n h e = cc
read_as v d true k (Err x) n h e = absurd (h (k.0 refl))
read_as v d false k (Ok x) n h e = let t : false ≡ true = k.1 h.0 in cc
read_as v d false k (Err x) n h e = e

-- what a word stands for at a type of so many bits with no sign is its `natural`, and at 64 bits with a sign its `integer`
pub natural_read : {E : Type 0} (bits : ℕ) (w : List ℕ) (r : Result ℕ E) (n : ℕ) → ParsesUnsigned bits 10 w r → ResultUnwrapsOrElse r (λ m. m ≡ 0) n → n ≡ natural bits w
natural_read bits w r n h e = read_as _ _ _ (numeral_below (2 ^ bits) (without_leading_plus w)) r n h e

fits_below : (minus : Bool) (n : ℕ) → Decides (nat_lt n (if minus then 2 ^ 63 + 1 else 2 ^ 63)) (SFits w64 (if minus then neg_ℤ (pos n) else pos n))
fits_below true zero = (λ _. record { sfits = lit< tt }, λ _. refl)
fits_below true (suc n) = Decides-like _ (λ h. record { sfits = omega (arith, h) }) (λ f. omega (arith, f.sfits)) (Decides-ltb (suc n) (2 ^ 63 + 1))
fits_below false n = Decides-like _ (λ h. record { sfits = h }) (λ f. f.sfits) (Decides-ltb n (2 ^ 63))

pub integer_read : {E : Type 0} (w : List ℕ) (r : Result ℤ E) (n : ℤ) → ParsesSigned w64 10 w r → ResultUnwrapsOrElse r (λ m. m ≡ pos 0) n → n ≡ integer w
integer_read w r n h e =
    let ds = without_leading_sign w in
    let v = digits_value 10 ds in
    let end = if starts_with_minus w then 2 ^ 63 + 1 else 2 ^ 63 in
    let few : Decides (nat_lt v end) (SFits w64 (signed_digits_value 10 w)) = fits_below (starts_with_minus w) v in
    read_as _ _ _ (Decides-and _ _ (Decides-and _ _ (Decides-ltb 0 (length ds)) (own.to ds, own.from ds)) few) r n h e

-- the same of a word that a text may have
pub natural_from : {E : Type 0} (bits : ℕ) (P : List ℕ → Result ℕ E → Type 0) (o : Option (List ℕ)) (n : ℕ) → MatchOption o (n ≡ 0) (λ w. StandsFor P (λ m. m ≡ 0) w n) → ((w : List ℕ) (r : Result ℕ E) → P w r → ParsesUnsigned bits 10 w r) → n ≡ natural bits (unwrap_or o [])
natural_from bits P None n h reads = h
natural_from bits P (Some w) n h reads = natural_read bits w h.0 n (reads w h.0 h.1) h.2

pub integer_from : {E : Type 0} (P : List ℕ → Result ℤ E → Type 0) (o : Option (List ℕ)) (n : ℤ) → MatchOption o (n ≡ pos 0) (λ w. StandsFor P (λ m. m ≡ pos 0) w n) → ((w : List ℕ) (r : Result ℤ E) → P w r → ParsesSigned w64 10 w r) → n ≡ integer (unwrap_or o [])
integer_from P None n h reads = h
integer_from P (Some w) n h reads = integer_read w h.0 n (reads w h.0 h.1) h.2
