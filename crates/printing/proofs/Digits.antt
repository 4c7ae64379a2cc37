-- The digits of a number. Assumes nothing.
use mathlib.Core.Path.{◌≡◌, refl, sym, ap, ◌∙◌}
use mathlib.Core.List.{List, [], ◌∷◌, ◌++◌}
use Prim.Native.Nat.{ℕ, zero, suc, ◌+◌, ◌*◌, max, ◌/◌, ◌%◌, ◌^◌, ◌<◌, ◌≤◌}
use native.Mathlib.Omega.{arith}
use lib.ListN.{length, set, length-append}
use lib.Seq.{sets}
use lib.Dec.{ltb}
use lib.IntN.{ℤ, pos, negsuc, nat_abs}
use mir.Syntax.{w64}
use mir.Val.{SFits}
use borrow.Author.Tests.{ltb-true, ltb-false, lt-ltb, le-ltb}
use Rattle.std.specs.Int.{FitsUnsignedBits}
use Rattle.laws.specs.Bytes.{bytes}
use Rattle.laws.proofs.Choice.{pick_true, pick_false, by_cases}
use Rattle.printing.specs.Decimal.{digit, decimal_within, decimal, signed}
use Rattle.printing.proofs.Puts.{sets_last}

enough : (f g n : ℕ) → n < f → n < g → decimal_within f n ≡ decimal_within g n
unfolding decimal_within
enough zero g n h k = absurd (omega arith)
enough (suc f) zero n h k = absurd (omega arith)
enough (suc f) (suc g) n h k = go (enough f g (n / 10))
  where
    go : (n / 10 < f → n / 10 < g → decimal_within f (n / 10) ≡ decimal_within g (n / 10)) → decimal_within (suc f) n ≡ decimal_within (suc g) n
    go r =
        by_cases (λ (l : List ℕ). l ≡ decimal_within (suc g) n) (ltb n 10) (digit n ∷ []) (decimal_within f (n / 10) ++ (digit (n % 10) ∷ []))
        (λ e. sym (pick_true _ _ _ e))
        λ e.
        let l : 10 ≤ n = ltb-false n 10 e in
        ap (λ (ds : List ℕ). ds ++ (digit (n % 10) ∷ [])) (r (omega arith) (omega arith)) ∙ sym (pick_false _ _ _ e)

pub one_digit : (n : ℕ) → n < 10 → decimal n ≡ digit n ∷ []
unfolding decimal decimal_within
one_digit n h = pick_true _ _ _ (lt-ltb n 10 h)

pub more_digits : (n : ℕ) → 10 ≤ n → decimal n ≡ decimal (n / 10) ++ (digit (n % 10) ∷ [])
unfolding decimal decimal_within
more_digits n h =
    pick_false _ _ _ (le-ltb n 10 h)
    ∙ ap (λ (ds : List ℕ). ds ++ (digit (n % 10) ∷ [])) (enough n (suc (n / 10)) (n / 10) (omega arith) (omega arith))

pub one_long : (n : ℕ) → n < 10 → length (decimal n) ≡ 1
one_long n h = ap length (one_digit n h)

pub more_long : (n : ℕ) → 10 ≤ n → length (decimal n) ≡ length (decimal (n / 10)) + 1
more_long n h = ap length (more_digits n h) ∙ length-append (decimal (n / 10)) (digit (n % 10) ∷ [])

pub two_long : (n : ℕ) → 10 ≤ n → n < 100 → length (decimal n) ≡ 2
two_long n h k = omega (arith, more_long n h, one_long (n / 10) (omega arith))

ten_power : (k : ℕ) → 1 ≤ 10 ^ k
ten_power zero = omega arith
ten_power (suc k) = omega (arith, ten_power k)

-- by the greatest power of ten that is at most n, or 1
pub long : (k n m : ℕ) → m ≡ max n 1 → 10 ^ k ≤ m → m < 10 * 10 ^ k → length (decimal n) ≡ k + 1
long zero n m e g h = one_long n (omega (arith, e))
long (suc k) n m e g h =
    let p = ten_power k in
    let l : 10 ≤ n = omega (arith, e) in
    omega (arith, more_long n l, long k (n / 10) (n / 10) (omega arith) (omega arith) (omega arith))

pub some_digits : (n : ℕ) → 0 < length (decimal n)
some_digits n =
    by_cases (λ (_ : ℕ). 0 < length (decimal n)) (ltb n 10) 0 0 (λ t. omega (arith, one_long n (ltb-true n 10 t)))
    λ t. omega (arith, more_long n (ltb-false n 10 t))

-- below a power of ten
pub short : (k n : ℕ) → n < 10 ^ suc k → length (decimal n) ≤ suc k
short zero n h = omega (arith, one_long n (omega arith))
short (suc k) n h =
    by_cases (λ (_ : ℕ). length (decimal n) ≤ suc (suc k)) (ltb n 10) 0 0 (λ e. omega (arith, one_long n (ltb-true n 10 e))) λ e.
    let l : 10 ≤ n = ltb-false n 10 e in
    let m : n / 10 < 10 ^ suc k = omega arith in
    omega (arith, more_long n l, short k (n / 10) m)

-- a number of 64 bits
pub word_short : (n : ℕ) → n < 2 ^ 64 → length (decimal n) ≤ 20
word_short n h = short 19 n (omega arith)

-- ---- digits stored, the last first

-- so many digits of n, its last
pub last_digits : ℕ → ℕ → List ℕ
last_digits zero n = []
last_digits (suc k) n = last_digits k (n / 10) ++ (digit (n % 10) ∷ [])

last_long : (k n : ℕ) → length (last_digits k n) ≡ k
unfolding last_digits
last_long zero n = refl
last_long (suc k) n = length-append (last_digits k (n / 10)) (digit (n % 10) ∷ []) ∙ omega (arith, last_long k (n / 10))

-- as many as there are
pub all_digits : (k n : ℕ) → k ≡ length (decimal n) → last_digits k n ≡ decimal n
unfolding last_digits
all_digits zero n e = absurd (omega (arith, e, some_digits n))
all_digits (suc k) n e =
    by_cases (λ (_ : ℕ). last_digits (suc k) n ≡ decimal n) (ltb n 10) 0 0
    (λ t. let h : n < 10 = ltb-true n 10 t in
    let z : k ≡ 0 = omega (arith, e, one_long n h) in
    let m : n % 10 ≡ n = omega arith in
    (λ i. last_digits (z i) (n / 10) ++ (digit (m i) ∷ [])) ∙ sym (one_digit n h))
    λ t. let h : 10 ≤ n = ltb-false n 10 t in
    ap (λ (l : List ℕ). l ++ (digit (n % 10) ∷ [])) (all_digits k (n / 10) (omega (arith, e, more_long n h))) ∙ sym (more_digits n h)

pub no_digits : (buffer : List ℕ) (at k n : ℕ) → k ≡ 0 → buffer ≡ sets buffer at (last_digits k n)
unfolding last_digits
no_digits buffer at k n e = ap (λ (j : ℕ). sets buffer at (last_digits j n)) (sym e)

pub store_last : (buffer : List ℕ) (at k n : ℕ) → sets (set buffer (at + k) (48 + n % 10)) at (last_digits k (n / 10)) ≡ sets buffer at (last_digits (suc k) n)
unfolding last_digits
store_last buffer at k n =
    ap (λ (j : ℕ). sets (set buffer (at + j) (48 + n % 10)) at (last_digits k (n / 10))) (sym (last_long k (n / 10)))
    ∙ sets_last (last_digits k (n / 10)) buffer at (48 + n % 10)

-- the first digit, stored last
pub first_stored : (buffer : List ℕ) (at k n : ℕ) → k ≡ 1 → n < 10 → set buffer at (48 + n) ≡ sets buffer at (last_digits k n)
first_stored buffer at k n e h =
    let z : at ≡ at + 0 = omega arith in
    let m : n ≡ n % 10 = omega arith in
    (λ i. set buffer (z i) (48 + m i))
    ∙ no_digits (set buffer (at + 0) (48 + n % 10)) at 0 (n / 10) refl
    ∙ store_last buffer at 0 n
    ∙ ap (λ (j : ℕ). sets buffer at (last_digits j n)) (sym e)

-- a number of one digit, and one of more
pub is_one_digit : (n : ℕ) → length (decimal n) ≤ 1 → n < 10
is_one_digit n h =
    by_cases (λ (_ : ℕ). n < 10) (ltb n 10) 0 0 (λ t. ltb-true n 10 t)
    λ t. omega (arith, h, more_long n (ltb-false n 10 t), some_digits (n / 10))

pub one_less : (n : ℕ) → 1 < length (decimal n) → length (decimal n) ≡ length (decimal (n / 10)) + 1
one_less n h =
    by_cases (λ (_ : ℕ). length (decimal n) ≡ length (decimal (n / 10)) + 1) (ltb n 10) 0 0 (λ t. absurd (omega (arith, h, one_long n (ltb-true n 10 t))))
    λ t. more_long n (ltb-false n 10 t)

-- ---- whole numbers

natural : (z : ℤ) → FitsUnsignedBits 64 z → signed z ≡ decimal (nat_abs z)
unfolding signed
natural (pos n) f = refl
natural (negsuc n) f = absurd f

negative : (z : ℤ) → SFits w64 z → (FitsUnsignedBits 64 z → ⊥) → signed z ≡ bytes "-" ++ decimal (nat_abs z)
unfolding signed
negative (pos n) f h = absurd (h (omega (arith, f.sfits)))
negative (negsuc n) f h = refl

-- by the bits x of z and its distance m from zero
module _ {x z : ℤ} {m : ℕ} (q : x ≡ z) (d : m ≡ nat_abs x) where
  pub signed_natural : FitsUnsignedBits 64 x → decimal m ≡ signed z
  signed_natural f = ap decimal d ∙ sym (natural x f) ∙ ap signed q

  pub signed_negative : SFits w64 x → (FitsUnsignedBits 64 x → ⊥) → bytes "-" ++ decimal m ≡ signed z
  signed_negative f h = ap (λ (k : ℕ). bytes "-" ++ decimal k) d ∙ sym (negative x f h) ∙ ap signed q

pub signed_short : (z : ℤ) → SFits w64 z → length (signed z) ≤ 21
unfolding signed
signed_short (pos n) f = omega (arith, word_short n (omega (arith, f.sfits)))
signed_short (negsuc n) f = omega (arith, word_short (suc n) (omega (arith, f.sfits)))
