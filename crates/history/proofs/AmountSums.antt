-- Sums of amounts weighed by their places, and of payouts weighed by their labels. Assumes nothing.
use mathlib.Core.Path.{◌≡◌, refl, sym, ap, ◌∙◌}
use mathlib.Core.Bool.{Bool, true, false}
use mathlib.Core.List.{List, [], ◌∷◌, ◌++◌}
use Prim.Native.Nat.{ℕ, zero, suc, ◌+◌, ◌-◌, ◌*◌, ◌<◌, ◌≤◌}
use native.Mathlib.Omega.{arith}
use native.Mathlib.Nat.{mul-add, add-zero}
use lib.ListN.{length, get_or, take, set, length-set}
use lib.Seq.{get_or-set_other}
use lib.Dec.{eqb}
use lib.IntN.{ℤ, pos, negsuc, nat_abs, ◌+ℤ◌, +ℤ_idr}
use lib.Signed.{le_z}
use borrow.Author.Tests.{eqb-true}
use Rattle.laws.specs.Choice.{pick}
use Rattle.laws.proofs.Choice.{true_false}
use Rattle.laws.proofs.Members.{every_head, every_tail}
use Rattle.laws.proofs.Truths.{both_true}
use Rattle.laws.specs.Lists.{every, repeated}
use Rattle.statements.specs.declared.Label.{Label}
use Rattle.statements.specs.Running.{asset_label}
use Rattle.holdings.specs.Holdings.{amounts}
use Rattle.history.specs.Histories.{Deposit, payouts_in, total, amounts_of, values_of, weighed, alike}

-- what payouts come to, weighed by their labels
unfoldable pub paid_out : (Label → ℕ) → List Label → ℕ
paid_out g [] = 0
paid_out g (l ∷ ls) = g l * nat_abs l.value + paid_out g ls

-- every payout counts its value
abbrev pub evenly : Label → ℕ
evenly l = 1

-- a payout is an amount, and a deposit
abbrev pub is_amount : Label → Bool
is_amount l = le_z (pos 0) l.value

abbrev pub brings : Deposit → Bool
brings d = le_z (pos 0) d.amount

-- what deposits come to
abbrev pub brought : List Deposit → ℕ
brought ds = weighed alike 0 (amounts (amounts_of ds))

module _ (f : ℕ → ℕ) where
  -- a weight by another way to the place
  weight : (i j n : ℕ) → i ≡ j → f i * n ≡ f j * n
  weight i j n e = ap (λ (k : ℕ). f k * n) e

  pub weighed_append : (k : ℕ) (a b : List ℕ) → weighed f k (a ++ b) ≡ weighed f k a + weighed f (k + length a) b
  unfolding weighed
  weighed_append k [] b = omega (arith, ap (λ (i : ℕ). weighed f i b) (add-zero k))
  weighed_append k (x ∷ a) b =
      let i : suc k + length a ≡ k + suc (length a) = omega arith in
      omega (arith, weighed_append (suc k) a b, ap (λ (j : ℕ). weighed f j b) i)

  -- ---- amounts changed

  -- n less at a place
  pub weighed_less : (k : ℕ) (l : List ℕ) (i n : ℕ) → n ≤ get_or l i 0 → weighed f k (set l i (get_or l i 0 - n)) + f (k + i) * n ≡ weighed f k l
  unfolding weighed
  weighed_less k [] i n h = let z : n ≡ 0 = omega arith in omega (arith, ap (λ (m : ℕ). f (k + i) * m) z)
  weighed_less k (x ∷ l) zero n h =
      let a : x - n + n ≡ x = omega arith in
      omega (arith, mul-add (f k) (x - n) n, ap (λ (m : ℕ). f k * m) a, weight (k + 0) k n (add-zero k))
  weighed_less k (x ∷ l) (suc i) n h =
      let e : suc k + i ≡ k + suc i = omega arith in
      omega (arith, weighed_less (suc k) l i n h, weight (suc k + i) (k + suc i) n e)

  -- n more at a place
  pub weighed_more : (k : ℕ) (l : List ℕ) (i n : ℕ) → i < length l → weighed f k (set l i (get_or l i 0 + n)) ≡ weighed f k l + f (k + i) * n
  unfolding weighed
  weighed_more k [] i n h = absurd (omega arith)
  weighed_more k (x ∷ l) zero n h = omega (arith, mul-add (f k) x n, weight (k + 0) k n (add-zero k))
  weighed_more k (x ∷ l) (suc i) n h =
      let e : suc k + i ≡ k + suc i = omega arith in
      omega (arith, weighed_more (suc k) l i n (omega arith), weight (suc k + i) (k + suc i) n e)

  -- n from one place to another of the same weight
  pub weighed_moved : (l : List ℕ) (i j n : ℕ) → f i ≡ f j → n ≤ get_or l i 0 → j < length l → (i ≡ j → ⊥)
      → weighed f 0 (set (set l i (get_or l i 0 - n)) j (get_or l j 0 + n)) ≡ weighed f 0 l
  weighed_moved l i j n w h k ne =
      let b = set l i (get_or l i 0 - n) in
      let same : get_or b j 0 ≡ get_or l j 0 = get_or-set_other l i j _ 0 (λ q. ne (sym q)) in
      let more : weighed f 0 (set b j (get_or b j 0 + n)) ≡ weighed f 0 b + f (0 + j) * n = weighed_more 0 b j n (simp length-set k) in
      let e : 0 + i ≡ i = omega arith in
      let g : 0 + j ≡ j = omega arith in
      omega (arith, ap (λ (z : ℕ). weighed f 0 (set b j (z + n))) same, more, weighed_less 0 l i n h, weight (0 + i) i n e, weight (0 + j) j n g, ap (λ (m : ℕ). m * n) w)

  -- ---- zeros

  pub weighed_zeros : (k n m : ℕ) → weighed f k (take n (repeated m 0)) ≡ 0
  unfolding weighed repeated
  weighed_zeros k zero m = refl
  weighed_zeros k (suc n) zero = refl
  weighed_zeros k (suc n) (suc m) = omega (arith, weighed_zeros (suc k) n m)

  -- amounts that are filled up with zeros
  pub weighed_padded : (k : ℕ) (l : List ℕ) (n m : ℕ) → length l ≤ n → weighed f k (take n (l ++ repeated m 0)) ≡ weighed f k l
  unfolding weighed
  weighed_padded k [] n m h = weighed_zeros k n m
  weighed_padded k (x ∷ l) zero m h = absurd (omega arith)
  weighed_padded k (x ∷ l) (suc n) m h = omega (arith, weighed_padded (suc k) l n m (omega arith))

  pub weighed_nothing : (k : ℕ) (l : List ℕ) → every (λ a. eqb a 0) l ≡ true → weighed f k l ≡ 0
  unfolding weighed
  weighed_nothing k [] e = refl
  weighed_nothing k (x ∷ l) e =
      let a : x ≡ 0 = eqb-true x 0 (every_head (λ a. eqb a 0) x l e) in
      let b = weighed_nothing (suc k) l (every_tail (λ a. eqb a 0) x l e) in
      omega (arith, ap (λ (m : ℕ). f k * m) a)

-- alike, wherever the places begin
pub alike_anywhere : (i j : ℕ) (l : List ℕ) → weighed alike i l ≡ weighed alike j l
unfolding weighed
alike_anywhere i j [] = refl
alike_anywhere i j (x ∷ l) = ap (λ (n : ℕ). 1 * x + n) (alike_anywhere (suc i) (suc j) l)

-- ---- payouts

pub paid_append : (g : Label → ℕ) (a b : List Label) → paid_out g (a ++ b) ≡ paid_out g a + paid_out g b
unfolding paid_out
paid_append g [] b = omega arith
paid_append g (l ∷ a) b = omega (arith, paid_append g a b)

pick_append : {A : Type 0} (t : Bool) (x : A) (a b c : List A) → c ≡ a ++ b → pick t (x ∷ c) c ≡ pick t (x ∷ a) a ++ b
unfolding pick
pick_append true x a b c e = ap (λ l. x ∷ l) e
pick_append false x a b c e = e

pub payouts_append : (a b : List Label) → payouts_in (a ++ b) ≡ payouts_in a ++ payouts_in b
unfolding payouts_in
payouts_append [] b = refl
payouts_append (l ∷ a) b = pick_append (eqb l.kind asset_label) l (payouts_in a) (payouts_in b) (payouts_in (a ++ b)) (payouts_append a b)

-- ---- integers

pub amounts_append : (a b : List ℤ) → amounts (a ++ b) ≡ amounts a ++ amounts b
unfolding amounts
amounts_append [] b = refl
amounts_append (z ∷ a) b = ap (λ ns. nat_abs z ∷ ns) (amounts_append a b)

deposits_append : (a b : List Deposit) → amounts_of (a ++ b) ≡ amounts_of a ++ amounts_of b
unfolding amounts_of
deposits_append [] b = refl
deposits_append (d ∷ a) b = ap (λ zs. d.amount ∷ zs) (deposits_append a b)

pub brought_append : (a b : List Deposit) → brought (a ++ b) ≡ brought a + brought b
brought_append a b =
    let x = amounts (amounts_of a) in
    let y = amounts (amounts_of b) in
    omega (arith, ap (λ (zs : List ℤ). weighed alike 0 (amounts zs)) (deposits_append a b), ap (weighed alike 0) (amounts_append (amounts_of a) (amounts_of b)), weighed_append alike 0 x y, alike_anywhere (0 + length x) 0 y)

paid_values : (ls : List Label) (k : ℕ) → weighed alike k (amounts (values_of ls)) ≡ paid_out evenly ls
unfolding weighed amounts values_of paid_out
paid_values [] k = refl
paid_values (l ∷ ls) k = omega (arith, paid_values ls (suc k))

-- integers count as they are, below 0 too
pub total_one : (z : ℤ) → total (z ∷ []) ≡ z
unfolding total
total_one z = +ℤ_idr z

-- amounts have the same sum as integers
total_from : (k : ℕ) (zs : List ℤ) → every (le_z (pos 0)) zs ≡ true → total zs ≡ pos (weighed alike k (amounts zs))
unfolding total weighed amounts
total_from k [] e = refl
total_from k (z ∷ zs) e = go z (every_head (le_z (pos 0)) z zs e) (total_from (suc k) zs (every_tail (le_z (pos 0)) z zs e))
  where
    go : (z : ℤ) → le_z (pos 0) z ≡ true → total zs ≡ pos (weighed alike (suc k) (amounts zs)) → z +ℤ total zs ≡ pos (1 * nat_abs z + weighed alike (suc k) (amounts zs))
    go (pos n) e h = let q : n + weighed alike (suc k) (amounts zs) ≡ 1 * n + weighed alike (suc k) (amounts zs) = omega arith in ap (λ x. pos n +ℤ x) h ∙ ap pos q
    go (negsuc n) e h = true_false (sym e)

pub amounts_are : (ds : List Deposit) → every brings ds ≡ true → every (le_z (pos 0)) (amounts_of ds) ≡ true
unfolding every amounts_of
amounts_are [] e = refl
amounts_are (d ∷ ds) e = both_true (brings d) _ (every_head brings d ds e) (amounts_are ds (every_tail brings d ds e))

pub total_brought : (ds : List Deposit) → every brings ds ≡ true → total (amounts_of ds) ≡ pos (brought ds)
total_brought ds e = total_from 0 (amounts_of ds) (amounts_are ds e)

pub values_are : (ls : List Label) → every is_amount ls ≡ true → every (le_z (pos 0)) (values_of ls) ≡ true
unfolding every values_of
values_are [] e = refl
values_are (l ∷ ls) e = both_true (is_amount l) _ (every_head is_amount l ls e) (values_are ls (every_tail is_amount l ls e))

pub total_paid : (ls : List Label) → every is_amount ls ≡ true → total (values_of ls) ≡ pos (paid_out evenly ls)
total_paid ls e = total_from 0 (values_of ls) (values_are ls e) ∙ ap pos (paid_values ls 0)
