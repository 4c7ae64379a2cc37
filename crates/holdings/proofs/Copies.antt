-- Lists that a loop copies, and the holdings that statements begin with. Assumes nothing.
use mathlib.Core.Path.{◌≡◌, refl, sym, ap, subst, ◌∙◌}
use mathlib.Core.List.{List, [], ◌∷◌, ◌++◌}
use Prim.Native.Nat.{ℕ, zero, suc, ◌+◌, ◌-◌, ◌<◌, ◌≤◌}
use native.Mathlib.Numerals.{add-one}
use native.Mathlib.Omega.{arith}
use lib.ListN.{length, get_or, take, set, length-append, length-set, get_or-append}
use lib.Seq.{take-append-le, take_all, take-suc, take-suc-set, get_or-take, get_or-append-add, length-take-le}
use lib.IntN.{ℤ, pos, nat_abs}
use Rattle.laws.proofs.Members.{repeated_at}
use mathlib.Core.Bool.{Bool, ◌&&◌}
use Rattle.std.specs.List.{list_all}
use Rattle.laws.specs.Lists.{every, repeated}
use Rattle.holdings.specs.Holdings.{amounts}
use Rattle.holdings.specs.Holdings.{holdings_of}
use Rattle.laws.proofs.Members.{repeated_length}

-- ---- a copy of a list's first n, its first i made
pub record Copied (l out : List ℕ) (n i : ℕ) : Type 0 where
  pub room : length out ≡ n
  pub same : take i out ≡ take i l

pub copied_none : (l out : List ℕ) (n : ℕ) → length out ≡ n → Copied l out n 0
copied_none l out n h = record { room = h; same = refl }

pub copied_more : {l out : List ℕ} {n i : ℕ} (x : ℕ) → Copied l out n i → i < n → n ≤ length l → x ≡ get_or l i 0 → Copied l (set out i x) n (i + 1)
copied_more {l} {out} {n} {i} x c h k e =
    let r : length out ≡ n = c.room in
    let a : i < length out = omega arith in
    let b : i < length l = omega arith in
    record {
      room = length-set out i x ∙ r;
      same = rw (add-one) (take-suc-set out i x a ∙ (λ j. c.same j ++ (e j ∷ [])) ∙ sym (take-suc l i 0 b));
    }

pub copied_all : {l out : List ℕ} {n i : ℕ} → Copied l out n i → n ≡ i → out ≡ take n l
copied_all {l} {out} {n} {i} c h =
    let r : length out ≤ i = omega (arith, c.room) in
    sym (take_all i out r) ∙ c.same ∙ ap (λ (k : ℕ). take k l) (sym h)

-- ---- tests of each
pub all_every : {A : Type 0} (p : A → Bool) (l : List A) → list_all p l ≡ every p l
unfolding every
all_every p [] = refl
all_every p (x ∷ l) = ap (λ (b : Bool). p x && b) (all_every p l)

-- ---- amounts
pub amount_at : (zs : List ℤ) (j : ℕ) → nat_abs (get_or zs j (pos 0)) ≡ get_or (amounts zs) j 0
unfolding amounts
amount_at [] zero = refl
amount_at [] (suc j) = refl
amount_at (z ∷ zs) zero = refl
amount_at (z ∷ zs) (suc j) = amount_at zs j

-- ---- holdings
-- zeros after a list change none of its numbers
with_zeros : (l : List ℕ) (n k : ℕ) → get_or (l ++ repeated n 0) k 0 ≡ get_or l k 0
with_zeros [] n zero = repeated_at n 0 0
with_zeros [] n (suc k) = repeated_at n 0 (suc k)
with_zeros (x ∷ l) n zero = refl
with_zeros (x ∷ l) n (suc k) = with_zeros l n k

module _ (held : List ℕ) (zs : List ℤ) (full : length held ≡ 16) where
  front : length (take 16 held) ≡ 16
  front = length-take-le 16 held (omega arith)

  back : length (take 4 (amounts zs ++ repeated 4 0)) ≡ 4
  back = length-take-le 4 (amounts zs ++ repeated 4 0) (omega (arith, length-append (amounts zs) (repeated 4 0), repeated_length {A = ℕ} 4 0))

  pub holdings_length : length (holdings_of held zs) ≡ 20
  unfolding holdings_of
  holdings_length = omega (arith, length-append (take 16 held) (take 4 (amounts zs ++ repeated 4 0)), front, back)

  pub asset_holding : (i : ℕ) → i < 16 → get_or held i 0 ≡ get_or (holdings_of held zs) i 0
  unfolding holdings_of
  asset_holding i h =
      let k : i < length (take 16 held) = omega (arith, front) in
      sym (get_or-append (take 16 held) _ 0 i k ∙ get_or-take 16 held i 0 h)

  pub parameter_holding : (i : ℕ) → 16 ≤ i → i < 20 → get_or (amounts zs) (i - 16) 0 ≡ get_or (holdings_of held zs) i 0
  unfolding holdings_of
  parameter_holding i h k =
      let b = take 4 (amounts zs ++ repeated 4 0) in
      let e : i ≡ length (take 16 held) + (i - 16) = omega (arith, front) in
      let j : i - 16 < 4 = omega arith in
      sym (ap (λ (m : ℕ). get_or (take 16 held ++ b) m 0) e
      ∙ get_or-append-add (take 16 held) b (i - 16) 0
      ∙ get_or-take 4 (amounts zs ++ repeated 4 0) (i - 16) 0 j
      ∙ with_zeros (amounts zs) 4 (i - 16))

  -- the assets' copied
  pub held_copied : (out rest : List ℕ) → out ≡ held ++ rest → length rest ≡ 4 → Copied (holdings_of held zs) out 20 16
  unfolding holdings_of
  held_copied out rest e l =
      let b = take 4 (amounts zs ++ repeated 4 0) in
      let f : length (take 16 held) ≤ 16 = omega (arith, front) in
      let g : 16 ≤ length (take 16 held) = omega (arith, front) in
      let h : 16 ≤ length held = omega arith in
      record {
        room = ap length e ∙ length-append held rest ∙ omega arith;
        same =
            ap (take 16) e ∙ take-append-le 16 held rest h
            ∙ sym (take-append-le 16 (take 16 held) b g ∙ take_all 16 (take 16 held) f);
      }

  -- one amount more set after them
  pub holding_more : {out : List ℕ} {i : ℕ} (j a : ℕ) → Copied (holdings_of held zs) out 20 i → i ≡ 16 + j → j < 4 → a ≡ get_or (amounts zs) j 0
      → Copied (holdings_of held zs) (set out (16 + j) a) 20 (16 + (j + 1))
  holding_more {out} {i} j a m e h q =
      let k : 20 ≤ length (holdings_of held zs) = omega (arith, holdings_length) in
      let z : 16 + j - 16 ≡ j = omega arith in
      let n : 16 + j + 1 ≡ 16 + (j + 1) = omega arith in
      let m0 : Copied (holdings_of held zs) out 20 (16 + j) = subst (Copied (holdings_of held zs) out 20) e m in
      let p = q ∙ ap (λ (x : ℕ). get_or (amounts zs) x 0) (sym z) ∙ parameter_holding (16 + j) (omega arith) (omega arith) in
      subst (Copied (holdings_of held zs) (set out (16 + j) a) 20) n (copied_more a m0 (omega arith) k p)

  -- all set
  pub holdings_made : {out : List ℕ} {i : ℕ} → Copied (holdings_of held zs) out 20 i → i ≡ 20 → out ≡ holdings_of held zs
  holdings_made {out} {i} m e = copied_all m (sym e) ∙ take_all 20 (holdings_of held zs) (omega (arith, holdings_length))
