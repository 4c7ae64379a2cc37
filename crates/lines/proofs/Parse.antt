-- What the parsers of tokens give, by the bytes that stand there. Assumes nothing.
use mathlib.Core.Path.{◌≡◌, refl, sym, ap, subst, ◌∙◌}
use mathlib.Core.Bool.{Bool, true, false}
use mathlib.Core.List.{List, [], ◌∷◌}
use Prim.Native.Nat.{ℕ, zero, suc, ◌+◌, ◌^◌, ◌<◌, ◌≤◌, min}
use native.Mathlib.Omega.{arith}
use lib.ListN.{length, get_or, drop, get_or-eq_default}
use lib.Dec.{ltb, leb}
use lib.IntN.{ℤ, pos, neg_ℤ}
use borrow.Author.Tests.{le-ltb, eq-eqb, ne_eqb, ltb-true, ltb-false, leb-true, leb-false}
use Rattle.laws.specs.Choice.{pick}
use Rattle.laws.specs.Bytes.{starts_with}
use Rattle.laws.proofs.Choice.{pick_true, pick_false}
use Rattle.laws.proofs.Lists.{cons_at, past}
use Rattle.numbers.specs.Numbers.{within}
use Rattle.tokens.specs.Classes.{is_letter, is_digit, is_name_byte, run, decimal}
use Rattle.tokens.specs.Tokens.{digits_at}
use Rattle.tokens.specs.declared.Digits.{Digits}
use Rattle.lines.specs.Lines.{Parsed, done, no, skipped, is_next, mark, end, name_from, name, digits, integer}
use Rattle.std.specs.Prelude.{Option, Some, None}
use Rattle.lines.specs.Private.{Spot, moved, Gave, is_done, ranged, sign_of}
use Rattle.lines.proofs.Got.{gave_none}

-- ---- marks

module _ (s : List ℕ) (at : ℕ) where
  pub next_is : (b : ℕ) → skipped s at < length s → get_or s (skipped s at) 0 ≡ b → is_next s (b ∷ []) at ≡ true
  unfolding is_next starts_with pick
  next_is b h e = rw (cons_at s (skipped s at) h, eq-eqb (get_or s (skipped s at) 0) b e)

  pub next_not : (b : ℕ) (m : List ℕ) → skipped s at < length s → (get_or s (skipped s at) 0 ≡ b → ⊥) → is_next s (b ∷ m) at ≡ false
  unfolding is_next starts_with pick
  next_not b m h e = rw (cons_at s (skipped s at) h, ne_eqb (get_or s (skipped s at) 0) b e)

  pub next_past : (b : ℕ) (m : List ℕ) → length s ≤ skipped s at → is_next s (b ∷ m) at ≡ false
  unfolding is_next starts_with
  next_past b m h = past (λ (t : List ℕ). starts_with t (b ∷ m)) s (skipped s at) h

  pub mark_is : (m : List ℕ) → is_next s m at ≡ true → mark s m at ≡ done tt (skipped s at + length m)
  unfolding mark
  mark_is m e = pick_true _ _ _ e

  pub mark_not : (m : List ℕ) → is_next s m at ≡ false → mark s m at ≡ no
  unfolding mark
  mark_not m e = pick_false _ _ _ e

-- the same by a place i that code found
module _ (s : List ℕ) (at : ℕ) {i : ℕ} (skip : i ≡ skipped s at) where
  here_is : (b : ℕ) → i < length s → get_or s i 0 ≡ b → is_next s (b ∷ []) at ≡ true
  here_is b h q = next_is s at b (subst (λ (k : ℕ). k < length s) skip h) (ap (λ (k : ℕ). get_or s k 0) (sym skip) ∙ q)

  here_not : (b : ℕ) (m : List ℕ) → i < length s → (get_or s i 0 ≡ b → ⊥) → is_next s (b ∷ m) at ≡ false
  here_not b m h q = next_not s at b m (subst (λ (k : ℕ). k < length s) skip h) (λ e. q (ap (λ (k : ℕ). get_or s k 0) skip ∙ e))

  here_past : (b : ℕ) (m : List ℕ) → length s ≤ i → is_next s (b ∷ m) at ≡ false
  here_past b m h = next_past s at b m (subst (λ (k : ℕ). length s ≤ k) skip h)

  -- a mark, by the bytes that stand there
  module _ (m : List ℕ) where
    goes : {t : Bool} → t ≡ starts_with (drop i s) m → is_next s m at ≡ t
    unfolding is_next
    goes e = sym (e ∙ ap (λ (k : ℕ). starts_with (drop k s) m) skip)

    pub mark_then : {t : Bool} → t ≡ starts_with (drop i s) m → t ≡ true → mark s m at ≡ done tt (i + length m)
    mark_then e q = mark_is s at m (goes e ∙ q) ∙ ap (λ (k : ℕ). done tt (k + length m)) (sym skip)

    pub mark_else : {t : Bool} → t ≡ starts_with (drop i s) m → t ≡ false → mark s m at ≡ no
    mark_else e q = mark_not s at m (goes e ∙ q)

  pub end_is : leb (length s) i ≡ is_done (end s at)
  unfolding end pick
  end_is = ap (leb (length s)) skip ∙ go (leb (length s) (skipped s at))
    where
      go : (b : Bool) → b ≡ is_done (pick {A = Parsed Unit} b (done tt at) no)
      go true = refl
      go false = refl

-- ---- integers

module _ (old : Spot) where
  ranged_gave : (z : ℤ) (n : ℕ) → Gave (λ (y : ℤ). y) (pick (within z) (done z n) no) old (ranged z) (moved old n)
  unfolding pick
  ranged_gave z n = go (within z)
    where
      go : (b : Bool) → Gave (λ (y : ℤ). y) (pick b (done z n) no) old (pick b (Some z) None) (moved old n)
      go true = (refl, refl)
      go false = refl

  module _ (sign : ℤ → ℤ) (far : (m : ℕ) → 2 ^ 63 < m → within (sign (pos m)) ≡ false) where
    -- a magnitude that is kept up to 2 ^ 63 + 1
    capped : (d n : ℕ) → Gave (λ (y : ℤ). y) (pick (within (sign (pos d))) (done (sign (pos d)) n) no) old (ranged (sign (pos (min d 9223372036854775809)))) (moved old n)
    capped d n = go (leb d 9223372036854775809) refl
      where
        go : (b : Bool) → leb d 9223372036854775809 ≡ b → Gave (λ (y : ℤ). y) (pick (within (sign (pos d))) (done (sign (pos d)) n) no) old (ranged (sign (pos (min d 9223372036854775809)))) (moved old n)
        go true e =
            let h : d ≤ 9223372036854775809 = leb-true d 9223372036854775809 e in
            let q : d ≡ min d 9223372036854775809 = omega arith in
            subst (λ (m : ℕ). Gave (λ (y : ℤ). y) (pick (within (sign (pos d))) (done (sign (pos d)) n) no) old (ranged (sign (pos m))) (moved old n)) q (ranged_gave (sign (pos d)) n)
        go false e =
            let h : 9223372036854775809 < d = leb-false d 9223372036854775809 e in
            gave_none (λ (y : ℤ). y) old (moved old n) (pick_false _ _ _ (far d (omega arith))) (pick_false _ _ _ (far (min d 9223372036854775809) (omega arith)))

    module _ (s : List ℕ) (i : ℕ) where
      pub digits_some : {d : Digits} {r : Option ℤ} → is_digit (get_or s i 0) ≡ true → d ≡ digits_at s i → r ≡ ranged (sign (pos d.value)) → Gave (λ (y : ℤ). y) (digits s sign i) old r (moved old d.end)
      unfolding digits
      digits_some {d} {r} t f e =
          subst (λ (p : Parsed ℤ). Gave (λ (y : ℤ). y) p old r (moved old d.end)) (sym (pick_true _ _ _ t))
          (subst (λ (o : Option ℤ). Gave (λ (y : ℤ). y) (pick (within (sign (pos (decimal 0 (drop i s))))) (done (sign (pos (decimal 0 (drop i s)))) (i + run is_digit (drop i s))) no) old o (moved old d.end)) (sym e)
          (subst (λ (x : Digits). Gave (λ (y : ℤ). y) (pick (within (sign (pos (decimal 0 (drop i s))))) (done (sign (pos (decimal 0 (drop i s)))) (i + run is_digit (drop i s))) no) old (ranged (sign (pos x.value))) (moved old x.end)) (sym f)
          (capped (decimal 0 (drop i s)) (i + run is_digit (drop i s)))))

pub digits_none : (sign : ℤ → ℤ) (s : List ℕ) (i : ℕ) → is_digit (get_or s i 0) ≡ false → digits s sign i ≡ no
unfolding digits
digits_none sign s i d = pick_false _ _ _ d

pub far_signed : (minus : Bool) (m : ℕ) → 2 ^ 63 < m → within (sign_of minus (pos m)) ≡ false
far_signed false m h = le-ltb m (2 ^ 63) (omega arith)
far_signed true zero h = absurd (omega arith)
far_signed true (suc m) h = le-ltb m (2 ^ 63) (omega arith)

module _ (s : List ℕ) (at : ℕ) {i : ℕ} (skip : i ≡ skipped s at) where
  pub minus_within : get_or s i 0 ≡ 45 → i < length s
  minus_within q = go (ltb i (length s)) refl
    where
      go : (b : Bool) → ltb i (length s) ≡ b → i < length s
      go true e = ltb-true i (length s) e
      go false e = let z = get_or-eq_default s 0 (ltb-false i (length s) e) in absurd (omega arith)

  pub integer_minus : get_or s i 0 ≡ 45 → integer s at ≡ digits s (sign_of true) (i + 1)
  unfolding integer
  integer_minus q = pick_true _ _ _ (here_is s at skip 45 (minus_within q) q) ∙ ap (λ (k : ℕ). digits s neg_ℤ (k + 1)) (sym skip)

  pub integer_plain : (get_or s i 0 ≡ 45 → ⊥) → integer s at ≡ digits s (sign_of false) i
  unfolding integer
  integer_plain q = pick_false _ _ _ (go (ltb i (length s)) refl) ∙ ap (digits s (λ z. z)) (sym skip)
    where
      go : (b : Bool) → ltb i (length s) ≡ b → is_next s (45 ∷ []) at ≡ false
      go true e = here_not s at skip 45 [] (ltb-true i (length s) e) q
      go false e = here_past s at skip 45 [] (ltb-false i (length s) e)

  -- ---- names

  pub name_some : {e : ℕ} → is_letter (get_or s i 0) ≡ true → e ≡ i + run is_name_byte (drop i s) → name s at ≡ done (record { start = i; end = e }) e
  unfolding name name_from
  name_some {e} l q = ap (name_from s) (sym skip) ∙ pick_true _ _ _ l ∙ sym (ap (λ (n : ℕ). done (record { start = i; end = n }) n) q)

  pub name_none : is_letter (get_or s i 0) ≡ false → name s at ≡ no
  unfolding name name_from
  name_none l = ap (name_from s) (sym skip) ∙ pick_false _ _ _ l
