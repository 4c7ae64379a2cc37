-- The first slot that has a word. Assumes nothing.
use mathlib.Core.Path.{◌≡◌, refl, sym, ap, ◌∙◌}
use mathlib.Core.Bool.{Bool, true, false, ◌||◌}
use Rattle.std.specs.List.{list_any, range_with_len}
use mathlib.Core.List.{List}
use Prim.Native.Nat.{ℕ, zero, suc, ◌+◌, ◌-◌, ◌*◌, ◌<◌, ◌≤◌}
use native.Mathlib.Omega.{arith}
use lib.ListN.{length, get_or, drop, drop_of_length-le}
use borrow.Author.Tests.{eq-eqb, ne_eqb}
use lib.Dec.{eqb}
use Rattle.laws.specs.Choice.{pick}
use Rattle.laws.specs.Bytes.{same_bytes}
use Rattle.laws.proofs.Choice.{pick_true, pick_false}
use Rattle.laws.proofs.Lists.{cons_at}
use Rattle.entries.specs.Draft.{slot_is, find_from, Skips, among_in, is_declared}

-- ---- one turn of the comparison, and its end
module _ (a b : List ℕ) (i : ℕ) where
  pub same_more : i < length a → i < length b → get_or a i 0 ≡ get_or b i 0 → same_bytes (drop i a) (drop i b) ≡ same_bytes (drop (i + 1) a) (drop (i + 1) b)
  unfolding same_bytes pick
  same_more h k e = (λ j. same_bytes (cons_at a i h j) (cons_at b i k j)) ∙ rw (eq-eqb (get_or a i 0) (get_or b i 0) e)

  pub same_other : i < length a → i < length b → (get_or a i 0 ≡ get_or b i 0 → ⊥) → same_bytes (drop i a) (drop i b) ≡ false
  unfolding same_bytes pick
  same_other h k e = (λ j. same_bytes (cons_at a i h j) (cons_at b i k j)) ∙ rw (ne_eqb (get_or a i 0) (get_or b i 0) e)

  pub same_all : length a ≤ i → length b ≤ i → same_bytes (drop i a) (drop i b) ≡ true
  unfolding same_bytes
  same_all h k = λ j. same_bytes (drop_of_length-le a h j) (drop_of_length-le b k j)

-- ---- one turn of the search, and its end
module _ (s n : List ℕ) (m : ℕ) (w : List ℕ) (j i many : ℕ) where
  step : i < many → find_from s n m w j i (many - i) ≡ pick (slot_is s n (j + i) m w) i (find_from s n m w j (i + 1) (many - (i + 1)))
  unfolding find_from
  step h = ap (find_from s n m w j i) e
    where
      e : many - i ≡ suc (many - (i + 1))
      e = omega arith

  pub find_more : i < many → slot_is s n (j + i) m w ≡ false → find_from s n m w j i (many - i) ≡ find_from s n m w j (i + 1) (many - (i + 1))
  find_more h e = step h ∙ pick_false _ _ _ e

  pub find_hit : i < many → slot_is s n (j + i) m w ≡ true → find_from s n m w j i (many - i) ≡ i
  find_hit h e = step h ∙ pick_true _ _ _ e

  pub find_end : many ≤ i → find_from s n m w j i (many - i) ≡ i
  unfolding find_from
  find_end h = ap (find_from s n m w j i) e
    where
      e : many - i ≡ zero
      e = omega arith

-- ---- how the search begins, and what it gives
module _ (s n w : List ℕ) where
  pub find_none : (m j many : ℕ) → find_from s n m w j 0 many ≡ find_from s n m w j 0 (many - 0)
  find_none m j many = ap (find_from s n m w j 0) (omega arith)

  -- a declared name, by the kinds asked one after the other
  pub declared_any : list_any (λ k. among_in s n k w) (range_with_len 0 5) ≡ is_declared s n w
  unfolding is_declared pick
  declared_any = go (among_in s n 0 w) (among_in s n 1 w) (among_in s n 2 w) (among_in s n 3 w) (among_in s n 4 w)
    where
      go : (a b c d e : Bool) → (a || (b || (c || (d || (e || false))))) ≡ pick a true (pick b true (pick c true (pick d true e)))
      go true b c d e = refl
      go false true c d e = refl
      go false false true d e = refl
      go false false false true e = refl
      go false false false false true = refl
      go false false false false false = refl

-- ---- one slot
module _ (s n : List ℕ) (j m x : ℕ) (w : List ℕ) (f : x ≡ get_or n (16 + 3 * j) 0) where
  pub slot_other : (x ≡ m → ⊥) → false ≡ slot_is s n j m w
  unfolding slot_is
  slot_other h = sym (pick_false _ _ _ (sym (ap (λ (v : ℕ). eqb v m) f) ∙ ne_eqb x m h))

-- ---- slots without a mark are skipped
module _ (n : List ℕ) (m j many : ℕ) where
  pub skip_none : Skips n m j 0 many 0
  unfolding Skips
  skip_none = (omega arith, λ s w. refl)

  pub skip_most : (i : ℕ) → Skips n m j 0 many i → i ≤ many
  unfolding Skips
  skip_most i h = h.0

  pub skip_to : (s w : List ℕ) (i : ℕ) → Skips n m j 0 many i → find_from s n m w j 0 many ≡ find_from s n m w j i (many - i)
  unfolding Skips
  skip_to s w i h = find_none s n w m j many ∙ h.1 s w

  pub skip_one : (i : ℕ) → Skips n m j 0 many i → i < many → (get_or n (16 + 3 * (j + i)) 0 ≡ m → ⊥) → Skips n m j 0 many (i + 1)
  unfolding Skips
  skip_one i h l d =
      (omega (arith, l), λ s w. h.1 s w ∙ find_more s n m w j i many l (sym (slot_other s n (j + i) m (get_or n (16 + 3 * (j + i)) 0) w refl d)))
