-- Names of a table, stored one byte a turn, and spaces. Assumes nothing.
use mathlib.Core.Path.{◌≡◌, refl, sym, ap, ◌∙◌}
use mathlib.Core.List.{List, [], ◌∷◌, map}
use Prim.Native.Nat.{ℕ, zero, suc, ◌+◌, ◌-◌, ◌%◌, ◌<◌, min}
use native.Mathlib.Omega.{arith}
use lib.ListN.{length, get_or, set, drop, length-take, length-drop, length-map, length-replicate}
use lib.Seq.{sets, get_or-take, get_or-drop}
use Rattle.contract.specs.Table.{word_at}
use Rattle.contract.specs.Decode.{word_of}
use Rattle.printing.specs.Pieces.{spaces, name_bytes}
use Rattle.printing.proofs.Puts.{store_next}

-- ---- names

map_at : (f : ℕ → ℕ) (l : List ℕ) (i : ℕ) → i < length l → get_or (map f l) i 0 ≡ f (get_or l i 0)
map_at f [] i h = absurd (omega arith)
map_at f (x ∷ l) zero h = refl
map_at f (x ∷ l) (suc i) h = map_at f l i (omega arith)

pub name_long : (w : List ℕ) (o : ℕ) → length (name_bytes w o) ≡ min (word_at w o) (length w - (o + 1))
name_long w o = length-map (word_of w o) (λ b. b % 256) ∙ length-take (word_at w o) (drop (o + 1) w) ∙ ap (min (word_at w o)) (length-drop (o + 1) w)

-- by the words l that a name has
module _ (w : List ℕ) (o : ℕ) {l : List ℕ} (e : l ≡ word_of w o) where
  pub as_long : length (name_bytes w o) ≡ length l
  as_long = length-map (word_of w o) (λ b. b % 256) ∙ sym (ap (length {A = ℕ}) e)

  name_at : (i : ℕ) → i < length l → get_or l i 0 % 256 ≡ get_or (name_bytes w o) i 0
  name_at i h = ap (λ (v : List ℕ). get_or v i 0 % 256) e ∙ sym (map_at (λ b. b % 256) (word_of w o) i (omega (arith, h, ap (length {A = ℕ}) e)))

  pub name_next : (new : List ℕ) (at i : ℕ) → i < length l
      → sets (set new (at + i) (get_or l i 0 % 256)) (at + (i + 1)) (drop (i + 1) (name_bytes w o)) ≡ sets new (at + i) (drop i (name_bytes w o))
  name_next new at i h =
      ap (λ (v : ℕ). sets (set new (at + i) v) (at + (i + 1)) (drop (i + 1) (name_bytes w o))) (name_at i h)
      ∙ store_next new (name_bytes w o) at i (omega (arith, as_long, h))

-- words that are bytes are their own bytes
bytes_are : (l : List ℕ) → ((i : ℕ) → i < length l → get_or l i 0 < 256) → map (λ b. b % 256) l ≡ l
bytes_are [] h = refl
bytes_are (x ∷ l) h =
    let b : x < 256 = h 0 (omega arith) in
    let e : x % 256 ≡ x = omega arith in
    (λ k. e k ∷ bytes_are l (λ i j. h (suc i) (omega arith)) k)

-- a name whose words are all there and are bytes
pub name_is : (w : List ℕ) (o : ℕ) → ((i : ℕ) → i < word_at w o → word_at w (o + 1 + i) < 256) → name_bytes w o ≡ word_of w o
name_is w o h = bytes_are (word_of w o) λ i l.
    let k : i < word_at w o = omega (arith, length-take (word_at w o) (drop (o + 1) w)) in
    let g : get_or (word_of w o) i 0 ≡ word_at w (o + 1 + i) = get_or-take (word_at w o) (drop (o + 1) w) i 0 k ∙ get_or-drop (o + 1) w i 0 in
    omega (arith, g, h i k)

-- ---- spaces

pub spaces_long : (n : ℕ) → length (spaces n) ≡ n
spaces_long n = length-replicate n 32
