-- Bytes and lines as they are shown, stored one byte a turn; the front of a buffer. Assumes nothing.
use mathlib.Core.Path.{◌≡◌, refl, sym, ap, ◌∙◌}
use mathlib.Core.List.{List, [], ◌∷◌, ◌++◌, map}
use Prim.Native.Nat.{ℕ, zero, suc, ◌+◌, ◌<◌, ◌≤◌, min}
use native.Mathlib.Omega.{arith}
use lib.ListN.{length, get_or, take, length-take, length-map}
use lib.Seq.{get_or-take}
use Rattle.std.proofs.Common.{take_all}
use Rattle.printing.specs.Pieces.{Put}
use Rattle.printing.proofs.Puts.{Puts, kept, put_of, same, put_nothing, then}
use Rattle.diagnoses.specs.Diagnoses.{shown, shown_line}

-- ---- a line

map_at : (l : List ℕ) (i : ℕ) → i < length l → get_or (map shown l) i 0 ≡ shown (get_or l i 0)
map_at [] i h = absurd (omega arith)
map_at (x ∷ l) zero h = refl
map_at (x ∷ l) (suc i) h = map_at l i (omega arith)

pub shown_long : (line : List ℕ) → length (shown_line line) ≡ min 200 (length line)
unfolding shown_line
shown_long line = length-map (take 200 line) shown ∙ length-take 200 line

shown_at : (line : List ℕ) (i : ℕ) → i < min 200 (length line) → get_or (shown_line line) i 0 ≡ shown (get_or line i 0)
unfolding shown_line
shown_at line i h =
    let l : i < 200 = omega arith in
    map_at (take 200 line) i (omega (arith, length-take 200 line)) ∙ ap shown (get_or-take 200 line i 0 l)

take_more : (l : List ℕ) (i : ℕ) → i < length l → take i l ++ (get_or l i 0 ∷ []) ≡ take (suc i) l
take_more [] i h = absurd (omega arith)
take_more (x ∷ l) zero h = refl
take_more (x ∷ l) (suc i) h = ap (λ (k : List ℕ). x ∷ k) (take_more l i (omega arith))

-- its first i bytes are put
pub record Showing (line : List ℕ) (old : List ℕ) (at : ℕ) (i : ℕ) (new : List ℕ) (end : ℕ) : Type 0 where
  pub shown : Put old at (take i (shown_line line)) end new

module _ {line : List ℕ} {old : List ℕ} {at : ℕ} where
  pub none_shown : at + 200 ≤ length old → Showing line old at 0 old at
  none_shown h = record { shown = put_nothing (omega arith) }

  module _ {i : ℕ} {new : List ℕ} {end : ℕ} (s : Showing line old at i new end) where
    pub more_shown : {s1 : Type 0} {b : ℕ} {next : List ℕ} {past : ℕ} → at + 200 ≤ length old → i < min 200 (length line) → b ≡ shown (get_or line i 0) → Puts new end (b ∷ []) past next s1
        → Showing line old at (i + 1) next past
    more_shown {b} r h e p =
        let l : i < length (shown_line line) = omega (arith, shown_long line) in
        let k : suc i ≡ i + 1 = omega arith in
        let room : end + 1 ≤ length new = omega (arith, s.shown.place, kept s.shown, length-take i (shown_line line)) in
        record {
          shown =
              same (ap (λ (v : ℕ). take i (shown_line line) ++ (v ∷ [])) (e ∙ sym (shown_at line i h)) ∙ take_more (shown_line line) i l ∙ ap (λ (n : ℕ). take n (shown_line line)) k)
              (then s.shown (put_of (b ∷ []) p room));
        }

    pub all_shown : min 200 (length line) ≤ i → Put old at (shown_line line) end new
    all_shown h = same (take_all i (shown_line line) (omega (arith, shown_long line))) s.shown
