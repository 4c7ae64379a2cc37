-- Numbers written over others, one place after the other: those of words, then those that any bytes begin with. Assumes nothing.
use Rattle.std.proofs.Common.{◌≡◌, ◌≢◌, ℕ, zero, suc, ◌+◌, ◌-◌, ◌<◌, ◌≤◌, List, [], ◌∷◌, length, map, drop, get_or, min, sym, ap, ◌∙◌, refl, arith, set, slice_set, inl, inr, eqb, false, ne_eqb}
use Rattle.std.proofs.lemmas.Bool.Decides.{leb_tells}
use Rattle.std.specs.List.{range_with_len, zip, position_or_len, before_first, after_first}
use Rattle.std.proofs.Math.Seq.{drop-cons}
use Rattle.std.proofs.lemmas.List.{length-map, get_or-map, set_past, drop_all}
use Rattle.std.proofs.lemmas.List.FromFn.{get_or-range_with_len, length-range_with_len}
use Rattle.std.proofs.lemmas.List.Elements.{All-from_get_or}
use Rattle.std.proofs.lemmas.List.Splits.{slice_split_first, slice_split_none}
use Rattle.std.proofs.lemmas.Slice.Zip.{length-zip, get_or-zip}
use Rattle.trial_text.specs.Numbers.{words, natural, overwritten, stored, behind, leading_natural, leading_stored}

-- nothing is written past the end
past_end : (at : ℕ) (ns xs : List ℕ) → length xs ≤ at → overwritten at ns xs ≡ xs
past_end at [] xs h = refl
past_end at (n ∷ ns) xs h = let same = set_past xs at n h in rw same (past_end (at + 1) ns xs (omega arith))

-- which place and which word come at a turn
pub record Turn (from n k : ℕ) (ws : List (List ℕ)) (place : ℕ) (word : List ℕ) : Type 0 where
  pub at : place ≡ from + k
  pub room : k < n
  pub more : k < length ws
  pub is : word ≡ get_or ws k word

pub turn : (from n k : ℕ) (ws : List (List ℕ)) (p : ℕ × List ℕ) → k < length (zip (range_with_len from n) ws) → p ≡ get_or (zip (range_with_len from n) ws) k p → Turn from n k ws p.0 p.1
turn from n k ws p below is =
    let places = range_with_len from n in
    let size : length places ≡ n = length-range_with_len from n in
    let least : length (zip places ws) ≡ min (length places) (length ws) = length-zip places ws in
    let room : k < n = omega (arith, least, size) in
    let more : k < length ws = omega (arith, least) in
    let pair : get_or (zip places ws) k p ≡ (get_or places k p.0, get_or ws k p.1) = get_or-zip places ws k p (omega arith) more in
    record { at = ap (λ q. q.0) (is ∙ pair) ∙ get_or-range_with_len from n k p.0 room; room = room; more = more; is = ap (λ q. q.1) (is ∙ pair) }

-- the number of a word is written in its place
pub written : (from n k : ℕ) (ws : List (List ℕ)) (place : ℕ) (word : List ℕ) (xs : List ℕ) (m : ℕ) → Turn from n k ws place word → m ≡ natural 64 word → overwritten (from + (k + 1)) (drop (k + 1) (map (natural 64) ws)) (set xs place m) ≡ overwritten (from + k) (drop k (map (natural 64) ws)) xs
written from n k ws place word xs m t e =
    let ns = map (natural 64) ws in
    let more : k < length ns = omega (arith, length-map ws (natural 64), t.more) in
    let first : get_or ns k 0 ≡ m = get_or-map (natural 64) ws k word 0 t.more ∙ ap (natural 64) (sym t.is) ∙ sym e in
    let one : suc k ≡ k + 1 = omega arith in
    let cut : drop k ns ≡ m ∷ drop (k + 1) ns = drop-cons ns k 0 more ∙ ap (λ v. v ∷ drop (suc k) ns) first ∙ ap (λ j. m ∷ drop j ns) one in
    let next : from + k + 1 ≡ from + (k + 1) = omega arith in
    sym (ap (λ l. overwritten (from + k) l xs) cut ∙ ap (λ j. overwritten j (drop (k + 1) ns) (set xs (from + k) m)) next ∙ ap (λ j. overwritten (from + (k + 1)) (drop (k + 1) ns) (set xs j m)) (sym t.at))

-- where the places or the words end, all is written
pub all_written : (from n k : ℕ) (ws : List (List ℕ)) (xs : List ℕ) → k ≡ length (zip (range_with_len from n) ws) → length xs ≤ from + n → overwritten (from + k) (drop k (map (natural 64) ws)) xs ≡ xs
all_written from n k ws xs e size =
    let ns = map (natural 64) ws in
    let places = range_with_len from n in
    let least : length (zip places ws) ≡ min (length places) (length ws) = length-zip places ws in
    let room : length places ≡ n = length-range_with_len from n in
    let some : length ns ≡ length ws = length-map ws (natural 64) in
    elim (leb_tells n k) [
      | inl h ↦ past_end (from + k) (drop k ns) xs (omega (arith, h.1))
      | inr h ↦ ap (λ l. overwritten (from + k) l xs) (drop_all k ns (omega (arith, h.1, least, room, some)))
    ]

-- a line of a word, a space and a rest
pub stored_behind : (line place rest xs : List ℕ) (n : ℕ) {new : List ℕ} → position_or_len (λ b. eqb b 32) line < length line → place ≡ before_first (λ b. eqb b 32) line → rest ≡ after_first (λ b. eqb b 32) line → n ≡ natural 64 place → new ≡ overwritten n (map (natural 64) (words rest)) xs → new ≡ stored line xs
stored_behind line place rest xs n inside front back from e =
    let cut : words line ≡ place ∷ words rest = slice_split_first (λ b. eqb b 32) line 0 inside ∙ ap (λ w. w ∷ words (after_first (λ b. eqb b 32) line)) (sym front) ∙ ap (λ w. place ∷ words w) (sym back) in
    rw cut (e ∙ ap (λ k. overwritten k (map (natural 64) (words rest)) xs) from)

-- a line of one word
pub stored_none : (line xs : List ℕ) → ((i : ℕ) → i < length line → get_or line i 0 ≢ 32) → xs ≡ stored line xs
stored_none line xs h =
    let one : words line ≡ line ∷ [] = slice_split_none (λ b. eqb b 32) line (All-from_get_or (λ b. eqb b 32 ≡ false) line 0 (λ i l. ne_eqb (get_or line i 0) 32 (h i l))) in
    rw one refl

-- ---- by what any bytes begin with

-- one place more
pub stored_one : (n at : ℕ) (text numbers : List ℕ) → at < n → 0 < length text → leading_stored (n - (at + 1)) (at + 1) (behind text) (slice_set numbers at (leading_natural text)) ≡ leading_stored (n - at) at text numbers
unfolding leading_stored
stored_one n at [] numbers h k = absurd (omega (arith, k))
stored_one n at (b ∷ more) numbers h k = let left : n - at ≡ suc (n - (at + 1)) = omega (arith, h) in let next : at + 1 ≡ suc at = omega arith in rw left (rw next refl)

-- no place is left, or nothing of the text
pub stored_full : (n at : ℕ) (text numbers : List ℕ) → n ≤ at → leading_stored (n - at) at text numbers ≡ numbers
unfolding leading_stored
stored_full n at text numbers h = let none : n - at ≡ zero = omega (arith, h) in rw none refl

pub stored_end : (n at : ℕ) (text numbers : List ℕ) → length text ≡ 0 → leading_stored n at text numbers ≡ numbers
unfolding leading_stored
stored_end zero at text numbers h = refl
stored_end (suc n) at [] numbers h = refl
stored_end (suc n) at (b ∷ more) numbers h = absurd (omega (arith, h))
