-- The entries that lent lists give. Assumes nothing.
use mathlib.Core.Path.{◌≡◌, refl, sym, ap, ◌∙◌}
use mathlib.Core.List.{List, [], ◌∷◌, ◌++◌}
use Prim.Native.Nat.{ℕ, zero, suc, ◌+◌, ◌-◌, ◌*◌, ◌/◌, ◌<◌, ◌≤◌, min, max}
use native.Mathlib.Omega.{arith}
use native.Mathlib.Nat.{add-zero}
use lib.ListN.{length, get_or, take, drop, length-append, get_or-append}
use lib.Seq.{get_or_at, get_or-append-add}
use lib.IntN.{ℤ, pos}
use lib.Dec.{leb, ltb}
use borrow.Author.Tests.{le-leb, lt-ltb}
use Rattle.laws.proofs.Choice.{pick_true}
use Rattle.laws.proofs.Truths.{both_true}
use Rattle.contract.specs.Decode.{each_from}
use Rattle.pages.specs.Entries.{Entry, entry_at, entries_of}

-- ---- f i, f (i + 1), ..

module _ {A : Type 0} where
  pub each_snoc : (i n : ℕ) (f : ℕ → A) → each_from i (suc n) f ≡ each_from i n f ++ (f (i + n) ∷ [])
  unfolding each_from
  each_snoc i zero f = ap (λ (k : ℕ). f k ∷ []) (sym (add-zero i))
  each_snoc i (suc n) f =
      let e : suc i + n ≡ i + suc n = omega arith in
      ap (λ (l : List A). f i ∷ l) (each_snoc (suc i) n f ∙ ap (λ (k : ℕ). each_from (suc i) n f ++ (f k ∷ [])) e)

  pub each_same : (i n : ℕ) (f g : ℕ → A) → ((j : ℕ) → j < i + n → f j ≡ g j) → each_from i n f ≡ each_from i n g
  unfolding each_from
  each_same i zero f g h = refl
  each_same i (suc n) f g h = (λ k. h i (omega arith) k ∷ each_same (suc i) n f g (λ j l. h j (omega arith)) k)

  pub each_take : (m i n : ℕ) (f : ℕ → A) → take m (each_from i n f) ≡ each_from i (min m n) f
  unfolding each_from
  each_take zero i n f = let e : 0 ≡ min 0 n = omega arith in ap (λ (k : ℕ). each_from i k f) e
  each_take (suc m) i zero f = let e : 0 ≡ min (suc m) 0 = omega arith in ap (λ (k : ℕ). each_from i k f) e
  each_take (suc m) i (suc n) f =
      let e : suc (min m n) ≡ min (suc m) (suc n) = omega arith in
      ap (λ (l : List A). f i ∷ l) (each_take m (suc i) n f) ∙ ap (λ (k : ℕ). each_from i k f) e

  pub each_drop : (m i n : ℕ) (f : ℕ → A) → drop m (each_from i n f) ≡ each_from (i + m) (n - m) f
  unfolding each_from
  each_drop zero i n f =
      let e : i ≡ i + 0 = omega arith in
      let d : n ≡ n - 0 = omega arith in
      λ j. each_from (e j) (d j) f
  each_drop (suc m) i zero f = let d : 0 ≡ 0 - suc m = omega arith in ap (λ (k : ℕ). each_from (i + suc m) k f) d
  each_drop (suc m) i (suc n) f =
      let e : suc i + m ≡ i + suc m = omega arith in
      let d : n - m ≡ suc n - suc m = omega arith in
      each_drop m (suc i) n f ∙ λ j. each_from (e j) (d j) f

-- ---- entries

-- an entry that stands there whole
pub entry_whole : (ns : List ℕ) (zs : List ℤ) (i : ℕ) → 5 * i + 5 ≤ length ns → i < length zs
    → entry_at ns zs i
    ≡ record { kind = get_or ns (5 * i) 0; party = get_or ns (5 * i + 1) 0; rule = get_or ns (5 * i + 2) 0; clock = get_or ns (5 * i + 3) 0; value = get_or zs i (pos 0); group = get_or ns (5 * i + 4) 0 }
unfolding entry_at
entry_whole ns zs i h k = pick_true _ _ _ (both_true (leb (5 * i + 5) (length ns)) (ltb i (length zs)) (le-leb (5 * i + 5) (length ns) h) (lt-ltb i (length zs) k))

-- all of them whole
pub entries_whole : (ns : List ℕ) (zs : List ℤ) → length ns ≡ 5 * length zs → entries_of ns zs ≡ each_from 0 (length zs) (entry_at ns zs)
unfolding entries_of
entries_whole ns zs h =
    let e : max ((length ns + 4) / 5) (length zs) ≡ length zs = omega arith in
    ap (λ (k : ℕ). each_from 0 k (entry_at ns zs)) e

-- one more
pub entries_more : (ns : List ℕ) (zs : List ℤ) → length ns ≡ 5 * length zs → (kind party rule clock more : ℕ) (value : ℤ)
    → entries_of (ns ++ (kind ∷ party ∷ rule ∷ clock ∷ more ∷ [])) (zs ++ (value ∷ []))
    ≡ entries_of ns zs ++ (record { kind = kind; party = party; rule = rule; clock = clock; value = value; group = more } ∷ [])
entries_more ns zs h kind party rule clock more value =
    let k = length zs in
    let five = kind ∷ party ∷ rule ∷ clock ∷ more ∷ [] in
    let ns' = ns ++ five in
    let zs' = zs ++ (value ∷ []) in
    let long : length ns' ≡ 5 * k + 5 = omega (arith, length-append ns five) in
    let wide : length zs' ≡ suc k = omega (arith, length-append zs (value ∷ [])) in
    let all : length ns' ≡ 5 * length zs' = omega arith in
    let before : (j : ℕ) → j < 0 + k → entry_at ns' zs' j ≡ entry_at ns zs j = λ j l.
    entry_whole ns' zs' j (omega arith) (omega arith)
    ∙ (λ m.
    record {
      kind = get_or-append ns five 0 (5 * j) (omega arith) m;
      party = get_or-append ns five 0 (5 * j + 1) (omega arith) m;
      rule = get_or-append ns five 0 (5 * j + 2) (omega arith) m;
      clock = get_or-append ns five 0 (5 * j + 3) (omega arith) m;
      value = get_or-append zs (value ∷ []) (pos 0) j (omega arith) m;
      group = get_or-append ns five 0 (5 * j + 4) (omega arith) m;
    })
    ∙ sym (entry_whole ns zs j (omega arith) (omega arith)) in
    let at : (i n : ℕ) → n ≡ length ns + i → get_or ns' n 0 ≡ get_or five i 0 = λ i n e. ap (λ (m : ℕ). get_or ns' m 0) e ∙ get_or-append-add ns five i 0 in
    let last : entry_at ns' zs' (0 + k) ≡ record { kind = kind; party = party; rule = rule; clock = clock; value = value; group = more } =
    let z : 0 + k ≡ k = omega arith in
    ap (entry_at ns' zs') z
    ∙ entry_whole ns' zs' k (omega arith) (omega arith)
    ∙ (λ m.
    record {
      kind = at 0 (5 * k) (omega arith) m;
      party = at 1 (5 * k + 1) (omega arith) m;
      rule = at 2 (5 * k + 2) (omega arith) m;
      clock = at 3 (5 * k + 3) (omega arith) m;
      value = get_or_at zs value [] (pos 0) k refl m;
      group = at 4 (5 * k + 4) (omega arith) m;
    }) in
    entries_whole ns' zs' all
    ∙ ap (λ (n : ℕ). each_from 0 n (entry_at ns' zs')) wide
    ∙ each_snoc 0 k (entry_at ns' zs')
    ∙ (λ m. each_same 0 k (entry_at ns' zs') (entry_at ns zs) before m ++ (last m ∷ []))
    ∙ ap (λ (l : List Entry). l ++ (record { kind = kind; party = party; rule = rule; clock = clock; value = value; group = more } ∷ [])) (sym (entries_whole ns zs h))
