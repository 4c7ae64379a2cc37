-- Names in packed rows are read back. Assumes nothing.
use mathlib.Core.Path.{◌≡◌, refl, sym, ap, ◌∙◌}
use mathlib.Core.Bool.{Bool, true, false}
use mathlib.Core.List.{List, [], ◌∷◌}
use Prim.Native.Nat.{ℕ, zero, suc, ◌+◌, ◌-◌, ◌*◌, ◌/◌, ◌%◌, ◌^◌, ◌<◌, ◌≤◌}
use native.Mathlib.Omega.{arith}
use native.Mathlib.Nat.{zero-add, mul_comm, pow-suc, div-one, div-div-eq-div-mul}
use lib.ListN.{length, get_or, take, drop, length-take, length-drop}
use lib.Seq.{get_or-take, get_or-drop, ext_get_or}
use lib.Dec.{ltb}
use borrow.Author.Tests.{ltb-true, ltb-false, le-leb, lt-leb, ne_eqb}
use Rattle.laws.specs.Choice.{pick}
use Rattle.laws.proofs.Choice.{true_false}
use Rattle.laws.specs.Lists.{every}
use Rattle.laws.proofs.Members.{every_head, every_tail, every_so}
use Rattle.laws.proofs.Truths.{link, both_true}
use Rattle.tokens.specs.Classes.{within, is_letter, is_digit, is_name_byte}
use Rattle.tokens.proofs.Facts.{letter_name}
use Rattle.contract.specs.Limits.{max_name}
use Rattle.contract.specs.Tree.{Word}
use Rattle.contract.specs.Fits.{is_name}
use Rattle.contract.specs.Table.{word_at}
use Rattle.contract.specs.Encode.{packed, packs, packed_row}
use Rattle.contract.specs.Decode.{each_from, packed_byte, packed_word}
use Rattle.contract.proofs.Fitting.{name_length}
use Rattle.contract_laws.proofs.Stands.{Stands, first_word}
use Rattle.contract_laws.proofs.Lengths.{length_packs}
use Rattle.contract_laws.proofs.Inversions.{by_test}
use Rattle.contract_laws.proofs.Members.{length_each, get_or_each}

-- ---- the bytes of a name

abbrev is_byte : ℕ → Bool
is_byte x = ltb x 256

pub no_name_byte : (b : ℕ) → 256 ≤ b → is_name_byte b ≡ false
unfolding is_name_byte is_letter is_digit within pick
no_name_byte b h =
    simp (le-leb 97 b (omega arith), lt-leb b 122 (omega arith), le-leb 65 b (omega arith), lt-leb b 90 (omega arith), le-leb 48 b (omega arith), lt-leb b 57 (omega arith), ne_eqb b 95 (λ e. omega arith))

name_byte : (x : ℕ) → is_name_byte x ≡ true → is_byte x ≡ true
name_byte x e = by_test (is_byte x) (λ t. t) λ t. true_false (sym e ∙ no_name_byte x (ltb-false x 256 t))

name_bytes : (n : Word) → is_name n ≡ true → every is_byte n ≡ true
unfolding is_name every
name_bytes [] e = refl
name_bytes (x ∷ xs) e =
    let t = link (is_letter x ∷ every is_name_byte xs ∷ ltb (length xs) max_name ∷ []) e in
    both_true _ _ (name_byte x (letter_name x (t 0))) (every_so is_name_byte is_byte name_byte xs (t 1))

-- ---- bytes of a word

packed_byte_lem : (l : List ℕ) → every is_byte l ≡ true → (k : ℕ) → k < length l → packed l / 256 ^ k % 256 ≡ get_or l k 0
unfolding packed
packed_byte_lem [] e k h = absurd (omega arith)
packed_byte_lem (x ∷ l) e zero h =
    let b : x < 256 = ltb-true x 256 (every_head is_byte x l e) in
    ap (λ (n : ℕ). n % 256) (div-one (x + packed l * 256)) ∙ omega arith
packed_byte_lem (x ∷ l) e (suc k) h =
    let b : x < 256 = ltb-true x 256 (every_head is_byte x l e) in
    let q : (x + packed l * 256) / 256 ≡ packed l = omega arith in
    ap (λ (n : ℕ). (x + packed l * 256) / n % 256) (pow-suc 256 k ∙ mul_comm (256 ^ k) 256)
    ∙ ap (λ (n : ℕ). n % 256) (sym (div-div-eq-div-mul (x + packed l * 256) 256 (256 ^ k)))
    ∙ ap (λ (n : ℕ). n / 256 ^ k % 256) q
    ∙ packed_byte_lem l (every_tail is_byte x l e) k (omega arith)

every_take : (n : ℕ) (l : List ℕ) → every is_byte l ≡ true → every is_byte (take n l) ≡ true
unfolding every
every_take zero l e = refl
every_take (suc n) [] e = refl
every_take (suc n) (x ∷ l) e = both_true _ _ (every_head is_byte x l e) (every_take n l (every_tail is_byte x l e))

every_drop : (n : ℕ) (l : List ℕ) → every is_byte l ≡ true → every is_byte (drop n l) ≡ true
every_drop zero l e = e
every_drop (suc n) [] e = e
every_drop (suc n) (x ∷ l) e = every_drop n l (every_tail is_byte x l e)

packs_byte : (n : ℕ) (l : List ℕ) → every is_byte l ≡ true → (j : ℕ) → j < length l → j / 8 < n
    → get_or (packs n l) (j / 8) 0 / 256 ^ (j % 8) % 256 ≡ get_or l j 0
unfolding packs
packs_byte zero l e j h k = absurd (omega arith)
packs_byte (suc n) l e j h k = go (ltb j 8) refl (packs_byte n (drop 8 l) (every_drop 8 l e) (j - 8))
  where
    go : (b : Bool) → ltb j 8 ≡ b
        → (j - 8 < length (drop 8 l) → (j - 8) / 8 < n → get_or (packs n (drop 8 l)) ((j - 8) / 8) 0 / 256 ^ ((j - 8) % 8) % 256 ≡ get_or (drop 8 l) (j - 8) 0)
        → get_or (packs (suc n) l) (j / 8) 0 / 256 ^ (j % 8) % 256 ≡ get_or l j 0
    go true t f =
        let i : j < 8 = ltb-true j 8 t in
        let z : j / 8 ≡ 0 = omega arith in
        let m : j % 8 ≡ j = omega arith in
        (λ x. get_or (packs (suc n) l) (z x) 0 / 256 ^ m x % 256)
        ∙ packed_byte_lem (take 8 l) (every_take 8 l e) j (simp length-take (omega arith))
        ∙ get_or-take 8 l j 0 i
    go false t f =
        let i : 8 ≤ j = ltb-false j 8 t in
        let z : j / 8 ≡ suc ((j - 8) / 8) = omega arith in
        let m : j % 8 ≡ (j - 8) % 8 = omega arith in
        let q : 8 + (j - 8) ≡ j = omega arith in
        (λ x. get_or (packs (suc n) l) (z x) 0 / 256 ^ m x % 256)
        ∙ f (simp length-drop (omega arith)) (omega arith)
        ∙ get_or-drop 8 l (j - 8) 0
        ∙ ap (λ (x : ℕ). get_or l x 0) q

pub packed_read : {w : List ℕ} (n : Word) (o : ℕ) → is_name n ≡ true → Stands w o (packed_row n) → packed_word w o ≡ n
unfolding packed_row packed_word
packed_read {w} n o e s =
    let f = packed_byte w o in
    let c : word_at w o ≡ length n = first_word (length n) (packs 4 n) s in
    let m : length n ≤ max_name = name_length n e in
    let l : length (take (length n) (each_from 0 max_name f)) ≡ length n = simp length-take (omega (arith, length_each 0 max_name f)) in
    ap (λ (k : ℕ). take k (each_from 0 max_name f)) c
    ∙ ext_get_or 0 (take (length n) (each_from 0 max_name f)) n l λ j h.
    let i : j < length n = omega arith in
    let p : o + 1 + j / 8 ≡ o + suc (j / 8) = omega arith in
    get_or-take (length n) (each_from 0 max_name f) j 0 i
    ∙ get_or_each 0 max_name f j 0 (omega arith)
    ∙ ap f (zero-add j)
    ∙ ap (λ (k : ℕ). word_at w k / 256 ^ (j % 8) % 256) p
    ∙ ap (λ (k : ℕ). k / 256 ^ (j % 8) % 256) (s.word (suc (j / 8)) (omega (arith, length_packs 4 n)))
    ∙ packs_byte 4 n (name_bytes n e) j i (omega arith)
