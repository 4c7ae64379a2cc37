-- Names and strings of a table that passes. Assumes nothing.
use mathlib.Core.Path.{◌≡◌, sym, ap, subst, ◌∙◌}
use mathlib.Core.Bool.{Bool, true, false}
use mathlib.Core.List.{List, [], ◌∷◌}
use Prim.Native.Nat.{ℕ, zero, suc, ◌+◌, ◌-◌, ◌*◌, ◌<◌, ◌≤◌}
use native.Mathlib.Omega.{arith}
use native.Mathlib.Nat.{zero-add}
use lib.ListN.{length, get_or}
use lib.Dec.{ltb, leb}
use borrow.Author.Tests.{ltb-true, ltb-false, le-leb, lt-leb, ne_eqb, leb-true}
use Rattle.laws.specs.Choice.{pick}
use Rattle.laws.proofs.Choice.{true_false}
use Rattle.tokens.specs.Classes.{within, is_letter, is_name_byte, is_printable, is_string_byte}
use Rattle.contract.specs.Table.{word_at}
use Rattle.contract.specs.Decode.{word_of, contract_of}
use Rattle.contract.specs.Check.{ranges, name_ok, string_ok, names_ok, passes}
use Rattle.laws.proofs.Truths.{link}
use Rattle.laws.specs.Lists.{all_below}
use Rattle.contract_laws.proofs.Inversions.{by_test, ranges_of}
use Rattle.laws.proofs.Members.{below_at}
use Rattle.contract_laws.proofs.Members.{get_or_each}
use Rattle.contract_laws.proofs.Packing.{no_name_byte}
use Rattle.contract_laws.proofs.Sound.{passed, counts}
use Rattle.printing.specs.Pieces.{name_bytes}
use Rattle.printing.proofs.Names.{name_long, name_is}

-- ---- bytes

no_letter : (b : ℕ) → 256 ≤ b → is_letter b ≡ false
unfolding is_letter within pick
no_letter b h = simp (le-leb 97 b (omega arith), lt-leb b 122 (omega arith), le-leb 65 b (omega arith), lt-leb b 90 (omega arith))

no_string_byte : (b : ℕ) → 256 ≤ b → is_string_byte b ≡ false
unfolding is_string_byte is_printable within pick
no_string_byte b h = simp (ne_eqb b 34 (λ e. omega arith), le-leb 32 b (omega arith), lt-leb b 126 (omega arith))

below : (p : ℕ → Bool) → ((b : ℕ) → 256 ≤ b → p b ≡ false) → (b : ℕ) → p b ≡ true → b < 256
below p outside b e = by_test (ltb b 256) (ltb-true b 256) λ t. true_false (sym e ∙ outside b (ltb-false b 256 t))

-- ---- rows

pub name_word : (w : List ℕ) (o : ℕ) → name_ok w o ≡ true → (name_bytes w o ≡ word_of w o) × (word_at w o ≤ 32)
unfolding name_ok
name_word w o e =
    let n = word_at w o in
    let t = link (ranges 1 n 32 ∷ is_letter (word_at w (o + 1)) ∷ all_below (n - 1) (λ j. is_name_byte (word_at w (o + 2 + j))) ∷ []) e in
    let r = ranges_of 1 n 32 (t 0) in (
      name_is w o λ i l. by_place i l
          (below is_letter no_letter (word_at w (o + 1)) (t 1))
          (λ j m. below is_name_byte no_name_byte (word_at w (o + 2 + j)) (below_at (λ j. is_name_byte (word_at w (o + 2 + j))) (n - 1) (t 2) j m)),
      r.1,
    )
  where
    by_place : (i : ℕ) → i < word_at w o → word_at w (o + 1) < 256 → ((j : ℕ) → j < word_at w o - 1 → word_at w (o + 2 + j) < 256) → word_at w (o + 1 + i) < 256
    by_place zero l f g = let q : o + 1 ≡ o + 1 + 0 = omega arith in subst (λ (k : ℕ). word_at w k < 256) q f
    by_place (suc i) l f g = let q : o + 2 + i ≡ o + 1 + suc i = omega arith in subst (λ (k : ℕ). word_at w k < 256) q (g i (omega arith))

string_word : (w : List ℕ) (o : ℕ) → string_ok w o ≡ true → (name_bytes w o ≡ word_of w o) × (word_at w o ≤ 64)
unfolding string_ok
string_word w o e =
    let n = word_at w o in
    let p : ℕ → Bool = λ j. is_string_byte (word_at w (o + 1 + j)) in
    let t = link (leb n 64 ∷ all_below n p ∷ []) e in (
      name_is w o λ i l. below is_string_byte no_string_byte (word_at w (o + 1 + i)) (below_at p n (t 1) i l),
      leb-true n 64 (t 0),
    )

-- word i of a list of names is the one whose length stands at o, its words are bytes, and it has at most so many
pub record Row (w : List ℕ) (names : List (List ℕ)) (i o most : ℕ) : Type 0 where
  pub short : length (name_bytes w o) ≤ most
  pub name : get_or names i [] ≡ name_bytes w o
  pub low : o ≤ 24659

pub record Names (w : List ℕ) : Type 0 where
  pub parties : all_below (word_at w 0) (λ i. name_ok w (43 + i * 33)) ≡ true
  pub assets : all_below (word_at w 1) (λ i. name_ok w (307 + i * 33)) ≡ true
  pub fields : all_below (word_at w 2) (λ i. name_ok w (835 + i * 33)) ≡ true
  pub states : all_below (word_at w 3) (λ i. name_ok w (1891 + i * 33)) ≡ true
  pub strings : all_below (word_at w 4) (λ i. string_ok w (2947 + i * 65)) ≡ true

names : (w : List ℕ) → names_ok w ≡ true → Names w
unfolding names_ok
names w e =
    let t =
    link
    (name_ok w 10
    ∷ all_below (word_at w 0) (λ i. name_ok w (43 + i * 33))
    ∷ all_below (word_at w 1) (λ i. name_ok w (307 + i * 33))
    ∷ all_below (word_at w 2) (λ i. name_ok w (835 + i * 33))
    ∷ all_below (word_at w 3) (λ i. name_ok w (1891 + i * 33))
    ∷ all_below (word_at w 4) (λ i. string_ok w (2947 + i * 65))
    ∷ [])
    e in
    record { parties = t 1; assets = t 2; fields = t 3; states = t 4; strings = t 5 }

module _ (w : List ℕ) (e : passes w ≡ true) (i : ℕ) where
  row_of : (n start limit : ℕ) → all_below n (λ i. name_ok w (start + i * 33)) ≡ true → n ≤ limit → start + limit * 33 ≤ 24659 → i < n
      → (l : List (List ℕ)) → get_or l i [] ≡ word_of w (start + i * 33) → Row w l i (start + i * 33) 32
  row_of n start limit a b c h l q =
      let r = name_word w (start + i * 33) (below_at (λ i. name_ok w (start + i * 33)) n a i h) in
      record { short = omega (arith, name_long w (start + i * 33), r.1); name = q ∙ sym r.0; low = omega arith }

  pub party_row : i < length (contract_of w).parties → Row w (contract_of w).parties i (43 + i * 33) 32
  unfolding contract_of
  party_row h =
      let k : i < word_at w 0 = omega (arith, (counts w).parties) in
      row_of (word_at w 0) 43 8 (names w (passed w e).names).parties (passed w e).head.parties (omega arith) k _
      (get_or_each 0 (word_at w 0) (λ i. word_of w (43 + i * 33)) i [] k ∙ ap (λ (j : ℕ). word_of w (43 + j * 33)) (zero-add i))

  pub asset_row : i < length (contract_of w).assets → Row w (contract_of w).assets i (307 + i * 33) 32
  unfolding contract_of
  asset_row h =
      let k : i < word_at w 1 = omega (arith, (counts w).assets) in
      row_of (word_at w 1) 307 16 (names w (passed w e).names).assets (passed w e).head.assets (omega arith) k _
      (get_or_each 0 (word_at w 1) (λ i. word_of w (307 + i * 33)) i [] k ∙ ap (λ (j : ℕ). word_of w (307 + j * 33)) (zero-add i))

  pub field_row : i < length (contract_of w).fields → Row w (contract_of w).fields i (835 + i * 33) 32
  unfolding contract_of
  field_row h =
      let k : i < word_at w 2 = omega (arith, (counts w).fields) in
      row_of (word_at w 2) 835 32 (names w (passed w e).names).fields (passed w e).head.fields (omega arith) k _
      (get_or_each 0 (word_at w 2) (λ i. word_of w (835 + i * 33)) i [] k ∙ ap (λ (j : ℕ). word_of w (835 + j * 33)) (zero-add i))

  pub state_row : i < length (contract_of w).states → Row w (contract_of w).states i (1891 + i * 33) 32
  unfolding contract_of
  state_row h =
      let k : i < word_at w 3 = omega (arith, (counts w).states) in
      row_of (word_at w 3) 1891 32 (names w (passed w e).names).states (passed w e).head.states (omega arith) k _
      (get_or_each 0 (word_at w 3) (λ i. word_of w (1891 + i * 33)) i [] k ∙ ap (λ (j : ℕ). word_of w (1891 + j * 33)) (zero-add i))

  pub string_row : i < length (contract_of w).strings → Row w (contract_of w).strings i (2947 + i * 65) 64
  unfolding contract_of
  string_row h =
      let k : i < word_at w 4 = omega (arith, (counts w).strings) in
      let few : word_at w 4 ≤ 32 = (passed w e).head.strings in
      let r = string_word w (2947 + i * 65) (below_at (λ i. string_ok w (2947 + i * 65)) (word_at w 4) (names w (passed w e).names).strings i k) in
      record {
        short = omega (arith, name_long w (2947 + i * 65), r.1);
        name = get_or_each 0 (word_at w 4) (λ i. word_of w (2947 + i * 65)) i [] k ∙ ap (λ (j : ℕ). word_of w (2947 + j * 65)) (zero-add i) ∙ sym r.0;
        low = omega arith;
      }
