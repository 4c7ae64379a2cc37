-- The clause rows of a table, word by word. Assumes nothing.
use mathlib.Core.Path.{◌≡◌, refl, sym, ap, subst, ◌∙◌}
use mathlib.Core.Bool.{Bool, true, false, ◌&&◌}
use mathlib.Core.List.{List, [], ◌∷◌, ◌++◌}
use Prim.Native.Nat.{ℕ, zero, suc, ◌+◌, ◌-◌, ◌*◌, ◌<◌, ◌≤◌}
use native.Mathlib.Omega.{arith}
use lib.ListN.{length, get_or, set, length-set, length-append, get_or-append}
use lib.Seq.{get_or-set_same, get_or-set_other, get_or-append_seam, get_or-append-add}
use lib.Dec.{eqb, leb}
use borrow.Author.Tests.{eqb-true, eqb-false, eq-eqb, leb-true}
use Rattle.laws.specs.Choice.{pick}
use Rattle.laws.proofs.Choice.{pick_true, pick_false}
use Rattle.contract.specs.Tree.{Verb, set as set_verb, Clause}
use Rattle.contract.specs.Encode.{zeros, padded, joined, verb_word, clause_row}
use Rattle.laws.proofs.Members.{every_head, every_tail}
use Rattle.laws.proofs.Truths.{both_true}
use Rattle.laws.specs.Lists.{every}
use Rattle.contract_laws.proofs.Stands.{Stands}
use Rattle.contract_laws.proofs.Lengths.{length_clause_row}
use Rattle.reading_laws.proofs.SectionsRows.{zero_word}
use Rattle.reading_laws.proofs.NotesInvariant.{in_order}

-- word j of row i; 0 past the last row
unfoldable pub row_word : List Clause → ℕ → ℕ → ℕ
row_word [] i j = 0
row_word (k ∷ ks) zero j = get_or (clause_row k) j 0
row_word (k ∷ ks) (suc i) j = row_word ks i j

pub row_past : (ks : List Clause) (i j : ℕ) → length ks ≤ i → row_word ks i j ≡ 0
unfolding row_word
row_past [] i j h = refl
row_past (k ∷ ks) zero j h = absurd (omega arith)
row_past (k ∷ ks) (suc i) j h = row_past ks i j (omega arith)

pub row_here : (ks : List Clause) (k : Clause) (j : ℕ) → row_word (ks ++ (k ∷ [])) (length ks) j ≡ get_or (clause_row k) j 0
unfolding row_word
row_here [] k j = refl
row_here (l ∷ ks) k j = row_here ks k j

pub row_other : (ks : List Clause) (k : Clause) (i j : ℕ) → (i ≡ length ks → ⊥) → row_word (ks ++ (k ∷ [])) i j ≡ row_word ks i j
unfolding row_word
row_other [] k zero j d = absurd (d refl)
row_other [] k (suc i) j d = refl
row_other (l ∷ ks) k zero j d = refl
row_other (l ∷ ks) k (suc i) j d = row_other ks k i j (λ e. d (ap suc e))

-- ---- the words of a row

append_zeros : (l : List ℕ) (n j : ℕ) → get_or (l ++ zeros n) j 0 ≡ get_or l j 0
append_zeros [] n j = zero_word n j
append_zeros (x ∷ l) n zero = refl
append_zeros (x ∷ l) n (suc j) = append_zeros l n j

pub padded_word : (n : ℕ) (l : List ℕ) (j : ℕ) → get_or (padded n l) j 0 ≡ get_or l j 0
unfolding padded
padded_word n l j = append_zeros l (n - length l) j

last_word : (l : List ℕ) (x j : ℕ) → (j ≡ length l → ⊥) → get_or (l ++ (x ∷ [])) j 0 ≡ get_or l j 0
last_word [] x zero d = absurd (d refl)
last_word [] x (suc j) d = refl
last_word (y ∷ l) x zero d = refl
last_word (y ∷ l) x (suc j) d = last_word l x j (λ e. d (ap suc e))

abbrev pub row_by : ℕ → Verb → List ℕ → Clause
row_by a v fs = record { party = a; verb = v; fields = fs }

-- no clause yet: a row of zeros, apart from its party
pub party_row : (a j : ℕ) → (j ≡ 0 → ⊥) → get_or (clause_row (row_by a set_verb [])) j 0 ≡ 0
unfolding clause_row
party_row a zero d = absurd (d refl)
party_row a (suc zero) d = refl
party_row a (suc (suc zero)) d = refl
party_row a (suc (suc (suc j))) d = padded_word 32 [] j

pub verb_row : (a : ℕ) (v : Verb) (j : ℕ) → (j ≡ 1 → ⊥) → get_or (clause_row (row_by a v [])) j 0 ≡ get_or (clause_row (row_by a set_verb [])) j 0
unfolding clause_row
verb_row a v zero d = refl
verb_row a v (suc zero) d = absurd (d refl)
verb_row a v (suc (suc j)) d = refl

pub field_row : (a : ℕ) (v : Verb) (fs : List ℕ) (x j : ℕ) → (j ≡ 2 → ⊥) → (j ≡ 3 + length fs → ⊥)
    → get_or (clause_row (row_by a v (fs ++ (x ∷ [])))) j 0 ≡ get_or (clause_row (row_by a v fs)) j 0
unfolding clause_row
field_row a v fs x zero d e = refl
field_row a v fs x (suc zero) d e = refl
field_row a v fs x (suc (suc zero)) d e = absurd (d refl)
field_row a v fs x (suc (suc (suc j))) d e =
    padded_word 32 (fs ++ (x ∷ [])) j ∙ last_word fs x j (λ q. e (omega (arith, q))) ∙ sym (padded_word 32 fs j)

pub field_new : (a : ℕ) (v : Verb) (fs : List ℕ) (x : ℕ) → get_or (clause_row (row_by a v (fs ++ (x ∷ [])))) (suc (suc (suc (length fs)))) 0 ≡ x
unfolding clause_row
field_new a v fs x = padded_word 32 (fs ++ (x ∷ [])) (length fs) ∙ get_or-append_seam fs x [] 0

pub row_party : (a : ℕ) (v : Verb) (fs : List ℕ) → get_or (clause_row (row_by a v fs)) 0 0 ≡ a
unfolding clause_row
row_party a v fs = refl

pub row_verb : (a : ℕ) (v : Verb) (fs : List ℕ) → get_or (clause_row (row_by a v fs)) 1 0 ≡ verb_word v
unfolding clause_row
row_verb a v fs = refl

pub row_many : (a : ℕ) (v : Verb) (fs : List ℕ) → get_or (clause_row (row_by a v fs)) 2 0 ≡ length fs
unfolding clause_row
row_many a v fs = refl

-- ---- words of a table

-- t has these words in its clause rows, and is u apart from them
pub record Words (u t : List ℕ) (W : ℕ → ℕ → ℕ) : Type 0 where
  pub long : length t ≡ 24659
  pub word : (i j : ℕ) → i < 16 → j < 35 → get_or t (5027 + 35 * i + j) 0 ≡ W i j
  pub early : (i : ℕ) → i < 5027 → get_or t i 0 ≡ get_or u i 0
  pub late : (i : ℕ) → 5587 ≤ i → get_or t i 0 ≡ get_or u i 0

same_place : (i j m l : ℕ) → j < 35 → l < 35 → 5027 + 35 * i + j ≡ 5027 + 35 * m + l → (i ≡ m) × (j ≡ l)
same_place i j m l a b e =
    let q : i ≡ m = in_order i m (λ h. absurd (omega arith)) (λ h. h) (λ h. absurd (omega arith)) in
    (q, omega (arith, q, e))

-- the same place or another
places : (i j m l : ℕ) (P : Type 0) → (i ≡ m → j ≡ l → P) → ((i ≡ m → j ≡ l → ⊥) → P) → P
places i j m l P f g = go (eqb i m) refl (eqb j l) refl
  where
    go : (x : Bool) → eqb i m ≡ x → (y : Bool) → eqb j l ≡ y → P
    go true a true b = f (eqb-true i m a) (eqb-true j l b)
    go true a false b = g (λ p q. eqb-false j l b q)
    go false a y b = g (λ p q. eqb-false i m a p)

pub set_word : (u t : List ℕ) (W Z : ℕ → ℕ → ℕ) (m l o v : ℕ) → Words u t W → m < 16 → l < 35 → o ≡ 5027 + 35 * m + l
    → Z m l ≡ v → ((i j : ℕ) → (i ≡ m → j ≡ l → ⊥) → Z i j ≡ W i j) → Words u (set t o v) Z
set_word u t W Z m l o v w a b e here other =
    let z : length t ≡ 24659 = w.long in
    record {
      long = length-set t o v ∙ w.long;
      word = λ i j c d. places i j m l (get_or (set t o v) (5027 + 35 * i + j) 0 ≡ Z i j)
          (λ p q.
          let s : 5027 + 35 * i + j ≡ o = omega (arith, e, p, q) in
          ap (λ (x : ℕ). get_or (set t o v) x 0) s ∙ get_or-set_same t o v 0 (omega (arith, e, z, a, b)) ∙ sym here
          ∙ ap (λ (x : ℕ). Z x l) (sym p) ∙ ap (Z i) (sym q))
          (λ n. get_or-set_other t o (5027 + 35 * i + j) v 0 (λ q. let s = same_place i j m l d b (q ∙ e) in n s.0 s.1) ∙ w.word i j c d ∙ sym (other i j n));
      early = λ i c. get_or-set_other t o i v 0 (λ q. absurd (omega (arith, q, e, c))) ∙ w.early i c;
      late = λ i c. get_or-set_other t o i v 0 (λ q. absurd (omega (arith, q, e, c, a, b))) ∙ w.late i c;
    }

same_test : (i j m l : ℕ) → i ≡ m → j ≡ l → (eqb i m && eqb j l) ≡ true
same_test i j m l p q = both_true _ _ (eq-eqb i m p) (eq-eqb j l q)

other_test : (i j m l : ℕ) → (i ≡ m → j ≡ l → ⊥) → (eqb i m && eqb j l) ≡ false
other_test i j m l n = go (eqb i m) refl (eqb j l) refl
  where
    go : (x : Bool) → eqb i m ≡ x → (y : Bool) → eqb j l ≡ y → (x && y) ≡ false
    go true a true b = absurd (n (eqb-true i m a) (eqb-true j l b))
    go true a false b = refl
    go false a y b = refl

-- two stores in a row
pub set_two : (u t : List ℕ) (W Z : ℕ → ℕ → ℕ) (m l k o r v w : ℕ) → Words u t W → m < 16 → l < 35 → k < 35 → (l ≡ k → ⊥)
    → o ≡ 5027 + 35 * m + l → r ≡ 5027 + 35 * m + k → Z m l ≡ v → Z m k ≡ w
    → ((i j : ℕ) → (i ≡ m → j ≡ l → ⊥) → (i ≡ m → j ≡ k → ⊥) → Z i j ≡ W i j) → Words u (set (set t o v) r w) Z
set_two u t W Z m l k o r v w h a b c d e f first second other =
    set_word u (set t o v) Y Z m k r w
    (set_word u t W Y m l o v h a b e
    (pick_false (eqb m m && eqb l k) (W m l) (Z m l) (other_test m l m k (λ _ q. d q)) ∙ first)
    (λ i j n. places i j m k (Y i j ≡ W i j)
    (λ p q. pick_true (eqb i m && eqb j k) (W i j) (Z i j) (same_test i j m k p q))
    (λ g. pick_false (eqb i m && eqb j k) (W i j) (Z i j) (other_test i j m k g) ∙ other i j n g)))
    a c f second
    (λ i j g. sym (pick_false (eqb i m && eqb j k) (W i j) (Z i j) (other_test i j m k g)))
  where
    Y : ℕ → ℕ → ℕ
    Y i j = pick (eqb i m && eqb j k) (W i j) (Z i j)

-- ---- rows that stand

short_fields : Clause → Bool
short_fields k = leb (length k.fields) 32

row_long : (k : Clause) → short_fields k ≡ true → length (clause_row k) ≡ 35
unfolding short_fields
row_long k e = length_clause_row k (leb-true (length k.fields) 32 e)

stands_both : (t : List ℕ) (o : ℕ) (a b : List ℕ) → Stands t o a → Stands t (o + length a) b → Stands t o (a ++ b)
stands_both t o a b f g =
    let l : length (a ++ b) ≡ length a + length b = length-append a b in
    let z : o + length a + length b ≤ length t = g.ends in
    record {
      word = λ j h. word j h l;
      ends = omega (arith, l, z);
    }
  where
    word : (j : ℕ) → j < length (a ++ b) → length (a ++ b) ≡ length a + length b → get_or t (o + j) 0 ≡ get_or (a ++ b) j 0
    word j h l =
        in_order j (length a)
        (λ c. f.word j c ∙ sym (get_or-append a b 0 j c))
        (λ c. later j h l (omega (arith, c)))
        (λ c. later j h l (omega arith))
      where
        later : (j : ℕ) → j < length (a ++ b) → length (a ++ b) ≡ length a + length b → length a ≤ j → get_or t (o + j) 0 ≡ get_or (a ++ b) j 0
        later j h l c =
            let e : length a + (j - length a) ≡ j = omega arith in
            let p : o + j ≡ o + length a + (j - length a) = omega arith in
            ap (λ (x : ℕ). get_or t x 0) p ∙ g.word (j - length a) (omega (arith, l, h, c)) ∙ sym (get_or-append-add a b (j - length a) 0)
            ∙ ap (λ (x : ℕ). get_or (a ++ b) x 0) e

rows_from : (t : List ℕ) (ks : List Clause) (i : ℕ) → length t ≡ 24659 → i + length ks ≤ 16 → every (λ k. leb (length k.fields) 32) ks ≡ true
    → ((l j : ℕ) → l < length ks → j < 35 → get_or t (5027 + 35 * (i + l) + j) 0 ≡ row_word ks l j) → Stands t (5027 + 35 * i) (joined clause_row ks)
unfolding joined row_word short_fields
rows_from t [] i z h e f = record { word = λ j b. absurd (omega arith); ends = omega arith }
rows_from t (k ∷ ks) i z h e f =
    let n : length (clause_row k) ≡ 35 = row_long k (every_head (λ k. leb (length k.fields) 32) k ks e) in
    let p : 5027 + 35 * (i + 1) ≡ 5027 + 35 * i + length (clause_row k) = omega (arith, n) in
    let q : 5027 + 35 * (i + 0) ≡ 5027 + 35 * i = omega arith in
    stands_both t (5027 + 35 * i) (clause_row k) (joined clause_row ks)
    (record {
      word = λ j b. ap (λ (x : ℕ). get_or t (x + j) 0) (sym q) ∙ f 0 j (omega arith) (omega (arith, n, b));
      ends = omega (arith, n, z, h);
    })
    (subst (λ (x : ℕ). Stands t x (joined clause_row ks)) p
    (rows_from t ks (i + 1) z (omega arith) (every_tail (λ k. leb (length k.fields) 32) k ks e)
    (λ l j b c. let r : 5027 + 35 * (i + 1 + l) + j ≡ 5027 + 35 * (i + suc l) + j = omega arith in
    ap (λ (x : ℕ). get_or t x 0) r ∙ f (suc l) j (omega arith) c)))

-- the rows of clauses stand where their words are
pub rows_stand : (u t : List ℕ) (ks : List Clause) → Words u t (row_word ks) → length ks ≤ 16 → every (λ k. leb (length k.fields) 32) ks ≡ true
    → Stands t 5027 (joined clause_row ks)
rows_stand u t ks w h e =
    rows_from t ks 0 w.long (omega arith) e
    (λ l j b c. let r : 5027 + 35 * (0 + l) + j ≡ 5027 + 35 * l + j = omega arith in ap (λ (x : ℕ). get_or t x 0) r ∙ w.word l j (omega arith) c)
