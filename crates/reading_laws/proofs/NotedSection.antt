-- The clause rows as a section of the table. Assumes nothing.
use mathlib.Core.Path.{◌≡◌, refl, sym, ap, subst, ◌∙◌}
use mathlib.Core.Bool.{true}
use mathlib.Core.List.{List, [], ◌∷◌, ◌++◌}
use Prim.Native.Nat.{ℕ, zero, suc, ◌+◌, ◌-◌, ◌*◌, ◌/◌, ◌%◌, ◌<◌, ◌≤◌}
use native.Mathlib.Omega.{arith}
use lib.ListN.{length, get_or, set, take, length-append, get_or-append}
use lib.Seq.{get_or-append-add, ext_get_or}
use lib.Dec.{leb}
use borrow.Author.Tests.{leb-true}
use Rattle.contract.specs.Tree.{Clause}
use Rattle.contract.specs.Encode.{padded, joined, clause_row}
use Rattle.laws.proofs.Members.{every_head, every_tail}
use Rattle.laws.specs.Lists.{every}
use Rattle.contract_laws.proofs.Lengths.{length_padded, length_clause_row, length_joined}
use Rattle.reading_laws.proofs.TableSections.{Sections, clauses, widths, lengths, table_from, parameters, before, after, split, split_set, ten, wide, first_starts, first_is, first_set}
use Rattle.reading_laws.proofs.NotesInvariant.{in_order}
use Rattle.reading_laws.proofs.NotedRows.{row_word, padded_word, Words}

row_long : (k : Clause) → leb (length k.fields) 32 ≡ true → length (clause_row k) ≡ 35
row_long k e = length_clause_row k (leb-true (length k.fields) 32 e)

joined_word : (ks : List Clause) (i j : ℕ) → j < 35 → every (λ k. leb (length k.fields) 32) ks ≡ true → get_or (joined clause_row ks) (35 * i + j) 0 ≡ row_word ks i j
unfolding joined row_word
joined_word [] i j h e = refl
joined_word (k ∷ ks) zero j h e =
    let n : length (clause_row k) ≡ 35 = row_long k (every_head (λ k. leb (length k.fields) 32) k ks e) in
    let p : 35 * 0 + j ≡ j = omega arith in
    ap (λ (x : ℕ). get_or (clause_row k ++ joined clause_row ks) x 0) p ∙ get_or-append (clause_row k) (joined clause_row ks) 0 j (omega (arith, n, h))
joined_word (k ∷ ks) (suc i) j h e =
    let n : length (clause_row k) ≡ 35 = row_long k (every_head (λ k. leb (length k.fields) 32) k ks e) in
    let p : 35 * suc i + j ≡ length (clause_row k) + (35 * i + j) = omega (arith, n) in
    ap (λ (x : ℕ). get_or (clause_row k ++ joined clause_row ks) x 0) p ∙ get_or-append-add (clause_row k) (joined clause_row ks) (35 * i + j) 0
    ∙ joined_word ks i j h (every_tail (λ k. leb (length k.fields) 32) k ks e)

-- a list of three parts, by place
middle : (a c d : List ℕ) (i : ℕ) → i < length c → get_or (a ++ (c ++ d)) (length a + i) 0 ≡ get_or c i 0
middle a c d i h = get_or-append-add a (c ++ d) i 0 ∙ get_or-append c d 0 i h

after_both : (a c d : List ℕ) (i : ℕ) → get_or (a ++ (c ++ d)) (length a + (length c + i)) 0 ≡ get_or d i 0
after_both a c d i = get_or-append-add a (c ++ d) (length c + i) 0 ∙ get_or-append-add c d i 0

module _ (a c d w : List ℕ) (ks : List Clause) (first : length a ≡ 5027) (size : length c ≡ 560) (long : length (a ++ (c ++ d)) ≡ 24659)
    (h : Words (a ++ (c ++ d)) w (row_word ks)) (few : length ks ≤ 16) (short : every (λ k. leb (length k.fields) 32) ks ≡ true) where
  rows_long : length (padded 560 (joined clause_row ks)) ≡ 560
  rows_long =
      let n : length (joined clause_row ks) ≡ length ks * 35 = length_joined clause_row (λ k. leb (length k.fields) 32) 35 row_long ks short in
      length_padded 560 (joined clause_row ks) (omega (arith, n, few))

  at_place : (i : ℕ) → i < length w → get_or w i 0 ≡ get_or (a ++ (padded 560 (joined clause_row ks) ++ d)) i 0
  at_place i b =
      in_order i 5027
      (λ l. h.early i l ∙ get_or-append a (c ++ d) 0 i (omega (arith, first, l)) ∙ sym (get_or-append a (padded 560 (joined clause_row ks) ++ d) 0 i (omega (arith, first, l))))
      (λ l. inner (omega (arith, l)) (omega (arith, l)))
      (λ l. in_order i 5587 (λ m. inner (omega arith) m) (λ m. outer (omega (arith, m))) (λ m. outer (omega arith)))
    where
      inner : 5027 ≤ i → i < 5587 → get_or w i 0 ≡ get_or (a ++ (padded 560 (joined clause_row ks) ++ d)) i 0
      inner l m =
          let x = (i - 5027) / 35 in
          let y = (i - 5027) % 35 in
          let p : i ≡ 5027 + 35 * x + y = omega arith in
          let q : y < 35 = omega arith in
          let r : x < 16 = omega arith in
          let z : i ≡ length a + (35 * x + y) = omega (arith, first, p) in
          let n : length (padded 560 (joined clause_row ks)) ≡ 560 = rows_long in
          ap (λ (o : ℕ). get_or w o 0) p ∙ h.word x y r q ∙ sym (joined_word ks x y q short)
          ∙ sym (padded_word 560 (joined clause_row ks) (35 * x + y))
          ∙ sym (middle a (padded 560 (joined clause_row ks)) d (35 * x + y) (omega (arith, n, q, r)))
          ∙ ap (λ (o : ℕ). get_or (a ++ (padded 560 (joined clause_row ks) ++ d)) o 0) (sym z)

      outer : 5587 ≤ i → get_or w i 0 ≡ get_or (a ++ (padded 560 (joined clause_row ks) ++ d)) i 0
      outer l =
          let n : length (padded 560 (joined clause_row ks)) ≡ 560 = rows_long in
          let p : i ≡ length a + (length c + (i - 5587)) = omega (arith, first, size, l) in
          let q : i ≡ length a + (length (padded 560 (joined clause_row ks)) + (i - 5587)) = omega (arith, first, n, l) in
          h.late i l ∙ ap (λ (o : ℕ). get_or (a ++ (c ++ d)) o 0) p ∙ after_both a c d (i - 5587)
          ∙ sym (after_both a (padded 560 (joined clause_row ks)) d (i - 5587))
          ∙ ap (λ (o : ℕ). get_or (a ++ (padded 560 (joined clause_row ks) ++ d)) o 0) (sym q)

  pub section_is : w ≡ a ++ (padded 560 (joined clause_row ks) ++ d)
  section_is =
      let n : length (padded 560 (joined clause_row ks)) ≡ 560 = rows_long in
      let l1 : length (a ++ (padded 560 (joined clause_row ks) ++ d)) ≡ length a + length (padded 560 (joined clause_row ks) ++ d) = length-append a (padded 560 (joined clause_row ks) ++ d) in
      let l2 : length (padded 560 (joined clause_row ks) ++ d) ≡ length (padded 560 (joined clause_row ks)) + length d = length-append (padded 560 (joined clause_row ks)) d in
      let l3 : length (a ++ (c ++ d)) ≡ length a + length (c ++ d) = length-append a (c ++ d) in
      let l4 : length (c ++ d) ≡ length c + length d = length-append c d in
      let l5 : length w ≡ 24659 = h.long in
      ext_get_or 0 w (a ++ (padded 560 (joined clause_row ks) ++ d)) (omega (arith, n, l1, l2, l3, l4, l5, long, size)) at_place

-- ---- in a table of all its sections

-- a table that had these sections has the clause rows in theirs
pub rows_whole : (t : Sections) (n u w : List ℕ) (ks : List Clause) → lengths t ≡ widths → u ≡ table_from t n → length u ≡ 24659 → Words u w (row_word ks) → length ks ≤ 16
    → every (λ k. leb (length k.fields) 32) ks ≡ true → w ≡ table_from (set t clauses (padded 560 (joined clause_row ks))) n
rows_whole t n u w ks z e l h few short =
    let v = take parameters t in
    let r = n ++ get_or t parameters [] in
    let f = ten t z in
    let g = e ∙ split v r clauses (omega arith) in
    section_is (before v clauses) (get_or v clauses []) (after v clauses r) w ks (first_starts t clauses z (omega arith)) (ap length (first_is t clauses (omega arith)) ∙ wide t clauses z)
    (ap length (sym g) ∙ l) (subst (λ (x : List ℕ). Words x w (row_word ks)) g h) few short
    ∙ sym (split_set v r clauses (padded 560 (joined clause_row ks)) (omega arith))
    ∙ first_set t n clauses (padded 560 (joined clause_row ks)) (omega arith)
