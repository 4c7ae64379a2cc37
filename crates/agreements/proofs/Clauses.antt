-- Clauses of a table that passes: where they stand, and the fields that they name. Assumes nothing.
use mathlib.Core.Path.{◌≡◌, sym, ap, ◌∙◌}
use mathlib.Core.Bool.{Bool, true}
use mathlib.Core.List.{List, [], ◌∷◌}
use Prim.Native.Nat.{ℕ, suc, ◌+◌, ◌-◌, ◌*◌, ◌<◌, ◌≤◌}
use native.Mathlib.Omega.{arith}
use lib.ListN.{length, get_or, drop, length-take, length-drop}
use lib.Seq.{get_or-take, get_or-drop}
use lib.Dec.{leb, ltb}
use borrow.Author.Tests.{ltb-true, leb-true}
use Rattle.laws.specs.Bytes.{same_bytes}
use Rattle.tokens.specs.Tokens.{between}
use Rattle.contract.specs.Limits.{max_fields}
use Rattle.contract.specs.Tree.{Word}
use Rattle.contract.specs.Table.{word_at, clause_word, clauses_start, clause_words, parties_start, fields_start, name_words}
use Rattle.contract.specs.Rows.{clause_row_of}
use Rattle.contract.specs.declared.Clause as rows
use Rattle.contract.specs.Decode.{each_from, word_of, clause_at, contract_of}
use Rattle.contract.specs.Check.{clause_ok, passes}
use Rattle.laws.proofs.Members.{below_at}
use Rattle.laws.proofs.Truths.{link}
use Rattle.laws.specs.Lists.{all_below}
use Rattle.contract_laws.proofs.Sound.{passed}
use Rattle.state.proofs.Decoded.{each_at}
use Rattle.contract.specs.Decode.{verb_of}

-- ---- f i, f (i + 1), .. from one of them on
module _ {A : Type 0} (f : ℕ → A) (n i : ℕ) where
  pub each_cons : i < n → each_from i (n - i) f ≡ f i ∷ each_from (i + 1) (n - (i + 1)) f
  unfolding each_from
  each_cons h =
      let e : n - i ≡ suc (n - (i + 1)) = omega arith in
      let d : suc i ≡ i + 1 = omega arith in
      ap (λ (k : ℕ). each_from i k f) e ∙ ap (λ (k : ℕ). f i ∷ each_from k (n - (i + 1)) f) d

  pub each_nil : n ≤ i → each_from i (n - i) f ≡ []
  unfolding each_from
  each_nil h =
      let e : n - i ≡ 0 = omega arith in
      ap (λ (k : ℕ). each_from i k f) e

pub clauses_first : (w : List ℕ) → (contract_of w).clauses ≡ each_from 0 (word_at w 5 - 0) (clause_at w)
unfolding contract_of
clauses_first w =
    let e : word_at w 5 ≡ word_at w 5 - 0 = omega arith in
    ap (λ (k : ℕ). each_from 0 k (clause_at w)) e

-- ---- what passing says of clause i
pub record Placed (w : List ℕ) (i : ℕ) : Type 0 where
  pub number : i < 16
  pub party : clause_word w i 0 < word_at w 0
  pub parties : word_at w 0 ≤ 8
  pub many : clause_word w i 2 ≤ 32
  pub field : (j : ℕ) → j < clause_word w i 2 → clause_word w i (3 + j) < word_at w 2
  pub fields : word_at w 2 ≤ 32
  pub long : length w ≡ 24659

pub placed : (w : List ℕ) → passes w ≡ true → (i : ℕ) → i < word_at w 5 → Placed w i
unfolding clause_ok
placed w e i h =
    let p = passed w e in
    let q : ℕ → Bool = λ j. ltb (clause_word w i (3 + j)) (word_at w 2) in
    let t =
    link
    (ltb (clause_word w i 0) (word_at w 0)
    ∷ leb (clause_word w i 1) 1
    ∷ leb (clause_word w i 2) max_fields
    ∷ all_below (clause_word w i 2) q
    ∷ [])
    (p.clauses i h) in
    record {
      number = omega (arith, p.head.clauses);
      party = ltb-true (clause_word w i 0) (word_at w 0) (t 0);
      parties = p.head.parties;
      many = leb-true (clause_word w i 2) max_fields (t 2);
      field = λ j l. ltb-true (clause_word w i (3 + j)) (word_at w 2) (below_at q (clause_word w i 2) (t 3) j l);
      fields = p.head.fields;
      long = p.long;
    }

module _ (w : List ℕ) (i : ℕ) (p : Placed w i) where
  pub fields_count : length (clause_at w i).fields ≡ clause_word w i 2
  unfolding clause_at
  fields_count =
      omega (arith, p.number, p.many, p.long, length-take (clause_word w i 2) (drop (clauses_start + i * clause_words + 3) w), length-drop (clauses_start + i * clause_words + 3) w)

  pub field_at : (j : ℕ) → j < clause_word w i 2 → get_or (clause_at w i).fields j 0 ≡ clause_word w i (3 + j)
  unfolding clause_at
  field_at j h =
      let e : clauses_start + i * clause_words + 3 + j ≡ clauses_start + i * clause_words + (3 + j) = omega arith in
      get_or-take (clause_word w i 2) (drop (clauses_start + i * clause_words + 3) w) j 0 h ∙ get_or-drop (clauses_start + i * clause_words + 3) w j 0 ∙ ap (word_at w) e

-- ---- names of parties and fields
pub party_name : (w : List ℕ) (k : ℕ) → k < word_at w 0 → get_or (contract_of w).parties k [] ≡ word_of w (parties_start + k * name_words)
unfolding contract_of
party_name w k h =
    let f : ℕ → Word = λ i. word_of w (parties_start + i * name_words) in
    let e : 0 + k ≡ k = omega arith in
    each_at 0 (word_at w 0) f k [] h ∙ ap f e

pub field_name : (w : List ℕ) (k : ℕ) → k < word_at w 2 → get_or (contract_of w).fields k [] ≡ word_of w (fields_start + k * name_words)
unfolding contract_of
field_name w k h =
    let f : ℕ → Word = λ i. word_of w (fields_start + i * name_words) in
    let e : 0 + k ≡ k = omega arith in
    each_at 0 (word_at w 2) f k [] h ∙ ap f e

-- ---- a clause's row, and what stands there
module _ (w : List ℕ) (i : ℕ) (row : rows.Clause) (r : row ≡ clause_row_of w i) where
  pub row_fields : row.fields ≡ clause_word w i 2
  row_fields = ap (λ (x : rows.Clause). x.fields) r

  pub row_verb : verb_of row.verb ≡ (clause_at w i).verb
  unfolding clause_at
  row_verb = ap (λ (x : rows.Clause). verb_of x.verb) r

  pub row_party : Placed w i → get_or (contract_of w).parties (clause_at w i).party [] ≡ word_of w (parties_start + row.party * name_words)
  unfolding clause_at
  row_party p = party_name w (clause_word w i 0) p.party ∙ ap (λ (x : rows.Clause). word_of w (parties_start + x.party * name_words)) (sym r)

  pub row_count : Placed w i → length (clause_at w i).fields ≡ row.fields
  row_count p = fields_count w i p ∙ sym row_fields

  pub row_few : Placed w i → row.fields ≤ 32
  row_few p = omega (arith, p.many, row_fields)

  pub row_party_few : Placed w i → row.party < 8
  row_party_few p = omega (arith, p.party, p.parties, ap (λ (x : rows.Clause). x.party) r)

-- field j after `at` of a line, from a up to e, is field j of a clause
pub here : (w line spans : List ℕ) (at j a e : ℕ) → a ≡ get_or spans ((at + j) * 2) 0 → e ≡ get_or spans ((at + j) * 2 + 1) 0
    → (fs : List ℕ) (x : ℕ) → get_or fs j 0 ≡ x → x < word_at w 2
    → same_bytes (between line (get_or (drop (at * 2) spans) (j * 2) 0) (get_or (drop (at * 2) spans) (j * 2 + 1) 0)) (get_or (contract_of w).fields (get_or fs j 0) []) ≡ same_bytes (between line a e) (word_of w (fields_start + x * name_words))
here w line spans at j a e p q fs x r h =
    let m : at * 2 + j * 2 ≡ (at + j) * 2 = omega arith in
    let n : at * 2 + (j * 2 + 1) ≡ (at + j) * 2 + 1 = omega arith in
    let u : get_or (drop (at * 2) spans) (j * 2) 0 ≡ a = get_or-drop (at * 2) spans (j * 2) 0 ∙ ap (λ (k : ℕ). get_or spans k 0) m ∙ sym p in
    let v : get_or (drop (at * 2) spans) (j * 2 + 1) 0 ≡ e = get_or-drop (at * 2) spans (j * 2 + 1) 0 ∙ ap (λ (k : ℕ). get_or spans k 0) n ∙ sym q in
    λ i. same_bytes (between line (u i) (v i)) ((ap (λ (k : ℕ). get_or (contract_of w).fields k []) r ∙ field_name w x h) i)
