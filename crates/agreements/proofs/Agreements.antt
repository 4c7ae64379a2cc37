-- The agreement, part by part. Assumes nothing.
use mathlib.Core.Path.{◌≡◌, refl, sym, ap, ◌∙◌}
use mathlib.Core.Bool.{Bool, true, false, ◌&&◌}
use mathlib.Core.List.{List, [], ◌∷◌}
use Prim.Native.Nat.{ℕ, zero, suc, ◌+◌, ◌-◌, ◌*◌, ◌%◌, ◌^◌, ◌<◌, ◌≤◌}
use native.Mathlib.Numerals.{add-one}
use native.Mathlib.Nat.{one-mul, add-zero}
use native.Mathlib.Omega.{arith}
use lib.ListN.{length, get_or, take, drop, length-take, length-drop, drop_of_length-le}
use Rattle.std.specs.List.{list_all, enumerate_from}
use lib.Seq.{drop-cons, drop-drop, get_or-drop, get_or-take}
use lib.IntN.{ℤ, pos}
use lib.Bits.{bit_or}
use lib.Dec.{eqb, leb}
use lib.Pow.{shl_exact}
use borrow.Author.Tests.{eq-eqb, ne_eqb, eqb-true, eqb-false, leb-true, leb-false}
use Rattle.questions.specs.declared.Question.TheVariants as ask
use Rattle.laws.specs.Choice.{pick}
use Rattle.laws.specs.Bytes.{same_bytes}
use Rattle.laws.specs.Lists.{all_below}
use Rattle.laws.proofs.Ranges.{first_others}
use Rattle.laws.proofs.Choice.{pick_true, pick_false, true_false}
use Rattle.numbers.specs.Numbers.{eq_z}
use Rattle.tokens.specs.Tokens.{between}
use Rattle.contract.specs.Tree.{Verb, Clause, Contract}
use Rattle.contract.specs.Tree as tree
use Rattle.contract.specs.Rows.{head_of, clause_row_of, said}
use Rattle.contract.specs.declared.Verb as verbs
use Rattle.contract.specs.declared.Clause as rows
use Rattle.contract.specs.contracts.Verb.{the_type}
use denote.Enum.Bare.{sameb}
use Rattle.contract.specs.declared.Verb.TheVariants.{Set, Ok}
use Rattle.contract.specs.declared.TableHead as head
use Rattle.contract.specs.Table.{word_at, clause_word}
use Rattle.contract.specs.Decode.{each_from, clause_at, contract_of}
use Rattle.contract.specs.Check.{passes}
use Rattle.state.specs.declared.State.{State}
use Rattle.state.specs.States.{with_integer, opened}
use Rattle.laws.proofs.Truths.{both_of, not_so}
use Rattle.outcomes.specs.declared.Rule.TheVariants.{Agree}
use Rattle.outcomes.specs.declared.Outcome.TheVariants.{Accepted}
use Rattle.outcomes.specs.Outcomes.{answered, refused}
use Rattle.agreements.specs.Agreement.{Part, words_in, parts_in, same_verb, same_fields, same_clause, same_clauses, set_fields, set_clause, set_clauses, agreed_fields, agreed_clause, agreed_clauses, surplus, fields_in, fields_of, same_map, agreed_on, agreed_in}
use Rattle.contract.specs.Decode.{verb_of}
use Rattle.agreements.specs.Private.{part_at, set_part, set_by, agreed_part, agreed_by, same_by}
use Rattle.agreements.proofs.Clauses.{placed, row_count, row_fields, each_cons, each_nil}

-- ---- verbs
same_verbs : (a b : verbs.Verb) → sameb the_type a b ≡ same_verb (said a) (said b)
unfolding same_verb
same_verbs Set Set = refl
same_verbs Set Ok = refl
same_verbs Ok Set = refl
same_verbs Ok Ok = refl

pub verbs_are : (a b : verbs.Verb) {x y : Verb} → said a ≡ x → said b ≡ y → sameb the_type a b ≡ same_verb x y
verbs_are a b p q = same_verbs a b ∙ λ t. same_verb (p t) (q t)

-- ---- fields
words_length : (line : List ℕ) (n : ℕ) (spans : List ℕ) → length (words_in line n spans) ≡ n
unfolding words_in
words_length line zero spans = refl
words_length line (suc n) spans = ap suc (words_length line n (drop 2 spans))

-- the bytes between two places of the line are the name of a field
abbrev pub field_named : Contract → List ℕ → ℕ → ℕ → ℕ → Bool
field_named c line a e x = same_bytes (between line a e) (get_or c.fields x [])

pub same_places : (c : Contract) (line fs spans : List ℕ)
    → same_fields c fs (words_in line (length fs) spans) ≡ all_below (length fs) (λ j. field_named c line (get_or spans (j * 2) 0) (get_or spans (j * 2 + 1) 0) (get_or fs j 0))
unfolding same_fields words_in all_below
same_places c line [] spans = refl
same_places c line (x ∷ xs) spans =
    let start : (j : ℕ) → get_or (drop 2 spans) (j * 2) 0 ≡ get_or spans (suc j * 2) 0 = λ j. get_or-drop 2 spans (j * 2) 0 ∙ ap (λ (k : ℕ). get_or spans k 0) (omega arith) in
    let end : (j : ℕ) → get_or (drop 2 spans) (j * 2 + 1) 0 ≡ get_or spans (suc j * 2 + 1) 0 = λ j. get_or-drop 2 spans (j * 2 + 1) 0 ∙ ap (λ (k : ℕ). get_or spans k 0) (omega arith) in
    ap (λ (t : Bool). field_named c line (get_or spans 0 0) (get_or spans 1 0) x && t)
    (same_places c line xs (drop 2 spans) ∙ λ t. all_below (length xs) (λ j. field_named c line (start j t) (end j t) (get_or xs j 0)))
    ∙ sym (first_others (λ j. field_named c line (get_or spans (j * 2) 0) (get_or spans (j * 2 + 1) 0) (get_or (x ∷ xs) j 0)) (length xs))

same_count : (c : Contract) (xs : List ℕ) (ns : List (List ℕ)) → same_fields c xs ns ≡ true → length xs ≡ length ns
unfolding same_fields
same_count c [] [] e = refl
same_count c [] (n ∷ ns) e = true_false (sym e)
same_count c (x ∷ xs) [] e = true_false (sym e)
same_count c (x ∷ xs) (n ∷ ns) e = ap suc (same_count c xs ns (both_of (same_bytes n (get_or c.fields x [])) (same_fields c xs ns) e).1)

-- ---- clauses
record Counted (k : Clause) (p : Part) : Type 0 where
  fields : length k.fields ≡ length p.fields
  values : length p.values ≡ length p.fields

counted : (c : Contract) (k : Clause) (p : Part) → same_clause c k p ≡ true → Counted k p
unfolding same_clause
counted c k p e =
    let a = same_bytes p.party (get_or c.parties k.party []) in
    let b = same_verb k.verb p.verb in
    let d = same_fields c k.fields p.fields in
    let f = eqb (length p.values) (length p.fields) in
    let three = both_of d f (both_of b (d && f) (both_of a (b && (d && f)) e).1).1 in
    record { fields = same_count c k.fields p.fields three.0; values = eqb-true (length p.values) (length p.fields) three.1 }

module _ (c : Contract) (k : Clause) (line parts spans : List ℕ) (values : List ℤ) (i at : ℕ) (room : at ≤ length values) where
  abbrev count : ℕ
  count = get_or parts (i * 4 + 3) 0

  abbrev it : Part
  it = part_at line parts spans values i at

  pub same_clause_counts : same_clause c k it ≡ true → (count ≡ length k.fields) × (at + count ≤ length values)
  same_clause_counts e =
      let h = counted c k it e in
      let a = words_length line count (drop (at * 2) spans) in
      let f : length k.fields ≡ length (words_in line count (drop (at * 2) spans)) = h.fields in
      let v : length (take count (drop at values)) ≡ length (words_in line count (drop (at * 2) spans)) = h.values in
      (omega (arith, a), omega (arith, a, length-take count (drop at values), length-drop at values))

  pub other_count : (count ≡ length k.fields → ⊥) → false ≡ same_clause c k it
  other_count n = sym (not_so _ (λ e. n (same_clause_counts e).0))

  pub values_short : length values < at + count → false ≡ same_clause c k it
  values_short n = sym (not_so _ (λ e. let h = (same_clause_counts e).1 in omega arith))

  module _ (n : at + count ≤ length values) where
    clause_is : same_clause c k it ≡ (same_bytes it.party (get_or c.parties k.party []) && (same_verb k.verb it.verb && (same_fields c k.fields it.fields && true)))
    unfolding same_clause
    clause_is =
        let e : length (take count (drop at values)) ≡ length (words_in line count (drop (at * 2) spans)) =
        omega (arith, words_length line count (drop (at * 2) spans), length-take count (drop at values), length-drop at values) in
        ap (λ (b : Bool). same_bytes it.party (get_or c.parties k.party []) && (same_verb k.verb it.verb && (same_fields c k.fields it.fields && b)))
        (eq-eqb (length (take count (drop at values))) (length (words_in line count (drop (at * 2) spans))) e)

  -- in the code's order
  pub clause_parts : (n m : ℕ) → n ≡ length k.fields → n ≡ m → same_clause c k it ≡ (eqb count n && (leb (at + n) (length values) && (same_verb k.verb it.verb && (same_bytes it.party (get_or c.parties k.party []) && same_fields c k.fields (words_in line m (drop (at * 2) spans))))))
  clause_parts n m f g = go (eqb count n) refl (leb (at + n) (length values)) refl
    where
      swapped : (x y z : Bool) → (x && (y && (z && true))) ≡ (y && (x && z))
      swapped true true true = refl
      swapped true true false = refl
      swapped true false z = refl
      swapped false true z = refl
      swapped false false z = refl

      go : (a : Bool) → eqb count n ≡ a → (b : Bool) → leb (at + n) (length values) ≡ b → same_clause c k it ≡ (a && (b && (same_verb k.verb it.verb && (same_bytes it.party (get_or c.parties k.party []) && same_fields c k.fields (words_in line m (drop (at * 2) spans))))))
      go false e b q = sym (other_count (λ r. eqb-false count n e (r ∙ sym f)))
      go true e false q = sym (values_short (omega (arith, eqb-true count n e, leb-false (at + n) (length values) q)))
      go true e true q =
          let u : count ≡ n = eqb-true count n e in
          clause_is (omega (arith, u, leb-true (at + n) (length values) q))
          ∙ swapped (same_bytes it.party (get_or c.parties k.party [])) (same_verb k.verb it.verb) (same_fields c k.fields it.fields)
          ∙ ap (λ (z : ℕ). same_verb k.verb it.verb && (same_bytes it.party (get_or c.parties k.party []) && same_fields c k.fields (words_in line z (drop (at * 2) spans)))) (u ∙ g)

-- the same of clause i of a table that passes, by its row
pub row_parts : (w line parts spans : List ℕ) (values : List ℤ) (i at : ℕ) (row : rows.Clause) → passes w ≡ true → i < word_at w 5 → row ≡ clause_row_of w i → at ≤ length values
    → same_clause (contract_of w) (clause_at w i) (part_at line parts spans values i at) ≡ (eqb (get_or parts (i * 4 + 3) 0) row.fields && (leb (at + row.fields) (length values) && (same_verb (clause_at w i).verb (verb_of (get_or parts (i * 4 + 2) 0)) && (same_bytes (between line (get_or parts (i * 4) 0) (get_or parts (i * 4 + 1) 0)) (get_or (contract_of w).parties (clause_at w i).party []) && same_fields (contract_of w) (clause_at w i).fields (words_in line (clause_word w i 2) (drop (at * 2) spans))))))
row_parts w line parts spans values i at row e h r room =
    clause_parts (contract_of w) (clause_at w i) line parts spans values i at room row.fields (clause_word w i 2) (sym (row_count w i row r (placed w e i h))) (row_fields w i row r)

-- ---- the parts from one of them on
abbrev pub parts_from : List ℕ → List ℕ → List ℕ → List ℤ → ℕ → ℕ → ℕ → List Part
parts_from line parts spans values n i at = parts_in line (n - i) (drop (i * 4) parts) (drop (at * 2) spans) (drop at values)

pub parts_at : (line parts spans : List ℕ) (values : List ℤ) (n i at k : ℕ) → i < n → get_or parts (i * 4 + 3) 0 ≡ k → parts_from line parts spans values n i at ≡ part_at line parts spans values i at ∷ parts_from line parts spans values n (i + 1) (at + k)
unfolding parts_in
parts_at line parts spans values n i at k h q =
    let e : n - i ≡ suc (n - (i + 1)) = omega arith in
    let a : i * 4 + 0 ≡ i * 4 = omega arith in
    let d : i * 4 + 4 ≡ (i + 1) * 4 = omega arith in
    let f : get_or (drop (i * 4) parts) 3 0 ≡ get_or parts (i * 4 + 3) 0 = get_or-drop (i * 4) parts 3 0 in
    let g : at * 2 + get_or (drop (i * 4) parts) 3 0 * 2 ≡ (at + k) * 2 = omega arith in
    let b : at + get_or (drop (i * 4) parts) 3 0 ≡ at + k = omega arith in
    ap (λ (m : ℕ). parts_in line m (drop (i * 4) parts) (drop (at * 2) spans) (drop at values)) e
    ∙ (λ t. record {
      party = between line ((get_or-drop (i * 4) parts 0 0 ∙ ap (λ (m : ℕ). get_or parts m 0) a) t) (get_or-drop (i * 4) parts 1 0 t);
      verb = verb_of (get_or-drop (i * 4) parts 2 0 t);
      fields = words_in line (f t) (drop (at * 2) spans);
      values = take (f t) (drop at values);
    }
    ∷ parts_in line (n - (i + 1)) ((drop-drop 4 (i * 4) parts ∙ ap (λ (m : ℕ). drop m parts) d) t)
    ((drop-drop (get_or (drop (i * 4) parts) 3 0 * 2) (at * 2) spans ∙ ap (λ (m : ℕ). drop m spans) g) t)
    ((drop-drop (get_or (drop (i * 4) parts) 3 0) at values ∙ ap (λ (m : ℕ). drop m values) b) t))

-- ---- what is left over
pub parts_none : (line parts spans : List ℕ) (values : List ℤ) (n i at : ℕ) → n ≤ i → parts_from line parts spans values n i at ≡ pick (eqb (length (drop (i * 4) parts)) 0 && (eqb (length (drop (at * 2) spans)) 0 && eqb (length (drop at values)) 0)) [] (surplus ∷ [])
unfolding parts_in
parts_none line parts spans values n i at h =
    let e : n - i ≡ 0 = omega arith in
    ap (λ (m : ℕ). parts_in line m (drop (i * 4) parts) (drop (at * 2) spans) (drop at values)) e

nothing_left : {A : Type 0} (l : List A) (n : ℕ) → eqb (length (drop n l)) 0 ≡ leb (length l) n
nothing_left l n = go (leb (length l) n) refl
  where
    go : (b : Bool) → leb (length l) n ≡ b → eqb (length (drop n l)) 0 ≡ leb (length l) n
    go true e = let h = leb-true (length l) n e in eq-eqb (length (drop n l)) 0 (omega (arith, length-drop n l)) ∙ sym e
    go false e = let h = leb-false (length l) n e in ne_eqb (length (drop n l)) 0 (λ q. absurd (omega (arith, length-drop n l))) ∙ sym e

none_more : (c : Contract) (b : Bool) → same_clauses c [] (pick b [] (surplus ∷ [])) ≡ b
unfolding same_clauses pick
none_more c true = refl
none_more c false = refl

-- a clause has neither no part nor the surplus one
no_part : {X : Type 0} (c : Contract) (k : Clause) (ks : List Clause) (b : Bool) → same_clauses c (k ∷ ks) (pick b [] (surplus ∷ [])) ≡ true → X
unfolding same_clauses pick
no_part c k ks true e = true_false (sym e)
no_part c k ks false e =
    let h : ◌≡◌ {A = ℕ} 1 0 = (counted c k surplus (both_of (same_clause c k surplus) (same_clauses c ks []) e).0).values in
    absurd (omega arith)

-- the first part of a line
abbrev first_part : List ℕ → List ℕ → List ℕ → List ℤ → Part
first_part line parts spans values =
    record {
      party = between line (get_or parts 0 0) (get_or parts 1 0);
      verb = verb_of (get_or parts 2 0);
      fields = words_in line (get_or parts 3 0) spans;
      values = take (get_or parts 3 0) values;
    }

clauses_count : (c : Contract) (ks : List Clause) (line : List ℕ) (n : ℕ) (parts spans : List ℕ) (values : List ℤ) → same_clauses c ks (parts_in line n parts spans values) ≡ true → n ≡ length ks
unfolding parts_in same_clauses
clauses_count c [] line zero parts spans values e = refl
clauses_count c [] line (suc n) parts spans values e = true_false (sym e)
clauses_count c (k ∷ ks) line zero parts spans values e = no_part c k ks _ e
clauses_count c (k ∷ ks) line (suc n) parts spans values e =
    let l = parts_in line n (drop 4 parts) (drop (get_or parts 3 0 * 2) spans) (drop (get_or parts 3 0) values) in
    ap suc (clauses_count c ks line n (drop 4 parts) (drop (get_or parts 3 0 * 2) spans) (drop (get_or parts 3 0) values) (both_of (same_clause c k (first_part line parts spans values)) (same_clauses c ks l) e).1)

pub other_clauses : (c : Contract) (ks : List Clause) (line : List ℕ) (n : ℕ) (parts spans : List ℕ) (values : List ℤ) → (n ≡ length ks → ⊥) → false ≡ same_clauses c ks (parts_in line n parts spans values)
other_clauses c ks line n parts spans values h = sym (not_so _ (λ e. h (clauses_count c ks line n parts spans values e)))

module _ (c : Contract) (f : ℕ → Clause) (line parts spans : List ℕ) (values : List ℤ) (n i at : ℕ) where
  abbrev rest : Bool
  rest = same_clauses c (each_from i (n - i) f) (parts_from line parts spans values n i at)

  clauses_turn : (k : ℕ) → i < n → get_or parts (i * 4 + 3) 0 ≡ k → rest ≡ (same_clause c (f i) (part_at line parts spans values i at) && same_clauses c (each_from (i + 1) (n - (i + 1)) f) (parts_from line parts spans values n (i + 1) (at + k)))
  unfolding same_clauses
  clauses_turn k h q = λ t. same_clauses c (each_cons f n i h t) (parts_at line parts spans values n i at k h q t)

  pub clauses_more : (k : ℕ) → i < n → get_or parts (i * 4 + 3) 0 ≡ k → same_clause c (f i) (part_at line parts spans values i at) ≡ true → rest ≡ same_clauses c (each_from (i + 1) (n - (i + 1)) f) (parts_from line parts spans values n (i + 1) (at + k))
  clauses_more k h q e = clauses_turn k h q ∙ rw e

  pub clauses_not : i < n → same_clause c (f i) (part_at line parts spans values i at) ≡ false → rest ≡ false
  clauses_not h e = clauses_turn _ h refl ∙ rw e

  pub clauses_all : n ≤ i → rest ≡ (leb (length parts) (i * 4) && (leb (length spans) (at * 2) && leb (length values) at))
  unfolding same_clauses
  clauses_all h =
      (λ t. same_clauses c (each_nil f n i h t) (parts_none line parts spans values n i at h t)) ∙ none_more c _
      ∙ (λ t. nothing_left parts (i * 4) t && (nothing_left spans (at * 2) t && nothing_left values at t))

-- ---- values set
-- one field more, of those that have values
pub set_next : (s t : State) (fs : List ℕ) (zs : List ℤ) (n j x : ℕ) {z : ℤ} → t ≡ with_integer s x z → n ≡ length fs → j < length (take n zs) → get_or fs j 0 ≡ x → get_or (take n zs) j (pos 0) ≡ z
    → set_fields s (drop j fs) (drop j zs) ≡ set_fields t (drop (j + 1) fs) (drop (j + 1) zs)
unfolding set_fields
set_next s t fs zs n j x r e h p q =
    let few : j < n = omega (arith, length-take n zs) in
    let here = sym (get_or-take n zs j (pos 0) few) ∙ q in
    (λ i. set_fields s (drop-cons fs j 0 (omega arith) i) (drop-cons zs j (pos 0) (omega (arith, length-take n zs)) i))
    ∙ (λ i. set_fields (with_integer s (p i) (here i)) (drop (sym (add-one j) i) fs) (drop (sym (add-one j) i) zs))
    ∙ ap (λ (u : State). set_fields u (drop (j + 1) fs) (drop (j + 1) zs)) (sym r)

set_none : (s : State) (xs : List ℕ) → set_fields s xs [] ≡ s
unfolding set_fields
set_none s [] = refl
set_none s (x ∷ xs) = refl

pub set_end : (s : State) (fs : List ℕ) (zs : List ℤ) (n j : ℕ) → n ≡ length fs → length (take n zs) ≤ j → set_fields s (drop j fs) (drop j zs) ≡ s
unfolding set_fields
set_end s fs zs n j e h = go (leb (length fs) j) refl
  where
    go : (b : Bool) → leb (length fs) j ≡ b → set_fields s (drop j fs) (drop j zs) ≡ s
    go true q = ap (λ (xs : List ℕ). set_fields s xs (drop j zs)) (drop_of_length-le fs (leb-true (length fs) j q))
    go false q =
        let l = leb-false (length fs) j q in
        let m : length zs ≤ j = omega (arith, length-take n zs) in
        ap (set_fields s (drop j fs)) (drop_of_length-le zs m) ∙ set_none s (drop j fs)

-- ---- values agreed on
abbrev pub agrees : State → ℕ → ℤ → Bool
agrees s x z = eqb (get_or s.kinds x 0) 1 && eq_z (get_or s.numbers x (pos 0)) z

-- as many fields as have values, each with its number
pub agreed_numbered : (s : State) (x : ℕ → ℕ) (fs : List ℕ) (zs : List ℤ) (n : ℕ) → ((j : ℕ) → j < length fs → x (n + j) ≡ get_or fs j 0)
    → list_all (λ p. agrees s (x p.0) p.1) (enumerate_from n (take (length fs) zs)) ≡ agreed_fields s fs zs
unfolding agreed_fields
agreed_numbered s x [] zs n e = refl
agreed_numbered s x (f ∷ fs) [] n e = refl
agreed_numbered s x (f ∷ fs) (z ∷ zs) n e =
    let here : x n ≡ f = ap x (sym (add-zero n)) ∙ e 0 (omega arith) in
    (λ i. agrees s (here i) z && agreed_numbered s x fs zs (n + 1) (λ j h. ap x (omega arith) ∙ e (suc j) (omega (arith, h))) i)
    ∙ regroup (eqb (get_or s.kinds f 0) 1) _ _
  where
    regroup : (a b c : Bool) → ((a && b) && c) ≡ (a && (b && c))
    regroup true b c = refl
    regroup false b c = refl

-- ---- all clauses, turn by turn
module _ (f : ℕ → Clause) (values : List ℤ) (n i at : ℕ) (s : State) where
  next_values : (k : ℕ) → length (f i).fields ≡ k → drop (length (f i).fields) (drop at values) ≡ drop (at + k) values
  next_values k e = drop-drop (length (f i).fields) at values ∙ ap (λ (m : ℕ). drop (at + m) values) e

  pub set_by_more : (k : ℕ) → i < n → length (f i).fields ≡ k → (t : State) → t ≡ set_part s (f i).fields (drop at values) (f i).verb → set_by s (each_from i (n - i) f) (drop at values) ≡ set_by t (each_from (i + 1) (n - (i + 1)) f) (drop (at + k) values)
  unfolding set_by
  set_by_more k h e t q =
      ap (λ (ks : List Clause). set_by s ks (drop at values)) (each_cons f n i h)
      ∙ (λ j. set_by (sym q j) (each_from (i + 1) (n - (i + 1)) f) (next_values k e j))

  pub set_by_all : n ≤ i → set_by s (each_from i (n - i) f) (drop at values) ≡ s
  unfolding set_by
  set_by_all h = ap (λ (ks : List Clause). set_by s ks (drop at values)) (each_nil f n i h)

  agreed_by_turn : (k : ℕ) → i < n → length (f i).fields ≡ k → agreed_by s (each_from i (n - i) f) (drop at values) ≡ (agreed_part s (f i).fields (drop at values) (f i).verb && agreed_by s (each_from (i + 1) (n - (i + 1)) f) (drop (at + k) values))
  unfolding agreed_by
  agreed_by_turn k h e =
      ap (λ (ks : List Clause). agreed_by s ks (drop at values)) (each_cons f n i h)
      ∙ ap (λ (zs : List ℤ). agreed_part s (f i).fields (drop at values) (f i).verb && agreed_by s (each_from (i + 1) (n - (i + 1)) f) zs) (next_values k e)

  pub agreed_by_more : (k : ℕ) → i < n → length (f i).fields ≡ k → agreed_part s (f i).fields (drop at values) (f i).verb ≡ true → agreed_by s (each_from i (n - i) f) (drop at values) ≡ agreed_by s (each_from (i + 1) (n - (i + 1)) f) (drop (at + k) values)
  agreed_by_more k h e t = agreed_by_turn k h e ∙ rw t

  pub agreed_by_not : i < n → agreed_part s (f i).fields (drop at values) (f i).verb ≡ false → agreed_by s (each_from i (n - i) f) (drop at values) ≡ false
  agreed_by_not h t = agreed_by_turn _ h refl ∙ rw t

  pub agreed_by_all : n ≤ i → agreed_by s (each_from i (n - i) f) (drop at values) ≡ true
  unfolding agreed_by
  agreed_by_all h = ap (λ (ks : List Clause). agreed_by s ks (drop at values)) (each_nil f n i h)

-- ---- the masks, from the last field and the last clause on
module _ (fs : List ℕ) (j : ℕ) where
  pub fields_none : length fs ≤ j → 0 ≡ fields_in (drop j fs)
  unfolding fields_in
  fields_none h = ap fields_in (sym (drop_of_length-le fs h))

  pub fields_before : (m x : ℕ) → 0 < j → j ≤ length fs → m ≡ fields_in (drop j fs) → x ≡ get_or fs (j - 1) 0 → x < 64 → bit_or m (1 * 2 ^ x % 2 ^ 64) ≡ fields_in (drop (j - 1) fs)
  unfolding fields_in
  fields_before m x p h e q l =
      let one : 1 < 2 ^ 1 = omega arith in
      let b : suc (j - 1) ≡ j = omega arith in
      ap (bit_or m) (shl_exact 1 x 64 one (omega arith) ∙ one-mul (2 ^ x))
      ∙ (λ t. bit_or (e t) (2 ^ q t))
      ∙ sym (ap fields_in (drop-cons fs (j - 1) 0 (omega arith) ∙ ap (λ (k : ℕ). get_or fs (j - 1) 0 ∷ drop k fs) b))

  pub fields_done : (m : ℕ) → j ≤ 0 → m ≡ fields_in (drop j fs) → m ≡ fields_in fs
  fields_done m h e =
      let z : j ≡ 0 = omega arith in
      e ∙ ap (λ (k : ℕ). fields_in (drop k fs)) z

module _ (v : Verb) (f : ℕ → Clause) (n i : ℕ) where
  pub clauses_none : n ≤ i → 0 ≡ fields_of v (each_from i (n - i) f)
  unfolding fields_of
  clauses_none h = ap (fields_of v) (sym (each_nil f n i h))

  module _ (m : ℕ) (p : 0 < i) (h : i ≤ n) (e : m ≡ fields_of v (each_from i (n - i) f)) where
    before : each_from (i - 1) (n - (i - 1)) f ≡ f (i - 1) ∷ each_from i (n - i) f
    before =
        let b : i - 1 + 1 ≡ i = omega arith in
        each_cons f n (i - 1) (omega arith) ∙ ap (λ (k : ℕ). f (i - 1) ∷ each_from k (n - k) f) b

    pub clauses_before : same_verb v (f (i - 1)).verb ≡ true → (q : ℕ) → q ≡ fields_in (f (i - 1)).fields → bit_or m q ≡ fields_of v (each_from (i - 1) (n - (i - 1)) f)
    unfolding fields_of
    clauses_before y q g = (λ t. bit_or (e t) (g t)) ∙ sym (ap (fields_of v) before ∙ pick_true _ _ _ y)

    pub clauses_skip : same_verb v (f (i - 1)).verb ≡ false → m ≡ fields_of v (each_from (i - 1) (n - (i - 1)) f)
    unfolding fields_of
    clauses_skip y = e ∙ sym (ap (fields_of v) before ∙ pick_false _ _ _ y)

  pub clauses_done : (m : ℕ) → i ≤ 0 → m ≡ fields_of v (each_from i (n - i) f) → m ≡ fields_of v (each_from 0 (n - 0) f)
  clauses_done m h e =
      let z : i ≡ 0 = omega arith in
      e ∙ ap (λ (k : ℕ). fields_of v (each_from k (n - k) f)) z

-- of SET and of OK
pub masks_same : (ks : List Clause) (m o : ℕ) (b : Bool) → m ≡ fields_of tree.set ks → o ≡ fields_of tree.ok ks → m ≡ o → b ≡ (eqb (fields_of tree.set ks) (fields_of tree.ok ks) && b)
unfolding pick
masks_same ks m o b p q e = sym (ap (λ (t : Bool). t && b) (eq-eqb _ _ (sym p ∙ e ∙ q)))

pub masks_other : (ks : List Clause) (m o : ℕ) (b : Bool) → m ≡ fields_of tree.set ks → o ≡ fields_of tree.ok ks → (m ≡ o → ⊥) → false ≡ (eqb (fields_of tree.set ks) (fields_of tree.ok ks) && b)
unfolding pick
masks_other ks m o b p q h = sym (ap (λ (t : Bool). t && b) (ne_eqb _ _ (λ e. h (p ∙ e ∙ sym q))))

-- ---- where the clauses are the same, their values stand in a row
set_taken : (s : State) (xs : List ℕ) (zs : List ℤ) → set_fields s xs (take (length xs) zs) ≡ set_fields s xs zs
unfolding set_fields
set_taken s [] zs = refl
set_taken s (x ∷ xs) [] = refl
set_taken s (x ∷ xs) (z ∷ zs) = set_taken (with_integer s x z) xs zs

agreed_taken : (s : State) (xs : List ℕ) (zs : List ℤ) → agreed_fields s xs (take (length xs) zs) ≡ agreed_fields s xs zs
unfolding agreed_fields
agreed_taken s [] zs = refl
agreed_taken s (x ∷ xs) [] = refl
agreed_taken s (x ∷ xs) (z ∷ zs) = ap (λ (b : Bool). eqb (get_or s.kinds x 0) 1 && (eq_z (get_or s.numbers x (pos 0)) z && b)) (agreed_taken s xs zs)

module _ (k : Clause) (p : Part) (zs : List ℤ) (e : p.values ≡ take (length k.fields) zs) (s : State) where
  set_one : (v : Verb) → set_clause s k p v ≡ set_part s k.fields zs v
  set_one tree.set = ap (set_fields s k.fields) e ∙ set_taken s k.fields zs
  set_one tree.ok = refl

  agreed_one : (v : Verb) → agreed_clause s k p v ≡ agreed_part s k.fields zs v
  agreed_one tree.set = refl
  agreed_one tree.ok = ap (agreed_fields s k.fields) e ∙ agreed_taken s k.fields zs

-- the first part of a line has as many fields as the clause
first_count : (c : Contract) (k : Clause) (line parts spans : List ℕ) (values : List ℤ) → same_clause c k (first_part line parts spans values) ≡ true → get_or parts 3 0 ≡ length k.fields
first_count c k line parts spans values e = omega (arith, words_length line (get_or parts 3 0) spans, (counted c k (first_part line parts spans values) e).fields)

pub set_in_row : (c : Contract) (ks : List Clause) (line : List ℕ) (n : ℕ) (parts spans : List ℕ) (values : List ℤ) (s : State) → same_clauses c ks (parts_in line n parts spans values) ≡ true → set_clauses s ks (parts_in line n parts spans values) ≡ set_by s ks values
unfolding parts_in same_clauses set_clauses set_by
set_in_row c [] line zero parts spans values s e = refl
set_in_row c [] line (suc n) parts spans values s e = refl
set_in_row c (k ∷ ks) line zero parts spans values s e = no_part c k ks _ e
set_in_row c (k ∷ ks) line (suc n) parts spans values s e =
    let p : Part = first_part line parts spans values in
    let l = parts_in line n (drop 4 parts) (drop (get_or parts 3 0 * 2) spans) (drop (get_or parts 3 0) values) in
    let b = both_of (same_clause c k p) (same_clauses c ks l) e in
    let q : get_or parts 3 0 ≡ length k.fields = first_count c k line parts spans values b.0 in
    set_in_row c ks line n (drop 4 parts) (drop (get_or parts 3 0 * 2) spans) (drop (get_or parts 3 0) values) (set_clause s k p k.verb) b.1
    ∙ (λ i. set_by (set_one k p values (ap (λ (m : ℕ). take m values) q) s k.verb i) ks (drop (q i) values))

pub agreed_in_row : (c : Contract) (ks : List Clause) (line : List ℕ) (n : ℕ) (parts spans : List ℕ) (values : List ℤ) (s : State) → same_clauses c ks (parts_in line n parts spans values) ≡ true → agreed_clauses s ks (parts_in line n parts spans values) ≡ agreed_by s ks values
unfolding parts_in same_clauses agreed_clauses agreed_by
agreed_in_row c [] line zero parts spans values s e = refl
agreed_in_row c [] line (suc n) parts spans values s e = refl
agreed_in_row c (k ∷ ks) line zero parts spans values s e = no_part c k ks _ e
agreed_in_row c (k ∷ ks) line (suc n) parts spans values s e =
    let p : Part = first_part line parts spans values in
    let l = parts_in line n (drop 4 parts) (drop (get_or parts 3 0 * 2) spans) (drop (get_or parts 3 0) values) in
    let b = both_of (same_clause c k p) (same_clauses c ks l) e in
    let q : get_or parts 3 0 ≡ length k.fields = first_count c k line parts spans values b.0 in
    (λ i. agreed_one k p values (ap (λ (m : ℕ). take m values) q) s k.verb i && agreed_in_row c ks line n (drop 4 parts) (drop (get_or parts 3 0 * 2) spans) (drop (get_or parts 3 0) values) s b.1 i)
    ∙ (λ i. agreed_part s k.fields values k.verb && agreed_by s ks (drop (q i) values))

-- ---- the step
module _ (c : Contract) (s : State) (ps : List Part) where
  pub agree_twice : s.agreed ≡ true → refused s ask.NotAgreed ≡ agreed_on c s ps
  unfolding agreed_on
  agree_twice e = sym (pick_true s.agreed _ _ e)

  module _ (e : s.agreed ≡ false) where
    pub agree_others : same_clauses c c.clauses ps ≡ false → refused s ask.SameClauses ≡ agreed_on c s ps
    unfolding agreed_on
    agree_others f = sym (pick_false s.agreed _ _ e ∙ pick_false _ _ _ f)

    module _ (f : same_clauses c c.clauses ps ≡ true) (t : State) (q : t ≡ set_clauses s c.clauses ps) (zs : List ℤ) (g : agreed_clauses t c.clauses ps ≡ agreed_by t c.clauses zs) where
      by_map : same_map s c.clauses ps ≡ same_by t c.clauses zs
      unfolding same_map
      by_map = ap (λ (b : Bool). eqb (fields_of tree.set c.clauses) (fields_of tree.ok c.clauses) && b) (ap (λ (x : State). agreed_clauses x c.clauses ps) (sym q) ∙ g)

      pub agree_differ : same_by t c.clauses zs ≡ false → refused s ask.SameValues ≡ agreed_on c s ps
      unfolding agreed_on
      agree_differ h = sym (pick_false s.agreed _ _ e ∙ pick_true _ _ _ f ∙ pick_false _ _ _ (by_map ∙ h))

      pub agree_done : same_by t c.clauses zs ≡ true → answered (Accepted Agree) (opened t c.initial) ≡ agreed_on c s ps
      unfolding agreed_on
      agree_done h =
          ap (λ (x : State). answered (Accepted Agree) (opened x c.initial)) q
          ∙ sym (pick_false s.agreed _ _ e ∙ pick_true _ _ _ f ∙ pick_true _ _ _ (by_map ∙ h))

-- the initial state stands in the table's head
pub opened_at : (w : List ℕ) (t : State) (h : head.TableHead) → h ≡ head_of w → record { agreed = true; state = h.initial; kinds = t.kinds; numbers = t.numbers; texts = t.texts; assets = t.assets; clock = t.clock; pending = t.pending; events = t.events } ≡ opened t (contract_of w).initial
unfolding contract_of
opened_at w t h e =
    λ i. record {
      agreed = true;
      state = (e i).initial;
      kinds = t.kinds;
      numbers = t.numbers;
      texts = t.texts;
      assets = t.assets;
      clock = t.clock;
      pending = t.pending;
      events = t.events;
    }

-- an agreement on a table that passes
pub in_passing : (w : List ℕ) (s : State) (ps : List Part) → passes w ≡ true → agreed_in w s ps ≡ agreed_on (contract_of w) s ps
unfolding agreed_in
in_passing w s ps e = pick_true _ _ _ e
