-- An agreement is accepted exactly if AGREE applies. Assumes nothing.
use mathlib.Core.Path.{◌≡◌, refl, sym, ap, subst, ◌∙◌}
use mathlib.Core.Bool.{Bool, true, false, ◌&&◌}
use mathlib.Core.Logic.{◌↔◌}
use mathlib.Core.List.{List, [], ◌∷◌}
use Prim.Native.Nat.{ℕ, suc, ◌^◌}
use native.Mathlib.Omega.{arith}
use lib.ListN.{length, get_or, take}
use lib.Seq.{get_or-take}
use lib.Bits.{and_comm}
use lib.Dec.{eqb, ltb}
use lib.IntN.{ℤ, pos, negsuc}
use borrow.Author.Tests.{eqb-true, eq-eqb, le-ltb}
use Rattle.laws.specs.Choice.{pick}
use Rattle.laws.specs.Bytes.{same_bytes}
use Rattle.laws.proofs.Choice.{by_cases, pick_true, pick_false, true_false}
use Rattle.laws.proofs.Bytes.{same_refl, same_equal}
use Rattle.numbers.specs.Numbers.{eq_z}
use Rattle.numbers.specs.declared.Value.TheVariants.{Integer, Text}
use Rattle.std.specs.Prelude.{Ok, Err}
use Rattle.questions.specs.declared.Question.{Question}
use Rattle.questions.specs.declared.Question.TheVariants as ask
use Rattle.contract.specs.Tree as tree
use Rattle.contract.specs.Tree.{Word, Verb, Clause, Contract}
use Rattle.laws.proofs.Members.{below_at}
use Rattle.laws.proofs.Truths.{both_left, both_right, both_true, first_true, second_true, either_true}
use Rattle.evaluation.specs.Memory.{Memory}
use Rattle.evaluation.specs.Meaning.{field_value, value_of}
use Rattle.state.specs.declared.State.{State}
use Rattle.state.specs.declared.Pending.{Pending}
use Rattle.state.specs.States.{live, used, field_ok, field_slot_ok, asset_slot_ok, state_ok, opened}
use Rattle.state.proofs.Within.{within, unagreed}
use Rattle.contract.specs.Limits.{max_fields, max_assets}
use Rattle.outcomes.specs.declared.Rule.TheVariants.{Agree}
use Rattle.outcomes.specs.declared.Outcome.TheVariants.{Accepted}
use Rattle.outcomes.specs.declared.Stepped.{Stepped}
use Rattle.outcomes.specs.Outcomes.{answered, refused}
use Rattle.agreements.specs.Agreement.{Part, same_verb, same_fields, same_clause, same_clauses, set_fields, set_clause, set_clauses, agreed_fields, agreed_clause, agreed_clauses, fields_in, fields_of, same_map, agreed_on}
use Rattle.laws.proofs.Bits.{bit_at, bit_or_lem, bit_zero, bit_one, all_in}
use Rattle.published.specs.Published.{Configuration, runtime, no_state, in_state, nothing, field_names, Empty, Says, Parts, nobody, party, with_integers, with_clause, with_clauses, Values, no_field, a_field, Agreed, no_clause, set_by, agreed_by, In, first, later, Names, by_this, by_another, agreement, Table2, agree, phase_of, memory_at, idle, Comes}
use Rattle.published.proofs.Idle.{comes_by}

-- ---- question 23

same_verb_lem : (a b : Verb) → same_verb a b ≡ true → b ≡ a
unfolding same_verb
same_verb_lem tree.set tree.set e = refl
same_verb_lem tree.set tree.ok e = true_false (sym e)
same_verb_lem tree.ok tree.set e = true_false (sym e)
same_verb_lem tree.ok tree.ok e = refl

verb_same : (a b : Verb) → b ≡ a → same_verb a b ≡ true
unfolding same_verb
verb_same tree.set b e = subst (λ (v : Verb). same_verb tree.set v ≡ true) (sym e) refl
verb_same tree.ok b e = subst (λ (v : Verb). same_verb tree.ok v ≡ true) (sym e) refl

module _ (c : Contract) where
  same_fields_lem : (xs : List ℕ) (ns : List Word) → same_fields c xs ns ≡ true → ns ≡ field_names c xs
  unfolding same_fields field_names
  same_fields_lem [] [] e = refl
  same_fields_lem [] (n ∷ ns) e = true_false (sym e)
  same_fields_lem (x ∷ xs) [] e = true_false (sym e)
  same_fields_lem (x ∷ xs) (n ∷ ns) e =
      let a = same_bytes n (get_or c.fields x []) in
      let p : n ≡ get_or c.fields x [] = same_equal n (get_or c.fields x []) (both_left a (same_fields c xs ns) e) in
      let q : ns ≡ field_names c xs = same_fields_lem xs ns (both_right a (same_fields c xs ns) e) in
      λ i. p i ∷ q i

  names_same : (xs : List ℕ) → same_fields c xs (field_names c xs) ≡ true
  unfolding same_fields field_names
  names_same [] = refl
  names_same (x ∷ xs) = both_true _ _ (same_refl (get_or c.fields x [])) (names_same xs)

  same_clause_lem : (k : Clause) (p : Part) → same_clause c k p ≡ true → Says c k p
  unfolding same_clause
  same_clause_lem k p e =
      let a = same_bytes p.party (get_or c.parties k.party []) in
      let b = same_verb k.verb p.verb in
      let d = same_fields c k.fields p.fields in
      let l = eqb (length p.values) (length p.fields) in
      let r = both_right a (b && (d && l)) e in
      let t = both_right b (d && l) r in
      record {
        party_is = same_equal _ _ (both_left a (b && (d && l)) e);
        verb_is = same_verb_lem k.verb p.verb (both_left b (d && l) r);
        fields_are = same_fields_lem k.fields p.fields (both_left d l t);
        values_are = eqb-true _ _ (both_right d l t);
      }

  clause_same : (k : Clause) (p : Part) → Says c k p → same_clause c k p ≡ true
  unfolding same_clause
  clause_same k p s =
      both_true _ _ (subst (λ (w : Word). same_bytes p.party w ≡ true) s.party_is (same_refl p.party))
      (both_true _ _ (verb_same k.verb p.verb s.verb_is)
      (both_true _ _ (subst (λ (w : List Word). same_fields c k.fields w ≡ true) (sym s.fields_are) (names_same k.fields))
      (eq-eqb _ _ s.values_are)))

  same_clauses_lem : (ks : List Clause) (ps : List Part) → same_clauses c ks ps ≡ true → Parts c ks ps
  unfolding same_clauses
  same_clauses_lem [] [] e = nobody
  same_clauses_lem [] (p ∷ ps) e = true_false (sym e)
  same_clauses_lem (k ∷ ks) [] e = true_false (sym e)
  same_clauses_lem (k ∷ ks) (p ∷ ps) e =
      party (same_clause_lem k p (both_left (same_clause c k p) (same_clauses c ks ps) e)) (same_clauses_lem ks ps (both_right (same_clause c k p) (same_clauses c ks ps) e))

  clauses_same : {ks : List Clause} {ps : List Part} → Parts c ks ps → same_clauses c ks ps ≡ true
  unfolding same_clauses
  clauses_same nobody = refl
  clauses_same (party {k = k} {p = p} s r) = both_true _ _ (clause_same k p s) (clauses_same r)

-- ---- the values set

set_fields_lem : (s : State) (xs : List ℕ) (zs : List ℤ) → memory_at (set_fields s xs zs) ≡ with_integers (memory_at s) xs zs
unfolding set_fields with_integers
set_fields_lem s [] zs = refl
set_fields_lem s (x ∷ xs) [] = refl
set_fields_lem s (x ∷ xs) (z ∷ zs) = set_fields_lem _ xs zs

set_clause_lem : (s : State) (k : Clause) (p : Part) (v : Verb) → memory_at (set_clause s k p v) ≡ with_clause (memory_at s) k p v
set_clause_lem s k p tree.set = set_fields_lem s k.fields p.values
set_clause_lem s k p tree.ok = refl

set_clauses_lem : (s : State) (ks : List Clause) (ps : List Part) → memory_at (set_clauses s ks ps) ≡ with_clauses (memory_at s) ks ps
unfolding set_clauses with_clauses
set_clauses_lem s [] ps = refl
set_clauses_lem s (k ∷ ks) [] = refl
set_clauses_lem s (k ∷ ks) (p ∷ ps) = set_clauses_lem (set_clause s k p k.verb) ks ps ∙ ap (λ (m : Memory). with_clauses m ks ps) (set_clause_lem s k p k.verb)

live_fields : (s : State) (xs : List ℕ) (zs : List ℤ) → live (set_fields s xs zs) ≡ live s
unfolding set_fields
live_fields s [] zs = refl
live_fields s (x ∷ xs) [] = refl
live_fields s (x ∷ xs) (z ∷ zs) = live_fields _ xs zs

live_clause : (s : State) (k : Clause) (p : Part) (v : Verb) → live (set_clause s k p v) ≡ live s
live_clause s k p tree.set = live_fields s k.fields p.values
live_clause s k p tree.ok = refl

live_clauses : (s : State) (ks : List Clause) (ps : List Part) → live (set_clauses s ks ps) ≡ live s
unfolding set_clauses
live_clauses s [] ps = refl
live_clauses s (k ∷ ks) [] = refl
live_clauses s (k ∷ ks) (p ∷ ps) = live_clauses (set_clause s k p k.verb) ks ps ∙ live_clause s k p k.verb

-- ---- question 24

equal_integers : (a b : ℤ) → eq_z a b ≡ true → a ≡ b
equal_integers (pos a) (pos b) e = ap pos (eqb-true a b e)
equal_integers (pos a) (negsuc b) e = true_false (sym e)
equal_integers (negsuc a) (pos b) e = true_false (sym e)
equal_integers (negsuc a) (negsuc b) e = ap negsuc (eqb-true a b e)

integers_equal : (a : ℤ) → eq_z a a ≡ true
integers_equal (pos a) = eq-eqb a a refl
integers_equal (negsuc a) = eq-eqb a a refl

integer_field : (kind : ℕ) (number z : ℤ) (text : ℕ) → eqb kind 1 ≡ true → eq_z number z ≡ true → field_value kind number text ≡ Ok (Integer z)
unfolding field_value pick
integer_field kind number z text e q =
    let k : kind ≡ 1 = eqb-true kind 1 e in
    ap (λ (n : ℕ). field_value n number text) k ∙ ap (λ (y : ℤ). Ok (Integer y)) (equal_integers number z q)

field_integer : (kind : ℕ) (number z : ℤ) (text : ℕ) → field_value kind number text ≡ Ok (Integer z) → eqb kind 1 && eq_z number z ≡ true
unfolding field_value pick
field_integer kind number z text = go (eqb kind 0) (eqb kind 1)
  where
    go : (a b : Bool) → pick a (Err ask.FieldValue) (pick b (Ok (Integer number)) (Ok (Text text))) ≡ Ok (Integer z) → b && eq_z number z ≡ true
    go true b e = let y : ◌≡◌ {A = ℕ} 0 1 = cc in absurd (omega arith)
    go false true e = let y : number ≡ z = cc in subst (λ (x : ℤ). eq_z number x ≡ true) y (integers_equal number)
    go false false e = let y : ◌≡◌ {A = ℕ} 0 1 = cc in absurd (omega arith)

agreed_values : (s : State) (xs : List ℕ) (zs : List ℤ) → length zs ≡ length xs → agreed_fields s xs zs ≡ true → Values (memory_at s) xs zs
unfolding agreed_fields value_of
agreed_values s [] [] l e = no_field
agreed_values s [] (z ∷ zs) l e = absurd (omega arith)
agreed_values s (x ∷ xs) [] l e = absurd (omega arith)
agreed_values s (x ∷ xs) (z ∷ zs) l e =
    let a = eqb (get_or s.kinds x 0) 1 in
    let b = eq_z (get_or s.numbers x (pos 0)) z in
    let r = both_right a (b && agreed_fields s xs zs) e in
    a_field (integer_field _ _ z _ (both_left a (b && agreed_fields s xs zs) e) (both_left b (agreed_fields s xs zs) r))
    (agreed_values s xs zs (omega arith) (both_right b (agreed_fields s xs zs) r))

values_agreed : (s : State) {xs : List ℕ} {zs : List ℤ} → Values (memory_at s) xs zs → agreed_fields s xs zs ≡ true
unfolding agreed_fields value_of
values_agreed s no_field = refl
values_agreed s (a_field {x = x} {z = z} e r) =
    let a = eqb (get_or s.kinds x 0) 1 in
    let b = eq_z (get_or s.numbers x (pos 0)) z in
    let q = field_integer (get_or s.kinds x 0) (get_or s.numbers x (pos 0)) z (get_or s.texts x 0) e in
    both_true _ _ (both_left a b q) (both_true _ _ (both_right a b q) (values_agreed s r))

length_names : (c : Contract) (xs : List ℕ) → length (field_names c xs) ≡ length xs
unfolding field_names
length_names c [] = refl
length_names c (x ∷ xs) = ap suc (length_names c xs)

clauses_agreed : (c : Contract) (s : State) {ks : List Clause} {ps : List Part} → Parts c ks ps → agreed_clauses s ks ps ≡ true → Agreed (memory_at s) ks ps
unfolding agreed_clauses
clauses_agreed c s nobody e = no_clause
clauses_agreed c s (party {k = k} {p = p} {ks = ks} {ps = ps} y r) e =
    go k.verb refl
    (both_left (agreed_clause s k p k.verb) (agreed_clauses s ks ps) e)
    (clauses_agreed c s r (both_right (agreed_clause s k p k.verb) (agreed_clauses s ks ps) e))
  where
    go : (v : Verb) → k.verb ≡ v → agreed_clause s k p v ≡ true → Agreed (memory_at s) ks ps → Agreed (memory_at s) (k ∷ ks) (p ∷ ps)
    go tree.set q h a = set_by q a
    go tree.ok q h a = agreed_by q (agreed_values s k.fields p.values (y.values_are ∙ ap length y.fields_are ∙ length_names c k.fields) h) a

agreed_clauses_lem : (s : State) {ks : List Clause} {ps : List Part} → Agreed (memory_at s) ks ps → agreed_clauses s ks ps ≡ true
unfolding agreed_clauses
agreed_clauses_lem s no_clause = refl
agreed_clauses_lem s (set_by {k = k} {p = p} q a) = both_true _ _ (ap (agreed_clause s k p) q) (agreed_clauses_lem s a)
agreed_clauses_lem s (agreed_by {k = k} {p = p} q v a) = both_true _ _ (ap (agreed_clause s k p) q ∙ values_agreed s v) (agreed_clauses_lem s a)

-- ---- a field's bit

module _ (x : ℕ) where
  in_bit : {xs : List ℕ} → In x xs → bit_at (fields_in xs) x ≡ true
  unfolding fields_in
  in_bit (first {xs = xs}) = bit_or_lem (fields_in xs) (2 ^ x) x ∙ second_true (bit_at (fields_in xs) x) (bit_one x x ∙ eq-eqb x x refl)
  in_bit (later {y = y} {xs = xs} i) = bit_or_lem (fields_in xs) (2 ^ y) x ∙ first_true (bit_at (2 ^ y) x) (in_bit i)

  bit_in : (xs : List ℕ) → bit_at (fields_in xs) x ≡ true → In x xs
  unfolding fields_in
  bit_in [] e = true_false (sym e ∙ bit_zero x)
  bit_in (y ∷ xs) e =
      either_true (bit_at (fields_in xs) x) (bit_at (2 ^ y) x) (sym (bit_or_lem (fields_in xs) (2 ^ y) x) ∙ e)
      (λ h. later (bit_in xs h))
      (λ h. subst (λ (z : ℕ). In x (z ∷ xs)) (eqb-true x y (sym (bit_one y x) ∙ h)) first)

  module _ (v : Verb) where
    names_bit : {ks : List Clause} → Names v x ks → bit_at (fields_of v ks) x ≡ true
    unfolding fields_of
    names_bit (by_this {k = k} {ks = ks} q i) =
        ap (λ (m : ℕ). bit_at m x) (pick_true _ _ _ (verb_same v k.verb q))
        ∙ bit_or_lem (fields_of v ks) (fields_in k.fields) x ∙ second_true (bit_at (fields_of v ks) x) (in_bit i)
    names_bit (by_another {k = k} {ks = ks} n) =
        by_cases (λ (m : ℕ). bit_at m x ≡ true) (same_verb v k.verb) _ _
        (λ _. bit_or_lem (fields_of v ks) (fields_in k.fields) x ∙ first_true (bit_at (fields_in k.fields) x) (names_bit n))
        (λ _. names_bit n)

    bit_names : (ks : List Clause) → bit_at (fields_of v ks) x ≡ true → Names v x ks
    unfolding fields_of
    bit_names [] e = true_false (sym e ∙ bit_zero x)
    bit_names (k ∷ ks) e = go (bit_names ks) e
      where
        go : (bit_at (fields_of v ks) x ≡ true → Names v x ks) → bit_at (fields_of v (k ∷ ks)) x ≡ true → Names v x (k ∷ ks)
        go rest =
            by_cases (λ (m : ℕ). bit_at m x ≡ true → Names v x (k ∷ ks)) (same_verb v k.verb) _ _
            (λ q h.
            either_true (bit_at (fields_of v ks) x) (bit_at (fields_in k.fields) x) (sym (bit_or_lem (fields_of v ks) (fields_in k.fields) x) ∙ h)
            (λ l. by_another (rest l))
            (λ l. by_this (same_verb_lem v k.verb q) (bit_in k.fields l)))
            (λ _ h. by_another (rest h))

-- the masks are equal exactly if a field is set if and only if it is agreed on
module _ (ks : List Clause) where
  masks_names : fields_of tree.set ks ≡ fields_of tree.ok ks → (x : ℕ) → Names tree.set x ks ↔ Names tree.ok x ks
  masks_names e x = (
    λ n. bit_names x tree.ok ks (ap (λ (m : ℕ). bit_at m x) (sym e) ∙ names_bit x tree.set n),
    λ n. bit_names x tree.set ks (ap (λ (m : ℕ). bit_at m x) e ∙ names_bit x tree.ok n),
  )

  names_masks : ((x : ℕ) → Names tree.set x ks ↔ Names tree.ok x ks) → fields_of tree.set ks ≡ fields_of tree.ok ks
  names_masks f =
      let m = fields_of tree.set ks in
      let o = fields_of tree.ok ks in
      sym (all_in m o (λ x h. names_bit x tree.ok ((f x).0 (bit_names x tree.set ks h))))
      ∙ and_comm m o
      ∙ all_in o m (λ x h. names_bit x tree.set ((f x).1 (bit_names x tree.ok ks h)))

-- ---- a state that is not agreed is empty

module _ (c : Contract) (s : State) (o : state_ok c s ≡ true) (a : s.agreed ≡ false) where
  unused : (n : ℕ) → used s n ≡ 0
  unused n = pick_false _ _ _ a

  pub unagreed_empty : Empty (memory_at s)
  unfolding field_slot_ok asset_slot_ok value_of field_value
  unagreed_empty =
      record {
        no_value = λ x h.
            let n = used s (length c.fields) in
            let k = eqb (get_or s.kinds x 0) 0 in
            let e = both_right (field_ok (length c.strings) (get_or s.kinds x 0) (get_or s.numbers x (pos 0)) (get_or s.texts x 0)) (pick (ltb x n) true k)
            (below_at (field_slot_ok (length c.strings) n s) max_fields (within c s o).fields x h) in
            pick_true _ _ _ (sym (pick_false (ltb x n) true k (le-ltb x n (omega (arith, unused (length c.fields))))) ∙ e);
        no_amount = λ k h.
            let n = used s (length c.assets) in
            let e = below_at (asset_slot_ok n s) max_assets (within c s o).assets k h in
            get_or-take max_assets s.assets k 0 h
            ∙ eqb-true _ _ (sym (pick_false (ltb k n) _ _ (le-ltb k n (omega (arith, unused (length c.assets))))) ∙ e);
      }

  pub unagreed_nothing : live s ≡ []
  unagreed_nothing = ap (λ (n : ℕ). take n s.events) (unagreed c s (within c s o) a)

-- ---- the step

module _ (c : Contract) (s : State) (ps : List Part) (ok : state_ok c s ≡ true) where
  idle_opened : idle (opened (set_clauses s c.clauses ps) c.initial) ≡ runtime (in_state c.initial) (with_clauses (memory_at s) c.clauses ps) nothing (live s)
  idle_opened = λ i. runtime (in_state c.initial) (set_clauses_lem s c.clauses ps i) nothing (live_clauses s c.clauses ps i)

  without_events : {l l' : List Pending} → l ≡ l'
      → runtime (in_state c.initial) (with_clauses (memory_at s) c.clauses ps) nothing l ≡ runtime (in_state c.initial) (with_clauses (memory_at s) c.clauses ps) nothing l'
  without_events e = ap (runtime (in_state c.initial) (with_clauses (memory_at s) c.clauses ps) nothing) e

  abbrev Derives : Stepped Question → Type 0
  Derives r = (C : Configuration) → Comes r (Accepted Agree) [] C → Table2 c (idle s) (agreement ps) C

  refused_derives : (n : Question) → Derives (refused s n)
  refused_derives n C o = let z : ◌≡◌ {A = ℕ} 0 1 = cc o.outcome_is in absurd (omega arith)

  idle_unagreed : s.agreed ≡ false → idle s ≡ runtime no_state (memory_at s) nothing (live s)
  idle_unagreed a = λ i. runtime (phase_of (a i) s.state) (memory_at s) nothing (live s)

  agrees_derives : s.agreed ≡ false → same_clauses c c.clauses ps ≡ true → same_map s c.clauses ps ≡ true
      → Derives (answered (Accepted Agree) (opened (set_clauses s c.clauses ps) c.initial))
  unfolding same_map
  agrees_derives a e t C o =
      let p = same_clauses_lem c c.clauses ps e in
      let d = eqb (fields_of tree.set c.clauses) (fields_of tree.ok c.clauses) in
      let v = agreed_clauses (set_clauses s c.clauses ps) c.clauses ps in
      let h : v ≡ true = both_right d v t in
      let n = masks_names c.clauses (eqb-true _ _ (both_left d v t)) in
      let g : Agreed (with_clauses (memory_at s) c.clauses ps) c.clauses ps =
      subst (λ (m : Memory). Agreed m c.clauses ps) (set_clauses_lem s c.clauses ps) (clauses_agreed c (set_clauses s c.clauses ps) p h) in
      subst (λ (x : Configuration). Table2 c x (agreement ps) C) (sym (idle_unagreed a))
      (subst (λ x. Table2 c (runtime no_state (memory_at s) nothing x) (agreement ps) C) (sym (unagreed_nothing c s ok a))
      (subst (Table2 c (runtime no_state (memory_at s) nothing []) (agreement ps)) (sym (idle_opened ∙ without_events (unagreed_nothing c s ok a)) ∙ o.leads_to)
      (agree (unagreed_empty c s ok a) p n g)))

  on_derives : Derives (agreed_on c s ps)
  unfolding agreed_on
  on_derives =
      by_cases Derives _ _ _ (λ _. refused_derives ask.NotAgreed) λ a.
      by_cases Derives _ _ _
      (λ e. by_cases Derives _ _ _ (λ h. agrees_derives a e h) (λ _. refused_derives ask.SameValues))
      (λ _. refused_derives ask.SameClauses)

  pub agreement_derives : {C : Configuration} → Comes (agreed_on c s ps) (Accepted Agree) [] C → Table2 c (idle s) (agreement ps) C
  agreement_derives {C} o = on_derives C o

  derived_comes : {C : Configuration} (x : Bool) (l : List Pending) → s.agreed ≡ x → live s ≡ l → Table2 c (runtime (phase_of x s.state) (memory_at s) nothing l) (agreement ps) C
      → Comes (agreed_on c s ps) (Accepted Agree) [] C
  unfolding agreed_on same_map
  derived_comes true l a q t = elim t [ ]
  derived_comes false l a q (agree o p n g) =
      let h : agreed_clauses (set_clauses s c.clauses ps) c.clauses ps ≡ true =
      agreed_clauses_lem (set_clauses s c.clauses ps) (subst (λ (m : Memory). Agreed m c.clauses ps) (sym (set_clauses_lem s c.clauses ps)) g) in
      comes_by (pick_false _ _ _ a ∙ pick_true _ _ _ (clauses_same c p) ∙ pick_true _ _ _ (both_true _ _ (eq-eqb _ _ (names_masks c.clauses n)) h))
      (record { outcome_is = refl; count_is = refl; labels_are = refl; leads_to = idle_opened ∙ without_events q })

  pub agreement_comes : {C : Configuration} → Table2 c (idle s) (agreement ps) C → Comes (agreed_on c s ps) (Accepted Agree) [] C
  agreement_comes t = derived_comes s.agreed (live s) refl refl t
