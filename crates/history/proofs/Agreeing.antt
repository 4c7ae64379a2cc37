-- The values that an agreement sets: integers in fields of the contract, in a state that held nothing. Assumes nothing.
use mathlib.Core.Path.{◌≡◌, refl, sym, ap, subst, ◌∙◌}
use mathlib.Core.Bool.{true}
use mathlib.Core.List.{List, [], ◌∷◌}
use Prim.Native.Nat.{ℕ, ◌<◌, ◌≤◌}
use native.Mathlib.Omega.{arith}
use lib.ListN.{length, get_or, set}
use lib.Seq.{set-get_or}
use lib.Dec.{eqb, ltb}
use lib.IntN.{ℤ, pos}
use borrow.Author.Tests.{ltb-true, le-leb, eqb-true, eq-eqb, le-ltb}
use Rattle.laws.specs.Choice.{pick}
use Rattle.laws.proofs.Choice.{by_cases, pick_true, pick_false}
use Rattle.numbers.specs.Numbers.{within, eq_z}
use Rattle.contract.specs.Limits.{top, max_fields}
use Rattle.contract.specs.Tree.{Verb, Clause, Contract}
use Rattle.contract.specs.Tree as tree
use Rattle.contract.specs.Fits.{clause_in}
use Rattle.laws.proofs.Members.{every_head, every_tail}
use Rattle.laws.proofs.Truths.{both_left, both_right, both_true}
use Rattle.laws.specs.Lists.{every}
use Rattle.contract.proofs.Fitting.{fits_clause}
use Rattle.state.specs.declared.State.{State}
use Rattle.state.specs.States.{field_ok}
use Rattle.agreements.specs.Agreement.{Part, set_fields, set_clause, set_clauses}
use Rattle.history.proofs.ValuesInRange.{Fields, fields_set}
use Rattle.history.proofs.GoodState.{Assets, asset_unused}

-- a state with other fields
abbrev pub filled : State → List ℕ → List ℤ → State
filled s ks ns =
    record {
      agreed = s.agreed;
      state = s.state;
      kinds = ks;
      numbers = ns;
      texts = s.texts;
      assets = s.assets;
      clock = s.clock;
      pending = s.pending;
      events = s.events;
    }

pub data Filled (strings n : ℕ) (s : State) : State → Type 0 where
  filled_so : (ks : List ℕ) (ns : List ℤ) → Fields strings n ks ns s.texts → Filled strings n s (filled s ks ns)

module _ (strings n : ℕ) (few : n ≤ max_fields) (s : State) (empty : (i : ℕ) → i < max_fields → get_or s.texts i 0 ≡ 0) where
  set_fields_filled : {t : State} (xs : List ℕ) (zs : List ℤ) → every (λ x. ltb x n) xs ≡ true → every within zs ≡ true → Filled strings n s t → Filled strings n s (set_fields t xs zs)
  unfolding set_fields field_ok pick
  set_fields_filled [] zs h e o = o
  set_fields_filled (x ∷ xs) [] h e o = o
  set_fields_filled (x ∷ xs) (z ∷ zs) h e (filled_so ks ns o) =
      let l : x < n = ltb-true x n (every_head (λ x. ltb x n) x xs h) in
      let same : set s.texts x 0 ≡ s.texts = ap (set s.texts x) (sym (empty x (omega arith))) ∙ set-get_or s.texts x 0 in
      set_fields_filled {t = filled s (set ks x 1) (set ns x z)} xs zs (every_tail (λ x. ltb x n) x xs h) (every_tail within z zs e)
      (filled_so (set ks x 1) (set ns x z) (subst (Fields strings n (set ks x 1) (set ns x z)) same (fields_set x 1 z 0 o l few refl (every_head within z zs e))))

  set_clause_filled : {t : State} (k : Clause) (p : Part) (v : Verb) → every (λ x. ltb x n) k.fields ≡ true → every within p.values ≡ true → Filled strings n s t
      → Filled strings n s (set_clause t k p v)
  set_clause_filled k p tree.set h e o = set_fields_filled k.fields p.values h e o
  set_clause_filled k p tree.ok h e o = o

  pub set_clauses_filled : {t : State} (c : Contract) → length c.fields ≡ n → (ks : List Clause) (ps : List Part) → every (clause_in c) ks ≡ true → every (λ p. every within p.values) ps ≡ true
      → Filled strings n s t → Filled strings n s (set_clauses t ks ps)
  unfolding set_clauses
  set_clauses_filled c l [] ps h e o = o
  set_clauses_filled c l (k ∷ ks) [] h e o = o
  set_clauses_filled {t = t} c l (k ∷ ks) (p ∷ ps) h e o =
      set_clauses_filled {t = set_clause t k p k.verb} c l ks ps (every_tail (clause_in c) k ks h) (every_tail (λ p. every within p.values) p ps e)
      (set_clause_filled k p k.verb
      (subst (λ (m : ℕ). every (λ x. ltb x m) k.fields ≡ true) l (fits_clause c k (every_head (clause_in c) k ks h)).fields)
      (every_head (λ p. every within p.values) p ps e) o)

-- fields that hold nothing
module _ {strings : ℕ} {ks : List ℕ} {ns : List ℤ} {ts : List ℕ} (o : Fields strings 0 ks ns ts) where
  value_there : (i : ℕ) → i < max_fields → field_ok strings (get_or ks i 0) (get_or ns i (pos 0)) (get_or ts i 0) ≡ true
  value_there i h = both_left (field_ok strings (get_or ks i 0) (get_or ns i (pos 0)) (get_or ts i 0)) (pick (ltb i 0) true (eqb (get_or ks i 0) 0)) (o.slots i h)

  nothing_there : (i : ℕ) → i < max_fields → eqb (get_or ks i 0) 0 ≡ true
  nothing_there i h =
      sym (pick_false _ _ _ (le-ltb i 0 (omega arith)))
      ∙ both_right (field_ok strings (get_or ks i 0) (get_or ns i (pos 0)) (get_or ts i 0)) (pick (ltb i 0) true (eqb (get_or ks i 0) 0)) (o.slots i h)

  pub no_texts : (i : ℕ) → i < max_fields → get_or ts i 0 ≡ 0
  unfolding field_ok
  no_texts i h = eqb-true (get_or ts i 0) 0 (both_right (eq_z (get_or ns i (pos 0)) (pos 0)) _ (sym (pick_true _ _ _ (nothing_there i h)) ∙ value_there i h))

  pub more_fields : (n : ℕ) → Fields strings n ks ns ts
  more_fields n =
      record {
        kinds_length = o.kinds_length;
        numbers_length = o.numbers_length;
        texts_length = o.texts_length;
        slots = λ i h.
            both_true (field_ok strings (get_or ks i 0) (get_or ns i (pos 0)) (get_or ts i 0)) (pick (ltb i n) true (eqb (get_or ks i 0) 0)) (value_there i h)
            (by_cases (λ b. b ≡ true) (ltb i n) true _ (λ _. refl) (λ _. nothing_there i h));
        numbers_in = o.numbers_in;
      }

-- no assets
pub more_assets : {l : List ℕ} → Assets 0 l → (n : ℕ) → Assets n l
more_assets {l} o n =
    record {
      assets_length = o.assets_length;
      slots = λ i h.
          let z : get_or l i 0 ≡ 0 = asset_unused o i (omega arith) h in
          by_cases (λ b. b ≡ true) (ltb i n) _ _ (λ _. le-leb (get_or l i 0) top (omega arith)) (λ _. eq-eqb (get_or l i 0) 0 z);
    }
