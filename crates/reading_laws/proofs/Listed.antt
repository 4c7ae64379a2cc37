-- Laws of the lists of declared names and of the agreement's clauses, as the pass reads them. Assumes nothing.
use mathlib.Core.Path.{◌≡◌, refl, sym, ap, ◌∙◌}
use mathlib.Core.List.{List}
use Prim.Native.Nat.{ℕ, zero, suc, ◌-◌, ◌<◌, ◌≤◌}
use native.Mathlib.Omega.{arith}
use lib.ListN.{length}
use borrow.Author.Tests.{eq-eqb, ne_eqb}
use Rattle.laws.proofs.Choice.{pick_true, pick_false}
use Rattle.words.specs.Words.{comma}
use Rattle.tokens.specs.Tokens.{name as nameKind}
use Rattle.entries.specs.Draft.{Draft, declare, clause_field, clause_party}
use Rattle.reading_laws.specs.Walk.{on, stop, draft, next_of, one_name, names, more_names, one_field, clause_fields, more_fields, clause_rest, clause_from, clause, clauses}
use Rattle.reading_laws.specs.Walk.{Cursor}
use Rattle.reading_laws.proofs.AgreesWith.{follow_on, follow_stop}

-- ---- declared names

pub names_begin : (s : List ℕ) (k : ℕ) (c here : Cursor) (t n t₁ n₁ : List ℕ) → c.kind ≡ nameKind → here ≡ next_of s c
    → t₁ ≡ (declare s k c.start c.end (draft t n)).table → n₁ ≡ (declare s k c.start c.end (draft t n)).notes
    → names s k c (draft t n) ≡ more_names s k (length s) here (draft t₁ n₁)
unfolding names
names_begin s k c here t n t₁ n₁ e h a b =
    pick_true _ _ _ (eq-eqb _ _ e) ∙ (λ i. more_names s k (length s) (sym h i) (record { table = sym a i; notes = sym b i }))

pub names_turn : (s : List ℕ) (k left : ℕ) (c name next : Cursor) (t n t₁ n₁ : List ℕ) → 0 < left → c.kind ≡ comma → name ≡ next_of s c
    → name.kind ≡ nameKind → next ≡ next_of s name
    → t₁ ≡ (declare s k name.start name.end (draft t n)).table → n₁ ≡ (declare s k name.start name.end (draft t n)).notes
    → more_names s k (left - 1) next (draft t₁ n₁) ≡ more_names s k left c (draft t n)
unfolding more_names
names_turn s k zero c name next t n t₁ n₁ l e h g m a b = absurd (omega arith)
names_turn s k (suc f) c name next t n t₁ n₁ l e h g m a b =
    let z : suc f - 1 ≡ f = omega arith in
    (λ i. more_names s k (z i) (m i) (record { table = a i; notes = b i }))
    ∙ sym (pick_true _ _ _ (eq-eqb _ _ g))
    ∙ ap (λ (x : Cursor). one_name s k (more_names s k f) x (draft t n)) h
    ∙ sym (pick_true _ _ _ (eq-eqb _ _ e))

pub names_misfit : (s : List ℕ) (k left : ℕ) (c name : Cursor) (p : Draft) → 0 < left → c.kind ≡ comma → name ≡ next_of s c
    → (name.kind ≡ nameKind → ⊥) → more_names s k left c p ≡ stop name.question name.start
unfolding more_names
names_misfit s k zero c name p l e h g = absurd (omega arith)
names_misfit s k (suc f) c name p l e h g =
    pick_true _ _ _ (eq-eqb _ _ e) ∙ ap (λ (x : Cursor). one_name s k (more_names s k f) x p) (sym h) ∙ pick_false _ _ _ (ne_eqb _ _ g)

pub names_stop : (s : List ℕ) (k left : ℕ) (c : Cursor) (p : Draft) → (c.kind ≡ comma → ⊥) → more_names s k left c p ≡ on c p
unfolding more_names
names_stop s k zero c p g = refl
names_stop s k (suc f) c p g = pick_false _ _ _ (ne_eqb _ _ g)

pub names_end : (s : List ℕ) (k left : ℕ) (c : Cursor) (p : Draft) → left ≤ 0 → more_names s k left c p ≡ on c p
unfolding more_names
names_end s k zero c p l = refl
names_end s k (suc f) c p l = absurd (omega arith)

-- ---- the fields of a clause

pub fields_begin : (s : List ℕ) (c here : Cursor) (t n t₁ n₁ : List ℕ) → c.kind ≡ nameKind → here ≡ next_of s c
    → t₁ ≡ (clause_field s c.start c.end (draft t n)).table → n₁ ≡ (clause_field s c.start c.end (draft t n)).notes
    → clause_fields s c (draft t n) ≡ more_fields s (length s) here (draft t₁ n₁)
unfolding clause_fields
fields_begin s c here t n t₁ n₁ e h a b =
    pick_true _ _ _ (eq-eqb _ _ e) ∙ (λ i. more_fields s (length s) (sym h i) (record { table = sym a i; notes = sym b i }))

pub fields_turn : (s : List ℕ) (left : ℕ) (c name next : Cursor) (t n t₁ n₁ : List ℕ) → 0 < left → c.kind ≡ comma → name ≡ next_of s c
    → name.kind ≡ nameKind → next ≡ next_of s name
    → t₁ ≡ (clause_field s name.start name.end (draft t n)).table → n₁ ≡ (clause_field s name.start name.end (draft t n)).notes
    → more_fields s (left - 1) next (draft t₁ n₁) ≡ more_fields s left c (draft t n)
unfolding more_fields
fields_turn s zero c name next t n t₁ n₁ l e h g m a b = absurd (omega arith)
fields_turn s (suc f) c name next t n t₁ n₁ l e h g m a b =
    let z : suc f - 1 ≡ f = omega arith in
    (λ i. more_fields s (z i) (m i) (record { table = a i; notes = b i }))
    ∙ sym (pick_true _ _ _ (eq-eqb _ _ g))
    ∙ ap (λ (x : Cursor). one_field s (more_fields s f) x (draft t n)) h
    ∙ sym (pick_true _ _ _ (eq-eqb _ _ e))

pub fields_misfit : (s : List ℕ) (left : ℕ) (c name : Cursor) (p : Draft) → 0 < left → c.kind ≡ comma → name ≡ next_of s c
    → (name.kind ≡ nameKind → ⊥) → more_fields s left c p ≡ stop name.question name.start
unfolding more_fields
fields_misfit s zero c name p l e h g = absurd (omega arith)
fields_misfit s (suc f) c name p l e h g =
    pick_true _ _ _ (eq-eqb _ _ e) ∙ ap (λ (x : Cursor). one_field s (more_fields s f) x p) (sym h) ∙ pick_false _ _ _ (ne_eqb _ _ g)

pub fields_stop : (s : List ℕ) (left : ℕ) (c : Cursor) (p : Draft) → (c.kind ≡ comma → ⊥) → more_fields s left c p ≡ on c p
unfolding more_fields
fields_stop s zero c p g = refl
fields_stop s (suc f) c p g = pick_false _ _ _ (ne_eqb _ _ g)

pub fields_end : (s : List ℕ) (left : ℕ) (c : Cursor) (p : Draft) → left ≤ 0 → more_fields s left c p ≡ on c p
unfolding more_fields
fields_end s zero c p l = refl
fields_end s (suc f) c p l = absurd (omega arith)

-- ---- the clauses

pub verbed : (s : List ℕ) (c next : Cursor) (p q : Draft) → next ≡ next_of s c → p ≡ q → clause_rest s next p ≡ clause_rest s (next_of s c) q
verbed s c next p q h a = λ i. clause_rest s (h i) (a i)

pub clause_begin : (s : List ℕ) (c next : Cursor) (t n t₁ n₁ : List ℕ) → c.kind ≡ nameKind → next ≡ next_of s c
    → draft t₁ n₁ ≡ clause_party s c.start c.end (draft t n)
    → clause_from s next (draft t₁ n₁) ≡ clause s c (draft t n)
unfolding clause
clause_begin s c next t n t₁ n₁ e h a =
    (λ i. clause_from s (h i) (a i)) ∙ sym (pick_true _ _ _ (eq-eqb _ _ e))

pub clauses_turn : (s : List ℕ) (left : ℕ) (c d : Cursor) (p q : Draft) → 0 < left → c.kind ≡ nameKind → clause s c p ≡ on d q
    → clauses s (left - 1) d q ≡ clauses s left c p
unfolding clauses
clauses_turn s zero c d p q l e h = absurd (omega arith)
clauses_turn s (suc f) c d p q l e h =
    let z : suc f - 1 ≡ f = omega arith in
    ap (λ (x : ℕ). clauses s x d q) z ∙ sym (pick_true _ _ _ (eq-eqb _ _ e) ∙ follow_on _ _ _ _ h)

pub clauses_refused : (s : List ℕ) (left : ℕ) (c : Cursor) (p : Draft) (q o : ℕ) → 0 < left → c.kind ≡ nameKind → clause s c p ≡ stop q o
    → clauses s left c p ≡ stop q o
unfolding clauses
clauses_refused s zero c p q o l e h = absurd (omega arith)
clauses_refused s (suc f) c p q o l e h = pick_true _ _ _ (eq-eqb _ _ e) ∙ follow_stop _ _ _ _ h

pub clauses_stop : (s : List ℕ) (left : ℕ) (c : Cursor) (p : Draft) → (c.kind ≡ nameKind → ⊥) → clauses s left c p ≡ on c p
unfolding clauses
clauses_stop s zero c p g = refl
clauses_stop s (suc f) c p g = pick_false _ _ _ (ne_eqb _ _ g)

pub clauses_end : (s : List ℕ) (left : ℕ) (c : Cursor) (p : Draft) → left ≤ 0 → clauses s left c p ≡ on c p
unfolding clauses
clauses_end s zero c p l = refl
clauses_end s (suc f) c p l = absurd (omega arith)
