-- What a turn of each loop over clause rows adds, from the last row to the first. Assumes nothing.
use mathlib.Core.Path.{◌≡◌, refl, sym, ap, ◌∙◌}
use mathlib.Core.Bool.{Bool, true, false, ◌&&◌, not, beq}
use mathlib.Core.List.{List, [], ◌∷◌}
use Prim.Native.Nat.{ℕ, zero, suc, ◌-◌, ◌*◌, ◌%◌, ◌^◌, ◌<◌, ◌≤◌}
use native.Mathlib.Omega.{arith}
use native.Mathlib.Nat.{one-mul}
use lib.Pow.{shl_exact}
use lib.Dec.{eqb}
use lib.Bits.{bit_or}
use borrow.Author.Tests.{eq-eqb, ne_eqb, eqb-true, eqb-false}
use Rattle.laws.specs.Choice.{pick}
use Rattle.laws.proofs.Choice.{pick_true, pick_false}
use Rattle.contract.specs.Tree.{set, ok, Clause}
use Rattle.contract.specs.declared.Clause.{Clause as Row}
use Rattle.contract.specs.Table.{clause_word}
use Rattle.contract.specs.Rows.{clause_row_of}
use Rattle.laws.specs.Lists.{every, all_below}
use Rattle.contract.specs.Decode.{each_from}
use Rattle.reading.specs.Rules.{is_set}
use Rattle.reading_laws.specs.Masks.{row_of, holds, with, with_all, field_mask, party_mask, part_of, agrees_by_mask, kept_by_masks}

each_more : {A : Type 0} (f : ℕ → A) (n i : ℕ) → 0 < i → i ≤ n → each_from (i - 1) (n - (i - 1)) f ≡ f (i - 1) ∷ each_from i (n - i) f
unfolding each_from
each_more f n zero h k = absurd (omega arith)
each_more f n (suc i) h k =
    let here : suc i - 1 ≡ i = omega arith in
    let left : n - (suc i - 1) ≡ suc (n - suc i) = omega arith in
    (λ t. each_from (here t) (left t) f) ∙ ap (λ (j : ℕ). f j ∷ each_from (suc i) (n - suc i) f) (sym here)

-- a loop starts past the last of n members, takes one more in each turn, and ends at the first: m is what those from i on give
pub record Left {A B : Type 0} (g : List A → B) (f : ℕ → A) (n i : ℕ) (m : B) : Type 0 where
  pub most : i ≤ n
  pub same : m ≡ g (each_from i (n - i) f)

pub starts : {A B : Type 0} {g : List A → B} {f : ℕ → A} {n i : ℕ} {m : B} → i ≡ n → m ≡ g [] → Left g f n i m
unfolding each_from
starts {g = g} {f = f} {n = n} {i = i} h e =
    let none : 0 ≡ n - i = omega arith in
    record { most = omega arith; same = e ∙ ap (λ (k : ℕ). g (each_from i k f)) none }

pub turns : {A B : Type 0} {g : List A → B} {f : ℕ → A} {n i : ℕ} {old new : B} → Left g f n i old → 0 < i
    → ((l : List A) → old ≡ g l → new ≡ g (f (i - 1) ∷ l)) → Left g f n (i - 1) new
turns {g = g} {f = f} {n = n} {i = i} s h t =
    record { most = omega (arith, s.most); same = t (each_from i (n - i) f) s.same ∙ ap g (sym (each_more f n i h s.most)) }

at_first : {A B : Type 0} (g : List A → B) (f : ℕ → A) (n i : ℕ) (m : B) → i ≤ 0 → m ≡ g (each_from i (n - i) f) → m ≡ g (each_from 0 n f)
at_first g f n zero m h e =
    let all : n - 0 ≡ n = omega arith in
    e ∙ ap (λ (k : ℕ). g (each_from 0 k f)) all
at_first g f n (suc i) m h e = absurd (omega arith)

pub ends : {A B : Type 0} {g : List A → B} {f : ℕ → A} {n i : ℕ} {m : B} → Left g f n i m → i ≤ 0 → m ≡ g (each_from 0 n f)
ends {g = g} {f = f} {n = n} {i = i} {m = m} s h = at_first g f n i m h s.same

-- the bit at a place
pub bit_at : (k : ℕ) → k ≤ 63 → 1 * 2 ^ k % 2 ^ 64 ≡ 2 ^ k
bit_at k h =
    let one : 1 < 2 ^ 1 = omega arith in
    shl_exact 1 k 64 one (omega arith) ∙ one-mul (2 ^ k)

pub field_more : (b x y old new : ℕ) → new ≡ with old y → y ≡ x → (l : List ℕ) → old ≡ with_all b l → new ≡ with_all b (x ∷ l)
unfolding with_all
field_more b x y old new q p l e = q ∙ λ t. with (e t) (p t)

pub no_parties : (v : Bool) → 0 ≡ party_mask v []
unfolding party_mask
no_parties true = refl
no_parties false = refl

-- ---- the verb of a row

verb_set : (b : Bool) → is_set (pick b set ok) ≡ b
unfolding pick
verb_set true = refl
verb_set false = refl

beq_true : (b : Bool) → beq b true ≡ true → b ≡ true
beq_true true h = refl
beq_true false h = h

beq_false : (b : Bool) → beq b false ≡ true → b ≡ false
beq_false true h = sym h
beq_false false h = refl

not_beq_true : (b : Bool) → beq b true ≡ false → b ≡ false
not_beq_true true h = h
not_beq_true false h = refl

not_beq_false : (b : Bool) → beq b false ≡ false → b ≡ true
not_beq_false true h = refl
not_beq_false false h = sym h

-- row i as it is read
module _ (w : List ℕ) (i : ℕ) (r : Row) (q : r ≡ clause_row_of w i) where
  pub is_set_lem : r.verb ≡ 0 → is_set (row_of w i).verb ≡ true
  unfolding row_of
  is_set_lem h = verb_set (eqb (clause_word w i 1) 0) ∙ eq-eqb (clause_word w i 1) 0 (ap (λ (k : Row). k.verb) (sym q) ∙ h)

  pub is_ok : (r.verb ≡ 0 → ⊥) → is_set (row_of w i).verb ≡ false
  unfolding row_of
  is_ok h = verb_set (eqb (clause_word w i 1) 0) ∙ ne_eqb (clause_word w i 1) 0 λ e. h (ap (λ (k : Row). k.verb) q ∙ e)

  -- fields that others set
  module _ (a old : ℕ) where
    pub skip_ok : (r.verb ≡ 0 → ⊥) → (l : List Clause) → old ≡ field_mask a l → old ≡ field_mask a (row_of w i ∷ l)
    unfolding field_mask
    skip_ok h l e = e ∙ sym (pick_false _ _ _ (is_ok h))

    pub skip_own : r.verb ≡ 0 → r.party ≡ a → (l : List Clause) → old ≡ field_mask a l → old ≡ field_mask a (row_of w i ∷ l)
    unfolding field_mask row_of
    skip_own h p l e =
        e ∙ sym (pick_true _ _ _ (is_set_lem h) ∙ pick_true _ _ _ (eq-eqb (clause_word w i 0) a (ap (λ (k : Row). k.party) (sym q) ∙ p)))

    pub take_set : r.verb ≡ 0 → (r.party ≡ a → ⊥) → (new : ℕ) → new ≡ with_all old (row_of w i).fields
        → (l : List Clause) → old ≡ field_mask a l → new ≡ field_mask a (row_of w i ∷ l)
    unfolding field_mask row_of
    take_set h p new n l e =
        n ∙ ap (λ (m : ℕ). with_all m (row_of w i).fields) e
        ∙ sym (pick_true _ _ _ (is_set_lem h) ∙ pick_false _ _ _ (ne_eqb (clause_word w i 0) a λ x. p (ap (λ (k : Row). k.party) q ∙ x)))

  -- parties of the clauses with a verb
  module _ (old : ℕ) where
    pub take_party : (v : Bool) → beq (eqb r.verb 0) v ≡ true → (new : ℕ) → new ≡ with old r.party
        → (l : List Clause) → old ≡ party_mask v l → new ≡ party_mask v (row_of w i ∷ l)
    unfolding party_mask row_of
    take_party true h new n l e =
        n ∙ (λ t. with (e t) (q t).party) ∙ sym (pick_true _ _ _ (is_set_lem (eqb-true r.verb 0 (beq_true _ h))))
    take_party false h new n l e =
        n ∙ (λ t. with (e t) (q t).party) ∙ sym (pick_false _ _ _ (is_ok (eqb-false r.verb 0 (beq_false _ h))))

    pub skip_party : (v : Bool) → beq (eqb r.verb 0) v ≡ false → (l : List Clause) → old ≡ party_mask v l → old ≡ party_mask v (row_of w i ∷ l)
    unfolding party_mask
    skip_party true h l e = e ∙ sym (pick_false _ _ _ (is_ok (eqb-false r.verb 0 (not_beq_true _ h))))
    skip_party false h l e = e ∙ sym (pick_true _ _ _ (is_set_lem (eqb-true r.verb 0 (not_beq_false _ h))))

  -- a clause with OK
  pub ok_agrees : (r.verb ≡ 0 → ⊥) → (ks : List Clause) (m o : ℕ) (b : Bool) → m ≡ with_all 0 (row_of w i).fields
      → o ≡ field_mask r.party ks → b ≡ part_of m o → b ≡ agrees_by_mask ks (row_of w i)
  unfolding agrees_by_mask row_of
  ok_agrees h ks m o b e f g =
      g ∙ (λ t. part_of (e t) ((f ∙ (λ u. field_mask (q u).party ks)) t)) ∙ sym (pick_false _ _ _ (is_ok h))

pub kept : (n : ℕ) (ks : List Clause) (f s o : ℕ) (a b c d e : Bool)
    → f ≡ field_mask 63 ks → s ≡ party_mask true ks → o ≡ party_mask false ks
    → a ≡ holds f 63 → b ≡ every (agrees_by_mask ks) ks → c ≡ all_below n (holds (bit_or s o)) → d ≡ holds s 63 → e ≡ holds o 63
    → (not a && (b && (c && (not d && not e)))) ≡ kept_by_masks n ks
unfolding kept_by_masks
kept n ks f s o a b c d e ef es eo ea eb ec ed ee =
    (λ t. not (ea t) && (eb t && (ec t && (not (ed t) && not (ee t)))))
    ∙ λ t.
    not (holds (ef t) 63)
    && (every (agrees_by_mask ks) ks
    && (all_below n (holds (bit_or (es t) (eo t))) && (not (holds (es t) 63) && not (holds (eo t) 63))))
