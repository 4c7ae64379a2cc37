-- Folds over a range from its end, and the masks that they make. Assumes nothing.
use Prim.Native.Nat.{ℕ, zero, suc, ◌+◌, ◌-◌}
use native.Mathlib.Omega.{arith}
use mathlib.Core.Path.{◌≡◌, refl, sym, ap, subst, ◌∙◌}
use mathlib.Core.List.{List, [], ◌∷◌}
use lib.ListN.{length}
use mathlib.Core.Bool.{Bool, true, false, beq, not}
use lib.Dec.{eqb}
use borrow.Author.Tests.{eqb-true, eqb-false}
use Rattle.std.specs.Prelude.{fold, filter, cond}
use mathlib.Core.List.{map}
use Rattle.contract.specs.Tree.{Clause}
use Rattle.contract.specs.declared.Clause.{Clause as Row}
use Rattle.contract.specs.Table.{clause_word}
use Rattle.contract.specs.Rows.{clause_row_of}
use Rattle.reading_laws.specs.Masks.{row_of, rows_of, with, with_all, field_mask, party_mask}
use Rattle.reading_laws.proofs.Masked.{no_parties, take_party, skip_party, skip_ok, skip_own, take_set}
use Rattle.std.specs.declared.iter.Rev.{Rev}
use Rattle.std.specs.declared.ops.Range.{Range}
use Rattle.std.specs.Iterator.Adapters.{rev_steps, rev_source}
use Rattle.std.proofs.iter.runs.Sources.{nat_range_steps_back}
use Rattle.std.proofs.lemmas.Iterator.{YieldsList}
use Rattle.std.proofs.lemmas.Iterator.Consumers.{YieldsList-from_shown}
use Rattle.contract.specs.Decode.{each_from}

-- n numbers from a on, the last one first
abbrev pub down : ℕ → ℕ → List ℕ
down a zero = []
down a (suc n) = (a + n) ∷ down a n

counted : (a b n m x : ℕ) → a ≡ b → n ≡ suc m → x ≡ b + m → down a n ≡ x ∷ down b m
counted a b n m x e f g = (λ i. down (e i) (f i)) ∙ ap (λ (y : ℕ). y ∷ down b m) (sym g)

pub yields_down : {s : Rev (Range ℕ)} (a b n : ℕ) → rev_source s ≡ record { start = a; end = b } → b - a ≡ n
    → YieldsList (rev_steps nat_range_steps_back) (λ x. x) s (down a n)
yields_down {s} a b n e f =
    subst (λ (k : List ℕ). YieldsList (rev_steps nat_range_steps_back) (λ x. x) s k) (ap (λ (u : Range ℕ). down u.start (u.end - u.start)) e ∙ ap (down a) f)
    (YieldsList-from_shown (rev_steps nat_range_steps_back) (λ x. x) (λ u. down (rev_source u).start ((rev_source u).end - (rev_source u).start))
    (λ u t p. ap (λ (k : ℕ). length (down (rev_source u).start k)) p.1.0)
    (λ u x t p. counted _ _ _ _ x (sym p.0) (omega (arith, p.0, p.1.0, p.1.1, p.1.2)) (omega (arith, p.0, p.1.0, p.1.1, p.1.2))) s)

-- a fold from the last member back is what a definition that takes the first member last says
module _ {A M : Type 0} (f : List A → M) (r : ℕ → A) (h : M → ℕ → M) (one : (i : ℕ) (xs : List A) → f (r i ∷ xs) ≡ h (f xs) i) where
  first_last : (n a : ℕ) (b : M) → fold h b (down a (suc n)) ≡ h (fold h b (down (a + 1) n)) a
  first_last zero a b = let e : a + 0 ≡ a = omega arith in ap (h b) e
  first_last (suc n) a b =
      let e : a + suc n ≡ (a + 1) + n = omega arith in
      first_last n a (h b (a + suc n)) ∙ ap (λ (x : ℕ). h (fold h (h b x) (down (a + 1) n)) a) e

  pub folded : (n a : ℕ) → fold h (f []) (down a n) ≡ f (each_from a n r)
  unfolding each_from
  folded zero a = refl
  folded (suc n) a =
      let e : a + 1 ≡ suc a = omega arith in
      first_last n a (f []) ∙ ap (λ (m : M). h m a) (folded n (a + 1) ∙ ap (λ (k : ℕ). f (each_from k n r)) e) ∙ sym (one a (each_from (suc a) n r))

-- a fold over the members that pass a test, and over what a function gives at each
one_passed : {A M : Type 0} (p : A → Bool) (h : M → A → M) (x : A) (xs : List A) (b : M) (t : Bool)
    → ((c : M) → fold h c (filter p xs) ≡ fold (λ m y. cond (p y) (h m y) m) c xs)
    → fold h b (cond t (x ∷ filter p xs) (filter p xs)) ≡ fold (λ m y. cond (p y) (h m y) m) (cond t (h b x) b) xs
one_passed p h x xs b true k = k (h b x)
one_passed p h x xs b false k = k b

pub passed : {A M : Type 0} (p : A → Bool) (h : M → A → M) (xs : List A) (b : M) → fold h b (filter p xs) ≡ fold (λ m x. cond (p x) (h m x) m) b xs
passed p h [] b = refl
passed p h (x ∷ xs) b = one_passed p h x xs b (p x) (passed p h xs)

pub mapped : {A B M : Type 0} (f : A → B) (h : M → B → M) (xs : List A) (b : M) → fold h b (map f xs) ≡ fold (λ m x. h m (f x)) b xs
mapped f h [] b = refl
mapped f h (x ∷ xs) b = mapped f h xs (h b (f x))

-- ---- masks

not_true : (b : Bool) → not b ≡ true → b ≡ false
not_true true h = sym h
not_true false h = refl

not_false : (b : Bool) → not b ≡ false → b ≡ true
not_false true h = refl
not_false false h = sym h

module _ (w : List ℕ) (i : ℕ) (l : List Clause) where
  party_as : (v : Bool) (t : Bool) → beq (eqb (clause_word w i 1) 0) v ≡ t
      → party_mask v (row_of w i ∷ l) ≡ cond t (with (party_mask v l) (clause_word w i 0)) (party_mask v l)
  party_as v true e = sym (take_party w i (clause_row_of w i) refl (party_mask v l) v e _ refl l refl)
  party_as v false e = sym (skip_party w i (clause_row_of w i) refl (party_mask v l) v e l refl)

  field_as : (a : ℕ) (s t : Bool) → eqb (clause_word w i 1) 0 ≡ s → not (eqb (clause_word w i 0) a) ≡ t
      → field_mask a (row_of w i ∷ l) ≡ cond s (cond t (with_all (field_mask a l) (row_of w i).fields) (field_mask a l)) (field_mask a l)
  field_as a false t e f = sym (skip_ok w i (clause_row_of w i) refl a (field_mask a l) (eqb-false _ 0 e) l refl)
  field_as a true false e f =
      sym (skip_own w i (clause_row_of w i) refl a (field_mask a l) (eqb-true _ 0 e) (eqb-true _ a (not_false _ f)) l refl)
  field_as a true true e f =
      sym (take_set w i (clause_row_of w i) refl a (field_mask a l) (eqb-true _ 0 e) (eqb-false _ a (not_true _ f)) _ refl l refl)

pub parties_down : (w : List ℕ) (n : ℕ) (v : Bool)
    → fold (λ m r. with m r.party) 0 (filter (λ (r : Row). beq (eqb r.verb 0) v) (map (clause_row_of w) (down 0 n))) ≡ party_mask v (rows_of w n)
parties_down w n v =
    passed _ _ (map (clause_row_of w) (down 0 n)) 0
    ∙ mapped (clause_row_of w) _ (down 0 n) 0
    ∙ ap (λ (b : ℕ). fold step b (down 0 n)) (no_parties v)
    ∙ folded (party_mask v) (row_of w) step (λ i l. party_as w i l v _ refl) n 0
  where
    step : ℕ → ℕ → ℕ
    step m i = cond (beq (eqb (clause_word w i 1) 0) v) (with m (clause_word w i 0)) m

pub fields_down : (w : List ℕ) (n a : ℕ)
    → fold (λ m i. with_all m (row_of w i).fields) 0 (filter (λ i. not (eqb (clause_word w i 0) a)) (filter (λ i. eqb (clause_word w i 1) 0) (down 0 n)))
    ≡ field_mask a (rows_of w n)
unfolding field_mask
fields_down w n a =
    passed _ _ (filter (λ i. eqb (clause_word w i 1) 0) (down 0 n)) 0
    ∙ passed _ _ (down 0 n) 0
    ∙ folded (field_mask a) (row_of w) _ (λ i l. field_as w i l a _ _ refl refl) n 0
