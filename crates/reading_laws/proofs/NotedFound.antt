-- The least finding, as notes hold it. Assumes nothing.
use mathlib.Core.Path.{◌≡◌, refl, sym, ap, subst, ◌∙◌}
use mathlib.Core.Bool.{Bool, true, false, ◌&&◌, ◌||◌, not}
use mathlib.Core.List.{List}
use Prim.Native.Nat.{ℕ, suc, ◌<◌, ◌≤◌}
use native.Mathlib.Omega.{arith}
use lib.ListN.{length, set, length-set}
use lib.Seq.{get_or-set_same, get_or-set_other}
use lib.Dec.{eqb, leb, ltb}
use borrow.Author.Tests.{ltb-true, ltb-false, leb-true, leb-false, eqb-true, eqb-false, lt-ltb, le-ltb, le-leb, lt-leb, eq-eqb, ne_eqb}
use Rattle.laws.specs.Choice.{pick}
use Rattle.laws.proofs.Choice.{true_false, pick_true, pick_false}
use Rattle.entries.specs.Draft.{note, found}
use Rattle.reading.specs.Rules.{Finding, fine, breaks, lesser, or_breaks}
use Rattle.reading_laws.proofs.Run.{finding_of}

-- ---- the lesser of findings

pub lesser_fine : (f : Finding) → lesser f fine ≡ f
lesser_fine fine = refl
lesser_fine (breaks q p) = refl

-- a finding of question q at p goes before one of r at o
abbrev before : ℕ → ℕ → ℕ → ℕ → Bool
before q p r o = ltb p o || (eqb p o && leb q r)

before_told : (q p r o : ℕ) → before q p r o ≡ true → {X : Type 0} → (p < o → X) → (p ≡ o → q ≤ r → X) → X
before_told q p r o e {X} f g = go (ltb p o) refl (eqb p o) refl e
  where
    go : (t : Bool) → ltb p o ≡ t → (u : Bool) → eqb p o ≡ u → (t || (u && leb q r)) ≡ true → X
    go true x u y h = f (ltb-true p o x)
    go false x true y h = g (eqb-true p o y) (leb-true q r h)
    go false x false y h = true_false (sym h)

before_not : (q p r o : ℕ) → before q p r o ≡ false → {X : Type 0} → (o < p → X) → (o ≡ p → r < q → X) → X
before_not q p r o e {X} f g = go (ltb p o) refl (eqb p o) refl e
  where
    go : (t : Bool) → ltb p o ≡ t → (u : Bool) → eqb p o ≡ u → (t || (u && leb q r)) ≡ false → X
    go true x u y h = true_false h
    go false x true y h = g (sym (eqb-true p o y)) (leb-false q r h)
    go false x false y h =
        let a : o ≤ p = ltb-false p o x in
        let d : p ≡ o → ⊥ = eqb-false p o y in
        f (strict a d)
      where
        strict : o ≤ p → (p ≡ o → ⊥) → o < p
        strict a d = go2 (ltb o p) refl
          where
            go2 : (t : Bool) → ltb o p ≡ t → o < p
            go2 true z = ltb-true o p z
            go2 false z = let w : p ≤ o = ltb-false o p z in absurd (d (omega arith))

before_yes : (q p r o : ℕ) → (p < o) → before q p r o ≡ true
before_yes q p r o h = ap (λ (t : Bool). t || (eqb p o && leb q r)) (lt-ltb p o h)

before_same : (q p r o : ℕ) → p ≡ o → q ≤ r → before q p r o ≡ true
before_same q p r o e h =
    ap (λ (t : Bool). t || (eqb p o && leb q r)) (le-ltb p o (omega arith))
    ∙ ap (λ (t : Bool). t && leb q r) (eq-eqb p o e) ∙ le-leb q r h

before_no : (q p r o : ℕ) → o < p → before q p r o ≡ false
before_no q p r o h =
    ap (λ (t : Bool). t || (eqb p o && leb q r)) (le-ltb p o (omega arith))
    ∙ ap (λ (t : Bool). t && leb q r) (ne_eqb p o (λ e. absurd (omega arith)))

before_less : (q p r o : ℕ) → o ≡ p → r < q → before q p r o ≡ false
before_less q p r o e h =
    ap (λ (t : Bool). t || (eqb p o && leb q r)) (le-ltb p o (omega arith))
    ∙ ap (λ (t : Bool). t && leb q r) (eq-eqb p o (sym e)) ∙ lt-leb q r h

module _ (q p r o t u : ℕ) where
  chained : before q p r o ≡ true → before r o t u ≡ true → before q p t u ≡ true
  chained e f =
      before_told q p r o e
      (λ a. before_told r o t u f (λ b. before_yes q p t u (omega arith)) (λ b c. before_yes q p t u (omega arith)))
      (λ a d. before_told r o t u f (λ b. before_yes q p t u (omega arith)) (λ b c. before_same q p t u (omega arith) (omega arith)))

  unchained : before q p r o ≡ false → before r o t u ≡ false → before q p t u ≡ false
  unchained e f =
      before_not q p r o e
      (λ a. before_not r o t u f (λ b. before_no q p t u (omega arith)) (λ b c. before_no q p t u (omega arith)))
      (λ a d. before_not r o t u f (λ b. before_no q p t u (omega arith)) (λ b c. before_less q p t u (omega arith) (omega arith)))

pub lesser_assoc : (f g h : Finding) → lesser (lesser f g) h ≡ lesser f (lesser g h)
lesser_assoc fine g h = refl
lesser_assoc (breaks q p) fine h = refl
lesser_assoc (breaks q p) (breaks r o) fine = lesser_fine (lesser (breaks q p) (breaks r o))
lesser_assoc (breaks q p) (breaks r o) (breaks t u) = go (before q p r o) refl (before r o t u) refl
  where
    A : Finding
    A = breaks q p

    B : Finding
    B = breaks r o

    D : Finding
    D = breaks t u

    go : (x : Bool) → before q p r o ≡ x → (y : Bool) → before r o t u ≡ y
        → lesser (pick (before q p r o) A B) D ≡ lesser A (pick (before r o t u) B D)
    go true e true f =
        ap (λ (z : Finding). lesser z D) (pick_true (before q p r o) A B e)
        ∙ pick_true (before q p t u) A D (chained q p r o t u e f)
        ∙ sym (pick_true (before q p r o) A B e)
        ∙ ap (lesser A) (sym (pick_true (before r o t u) B D f))
    go true e false f =
        ap (λ (z : Finding). lesser z D) (pick_true (before q p r o) A B e)
        ∙ ap (lesser A) (sym (pick_false (before r o t u) B D f))
    go false e true f =
        ap (λ (z : Finding). lesser z D) (pick_false (before q p r o) A B e)
        ∙ pick_true (before r o t u) B D f
        ∙ sym (pick_false (before q p r o) A B e)
        ∙ ap (lesser A) (sym (pick_true (before r o t u) B D f))
    go false e false f =
        ap (λ (z : Finding). lesser z D) (pick_false (before q p r o) A B e)
        ∙ pick_false (before r o t u) B D f
        ∙ sym (pick_false (before q p t u) A D (unchained q p r o t u e f))
        ∙ ap (lesser A) (sym (pick_false (before r o t u) B D f))

-- ---- in notes

-- a finding by its two words
abbrev finding_by : ℕ → ℕ → Finding
finding_by q p = pick (eqb q 0) fine (breaks q p)

pub finding_same : (n m : List ℕ) → note m 12 ≡ note n 12 → note m 13 ≡ note n 13 → finding_of m ≡ finding_of n
finding_same n m e f = λ t. finding_by (e t) (f t)

module _ (q o : ℕ) (n : List ℕ) (long : 13 < length n) where
  new : finding_of (set (set n 12 (suc q)) 13 o) ≡ breaks (suc q) o
  new =
      let a : note (set (set n 12 (suc q)) 13 o) 12 ≡ suc q =
      get_or-set_other (set n 12 (suc q)) 13 12 o 0 (λ e. absurd (omega arith)) ∙ get_or-set_same n 12 (suc q) 0 (omega arith) in
      let b : note (set (set n 12 (suc q)) 13 o) 13 ≡ o =
      get_or-set_same (set n 12 (suc q)) 13 o 0 (subst (λ (l : ℕ). 13 < l) (sym (length-set n 12 (suc q))) long) in
      (λ t. finding_by (a t) (b t)) ∙ pick_false (eqb (suc q) 0) fine (breaks (suc q) o) (ne_eqb (suc q) 0 (λ e. absurd (omega arith)))

  -- one more finding
  pub found_finding : finding_of (found (suc q) o n) ≡ lesser (finding_of n) (breaks (suc q) o)
  unfolding found
  found_finding = go (eqb (note n 12) 0) refl
    where
      P : ℕ
      P = note n 13

      Q : ℕ
      Q = note n 12

      after_yes : before Q P (suc q) o ≡ true → ltb o P || (eqb o P && ltb (suc q) Q) ≡ false
      after_yes e =
          before_told Q P (suc q) o e
          (λ a. ap (λ (t : Bool). t || (eqb o P && ltb (suc q) Q)) (le-ltb o P (omega arith))
          ∙ ap (λ (t : Bool). t && ltb (suc q) Q) (ne_eqb o P (λ x. absurd (omega arith))))
          (λ a b. ap (λ (t : Bool). t || (eqb o P && ltb (suc q) Q)) (le-ltb o P (omega arith))
          ∙ ap (λ (t : Bool). t && ltb (suc q) Q) (eq-eqb o P (sym a)) ∙ le-ltb (suc q) Q b)

      after_no : before Q P (suc q) o ≡ false → ltb o P || (eqb o P && ltb (suc q) Q) ≡ true
      after_no e =
          before_not Q P (suc q) o e
          (λ a. ap (λ (t : Bool). t || (eqb o P && ltb (suc q) Q)) (lt-ltb o P a))
          (λ a b. ap (λ (t : Bool). t || (eqb o P && ltb (suc q) Q)) (le-ltb o P (omega arith))
          ∙ ap (λ (t : Bool). t && ltb (suc q) Q) (eq-eqb o P a) ∙ lt-ltb (suc q) Q b)

      held : eqb Q 0 ≡ false → finding_of n ≡ breaks Q P
      held z = pick_false (eqb Q 0) fine (breaks Q P) z

      T : Bool
      T = eqb Q 0 || (ltb o P || (eqb o P && ltb (suc q) Q))

      go2 : eqb Q 0 ≡ false → (t : Bool) → before Q P (suc q) o ≡ t
          → finding_of (pick T (set (set n 12 (suc q)) 13 o) n) ≡ lesser (breaks Q P) (breaks (suc q) o)
      go2 z true e =
          ap finding_of (pick_false T (set (set n 12 (suc q)) 13 o) n (ap (λ (x : Bool). x || (ltb o P || (eqb o P && ltb (suc q) Q))) z ∙ after_yes e))
          ∙ held z
          ∙ sym (pick_true (before Q P (suc q) o) (breaks Q P) (breaks (suc q) o) e)
      go2 z false e =
          ap finding_of (pick_true T (set (set n 12 (suc q)) 13 o) n (ap (λ (x : Bool). x || (ltb o P || (eqb o P && ltb (suc q) Q))) z ∙ after_no e))
          ∙ new
          ∙ sym (pick_false (before Q P (suc q) o) (breaks Q P) (breaks (suc q) o) e)

      go : (z : Bool) → eqb Q 0 ≡ z → finding_of (pick T (set (set n 12 (suc q)) 13 o) n) ≡ lesser (finding_of n) (breaks (suc q) o)
      go true z =
          ap finding_of (pick_true T (set (set n 12 (suc q)) 13 o) n (ap (λ (x : Bool). x || (ltb o P || (eqb o P && ltb (suc q) Q))) z))
          ∙ new
          ∙ ap (λ (x : Finding). lesser x (breaks (suc q) o)) (sym (pick_true (eqb Q 0) fine (breaks Q P) z))
      go false z = go2 z (before Q P (suc q) o) refl ∙ ap (λ (x : Finding). lesser x (breaks (suc q) o)) (sym (held z))

  -- a finding unless a test holds
  pub found_unless : (b : Bool) → finding_of (pick b n (found (suc q) o n)) ≡ lesser (finding_of n) (or_breaks b (suc q) o)
  unfolding pick
  found_unless true = sym (lesser_fine (finding_of n))
  found_unless false = found_finding

  -- a finding where a test holds
  pub found_where : (b : Bool) → finding_of (pick b (found (suc q) o n) n) ≡ lesser (finding_of n) (or_breaks (not b) (suc q) o)
  unfolding pick
  found_where true = found_finding
  found_where false = sym (lesser_fine (finding_of n))
