-- The numbers of groups, made in one pass: a first name gets the next number, any other name that of its first, which stands before it. Assumes
-- nothing.
use mathlib.Core.Path.{◌≡◌, refl, sym, ap, subst, ◌∙◌}
use mathlib.Core.Bool.{Bool, true, false, ◌&&◌}
use mathlib.Core.List.{List}
use mathlib.Core.Logic.{◌≢◌}
use Prim.Native.Nat.{ℕ, suc, ◌+◌, ◌<◌, ◌≤◌}
use native.Mathlib.Omega.{arith}
use lib.ListN.{get_or, set, replicate, length-replicate}
use lib.Dec.{eqb, ltb}
use borrow.Author.Tests.{eqb-true, eqb-false, eq-eqb, ne_eqb, ltb-true, ltb-false}
use Rattle.std.proofs.lemmas.List.{get_or-set_other, get_or-replicate, get_or_past}
use Rattle.laws.proofs.Choice.{pick_false}
use Rattle.laws.proofs.Truths.{both_true}
use Rattle.contract.specs.Tree.{Contract}
use Rattle.contract.specs.Fits.{fits}
use Rattle.contract_laws.proofs.Inversions.{by_test}
use Rattle.contract.proofs.Fitting.{fits_contract}
use Rattle.groups.specs.Groups.{max_names, numbers_name, first_of, begins, firsts_below, group_of, groups}
use Rattle.groups.proofs.Numbering.{below_first, below_other, below_few}
use Rattle.groups.proofs.Loops.{Filled, filled_none, filled_more, filled_all}
use Rattle.groups.proofs.Grouped.{group_is, first_least, first_chain, same_group}

zeros : (n j : ℕ) → ◌≡◌ {A = ℕ} (get_or (replicate n 0) j 0) 0
zeros n j = by_test (ltb j n) (λ t. get_or-replicate n j 0 0 (ltb-true j n t)) (λ t. get_or_past (replicate n 0) j 0 (omega (arith, ltb-false j n t, length-replicate {A = ℕ} n 0)))

module _ (c : Contract) where
  abbrev is : ℕ → Bool
  is = numbers_name c

  abbrev below : ℕ → ℕ
  below = firsts_below is (first_of c)

  -- the first k numbers are made, and so many groups have their first name there
  pub record Made (numbers : List ℕ) (count k : ℕ) : Type 0 where
    pub counted : count ≡ below k
    pub filled : Filled max_names (group_of c) numbers k
    pub left : (j : ℕ) → k ≤ j → get_or numbers j 0 ≡ 0

  nameless : (k : ℕ) → is k ≡ false → group_of c k ≡ 0
  unfolding group_of
  nameless k e = pick_false _ _ _ e

  pub made_none : Made (replicate max_names 0) 0 0
  unfolding firsts_below
  made_none = record { counted = refl; filled = filled_none max_names (group_of c) (replicate max_names 0) refl; left = λ j h. zeros max_names j }

  pub made_so : {ns : List ℕ} {n k : ℕ} → Made ns n k → {ms : List ℕ} → ms ≡ ns → {m : ℕ} → m ≡ n → Made ms m k
  made_so {k = k} o e f =
      record {
        counted = f ∙ o.counted;
        filled = subst (λ (l : List ℕ). Filled max_names (group_of c) l k) (sym e) o.filled;
        left = λ j h. ap (λ (l : List ℕ). get_or l j 0) e ∙ o.left j h;
      }

  module _ (numbers : List ℕ) (count k : ℕ) (m : Made numbers count k) where
    pub count_few : count ≤ k
    count_few = omega (arith, m.counted, below_few is (first_of c) k)

    next_other : begins is (first_of c) k ≡ false → count ≡ below (k + 1)
    next_other e =
        let s : suc k ≡ k + 1 = omega arith in
        m.counted ∙ sym (below_other is (first_of c) k e) ∙ ap below s

    -- number k is no name's
    pub made_nameless : is k ≡ false → Made numbers count (k + 1)
    made_nameless e =
        record {
          counted = next_other (ap (λ (b : Bool). b && eqb (first_of c k) k) e);
          filled = record {
            many = m.filled.many;
            same = λ j h.
                by_test (eqb j k) (λ t. let q : j ≡ k = eqb-true _ _ t in m.left j (omega arith) ∙ sym (ap (group_of c) q ∙ nameless k e))
                (λ t. let ne : j ≢ k = eqb-false _ _ t in m.filled.same j (omega arith));
          };
          left = λ j h. m.left j (omega arith);
        }

    -- none is left
    pub made_all : ((j : ℕ) → k ≤ j → j < max_names → is j ≡ false) → numbers ≡ groups c
    made_all n =
        filled_all max_names (group_of c) numbers max_names (omega arith)
        (record {
          many = m.filled.many;
          same = λ j h.
              by_test (ltb j k) (λ t. m.filled.same j (ltb-true j k t))
              (λ t. let l : k ≤ j = ltb-false j k t in m.left j l ∙ sym (nameless j (n j l h)));
        })

    module _ (f : fits c ≡ true) (h : k < max_names) (e : is k ≡ true) where
      left_after : (x j : ℕ) → k + 1 ≤ j → get_or (set numbers k x) j 0 ≡ 0
      left_after x j l = get_or-set_other numbers k j x 0 (λ q. absurd (omega (arith, q))) ∙ m.left j (omega arith)

      -- it is the first name of its group
      pub made_first : first_of c k ≡ k → Made (set numbers k (count + 1)) (count + 1) (k + 1)
      made_first q =
          let s : suc k ≡ k + 1 = omega arith in
          let b : below (suc k) ≡ suc (below k) = below_first is (first_of c) k (both_true (is k) (eqb (first_of c k) k) e (eq-eqb _ _ q)) in
          let n : count + 1 ≡ below (suc k) = omega (arith, b, m.counted) in
          record {
            counted = n ∙ ap below s;
            filled =
                filled_more max_names (group_of c) numbers k (count + 1) h
                (n ∙ sym (group_is c (fits_contract c f) k e ∙ ap (λ (i : ℕ). below (suc i)) q)) m.filled;
            left = left_after (count + 1);
          }

      -- its first name stands before it
      pub made_other : first_of c k ≢ k → (x : ℕ) → x ≡ get_or numbers (first_of c k) 0 → Made (set numbers k x) count (k + 1)
      made_other q x ex =
          let t = fits_contract c f in
          let l : first_of c k ≤ k = first_least c t k e in
          record {
            counted = next_other (ap (λ (b : Bool). is k && b) (ne_eqb _ _ q) ∙ ap (λ (b : Bool). b && false) e);
            filled =
                filled_more max_names (group_of c) numbers k x h
                (ex ∙ m.filled.same (first_of c k) (omega (arith, l, q)) ∙ sym (same_group c t k (first_of c k) e (first_chain c t k e))) m.filled;
            left = left_after x;
          }
