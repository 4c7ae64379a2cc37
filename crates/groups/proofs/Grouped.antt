-- The groups of a contract that fits are those of its chains, the finest, numbered from 1 by their first names. Assumes nothing.
use mathlib.Core.Path.{◌≡◌, sym, ap, subst, ◌∙◌}
use mathlib.Core.Bool.{Bool, true, false}
use mathlib.Core.List.{List, []}
use Prim.Native.Nat.{ℕ, suc, ◌<◌, ◌≤◌}
use native.Mathlib.Omega.{arith}
use lib.Dec.{eqb}
use borrow.Author.Tests.{eqb-true, eq-eqb}
use Rattle.laws.proofs.Choice.{pick_true, pick_false}
use Rattle.laws.proofs.Truths.{both_left, both_right, both_true}
use Rattle.contract.specs.Tree.{Contract}
use Rattle.contract.specs.Fits.{fits}
use Rattle.contract.specs.Check.{passes}
use Rattle.contract.specs.Decode.{contract_of}
use Rattle.contract.proofs.Fitting.{FitsContract, fits_contract}
use Rattle.contract_laws.proofs.Sound.{sound}
use Rattle.groups.specs.Groups.{max_names, numbers_name, moves, apart, with_moves, first_of, begins, firsts_below, group_of}
use Rattle.groups.specs.Chains.{joins, Chain, here, by_move, group_count, FirstOf, Grouped}
use Rattle.groups.proofs.Joining.{Joined, apart_joined, all_joined, chain_then, chain_back, chain_keeps, joins_swap}
use Rattle.groups.proofs.Numbering.{below_more, below_first, rises, one_first, Numbered, each_numbered}
use Rattle.groups.proofs.NamesAlone.{name_few, all_named, all_within, joins_named, chain_named}

module _ (c : Contract) (t : FitsContract c) where
  abbrev is : ℕ → Bool
  is = numbers_name c

  abbrev first : ℕ → ℕ
  first = first_of c

  abbrev below : ℕ → ℕ
  below = firsts_below is first

  after : Joined (moves c) (with_moves apart (moves c))
  after = all_joined (moves c) [] apart apart_joined (all_within c t)

  few : (k : ℕ) → is k ≡ true → k < max_names
  few = name_few c t

  -- ---- first names

  pub first_least : (k : ℕ) → is k ≡ true → first k ≤ k
  first_least k e = after.least.least k (few k e)

  pub first_chain : (k : ℕ) → is k ≡ true → Chain (moves c) k (first k)
  first_chain k e = after.chained k (few k e)

  named_on : (k l : ℕ) → is k ≡ true → Chain (moves c) k l → is l ≡ true
  named_on k l e x = chain_named is (moves c) (all_named c t) e x

  first_named : (k : ℕ) → is k ≡ true → is (first k) ≡ true
  first_named k e = named_on k (first k) e (first_chain k e)

  end_named : (a b : ℕ) → joins (moves c) a b ≡ true → is a ≡ true
  end_named = joins_named is (moves c) (all_named c t)

  joined_same : (a b : ℕ) → joins (moves c) a b ≡ true → first a ≡ first b
  joined_same a b j = after.same a b (few a (end_named a b j)) (few b (end_named b a (joins_swap (moves c) b a ∙ j))) j

  chain_same : (k l : ℕ) → Chain (moves c) k l → first k ≡ first l
  chain_same k l x = chain_keeps first joined_same x

  first_first : (k : ℕ) → is k ≡ true → first (first k) ≡ first k
  first_first k e = sym (chain_same k (first k) (first_chain k e))

  first_begins : (k : ℕ) → is k ≡ true → begins is first (first k) ≡ true
  first_begins k e = both_true (is (first k)) (eqb (first (first k)) (first k)) (first_named k e) (eq-eqb _ _ (first_first k e))

  -- ---- numbers

  pub group_is : (k : ℕ) → is k ≡ true → group_of c k ≡ below (suc (first k))
  unfolding group_of
  group_is k e = pick_true _ _ _ e

  one_group : (k l : ℕ) → is k ≡ true → is l ≡ true → group_of c k ≡ group_of c l → first k ≡ first l
  one_group k l p q e = one_first is first (first k) (first l) (first_begins k p) (first_begins l q) (sym (group_is k p) ∙ e ∙ group_is l q)

  linked : (k l : ℕ) → is k ≡ true → is l ≡ true → group_of c k ≡ group_of c l → Chain (moves c) k l
  linked k l p q e = chain_then (first_chain k p) (chain_back (subst (λ (n : ℕ). Chain (moves c) l n) (sym (one_group k l p q e)) (first_chain l q)))

  pub same_group : (k l : ℕ) → is k ≡ true → Chain (moves c) k l → group_of c k ≡ group_of c l
  same_group k l p x = group_is k p ∙ ap (λ (n : ℕ). below (suc n)) (chain_same k l x) ∙ sym (group_is l (named_on k l p x))

  one_or_more : (k : ℕ) → is k ≡ true → 1 ≤ group_of c k
  one_or_more k p = let a : below (suc (first k)) ≡ suc (below (first k)) = below_first is first (first k) (first_begins k p) in omega (arith, group_is k p)

  at_most_count : (k : ℕ) → is k ≡ true → group_of c k ≤ group_count c
  at_most_count k p =
      let h : k < max_names = few k p in
      let l : first k ≤ k = first_least k p in
      let a : below (suc (first k)) ≤ below max_names = below_more is first (suc (first k)) max_names (omega arith) in
      omega (arith, group_is k p)

  -- the first name of a number
  numbered_first : (g : ℕ) → Numbered is first max_names g → FirstOf c g
  numbered_first g r =
      let p : is r.name ≡ true = both_left (is r.name) (eqb (first r.name) r.name) r.is_first in
      let f : first r.name ≡ r.name = eqb-true _ _ (both_right (is r.name) (eqb (first r.name) r.name) r.is_first) in
      let n : group_of c r.name ≡ g = group_is r.name p ∙ ap (λ (n : ℕ). below (suc n)) f ∙ r.number in
      record {
        name = r.name;
        is_name = p;
        number = n;
        first = λ l q e.
            let s : first r.name ≡ first l = one_group r.name l p q (n ∙ sym e) in
            let b : first l ≤ l = first_least l q in
            omega (arith, f);
      }

  -- a first name is its own
  own : (g : ℕ) (p : FirstOf c g) → first p.name ≡ p.name
  own g p =
      let a : p.name ≤ first p.name =
      p.first (first p.name) (first_named p.name p.is_name) (sym (same_group p.name (first p.name) p.is_name (first_chain p.name p.is_name)) ∙ p.number) in
      let b : first p.name ≤ p.name = first_least p.name p.is_name in
      omega arith

  risen : (g h : ℕ) (p : FirstOf c g) (q : FirstOf c h) → p.name < q.name → g < h
  risen g h p q l =
      let a : g ≡ below (suc p.name) = sym p.number ∙ group_is p.name p.is_name ∙ ap (λ (n : ℕ). below (suc n)) (own g p) in
      let b : h ≡ below (suc q.name) = sym q.number ∙ group_is q.name q.is_name ∙ ap (λ (n : ℕ). below (suc n)) (own h q) in
      let s : begins is first q.name ≡ true = both_true (is q.name) (eqb (first q.name) q.name) q.is_name (eq-eqb _ _ (own h q)) in
      let r : below (suc p.name) < below (suc q.name) = rises is first p.name q.name s l in
      omega arith

  no_number : (k : ℕ) → is k ≡ false → group_of c k ≡ 0
  unfolding group_of
  no_number k e = pick_false _ _ _ e

  all_grouped : Grouped c
  all_grouped =
      record {
        chained = linked;
        same = same_group;
        names_alone = named_on;
        ends = end_named;
        both_ends = λ a b j. same_group a b (end_named a b j) (by_move j here);
        finest = λ h f k l p q e. chain_keeps h f (linked k l p q e);
        from_one = one_or_more;
        to_count = at_most_count;
        each_has = λ g a b. numbered_first g (each_numbered is first max_names g a b);
        in_order = risen;
        few = few;
        nameless = no_number;
      }

pub grouped : (c : Contract) → fits c ≡ true → Grouped c
grouped c e = all_grouped c (fits_contract c e)

-- so of every table that passes
pub grouped_in : (w : List ℕ) → passes w ≡ true → Grouped (contract_of w)
grouped_in w e = grouped (contract_of w) (sound w e)
