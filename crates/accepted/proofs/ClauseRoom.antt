-- Question 14's three rules imply that a table has room for the clauses, where their parties and fields are known. Assumes nothing.
use mathlib.Core.Path.{◌≡◌, refl, sym, ap, subst, ◌∙◌}
use mathlib.Core.Bool.{Bool, true, false, ◌&&◌, ◌||◌, not}
use mathlib.Core.List.{List, [], ◌∷◌, ◌++◌}
use Prim.Native.Nat.{ℕ, zero, suc, ◌+◌, ◌<◌, ◌≤◌}
use native.Mathlib.Omega.{arith}
use lib.ListN.{length}
use lib.Dec.{eqb, leb, ltb}
use borrow.Author.Tests.{le-leb, lt-ltb, ltb-true, eqb-true, eqb-false}
use Rattle.laws.specs.Choice.{pick}
use Rattle.laws.specs.Lists.{every, all_below, keep}
use Rattle.laws.proofs.Choice.{by_cases, true_false, pick_true, pick_false}
use Rattle.laws.proofs.Truths.{both_left, both_right, both_true, and_false, not_true, or_last}
use Rattle.contract.specs.Limits.{max_parties, max_fields, max_clauses}
use Rattle.contract.specs.Tree.{Word, Clause}
use Rattle.reading.specs.Syntax.{Span}
use Rattle.reading.specs.Syntax as syntax
use Rattle.reading.specs.Grammar.{is_one_of}
use Rattle.reading.specs.Items.{Item, uses, closes, of_each, clause_items}
use Rattle.reading.specs.Items as kind
use Rattle.reading.specs.Rules.{distinct, is_set, parties_of, fields_set, agrees_well, three_rules, has_room, keeps_rules, or_breaks, word, known, is_among, is_known, numbers_in, clauses_in, judge}
use Rattle.reading.specs.Resolve.{latest_first}
use Rattle.accepted.proofs.Judged.{Clean, clean_first, clean_second, test_holds}
use Rattle.accepted.proofs.Known.{known_few, plain_known}
use Rattle.accepted.proofs.FunctionsFit.{clause_fields_plain, clauses_plain}

-- ---- distinct numbers below a bound are no more than it

abbrev is_other : ℕ → ℕ → Bool
is_other n x = not (eqb x n)

not_false : (b : Bool) → b ≡ false → not b ≡ true
not_false true e = sym e
not_false false e = refl

-- a number that is not among a list is none of its members
out_first : (x y : ℕ) (ys : List ℕ) → is_one_of (y ∷ ys) x ≡ false → eqb x y ≡ false
unfolding is_one_of
out_first x y ys e = go (eqb x y) refl
  where
    go : (t : Bool) → eqb x y ≡ t → t ≡ false
    go true q = true_false (sym (pick_true _ _ _ q) ∙ e)
    go false q = refl

out_rest : (x y : ℕ) (ys : List ℕ) → is_one_of (y ∷ ys) x ≡ false → is_one_of ys x ≡ false
unfolding is_one_of
out_rest x y ys e = sym (pick_false _ _ _ (out_first x y ys e)) ∙ e

out_both : (x y : ℕ) (ys : List ℕ) → eqb x y ≡ false → is_one_of ys x ≡ false → is_one_of (y ∷ ys) x ≡ false
unfolding is_one_of
out_both x y ys e f = pick_false _ _ _ e ∙ f

eqb_turned : (x y : ℕ) → eqb x y ≡ false → eqb y x ≡ false
eqb_turned x y e = go (eqb y x) refl
  where
    go : (t : Bool) → eqb y x ≡ t → t ≡ false
    go true q = let a = eqb-true y x q in let b = eqb-false x y e in absurd (omega arith)
    go false q = refl

out_kept : (p : ℕ → Bool) (x : ℕ) (xs : List ℕ) → is_one_of xs x ≡ false → is_one_of (keep p xs) x ≡ false
unfolding keep
out_kept p x [] e = e
out_kept p x (y ∷ xs) e =
    by_cases (λ (l : List ℕ). is_one_of l x ≡ false) (p y) (y ∷ keep p xs) (keep p xs)
    (λ _. out_both x y (keep p xs) (out_first x y xs e) (out_kept p x xs (out_rest x y xs e)))
    (λ _. out_kept p x xs (out_rest x y xs e))

kept_distinct : (p : ℕ → Bool) (xs : List ℕ) → distinct xs ≡ true → distinct (keep p xs) ≡ true
unfolding keep distinct
kept_distinct p [] e = refl
kept_distinct p (x ∷ xs) e =
    let a = not_true _ (both_left (not (is_one_of xs x)) (distinct xs) e) in
    let r = kept_distinct p xs (both_right (not (is_one_of xs x)) (distinct xs) e) in
    by_cases (λ (l : List ℕ). distinct l ≡ true) (p x) (x ∷ keep p xs) (keep p xs)
    (λ _. both_true _ _ (not_false _ (out_kept p x xs a)) r)
    (λ _. r)

-- none is left out
all_kept : (n : ℕ) (xs : List ℕ) → is_one_of xs n ≡ false → length (keep (is_other n) xs) ≡ length xs
unfolding keep
all_kept n [] e = refl
all_kept n (x ∷ xs) e =
    ap length (pick_true (is_other n x) (x ∷ keep (is_other n) xs) (keep (is_other n) xs) (not_false _ (eqb_turned n x (out_first n x xs e))))
    ∙ ap suc (all_kept n xs (out_rest n x xs e))

-- at most one is left out
once_kept : (n : ℕ) (xs : List ℕ) → distinct xs ≡ true → length xs ≤ suc (length (keep (is_other n) xs))
unfolding keep distinct
once_kept n [] e = omega arith
once_kept n (x ∷ xs) e =
    go (eqb x n) refl (not_true _ (both_left (not (is_one_of xs x)) (distinct xs) e)) (once_kept n xs (both_right (not (is_one_of xs x)) (distinct xs) e))
  where
    go : (t : Bool) → eqb x n ≡ t → is_one_of xs x ≡ false → length xs ≤ suc (length (keep (is_other n) xs))
        → suc (length xs) ≤ suc (length (pick (not t) (x ∷ keep (is_other n) xs) (keep (is_other n) xs)))
    go true q a r =
        let k : length (keep (is_other n) xs) ≡ length xs = all_kept n xs (subst (λ (m : ℕ). is_one_of xs m ≡ false) (eqb-true x n q) a) in
        let l : length (pick false (x ∷ keep (is_other n) xs) (keep (is_other n) xs)) ≡ length (keep (is_other n) xs) = ap length (pick_false false (x ∷ keep (is_other n) xs) (keep (is_other n) xs) refl) in
        omega arith
    go false q a r =
        let l : length (pick true (x ∷ keep (is_other n) xs) (keep (is_other n) xs)) ≡ suc (length (keep (is_other n) xs)) = ap length (pick_true true (x ∷ keep (is_other n) xs) (keep (is_other n) xs) refl) in
        omega arith

abbrev below : ℕ → ℕ → Bool
below n x = ltb x n

kept_below : (n : ℕ) (xs : List ℕ) → every (below (suc n)) xs ≡ true → every (below n) (keep (is_other n) xs) ≡ true
unfolding keep every
kept_below n [] e = refl
kept_below n (x ∷ xs) e =
    let a : x < suc n = ltb-true x (suc n) (both_left (ltb x (suc n)) (every (below (suc n)) xs) e) in
    let r = kept_below n xs (both_right (ltb x (suc n)) (every (below (suc n)) xs) e) in
    by_cases (λ (l : List ℕ). every (below n) l ≡ true) (is_other n x) (x ∷ keep (is_other n) xs) (keep (is_other n) xs)
    (λ q. let d = eqb-false x n (not_true _ q) in both_true _ _ (lt-ltb x n (omega arith)) r)
    (λ _. r)

few : (n : ℕ) (xs : List ℕ) → distinct xs ≡ true → every (below n) xs ≡ true → length xs ≤ n
unfolding every
few zero [] d e = omega arith
few zero (x ∷ xs) d e = let a : x < 0 = ltb-true x 0 (both_left (ltb x 0) (every (below 0) xs) e) in absurd (omega arith)
few (suc n) xs d e =
    let r = few n (keep (is_other n) xs) (kept_distinct (is_other n) xs d) (kept_below n xs e) in
    let o = once_kept n xs d in
    omega arith

-- ---- clauses of known parties and fields

abbrev is_known_clause : ℕ → ℕ → Clause → Bool
is_known_clause n m k = ltb k.party n && every (below m) k.fields

-- the clauses with SET and those with OK are all of them
both_verbs : (ks : List Clause) → length ks ≡ length (parties_of true ks) + length (parties_of false ks)
unfolding parties_of pick
both_verbs [] = refl
both_verbs (k ∷ ks) = go (is_set k.verb) (both_verbs ks)
  where
    go : (t : Bool) → length ks ≡ length (parties_of true ks) + length (parties_of false ks)
        → suc (length ks) ≡ length (pick t (k.party ∷ parties_of true ks) (parties_of true ks)) + length (pick t (parties_of false ks) (k.party ∷ parties_of false ks))
    go true r = omega (arith, r)
    go false r = omega (arith, r)

parties_below : (n m : ℕ) (v : Bool) (ks : List Clause) → every (is_known_clause n m) ks ≡ true → every (below n) (parties_of v ks) ≡ true
unfolding parties_of every
parties_below n m true [] e = refl
parties_below n m false [] e = refl
parties_below n m true (k ∷ ks) e =
    let a = both_left (ltb k.party n) _ (both_left (is_known_clause n m k) (every (is_known_clause n m) ks) e) in
    let r = parties_below n m true ks (both_right (is_known_clause n m k) (every (is_known_clause n m) ks) e) in
    by_cases (λ (l : List ℕ). every (below n) l ≡ true) (is_set k.verb) _ _ (λ _. both_true _ _ a r) (λ _. r)
parties_below n m false (k ∷ ks) e =
    let a = both_left (ltb k.party n) _ (both_left (is_known_clause n m k) (every (is_known_clause n m) ks) e) in
    let r = parties_below n m false ks (both_right (is_known_clause n m k) (every (is_known_clause n m) ks) e) in
    by_cases (λ (l : List ℕ). every (below n) l ≡ true) (is_set k.verb) _ _ (λ _. r) (λ _. both_true _ _ a r)

out_left : (x : ℕ) (xs ys : List ℕ) → is_one_of (xs ++ ys) x ≡ false → is_one_of xs x ≡ false
unfolding is_one_of
out_left x [] ys e = refl
out_left x (y ∷ xs) ys e = out_both x y xs (out_first x y (xs ++ ys) e) (out_left x xs ys (out_rest x y (xs ++ ys) e))

distinct_left : (xs ys : List ℕ) → distinct (xs ++ ys) ≡ true → distinct xs ≡ true
unfolding distinct
distinct_left [] ys e = refl
distinct_left (x ∷ xs) ys e =
    both_true _ _ (not_false _ (out_left x xs ys (not_true _ (both_left (not (is_one_of (xs ++ ys) x)) (distinct (xs ++ ys)) e))))
    (distinct_left xs ys (both_right (not (is_one_of (xs ++ ys) x)) (distinct (xs ++ ys)) e))

distinct_right : (xs ys : List ℕ) → distinct (xs ++ ys) ≡ true → distinct ys ≡ true
unfolding distinct
distinct_right [] ys e = e
distinct_right (x ∷ xs) ys e = distinct_right xs ys (both_right (not (is_one_of (xs ++ ys) x)) (distinct (xs ++ ys)) e)

-- each clause has each of its fields once
fields_once : (all ks : List Clause) → distinct (fields_set (λ a. true) ks) ≡ true → every (agrees_well all) ks ≡ true → every (λ k. distinct k.fields) ks ≡ true
unfolding fields_set every agrees_well
fields_once all [] d e = refl
fields_once all (k ∷ ks) d e =
    go (is_set k.verb) d (both_left (agrees_well all k) (every (agrees_well all) ks) e)
    (λ f. fields_once all ks f (both_right (agrees_well all k) (every (agrees_well all) ks) e))
  where
    go : (t : Bool) → distinct (pick (t && true) (k.fields ++ fields_set (λ a. true) ks) (fields_set (λ a. true) ks)) ≡ true
        → (t || (distinct k.fields && every (is_one_of (fields_set (λ a. not (eqb a k.party)) all)) k.fields)) ≡ true
        → (distinct (fields_set (λ a. true) ks) ≡ true → every (λ j. distinct j.fields) ks ≡ true)
        → (distinct k.fields && every (λ j. distinct j.fields) ks) ≡ true
    go true f g rest =
        let h : distinct (k.fields ++ fields_set (λ a. true) ks) ≡ true = subst (λ (l : List ℕ). distinct l ≡ true) (pick_true true _ _ refl) f in
        both_true _ _ (distinct_left k.fields (fields_set (λ a. true) ks) h) (rest (distinct_right k.fields (fields_set (λ a. true) ks) h))
    go false f g rest = both_true _ _ (both_left (distinct k.fields) _ g) (rest (subst (λ (l : List ℕ). distinct l ≡ true) (pick_false false _ _ refl) f))

fields_few : (n m : ℕ) → m ≤ max_fields → (ks : List Clause) → every (is_known_clause n m) ks ≡ true → every (λ k. distinct k.fields) ks ≡ true → every (λ k. leb (length k.fields) max_fields) ks ≡ true
unfolding every
fields_few n m h [] e d = refl
fields_few n m h (k ∷ ks) e d =
    let a = both_right (ltb k.party n) (every (below m) k.fields) (both_left (is_known_clause n m k) (every (is_known_clause n m) ks) e) in
    let f : length k.fields ≤ m = few m k.fields (both_left (distinct k.fields) (every (λ j. distinct j.fields) ks) d) a in
    both_true _ _ (le-leb (length k.fields) max_fields (omega arith))
    (fields_few n m h ks (both_right (is_known_clause n m k) (every (is_known_clause n m) ks) e) (both_right (distinct k.fields) (every (λ j. distinct j.fields) ks) d))

pub rules_have_room : (n m : ℕ) (ks : List Clause) → n ≤ max_parties → m ≤ max_fields → every (is_known_clause n m) ks ≡ true → three_rules n ks ≡ true → has_room ks ≡ true
rules_have_room n m ks hn hm e r =
    let F = distinct (fields_set (λ a. true) ks) in
    let A = every (agrees_well ks) ks in
    let N = all_below n (λ a. is_one_of (parties_of true ks) a || is_one_of (parties_of false ks) a) in
    let S = distinct (parties_of true ks) in
    let O = distinct (parties_of false ks) in
    let r1 : (A && (N && (S && O))) ≡ true = both_right F (A && (N && (S && O))) r in
    let r2 : (S && O) ≡ true = both_right N (S && O) (both_right A (N && (S && O)) r1) in
    let s : length (parties_of true ks) ≤ n = few n (parties_of true ks) (both_left S O r2) (parties_below n m true ks e) in
    let o : length (parties_of false ks) ≤ n = few n (parties_of false ks) (both_right S O r2) (parties_below n m false ks e) in
    let l = both_verbs ks in
    both_true _ _ (le-leb (length ks) max_clauses (omega arith))
    (fields_few n m hm ks e (fields_once ks ks (both_left F (A && (N && (S && O))) r) (both_left A (N && (S && O)) r1)))

-- so that question 14 asks no more than the rules
rules_only : (n m : ℕ) (ks : List Clause) → n ≤ max_parties → m ≤ max_fields → every (is_known_clause n m) ks ≡ true → keeps_rules n ks ≡ three_rules n ks
unfolding keeps_rules
rules_only n m ks hn hm e = go (three_rules n ks) refl
  where
    go : (t : Bool) → three_rules n ks ≡ t → (has_room ks && t) ≡ t
    go true q = both_true _ _ (rules_have_room n m ks hn hm e q) refl
    go false q = and_false (has_room ks)

-- ---- the clauses of a text

module _ (s : List ℕ) where
  fields_known : (b : List Item) (xs : List Span) → Clean s b (of_each (λ x. uses (kind.field ∷ []) x ∷ []) xs) → every (below (length (known s kind.field b))) (numbers_in s (known s kind.field b) xs) ≡ true
  unfolding of_each numbers_in every judge is_known known
  fields_known b [] c = refl
  fields_known b (x ∷ xs) c =
      both_true _ _ (or_last (is_among (word s x) (known s kind.field b)) (test_holds _ 13 x.start c.0)) (fields_known (uses (kind.field ∷ []) x ∷ b) xs c.1)

  clauses_known : (b : List Item) (ks : List syntax.Clause) → Clean s b (of_each clause_items ks)
      → every (is_known_clause (length (known s kind.party b)) (length (known s kind.field b))) (clauses_in s (known s kind.party b) (known s kind.field b) ks) ≡ true
  unfolding of_each clause_items clauses_in every judge is_known known latest_first
  clauses_known b [] c = refl
  clauses_known b (k ∷ ks) c =
      let xs = of_each (λ x. uses (kind.field ∷ []) x ∷ []) k.fields in
      let rest = of_each clause_items ks in
      let b1 = latest_first (uses (kind.party ∷ []) k.party ∷ b) xs in
      let ps : known s kind.party b1 ≡ known s kind.party b = plain_known s kind.party xs (uses (kind.party ∷ []) k.party ∷ b) (omega arith) (clause_fields_plain s k.fields) in
      let fs : known s kind.field b1 ≡ known s kind.field b = plain_known s kind.field xs (uses (kind.party ∷ []) k.party ∷ b) (omega arith) (clause_fields_plain s k.fields) in
      let r = clauses_known b1 ks (clean_second s (uses (kind.party ∷ []) k.party ∷ b) xs rest c.1) in
      both_true _ _
      (both_true _ _ (or_last (is_among (word s k.party) (known s kind.party b)) (test_holds _ 13 k.party.start c.0))
      (fields_known (uses (kind.party ∷ []) k.party ∷ b) k.fields (clean_first s (uses (kind.party ∷ []) k.party ∷ b) xs rest c.1)))
      (subst (λ (w : List Word). every (is_known_clause (length (known s kind.party b)) (length w)) (clauses_in s (known s kind.party b) w ks) ≡ true) fs
      (subst (λ (w : List Word). every (is_known_clause (length w) (length (known s kind.field b1))) (clauses_in s w (known s kind.field b1) ks) ≡ true) ps r))

  -- after clauses without a finding of 13, 14 asks for the three rules and no more
  pub rules_alone : (b : List Item) (p : ℕ) (ks : List syntax.Clause) → Clean s b (of_each clause_items ks)
      → judge s (latest_first b (of_each clause_items ks)) (closes p ks)
      ≡ or_breaks (three_rules (length (known s kind.party b)) (clauses_in s (known s kind.party b) (known s kind.field b) ks)) 14 p
  unfolding judge
  rules_alone b p ks c =
      let e = of_each clause_items ks in
      let ps : known s kind.party (latest_first b e) ≡ known s kind.party b = plain_known s kind.party e b (omega arith) (clauses_plain s ks) in
      let fs : known s kind.field (latest_first b e) ≡ known s kind.field b = plain_known s kind.field e b (omega arith) (clauses_plain s ks) in
      (λ i. or_breaks (keeps_rules (length (ps i)) (clauses_in s (ps i) (fs i) ks)) 14 p)
      ∙ ap (λ (t : Bool). or_breaks t 14 p) (rules_only _ (length (known s kind.field b)) _ (known_few s kind.party b) (known_few s kind.field b) (clauses_known b ks c))
