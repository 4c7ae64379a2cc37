-- How many there are of what items count, and what declared names make known. Assumes nothing.
use mathlib.Core.Path.{◌≡◌, refl, sym, ap, subst, ◌∙◌}
use mathlib.Core.Bool.{Bool, true, false, not}
use mathlib.Core.List.{List, [], ◌∷◌, ◌++◌, append-nil}
use Prim.Native.Nat.{ℕ, suc, ◌+◌, ◌<◌, ◌≤◌}
use native.Mathlib.Omega.{arith}
use lib.ListN.{length, length-append}
use lib.Dec.{eqb, ltb}
use borrow.Author.Tests.{ltb-true, eqb-true, eq-eqb}
use Rattle.laws.specs.Choice.{pick}
use Rattle.laws.proofs.Choice.{by_cases, pick_true, pick_false}
use Rattle.contract.specs.Tree.{Word}
use Rattle.contract.specs.Limits.{max_functions}
use Rattle.laws.proofs.Truths.{both_left, both_right, both_true, not_true}
use Rattle.laws.specs.Lists.{every}
use Rattle.reading.specs.Syntax.{Span}
use Rattle.reading.specs.Items.{Item, declares, mentions, uses, counts, opens, heads, closes}
use Rattle.reading.specs.Items as kind
use Rattle.reading.specs.Rules.{most, count, word, known, headers, header, judge}
use Rattle.reading.specs.Resolve.{latest_first}
use Rattle.reading.specs.Items.{of_each, declared}
use Rattle.reading.specs.Resolve.{each_of}
use Rattle.accepted.proofs.Judged.{Clean, test_holds, lesser_left}
use Rattle.accepted.proofs.Known.{listed_true}
use mathlib.Core.List.{append_assoc}
use native.Mathlib.Nat.{add-zero}

-- how many items count something of a kind
unfoldable pub tally : ℕ → List Item → ℕ
tally k [] = 0
tally k (declares j x ∷ is) = tally k is
tally k (mentions j x p ∷ is) = tally k is
tally k (uses ks x ∷ is) = tally k is
tally k (counts j p ∷ is) = pick (eqb j k) (suc (tally k is)) (tally k is)
tally k (opens ∷ is) = tally k is
tally k (heads p q a f ∷ is) = tally k is
tally k (closes p cs ∷ is) = tally k is

-- how many functions there are
unfoldable pub heads_in : List Item → ℕ
heads_in [] = 0
heads_in (declares j x ∷ is) = heads_in is
heads_in (mentions j x p ∷ is) = heads_in is
heads_in (uses ks x ∷ is) = heads_in is
heads_in (counts j p ∷ is) = heads_in is
heads_in (opens ∷ is) = heads_in is
heads_in (heads p q a f ∷ is) = suc (heads_in is)
heads_in (closes p cs ∷ is) = heads_in is

-- statements are counted anew where a body or a handler opens
abbrev pub goes_on : ℕ → Item → Bool
goes_on k (declares j x) = true
goes_on k (mentions j x p) = true
goes_on k (uses ks x) = true
goes_on k (counts j p) = true
goes_on k opens = not (eqb k kind.statement)
goes_on k (heads p q a f) = true
goes_on k (closes p cs) = true

pick_plus : (t : Bool) (a b c : ℕ) → a ≡ b + c → pick t (suc a) a ≡ pick t (suc b) b + c
unfolding pick
pick_plus true a b c e = omega arith
pick_plus false a b c e = e

pub tally_append : (k : ℕ) (xs ys : List Item) → tally k (xs ++ ys) ≡ tally k xs + tally k ys
unfolding tally
tally_append k [] ys = omega arith
tally_append k (declares j x ∷ is) ys = tally_append k is ys
tally_append k (mentions j x p ∷ is) ys = tally_append k is ys
tally_append k (uses ks x ∷ is) ys = tally_append k is ys
tally_append k (counts j p ∷ is) ys = pick_plus (eqb j k) _ (tally k is) (tally k ys) (tally_append k is ys)
tally_append k (opens ∷ is) ys = tally_append k is ys
tally_append k (heads p q a f ∷ is) ys = tally_append k is ys
tally_append k (closes p cs ∷ is) ys = tally_append k is ys

pub heads_append : (xs ys : List Item) → heads_in (xs ++ ys) ≡ heads_in xs + heads_in ys
unfolding heads_in
heads_append [] ys = omega arith
heads_append (declares j x ∷ is) ys = heads_append is ys
heads_append (mentions j x p ∷ is) ys = heads_append is ys
heads_append (uses ks x ∷ is) ys = heads_append is ys
heads_append (counts j p ∷ is) ys = heads_append is ys
heads_append (opens ∷ is) ys = heads_append is ys
heads_append (heads p q a f ∷ is) ys = let r = heads_append is ys in omega arith
heads_append (closes p cs ∷ is) ys = heads_append is ys

-- one more count
count_step : (t : Bool) (a b c : ℕ) → a ≡ pick t (suc b) b + c → a ≡ b + pick t (suc c) c
unfolding pick
count_step true a b c e = omega arith
count_step false a b c e = e

pub count_latest : (k : ℕ) (is b : List Item) → every (goes_on k) is ≡ true → count k (latest_first b is) ≡ count k b + tally k is
unfolding tally count latest_first every
count_latest k [] b h = sym (add-zero (count k b))
count_latest k (declares j x ∷ is) b h = count_latest k is (declares j x ∷ b) h
count_latest k (mentions j x p ∷ is) b h = count_latest k is (mentions j x p ∷ b) h
count_latest k (uses ks x ∷ is) b h = count_latest k is (uses ks x ∷ b) h
count_latest k (counts j p ∷ is) b h = count_step (eqb j k) _ (count k b) (tally k is) (count_latest k is (counts j p ∷ b) h)
count_latest k (opens ∷ is) b h =
    count_latest k is (opens ∷ b) (both_right (not (eqb k kind.statement)) (every (goes_on k) is) h)
    ∙ ap (λ (m : ℕ). m + tally k is) (pick_false _ _ _ (not_true (eqb k kind.statement) (both_left (not (eqb k kind.statement)) (every (goes_on k) is) h)))
count_latest k (heads p q a f ∷ is) b h = count_latest k is (heads p q a f ∷ b) h
count_latest k (closes p cs ∷ is) b h = count_latest k is (closes p cs ∷ b) h

-- what is never counted anew
pub always_on : (k : ℕ) → eqb k kind.statement ≡ false → (is : List Item) → every (goes_on k) is ≡ true
unfolding every
always_on k e [] = refl
always_on k e (declares j x ∷ is) = always_on k e is
always_on k e (mentions j x p ∷ is) = always_on k e is
always_on k e (uses ks x ∷ is) = always_on k e is
always_on k e (counts j p ∷ is) = always_on k e is
always_on k e (opens ∷ is) = both_true _ _ (ap not e) (always_on k e is)
always_on k e (heads p q a f ∷ is) = always_on k e is
always_on k e (closes p cs ∷ is) = always_on k e is

module _ (s : List ℕ) where
  -- counts stay within their limits
  pub count_few : (k : ℕ) (is b : List Item) → Clean s b is → count k b ≤ most k → count k (latest_first b is) ≤ most k
  unfolding count latest_first judge
  count_few k [] b c h = h
  count_few k (declares j x ∷ is) b c h = count_few k is (declares j x ∷ b) c.1 h
  count_few k (mentions j x p ∷ is) b c h = count_few k is (mentions j x p ∷ b) c.1 h
  count_few k (uses ks x ∷ is) b c h = count_few k is (uses ks x ∷ b) c.1 h
  count_few k (counts j p ∷ is) b c h =
      count_few k is (counts j p ∷ b) c.1
      (by_cases (λ (m : ℕ). m ≤ most k) (eqb j k) (suc (count k b)) (count k b)
      (λ q. let e : j ≡ k = eqb-true j k q in
      ltb-true (count k b) (most k) (subst (λ (m : ℕ). ltb (count m b) (most m) ≡ true) e (test_holds _ 11 p c.0))) (λ _. h))
  count_few k (opens ∷ is) b c h =
      count_few k is (opens ∷ b) c.1 (by_cases (λ (m : ℕ). m ≤ most k) (eqb k kind.statement) 0 (count k b) (λ _. omega arith) (λ _. h))
  count_few k (heads p q a f ∷ is) b c h = count_few k is (heads p q a f ∷ b) c.1 h
  count_few k (closes p cs ∷ is) b c h = count_few k is (closes p cs ∷ b) c.1 h

  pub heads_few : (is b : List Item) → Clean s b is → length (headers s b) ≤ max_functions → length (headers s b) + heads_in is ≤ max_functions
  unfolding headers heads_in latest_first judge
  heads_few [] b c h = omega arith
  heads_few (declares j x ∷ is) b c h = heads_few is (declares j x ∷ b) c.1 h
  heads_few (mentions j x p ∷ is) b c h = heads_few is (mentions j x p ∷ b) c.1 h
  heads_few (uses ks x ∷ is) b c h = heads_few is (uses ks x ∷ b) c.1 h
  heads_few (counts j p ∷ is) b c h = heads_few is (counts j p ∷ b) c.1 h
  heads_few (opens ∷ is) b c h = heads_few is (opens ∷ b) c.1 h
  heads_few (heads p q a f ∷ is) b c h =
      let t : ltb (length (headers s b)) max_functions ≡ true = test_holds _ 11 p (lesser_left _ _ c.0) in
      let l : length (headers s b) < max_functions = ltb-true _ _ t in
      let e : headers s (heads p q a f ∷ b) ≡ headers s b ++ (header s b q a f ∷ []) = pick_true _ _ _ t in
      let m : length (headers s (heads p q a f ∷ b)) ≡ length (headers s b) + 1 = ap length e ∙ length-append (headers s b) (header s b q a f ∷ []) in
      let r : length (headers s (heads p q a f ∷ b)) + heads_in is ≤ max_functions = heads_few is (heads p q a f ∷ b) c.1 (omega arith) in
      omega arith
  heads_few (closes p cs ∷ is) b c h = heads_few is (closes p cs ∷ b) c.1 h

  -- declared names are known, in their order
  pub declared_known : (k : ℕ) (xs : List Span) (b : List Item) → Clean s b (declared k xs) → known s k (latest_first b (declared k xs)) ≡ known s k b ++ each_of (word s) xs
  unfolding of_each latest_first each_of known judge
  declared_known k [] b c = sym (append-nil (known s k b))
  declared_known k (x ∷ xs) b c =
      let t : ltb (length (known s k b)) (most k) ≡ true = test_holds _ 11 x.start (lesser_left _ _ c.0) in
      let e : known s k (declares k x ∷ b) ≡ known s k b ++ (word s x ∷ []) = pick_true _ _ _ (eq-eqb k k refl) ∙ listed_true k (word s x) (known s k b) t in
      declared_known k xs (declares k x ∷ b) c.1 ∙ ap (λ (l : List Word). l ++ each_of (word s) xs) e ∙ append_assoc (known s k b) (word s x ∷ []) (each_of (word s) xs)

  -- and make nothing of another kind known
  pub declared_other : (k j : ℕ) → eqb j k ≡ false → (xs : List Span) (b : List Item) → known s k (latest_first b (declared j xs)) ≡ known s k b
  unfolding of_each latest_first known
  declared_other k j e [] b = refl
  declared_other k j e (x ∷ xs) b = declared_other k j e xs (declares j x ∷ b) ∙ pick_false _ _ _ e
