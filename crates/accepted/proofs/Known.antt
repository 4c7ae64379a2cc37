-- The words that are known after items, and what is then met by their uses. Assumes nothing.
use mathlib.Core.Path.{◌≡◌, refl, sym, ap, subst, ◌∙◌}
use mathlib.Core.Bool.{Bool, true, false, ◌&&◌, ◌||◌, not}
use mathlib.Core.List.{List, [], ◌∷◌, ◌++◌}
use Prim.Native.Nat.{ℕ, suc, ◌<◌, ◌≤◌}
use native.Mathlib.Omega.{arith}
use lib.ListN.{length, get_or, length-append}
use lib.Dec.{eqb, ltb}
use borrow.Author.Tests.{ltb-true, lt-ltb, eqb-true, eq-eqb}
use Rattle.laws.specs.Choice.{pick}
use Rattle.laws.specs.Bytes.{same_bytes}
use Rattle.laws.proofs.Choice.{by_cases, true_false, pick_true, pick_false}
use Rattle.laws.proofs.Bytes.{same_refl}
use Rattle.contract.specs.Tree.{Word}
use Rattle.contract.specs.Fits.{is_name, is_string}
use Rattle.laws.proofs.Members.{every_append}
use Rattle.laws.proofs.Truths.{both_left, both_right, both_true, not_true, either_true, first_true, second_true}
use Rattle.laws.specs.Lists.{every}
use Rattle.reading.specs.Syntax.{Span}
use Rattle.reading.specs.Grammar.{is_one_of}
use Rattle.reading.specs.Items.{Item, declares, mentions, uses, counts, opens, heads, closes}
use Rattle.reading.specs.Items as kind
use Rattle.reading.specs.Rules.{most, number_of, is_among, listed, fine, word, known, is_known, judge}
use Rattle.reading.specs.Resolve.{latest_first}
use Rattle.reading.specs.Resolve.{Names}
use Rattle.accepted.proofs.Judged.{Clean, test_holds}

-- ---- words among words

pub number_append : (w : Word) (ws vs : List Word) → number_of w ws < length ws → number_of w (ws ++ vs) < length (ws ++ vs)
unfolding number_of pick
number_append w [] vs h = absurd (omega arith)
number_append w (x ∷ ws) vs h = go (same_bytes w x) h (number_append w ws vs)
  where
    go : (b : Bool) → pick b 0 (suc (number_of w ws)) < suc (length ws) → (number_of w ws < length ws → number_of w (ws ++ vs) < length (ws ++ vs)) → pick b 0 (suc (number_of w (ws ++ vs))) < suc (length (ws ++ vs))
    go true g r = omega arith
    go false g r = let q : number_of w (ws ++ vs) < length (ws ++ vs) = r (omega arith) in omega arith

pub number_last : (w : Word) (ws : List Word) → number_of w (ws ++ (w ∷ [])) < length (ws ++ (w ∷ []))
unfolding number_of
number_last w [] = by_cases (λ n. n < 1) (same_bytes w w) 0 1 (λ _. omega arith) (λ e. true_false (sym (same_refl w) ∙ e))
number_last w (x ∷ ws) = let r = number_last w ws in by_cases (λ n. n < suc (length (ws ++ (w ∷ [])))) (same_bytes w x) 0 (suc (number_of w (ws ++ (w ∷ [])))) (λ _. omega arith) (λ _. omega arith)

pub among_append : (w : Word) (ws vs : List Word) → is_among w ws ≡ true → is_among w (ws ++ vs) ≡ true
among_append w ws vs e = lt-ltb _ _ (number_append w ws vs (ltb-true _ _ e))

pub among_listed : (k : ℕ) (w v : Word) (ws : List Word) → is_among w ws ≡ true → is_among w (listed k v ws) ≡ true
unfolding listed
among_listed k w v ws e = by_cases (λ (l : List Word). is_among w l ≡ true) (ltb (length ws) (most k)) (ws ++ (v ∷ [])) ws (λ _. among_append w ws (v ∷ []) e) (λ _. e)

pub listed_few : (k : ℕ) (v : Word) (ws : List Word) → length ws ≤ most k → length (listed k v ws) ≤ most k
unfolding listed
listed_few k v ws h =
    by_cases (λ (l : List Word). length l ≤ most k) (ltb (length ws) (most k)) (ws ++ (v ∷ [])) ws
    (λ e. let g : length ws < most k = ltb-true _ _ e in simp length-append (omega arith)) (λ _. h)

pub listed_true : (k : ℕ) (v : Word) (ws : List Word) → ltb (length ws) (most k) ≡ true → listed k v ws ≡ ws ++ (v ∷ [])
unfolding listed
listed_true k v ws e = pick_true _ _ _ e

-- ---- items

-- a name of a parameter stays known until the next function
abbrev pub stays : ℕ → Item → Bool
stays k (declares j x) = true
stays k (mentions j x p) = true
stays k (uses ks x) = true
stays k (counts j p) = true
stays k opens = true
stays k (heads p q a f) = not (is_one_of (kind.value ∷ kind.parameter ∷ []) k)
stays k (closes p cs) = true

-- the items of code and clauses: no declared name, no function
abbrev pub plain : Item → Bool
plain (declares j x) = false
plain (mentions j x p) = ltb 4 j && ltb j 7
plain (uses ks x) = every (λ k. ltb k 7) ks
plain (counts j p) = true
plain opens = true
plain (heads p q a f) = false
plain (closes p cs) = false

pub every_latest : (p : Item → Bool) (b is : List Item) → every p b ≡ true → every p is ≡ true → every p (latest_first b is) ≡ true
unfolding latest_first every
every_latest p b [] e f = e
every_latest p b (i ∷ is) e f = every_latest p (i ∷ b) is (both_true _ _ (both_left (p i) (every p is) f) e) (both_right (p i) (every p is) f)

plain_stays : (k : ℕ) (i : Item) → plain i ≡ true → stays k i ≡ true
plain_stays k (declares j x) e = refl
plain_stays k (mentions j x p) e = refl
plain_stays k (uses ks x) e = refl
plain_stays k (counts j p) e = refl
plain_stays k opens e = refl
plain_stays k (heads p q a f) e = true_false (sym e)
plain_stays k (closes p cs) e = refl

pub plain_all : (k : ℕ) (is : List Item) → every plain is ≡ true → every (stays k) is ≡ true
unfolding every
plain_all k [] e = refl
plain_all k (i ∷ is) e = both_true _ _ (plain_stays k i (both_left (plain i) (every plain is) e)) (plain_all k is (both_right (plain i) (every plain is) e))

pub shared_stays : (k : ℕ) → is_one_of (kind.value ∷ kind.parameter ∷ []) k ≡ false → (is : List Item) → every (stays k) is ≡ true
unfolding every
shared_stays k e [] = refl
shared_stays k e (declares j x ∷ is) = shared_stays k e is
shared_stays k e (mentions j x p ∷ is) = shared_stays k e is
shared_stays k e (uses ks x ∷ is) = shared_stays k e is
shared_stays k e (counts j p ∷ is) = shared_stays k e is
shared_stays k e (opens ∷ is) = shared_stays k e is
shared_stays k e (heads p q a f ∷ is) = both_true _ _ (ap not e) (shared_stays k e is)
shared_stays k e (closes p cs ∷ is) = shared_stays k e is

-- the words of each kind, by its number
abbrev pub words_for : Names → ℕ → List Word
words_for n k = get_or (n.parties ∷ n.assets ∷ n.fields ∷ n.values ∷ n.parameters ∷ n.states ∷ n.strings ∷ []) k []

unfoldable pub is_known_in : Names → List ℕ → Word → Bool
is_known_in n [] w = false
is_known_in n (k ∷ ks) w = is_among w (words_for n k) || is_known_in n ks w

-- what a word of a kind is
abbrev pub right_for : ℕ → Word → Bool
right_for k w = pick (eqb k kind.string) (is_string w) (is_name w)

module _ (s : List ℕ) where
  abbrev pub right_item : Item → Bool
  right_item (declares j x) = right_for j (word s x)
  right_item (mentions j x p) = right_for j (word s x)
  right_item (uses ks x) = true
  right_item (counts j p) = true
  right_item opens = true
  right_item (heads p q a f) = true
  right_item (closes p cs) = true

  -- ---- how the words known grow

  item_grows : (k : ℕ) (i : Item) (b : List Item) (w : Word) → stays k i ≡ true → is_among w (known s k b) ≡ true → is_among w (known s k (i ∷ b)) ≡ true
  unfolding known
  item_grows k (declares j x) b w t e = by_cases (λ (l : List Word). is_among w l ≡ true) (eqb j k) _ _ (λ _. among_listed k w (word s x) (known s k b) e) (λ _. e)
  item_grows k (mentions j x p) b w t e =
      by_cases (λ (l : List Word). is_among w l ≡ true) (eqb j k) _ _
      (λ _. by_cases (λ (l : List Word). is_among w l ≡ true) (is_among (word s x) (known s k b)) _ _ (λ _. e) (λ _. among_listed k w (word s x) (known s k b) e)) (λ _. e)
  item_grows k (uses ks x) b w t e = e
  item_grows k (counts j p) b w t e = e
  item_grows k opens b w t e = e
  item_grows k (heads p q a f) b w t e = by_cases (λ (l : List Word). is_among w l ≡ true) (is_one_of (kind.value ∷ kind.parameter ∷ []) k) _ _ (λ h. true_false (sym h ∙ not_true _ t)) (λ _. e)
  item_grows k (closes p cs) b w t e = e

  pub grows : (k : ℕ) (is b : List Item) (w : Word) → every (stays k) is ≡ true → is_among w (known s k b) ≡ true → is_among w (known s k (latest_first b is)) ≡ true
  unfolding latest_first every
  grows k [] b w t e = e
  grows k (i ∷ is) b w t e = grows k is (i ∷ b) w (both_right (stays k i) (every (stays k) is) t) (item_grows k i b w (both_left (stays k i) (every (stays k) is) t) e)

  pub known_few : (k : ℕ) (b : List Item) → length (known s k b) ≤ most k
  unfolding known
  known_few k [] = omega arith
  known_few k (declares j x ∷ b) = by_cases (λ (l : List Word). length l ≤ most k) (eqb j k) _ _ (λ _. listed_few k (word s x) (known s k b) (known_few k b)) (λ _. known_few k b)
  known_few k (mentions j x p ∷ b) =
      by_cases (λ (l : List Word). length l ≤ most k) (eqb j k) _ _
      (λ _. by_cases (λ (l : List Word). length l ≤ most k) (is_among (word s x) (known s k b)) _ _ (λ _. known_few k b) (λ _. listed_few k (word s x) (known s k b) (known_few k b))) (λ _. known_few k b)
  known_few k (uses ks x ∷ b) = known_few k b
  known_few k (counts j p ∷ b) = known_few k b
  known_few k (opens ∷ b) = known_few k b
  known_few k (heads p q a f ∷ b) = by_cases (λ (l : List Word). length l ≤ most k) (is_one_of (kind.value ∷ kind.parameter ∷ []) k) [] (known s k b) (λ _. omega arith) (λ _. known_few k b)
  known_few k (closes p cs ∷ b) = known_few k b

  right_listed : (k j : ℕ) (w : Word) (ws : List Word) → eqb j k ≡ true → right_for j w ≡ true → every (right_for k) ws ≡ true → every (right_for k) (listed k w ws) ≡ true
  unfolding listed every
  right_listed k j w ws q r e =
      by_cases (λ (l : List Word). every (right_for k) l ≡ true) (ltb (length ws) (most k)) _ _
      (λ _. every_append (right_for k) ws (w ∷ []) e (both_true _ _ (subst (λ (m : ℕ). right_for m w ≡ true) (eqb-true j k q) r) refl)) (λ _. e)

  -- the words known are right where the items are
  pub known_right : (k : ℕ) (b : List Item) → every right_item b ≡ true → every (right_for k) (known s k b) ≡ true
  unfolding known every
  known_right k [] r = refl
  known_right k (declares j x ∷ b) r =
      let e = known_right k b (both_right (right_for j (word s x)) (every right_item b) r) in
      by_cases (λ (l : List Word). every (right_for k) l ≡ true) (eqb j k) _ _ (λ q. right_listed k j (word s x) (known s k b) q (both_left (right_for j (word s x)) (every right_item b) r) e) (λ _. e)
  known_right k (mentions j x p ∷ b) r =
      let e = known_right k b (both_right (right_for j (word s x)) (every right_item b) r) in
      by_cases (λ (l : List Word). every (right_for k) l ≡ true) (eqb j k) _ _
      (λ q. by_cases (λ (l : List Word). every (right_for k) l ≡ true) (is_among (word s x) (known s k b)) _ _ (λ _. e) (λ _. right_listed k j (word s x) (known s k b) q (both_left (right_for j (word s x)) (every right_item b) r) e)) (λ _. e)
  known_right k (uses ks x ∷ b) r = known_right k b r
  known_right k (counts j p ∷ b) r = known_right k b r
  known_right k (opens ∷ b) r = known_right k b r
  known_right k (heads p q a f ∷ b) r = by_cases (λ (l : List Word). every (right_for k) l ≡ true) (is_one_of (kind.value ∷ kind.parameter ∷ []) k) _ _ (λ _. refl) (λ _. known_right k b r)
  known_right k (closes p cs ∷ b) r = known_right k b r

  -- plain items bring no parameter
  plain_item : (k : ℕ) (i : Item) (b : List Item) → k ≤ 4 → plain i ≡ true → known s k (i ∷ b) ≡ known s k b
  unfolding known
  plain_item k (declares j x) b h e = true_false (sym e)
  plain_item k (mentions j x p) b h e = pick_false _ _ _ (differ (eqb j k) refl)
    where
      differ : (t : Bool) → eqb j k ≡ t → t ≡ false
      differ true q = let z : 4 < j = ltb-true _ _ (both_left (ltb 4 j) (ltb j 7) e) in let y : j ≡ k = eqb-true _ _ q in absurd (omega arith)
      differ false q = refl
  plain_item k (uses ks x) b h e = refl
  plain_item k (counts j p) b h e = refl
  plain_item k opens b h e = refl
  plain_item k (heads p q a f) b h e = true_false (sym e)
  plain_item k (closes p cs) b h e = refl

  pub plain_known : (k : ℕ) (is b : List Item) → k ≤ 4 → every plain is ≡ true → known s k (latest_first b is) ≡ known s k b
  unfolding latest_first every
  plain_known k [] b h e = refl
  plain_known k (i ∷ is) b h e = plain_known k is (i ∷ b) h (both_right (plain i) (every plain is) e) ∙ plain_item k i b h (both_left (plain i) (every plain is) e)

  -- ---- what the uses of names meet

  -- the words known after items are among these
  abbrev pub Knows : List Item → Names → Type 0
  Knows b n = (k : ℕ) → k < 7 → (w : Word) → is_among w (known s k b) ≡ true → is_among w (words_for n k) ≡ true

  abbrev pub met : Names → Item → Bool
  met n (declares j x) = true
  met n (mentions j x p) = is_among (word s x) (words_for n j)
  met n (uses ks x) = is_known_in n ks (word s x)
  met n (counts j p) = true
  met n opens = true
  met n (heads p q a f) = true
  met n (closes p cs) = true

  known_in : (n : Names) (b : List Item) (w : Word) → Knows b n → (ks : List ℕ) → every (λ k. ltb k 7) ks ≡ true → is_known s ks b w ≡ true → is_known_in n ks w ≡ true
  unfolding is_known is_known_in every
  known_in n b w r [] l e = e
  known_in n b w r (k ∷ ks) l e =
      either_true (is_among w (known s k b)) (is_known s ks b w) e
      (λ h. first_true (is_known_in n ks w) (r k (ltb-true _ _ (both_left (ltb k 7) (every (λ k. ltb k 7) ks) l)) w h))
      (λ h. second_true (is_among w (words_for n k)) (known_in n b w r ks (both_right (ltb k 7) (every (λ k. ltb k 7) ks) l) h))

  -- a mentioned word is known
  pub mention_known : (k : ℕ) (x : Span) (p : ℕ) (b : List Item) → judge s b (mentions k x p) ≡ fine → is_among (word s x) (known s k (mentions k x p ∷ b)) ≡ true
  unfolding known judge
  mention_known k x p b e =
      by_cases (λ (l : List Word). is_among (word s x) l ≡ true) (eqb k k) _ _
      (λ _. by_cases (λ (l : List Word). is_among (word s x) l ≡ true) (is_among (word s x) (known s k b)) _ _ (λ h. h)
      (λ h. either_true (is_among (word s x) (known s k b)) (ltb (length (known s k b)) (most k)) (test_holds _ 11 p e)
      (λ g. true_false (sym g ∙ h))
      (λ g. subst (λ (l : List Word). is_among (word s x) l ≡ true) (sym (listed_true k (word s x) (known s k b) g)) (lt-ltb _ _ (number_last (word s x) (known s k b))))))
      (λ h. true_false (sym (eq-eqb k k refl) ∙ h))

  met_item : (n : Names) (i : Item) (b : List Item) → plain i ≡ true → judge s b i ≡ fine → Knows (i ∷ b) n → met n i ≡ true
  unfolding known judge
  met_item n (declares j x) b p c r = refl
  met_item n (mentions j x q) b p c r = r j (ltb-true _ _ (both_right (ltb 4 j) (ltb j 7) p)) (word s x) (mention_known j x q b c)
  met_item n (uses ks x) b p c r = known_in n b (word s x) r ks p (test_holds _ 13 x.start c)
  met_item n (counts j q) b p c r = refl
  met_item n opens b p c r = refl
  met_item n (heads q y a f) b p c r = refl
  met_item n (closes q cs) b p c r = refl

  pub met_all : (n : Names) (is b : List Item) → every plain is ≡ true → Clean s b is → Knows (latest_first b is) n → every (met n) is ≡ true
  unfolding latest_first every
  met_all n [] b p c r = refl
  met_all n (i ∷ is) b p c r =
      both_true _ _
      (met_item n i b (both_left (plain i) (every plain is) p) c.0 (λ k h w e. r k h w (grows k is (i ∷ b) w (plain_all k is (both_right (plain i) (every plain is) p)) e)))
      (met_all n is (i ∷ b) (both_right (plain i) (every plain is) p) c.1 r)
