-- The names known at a place against the names of the whole text. Assumes nothing.
use mathlib.Core.Path.{◌≡◌, refl, sym, ap, subst, ◌∙◌}
use mathlib.Core.Bool.{Bool, true, false, ◌||◌}
use mathlib.Core.List.{List, [], ◌∷◌, ◌++◌, append_assoc, append-nil}
use Prim.Native.Nat.{ℕ, zero, suc, ◌<◌, ◌≤◌}
use native.Mathlib.Omega.{arith}
use lib.ListN.{length}
use lib.Dec.{eqb, ltb}
use borrow.Author.Tests.{ltb-true, ltb-false, lt-ltb, le-ltb, eqb-true, eqb-false}
use Rattle.laws.specs.Choice.{pick}
use Rattle.laws.specs.Bytes.{same_bytes}
use Rattle.laws.proofs.Choice.{by_cases, true_false, pick_false}
use Rattle.laws.proofs.Bytes.{same_equal}
use Rattle.contract.specs.Tree.{Word}
use Rattle.laws.proofs.Truths.{both_left, both_right, both_true, not_true}
use Rattle.laws.specs.Lists.{every}
use Rattle.reading.specs.Syntax.{Span}
use Rattle.reading.specs.Grammar.{is_one_of}
use Rattle.reading.specs.Items.{Item, declares, mentions, uses, counts, opens, heads, closes, Site, in_function, in_handler}
use Rattle.reading.specs.Items as kind
use Rattle.reading.specs.Rules.{most, number_of, is_among, listed, fine, or_breaks, word, known, is_known, judge}
use Rattle.reading.specs.Resolve.{latest_first, Names, within}
use Rattle.contract_laws.proofs.Inversions.{by_test}
use Rattle.accepted.proofs.Judged.{Clean, test_holds, lesser_right}
use Rattle.accepted.proofs.Late.{late}
use Rattle.accepted.proofs.Known.{plain, stays, mention_known, plain_known, plain_all}
use Rattle.accepted.proofs.CodeInScope.{at_site}

-- ---- words with more after them

pub record Prefix (ws vs : List Word) : Type 0 where
  pub rest : List Word
  pub is : vs ≡ ws ++ rest

pub prefix_same : (ws : List Word) → Prefix ws ws
prefix_same ws = record { rest = []; is = sym (append-nil ws) }

pub prefix_more : {ws vs us : List Word} → Prefix ws vs → Prefix vs us → Prefix ws us
prefix_more {ws} {vs} {us} a b =
    record { rest = a.rest ++ b.rest; is = b.is ∙ ap (λ (l : List Word). l ++ b.rest) a.is ∙ append_assoc ws a.rest b.rest }

number_first : (w : Word) (ws vs : List Word) → number_of w ws < length ws → number_of w (ws ++ vs) ≡ number_of w ws
unfolding number_of pick
number_first w [] vs h = absurd (omega arith)
number_first w (x ∷ ws) vs h = go (same_bytes w x) h (number_first w ws vs)
  where
    go : (b : Bool) → pick b 0 (suc (number_of w ws)) < suc (length ws) → (number_of w ws < length ws → number_of w (ws ++ vs) ≡ number_of w ws) → pick b 0 (suc (number_of w (ws ++ vs))) ≡ pick b 0 (suc (number_of w ws))
    go true g r = refl
    go false g r = ap suc (r (omega arith))

-- a word has the same number with more words after
pub number_prefix : (w : Word) {ws vs : List Word} → is_among w ws ≡ true → Prefix ws vs → number_of w ws ≡ number_of w vs
number_prefix w {ws} {vs} e a = sym (ap (number_of w) a.is ∙ number_first w ws a.rest (ltb-true _ _ e))

prefix_listed : (k : ℕ) (v : Word) (ws : List Word) → Prefix ws (listed k v ws)
unfolding listed
prefix_listed k v ws = by_cases (Prefix ws) (ltb (length ws) (most k)) _ _ (λ _. record { rest = v ∷ []; is = refl }) (λ _. prefix_same ws)

-- a word among these with one more is among them, or that one
among_one : (w v : Word) (ws : List Word) → is_among w (ws ++ (v ∷ [])) ≡ true → is_among w ws ≡ false → same_bytes w v ≡ true
unfolding number_of pick
among_one w v ws e n = go ws (ltb-true _ _ e) n
  where
    step : (b : Bool) (x : Word) (us : List Word) → (number_of w (us ++ (v ∷ [])) < length (us ++ (v ∷ [])) → is_among w us ≡ false → same_bytes w v ≡ true)
        → pick b 0 (suc (number_of w (us ++ (v ∷ [])))) < suc (length (us ++ (v ∷ []))) → ltb (pick b 0 (suc (number_of w us))) (suc (length us)) ≡ false → same_bytes w v ≡ true
    step true x us r h q = true_false (sym (lt-ltb 0 (suc (length us)) (omega arith)) ∙ q)
    step false x us r h q = let g : suc (length us) ≤ suc (number_of w us) = ltb-false _ _ q in r (omega arith) (le-ltb (number_of w us) (length us) (omega arith))

    last : (b : Bool) → pick b 0 1 < 1 → b ≡ true
    last true h = refl
    last false h = absurd (omega arith)

    go : (us : List Word) → number_of w (us ++ (v ∷ [])) < length (us ++ (v ∷ [])) → is_among w us ≡ false → same_bytes w v ≡ true
    go [] h q = last (same_bytes w v) h
    go (x ∷ us) h q = step (same_bytes w x) x us (go us) h q

among_listed : (k : ℕ) (w v : Word) (ws : List Word) → is_among w (listed k v ws) ≡ true → is_among w ws ≡ false → w ≡ v
unfolding listed
among_listed k w v ws e n =
    by_cases (λ (l : List Word). is_among w l ≡ true → w ≡ v) (ltb (length ws) (most k)) _ _
    (λ _ h. same_equal w v (among_one w v ws h n)) (λ _ h. true_false (sym h ∙ n)) e

-- the kinds of declared names, one by one
five : (P : ℕ → Type 0) → P 0 → P 1 → P 2 → P 3 → P 4 → (k : ℕ) → k < 5 → P k
five P a b c d e zero h = a
five P a b c d e (suc zero) h = b
five P a b c d e (suc (suc zero)) h = c
five P a b c d e (suc (suc (suc zero))) h = d
five P a b c d e (suc (suc (suc (suc zero)))) h = e
five P a b c d e (suc (suc (suc (suc (suc k))))) h = absurd (omega arith)

or_none : (a b : Bool) → (a || b) ≡ false → (a ≡ false) × (b ≡ false)
or_none true b e = true_false e
or_none false b e = (refl, e)

none_among : (w : Word) → is_among w [] ≡ false
unfolding number_of
none_among w = refl

-- items that mention no declared name
abbrev pub settled : Item → Bool
settled (declares j x) = true
settled (mentions j x p) = ltb 4 j
settled (uses ks x) = true
settled (counts j p) = true
settled opens = true
settled (heads p q a f) = true
settled (closes p cs) = true

late_settled_one : (i : Item) → late i ≡ true → settled i ≡ true
late_settled_one (declares j x) e = refl
late_settled_one (mentions j x p) e = e
late_settled_one (uses ks x) e = refl
late_settled_one (counts j p) e = refl
late_settled_one opens e = refl
late_settled_one (heads p q a f) e = refl
late_settled_one (closes p cs) e = refl

pub late_settled : (is : List Item) → every late is ≡ true → every settled is ≡ true
unfolding every
late_settled [] e = refl
late_settled (i ∷ is) e = both_true _ _ (late_settled_one i (both_left (late i) (every late is) e)) (late_settled is (both_right (late i) (every late is) e))

module _ (s : List ℕ) where
  -- ---- known words grow at the end

  prefix_item : (k : ℕ) (i : Item) (b : List Item) → stays k i ≡ true → Prefix (known s k b) (known s k (i ∷ b))
  unfolding known
  prefix_item k (declares j x) b t = by_cases (Prefix (known s k b)) (eqb j k) _ _ (λ _. prefix_listed k (word s x) (known s k b)) (λ _. prefix_same (known s k b))
  prefix_item k (mentions j x p) b t =
      by_cases (Prefix (known s k b)) (eqb j k) _ _
      (λ _. by_cases (Prefix (known s k b)) (is_among (word s x) (known s k b)) _ _ (λ _. prefix_same (known s k b)) (λ _. prefix_listed k (word s x) (known s k b)))
      (λ _. prefix_same (known s k b))
  prefix_item k (uses ks x) b t = prefix_same (known s k b)
  prefix_item k (counts j p) b t = prefix_same (known s k b)
  prefix_item k opens b t = prefix_same (known s k b)
  prefix_item k (heads p q a f) b t = by_cases (Prefix (known s k b)) (is_one_of (kind.value ∷ kind.parameter ∷ []) k) _ _ (λ h. true_false (sym h ∙ not_true _ t)) (λ _. prefix_same (known s k b))
  prefix_item k (closes p cs) b t = prefix_same (known s k b)

  pub prefix_items : (k : ℕ) (is b : List Item) → every (stays k) is ≡ true → Prefix (known s k b) (known s k (latest_first b is))
  unfolding latest_first every
  prefix_items k [] b t = prefix_same (known s k b)
  prefix_items k (i ∷ is) b t = prefix_more (prefix_item k i b (both_left (stays k i) (every (stays k) is) t)) (prefix_items k is (i ∷ b) (both_right (stays k i) (every (stays k) is) t))

  -- ---- declared names differ

  pub record Differ (b : List Item) : Type 0 where
    pub apart : (j k : ℕ) → j < 5 → k < 5 → eqb j k ≡ false → (w : Word) → is_among w (known s j b) ≡ true → is_among w (known s k b) ≡ false

  new_name : (b : List Item) (w : Word) → is_known s (0 ∷ 1 ∷ 2 ∷ 3 ∷ 4 ∷ []) b w ≡ false → (k : ℕ) → k < 5 → is_among w (known s k b) ≡ false
  unfolding is_known
  new_name b w e =
      let e1 = or_none (is_among w (known s 0 b)) _ e in
      let e2 = or_none (is_among w (known s 1 b)) _ e1.1 in
      let e3 = or_none (is_among w (known s 2 b)) _ e2.1 in
      let e4 = or_none (is_among w (known s 3 b)) _ e3.1 in
      let e5 = or_none (is_among w (known s 4 b)) _ e4.1 in
      five (λ k. is_among w (known s k b) ≡ false) e1.0 e2.0 e3.0 e4.0 e5.0

  module _ (i : ℕ) (x : Span) (b : List Item) (new : (k : ℕ) → k < 5 → is_among (word s x) (known s k b) ≡ false) (d : Differ b) where
    -- a word known after a declaration was known before it, or is the declared one
    was : (k : ℕ) (w : Word) → is_among w (known s k (declares i x ∷ b)) ≡ true → is_among w (known s k b) ≡ false → w ≡ word s x
    unfolding known
    was k w e n = by_cases (λ (l : List Word). is_among w l ≡ true → w ≡ word s x) (eqb i k) _ _ (λ _ h. among_listed k w (word s x) (known s k b) h n) (λ _ h. true_false (sym h ∙ n)) e

    -- one of another kind was known before it
    other : (k : ℕ) (w : Word) → eqb i k ≡ false → is_among w (known s k (declares i x ∷ b)) ≡ is_among w (known s k b)
    unfolding known
    other k w e = ap (is_among w) (pick_false _ _ _ e)

    declared_apart : (j k : ℕ) → j < 5 → k < 5 → eqb j k ≡ false → (w : Word) → is_among w (known s j (declares i x ∷ b)) ≡ true → is_among w (known s k (declares i x ∷ b)) ≡ false
    declared_apart j k hj hk n w e =
        by_test (eqb i k)
        (λ q. let ik : i ≡ k = eqb-true i k q in
        let ij : eqb i j ≡ false = subst (λ (m : ℕ). eqb m j ≡ false) (sym ik) (swapped j k n) in
        let ej : is_among w (known s j b) ≡ true = sym (other j w ij) ∙ e in
        by_test (is_among w (known s k (declares i x ∷ b)))
        (λ t. let same : w ≡ word s x = was k w t (d.apart j k hj hk n w ej) in
        true_false (sym ej ∙ subst (λ (v : Word). is_among v (known s j b) ≡ false) (sym same) (new j hj)))
        (λ f. f))
        (λ q. other k w q ∙ by_test (is_among w (known s j b))
        (λ t. d.apart j k hj hk n w t)
        (λ f. let same : w ≡ word s x = was j w e f in subst (λ (v : Word). is_among v (known s k b) ≡ false) (sym same) (new k hk)))
      where
        swapped : (j k : ℕ) → eqb j k ≡ false → eqb k j ≡ false
        swapped j k n = by_test (eqb k j) (λ t. absurd (eqb-false j k n (sym (eqb-true k j t)))) (λ f. f)

  differ_item : (i : Item) (b : List Item) → settled i ≡ true → judge s b i ≡ fine → Differ b → Differ (i ∷ b)
  unfolding known judge
  differ_item (declares i x) b t c d =
      record { apart = declared_apart i x b (new_name b (word s x) (not_true _ (test_holds _ 12 x.start (lesser_right (or_breaks (ltb (length (known s i b)) (most i)) 11 x.start) _ c)))) d }
  differ_item (mentions i x p) b t c d =
      record { apart = λ j k hj hk n w e. ap (is_among w) (same k hk) ∙ d.apart j k hj hk n w (sym (ap (is_among w) (same j hj)) ∙ e) }
    where
      differs : (k : ℕ) → k < 5 → (u : Bool) → eqb i k ≡ u → u ≡ false
      differs k h true q = let z : 4 < i = ltb-true _ _ t in let y : i ≡ k = eqb-true _ _ q in absurd (omega arith)
      differs k h false q = refl

      same : (k : ℕ) → k < 5 → known s k (mentions i x p ∷ b) ≡ known s k b
      same k h = pick_false _ _ _ (differs k h (eqb i k) refl)
  differ_item (uses ks x) b t c d = record { apart = d.apart }
  differ_item (counts j p) b t c d = record { apart = d.apart }
  differ_item opens b t c d = record { apart = d.apart }
  differ_item (heads p q a f) b t c d =
      record {
        apart = λ j k hj hk n w.
            by_cases (λ (l : List Word). is_among w l ≡ true → is_among w (known s k (heads p q a f ∷ b)) ≡ false) (is_one_of (kind.value ∷ kind.parameter ∷ []) j) _ _
            (λ _ h. true_false (sym h ∙ none_among w))
            (λ _ h. by_cases (λ (l : List Word). is_among w l ≡ false) (is_one_of (kind.value ∷ kind.parameter ∷ []) k) _ _ (λ _. none_among w) (λ _. d.apart j k hj hk n w h));
      }
  differ_item (closes p cs) b t c d = record { apart = d.apart }

  pub differ_items : (is b : List Item) → every settled is ≡ true → Clean s b is → Differ b → Differ (latest_first b is)
  unfolding latest_first every
  differ_items [] b t c d = d
  differ_items (i ∷ is) b t c d = differ_items is (i ∷ b) (both_right (settled i) (every settled is) t) c.1 (differ_item i b (both_left (settled i) (every settled is) t) c.0 d)

  pub differ_none : Differ []
  unfolding known
  differ_none = record { apart = λ j k hj hk n w e. none_among w }

  -- ---- the names of the text, at a place

  pub record Agree (c : Site) (n : Names) (b : List Item) : Type 0 where
    pub parties : known s kind.party b ≡ n.parties
    pub assets : known s kind.asset b ≡ n.assets
    pub fields : known s kind.field b ≡ n.fields
    pub values : at_site c (known s kind.value b) ≡ n.values
    pub parameters : at_site c (known s kind.parameter b) ≡ n.parameters
    pub states : Prefix (known s kind.state b) n.states
    pub strings : Prefix (known s kind.string b) n.strings
    pub differ : Differ b

  -- what holds after plain items holds before them
  pub agree_back : (c : Site) (n : Names) (b is : List Item) → every plain is ≡ true → Agree c n (latest_first b is) → Agree c n b
  agree_back c n b is p a =
      record {
        parties = sym (plain_known s 0 is b (omega arith) p) ∙ a.parties;
        assets = sym (plain_known s 1 is b (omega arith) p) ∙ a.assets;
        fields = sym (plain_known s 2 is b (omega arith) p) ∙ a.fields;
        values = ap (at_site c) (sym (plain_known s 3 is b (omega arith) p)) ∙ a.values;
        parameters = ap (at_site c) (sym (plain_known s 4 is b (omega arith) p)) ∙ a.parameters;
        states = prefix_more (prefix_items 5 is b (plain_all 5 is p)) a.states;
        strings = prefix_more (prefix_items 6 is b (plain_all 6 is p)) a.strings;
        differ = record {
          apart = λ j k hj hk n w e.
              ap (is_among w) (sym (plain_known s k is b (below k hk) p))
              ∙ a.differ.apart j k hj hk n w (ap (is_among w) (plain_known s j is b (below j hj) p) ∙ e);
        };
      }
    where
      below : (k : ℕ) → k < 5 → k ≤ 4
      below k h = omega arith

  -- a handler names no parameter
  pub agree_handler : (n : Names) (b : List Item) → Agree in_function n b → Agree in_handler (within n [] []) b
  agree_handler n b a =
      record {
        parties = a.parties;
        assets = a.assets;
        fields = a.fields;
        values = refl;
        parameters = refl;
        states = a.states;
        strings = a.strings;
        differ = a.differ;
      }

  -- the number of a state or string that is mentioned here
  pub number_mentioned : (k : ℕ) (x : Span) (o : ℕ) (b : List Item) (vs : List Word) → judge s b (mentions k x o) ≡ fine → Prefix (known s k (mentions k x o ∷ b)) vs
      → number_of (word s x) (known s k (mentions k x o ∷ b)) ≡ number_of (word s x) vs
  number_mentioned k x o b vs e a = number_prefix (word s x) (mention_known s k x o b e) a
