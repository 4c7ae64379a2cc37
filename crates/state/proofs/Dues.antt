-- What the first due event is: due, first in the text, and of the same event the oldest; and the search that finds it. Assumes nothing.
use mathlib.Core.Path.{◌≡◌, refl, sym, ap, subst, ◌∙◌}
use mathlib.Core.Bool.{Bool, true, false, not, ◌&&◌}
use mathlib.Core.List.{List}
use Prim.Native.Nat.{ℕ, zero, suc, ◌+◌, ◌<◌, ◌≤◌}
use native.Mathlib.Numerals.{add-one}
use native.Mathlib.Omega.{arith}
use lib.ListN.{length, get_or, drop, drop_of_length-le}
use lib.Seq.{drop-cons}
use lib.Dec.{eqb, ltb}
use borrow.Author.Tests.{ltb-true, eqb-true, eqb-false, lt-ltb, eq-eqb, ne_eqb}
use Rattle.std.proofs.lemmas.List.{get_or_default}
use Rattle.laws.specs.Choice.{pick}
use Rattle.laws.proofs.Choice.{pick_true, pick_false, by_cases, true_false}
use Rattle.laws.proofs.Truths.{both_left, both_right, both_of, both_true, not_true, not_so}
use Rattle.laws.proofs.Members.{every_at, every_of}
use Rattle.contract.specs.Tree.{Contract}
use Rattle.state.specs.States.{blank, live, is_due, stands_before, is_foremost, first_due, due_in, pending_at, FirstToFire}
use Rattle.state.specs.Private.{takes_over}
use Rattle.state.specs.declared.State.{State}
use Rattle.state.specs.declared.Pending.{Pending}
use Rattle.std.specs.Prelude.{Option, Some, None, option_map}
use Rattle.state.proofs.First.{searched, one_turn, turns_end}

-- ---- the text's order

module _ (p q : Pending) where
  pub function_before : p.function < q.function → stands_before p q ≡ true
  unfolding stands_before
  function_before h = pick_false _ _ _ (ne_eqb p.function q.function (λ e. omega arith)) ∙ lt-ltb p.function q.function h

  pub event_before : p.function ≡ q.function → p.event < q.event → stands_before p q ≡ true
  unfolding stands_before
  event_before e h = pick_true _ _ _ (eq-eqb p.function q.function e) ∙ lt-ltb p.event q.event h

  pub before_by : {X : Type 0} → stands_before p q ≡ true → (p.function < q.function → X) → (p.function ≡ q.function → p.event < q.event → X) → X
  unfolding stands_before
  before_by {X} e f g = go (eqb p.function q.function) refl e
    where
      go : (b : Bool) → eqb p.function q.function ≡ b → pick b (ltb p.event q.event) (ltb p.function q.function) ≡ true → X
      go true h k = g (eqb-true p.function q.function h) (ltb-true p.event q.event (sym (pick_true true _ _ refl) ∙ k))
      go false h k = f (ltb-true p.function q.function (sym (pick_false false _ _ refl) ∙ k))

-- no event stands before itself
before_itself : (p : Pending) → stands_before p p ≡ true → ⊥
before_itself p b = before_by p p b (λ f. omega arith) (λ f g. omega arith)

before_trans : (p q r : Pending) → stands_before p q ≡ true → stands_before q r ≡ true → stands_before p r ≡ true
before_trans p q r a b =
    before_by p q a
    (λ f. before_by q r b (λ g. function_before p r (omega arith)) (λ g h. function_before p r (omega arith)))
    (λ e f. before_by q r b (λ g. function_before p r (omega arith)) (λ g h. event_before p r (omega arith) (omega arith)))

-- where p and q are the same event of the text, p stands before what q stands before, and what does not stand before q does not stand before p
module _ (p q : Pending) (e : p.function ≡ q.function) (h : p.event ≡ q.event) where
  same_before : (r : Pending) → stands_before q r ≡ true → stands_before p r ≡ true
  same_before r b = before_by q r b (λ f. function_before p r (omega arith)) (λ f g. event_before p r (omega arith) (omega arith))

  pub same_clear : (r : Pending) → stands_before r q ≡ false → stands_before r p ≡ false
  same_clear r n =
      not_so _ λ b. true_false (sym (before_by r p b (λ f. function_before r q (omega arith)) (λ f g. event_before r q (omega arith) (omega arith))) ∙ n)

-- two events neither of which stands before the other are the same event of the text
pub neither_before : (p q : Pending) → stands_before p q ≡ false → stands_before q p ≡ false → (p.function ≡ q.function) × (p.event ≡ q.event)
neither_before p q a b =
    let x : (p.function < q.function → ⊥) = λ h. true_false (sym (function_before p q h) ∙ a) in
    let y : (q.function < p.function → ⊥) = λ h. true_false (sym (function_before q p h) ∙ b) in
    let e : p.function ≡ q.function = omega arith in
    let u : (p.event < q.event → ⊥) = λ h. true_false (sym (event_before p q e h) ∙ a) in
    let v : (q.event < p.event → ⊥) = λ h. true_false (sym (event_before q p (sym e) h) ∙ b) in
    (e, omega arith)

-- what holds of all before i, and of i
up_to : {P : ℕ → Type 0} (i : ℕ) → ((j : ℕ) → j < i → P j) → P i → (j : ℕ) → j < suc i → P j
up_to {P} i f p j h = go (eqb j i) refl
  where
    go : (b : Bool) → eqb j i ≡ b → P j
    go true e = subst P (sym (eqb-true j i e)) p
    go false e = let ne = eqb-false j i e in f j (omega arith)

-- ---- the search

module _ (test : Pending → Bool) (l : List Pending) where
  -- the event at a place
  abbrev event : ℕ → Pending
  event k = get_or l k blank

  -- of the first i events that pass the test, the one at place k stands first in the text, and is the oldest of those that are the same
  record FirstOf (i k : ℕ) : Type 0 where
    below : k < i
    passes : test (event k) ≡ true
    none_before : (j : ℕ) → j < i → test (event j) ≡ true → stands_before (event j) (event k) ≡ false
    none_older : (j : ℕ) → j < k → test (event j) ≡ true → (event j).function ≡ (event k).function → (event j).event ≡ (event k).event → ⊥

  -- what has been found among the first i: an event with its place
  abbrev Says : ℕ → Option (ℕ × Pending) → Type 0
  Says i (Some (k, p)) = FirstOf i k × (p ≡ event k)
  Says i None = (j : ℕ) → j < i → test (event j) ≡ false

  -- the event at place i takes the place of what was found
  taken : (i : ℕ) (d : Option (ℕ × Pending)) → Says i d → test (event i) ≡ true → takes_over d (event i) ≡ true → FirstOf (suc i) i
  taken i (Some (k, p)) (f, q) e b =
      let c : stands_before (event i) (event k) ≡ true = subst (λ (r : Pending). stands_before (event i) r ≡ true) q b in
      record {
        below = omega arith;
        passes = e;
        none_before =
            up_to i
            (λ j h t. not_so _ λ x. true_false (sym (before_trans (event j) (event i) (event k) x c) ∙ f.none_before j h t))
            (λ t. not_so _ (before_itself (event i)));
        none_older = λ j h t u v. true_false (sym (same_before (event j) (event i) u v (event k) c) ∙ f.none_before j h t);
      }
  taken i None f e b =
      record {
        below = omega arith;
        passes = e;
        none_before = up_to i (λ j h t. true_false (sym t ∙ f j h)) (λ t. not_so _ (before_itself (event i)));
        none_older = λ j h t u v. true_false (sym t ∙ f j h);
      }

  -- it does not, or fails the test
  left : (i : ℕ) (d : Option (ℕ × Pending)) → Says i d → (test (event i) && takes_over d (event i)) ≡ false → Says (suc i) d
  left i (Some (k, p)) (f, q) b = (
    record {
      below = omega (arith, f.below);
      passes = f.passes;
      none_before =
          up_to i f.none_before
          (λ t. not_so _ λ x. true_false (sym (both_true _ _ t (subst (λ (r : Pending). stands_before (event i) r ≡ true) (sym q) x)) ∙ b));
      none_older = f.none_older;
    },
    q,
  )
  left i None f b = up_to i f (not_so _ λ x. true_false (sym (both_true _ _ x refl) ∙ b))

  -- from place i on, n places before the end
  search_says : (n i : ℕ) → i + n ≡ length l → (d : Option (ℕ × Pending)) → Says i d → Says (length l) (searched test d i (drop i l))
  search_says zero i e d f = subst (Says (length l)) (sym (turns_end test l d i (omega arith))) (subst (λ (m : ℕ). Says m d) (omega arith) f)
  search_says (suc n) i e d f =
      let h : i < length l = omega arith in
      subst (Says (length l)) (sym (one_turn test l d i (event i) h (get_or_default l i blank (event i) h)))
      (rw (add-one)
      (search_says n (suc i) (omega arith) (pick (test (event i) && takes_over d (event i)) (Some (i, event i)) d)
      (by_cases (Says (suc i)) (test (event i) && takes_over d (event i)) (Some (i, event i)) d
      (λ b. let x = both_of (test (event i)) (takes_over d (event i)) b in (taken i d f x.0 x.1, refl))
      (left i d f))))

-- ---- the first that is foremost

module _ (c : Contract) (s : State) where
  -- what the definition says, by places
  abbrev Tells : Option ℕ → Type 0
  Tells (Some k) = (k < length (live s)) × (is_foremost c s (pending_at s k) ≡ true) × ((j : ℕ) → j < k → is_foremost c s (pending_at s j) ≡ false)
  Tells None = (j : ℕ) → j < length (live s) → is_foremost c s (pending_at s j) ≡ false

  from_place : (n i : ℕ) → i + n ≡ length (live s) → ((j : ℕ) → j < i → is_foremost c s (pending_at s j) ≡ false) → Tells (first_due c s i (drop i (live s)))
  unfolding first_due
  from_place zero i e f =
      let b : length (live s) ≤ i = omega arith in
      subst Tells (sym (ap (first_due c s i) (drop_of_length-le (live s) b))) (λ j h. f j (omega arith))
  from_place (suc n) i e f =
      subst Tells (sym (ap (first_due c s i) (drop-cons (live s) i blank (omega arith))))
      (by_cases Tells (is_foremost c s (pending_at s i)) _ _ (λ t. (omega arith, t, f)) (λ t. from_place n (suc i) (omega arith) (up_to i f t)))

  due_tells : Tells (due_in c s)
  unfolding due_in
  due_tells = from_place (length (live s)) 0 (omega arith) (λ j h. absurd (omega arith))

  -- foremost, by places
  none_behind : (p : Pending) → is_foremost c s p ≡ true → (j : ℕ) → j < length (live s) → is_due c s (pending_at s j) ≡ true → stands_before (pending_at s j) p ≡ false
  unfolding is_foremost
  none_behind p e j h t =
      let x = every_at (λ r. not (is_due c s r && stands_before r p)) (live s) (both_right (is_due c s p) _ e) j h blank in
      not_so _ λ b. true_false (sym (both_true _ _ t b) ∙ not_true (is_due c s (pending_at s j) && stands_before (pending_at s j) p) x)

  is_foremost_lem : (p : Pending) → is_due c s p ≡ true → ((j : ℕ) → j < length (live s) → is_due c s (pending_at s j) ≡ true → stands_before (pending_at s j) p ≡ false)
      → is_foremost c s p ≡ true
  unfolding is_foremost
  is_foremost_lem p e f =
      both_true (is_due c s p) _ e
      (every_of (λ r. not (is_due c s r && stands_before r p)) (live s) blank
      (λ j h. ap not (not_so (is_due c s (pending_at s j) && stands_before (pending_at s j) p) λ b. let x = both_of _ _ b in true_false (sym x.1 ∙ f j h x.0))))

  -- document 02's words of the event that is found
  pub first_to_fire : (k : ℕ) → due_in c s ≡ Some k → FirstToFire c s k
  unfolding is_foremost
  first_to_fire k e =
      let f : Tells (Some k) = subst Tells e due_tells in
      record {
        is_pending = f.0;
        is-due = both_left (is_due c s (pending_at s k)) _ f.1;
        none_before = none_behind (pending_at s k) f.1;
        none_older = λ j h t u v.
            true_false
            (sym (is_foremost_lem (pending_at s j) t λ i l d. same_clear (pending_at s j) (pending_at s k) u v (pending_at s i) (none_behind (pending_at s k) f.1 i l d))
            ∙ f.2 j h);
      }

  not_later : {k m : ℕ} → FirstToFire c s k → FirstToFire c s m → k < m → ⊥
  not_later {k} {m} f g h =
      let x = neither_before (pending_at s k) (pending_at s m) (g.none_before k f.is_pending f.is-due) (f.none_before m g.is_pending g.is-due) in
      g.none_older k h f.is-due x.0 x.1

  one_place : {k m : ℕ} → FirstToFire c s k → FirstToFire c s m → k ≡ m
  one_place {k} {m} f g =
      let x : (k < m → ⊥) = not_later f g in
      let y : (m < k → ⊥) = not_later g f in
      omega arith

  abbrev search : Option (ℕ × Pending)
  search = searched (is_due c s) None 0 (live s)

  search_told : Says (is_due c s) (live s) (length (live s)) search
  search_told = search_says (is_due c s) (live s) (length (live s)) 0 (omega arith) None (λ j h. absurd (omega arith))

  of_search : {k : ℕ} → FirstOf (is_due c s) (live s) (length (live s)) k → FirstToFire c s k
  of_search f = record { is_pending = f.below; is-due = f.passes; none_before = f.none_before; none_older = f.none_older }

  -- none is found only if none is due: else the search finds one, and it is foremost
  pub none_to_fire : due_in c s ≡ None → (j : ℕ) → j < length (live s) → is_due c s (pending_at s j) ≡ false
  none_to_fire e = go search search_told
    where
      go : (d : Option (ℕ × Pending)) → Says (is_due c s) (live s) (length (live s)) d → (j : ℕ) → j < length (live s) → is_due c s (pending_at s j) ≡ false
      go (Some (k, p)) (f, q) j h = true_false (sym (is_foremost_lem (pending_at s k) f.passes f.none_before) ∙ subst Tells e due_tells k f.below)
      go None f j h = f j h

  -- no other place is the one
  pub one_to_fire : {k : ℕ} → FirstToFire c s k → due_in c s ≡ Some k
  one_to_fire {k} f = go (due_in c s) refl
    where
      go : (d : Option ℕ) → due_in c s ≡ d → d ≡ Some k
      go (Some m) e = ap Some (one_place (first_to_fire m e) f)
      go None e = true_false (sym f.is-due ∙ none_to_fire e k f.is_pending)

  -- where none is due, none is found
  pub due_none : ((j : ℕ) → j < length (live s) → is_due c s (pending_at s j) ≡ false) → due_in c s ≡ None
  due_none f = go (due_in c s) refl
    where
      go : (d : Option ℕ) → due_in c s ≡ d → d ≡ None
      go (Some m) e = let x = first_to_fire m e in true_false (sym x.is-due ∙ f m x.is_pending)
      go None e = refl

  -- the search finds it
  pub search_finds : option_map (λ x. x.0) search ≡ due_in c s
  search_finds = go search search_told
    where
      go : (d : Option (ℕ × Pending)) → Says (is_due c s) (live s) (length (live s)) d → option_map (λ x. x.0) d ≡ due_in c s
      go (Some (k, p)) (f, q) = sym (one_to_fire (of_search f))
      go None f = sym (due_none f)
