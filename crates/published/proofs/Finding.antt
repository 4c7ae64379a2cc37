-- The first due event, and the first function that is called, as the machine finds them. Assumes nothing.
use mathlib.Core.Path.{◌≡◌, refl, sym, ap, subst, ◌∙◌}
use mathlib.Core.Bool.{Bool, true, false, ◌&&◌}
use mathlib.Core.List.{List, [], ◌∷◌}
use Prim.Native.Nat.{ℕ, zero, suc, ◌+◌, ◌<◌}
use native.Mathlib.Omega.{arith}
use lib.ListN.{length, get_or}
use lib.Dec.{eqb}
use borrow.Author.Tests.{eqb-true, eq-eqb}
use Rattle.laws.specs.Choice.{pick}
use Rattle.laws.specs.Bytes.{same_bytes}
use Rattle.laws.proofs.Choice.{pick_true, pick_false, true_false}
use Rattle.laws.proofs.Bytes.{same_refl, same_equal}
use Rattle.contract.specs.Tree.{Function, Contract}
use Rattle.laws.proofs.Truths.{both_left, both_right, both_true, not_so}
use Rattle.state.specs.declared.State.{State}
use Rattle.state.specs.declared.Pending.{Pending}
use Rattle.std.specs.Prelude.{Some}
use Rattle.std.specs.declared.option.Option.TheVariants as option
use Rattle.state.specs.States.{blank, live, event_of, is_due, stands_before, due_in, pending_at, FirstToFire, party_name}
use Rattle.state.proofs.Dues.{function_before, event_before, before_by, same_clear, neither_before, first_to_fire, none_to_fire, one_to_fire, due_none}
use Rattle.machine.specs.Steps.{Invocation, answers_to, chosen, choose}
use Rattle.published.specs.Published.{First, here, there, None, end, and, Ready, Before, by_function, by_event, Foremost, Called}

-- ---- lists by place

module _ {A : Type 0} (P : A → Type 0) (d : A) where
  -- x is the first with the property, at place k
  record FirstAt (k : ℕ) (x : A) (l : List A) : Type 0 where
    inside : k < length l
    there_is : get_or l k d ≡ x
    has : P x
    none_sooner : (j : ℕ) → j < k → P (get_or l j d) → ⊥

  first_by : (k : ℕ) (l : List A) → k < length l → P (get_or l k d) → ((j : ℕ) → j < k → P (get_or l j d) → ⊥) → First P k (get_or l k d) l
  first_by k [] h p f = absurd (omega arith)
  first_by zero (x ∷ l) h p f = here p
  first_by (suc k) (x ∷ l) h p f = there (f 0 (omega arith)) (first_by k l (omega arith) p (λ j i. f (suc j) (omega arith)))

  first_told : {k : ℕ} {x : A} {l : List A} → First P k x l → FirstAt k x l
  first_told (here p) = record { inside = omega arith; there_is = refl; has = p; none_sooner = λ j h. absurd (omega arith) }
  first_told {x = x} (there {n = n} {y = y} {xs = l} ne f) =
      let g : FirstAt n x l = first_told f in
      record { inside = omega (arith, g.inside); there_is = g.there_is; has = g.has; none_sooner = sooner g }
    where
      sooner : FirstAt n x l → (j : ℕ) → j < suc n → P (get_or (y ∷ l) j d) → ⊥
      sooner g zero h = ne
      sooner g (suc j) h = g.none_sooner j (omega arith)

  none_by : (l : List A) → ((j : ℕ) → j < length l → P (get_or l j d) → ⊥) → None P l
  none_by [] f = end
  none_by (x ∷ l) f = and (f 0 (omega arith)) (none_by l (λ j h. f (suc j) (omega arith)))

  none_told : {l : List A} → None P l → (j : ℕ) → j < length l → P (get_or l j d) → ⊥
  none_told end j h = absurd (omega arith)
  none_told (and ne n) zero h = ne
  none_told (and ne n) (suc j) h = none_told n j (omega arith)

  -- where one has the property, which a test decides, there is a first
  some_first : (p : A → Bool) → ((x : A) → p x ≡ true → P x) → ((x : A) → P x → p x ≡ true) → (l : List A) (j : ℕ) → j < length l → P (get_or l j d)
      → (n : ℕ) × First P n (get_or l n d) l
  some_first p f g [] j h q = absurd (omega arith)
  some_first p f g (x ∷ l) j h q = go (p x) refl j h q (some_first p f g l)
    where
      go : (b : Bool) → p x ≡ b → (j : ℕ) → j < suc (length l) → P (get_or (x ∷ l) j d) → ((j : ℕ) → j < length l → P (get_or l j d) → (n : ℕ) × First P n (get_or l n d) l)
          → (n : ℕ) × First P n (get_or (x ∷ l) n d) (x ∷ l)
      go true e j h q r = (0, here (f x e))
      go false e zero h q r = true_false (sym (g x q) ∙ e)
      go false e (suc j) h q r = let y = r j (omega arith) q in (suc y.0, there (λ z. true_false (sym (g x z) ∙ e)) y.1)

-- ---- the text's order

before_is : (p r : Pending) → Before p r → stands_before p r ≡ true
before_is p r (by_function h) = function_before p r h
before_is p r (by_event e h) = event_before p r e h

is_before : (p r : Pending) → stands_before p r ≡ true → Before p r
is_before p r e = before_by p r e by_function by_event

-- ---- due

module _ (c : Contract) (s : State) where
  -- ready, in the state and at the clock of s
  abbrev ReadyNow : Pending → Type 0
  ReadyNow = Ready c s.state s.clock

  is_ready : (p : Pending) → is_due c s p ≡ true → ReadyNow p
  unfolding is_due
  is_ready p e =
      record {
        at_time = eqb-true _ _ (both_left (eqb p.time s.clock) (eqb (event_of c p).state s.state) e);
        at_state = eqb-true _ _ (both_right (eqb p.time s.clock) (eqb (event_of c p).state s.state) e);
      }

  ready_is : (p : Pending) → ReadyNow p → is_due c s p ≡ true
  unfolding is_due
  ready_is p r = both_true _ _ (eq-eqb _ _ r.at_time) (eq-eqb _ _ r.at_state)

  pub none_ready : due_in c s ≡ option.None → None ReadyNow (live s)
  none_ready e = none_by ReadyNow blank (live s) (λ j h r. true_false (sym (ready_is _ r) ∙ none_to_fire c s e j h))

  pub ready_none : None ReadyNow (live s) → due_in c s ≡ option.None
  ready_none n = due_none c s (λ j h. not_so _ λ e. none_told ReadyNow blank n j h (is_ready (pending_at s j) e))

  pub some_ready : (k : ℕ) → due_in c s ≡ Some k → (n : ℕ) × First ReadyNow n (pending_at s n) (live s)
  some_ready k e =
      let f = first_to_fire c s k e in
      some_first ReadyNow blank (is_due c s) is_ready ready_is (live s) k f.is_pending (is_ready (pending_at s k) f.is-due)

  abbrev ForemostNow : Pending → Type 0
  ForemostNow = Foremost c s.state s.clock (live s)

  -- the ready events that stand before p
  abbrev Earlier : Pending → Pending → Type 0
  Earlier p r = ReadyNow r × Before r p

  none_earlier : (p : Pending) → ForemostNow p → (j : ℕ) → j < length (live s) → is_due c s (pending_at s j) ≡ true → stands_before (pending_at s j) p ≡ false
  none_earlier p f j h e = not_so _ λ b. none_told (Earlier p) blank f.none_before j h (is_ready (pending_at s j) e, is_before (pending_at s j) p b)

  foremost_by : (p : Pending) → is_due c s p ≡ true → ((j : ℕ) → j < length (live s) → is_due c s (pending_at s j) ≡ true → stands_before (pending_at s j) p ≡ false) → ForemostNow p
  foremost_by p e f =
      record {
        ready = is_ready p e;
        none_before =
            none_by (Earlier p) blank (live s) (λ j h r. true_false (sym (before_is (pending_at s j) p r.1) ∙ f j h (ready_is (pending_at s j) r.0)));
      }

  pub first_ready : (k : ℕ) → due_in c s ≡ Some k → First ForemostNow k (pending_at s k) (live s)
  first_ready k e =
      let f : FirstToFire c s k = first_to_fire c s k e in
      first_by ForemostNow blank k (live s) f.is_pending (foremost_by (pending_at s k) f.is-due f.none_before) (older f)
    where
      -- an older one that is foremost too would be the same event
      older : FirstToFire c s k → (j : ℕ) → j < k → ForemostNow (pending_at s j) → ⊥
      older f j h o =
          let d : is_due c s (pending_at s j) ≡ true = ready_is (pending_at s j) o.ready in
          let x = neither_before (pending_at s j) (pending_at s k) (f.none_before j (omega (arith, f.is_pending)) d)
          (none_earlier (pending_at s j) o k f.is_pending f.is-due) in
          f.none_older j h d x.0 x.1

  pub ready_first : {k : ℕ} {p : Pending} → First ForemostNow k p (live s) → due_in c s ≡ Some k
  ready_first {k} {p} g =
      let f : FirstAt ForemostNow blank k p (live s) = first_told ForemostNow blank g in
      let o : ForemostNow (pending_at s k) = subst ForemostNow (sym f.there_is) f.has in
      one_to_fire c s
      (record {
        is_pending = f.inside;
        is-due = ready_is (pending_at s k) o.ready;
        none_before = none_earlier (pending_at s k) o;
        none_older = λ j h e u v. f.none_sooner j h (alike o j e u v);
      })
    where
      -- the same event is foremost too
      alike : ForemostNow (pending_at s k) → (j : ℕ) → is_due c s (pending_at s j) ≡ true
          → (pending_at s j).function ≡ (pending_at s k).function → (pending_at s j).event ≡ (pending_at s k).event → ForemostNow (pending_at s j)
      alike o j e u v =
          foremost_by (pending_at s j) e λ i h t. same_clear (pending_at s j) (pending_at s k) u v (pending_at s i) (none_earlier (pending_at s k) o i h t)

pub first_at : {A : Type 0} {P : A → Type 0} {n : ℕ} {x : A} {xs : List A} (d : A) → First P n x xs → get_or xs n d ≡ x
first_at {P = P} d f = (first_told P d f).there_is

-- ---- called

module _ (c : Contract) (s : State) (i : Invocation) where
  is_called : (f : Function) → answers_to c s i f ≡ true → Called c s.state i f
  unfolding answers_to
  is_called f e =
      let a = eqb f.state s.state in
      let b = same_bytes i.caller (party_name c s f.party) in
      let d = same_bytes i.function f.name in
      record {
        in-state = eqb-true _ _ (both_left a (b && d) e);
        by_party = same_equal _ _ (both_left b d (both_right a (b && d) e));
        by_name = same_equal _ _ (both_right b d (both_right a (b && d) e));
      }

  called_is : (f : Function) → Called c s.state i f → answers_to c s i f ≡ true
  unfolding answers_to
  called_is f r =
      both_true _ _ (eq-eqb _ _ r.in-state)
      (both_true _ _ (subst (λ (w : List ℕ). same_bytes i.caller w ≡ true) r.by_party (same_refl i.caller))
      (subst (λ (w : List ℕ). same_bytes i.function w ≡ true) r.by_name (same_refl i.function)))

  pub first_called : (n k : ℕ) (f : Function) (fs : List Function) → choose c s i n fs ≡ chosen k f → (j : ℕ) × (k ≡ n + j) × First (Called c s.state i) j f fs
  unfolding choose
  first_called n k f [] e = let z : ◌≡◌ {A = ℕ} 0 1 = cc in absurd (omega arith)
  first_called n k f (g ∷ fs) e = go (answers_to c s i g) refl e (first_called (suc n) k f fs)
    where
      go : (b : Bool) → answers_to c s i g ≡ b → pick b (chosen n g) (choose c s i (suc n) fs) ≡ chosen k f
          → (choose c s i (suc n) fs ≡ chosen k f → (j : ℕ) × (k ≡ suc n + j) × First (Called c s.state i) j f fs) → (j : ℕ) × (k ≡ n + j) × First (Called c s.state i) j f (g ∷ fs)
      go true h e' t =
          let z : n ≡ k = cc (pick_true true (chosen n g) (choose c s i (suc n) fs) refl) in
          let y : g ≡ f = cc (pick_true true (chosen n g) (choose c s i (suc n) fs) refl) in
          (0, omega arith, subst (λ (x : Function). First (Called c s.state i) 0 x (g ∷ fs)) y (here (is_called g h)))
      go false h e' t =
          let r = t (sym (pick_false false (chosen n g) (choose c s i (suc n) fs) refl) ∙ e') in
          (suc r.0, omega (arith, r.1), there (λ y. true_false (sym (called_is g y) ∙ h)) r.2)

  pub called_first : (n : ℕ) {j : ℕ} {f : Function} {fs : List Function} → First (Called c s.state i) j f fs → choose c s i n fs ≡ chosen (n + j) f
  unfolding choose
  called_first n (here {x = f} r) = pick_true _ _ _ (called_is f r) ∙ ap (λ (k : ℕ). chosen k f) (omega arith)
  called_first n {f = f} (there {y = g} ne r) = pick_false _ _ _ (not_so _ (λ e. ne (is_called g e))) ∙ called_first (suc n) r ∙ ap (λ (k : ℕ). chosen k f) (omega arith)
