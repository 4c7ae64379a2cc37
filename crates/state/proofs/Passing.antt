-- Time passes so many times: the state then, what is due then, and where it stops. Assumes nothing.
use mathlib.Core.Path.{◌≡◌, refl, sym, ap, subst, ◌∙◌}
use mathlib.Core.Bool.{Bool, true, false, not, ◌&&◌}
use mathlib.Core.List.{List, [], ◌∷◌, ◌++◌}
use Prim.Native.Nat.{ℕ, zero, suc, ◌+◌, ◌-◌, ◌<◌, ◌≤◌}
use native.Mathlib.Nat.{add-zero}
use native.Mathlib.Numerals.{add-one}
use native.Mathlib.Omega.{arith}
use lib.ListN.{length, take, drop, get_or, length-take, drop_of_length-le}
use lib.Seq.{take_all, drop-cons}
use lib.Dec.{eqb, leb, ltb}
use borrow.Author.Tests.{lt-ltb, le-ltb, le-leb, lt-leb, ltb-true, ltb-false, leb-true, leb-false, eqb-true, eqb-false, eq-eqb, ne_eqb}
use Rattle.laws.specs.Choice.{pick}
use Rattle.laws.specs.Lists.{keep, repeated}
use Rattle.laws.proofs.Choice.{pick_true, pick_false, by_cases, true_false}
use Rattle.laws.proofs.Members.{keep_length}
use Rattle.laws.proofs.Truths.{both_of, second_true}
use Rattle.contract.specs.Limits.{top}
use Rattle.contract.specs.Tree.{Contract}
use Rattle.state.specs.declared.State.{State}
use Rattle.state.specs.declared.Pending.{Pending}
use Rattle.std.specs.Prelude.{Option, Some, None, fold}
use Rattle.state.specs.States.{max_pending, blank, live, event_of, field_slot_ok, asset_slot_ok, pending_ok, state_ok, is_due, due_in, pending_at, with_pending, with_times, later, lapsed, time_passed, passed_times, unless_due, times_until_due, FirstStop}
use Rattle.state.specs.Private.{not_dropped, comes_due, due_at}
use Rattle.state.proofs.Kept.{one_more}
use Rattle.state.proofs.Each.{Each, none, more, each_append, each_get_or, each_of, each_keep}
use Rattle.state.proofs.Dues.{none_to_fire, due_none}
use Rattle.state.proofs.First.{other_time, due_now}
use Rattle.state.proofs.Within.{Within, within, is_ok, slots_ok, lapsed_later, live_lapsed}

-- ---- lists

module _ {A : Type 0} where
  -- kept by one test, then by another
  keep_keep : (p q r : A → Bool) → ((x : A) → (p x && q x) ≡ r x) → (l : List A) → keep q (keep p l) ≡ keep r l
  unfolding keep pick
  keep_keep p q r f [] = refl
  keep_keep p q r f (x ∷ l) = go (p x) refl (keep_keep p q r f l)
    where
      go : (a : Bool) → p x ≡ a → keep q (keep p l) ≡ keep r l → keep q (pick a (x ∷ keep p l) (keep p l)) ≡ pick (r x) (x ∷ keep r l) (keep r l)
      go true e h = let g : q x ≡ r x = sym (ap (λ (a : Bool). a && q x) e) ∙ f x in λ i. pick (g i) (x ∷ h i) (h i)
      go false e h = let g : r x ≡ false = sym (f x) ∙ ap (λ (a : Bool). a && q x) e in h ∙ sym (pick_false (r x) (x ∷ keep r l) (keep r l) g)

  keep_all : (p : A → Bool) → ((x : A) → p x ≡ true) → (l : List A) → keep p l ≡ l
  unfolding keep
  keep_all p f [] = refl
  keep_all p f (x ∷ l) = pick_true _ _ _ (f x) ∙ ap (λ (k : List A). x ∷ k) (keep_all p f l)

  each_map : {P Q : A → Type 0} → ((x : A) → P x → Q x) → {l : List A} → Each P l → Each Q l
  each_map f none = none
  each_map f (more p e) = more (f _ p) (each_map f e)

  -- what is not kept fails the test p anyway
  kept_each : (q p : A → Bool) → ((x : A) → q x ≡ false → p x ≡ false) → (l : List A) → Each (λ x. p x ≡ false) (keep q l) → Each (λ x. p x ≡ false) l
  unfolding keep pick
  kept_each q p f [] e = none
  kept_each q p f (x ∷ l) e = go (q x) refl e (kept_each q p f l)
    where
      head : {y : A} {ys : List A} → Each (λ z. p z ≡ false) (y ∷ ys) → p y ≡ false
      head (more a b) = a

      tail : {y : A} {ys : List A} → Each (λ z. p z ≡ false) (y ∷ ys) → Each (λ z. p z ≡ false) ys
      tail (more a b) = b

      go : (a : Bool) → q x ≡ a → Each (λ z. p z ≡ false) (pick a (x ∷ keep q l) (keep q l))
          → (Each (λ z. p z ≡ false) (keep q l) → Each (λ z. p z ≡ false) l) → Each (λ z. p z ≡ false) (x ∷ l)
      go true h e r = more (head e) (r (tail e))
      go false h e r = more (f x h) (r e)

-- ---- which events are dropped

module _ (from to t : ℕ) where
  pub early_stays : t < from → not_dropped from to t ≡ true
  unfolding not_dropped
  early_stays h = simp (lt-ltb t from h)

  late_stays : to ≤ t → not_dropped from to t ≡ true
  unfolding not_dropped
  late_stays h = second_true (ltb t from) (le-leb to t h)

  not_stays : from ≤ t → t < to → not_dropped from to t ≡ false
  unfolding not_dropped
  not_stays h k = simp (le-ltb t from h, lt-leb to t k)

stays_none : (k t : ℕ) → not_dropped k (k + 0) t ≡ true
stays_none k t = go (ltb t k) refl
  where
    go : (a : Bool) → ltb t k ≡ a → not_dropped k (k + 0) t ≡ true
    go true e = early_stays k (k + 0) t (ltb-true t k e)
    go false e = let h : k ≤ t = ltb-false t k e in late_stays k (k + 0) t (omega arith)

-- those of the old clock first, then those of the next ones
stays_more : (k n t : ℕ) → (not (eqb t k) && not_dropped (suc k) (suc k + n) t) ≡ not_dropped k (k + suc n) t
stays_more k n t = go (eqb t k) (ltb t k) (leb (k + suc n) t) refl refl refl
  where
    go : (a b d : Bool) → eqb t k ≡ a → ltb t k ≡ b → leb (k + suc n) t ≡ d → (not (eqb t k) && not_dropped (suc k) (suc k + n) t) ≡ not_dropped k (k + suc n) t
    go true b d e f g =
        let h : t ≡ k = eqb-true t k e in
        ap (λ (x : Bool). not x && not_dropped (suc k) (suc k + n) t) e ∙ sym (not_stays k (k + suc n) t (omega arith) (omega arith))
    go false true d e f g =
        let h : t < k = ltb-true t k f in
        ap (λ (x : Bool). not x && not_dropped (suc k) (suc k + n) t) e ∙ early_stays (suc k) (suc k + n) t (omega arith) ∙ sym (early_stays k (k + suc n) t h)
    go false false true e f g =
        let h : k + suc n ≤ t = leb-true (k + suc n) t g in
        ap (λ (x : Bool). not x && not_dropped (suc k) (suc k + n) t) e ∙ late_stays (suc k) (suc k + n) t (omega arith) ∙ sym (late_stays k (k + suc n) t h)
    go false false false e f g =
        let h : k ≤ t = ltb-false t k f in
        let m = eqb-false t k e in
        let l : t < k + suc n = leb-false (k + suc n) t g in
        ap (λ (x : Bool). not x && not_dropped (suc k) (suc k + n) t) e ∙ not_stays (suc k) (suc k + n) t (omega arith) (omega arith) ∙ sym (not_stays k (k + suc n) t h l)

-- ---- the state after so many

pub passed_clock : (n : ℕ) (s : State) → (passed_times n s).clock ≡ s.clock + n
unfolding passed_times lapsed with_pending
passed_clock zero s = sym (add-zero s.clock)
passed_clock (suc n) s = omega (arith, passed_clock n (time_passed s))

pub passed_state : (n : ℕ) (s : State) → (passed_times n s).state ≡ s.state
unfolding passed_times lapsed with_pending
passed_state zero s = refl
passed_state (suc n) s = passed_state n (time_passed s)

pub passed_agreed : (n : ℕ) (s : State) → (passed_times n s).agreed ≡ s.agreed
unfolding passed_times lapsed with_pending
passed_agreed zero s = refl
passed_agreed (suc n) s = passed_agreed n (time_passed s)

pub passed_assets : (n : ℕ) (s : State) → (passed_times n s).assets ≡ s.assets
unfolding passed_times lapsed with_pending
passed_assets zero s = refl
passed_assets (suc n) s = passed_assets n (time_passed s)

passed_live : (n : ℕ) (s : State) → live (passed_times n s) ≡ keep (λ p. not_dropped s.clock (s.clock + n) p.time) (live s)
unfolding passed_times lapsed with_pending
passed_live zero s = sym (keep_all (λ p. not_dropped s.clock (s.clock + 0) p.time) (λ p. stays_none s.clock p.time) (live s))
passed_live (suc n) s =
    passed_live n (time_passed s)
    ∙ ap (keep (λ p. not_dropped (suc s.clock) (suc s.clock + n) p.time)) (live_lapsed s)
    ∙ keep_keep (λ p. not (eqb p.time s.clock)) (λ p. not_dropped (suc s.clock) (suc s.clock + n) p.time) (λ p. not_dropped s.clock (s.clock + suc n) p.time)
    (λ p. stays_more s.clock n p.time) (live s)

-- at a clock, with these pending events
abbrev pub standing : State → ℕ → List Pending → State
standing s clock ps = with_times s clock (length ps) (ps ++ repeated (max_pending - length ps) blank)

passed_standing : (n : ℕ) (s : State) → passed_times (suc n) s ≡ standing s (s.clock + suc n) (live (passed_times (suc n) s))
unfolding passed_times lapsed with_pending
passed_standing zero s = let q : suc s.clock ≡ s.clock + 1 = omega arith in λ i. standing s (q i) (sym (live_lapsed s) i)
passed_standing (suc n) s =
    passed_standing n (time_passed s)
    ∙ (let q : suc s.clock + suc n ≡ s.clock + suc (suc n) = omega arith in λ i. standing s (q i) (live (passed_times (suc (suc n)) s)))

pub passed_to : (s : State) (to : ℕ) → s.clock < to → standing s to (keep (λ p. not_dropped s.clock to p.time) (live s)) ≡ passed_times (to - s.clock) s
passed_to s to h =
    let n : to - s.clock ≡ suc (to - suc s.clock) = omega arith in
    let t : s.clock + suc (to - suc s.clock) ≡ to = omega arith in
    sym (
    ap (λ (k : ℕ). passed_times k s) n
    ∙ passed_standing (to - suc s.clock) s
    ∙ ap (standing s (s.clock + suc (to - suc s.clock))) (passed_live (suc (to - suc s.clock)) s)
    ∙ (λ i. standing s (t i) (keep (λ p. not_dropped s.clock (t i) p.time) (live s)))
    )

-- fewer events are pending
pub passed_fewer : (n : ℕ) (s : State) → length (live (passed_times n s)) ≤ length (live s)
passed_fewer n s = subst (λ (l : List Pending). length l ≤ length (live s)) (sym (passed_live n s)) (keep_length _ (live s))

-- ---- question 4 then

module _ (c : Contract) where
  later_ok : (s : State) → state_ok c s ≡ true → s.agreed ≡ true → s.clock < top → state_ok c (time_passed s) ≡ true
  unfolding lapsed with_pending field_slot_ok asset_slot_ok
  later_ok s o a h =
      let k : Within c s = within c s o in
      let ps = keep (λ p. not (eqb p.time s.clock)) (live s) in
      is_ok c (time_passed s)
      (record {
        clock = h;
        name = pick_true _ _ _ a ∙ sym (pick_true _ _ _ a) ∙ k.name;
        pending = omega (arith, keep_length (λ p. not (eqb p.time s.clock)) (live s), length-take s.pending s.events, k.pending);
        fields = k.fields;
        assets = k.assets;
        events = slots_ok c (later s) ps (subst (Each (λ p. pending_ok c (suc s.clock) p ≡ true)) (live_lapsed s) (lapsed_later c s o));
      })

  pub passed_ok : (n : ℕ) (s : State) → state_ok c s ≡ true → s.agreed ≡ true → s.clock + n ≤ top → state_ok c (passed_times n s) ≡ true
  unfolding passed_times lapsed with_pending
  passed_ok zero s o a h = o
  passed_ok (suc n) s o a h = passed_ok n (time_passed s) (later_ok s o a (omega arith)) a (omega arith)

-- ---- what is due then

module _ (c : Contract) (s : State) (n : ℕ) where
  -- due then, by the clock then
  due_then : is_due c (passed_times n s) ≡ due_at c (s.clock + n) s.state
  unfolding is_due due_at
  due_then = λ i. due_at c (passed_clock n s i) (passed_state n s i)

  -- an event that was dropped is not due
  dropped_idle : (p : Pending) → not_dropped s.clock (s.clock + n) p.time ≡ false → due_at c (s.clock + n) s.state p ≡ false
  dropped_idle p e =
      other_time c (s.clock + n) s.state p λ q.
      true_false (sym (late_stays s.clock (s.clock + n) p.time (omega arith)) ∙ e)

  nothing_then : due_in c (passed_times n s) ≡ None → Each (λ p. due_at c (s.clock + n) s.state p ≡ false) (live s)
  nothing_then d =
      kept_each (λ p. not_dropped s.clock (s.clock + n) p.time) (due_at c (s.clock + n) s.state) dropped_idle (live s)
      (subst (Each (λ p. due_at c (s.clock + n) s.state p ≡ false)) (passed_live n s)
      (each_of (live (passed_times n s)) blank λ j h. (λ i. sym due_then i (pending_at (passed_times n s) j)) ∙ none_to_fire c (passed_times n s) d j h))

  then_nothing : Each (λ p. due_at c (s.clock + n) s.state p ≡ false) (live s) → due_in c (passed_times n s) ≡ None
  then_nothing e =
      due_none c (passed_times n s) λ j h.
      (λ i. due_then i (pending_at (passed_times n s) j))
      ∙ each_get_or (subst (Each (λ p. due_at c (s.clock + n) s.state p ≡ false)) (sym (passed_live n s)) (each_keep _ (λ p q _. q) e)) j blank h

-- ---- where it stops

pub first_stop : (c : Contract) (most : ℕ) (s : State) → FirstStop c most s (times_until_due c most s)
unfolding times_until_due passed_times
first_stop c zero s = record { no_further = omega arith; not_before = λ k h. absurd (omega arith); due_or_most = λ d. refl }
first_stop c (suc most) s = go (due_in c s) refl (first_stop c most (time_passed s))
  where
    before : due_in c s ≡ None → {n : ℕ} → FirstStop c most (time_passed s) n → (k : ℕ) → k < suc n → due_in c (passed_times k s) ≡ None
    before d f zero h = d
    before d f (suc k) h = f.not_before k (omega arith)

    go : (x : Option ℕ) → due_in c s ≡ x → FirstStop c most (time_passed s) (times_until_due c most (time_passed s)) → FirstStop c (suc most) s (unless_due (suc (times_until_due c most (time_passed s))) x)
    go (Some k) d f =
        record {
          no_further = omega arith;
          not_before = λ k h. absurd (omega arith);
          due_or_most = λ e. let g : Some k ≡ None = sym d ∙ e in let z : ◌≡◌ {A = ℕ} 0 1 = cc in absurd (omega arith);
        }
    go None d f =
        record {
          no_further = omega (arith, f.no_further);
          not_before = before d f;
          due_or_most = λ e. ap suc (f.due_or_most e);
        }

module _ {c : Contract} {most : ℕ} {s : State} {n m : ℕ} (f : FirstStop c most s n) (g : FirstStop c most s m) where
  not_sooner : n < m → ⊥
  not_sooner h = omega (arith, f.due_or_most (g.not_before n h), g.no_further)

pub one_stop : {c : Contract} {most : ℕ} {s : State} {n m : ℕ} → FirstStop c most s n → FirstStop c most s m → n ≡ m
one_stop {n = n} {m = m} f g =
    let x : (n < m → ⊥) = not_sooner f g in
    let y : (m < n → ⊥) = not_sooner g f in
    omega arith

-- ---- the search for it

-- where the search may stand: at the end, or at the time of an event that is due then
pub data Stands (c : Contract) (state to : ℕ) (ps : List Pending) (stop : ℕ) : Type 0 where
  at_end : stop ≡ to → Stands c state to ps stop
  at_event : (j : ℕ) → j < length ps → due_at c stop state (get_or ps j blank) ≡ true → Stands c state to ps stop

-- the first i events are looked at
pub record Soonest (c : Contract) (state clock to : ℕ) (ps : List Pending) (i stop : ℕ) : Type 0 where
  pub not_early : clock ≤ stop
  pub not_late : stop ≤ to
  pub none_sooner : Each (λ p. comes_due c state clock stop p ≡ false) (take i ps)
  pub stands : Stands c state to ps stop

module _ (c : Contract) (state clock : ℕ) where
  comes_true : (stop : ℕ) (p : Pending) → comes_due c state clock stop p ≡ true → (clock ≤ p.time) × (p.time < stop) × ((event_of c p).state ≡ state)
  unfolding comes_due
  comes_true stop p e =
      let a = both_of (leb clock p.time) (ltb p.time stop && eqb (event_of c p).state state) e in
      let b = both_of (ltb p.time stop) (eqb (event_of c p).state state) a.1 in
      (leb-true clock p.time a.0, ltb-true p.time stop b.0, eqb-true (event_of c p).state state b.1)

  pub comes_early : (stop : ℕ) (p : Pending) → p.time < clock → comes_due c state clock stop p ≡ false
  unfolding comes_due
  comes_early stop p h = simp (lt-leb clock p.time h)

  pub comes_late : (stop : ℕ) (p : Pending) → clock ≤ p.time → stop ≤ p.time → comes_due c state clock stop p ≡ false
  unfolding comes_due
  comes_late stop p h k = simp (le-leb clock p.time h, le-ltb p.time stop k)

  pub comes_elsewhere : (stop : ℕ) (p : Pending) → clock ≤ p.time → p.time < stop → ((event_of c p).state ≡ state → ⊥) → comes_due c state clock stop p ≡ false
  unfolding comes_due
  comes_elsewhere stop p h k e = simp (le-leb clock p.time h, lt-ltb p.time stop k, ne_eqb (event_of c p).state state e)

  pub comes_so : (stop : ℕ) (p : Pending) → clock ≤ p.time → p.time < stop → (event_of c p).state ≡ state → comes_due c state clock stop p ≡ true
  unfolding comes_due
  comes_so stop p h k e = simp (le-leb clock p.time h, lt-ltb p.time stop k, eq-eqb (event_of c p).state state e)

  -- what does not come before a stop does not come before an earlier one
  comes_less : (stop sooner : ℕ) → sooner ≤ stop → (p : Pending) → comes_due c state clock stop p ≡ false → comes_due c state clock sooner p ≡ false
  comes_less stop sooner h p e = go (comes_due c state clock sooner p) refl
    where
      go : (a : Bool) → comes_due c state clock sooner p ≡ a → a ≡ false
      go true q = let x = comes_true sooner p q in true_false (sym (comes_so stop p x.0 (omega (arith, x.1)) x.2) ∙ e)
      go false q = refl

  comes_not : (p : Pending) → comes_due c state clock p.time p ≡ false
  comes_not p = go (comes_due c state clock p.time p) refl
    where
      go : (a : Bool) → comes_due c state clock p.time p ≡ a → a ≡ false
      go true q = absurd (omega (arith, (comes_true p.time p q).1))
      go false q = refl

  pub soonest_none : (to : ℕ) (ps : List Pending) → clock ≤ to → Soonest c state clock to ps 0 to
  soonest_none to ps h = record { not_early = h; not_late = omega arith; none_sooner = none; stands = at_end refl }

  module _ (to : ℕ) (l : List Pending) (i stop : ℕ) (h : Soonest c state clock to l i stop) (m : i < length l) where
    pub soonest_more : Soonest c state clock to l (i + 1) (pick (comes_due c state clock stop (get_or l i blank)) (get_or l i blank).time stop)
    soonest_more =
        let p : Pending = get_or l i blank in
        by_cases (Soonest c state clock to l (i + 1)) (comes_due c state clock stop p) p.time stop
        (λ e.
        let x = comes_true stop p e in
        record {
          not_early = x.0;
          not_late = omega (arith, x.1, h.not_late);
          none_sooner = and_this p.time (each_map (comes_less stop p.time (omega (arith, x.1))) h.none_sooner) (comes_not p);
          stands =
              at_event i m (due_now c p.time state p refl x.2);
        })
        (λ e. record { not_early = h.not_early; not_late = h.not_late; none_sooner = and_this stop h.none_sooner e; stands = h.stands })
      where
        and_this : (z : ℕ) → Each (λ p. comes_due c state clock z p ≡ false) (take i l) → comes_due c state clock z (get_or l i blank) ≡ false
            → Each (λ p. comes_due c state clock z p ≡ false) (take (i + 1) l)
        and_this z e q = subst (Each (λ p. comes_due c state clock z p ≡ false)) (sym (one_more l i blank m)) (each_append e (more q none))

  -- what does not come before the stop is not due before it
  idle_before : (stop t : ℕ) → clock ≤ t → t < stop → (p : Pending) → comes_due c state clock stop p ≡ false → due_at c t state p ≡ false
  unfolding due_at
  idle_before stop t h k p e = go (due_at c t state p) refl
    where
      go : (a : Bool) → due_at c t state p ≡ a → a ≡ false
      go true q =
          let b = both_of (eqb p.time t) (eqb (event_of c p).state state) q in
          let d : p.time ≡ t = eqb-true p.time t b.0 in
          true_false (sym (comes_so stop p (omega arith) (omega arith) (eqb-true (event_of c p).state state b.1)) ∙ e)
      go false q = refl

-- one event after another
abbrev pub soonest_yet : Contract → ℕ → ℕ → ℕ → Pending → ℕ
soonest_yet c state clock stop p = pick (comes_due c state clock stop p) p.time stop

module _ (c : Contract) (state clock to : ℕ) (l : List Pending) where
  soonest_rest : (n i stop : ℕ) → i + n ≡ length l → Soonest c state clock to l i stop
      → Soonest c state clock to l (length l) (fold (soonest_yet c state clock) stop (drop i l))
  soonest_rest zero i stop e h =
      let k : length l ≤ i = omega arith in
      rw (drop_of_length-le l k) (subst (λ (j : ℕ). Soonest c state clock to l j stop) (omega arith) h)
  soonest_rest (suc n) i stop e h =
      let m : i < length l = omega arith in
      rw (drop-cons l i blank m)
      (rw (sym (add-one i)) (soonest_rest n (i + 1) (soonest_yet c state clock stop (get_or l i blank)) (omega arith) (soonest_more c state clock to l i stop h m)))

  pub soonest_all : clock ≤ to → Soonest c state clock to l (length l) (fold (soonest_yet c state clock) to l)
  soonest_all h = soonest_rest (length l) 0 to (omega arith) (soonest_none c state clock to l h)

module _ (c : Contract) (s : State) (to i stop : ℕ) (h : Soonest c s.state s.clock to (live s) i stop) (k : length (live s) ≤ i) where
  there : s.clock + (stop - s.clock) ≡ stop
  there = omega (arith, h.not_early)

  stop_first : FirstStop c (to - s.clock) s (stop - s.clock)
  stop_first =
      let all : Each (λ p. comes_due c s.state s.clock stop p ≡ false) (live s) =
      subst (Each (λ p. comes_due c s.state s.clock stop p ≡ false)) (take_all i (live s) k) h.none_sooner in
      record {
        no_further = omega (arith, h.not_late);
        not_before = λ n l.
            then_nothing c s n (each_map (idle_before c s.state s.clock stop (s.clock + n) (omega arith) (omega (arith, h.not_early))) all);
        due_or_most = λ d. ended h.stands (nothing_then c s (stop - s.clock) d);
      }
    where
      ended : Stands c s.state to (live s) stop → Each (λ p. due_at c (s.clock + (stop - s.clock)) s.state p ≡ false) (live s) → stop - s.clock ≡ to - s.clock
      ended (at_end e) f = ap (λ (x : ℕ). x - s.clock) e
      ended (at_event j l e) f =
          true_false (sym e ∙ ap (λ (x : ℕ). due_at c x s.state (get_or (live s) j blank)) (sym there) ∙ each_get_or f j blank l)

  pub soonest_is : stop ≡ s.clock + times_until_due c (to - s.clock) s
  soonest_is = sym there ∙ ap (λ (x : ℕ). s.clock + x) (one_stop stop_first (first_stop c (to - s.clock) s))

-- a clock value before the clock is no time to pass
pub passings_none : (c : Contract) (s : State) (to : ℕ) → to < s.clock → s.clock ≡ s.clock + times_until_due c (to - s.clock) s
unfolding times_until_due
passings_none c s to h =
    let z : to - s.clock ≡ 0 = omega arith in
    sym (ap (λ (n : ℕ). s.clock + times_until_due c n s) z ∙ add-zero s.clock)

pub passed_none : (s : State) (to : ℕ) → to ≤ s.clock → s ≡ passed_times (to - s.clock) s
unfolding passed_times
passed_none s to h = let z : to - s.clock ≡ 0 = omega arith in sym (ap (λ (n : ℕ). passed_times n s) z)
