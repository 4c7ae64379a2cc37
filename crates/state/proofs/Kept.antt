-- The loops that put the kept events in front: one turn, and the end. Assumes nothing.
use mathlib.Core.Path.{◌≡◌, refl, sym, ap, ◌∙◌}
use mathlib.Core.Bool.{Bool, true, false}
use mathlib.Core.List.{List, [], ◌∷◌, ◌++◌, append-nil}
use Prim.Native.Nat.{ℕ, zero, suc, ◌+◌, ◌-◌, ◌<◌, ◌≤◌}
use native.Mathlib.Numerals.{add-one}
use native.Mathlib.Omega.{arith}
use lib.ListN.{length, take, drop, get_or, set, replicate, length-append, length-set, length-take, length-drop, drop_of_length-le}
use lib.Seq.{take-suc, take-take, take_all, set-append_seam, append_snoc, paste, take-paste}
use Rattle.std.proofs.lemmas.List.{drop-take, drop-set-lt, drop_more, take_more_set}
use Rattle.laws.specs.Choice.{pick}
use Rattle.state.specs.States.{max_pending, blank, live, with_times, with_pending, removed}
use Rattle.laws.specs.Lists.{repeated, keep}
use Rattle.state.specs.declared.Pending.{Pending}
use Rattle.state.specs.declared.State.{State}

-- ---- the slots hold these
pub record Holds (ps : List Pending) (out : List Pending) (count : ℕ) : Type 0 where
  pub many : count ≡ length ps
  pub slots : out ≡ ps ++ repeated (max_pending - length ps) blank

pub holds_more : {ps out : List Pending} {count : ℕ} (x : Pending) → Holds ps out count → count < 64 → Holds (ps ++ (x ∷ [])) (set out count x) (count + 1)
unfolding repeated
holds_more {ps} {out} {count} x h k =
    let m : count ≡ length ps = h.many in
    let l : length (ps ++ (x ∷ [])) ≡ suc (length ps) = length-append ps (x ∷ []) ∙ add-one (length ps) in
    let r : 64 - length ps ≡ suc (64 - suc (length ps)) = omega arith in
    record {
      many = omega arith;
      slots =
          (λ i. set (h.slots i) (m i) x)
          ∙ (λ i. set (ps ++ repeated (r i) blank) (length ps) x)
          ∙ set-append_seam ps blank (repeated (64 - suc (length ps)) blank) x
          ∙ sym (append_snoc ps x (repeated (64 - suc (length ps)) blank))
          ∙ (λ i. (ps ++ (x ∷ [])) ++ repeated (64 - sym l i) blank);
    }

-- ---- the slots after the last pending event made blank
replicated : {A : Type 0} (n : ℕ) (x : A) → replicate n x ≡ repeated n x
unfolding repeated
replicated zero x = refl
replicated (suc n) x = ap (λ l. x ∷ l) (replicated n x)

pub taken_again : {A : Type 0} (n : ℕ) (l : List A) → take (length (take n l)) l ≡ take n l
taken_again zero l = refl
taken_again (suc n) [] = refl
taken_again (suc n) (x ∷ l) = ap (λ r. x ∷ r) (taken_again n l)

pub rest_blank : (s : State) (n m : ℕ) (rest after : List Pending) → n ≡ length (live s) → m ≡ 64 - n → rest ≡ replicate m blank → after ≡ []
    → with_times s s.clock n (take n s.events ++ (rest ++ after)) ≡ with_pending s (live s)
unfolding with_pending
rest_blank s n m rest after en em er ea =
    let e : rest ++ after ≡ repeated (64 - n) blank = (λ i. er i ++ ea i) ∙ append-nil _ ∙ replicated m blank ∙ ap (λ (k : ℕ). repeated k blank) em in
    (λ i. with_times s s.clock n (take n s.events ++ e i))
    ∙ (λ i. with_times s s.clock (en i) (take (en i) s.events ++ repeated (64 - en i) blank))
    ∙ ap (λ (l : List Pending). with_times s s.clock (length (live s)) (l ++ repeated (64 - length (live s)) blank)) (taken_again s.pending s.events)

-- ---- all but the one at a place
abbrev pub without : {A : Type 0} → ℕ → List A → List A
without i l = take i l ++ drop (suc i) l

pub copied_down : {A : Type 0} (l : List A) (i n : ℕ) → i < n → n ≤ length l → take (n - 1) (paste l i (drop (i + 1) l) (n - (i + 1))) ≡ without i (take n l)
copied_down l i n h k =
    let m : n - 1 ≡ i + (n - (i + 1)) = omega arith in
    let e : n ≡ i + 1 + (n - (i + 1)) = omega arith in
    ap (λ (j : ℕ). take j (paste l i (drop (i + 1) l) (n - (i + 1)))) m
    ∙ take-paste l i (drop (i + 1) l) (n - (i + 1)) (omega arith) (simp length-drop (omega arith))
    ∙ (λ j. sym (take-take i n l (omega arith)) j ++ sym (drop-take (i + 1) (n - (i + 1)) l) j)
    ∙ (λ j. take i (take n l) ++ drop (add-one i j) (take (sym e j) l))

-- of a state, its slots being moved one down from the event after it on
pub taken_out : (s : State) (i n : ℕ) (slots : List Pending) → i < n → n ≡ length (live s) → length s.events ≡ 64
    → slots ≡ paste s.events i (drop (i + 1) s.events) (n - (i + 1)) → with_pending (with_times s s.clock (n - 1) slots) (take (n - 1) slots) ≡ removed s i
unfolding removed with_pending
taken_out s i n slots h en el es =
    let k : n ≤ length s.events = let f : length (live s) ≤ length s.events = simp length-take (omega arith) in omega (arith, f) in
    ap (with_pending s) (ap (take (n - 1)) es ∙ copied_down s.events i n h k ∙ ap (λ (j : ℕ). without i (take j s.events)) en ∙ ap (without i) (taken_again s.pending s.events))

pub past_last : (s : State) (i : ℕ) → length (live s) ≤ i → with_pending s (live s) ≡ removed s i
unfolding removed
past_last s i h = ap (with_pending s) (sym ((λ j. take_all i (live s) h j ++ drop_of_length-le (live s) {i = suc i} (omega (arith, h)) j) ∙ append-nil (live s)))

-- ---- one more of a list's first elements
pub one_more : {A : Type 0} (l : List A) (i : ℕ) (d : A) → i < length l → take (i + 1) l ≡ take i l ++ (get_or l i d ∷ [])
one_more l i d h = rw (add-one) (take-suc l i d h)

-- ---- those that pass a test
module _ {A : Type 0} (p : A → Bool) where
  pub keep_append : (a b : List A) → keep p (a ++ b) ≡ keep p a ++ keep p b
  unfolding keep pick
  keep_append [] b = refl
  keep_append (x ∷ a) b = go (p x) (keep_append a b)
    where
      go : (t : Bool) → keep p (a ++ b) ≡ keep p a ++ keep p b → pick t (x ∷ keep p (a ++ b)) (keep p (a ++ b)) ≡ pick t (x ∷ keep p a) (keep p a) ++ keep p b
      go true e = ap (λ (l : List A). x ∷ l) e
      go false e = e

  pub keep_yes : (a : List A) (x : A) → p x ≡ true → keep p (a ++ (x ∷ [])) ≡ keep p a ++ (x ∷ [])
  unfolding keep pick
  keep_yes a x e = rw (keep_append, e)

  pub keep_no : (a : List A) (x : A) → p x ≡ false → keep p (a ++ (x ∷ [])) ≡ keep p a
  unfolding keep pick
  keep_no a x e = rw (keep_append, e) (append-nil _)

  module _ (l : List A) (i : ℕ) (d : A) (h : i < length l) where
    pub more_yes : p (get_or l i d) ≡ true → keep p (take i l) ++ (get_or l i d ∷ []) ≡ keep p (take (i + 1) l)
    more_yes e = sym (ap (keep p) (one_more l i d h) ∙ keep_yes (take i l) (get_or l i d) e)

    pub more_no : p (get_or l i d) ≡ false → keep p (take i l) ≡ keep p (take (i + 1) l)
    more_no e = sym (ap (keep p) (one_more l i d h) ∙ keep_no (take i l) (get_or l i d) e)

-- ---- those that pass a test moved to the front: `count` of the first i elements of l stand in front of `now`, and from i on it is as l was
pub record Front {A : Type 0} (p : A → Bool) (l now : List A) (i count : ℕ) : Type 0 where
  pub below : count ≤ i
  pub front : take count now ≡ keep p (take i l)
  pub rest : drop i now ≡ drop i l
  pub long : length now ≡ length l

module _ {A : Type 0} (p : A → Bool) (l : List A) where
  pub front_none : Front p l l 0 0
  unfolding keep
  front_none = record { below = omega arith; front = refl; rest = refl; long = refl }

  module _ (now : List A) (i count : ℕ) (d : A) (f : Front p l now i count) (h : i < length l) where
    here : drop i now ≡ get_or now i d ∷ drop (i + 1) now
    here = drop_more now i d (omega (arith, f.long))

    there : get_or now i d ∷ drop (i + 1) now ≡ get_or l i d ∷ drop (i + 1) l
    there = sym here ∙ f.rest ∙ drop_more l i d h

    same : get_or now i d ≡ get_or l i d
    same = ap (λ (xs : List A). get_or xs 0 d) there

    left : drop (i + 1) now ≡ drop (i + 1) l
    left = ap (drop 1) there

    pub front_yes : p (get_or now i d) ≡ true → Front p l (set now count (get_or now i d)) (i + 1) (count + 1)
    front_yes e =
        let k = f.below in
        record {
          below = omega arith;
          front =
              take_more_set now count (get_or now i d) (omega (arith, f.long))
              ∙ (λ j. f.front j ++ (same j ∷ []))
              ∙ more_yes p l i d h (ap p (sym same) ∙ e);
          rest = drop-set-lt (i + 1) now count (get_or now i d) (omega arith) ∙ left;
          long = length-set now count (get_or now i d) ∙ f.long;
        }

    pub front_no : p (get_or now i d) ≡ false → Front p l now (i + 1) count
    front_no e = let k = f.below in record { below = omega arith; front = f.front ∙ more_no p l i d h (ap p (sym same) ∙ e); rest = left; long = f.long }
