-- The events of a call: which join the pending ones, turn by turn, and the state that has them. Assumes nothing.
use mathlib.Core.Path.{◌≡◌, refl, sym, ap, ◌∙◌}
use mathlib.Core.Bool.{true, false}
use mathlib.Core.List.{List, [], ◌∷◌, ◌++◌, append-nil}
use Prim.Native.Nat.{ℕ, suc, ◌+◌, ◌<◌, ◌≤◌}
use native.Mathlib.Numerals.{add-one}
use native.Mathlib.Omega.{arith}
use lib.ListN.{length, get_or, drop, length-append, drop_of_length-le}
use lib.Seq.{drop-cons, append_snoc}
use lib.IntN.{ℤ, pos, nat_abs}
use lib.Signed.{le_z}
use Rattle.laws.proofs.Choice.{pick_true, pick_false}
use Rattle.numbers.specs.declared.Value.TheVariants.{Integer, Text}
use Rattle.contract.specs.Tree.{Event}
use Rattle.evaluation.specs.Memory.{Memory}
use Rattle.evaluation.specs.Meaning.{value_of}
use Rattle.state.specs.declared.State.{State}
use Rattle.state.specs.declared.Pending.{Pending}
use Rattle.state.specs.States.{no_event, joined_by}
use Rattle.questions.specs.declared.Question.{Question}
use Rattle.questions.specs.declared.Question.TheVariants as ask
use Rattle.machine.specs.Steps.{Scheduled, times, no, scheduled, schedule}
use Rattle.numbers.specs.Numbers.{Answer}
use Rattle.std.specs.Prelude.{Ok, Err}

-- ---- the state that events join
unfoldable pub joined_all : State → List Pending → State
joined_all s [] = s
joined_all s (p ∷ ps) = joined_all (joined_by s p) ps

pub joined_last : (s : State) (ps : List Pending) (p : Pending) → joined_all s (ps ++ (p ∷ [])) ≡ joined_by (joined_all s ps) p
unfolding joined_all
joined_last s [] p = refl
joined_last s (x ∷ ps) p = joined_last (joined_by s x) ps p

-- ---- the guards, one after the other

-- these before what is scheduled after them
unfoldable pub after : List Pending → Scheduled → Scheduled
after ps (no q) = no q
after ps (times qs) = times (ps ++ qs)

pub record Joined (m : Memory) (t n : ℕ) (s : State) (es : List Event) (next : State) (joined j : ℕ) : Type 0 where
  pub ps : List Pending
  pub so_far : schedule m t n 0 es ≡ after ps (schedule m t n j (drop j es))
  pub state : next ≡ joined_all s ps
  pub many : joined ≡ length ps
  pub few : joined ≤ j

after_none : (x : Scheduled) → x ≡ after [] x
unfolding after
after_none (no q) = refl
after_none (times qs) = refl

module _ (m : Memory) (t n : ℕ) (s : State) (es : List Event) where
  pub joined_none : Joined m t n s es s 0 0
  unfolding joined_all
  joined_none = record { ps = []; so_far = after_none (schedule m t n 0 es); state = refl; many = refl; few = omega arith }

  module _ (next : State) (joined j : ℕ) (k : Joined m t n s es next joined j) where
    pub all_scheduled : length es ≤ j → schedule m t n 0 es ≡ times k.ps
    unfolding schedule after
    all_scheduled h = k.so_far ∙ ap (λ (l : List Event). after k.ps (schedule m t n j l)) (drop_of_length-le es h) ∙ ap times (append-nil k.ps)

    module _ (h : j < length es) (e : Event) (f : get_or es j no_event ≡ e) (v : Answer) (g : v ≡ value_of m e.guard) where
      later : Scheduled
      later = schedule m t n (suc j) (drop (suc j) es)

      here : schedule m t n 0 es ≡ after k.ps (scheduled t n j v later)
      unfolding schedule later
      here =
          k.so_far
          ∙ ap (λ (l : List Event). after k.ps (schedule m t n j l)) (drop-cons es j no_event h)
          ∙ (λ i. after k.ps (scheduled t n j ((ap (λ (x : Event). value_of m x.guard) f ∙ sym g) i) (schedule m t n (suc j) (drop (suc j) es))))

      pub guard_refused : (q : Question) → v ≡ Err q → schedule m t n 0 es ≡ no q
      unfolding after
      guard_refused q r = here ∙ ap (λ (x : Answer). after k.ps (scheduled t n j x later)) r

      pub guard_text : (x : ℕ) → v ≡ Ok (Text x) → schedule m t n 0 es ≡ no ask.OperandKind
      unfolding after
      guard_text x r = here ∙ ap (λ (y : Answer). after k.ps (scheduled t n j y later)) r

      module _ (z : ℤ) (r : v ≡ Ok (Integer z)) where
        with_time : schedule m t n 0 es ≡ after k.ps (scheduled t n j (Ok (Integer z)) later)
        with_time = here ∙ ap (λ (y : Answer). after k.ps (scheduled t n j y later)) r

        abbrev event : Pending
        event = record { function = n; event = j; time = nat_abs z }

        joins : le_z (pos t) z ≡ true → (l : Scheduled) → after k.ps (scheduled t n j (Ok (Integer z)) l) ≡ after (k.ps ++ (event ∷ [])) l
        unfolding after
        joins e (no q) = refl
        joins e (times qs) = ap (λ (x : List Pending). times (k.ps ++ x)) (pick_true _ _ _ e) ∙ ap times (sym (append_snoc k.ps event qs))

        drops : le_z (pos t) z ≡ false → (l : Scheduled) → after k.ps (scheduled t n j (Ok (Integer z)) l) ≡ after k.ps l
        unfolding after
        drops e (no q) = refl
        drops e (times qs) = ap (λ (x : List Pending). times (k.ps ++ x)) (pick_false _ _ _ e)

        onward : later ≡ schedule m t n (j + 1) (drop (j + 1) es)
        unfolding later
        onward = ap (λ (i : ℕ). schedule m t n i (drop i es)) (sym (add-one j))

        -- a time at or after the clock joins
        pub joined_more : le_z (pos t) z ≡ true → (time : ℕ) → time ≡ nat_abs z → (next' : State) → next' ≡ joined_by next (record { function = n; event = j; time = time }) → (joined' : ℕ) → joined' ≡ joined + 1 → Joined m t n s es next' joined' (j + 1)
        joined_more e time q next' y joined' x =
            let a : joined ≡ length k.ps = k.many in
            let b : joined ≤ j = k.few in
            record {
              ps = k.ps ++ (event ∷ []);
              so_far = with_time ∙ joins e later ∙ ap (after (k.ps ++ (event ∷ []))) onward;
              state = y ∙ (λ i. joined_by (k.state i) (record { function = n; event = j; time = q i })) ∙ sym (joined_last s k.ps event);
              many = omega (arith, length-append k.ps (event ∷ []));
              few = omega arith;
            }

        -- an earlier one is dropped
        pub joined_same : le_z (pos t) z ≡ false → (next' : State) → next' ≡ next → (joined' : ℕ) → joined' ≡ joined → Joined m t n s es next' joined' (j + 1)
        joined_same e next' y joined' x =
            let b : joined ≤ j = k.few in
            record {
              ps = k.ps;
              so_far = with_time ∙ drops e later ∙ ap (after k.ps) onward;
              state = y ∙ k.state;
              many = x ∙ k.many;
              few = omega arith;
            }
