-- The end of a call on a state that has room for its pending events, whatever stands in the slots after them. Assumes nothing.
use mathlib.Core.Path.{◌≡◌, refl, sym, ap, ◌∙◌}
use mathlib.Core.List.{List, [], ◌∷◌, ◌++◌, append-nil, append_assoc}
use Prim.Native.Nat.{ℕ, suc, ◌+◌, ◌-◌, ◌<◌, ◌≤◌}
use native.Mathlib.Numerals.{add-one}
use native.Mathlib.Omega.{arith}
use lib.ListN.{length, length-append}
use borrow.Author.Tests.{le-leb, lt-leb, lt-ltb}
use Rattle.laws.proofs.Choice.{pick_true, pick_false}
use Rattle.contract.specs.Tree.{Event}
use Rattle.evaluation.specs.Memory.{Memory}
use Rattle.state.specs.declared.State.{State}
use Rattle.state.specs.declared.Pending.{Pending}
use Rattle.state.specs.States.{max_pending, blank, live, with_pending, joined_by}
use Rattle.laws.specs.Lists.{repeated}
use Rattle.state.proofs.Kept.{Holds, holds_more}
use Rattle.statements.specs.Running.{Work}
use Rattle.outcomes.specs.declared.Rule.TheVariants.{Call}
use Rattle.outcomes.specs.Outcomes.{refused}
use Rattle.machine.specs.Steps.{accepted, ended, Scheduled, times, no, schedule, with_scheduled}
use Rattle.machine.specs.Private.{scheduled_state}
use Rattle.questions.specs.declared.Question.{Question}
use Rattle.std.specs.Prelude.{Ok, Err}
use mathlib.Core.Bool.{Bool, true, false}
use lib.Dec.{leb}
use Rattle.laws.specs.Choice.{pick}
use Rattle.holdings.specs.Holdings.{reached}
use Rattle.machine.proofs.Firings.{with_reached}
use Rattle.machine.proofs.Schedules.{joined_all}
use Rattle.questions.specs.declared.Question.TheVariants as ask

-- ---- events join those that are pending
one_more : (s : State) (qs : List Pending) (p : Pending) → length qs < 64 → joined_by (with_pending s qs) p ≡ with_pending s (qs ++ (p ∷ []))
unfolding joined_by with_pending
one_more s qs p h =
    let a : Holds qs (qs ++ repeated (64 - length qs) blank) (length qs) = record { many = refl; slots = refl } in
    let b = holds_more p a h in
    let d : suc (length qs) ≡ length (qs ++ (p ∷ [])) = sym (add-one (length qs)) ∙ b.many in
    pick_true _ _ _ (lt-ltb (length qs) max_pending h)
    ∙ (λ i. record {
      agreed = s.agreed;
      state = s.state;
      kinds = s.kinds;
      numbers = s.numbers;
      texts = s.texts;
      assets = s.assets;
      clock = s.clock;
      pending = d i;
      events = b.slots i;
    })

pub all_more : (s : State) (qs ps : List Pending) → length qs + length ps ≤ 64 → joined_all (with_pending s qs) ps ≡ with_pending s (qs ++ ps)
unfolding joined_all
all_more s qs [] h = ap (with_pending s) (sym (append-nil qs))
all_more s qs (p ∷ ps) h =
    ap (λ (x : State). joined_all x ps) (one_more s qs p (omega arith))
    ∙ all_more s (qs ++ (p ∷ [])) ps (omega (arith, length-append qs (p ∷ [])))
    ∙ ap (with_pending s) (append_assoc qs (p ∷ []) ps)

-- ---- the call's end
module _ (s : State) (x : Scheduled) (ps : List Pending) (e : x ≡ times ps) where
  pub over_full : 64 < length (live s) + length ps → Err ask.PendingRoom ≡ scheduled_state s x
  over_full h = sym (ap (scheduled_state s) e ∙ pick_false _ _ _ (lt-leb (length (live s) + length ps) 64 h))

  pub all_join : length (live s) + length ps ≤ 64 → (next : State) → next ≡ joined_all (with_pending s (live s)) ps → Ok next ≡ scheduled_state s x
  all_join h next y =
      ap Ok (y ∙ all_more s (live s) ps h)
      ∙ sym (ap (scheduled_state s) e ∙ pick_true _ _ _ (le-leb (length (live s) + length ps) 64 h))

-- the pending events that are left are those that were live
pub few_live : (s t : State) → t.pending ≤ 64 → t ≡ with_pending s (live s) → length (live s) ≤ 64
unfolding with_pending
few_live s t h e = omega (arith, h, ap (λ (x : State). x.pending) e)

-- where there is no event, none joins
pub none_join : (m : Memory) (s : State) (n : ℕ) (es : List Event) → length es ≡ 0 → length (live s) ≤ 64 → (next : State) → next ≡ with_pending s (live s) → Ok next ≡ scheduled_state s (schedule m s.clock n 0 es)
unfolding schedule joined_all
none_join m s n [] e few next y = all_join s (times []) [] refl (omega arith) next y
none_join m s n (x ∷ es) e few next y = absurd (omega arith)

module _ (s : State) (w : Work) (q : ℕ) where
  pub call_refused : (x : Scheduled) (n : Question) → Err n ≡ scheduled_state s x → refused s n ≡ with_scheduled s w q x
  unfolding pick
  call_refused (no p) n e = let h : n ≡ p = cc in ap (refused s) h
  call_refused (times ps) n e = go (leb (length (live s) + length ps) max_pending) e
    where
      go : (b : Bool) → Err n ≡ pick b (Ok (with_pending s (live s ++ ps))) (Err ask.PendingRoom) → refused s n ≡ pick b (accepted Call (ended s w q (live s ++ ps)) w) (refused s ask.PendingRoom)
      go true e = cc
      go false e = let h : n ≡ ask.PendingRoom = cc in ap (refused s) h

  pub call_ends : (x : Scheduled) (next r : State) → Ok next ≡ scheduled_state s x → r ≡ reached next w q → accepted Call r w ≡ with_scheduled s w q x
  unfolding pick
  call_ends (no p) next r e f = cc
  call_ends (times ps) next r e f = go (leb (length (live s) + length ps) max_pending) e
    where
      go : (b : Bool) → Ok next ≡ pick b (Ok (with_pending s (live s ++ ps))) (Err ask.PendingRoom) → accepted Call r w ≡ pick b (accepted Call (ended s w q (live s ++ ps)) w) (refused s ask.PendingRoom)
      go true e =
          let h : next ≡ with_pending s (live s ++ ps) = cc in
          ap (λ (i : State). accepted Call i w) (f ∙ ap (λ (i : State). reached i w q) h ∙ with_reached s w q (live s ++ ps))
      go false e = cc
