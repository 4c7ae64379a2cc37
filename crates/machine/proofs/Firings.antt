-- The cases of a firing. Assumes nothing.
use mathlib.Core.Path.{◌≡◌, refl, sym, ap, ◌∙◌}
use mathlib.Core.Bool.{true, false}
use mathlib.Core.List.{List, []}
use Prim.Native.Nat.{ℕ}
use lib.ListN.{get_or}
use Rattle.laws.specs.Choice.{pick}
use Rattle.laws.proofs.Choice.{pick_true}
use Rattle.contract.specs.Tree.{Contract, Event, Block}
use Rattle.contract.specs.Decode.{block_between, contract_of}
use Rattle.state.specs.declared.State.{State}
use Rattle.state.specs.declared.Pending.{Pending}
use Rattle.std.specs.Prelude.{Option, Some, None}
use Rattle.state.specs.States.{blank, live, event_of, due_in, with_pending, removed}
use Rattle.state.proofs.Within.{live_with}
use lib.IntN.{ℤ}
use Rattle.statements.specs.declared.Runner.{Runner}
use Rattle.statements.specs.Running.{Work, work_from}
use Rattle.statements.specs.Lending.{work_of}
use Rattle.machine.proofs.Replies.{left_in}
use Rattle.machine.specs.declared.Handler.{Handler}
use Rattle.outcomes.specs.declared.Rule.TheVariants.{EventMatch}
use Rattle.outcomes.specs.declared.Outcome.TheVariants.{Accepted, Failed}
use Rattle.outcomes.specs.Outcomes.{answered, refused}
use Rattle.machine.specs.Steps.{place_groups, unless_refused, accepted, ended, handled, fire_by_due, fired}
use Rattle.holdings.specs.Holdings.{reached}
use Rattle.statements.specs.Running.{group_at}
use Rattle.groups.specs.Groups.{first_parameter}
use Rattle.machine.specs.Private.{stepped_in, HandlerOf, groups_in, ran_on, handled_by}
use Rattle.questions.specs.declared.Question.{Question}
use Rattle.questions.specs.declared.Question.TheVariants as ask

pub with_reached : (s : State) (x : Work) (q : ℕ) (ps : List Pending) → reached (with_pending s ps) x q ≡ ended s x q ps
unfolding with_pending
with_reached s x q ps = refl

pub removed_reached : (s : State) (x : Work) (q k : ℕ) → reached (removed s k) x q ≡ ended s x q (live (removed s k))
unfolding removed
removed_reached s x q k = with_reached s x q _ ∙ ap (ended s x q) (sym (live_with s _))

-- a handler has run
module _ (l : State) (q : ℕ) (x y : Work) (run : x ≡ y) where
  pub handler_failed : (p : Question) → y.refusal ≡ Some p → answered (Failed p) l ≡ handled_by l q y
  handler_failed p e = sym (ap (λ (r : Option Question). unless_refused r (λ z. answered (Failed z) l) (accepted EventMatch (reached l y q) y)) e)

  pub handler_done : x.refusal ≡ None → (r : State) → r ≡ reached l x q → accepted EventMatch r x ≡ handled_by l q y
  handler_done e r f =
      ap (λ (z : State). accepted EventMatch z x) f
      ∙ sym (ap (λ (p : Option Question). unless_refused p (λ z. answered (Failed z) l) (accepted EventMatch (reached l x q) x)) e)
      ∙ ap (handled_by l q) run

-- the same, from the lists that were lent
pub handler_ends : (s : State) (q : ℕ) (y : Work) (r : Runner) → work_of r ≡ y → {x : State} {kinds : List ℕ} {numbers : List ℤ} {texts holdings : List ℕ} {words : List ℤ}
    → x ≡ reached s (work_from kinds numbers texts holdings [] 0 None) q → kinds ≡ r.kinds.now → numbers ≡ r.numbers.now → texts ≡ r.texts.now → holdings ≡ r.holdings.now → words ≡ r.labels.now
    → stepped_in (record { outcome = Accepted EventMatch; count = r.count }) x words ≡ handled_by s q y
handler_ends s q y r run {x} {kinds} {numbers} {texts} {holdings} {words} e ea eb ed ee ef =
    let w = left_in r kinds numbers texts holdings words ea eb ed ee ef in
    handler_done s q _ y (w ∙ run) refl x e

-- statements begin alike without an event
ran_removed : (g : ℕ → ℕ) (s : State) (k : ℕ) (b : Block) → ran_on g (removed s k) b ≡ ran_on g s b
unfolding removed with_pending
ran_removed g s k b = refl

-- the event at place k, and its handler
pub fired_at : (w : List ℕ) (s : State) (k : ℕ) (p : Pending) → p ≡ get_or (live s) k blank → (h : Handler) → HandlerOf w (event_of (contract_of w) p) p.function h → (gs : List ℕ) → gs ≡ groups_in w → (l : State) → l ≡ removed s k
    → handled_by l h.last (ran_on (group_at gs h.first_parameter) l (block_between w h.from h.end)) ≡ fire_by_due (contract_of w) s (Some k)
unfolding handled
fired_at w s k p at h g gs eg l left =
    let of : Pending → Event = event_of (contract_of w) in
    let b : block_between w h.from h.end ≡ (of (get_or (live s) k blank)).handler = g.block ∙ ap (λ (y : Pending). (of y).handler) at in
    let q : h.last ≡ (of (get_or (live s) k blank)).last = g.last ∙ ap (λ (y : Pending). (of y).last) at in
    let f : ℕ → ℕ = place_groups (contract_of w) (get_or (live s) k blank).function in
    let first : h.first_parameter ≡ first_parameter (get_or (live s) k blank).function = g.first ∙ ap (λ (y : Pending). first_parameter y.function) at in
    let x : Work = ran_on f s (of (get_or (live s) k blank)).handler in
    (λ i. handled_by (left i) (q i) (ran_on (group_at (eg i) (first i)) (left i) (b i)))
    ∙ ap (handled_by (removed s k) (of (get_or (live s) k blank)).last) (ran_removed f s k (of (get_or (live s) k blank)).handler)
    ∙ ap (λ (z : State). unless_refused x.refusal (λ p. answered (Failed p) (removed s k)) (accepted EventMatch z x)) (removed_reached s x (of (get_or (live s) k blank)).last k)

module _ (c : Contract) (s : State) where
  pub fire_unagreed : s.agreed ≡ false → refused s ask.Agreed ≡ fired c s
  unfolding fired pick
  fire_unagreed e = rw e

  pub fire_due : s.agreed ≡ true → (d : Option ℕ) → due_in c s ≡ d → fire_by_due c s d ≡ fired c s
  unfolding fired
  fire_due e d q = sym (pick_true s.agreed _ _ e ∙ ap (fire_by_due c s) q)
