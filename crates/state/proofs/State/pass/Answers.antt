-- `state::pass` meets its contract. Assumes nothing.
use Rattle.std.proofs.Common.{◌<◌, ◌≡◌, refl, sym, ap, ◌∙◌, arith, rules, length, get_or, set, take, Bool}
use Rattle.laws.specs.Lists.{keep}
use Rattle.state.specs.declared.Pending.{Pending}
use Rattle.state.specs.declared.State.{State}
use Rattle.state.specs.States.{blank, with_times, with_pending, live}
use Rattle.state.specs.Private.{not_dropped}
use Rattle.state.proofs.Kept.{front_none, front_yes, front_no, taken_again}
use Rattle.state.proofs.Passing.{standing, passed_none, passed_to}
use Rattle.state.proofs.State.pass.Goals.{then-stays, else-stays}
use Rattle.state.proofs.State.pass.Goals as goal

pub returns-then-to-clock : goal.returns-then-to-clock
returns-then-to-clock c = passed_none c.args.self.now c.args.to c.if-to-clock.true

pub loop-i-init : goal.loop-i-init
loop-i-init c = (refl, front_none _ c.args.self.now.events)

pub loop-i-preserved : goal.loop-i-preserved
loop-i-preserved c =
    let s = c.args.self.now in
    let full : length s.events ≡ 64 = search rules in
    let h : c.loop-i.i < length s.events = omega (arith, c.live-n.ensures.at_most) in
    let kept : Pending → Bool = λ p. not_dropped s.clock c.args.to p.time in
    let now = c.loop-i.self.events in
    let x = get_or now c.loop-i.i blank in
    let f = c.loop-i.invariant.1 in
    elim c.if-stays.branch [
      | then-stays w ↦
          rw (w.self-is, w.count-is) (ap (λ (t : State). with_times t t.clock t.pending (set t.events c.loop-i.count x)) c.loop-i.invariant.0, front_yes kept s.events now _ _ blank f h (sym c.stays.ensures ∙ w.if-stays.true))
      | else-stays w ↦ rw (w.self-is, w.count-is) (c.loop-i.invariant.0, front_no kept s.events now _ _ blank f h (sym c.stays.ensures ∙ w.if-stays.false))
    ]

pub returns : goal.returns
unfolding with_pending
returns c =
    let s = c.args.self.now in
    let kept : Pending → Bool = λ p. not_dropped s.clock c.args.to p.time in
    let n = length c.live-n.result.now in
    let many : n ≡ length (live s) = ap length c.live-n.ensures.value in
    let end : c.loop-i.i ≡ n = omega arith in
    let all : take c.loop-i.i s.events ≡ live s = (λ i. take ((end ∙ many) i) s.events) ∙ taken_again s.pending s.events in
    let f = c.loop-i.invariant.1 in
    c.clear_rest.ensures.value
    ∙ ap (λ (t : State). with_pending (with_times t c.args.to c.loop-i.count t.events) (take c.loop-i.count t.events)) c.loop-i.invariant.0
    ∙ ap (standing s c.args.to) (f.front ∙ ap (keep kept) all)
    ∙ passed_to s c.args.to (omega arith)
