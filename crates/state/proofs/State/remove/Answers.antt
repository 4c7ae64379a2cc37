-- `state::remove` meets its contract. Assumes nothing.
use Rattle.std.proofs.Common.{◌≡◌, ap, ◌∙◌, arith, rules, length}
use Rattle.state.specs.declared.State.{State}
use Rattle.state.specs.States.{live, with_pending}
use Rattle.state.proofs.Kept.{taken_out, past_last}
use Rattle.state.proofs.State.remove.Goals.{then-i-n, else-i-n}
use Rattle.state.proofs.State.remove.Goals as goal

pub returns : goal.returns
returns c =
    let full : length c.args.self.now.events ≡ 64 = search rules in
    c.clear_rest.ensures.value
    ∙ elim c.if-i-n.branch [
      | then-i-n w ↦ ap (λ (s : State). with_pending s (live s)) w.self-is ∙ taken_out c.args.self.now c.args.i _ _ w.if-i-n.true (ap length c.live-n.ensures.value) full w.copy_within.ensures.after
      | else-i-n w ↦ ap (λ (s : State). with_pending s (live s)) w.self-is ∙ past_last c.args.self.now c.args.i (omega (arith, w.if-i-n.false, ap length c.live-n.ensures.value))
    ]
