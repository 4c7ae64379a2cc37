-- `state::clear_rest` meets its contract. Assumes nothing.
use Rattle.std.proofs.Common.{◌≡◌, ◌-◌, ap, arith, rules, length, drop}
use lib.ListN.{drop_of_length-le, length-drop}
use lib.Seq.{length-take-le}
use Rattle.state.proofs.Kept.{rest_blank}
use Rattle.state.proofs.State.clear_rest.Goals as goal

pub returns-clause-value : goal.returns-clause-value
returns-clause-value c =
    let n = length c.live-n.result.now in
    let full : length c.args.self.now.events ≡ 64 = search rules in
    let many = length-take-le (64 - n) (drop n c.args.self.now.events) (simp (length-drop, full) (omega arith)) in
    let rest = drop_of_length-le (drop n c.args.self.now.events) (simp (length-drop, full) (omega arith)) in
    rest_blank c.args.self.now n _ _ _ (ap length c.live-n.ensures.value) many (c.fill.ensures.after (search rules)) rest
