-- `machine::turns::clear_sent` meets its contract. Assumes nothing.
use mathlib.Core.Path.{◌≡◌, ap, ◌∙◌}
use Prim.Native.Nat.{ℕ, ◌*◌}
use native.Mathlib.Omega.{arith}
use lib.ListN.{length, take, replicate}
use lib.Seq.{length-take-le}
use lib.IntN.{pos}
use Rattle.std.proofs.Common.{rules}
use Rattle.machine.proofs.Cleared.{all_cleared}
use Rattle.machine.proofs.turns.clear_sent.Goals as goal

pub returns : goal.returns
returns c =
    let n = c.min-sent.result in
    let ws = c.args.labels.now in
    let k : length (take (4 * n) ws) ≡ 4 * n = length-take-le (4 * n) ws (omega (arith, c.min-sent.ensures, c.told-labels)) in
    all_cleared c.args.count n ws _ c.min-sent.ensures c.told-labels c.requires (c.fill.ensures.after (search rules) ∙ ap (λ (m : ℕ). replicate m (pos 0)) k)
