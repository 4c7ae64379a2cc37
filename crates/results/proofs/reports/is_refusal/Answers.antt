-- `results::reports::is_refusal` meets its contract. Assumes nothing.
use mathlib.Core.Bool.{◌||◌}
use lib.Dec.{eqb}
use Rattle.results.specs.Lines.{refusal}
use Rattle.results.proofs.reports.is_refusal.Goals as goal

pub returns : goal.returns
unfolding refusal
returns c =
    let n = c.args.n in
    λ i. eqb n 3 || (eqb n 4 || (c.is_within.ensures i || (c.is_within-2.ensures i || (c.is_within-3.ensures i || eqb n 62))))
