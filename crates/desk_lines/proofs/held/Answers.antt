-- `desk_lines::held` meets its contract. Assumes nothing.
use mathlib.Core.Path.{ap, ◌∙◌}
use mathlib.Core.List.{List}
use Prim.Native.Nat.{ℕ, ◌*◌, ◌<◌}
use lib.ListN.{length-take}
use lib.Seq.{sets, get_or-take}
use native.Mathlib.Omega.{arith}
use Rattle.contract.specs.declared.TableHead.{TableHead}
use Rattle.state.proofs.Lengths.{assets_length}
use Rattle.desk_lines.proofs.Laws.{holds_one, holds_all}
use Rattle.desk_lines.proofs.held.Goals as goal

pub loop-i-preserved : goal.loop-i-preserved
loop-i-preserved c =
    let assets = c.args.s.assets in
    let n = c.min-count.result in
    let i = c.loop-i.i in
    let k : i < n = omega (arith, c.loop-i-test.true, length-take n assets) in
    holds_one _ _ _ _ _ _ _ c.loop-i.invariant k (omega (arith, k, c.min-count.ensures, assets_length c.args.s _ c.well_formed.1.0)) (get_or-take n assets i 0 k)
    (c.store_all.ensures ∙ ap (λ (l : List ℕ). sets c.loop-i.numbers (4 * i) l) c.numbers.ensures)

pub returns : goal.returns
returns c =
    let l = assets_length c.args.s _ c.well_formed.1.0 in
    holds_all c.loop-i.invariant _ (omega (arith, c.min-count.ensures, ap (λ (h : TableHead). h.assets) c.head-c.ensures, l))
    (omega (arith, c.loop-i-test.false, length-take c.min-count.result c.args.s.assets, c.min-count.ensures, l))
