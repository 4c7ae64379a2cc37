-- `groups::firsts_of` meets its contract. Assumes nothing.
use mathlib.Core.Path.{ap, ◌∙◌}
use Prim.Native.Nat.{ℕ}
use mathlib.Core.List.{List}
use native.Mathlib.Omega.{arith}
use Rattle.contract.specs.declared.TableHead.{TableHead}
use Rattle.groups.proofs.Walking.{functions_left, functions_first, functions_more, functions_done}
use Rattle.groups.proofs.firsts_of.Goals as goal

pub loop-n-init : goal.loop-n-init
loop-n-init c = let w = c.args.terms.now.table.now in ap (λ (f : List ℕ). functions_left w f 0) c.apart-firsts.ensures ∙ functions_first w

pub loop-n-preserved : goal.loop-n-preserved
loop-n-preserved c =
    let w = c.args.terms.now.table.now in
    functions_more w c.loop-n.firsts c.loop-n.n (omega (arith, c.loop-n-test.true, ap (λ (h : TableHead). h.functions) c.head-n-end.ensures)) c.walk_function.ensures ∙ c.loop-n.invariant

pub returns : goal.returns
returns c =
    let w = c.args.terms.now.table.now in
    functions_done w c.loop-n.firsts c.loop-n.n (omega (arith, c.loop-n-test.false, ap (λ (h : TableHead). h.functions) c.head-n-end.ensures)) ∙ c.loop-n.invariant
