-- `evaluation::Memory::compared_at` meets its contract. Assumes nothing.
use native.Mathlib.Omega.{arith}
use Rattle.evaluation.proofs.Values.{is_counted, is_uncounted}
use Rattle.evaluation.proofs.Truths.{compared_uncounted, compared_left, compared_right, compared_both}
use Rattle.std.proofs.Common.{ap, ◌∙◌}
use Rattle.std.specs.Prelude.{Err}
use Rattle.std.proofs.lemmas.Result.{err_from_is_err_and}
use Rattle.evaluation.proofs.Memory.compared_at.Goals as goal

pub returns-in_err-left : goal.returns-in_err-left
returns-in_err-left c =
    let p = err_from_is_err_and c.from_residual.result c.from_residual.ensures.1 in
    let u = is_uncounted _ _ _ _ c.left_of.ensures c.in_err-left.was in
    p.1 ∙ ap Err (p.2 ∙ u.1) ∙ compared_uncounted _ _ _ _ c.node_at-node.ensures u.0

pub overflow_sub-last : goal.overflow_sub-last
overflow_sub-last c = let parts = is_counted _ _ _ _ c.left_of.ensures c.in_ok-left.was in omega (arith, parts.below)

pub returns-in_default : goal.returns-in_default
returns-in_default c =
    compared_left _ _ _ _ c.node_at-node.ensures _ _ (is_counted _ _ _ _ c.left_of.ensures c.in_ok-left.was) c.value-x.ensures _ c.unwrap_err.ensures

pub returns-in_default-y : goal.returns-in_default-y
returns-in_default-y c =
    compared_right _ _ _ _ c.node_at-node.ensures _ _ (is_counted _ _ _ _ c.left_of.ensures c.in_ok-left.was) c.value-x.ensures _ _ _ c.in-Ok.is
    c.unwrap_err-in_default-y.ensures c.value-y.ensures

pub returns : goal.returns
returns c =
    compared_both _ _ _ _ c.node_at-node.ensures _ _ (is_counted _ _ _ _ c.left_of.ensures c.in_ok-left.was) c.value-x.ensures _ _ _ _ _ c.in-Ok.is c.in-Ok-y.is
    c.value-y.ensures c.comparison_of.ensures c.compare.ensures
