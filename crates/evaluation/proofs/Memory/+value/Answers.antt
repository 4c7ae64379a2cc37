-- The proof of the cycle of calls {operation, value}. The measure is twice the node's number, and 1 more at `value`. Assumes nothing.
use native.Mathlib.Omega.{arith}
use Rattle.evaluation.proofs.Values.{is_counted, is_uncounted, leaf_at, beyond_at, uncounted_at, refused_left, refused_right, applied_both}
use Rattle.std.proofs.Common.{ap, ◌∙◌}
use Rattle.std.specs.Prelude.{Err}
use Rattle.std.proofs.lemmas.Result.{err_from_is_err_and}
use Rattle.evaluation.proofs.Memory.+value.Goals as goal

pub operation-returns-in_err-left : goal.operation-returns-in_err-left
operation-returns-in_err-left t c =
    let p = err_from_is_err_and c.from_residual.result c.from_residual.ensures.1 in
    let u = is_uncounted _ _ _ _ c.left_of.ensures c.in_err-left.was in
    let r = c.requires in
    p.1 ∙ ap Err (p.2 ∙ u.1) ∙ uncounted_at _ _ _ _ r.kind r.at_least r.at_most u.0

pub operation-overflow_sub-last : goal.operation-overflow_sub-last
operation-overflow_sub-last t c = let parts = is_counted _ _ _ _ c.left_of.ensures c.in_ok-left.was in omega (arith, parts.below)

pub operation-value-first-requires : goal.operation-value-first-requires
operation-value-first-requires t c = let parts = is_counted _ _ _ _ c.left_of.ensures c.in_ok-left.was in (omega (arith, c.decreases, parts.below), tt)

pub operation-returns-in_default : goal.operation-returns-in_default
operation-returns-in_default t c =
    let r = c.requires in
    refused_left _ _ _ _ r.kind r.at_least r.at_most _ _ (is_counted _ _ _ _ c.left_of.ensures c.in_ok-left.was) c.value-first.ensures _ c.in_default.is

pub operation-value-second-requires : goal.operation-value-second-requires
operation-value-second-requires t c = let parts = is_counted _ _ _ _ c.left_of.ensures c.in_ok-left.was in (omega (arith, c.decreases, parts.below), tt)

pub operation-returns-in_default-second : goal.operation-returns-in_default-second
operation-returns-in_default-second t c =
    let r = c.requires in
    refused_right _ _ _ _ r.kind r.at_least r.at_most _ _ (is_counted _ _ _ _ c.left_of.ensures c.in_ok-left.was)
    c.value-first.ensures _ _ _ c.in-Ok.is c.in_default-second.is c.value-second.ensures

pub operation-returns : goal.operation-returns
operation-returns t c =
    let r = c.requires in
    applied_both _ _ _ _ r.kind r.at_least r.at_most _ _ (is_counted _ _ _ _ c.left_of.ensures c.in_ok-left.was)
    c.value-first.ensures _ _ _ _ _ c.in-Ok.is c.in-Ok-second.is c.value-second.ensures c.operator_of.ensures c.apply.ensures

pub value-returns-then-kind-lt-PLUS : goal.value-returns-then-kind-lt-PLUS
value-returns-then-kind-lt-PLUS t c = leaf_at _ _ _ _ c.node_at-node.ensures _ c.if-kind-lt-PLUS.true c.leaf.ensures

pub value-returns-then-kind-gt-OVER : goal.value-returns-then-kind-gt-OVER
value-returns-then-kind-gt-OVER t c = beyond_at _ _ _ _ c.node_at-node.ensures c.if-kind-gt-OVER.true
