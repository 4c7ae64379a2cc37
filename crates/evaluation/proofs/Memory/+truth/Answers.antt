-- The proof of the cycle of calls {truth}. The measure is the node's number. Assumes nothing.
use mathlib.Core.Path.{refl}
use native.Mathlib.Omega.{arith}
use Rattle.questions.specs.declared.Question.TheVariants as ask
use Rattle.evaluation.proofs.Values.{is_counted, is_uncounted}
use Rattle.evaluation.proofs.Truths.{simple_at_lem, beyond_at, uncounted_at, refused_left, left_decides, right_decides, run_below, turned_below, refused_below}
use Rattle.std.proofs.Common.{ap, ◌∙◌}
use Rattle.std.specs.Prelude.{Err}
use Rattle.std.proofs.lemmas.Result.{err_from_is_err_and}
use Rattle.evaluation.proofs.Memory.+truth.Goals as goal

pub returns-then-kind-lt-AND : goal.returns-then-kind-lt-AND
returns-then-kind-lt-AND t c = turned_below _ _ _ _ c.run_at-run.ensures _ _ c.turned.ensures (simple_at_lem _ _ _ _ c.node_at-node.ensures _ c.if-kind-lt-AND.true (run_below _ _ _ c.run_at-run.ensures).plain c.simple-whole.ensures)

pub returns-then-kind-gt-OR : goal.returns-then-kind-gt-OR
returns-then-kind-gt-OR t c = refused_below _ _ _ _ c.run_at-run.ensures _ ask.TableCheck refl (beyond_at _ _ _ _ c.node_at-node.ensures c.if-kind-gt-OR.true)

pub returns-in_err-left : goal.returns-in_err-left
returns-in_err-left t c =
    let p = err_from_is_err_and c.from_residual.result c.from_residual.ensures.1 in
    let u = is_uncounted _ _ _ _ c.left_of.ensures c.in_err-left.was in
    p.1 ∙ ap Err (p.2 ∙ u.1) ∙ refused_below _ _ _ _ c.run_at-run.ensures _ ask.TableCheck refl
    (uncounted_at _ _ _ _ c.node_at-node.ensures c.if-kind-lt-AND.false u.0)

pub overflow_sub-last : goal.overflow_sub-last
overflow_sub-last t c = let parts = is_counted _ _ _ _ c.left_of.ensures c.in_ok-left.was in omega (arith, parts.below)

pub returns-in_default : goal.returns-in_default
returns-in_default t c =
    refused_below _ _ _ _ c.run_at-run.ensures _ _ c.in_default.is
    (refused_left _ _ _ _ c.node_at-node.ensures _ _ c.if-kind-lt-AND.false c.if-kind-gt-OR.false (is_counted _ _ _ _ c.left_of.ensures c.in_ok-left.was)
    c.truth-one.ensures _ c.in_default.is)

pub returns-then-decides : goal.returns-then-decides
returns-then-decides t c =
    turned_below _ _ _ _ c.run_at-run.ensures _ _ c.turned-then-decides.ensures
    (left_decides _ _ _ _ c.node_at-node.ensures _ _ c.if-kind-lt-AND.false c.if-kind-gt-OR.false (is_counted _ _ _ _ c.left_of.ensures c.in_ok-left.was)
    c.truth-one.ensures _ _ c.in-Ok.is c.decides.ensures c.if-decides.true)

pub returns : goal.returns
returns t c =
    turned_below _ _ _ _ c.run_at-run.ensures _ _ c.turned-2.ensures
    (right_decides _ _ _ _ c.node_at-node.ensures _ _ c.if-kind-lt-AND.false c.if-kind-gt-OR.false (is_counted _ _ _ _ c.left_of.ensures c.in_ok-left.was)
    c.truth-one.ensures _ _ _ c.in-Ok.is c.decides.ensures c.if-decides.false c.truth-other.ensures)

pub truth-one-requires : goal.truth-one-requires
truth-one-requires t c =
    let parts = is_counted _ _ _ _ c.left_of.ensures c.in_ok-left.was in (omega (arith, c.decreases, parts.below, (run_below _ _ _ c.run_at-run.ensures).low), tt)

pub truth-other-requires : goal.truth-other-requires
truth-other-requires t c =
    let parts = is_counted _ _ _ _ c.left_of.ensures c.in_ok-left.was in (omega (arith, c.decreases, parts.below, (run_below _ _ _ c.run_at-run.ensures).low), tt)
