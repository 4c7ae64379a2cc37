-- `groups::walk_function` meets its contract. Assumes nothing.
use mathlib.Core.Path.{◌∙◌}
use native.Mathlib.Omega.{arith}
use Rattle.std.proofs.Common.{rules}
use Rattle.contract.specs.Decode.{each_from, event_at}
use Rattle.groups.specs.Groups.{handler_moves, with_moves}
use Rattle.groups.proofs.Walking.{placed, row_nodes, walk_both}
use Rattle.groups.proofs.walk_function.Goals as goal

pub overflow_mul-walk : goal.overflow_mul-walk
overflow_mul-walk c = let p = placed c.args.terms.now.table.now c.args.terms.now.whole c.args.n c.requires in omega (arith, p.number)

pub overflow_add-walk : goal.overflow_add-walk
overflow_add-walk c = let p = placed c.args.terms.now.table.now c.args.terms.now.whole c.args.n c.requires in omega (arith, p.number)

pub overflow_add-body : goal.overflow_add-body
overflow_add-body c =
    let p = placed c.args.terms.now.table.now c.args.terms.now.whole c.args.n c.requires in
    omega (arith, row_nodes c.args.terms.now.table.now c.args.n _ c.function_at-row.ensures p)

pub overflow_add-body-2 : goal.overflow_add-body-2
overflow_add-body-2 c =
    let p = placed c.args.terms.now.table.now c.args.terms.now.whole c.args.n c.requires in
    omega (arith, row_nodes c.args.terms.now.table.now c.args.n _ c.function_at-row.ensures p)

pub returns : goal.returns
returns c =
    let l = c.walk.ensures.same_lists in
    let r = c.function_at-row.result in
    walk_both c.args.terms.now.table.now c.args.n _ c.function_at-row.ensures c.args.firsts.now c.walk.ensures.value
    (search rules ∙ c.walk_handlers.ensures.value
    ∙ (λ i. with_moves c.walk.new.self.firsts.now (handler_moves (l.first_parameter i) (each_from r.event r.events (event_at (l.table i).now)))))
