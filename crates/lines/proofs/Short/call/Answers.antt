-- `lines::Short::call` meets its contract. Assumes nothing.
use Rattle.std.proofs.Common.{rules, arith, ◌+◌}
use lib.ListN.{length-take}
use Rattle.lines.proofs.Forms.{call_put, call_as}
use Rattle.lines.proofs.Short.call.Goals as goal

pub overflow_add-read : goal.overflow_add-read
overflow_add-read c =
    let put = call_put c.in_ok-call.call _ c.args.numbers.now _ _ c.args.self.now.short (search rules) c.in_ok-call.ensures in
    record { fits = omega (arith, put.0) }

pub slice_bounds-read-end : goal.slice_bounds-read-end
slice_bounds-read-end c =
    let put = call_put c.in_ok-call.call _ c.args.numbers.now _ _ c.args.self.now.short (search rules) c.in_ok-call.ensures in
    omega (arith, put.0, c.call_line.array_long)

pub slice_bounds-store_all-end-2 : goal.slice_bounds-store_all-end-2
slice_bounds-store_all-end-2 c =
    let put = call_put c.in_ok-call.call _ c.args.numbers.now _ _ c.args.self.now.short (search rules) c.in_ok-call.ensures in
    omega (arith, put.0, c.call_line.array_long, length-take (c.in_ok-call.call.values + c.in_ok-call.call.assets) c.call_line.new.numbers)

pub returns-clause-call : goal.returns-clause-call
returns-clause-call c =
    let put = call_put c.in_ok-call.call _ c.args.numbers.now _ _ c.args.self.now.short (search rules) c.in_ok-call.ensures in
    call_as _ _ _ put.1 c.store_all.ensures
