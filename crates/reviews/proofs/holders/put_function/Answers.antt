-- `reviews::holders::put_function` meets its contract. Assumes nothing.
use native.Mathlib.Omega.{arith}
use Rattle.reviews.proofs.Texts.{function_few, row_low, function_put}
use Rattle.reviews.proofs.holders.put_function.Goals as goal

pub overflow_mul-row : goal.overflow_mul-row
overflow_mul-row c = let t = c.args.terms.now in omega (arith, (row_low t.table.now t.whole c.args.n c.requires.function _ c.function_at-row.ensures).0)

pub overflow_add-row : goal.overflow_add-row
overflow_add-row c = let t = c.args.terms.now in omega (arith, (row_low t.table.now t.whole c.args.n c.requires.function _ c.function_at-row.ensures).0)

pub overflow_mul-row-2 : goal.overflow_mul-row-2
overflow_mul-row-2 c = let t = c.args.terms.now in omega (arith, (row_low t.table.now t.whole c.args.n c.requires.function _ c.function_at-row.ensures).1)

pub overflow_add-row-2 : goal.overflow_add-row-2
overflow_add-row-2 c = let t = c.args.terms.now in omega (arith, (row_low t.table.now t.whole c.args.n c.requires.function _ c.function_at-row.ensures).1)

pub overflow_mul-n : goal.overflow_mul-n
overflow_mul-n c = let t = c.args.terms.now in omega (arith, function_few t.table.now t.whole c.args.n c.requires.function)

pub overflow_add-n : goal.overflow_add-n
overflow_add-n c = let t = c.args.terms.now in omega (arith, function_few t.table.now t.whole c.args.n c.requires.function)

pub overflow_add-n-2 : goal.overflow_add-n-2
overflow_add-n-2 c = let t = c.args.terms.now in omega (arith, function_few t.table.now t.whole c.args.n c.requires.function)

pub returns-clause-written : goal.returns-clause-written
returns-clause-written c =
    let t = c.args.terms.now in
    function_put t.table.now t.whole c.args.n c.requires.function _ c.function_at-row.ensures c.requires.room
    c.put_word.ensures c.put_name.ensures c.put_word-2.ensures c.put_name-2.ensures c.put_word-3.ensures c.put_word-4.ensures c.put_word-5.ensures c.put_name-3.ensures
