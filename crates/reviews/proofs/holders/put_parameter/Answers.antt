-- `reviews::holders::put_parameter` meets its contract. Assumes nothing.
use mathlib.Core.Path.{refl}
use native.Mathlib.Omega.{arith}
use Rattle.contract_laws.proofs.Sound.{passed}
use Rattle.contract.proofs.Passed.{function_passed}
use Rattle.words.specs.Words.{spelled, space, open_bracket}
use Rattle.printing.proofs.Puts.{put_of, kept}
use Rattle.reviews.proofs.Texts.{function_few, function_short, parameter_put}
use Rattle.reviews.proofs.holders.put_parameter.Goals as goal

pub overflow_add-n-2 : goal.overflow_add-n-2
overflow_add-n-2 c =
    let t = c.args.terms.now in
    let few = function_few t.table.now t.whole c.args.n c.requires.function in
    let m = (function_passed t.table.now c.args.n ((passed t.table.now t.whole).functions c.args.n c.requires.function)).parameters in
    omega (arith, few, m, c.requires.parameter)

pub put_packed-requires : goal.put_packed-requires
unfolding spelled
put_packed-requires c =
    let t = c.args.terms.now in
    let p = c.put_function.ensures.written in
    let short = function_short t.table.now t.whole c.args.n c.requires.function in
    let q = put_of (spelled space) c.put_word.ensures (omega (arith, p.place, kept p, short, c.requires.room)) in
    let r = put_of (spelled open_bracket) c.put_word-2.ensures (omega (arith, p.place, kept p, q.place, kept q, short, c.requires.room)) in
    omega (arith, p.place, kept p, q.place, kept q, r.place, kept r, short, c.requires.room)

pub returns-clause-written : goal.returns-clause-written
returns-clause-written c =
    let t = c.args.terms.now in
    parameter_put t.table.now t.whole c.args.n c.requires.function c.args.j c.requires.parameter c.requires.room _ refl
    c.put_function.ensures.written c.put_word.ensures c.put_word-2.ensures c.put_packed.ensures.written c.put_word-3.ensures
