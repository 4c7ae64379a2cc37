-- `printing::Writer::put_negative` meets its contract. Assumes nothing.
use mathlib.Core.Path.{refl, ◌∙◌}
use mathlib.Core.List.{[], ◌∷◌}
use native.Mathlib.Omega.{arith}
use Rattle.printing.specs.Decimal.{decimal}
use Rattle.printing.proofs.Puts.{has_room, lacks_room, kept, puts_whole, puts_nothing, put_of, part}
use Rattle.printing.proofs.Digits.{word_short}
use Rattle.words.specs.Words.{spelled}
use Rattle.printing.proofs.Writer.put_negative.Goals as goal

pub overflow_add-count : goal.overflow_add-count
overflow_add-count c = record { fits = omega (arith, c.digit_count-count.ensures, word_short c.args.n c.ranges.n.fits) }

pub store_digits-requires-clause-in_bounds : goal.store_digits-requires-clause-in_bounds
unfolding spelled
store_digits-requires-clause-in_bounds c =
    let h = has_room _ _ _ c.has_room.ensures c.if-has_room.true in
    let p = put_of (45 ∷ []) c.put_word.ensures (omega (arith, h)) in
    omega (arith, h, p.place, kept p)

pub returns-then-has_room : goal.returns-then-has_room
unfolding spelled
returns-then-has_room c =
    let h = has_room _ _ _ c.has_room.ensures c.if-has_room.true in
    let p = put_of (45 ∷ []) c.put_word.ensures (omega (arith, h)) in
    puts_whole (part {v = decimal c.args.n} {u = 45 ∷ []} (omega (arith, h, c.digit_count-count.ensures)) p λ _. c.store_digits.ensures.written) (c.store_digits.ensures.same_buffer ∙ c.put_word.ensures.same_buffer)

pub returns-else-has_room : goal.returns-else-has_room
returns-else-has_room c =
    let h = lacks_room _ _ _ c.has_room.ensures c.if-has_room.false in
    puts_nothing _ _ (45 ∷ decimal c.args.n) (omega (arith, h, c.digit_count-count.ensures)) refl
