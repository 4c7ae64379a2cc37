-- `trial_text::store_leading` meets its contract. Assumes nothing.
use Rattle.std.proofs.Common.{rules, tests, refl, sym, ◌∙◌, ◌≡◌, ◌<◌, length, ◌-◌, arith}
use Rattle.trial_text.proofs.Storing.{stored_one, stored_full, stored_end}
use Rattle.trial_text.proofs.store_leading.Goals as goal

pub loop-place-init : goal.loop-place-init
loop-place-init c = refl

pub loop-place-preserved : goal.loop-place-preserved
loop-place-preserved c =
    let more = c.loop-place.more.now in
    let is : 0 < length more = search (rules, tests, arith) in
    rw c.leading_number-n.ensures.number (rw c.leading_number-n.ensures.behind (stored_one (length c.args.numbers.now) c.loop-place.place more c.loop-place.numbers c.loop-place-test.true is ∙ c.loop-place.invariant))

pub returns-after-loop-place : goal.returns-after-loop-place
returns-after-loop-place c = sym (stored_full _ c.loop-place.place c.loop-place.more.now c.loop-place.numbers (c.loop-place-test.false)) ∙ c.loop-place.invariant

pub returns-then-is_empty : goal.returns-then-is_empty
returns-then-is_empty c =
    let more = c.loop-place.more.now in
    let none : length more ≡ 0 = search (rules, tests, arith) in
    sym (stored_end (length c.args.numbers.now - c.loop-place.place) c.loop-place.place more c.loop-place.numbers none) ∙ c.loop-place.invariant
