-- Each turn writes the number of the next word. Assumes nothing.
use Rattle.std.proofs.Common.{ℕ, List, ◌≡◌, true, ◌+◌, ◌-◌, ◌∙◌, sym, ap, rules, arith, lit<, length, map, drop, set, refl}
use Rattle.std.proofs.lemmas.List.{length_push, length-set}
use Rattle.trial_text.proofs.Words.{natural_read}
use Rattle.std.specs.Iterator.Adapters.{zip_first, zip_second}
use Rattle.std.specs.declared.ops.Range.{Range}
use Rattle.std.specs.List.{range_with_len, zip}
use Rattle.std.specs.Str.Iter.{split_steps, split_text, split_has_more, split_pattern}
use Rattle.std.specs.Str.Pattern.{FindsChar}
use Rattle.std.proofs.iter.Yields.{nat_range_steps}
use Rattle.std.proofs.lemmas.Iterator.{YieldsList, zips, YieldsList-from_range, YieldsList-from_zip}
use Rattle.std.proofs.lemmas.Iterator.Splits.{YieldsList-from_str_split}
use Rattle.std.proofs.lemmas.Iterator.Consumers.{YieldsList-turn, YieldsList-end}
use Rattle.trial_text.specs.Numbers.{words, natural, overwritten}
use Rattle.trial_text.proofs.Storing.{Turn, turn, written, all_written}
use Rattle.trial_text.proofs.store.Goals as goal

-- what the loop goes over: places, and beside each the next word
pairs : {s z : _} {parts : _} (from end : ℕ) (text : List ℕ) → s ≡ z → ◌≡◌ {A = Range ℕ} (zip_first z) (record { start = from; end = end }) → zip_second z ≡ parts → split_text parts ≡ text → split_has_more parts ≡ true → ◌≡◌ {A = ℕ} (split_pattern parts) 32
    → YieldsList (zips nat_range_steps (split_steps FindsChar (λ a b. b ≡ a))) (λ q. (q.0, q.1.now)) s (zip (range_with_len from (end - from)) (words text))
pairs from end text at first second whole more pattern =
    let places = YieldsList-from_range from end (end - from) (ap zip_first at ∙ first) refl in
    let left = ap zip_second at ∙ second in
    YieldsList-from_zip places (YieldsList-from_str_split 32 text (lit< tt) (ap split_text left ∙ whole) (ap split_has_more left ∙ more) (ap split_pattern left ∙ pattern))

this_turn : (c : goal.After-number) → Turn c.args.from (length c.args.numbers.now - c.args.from) (length c.loop-place.yielded) (words c.args.text.now) c.in-Some.place c.in-Some.word.now
this_turn c =
    let n = length c.args.numbers.now - c.args.from in
    let chain = pairs c.args.from (length c.args.numbers.now) c.args.text.now c.into_iter-place-iterator.ensures.into_iter_gives c.zip-place-items.ensures.first c.zip-place-items.ensures.second c.split.ensures.text c.split.ensures.has_more c.split.ensures.pattern in
    let got = YieldsList-turn chain c.loop-place.yielded _ c.loop-place.yielded_by _ c.next.new.self (c.in-Some.place, c.in-Some.word) c.in-Some.is c.next.ensures.steps in
    turn c.args.from n (length c.loop-place.yielded) (words c.args.text.now) (c.in-Some.place, c.in-Some.word.now) got.0 got.1

pub bounds-numbers-place : goal.bounds-numbers-place
bounds-numbers-place c = let t = this_turn c in omega (arith, t.at, t.room)

pub offset_bounds-numbers-place : goal.offset_bounds-numbers-place
offset_bounds-numbers-place c = let t = this_turn c in search rules

pub loop-place-preserved : goal.loop-place-preserved
loop-place-preserved c =
    let t = this_turn c in
    let k = length c.loop-place.yielded in
    let ws = words c.args.text.now in
    let numbers = c.loop-place.numbers in
    let read = c.number.ensures in
    let m = natural_read 64 c.in-Some.word.now read.0 c.number.result read.1.0 read.2 in
    let step = written c.args.from (length c.args.numbers.now - c.args.from) k ws c.in-Some.place c.in-Some.word.now numbers c.number.result t m in
    let one = length_push c.loop-place.yielded (c.in-Some.place, c.in-Some.word) in
    record {
      can = (tt, tt);
      ends = tt;
      size = length-set numbers c.in-Some.place c.number.result ∙ c.loop-place.invariant.size;
      rest = ap (λ j. overwritten (c.args.from + j) (drop j (map (natural 64) ws)) (set numbers c.in-Some.place c.number.result)) one ∙ step ∙ c.loop-place.invariant.rest;
    }

pub returns : goal.returns
returns c =
    let n = length c.args.numbers.now - c.args.from in
    let chain = pairs c.args.from (length c.args.numbers.now) c.args.text.now c.into_iter-place-iterator.ensures.into_iter_gives c.zip-place-items.ensures.first c.zip-place-items.ensures.second c.split.ensures.text c.split.ensures.has_more c.split.ensures.pattern in
    let got = YieldsList-end chain c.loop-place.yielded _ c.loop-place.yielded_by _ c.next.new.self c.in-None.is c.next.ensures.steps in
    sym (all_written c.args.from n (length c.loop-place.yielded) (words c.args.text.now) c.loop-place.numbers got.1 (omega (arith, c.loop-place.invariant.size))) ∙ c.loop-place.invariant.rest
