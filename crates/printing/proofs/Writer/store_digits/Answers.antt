-- `printing::Writer::store_digits` meets its contract. Assumes nothing.
use mathlib.Core.Path.{◌≡◌, refl, ap, ◌∙◌}
use Prim.Native.Nat.{ℕ, suc, ◌+◌, ◌-◌, ◌/◌, ◌%◌}
use native.Mathlib.Omega.{arith}
use lib.ListN.{length, set}
use lib.Seq.{sets, length-sets}
use Rattle.printing.specs.Decimal.{decimal}
use Rattle.printing.proofs.Digits.{some_digits, last_digits, all_digits, store_last, first_stored, is_one_digit, one_less}
use Rattle.printing.proofs.Writer.store_digits.Goals as goal

pub loop-i-init : goal.loop-i-init
loop-i-init c =
    let s = c.args.self.now in
    record {
      digits = ap (sets s.buffer.now s.at) (all_digits (s.at + c.args.count - s.at) c.args.n (omega (arith, c.requires.count)));
      long = omega (arith, c.requires.count);
      same_buffer = refl;
    }

pub loop-i-preserved : goal.loop-i-preserved
loop-i-preserved c =
    let l = c.loop-i in
    let b = l.self.buffer.now in
    let at = c.args.self.now.at in
    let k = l.i - 1 - at in
    let e : l.i - 1 ≡ at + k = omega (arith, c.loop-i-test.true) in
    let f : suc k ≡ l.i - at = omega (arith, c.loop-i-test.true) in
    record {
      digits =
          ap (λ (j : ℕ). sets (set b j (48 + l.rest % 10)) at (last_digits k (l.rest / 10))) e
          ∙ store_last b at k l.rest
          ∙ ap (λ (j : ℕ). sets b at (last_digits j l.rest)) f
          ∙ l.invariant.digits;
      long = let m = one_less l.rest (omega (arith, l.invariant.long, c.loop-i-test.true)) in omega (arith, m, l.invariant.long, c.loop-i-test.true);
      same_buffer = l.invariant.same_buffer;
    }

pub overflow_cast-self-2 : goal.overflow_cast-self-2
overflow_cast-self-2 c =
    let h = is_one_digit c.loop-i.rest (omega (arith, c.loop-i.invariant.long, c.loop-i-test.false)) in
    record { fits = omega (arith, h) }

pub overflow_add-self-2 : goal.overflow_add-self-2
overflow_add-self-2 c =
    let h = is_one_digit c.loop-i.rest (omega (arith, c.loop-i.invariant.long, c.loop-i-test.false)) in
    record { fits = omega (arith, h) }

pub bounds-self-at : goal.bounds-self-at
bounds-self-at c =
    let l = c.loop-i in
    let s = c.args.self.now in
    omega (
      arith,
      ap length l.invariant.digits,
      length-sets l.self.buffer.now s.at (last_digits (l.i - s.at) l.rest),
      length-sets s.buffer.now s.at (decimal c.args.n),
      c.requires.count,
      c.requires.in_bounds,
      some_digits c.args.n,
    )

pub returns : goal.returns
returns c =
    let l = c.loop-i in
    let s = c.args.self.now in
    let k : l.i - s.at ≡ 1 = omega (arith, l.invariant.long, c.loop-i-test.false, some_digits l.rest) in
    record {
      written = record {
        place = ap (λ (k : ℕ). s.at + k) c.requires.count;
        list = first_stored l.self.buffer.now s.at (l.i - s.at) l.rest k (is_one_digit l.rest (omega (arith, k, l.invariant.long))) ∙ l.invariant.digits;
        room = omega (arith, c.requires.count, c.requires.in_bounds);
      };
      same_buffer = l.invariant.same_buffer;
    }
