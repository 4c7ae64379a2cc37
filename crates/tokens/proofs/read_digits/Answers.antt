-- `tokens::read_digits` meets its contract. Assumes nothing.
use Rattle.std.proofs.Common.{ℕ, ◌+◌, ◌-◌, ◌*◌, min, max, ◌∙◌, sym, ap, refl, drop, get_or, length, arith}
use Rattle.laws.proofs.Lists.{past}
use Rattle.tokens.proofs.Laws.{run_go, run_stop, decimal_go, decimal_stop, decimal_min, digits_are}
use Rattle.tokens.proofs.Runs.{run_past}
use Rattle.tokens.specs.Classes.{is_digit, run, decimal}
use Rattle.tokens.proofs.read_digits.Goals as goal

pub loop-end-init : goal.loop-end-init
loop-end-init c = (omega arith, refl, refl)

pub loop-end-preserved : goal.loop-end-preserved
loop-end-preserved c =
    let s = c.args.text.now in
    let k = c.loop-end in
    let d = sym c.is_digit.ensures ∙ c.if-not-is_digit.false in (
      omega (arith, c.push-value.ensures),
      omega (arith, k.invariant.1, run_go s k.end c.loop-end-test.true is_digit d),
      decimal_min 9223372036854775809 c.push-value.result (k.value * 10 + (get_or s k.end 0 - 48)) (drop (k.end + 1) s) (omega (arith, c.push-value.ensures))
          ∙ ap (λ (n : ℕ). min n 9223372036854775809) (sym (decimal_go s k.end c.loop-end-test.true k.value d))
          ∙ k.invariant.2,
    )

pub returns-then-not-is_digit : goal.returns-then-not-is_digit
returns-then-not-is_digit c =
    let s = c.args.text.now in
    let k = c.loop-end in
    let d = sym c.is_digit.ensures ∙ c.if-not-is_digit.true in
    digits_are s c.args.at k.end k.value (omega (arith, k.invariant.1, run_stop s k.end c.loop-end-test.true is_digit d)) (omega (arith, k.invariant.0, k.invariant.2, decimal_stop s k.end c.loop-end-test.true k.value d))

pub returns : goal.returns
unfolding run decimal
returns c =
    let s = c.args.text.now in
    let k = c.loop-end in
    let l = c.loop-end-test.false in
    digits_are s c.args.at c.max-end.result k.value (c.max-end.ensures ∙ run_past is_digit s c.args.at k.end l k.auto.end-end k.invariant.1) (omega (arith, k.invariant.0, k.invariant.2, past (decimal k.value) s k.end l))
