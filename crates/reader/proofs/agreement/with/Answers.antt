-- `reader::agreement::with` meets its contract. Assumes nothing.
use mathlib.Core.Path.{sym, ap, ◌∙◌}
use Prim.Native.Nat.{ℕ, ◌^◌, ◌≤◌}
use native.Mathlib.Omega.{arith}
use lib.Bits.{bit_or}
use Rattle.laws.proofs.Choice.{pick_true, pick_false}
use Rattle.reading_laws.specs.Masks.{with}
use Rattle.reading_laws.proofs.Masked.{bit_at}
use Rattle.reader.proofs.agreement.with.Goals as goal

pub returns-then-holds : goal.returns-then-holds
unfolding with
returns-then-holds c =
    sym (pick_true _ _ _ (sym c.holds.ensures ∙ c.if-holds.true))

pub returns : goal.returns
unfolding with
returns c =
    let low : c.place.result ≤ 63 = omega (arith, c.place.ensures) in
    ap (bit_or c.args.mask) (bit_at c.place.result low ∙ ap (λ (k : ℕ). 2 ^ k) c.place.ensures)
    ∙ sym (pick_false _ _ _ (sym c.holds.ensures ∙ c.if-holds.false))
