-- `reader::agreement::part_of` meets its contract. Assumes nothing.
use mathlib.Core.Bool.{Bool, ◌&&◌, not}
use mathlib.Core.Path.{sym, ap, ◌∙◌}
use lib.Bits.{bit_and}
use lib.Dec.{eqb}
use Rattle.reading_laws.specs.Masks.{part_of}
use Rattle.reader.proofs.agreement.part_of.Goals as goal

pub returns-then-not-holds : goal.returns-then-not-holds
unfolding part_of
returns-then-not-holds c =
    sym (ap (λ (twice : Bool). not twice && eqb (bit_and c.args.mask c.args.other) c.args.mask) (sym c.holds.ensures ∙ c.if-not-holds.true))

pub returns-else-not-holds : goal.returns-else-not-holds
unfolding part_of
returns-else-not-holds c =
    ap not c.if-not-holds.false
    ∙ sym (ap (λ (twice : Bool). not twice && eqb (bit_and c.args.mask c.args.other) c.args.mask) (sym c.holds.ensures ∙ c.if-not-holds.false))
