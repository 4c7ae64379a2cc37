-- `bodies::blocks::is_start` meets its contract. Assumes nothing.
use mathlib.Core.Path.{sym}
use Rattle.reading_laws.proofs.Blocks.{starts_low, starts_high, starts_key, starts_range}
use Rattle.bodies.proofs.blocks.is_start.Goals as goal

pub returns-in_default : goal.returns-in_default
returns-in_default c =
    sym (starts_low c.args.kind c.in_default.if-matches-own.true c.in_default.in_default-own.rest.1)

pub returns-in_default-2 : goal.returns-in_default-2
returns-in_default-2 c =
    sym (starts_high c.args.kind c.in_default.if-matches-2-own.false)

pub returns-in-20 : goal.returns-in-20
returns-in-20 c =
    sym (starts_key c.args.kind c.in-20.is)

pub returns-in-20-2 : goal.returns-in-20-2
returns-in-20-2 c =
    sym (starts_range c.args.kind c.in-20.if-matches-own.false c.in-20.if-matches-2-own.true)
