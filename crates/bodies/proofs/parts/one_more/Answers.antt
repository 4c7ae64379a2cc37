-- `bodies::parts::one_more` meets its contract. Assumes nothing.
use Rattle.reading_laws.proofs.Exits as parts
use Rattle.bodies.proofs.parts.one_more.Goals as goal

pub returns-then-n : goal.returns-then-n
returns-then-n c =
    parts.one_more _ _ _ c.word-n.ensures c.if-n.true c.set.ensures

pub returns-else-n : goal.returns-else-n
returns-else-n c =
    parts.no_more _ _ c.word-n.ensures c.if-n.false
