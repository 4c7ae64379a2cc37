-- `desk_lines::bring` meets its contract. Assumes nothing.
use Rattle.desk_lines.proofs.Laws.{bring_none, bring_all}
use Rattle.desk_lines.proofs.bring.Goals as goal

pub returns-then-end-bytes : goal.returns-then-end-bytes
returns-then-end-bytes c = bring_all _ _ _ c.if-from-end.true c.if-end-bytes.true c.min-n.ensures c.copy_within.ensures.after

pub returns : goal.returns
returns c = bring_none _ _ _ c.else-from-end.either
