-- `bodies::blocks::Statement::moves_all` meets its contract. Assumes nothing.
use Rattle.bodies.proofs.Actions.{moved_all}
use Rattle.bodies.proofs.blocks.Statement.moves_all.Goals as goal

pub returns-clause-value : goal.returns-clause-value
returns-clause-value c =
    let z = c.args in
    moved_all z.self.now.text.now z.self.now.handler z.self.now.first z.c z.self.now.from z.lent.now.table.now z.lent.now.notes.now _ _ _ _ _ _ _ _ _ _ _ _ _ _ _ _ _ _ _ c.nodes-before.ensures
    c.start_of.ensures c.count.ensures c.start_of-2.ensures c.count-2.ensures
    c.name_at.ensures.text c.name_at.ensures.word c.holder-holder.ensures c.name_at-2.ensures.text c.name_at-2.ensures.word c.asset_target-target.ensures
    c.start_of-3.ensures c.want.ensures c.start_of-4.ensures c.want-2.ensures
    c.put.ensures.value c.put-2.ensures.value
