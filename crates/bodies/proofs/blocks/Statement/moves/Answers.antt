-- `bodies::blocks::Statement::moves` meets its contract. Assumes nothing.
use Rattle.bodies.proofs.Actions.{moves_unfit, moves_on}
use Rattle.cursors.proofs.Clipped.{passed}
use Rattle.bodies.proofs.blocks.Statement.moves.Goals as goal

pub returns-then-kind_of-ne-NAME-clause-value : goal.returns-then-kind_of-ne-NAME-clause-value
returns-then-kind_of-ne-NAME-clause-value c =
    let z = c.args in
    moves_unfit z.self.now.text.now z.self.now.handler z.self.now.first z.source z.c z.self.now.from _ _ _ _ _ c.kind_of.ensures c.if-kind_of-ne-NAME.true c.unfit.ensures.value

pub returns-clause-value : goal.returns-clause-value
returns-clause-value c =
    let short = c.args.self.now.short in
    let z = c.args in
    moves_on z.self.now.text.now z.self.now.handler z.self.now.first z.source z.c z.self.now.from z.lent.now.table.now z.lent.now.notes.now _ _ _ _ _ _ _ _ _ _ _ _ _ _ _ _ _ _ c.kind_of.ensures c.if-kind_of-ne-NAME.false
    c.start_of.ensures c.count.ensures c.name_at.ensures.text c.name_at.ensures.word c.holder-holder.ensures
    c.start_of-2.ensures c.put_name.ensures.value c.name_at-2.ensures.text c.name_at-2.ensures.word c.asset_target-target.ensures
    c.start_of-3.ensures c.put_name-2.ensures.value c.put.ensures.value
    (passed _ _ _ short c.past.ensures.value) c.past.ensures.goes
