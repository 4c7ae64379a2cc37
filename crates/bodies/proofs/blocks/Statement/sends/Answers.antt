-- `bodies::blocks::Statement::sends` meets its contract. Assumes nothing.
use Rattle.bodies.proofs.Actions.{sends_unfit, sends_on}
use Rattle.cursors.proofs.Clipped.{passed}
use Rattle.bodies.proofs.blocks.Statement.sends.Goals as goal

pub returns-then-kind_of-ne-NAME-clause-value : goal.returns-then-kind_of-ne-NAME-clause-value
returns-then-kind_of-ne-NAME-clause-value c =
    let z = c.args in
    sends_unfit z.self.now.text.now z.self.now.first z.c z.self.now.from _ _ _ _ _ c.kind_of.ensures c.if-kind_of-ne-NAME.true c.unfit.ensures.value

pub returns-clause-value : goal.returns-clause-value
returns-clause-value c =
    let short = c.args.self.now.short in
    let z = c.args in
    sends_on z.self.now.text.now z.self.now.first z.c z.self.now.from z.lent.now.table.now z.lent.now.notes.now _ _ _ _ _ _ _ _ _ _ _ _ c.kind_of.ensures c.if-kind_of-ne-NAME.false
    c.start_of.ensures c.count.ensures c.name_at.ensures.text c.name_at.ensures.word c.value_target-target.ensures
    c.start_of-2.ensures c.put_name.ensures.value c.put.ensures.value
    (passed _ _ _ short c.past.ensures.value) c.past.ensures.goes
