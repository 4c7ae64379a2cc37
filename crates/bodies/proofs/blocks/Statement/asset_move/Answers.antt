-- `bodies::blocks::Statement::asset_move` meets its contract. Assumes nothing.
use Rattle.bodies.proofs.Actions.{asset_unfit, asset_moves, asset_all, asset_none}
use Rattle.cursors.proofs.Clipped.{passed}
use Rattle.bodies.proofs.blocks.Statement.asset_move.Goals as goal

pub returns-then-kind_of-ne-NAME-clause-value : goal.returns-then-kind_of-ne-NAME-clause-value
returns-then-kind_of-ne-NAME-clause-value c =
    let z = c.args in
    asset_unfit z.self.now.text.now z.self.now.handler z.self.now.first z.self.now.from z.alone z.c _ _ c.kind_of.ensures _ _ _ c.if-kind_of-ne-NAME.true c.unfit.ensures.value

pub returns-then-kind_of-eq-COMMA-clause-value : goal.returns-then-kind_of-eq-COMMA-clause-value
returns-then-kind_of-eq-COMMA-clause-value c =
    let short = c.args.self.now.short in
    let z = c.args in
    asset_moves z.self.now.text.now z.self.now.handler z.self.now.first z.self.now.from z.alone z.c _ _ c.kind_of.ensures c.if-kind_of-ne-NAME.false _ (passed _ _ _ short c.past-d.ensures.value) _ c.kind_of-2.ensures
    _ _ _ _ c.if-kind_of-eq-COMMA.true (passed _ _ _ short c.past.ensures.value) c.moves.ensures.value

pub returns-then-alone-clause-value : goal.returns-then-alone-clause-value
returns-then-alone-clause-value c =
    let short = c.args.self.now.short in
    let z = c.args in
    asset_all z.self.now.text.now z.self.now.handler z.self.now.first z.self.now.from z.alone z.c _ _ c.kind_of.ensures c.if-kind_of-ne-NAME.false _ (passed _ _ _ short c.past-d.ensures.value) _ c.kind_of-2.ensures
    _ _ c.past-d.ensures.goes c.if-kind_of-eq-COMMA.false c.if-alone.true c.moves_all.ensures.value

pub returns-clause-value : goal.returns-clause-value
returns-clause-value c =
    let short = c.args.self.now.short in
    let z = c.args in
    asset_none z.self.now.text.now z.self.now.handler z.self.now.first z.self.now.from z.alone z.c _ _ c.kind_of.ensures c.if-kind_of-ne-NAME.false _ (passed _ _ _ short c.past-d.ensures.value) _ c.kind_of-2.ensures
    _ _ _ c.if-kind_of-eq-COMMA.false c.if-alone.false c.unfit-2.ensures.value
