-- `bodies::blocks::Statement::action` meets its contract. Assumes nothing.
use mathlib.Core.Path.{◌≡◌, sym, ◌∙◌}
use native.Mathlib.Omega.{arith}
use Rattle.bodies.proofs.Actions.{action_sends, action_moves, action_unfit}
use Rattle.cursors.proofs.Clipped.{passed}
use Rattle.bodies.proofs.blocks.Statement.action.Goals as goal

pub returns-in-10-clause-value : goal.returns-in-10-clause-value
returns-in-10-clause-value c =
    let short = c.args.self.now.short in
    let z = c.args in
    action_sends z.self.now.text.now z.self.now.handler z.self.now.first z.self.now.from z.c _ _ c.kind_of.ensures _ _ _ _ c.in-10.is (passed _ _ _ short c.past.ensures.value) c.sends.ensures.value

pub returns-in-11-clause-value : goal.returns-in-11-clause-value
returns-in-11-clause-value c =
    let short = c.args.self.now.short in
    let z = c.args in
    let not_ten : 11 ≡ 10 → ⊥ = λ e. omega (arith, e) in
    action_moves z.self.now.text.now z.self.now.handler z.self.now.first z.self.now.from z.c _ _ c.kind_of.ensures _ _ _ _ _ (λ e. not_ten (sym c.in-11.is ∙ e)) c.in-11.is c.is_alone-alone.ensures
    (passed _ _ _ short c.past-in-11.ensures.value) c.asset_move.ensures.value

pub returns-in_default-clause-value : goal.returns-in_default-clause-value
returns-in_default-clause-value c =
    let z = c.args in
    action_unfit z.self.now.text.now z.self.now.handler z.self.now.first z.self.now.from z.c _ _ c.kind_of.ensures _ _ _ c.in_default.in_default-own.rest.0.1 c.in_default.in_default-own.rest.1 c.unfit.ensures.value
