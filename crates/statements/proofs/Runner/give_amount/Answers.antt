-- `statements::Runner::give_amount` meets its contract. Assumes nothing.
use mathlib.Core.Path.{sym, ap, ◌∙◌}
use Rattle.std.proofs.lemmas.Result.{err_from_is_err_and}
use Rattle.std.specs.Prelude.{Err}
use Rattle.std.specs.Result.{result_err}
use Rattle.contract.specs.Rows.{node_of}
use Rattle.statements.specs.Lending.{work_by, work_of, groups_by}
use Rattle.statements.proofs.Actions.{amount_refused, amount_unfit, amount_paid, amount_moved}
use Rattle.statements.proofs.Runner.give_amount.Goals as goal

pub returns-in_default-clause-value : goal.returns-in_default-clause-value
returns-in_default-clause-value c =
    let s = c.args in
    amount_refused (groups_by s.self.now) (work_of s.self.now) s.self.now.table.now s.k s.answer _ c.unwrap_err.ensures

pub returns-in_err-n-clause-value : goal.returns-in_err-n-clause-value
returns-in_err-n-clause-value c =
    let s = c.args in
    let p = err_from_is_err_and c.from_residual.result c.from_residual.ensures.1 in
    ap (λ o. work_by s.self.now (result_err o)) (p.1 ∙ ap Err p.2)
    ∙ amount_unfit (groups_by s.self.now) (work_of s.self.now) s.self.now.table.now s.k s.answer _ c.in-Ok.is _ (sym c.amount.ensures ∙ c.in_err-n.was)

pub returns-then-target-eq-PARTY-clause-value : goal.returns-then-target-eq-PARTY-clause-value
returns-then-target-eq-PARTY-clause-value c =
    let s = c.args in
    let t = s.self.now.table.now in
    let es = c.node_at-source.ensures ∙ ap (node_of t) c.saturating_sub.ensures in
    let et = c.node_at-target.ensures ∙ ap (node_of t) c.saturating_sub-2.ensures in
    amount_paid (groups_by s.self.now) (work_of s.self.now) t s.k s.answer _ _ c.in-Ok.is _ et _ es _ c.place_of-i.ensures _ _ (sym c.amount.ensures ∙ c.in_ok-n.was) c.receiver_of.ensures
    c.if-target-eq-PARTY.true c.pay.ensures.value

pub returns-clause-value : goal.returns-clause-value
returns-clause-value c =
    let s = c.args in
    let t = s.self.now.table.now in
    let es = c.node_at-source.ensures ∙ ap (node_of t) c.saturating_sub.ensures in
    let et = c.node_at-target.ensures ∙ ap (node_of t) c.saturating_sub-2.ensures in
    amount_moved (groups_by s.self.now) (work_of s.self.now) t s.k s.answer _ _ c.in-Ok.is _ et _ es _ c.place_of-i.ensures _ _ (sym c.amount.ensures ∙ c.in_ok-n.was) c.if-target-eq-PARTY.false
    c.place_of.ensures c.transfer.ensures.value
