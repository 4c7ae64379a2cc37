-- `machine::Whole::call_on` meets its contract. Assumes nothing.
use mathlib.Core.Path.{sym, ap, ◌∙◌}
use Rattle.std.proofs.lemmas.Result.{err_from_is_err_and}
use Rattle.std.specs.Prelude.{ℕ, Result, Err}
use Rattle.questions.specs.declared.Question.{Question}
use Rattle.contract.specs.Decode.{contract_of}
use Rattle.machine.specs.Private.{stepped_in, reply_of}
use Rattle.machine.proofs.Calls.{call_away, call_unknown, call_found}
use Rattle.machine.proofs.Performed.{turned}
use Rattle.machine.proofs.Gates.{rests}
use Rattle.machine.proofs.Whole.call_on.Goals as goal

pub returns-in_err-at_rest : goal.returns-in_err-at_rest
returns-in_err-at_rest c =
    let a = c.args in
    let p = err_from_is_err_and c.from_residual.result c.from_residual.ensures.1 in
    ap (λ (r : Result ℕ Question). stepped_in (reply_of r) a.s.now a.labels.now) (p.1 ∙ ap Err p.2)
    ∙ turned a.s.now _ _ c.requires.no_labels _ (call_away (contract_of a.self.now.terms.table.now) a.s.now (record { caller = a.caller.now; function = a.function.now; values = a.values.now; assets = a.assets.now }) _ c.requires.due (sym c.in_err-at_rest.was ∙ c.at_rest.ensures))

pub returns-in_default : goal.returns-in_default
returns-in_default c =
    let a = c.args in
    let r = rests a.s.now _ (sym c.in_ok-at_rest.was ∙ c.at_rest.ensures) in
    turned a.s.now _ _ c.requires.no_labels _ (call_unknown a.self.now.terms.table.now a.s.now (record { caller = a.caller.now; function = a.function.now; values = a.values.now; assets = a.assets.now }) _ c.requires.due r.0 r.1 _ c.find_function-found.ensures c.in_default.is)

pub returns : goal.returns
returns c =
    let a = c.args in
    let r = rests a.s.now _ (sym c.in_ok-at_rest.was ∙ c.at_rest.ensures) in
    c.invoke.ensures ∙ (call_found a.self.now.terms.table.now a.s.now (record { caller = a.caller.now; function = a.function.now; values = a.values.now; assets = a.assets.now }) _ c.requires.due r.0 r.1 _ c.find_function-found.ensures _ c.in-Some.is)
