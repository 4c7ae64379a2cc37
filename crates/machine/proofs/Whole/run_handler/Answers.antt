-- `machine::Whole::run_handler` meets its contract. Assumes nothing.
use mathlib.Core.Path.{refl, sym, ap, ◌∙◌}
use mathlib.Core.List.{[]}
use Rattle.std.proofs.Common.{rules}
use Rattle.std.specs.Prelude.{Option}
use Rattle.std.specs.Result.{result_err}
use Rattle.questions.specs.declared.Question.{Question}
use Rattle.contract.specs.Decode.{block_between}
use Rattle.evaluation.specs.Memory.{Memory}
use Rattle.statements.specs.Running.{Work, group_at, ran}
use Rattle.statements.specs.Lending.{work_by}
use Rattle.holdings.specs.Holdings.{amounts}
use Rattle.machine.proofs.Firings.{handler_failed, handler_ends}
use Rattle.machine.proofs.Replies.{started, quiet_as}
use Rattle.machine.proofs.Whole.run_handler.Goals as goal

pub returns-in-Err : goal.returns-in-Err
unfolding amounts
returns-in-Err c =
    let b = started c.args.s.now [] _ _ c.holdings_of-holdings.ensures c.requires in
    let run = c.run-ran.ensures.value ∙ ap (λ (x : Work). ran (group_at c.args.self.now.groups.now c.args.h.first_parameter) [] c.args.s.now.clock x (block_between c.args.self.now.terms.table.now c.args.h.from c.args.h.end)) b in
    quiet_as _ c.silent.ensures c.clear.ensures
    (handler_failed c.args.s.now c.args.h.last _ _ refl c.in-Err.question (sym (ap (λ (x : Work). x.refusal) run) ∙ ap result_err c.in-Err.is))

pub returns : goal.returns
unfolding amounts
returns c =
    let b = started c.args.s.now [] _ _ c.holdings_of-holdings.ensures c.requires in
    let run = c.run-ran.ensures.value ∙ ap (λ (x : Work). ran (group_at c.args.self.now.groups.now c.args.h.first_parameter) [] c.args.s.now.clock x (block_between c.args.self.now.terms.table.now c.args.h.from c.args.h.end)) b in
    let went = ap (λ (o : Option Question). work_by c.run-ran.new.self o) (sym (ap result_err c.in_default.is)) ∙ run in
    handler_ends c.args.s.now c.args.h.last _ c.run-ran.new.self went c.reach.ensures (ap (λ (m : Memory). m.kinds) c.memory.ensures.value) (ap (λ (m : Memory). m.numbers) c.memory.ensures.value) (ap (λ (m : Memory). m.texts) c.memory.ensures.value) (ap (λ (m : Memory). m.holdings) c.memory.ensures.value) (search rules)
