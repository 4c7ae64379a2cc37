-- `machine::Called::conclude` meets its contract. Assumes nothing.
use mathlib.Core.Path.{◌≡◌, sym, ap, ◌∙◌}
use native.Mathlib.Omega.{arith}
use Rattle.std.specs.Prelude.{length, Result, None, Ok}
use Rattle.contract.specs.Decode.{function_at}
use Rattle.evaluation.specs.Memory.{memory_of}
use Rattle.statements.specs.Running.{work_from}
use Rattle.holdings.specs.Holdings.{reached}
use Rattle.questions.specs.declared.Question.{Question}
use Rattle.machine.specs.Steps.{schedule}
use Rattle.machine.specs.Private.{scheduled_state, left_by}
use Rattle.machine.proofs.Functions.{row_last, events_count}
use Rattle.machine.proofs.Concluded.{few_live, none_join, call_refused, call_ends}
use Rattle.machine.proofs.Called.conclude.Goals.{then-no_events, else-no_events+in_default}
use Rattle.machine.proofs.Called.conclude.Goals as goal

pub returns-in-Err : goal.returns-in-Err
returns-in-Err c n ls =
    let a = c.args.memory.now in
    let w = work_from a.kinds.now a.numbers.now a.texts.now a.holdings.now ls n None in
    let f = function_at c.args.self.now.whole.terms.table.now c.args.self.now.n in
    call_refused c.args.s.now w f.last _ _ (ap (λ (r : Result Unit Question). left_by r c.schedule.new.s) (sym c.in-Err.is) ∙ c.schedule.ensures)

pub returns : goal.returns
returns c n ls =
    let a = c.args.memory.now in
    let s = c.args.s.now in
    let table = c.args.self.now.whole.terms.table.now in
    let w = work_from a.kinds.now a.numbers.now a.texts.now a.holdings.now ls n None in
    let f = function_at table c.args.self.now.n in
    let m = memory_of a.kinds.now a.numbers.now a.texts.now a.holdings.now a.values.now s.clock in
    let next = c.if-no_events.s in
    let count : length f.events ≡ c.args.self.now.row.events = events_count table c.args.self.now.n _ c.args.self.now.read in
    let e : Ok next ≡ scheduled_state s (schedule m s.clock c.args.self.now.n 0 f.events) =
    elim c.if-no_events.branch [
      | then-no_events x ↦ none_join m s c.args.self.now.n f.events (omega (arith, count, x.if-no_events.true)) (few_live s _ x.clear_rest.ensures.few x.clear_rest.ensures.value) next (x.s-is ∙ x.clear_rest.ensures.value)
      | else-no_events+in_default x ↦ ap Ok x.s-is ∙ ap (λ (r : Result Unit Question). left_by r x.schedule.new.s) (sym x.in_default.is) ∙ x.schedule.ensures
    ] in
    call_ends s w f.last _ next _ e (c.reach.ensures ∙ ap (reached next w) (row_last table c.args.self.now.n _ c.args.self.now.read))
