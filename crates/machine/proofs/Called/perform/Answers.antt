-- `machine::Called::perform` meets its contract. Assumes nothing.
use mathlib.Core.Path.{refl, sym, ap, ◌∙◌}
use mathlib.Core.List.{List}
use Prim.Native.Nat.{ℕ}
use native.Mathlib.Omega.{arith}
use lib.IntN.{ℤ}
use Rattle.evaluation.specs.Memory.{Memory}
use Rattle.machine.specs.Steps.{finished}
use Rattle.statements.specs.declared.Label.{Label}
use Rattle.contract.specs.Decode.{function_at}
use Rattle.std.proofs.Common.{rules}
use Rattle.std.specs.Prelude.{Option, None}
use Rattle.questions.specs.declared.Question.{Question}
use Rattle.std.specs.Result.{result_err}
use Rattle.statements.specs.Running.{Work, group_at, ran, work_from}
use Rattle.groups.specs.Groups.{first_parameter}
use Rattle.statements.specs.Lending.{work_by}
use Rattle.machine.proofs.Calls.{body_refused}
use Rattle.machine.proofs.Functions.{placed, row_body, row_nodes}
use Rattle.machine.proofs.Performed.{turned, performed_sends, performed_nothing}
use Rattle.machine.proofs.Called.perform.Goals as goal

pub overflow_add-from : goal.overflow_add-from
overflow_add-from c =
    let a = c.args in
    omega (arith, row_nodes a.self.now.whole.terms.table.now a.self.now.n _ c.args.self.now.read (placed a.self.now.whole.terms.table.now c.args.self.now.whole.terms.whole a.self.now.n c.args.self.now.inside))

pub overflow_add-from-2 : goal.overflow_add-from-2
overflow_add-from-2 c =
    let a = c.args in
    omega (arith, row_nodes a.self.now.whole.terms.table.now a.self.now.n _ c.args.self.now.read (placed a.self.now.whole.terms.table.now c.args.self.now.whole.terms.whole a.self.now.n c.args.self.now.inside))

pub returns-in-Err : goal.returns-in-Err
returns-in-Err c =
    let a = c.args in
    let f = function_at a.self.now.whole.terms.table.now a.self.now.n in
    let run = c.run-ran.ensures.value ∙ (λ i. ran (group_at (c.args.self.now.whole.numbered i) (first_parameter a.self.now.n)) a.values.now a.s.now.clock (work_from a.s.now.kinds a.s.now.numbers a.s.now.texts a.holdings.now (c.requires i) 0 None) (row_body a.self.now.whole.terms.table.now a.self.now.n _ c.args.self.now.read i)) in
    turned a.s.now c.in-Err.question _ c.clear.ensures _ (body_refused a.s.now a.self.now.n f a.values.now _ c.in-Err.question (sym (ap (λ (x : Work). x.refusal) run) ∙ ap result_err c.in-Err.is))

pub returns-in-Err-finish : goal.returns-in-Err-finish
returns-in-Err-finish c =
    let a = c.args in
    let f = function_at a.self.now.whole.terms.table.now a.self.now.n in
    let run = c.run-ran.ensures.value ∙ (λ i. ran (group_at (c.args.self.now.whole.numbered i) (first_parameter a.self.now.n)) a.values.now a.s.now.clock (work_from a.s.now.kinds a.s.now.numbers a.s.now.texts a.holdings.now (c.requires i) 0 None) (row_body a.self.now.whole.terms.table.now a.self.now.n _ c.args.self.now.read i)) in
    let went = ap (λ (o : Option Question). work_by c.run-ran.new.self o) (sym (ap result_err c.in_default.is)) ∙ run in
    let m = c.memory.result in
    let v = ap (λ (x : Memory). x.values) c.memory.ensures.value ∙ ap (λ x. x.now) c.run-ran.ensures.same_lists.values in
    let ends = λ (k : ℕ) (ls : List Label). c.finish.ensures k ls ∙ ap (λ (z : List ℤ). finished a.s.now a.self.now.n f z (work_from m.kinds.now m.numbers.now m.texts.now m.holdings.now ls k None)) v in
    performed_nothing a.s.now a.self.now.n f a.values.now _ c.run-ran.new.self went _ _ _ ends (ap (λ (m : Memory). m.kinds) c.memory.ensures.value) (ap (λ (m : Memory). m.numbers) c.memory.ensures.value) (ap (λ (m : Memory). m.texts) c.memory.ensures.value) (ap (λ (m : Memory). m.holdings) c.memory.ensures.value) refl _ c.in-Err-finish.is _ c.clear-in-Err-finish.ensures

pub returns : goal.returns
returns c =
    let a = c.args in
    let f = function_at a.self.now.whole.terms.table.now a.self.now.n in
    let run = c.run-ran.ensures.value ∙ (λ i. ran (group_at (c.args.self.now.whole.numbered i) (first_parameter a.self.now.n)) a.values.now a.s.now.clock (work_from a.s.now.kinds a.s.now.numbers a.s.now.texts a.holdings.now (c.requires i) 0 None) (row_body a.self.now.whole.terms.table.now a.self.now.n _ c.args.self.now.read i)) in
    let went = ap (λ (o : Option Question). work_by c.run-ran.new.self o) (sym (ap result_err c.in_default.is)) ∙ run in
    let m = c.memory.result in
    let v = ap (λ (x : Memory). x.values) c.memory.ensures.value ∙ ap (λ x. x.now) c.run-ran.ensures.same_lists.values in
    let ends = λ (k : ℕ) (ls : List Label). c.finish.ensures k ls ∙ ap (λ (z : List ℤ). finished a.s.now a.self.now.n f z (work_from m.kinds.now m.numbers.now m.texts.now m.holdings.now ls k None)) v in
    performed_sends a.s.now a.self.now.n f a.values.now _ c.run-ran.new.self went _ _ _ ends (ap (λ (m : Memory). m.kinds) c.memory.ensures.value) (ap (λ (m : Memory). m.numbers) c.memory.ensures.value) (ap (λ (m : Memory). m.texts) c.memory.ensures.value) (ap (λ (m : Memory). m.holdings) c.memory.ensures.value) (search rules) c.in_default-finish.is

pub overflow_mul-runner : goal.overflow_mul-runner
overflow_mul-runner c =
    let a = c.args.self.now in
    omega (arith, (placed a.whole.terms.table.now a.whole.terms.whole a.n a.inside).number)

pub overflow_add-runner : goal.overflow_add-runner
overflow_add-runner c =
    let a = c.args.self.now in
    omega (arith, (placed a.whole.terms.table.now a.whole.terms.whole a.n a.inside).number)
