-- `machine::Called::finish` meets its contract. Assumes nothing.
use mathlib.Core.Path.{refl, sym, ◌∙◌}
use Rattle.std.specs.Prelude.{None}
use Rattle.contract.specs.Decode.{function_at}
use Rattle.statements.specs.Running.{work_from}
use Rattle.machine.proofs.Calls.{parameters_left, parameters_none}
use Rattle.machine.proofs.Called.finish.Goals as goal

pub returns-then-parameters_empty : goal.returns-then-parameters_empty
returns-then-parameters_empty c n ls =
    let w = work_from c.args.memory.now.kinds.now c.args.memory.now.numbers.now c.args.memory.now.texts.now c.args.memory.now.holdings.now ls n None in
    let f = function_at c.args.self.now.whole.terms.table.now c.args.self.now.n in
    c.conclude.ensures n ls ∙ (parameters_none c.args.s.now c.args.self.now.n f c.args.memory.now.values.now w refl (sym c.parameters_empty.ensures ∙ c.if-parameters_empty.true))

pub returns-else-parameters_empty : goal.returns-else-parameters_empty
returns-else-parameters_empty c n ls =
    let w = work_from c.args.memory.now.kinds.now c.args.memory.now.numbers.now c.args.memory.now.texts.now c.args.memory.now.holdings.now ls n None in
    let f = function_at c.args.self.now.whole.terms.table.now c.args.self.now.n in
    (parameters_left c.args.s.now c.args.self.now.n f c.args.memory.now.values.now w refl (sym c.parameters_empty.ensures ∙ c.if-parameters_empty.false))
