-- `machine::Whole::take_up` meets its contract. Assumes nothing.
use mathlib.Core.Path.{◌∙◌}
use Rattle.contract.specs.Decode.{contract_of}
use Rattle.machine.proofs.Playing.{line_heard}
use Rattle.machine.proofs.Whole.take_up.Goals as goal

pub returns-in-Line : goal.returns-in-Line
returns-in-Line c =
    c.take_line.ensures
    ∙ line_heard (contract_of c.args.self.now.terms.table.now) c.args.s.now c.args.input.now c.args.at c.in-Line.end c.between.ensures c.in-Line.is
