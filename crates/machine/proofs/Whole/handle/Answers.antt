-- `machine::Whole::handle` meets its contract. Assumes nothing.
use mathlib.Core.Path.{ap, ◌∙◌}
use mathlib.Core.List.{List}
use lib.ListN.{get_or}
use Rattle.state.specs.declared.Pending.{Pending}
use Rattle.state.specs.States.{blank}
use Rattle.machine.proofs.Firings.{fired_at}
use Rattle.machine.proofs.Whole.handle.Goals as goal

pub returns : goal.returns
returns c =
    c.run_handler.ensures ∙ fired_at c.args.self.now.terms.table.now c.args.s.now c.args.k _ (ap (λ (l : List Pending). get_or l c.args.k blank) c.live.ensures.value) _ c.handler_of-h.ensures _ c.args.self.now.numbered _ c.remove.ensures
