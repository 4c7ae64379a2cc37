-- `machine::Whole::fire_on` meets its contract. Assumes nothing.
use mathlib.Core.Path.{sym, ◌∙◌}
use Rattle.contract.specs.Decode.{contract_of}
use Rattle.state.proofs.Dues.{first_to_fire}
use Rattle.machine.proofs.Replies.{quiet_as}
use Rattle.machine.proofs.Firings.{fire_unagreed, fire_due}
use Rattle.machine.proofs.Whole.fire_on.Goals as goal

pub returns-then-not-s : goal.returns-then-not-s
returns-then-not-s c = quiet_as _ c.silent.ensures c.requires.no_labels (fire_unagreed (contract_of c.args.self.now.terms.table.now) c.args.s.now c.if-not-s.true)

pub returns-in_default : goal.returns-in_default
returns-in_default c =
    quiet_as _ c.silent-in_default.ensures c.requires.no_labels
    (fire_due (contract_of c.args.self.now.terms.table.now) c.args.s.now c.if-not-s.false _ (sym c.requires.due ∙ c.in_default.is))

pub handle-requires : goal.handle-requires
handle-requires c =
    record {
      k_in_bounds = (first_to_fire (contract_of c.args.self.now.terms.table.now) c.args.s.now _ (sym c.requires.due ∙ c.in-Some.is)).is_pending;
      no_labels = c.requires.no_labels;
    }

pub returns : goal.returns
returns c =
    c.handle.ensures
    ∙ fire_due (contract_of c.args.self.now.terms.table.now) c.args.s.now c.if-not-s.false _ (sym c.requires.due ∙ c.in-Some.is)
