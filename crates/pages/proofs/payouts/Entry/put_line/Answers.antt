-- `pages::payouts::Entry::put_line` meets its contract. Assumes nothing.
use borrow.Author.Rules.{rules}
use mathlib.Core.Path.{◌≡◌, ap, ◌∙◌}
use lib.IntN.{nat_abs}
use mir.Syntax.{w64}
use mir.Val.{to_z, of_z}
use Rattle.contract.specs.Decode.{contract_of}
use Rattle.pages.specs.Private.{entry_of}
use Rattle.pages.proofs.Widths.{says}
use Rattle.pages.proofs.Assembled.{step_room, payee_room, whole_line}
use Rattle.pages.proofs.payouts.Entry.put_line.Goals as goal

pub put_step-requires : goal.put_step-requires
put_step-requires c =
    let e = entry_of c.args.self in
    let t = contract_of c.args.terms.now.table.now in
    record { rule = (says t e c.requires.payout).rule; room = step_room t e _ _ c.requires.room }

pub put_payee-requires : goal.put_payee-requires
put_payee-requires c =
    let e = entry_of c.args.self in
    let t = contract_of c.args.terms.now.table.now in
    let b : to_z w64 (of_z w64 e.value) ≡ e.value = search rules in
    record { party = (says t e c.requires.payout).party; room = payee_room t e (c.unsigned_abs-amount.ensures.value ∙ ap nat_abs b) c.requires.room c.put_step.ensures.written }

pub returns-clause-written : goal.returns-clause-written
returns-clause-written c =
    let b : to_z w64 (of_z w64 c.args.self.value) ≡ c.args.self.value = search rules in
    whole_line (contract_of c.args.terms.now.table.now) (entry_of c.args.self) (c.unsigned_abs-amount.ensures.value ∙ ap nat_abs b) c.put_step.ensures.written c.put_payee.ensures.written
