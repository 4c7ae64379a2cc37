-- `agreements::Heard::agree_on_contract` meets its contract. Assumes nothing.
use mathlib.Core.Path.{sym, ap, ◌∙◌}
use Prim.Native.Nat.{◌/◌}
use lib.ListN.{length}
use Rattle.contract.specs.Decode.{contract_of}
use Rattle.state.specs.declared.State.{State}
use Rattle.outcomes.specs.declared.Rule.TheVariants.{Agree}
use Rattle.outcomes.specs.declared.Outcome.TheVariants.{Accepted}
use Rattle.outcomes.specs.Outcomes.{answered}
use Rattle.agreements.specs.Agreement.{parts_in}
use Rattle.agreements.proofs.Agreements.{set_in_row, agreed_in_row, agree_twice, agree_others, agree_differ, agree_done, opened_at}
use Rattle.agreements.proofs.Heard.agree_on_contract.Goals as goal

pub returns-then-s : goal.returns-then-s
returns-then-s c =
    let a = c.args.self.now in
    agree_twice (contract_of a.terms.table.now) c.args.s.now (parts_in a.line.now (length a.parts.now / 4) a.parts.now a.spans.now a.values.now) c.if-s.true

pub returns-then-not-same_clauses : goal.returns-then-not-same_clauses
returns-then-not-same_clauses c =
    let a = c.args.self.now in
    agree_others (contract_of a.terms.table.now) c.args.s.now (parts_in a.line.now (length a.parts.now / 4) a.parts.now a.spans.now a.values.now) c.if-s.false (sym c.same_clauses.ensures ∙ c.if-not-same_clauses.true)

pub returns-then-not-same_map : goal.returns-then-not-same_map
returns-then-not-same_map c =
    let a = c.args.self.now in
    let line = a.line.now in
    let parts = a.parts.now in
    let spans = a.spans.now in
    let table = a.terms.table.now in
    let values = a.values.now in
    agree_differ (contract_of table) c.args.s.now (parts_in line (length parts / 4) parts spans values) c.if-s.false (sym c.same_clauses.ensures ∙ c.if-not-same_clauses.false) _
    (c.set_clauses.ensures ∙ sym (set_in_row (contract_of table) (contract_of table).clauses line (length parts / 4) parts spans values c.args.s.now (sym c.same_clauses.ensures ∙ c.if-not-same_clauses.false)))
    values (agreed_in_row (contract_of table) (contract_of table).clauses line (length parts / 4) parts spans values c.set_clauses.new.s (sym c.same_clauses.ensures ∙ c.if-not-same_clauses.false))
    (sym c.same_map.ensures ∙ c.if-not-same_map.true)

pub returns : goal.returns
returns c =
    let a = c.args.self.now in
    let line = a.line.now in
    let parts = a.parts.now in
    let spans = a.spans.now in
    let table = a.terms.table.now in
    let values = a.values.now in
    ap (λ (x : State). answered (Accepted Agree) x) (opened_at table c.set_clauses.new.s _ c.head.ensures)
    ∙ agree_done (contract_of table) c.args.s.now (parts_in line (length parts / 4) parts spans values) c.if-s.false (sym c.same_clauses.ensures ∙ c.if-not-same_clauses.false) _ (c.set_clauses.ensures ∙ sym (set_in_row (contract_of table) (contract_of table).clauses line (length parts / 4) parts spans values c.args.s.now (sym c.same_clauses.ensures ∙ c.if-not-same_clauses.false)))
    values (agreed_in_row (contract_of table) (contract_of table).clauses line (length parts / 4) parts spans values c.set_clauses.new.s (sym c.same_clauses.ensures ∙ c.if-not-same_clauses.false))
    (sym c.same_map.ensures ∙ c.if-not-same_map.false)
