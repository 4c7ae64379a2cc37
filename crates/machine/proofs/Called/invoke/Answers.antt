-- `machine::Called::invoke` meets its contract. Assumes nothing.
use mathlib.Core.Path.{sym, ap, ◌∙◌}
use native.Mathlib.Omega.{arith}
use Rattle.contract.specs.Decode.{function_at, contract_of}
use Rattle.evaluation.specs.Memory.{memory_of}
use Rattle.machine.specs.Steps.{place_groups, precondition_holds}
use Rattle.machine.proofs.Functions.{placed, row_values, row_parameters, row_precondition, row_nodes}
use Rattle.machine.proofs.Calls.{wrong_values, wrong_assets, negative_asset, precondition_refused, precondition_false, precondition_true}
use Rattle.machine.proofs.Performed.{turned, begins}
use Rattle.machine.proofs.Called.invoke.Goals.{then-values-row-via-then-values-row, then-values-row-via-else-values-row+then-assets-row}
use Rattle.machine.proofs.Called.invoke.Goals as goal
use Rattle.std.specs.Prelude.{Ok}

pub returns-then-values-row : goal.returns-then-values-row
returns-then-values-row c =
    let a = c.args in
    let w = a.self.now.whole.terms.table.now in
    let f = function_at w a.self.now.n in
    elim c.then-values-row.branch [
      | then-values-row-via-then-values-row j ↦
          turned a.s.now _ _ c.requires _ (wrong_values (place_groups (contract_of a.self.now.whole.terms.table.now) a.self.now.n) a.s.now a.values.now a.assets.now a.self.now.n f (λ e. j.if-values-row.true (e ∙ sym (row_values w a.self.now.n _ a.self.now.read))))
      | then-values-row-via-else-values-row+then-assets-row j ↦
          turned a.s.now _ _ c.requires _ (wrong_assets (place_groups (contract_of a.self.now.whole.terms.table.now) a.self.now.n) a.s.now a.values.now a.assets.now a.self.now.n f (j.if-values-row.false ∙ row_values w a.self.now.n _ a.self.now.read) (λ e. j.if-assets-row.true (e ∙ sym (row_parameters w a.self.now.n _ a.self.now.read))))
    ]

pub returns-then-not-none_negative : goal.returns-then-not-none_negative
returns-then-not-none_negative c =
    let a = c.args in
    turned a.s.now _ _ c.requires _ (negative_asset (place_groups (contract_of a.self.now.whole.terms.table.now) a.self.now.n) a.s.now a.values.now a.assets.now a.self.now.n (function_at a.self.now.whole.terms.table.now a.self.now.n) (c.if-values-row.false ∙ row_values a.self.now.whole.terms.table.now a.self.now.n _ c.args.self.now.read) (c.if-assets-row.false
    ∙ row_parameters a.self.now.whole.terms.table.now a.self.now.n _ c.args.self.now.read) (sym c.none_negative.ensures ∙ c.if-not-none_negative.true))

pub precondition-truth-requires : goal.precondition-truth-requires
precondition-truth-requires c =
    let a = c.args in
    omega (arith, row_nodes a.self.now.whole.terms.table.now a.self.now.n _ c.args.self.now.read (placed a.self.now.whole.terms.table.now c.args.self.now.whole.terms.whole a.self.now.n c.args.self.now.inside))

pub returns-in_default : goal.returns-in_default
returns-in_default c =
    let a = c.args in
    turned a.s.now _ _ c.requires _ (precondition_refused (place_groups (contract_of a.self.now.whole.terms.table.now) a.self.now.n) a.s.now a.values.now a.assets.now a.self.now.n (function_at
    a.self.now.whole.terms.table.now a.self.now.n) (c.if-values-row.false ∙ row_values a.self.now.whole.terms.table.now a.self.now.n _ c.args.self.now.read) (c.if-assets-row.false ∙ row_parameters a.self.now.whole.terms.table.now a.self.now.n _ c.args.self.now.read) (sym c.none_negative.ensures
    ∙ c.if-not-none_negative.false) _ (begins a.s.now a.assets.now _ c.holdings_of-holdings.ensures) _ (c.precondition-truth.ensures ∙ ap (precondition_holds (memory_of a.s.now.kinds a.s.now.numbers a.s.now.texts
    c.holdings_of-holdings.result a.values.now a.s.now.clock)) (row_precondition a.self.now.whole.terms.table.now a.self.now.n _ c.args.self.now.read)) _ c.unwrap_err.ensures)

pub returns-then-not-holds : goal.returns-then-not-holds
returns-then-not-holds c =
    let a = c.args in
    turned a.s.now _ _ c.requires _ (precondition_false (place_groups (contract_of a.self.now.whole.terms.table.now) a.self.now.n) a.s.now a.values.now a.assets.now a.self.now.n (function_at a.self.now.whole.terms.table.now a.self.now.n) (c.if-values-row.false ∙ row_values a.self.now.whole.terms.table.now a.self.now.n _ c.args.self.now.read) (c.if-assets-row.false
    ∙ row_parameters a.self.now.whole.terms.table.now a.self.now.n _ c.args.self.now.read) (sym c.none_negative.ensures ∙ c.if-not-none_negative.false) _ (begins a.s.now a.assets.now _ c.holdings_of-holdings.ensures) _
    (c.precondition-truth.ensures ∙ ap (precondition_holds (memory_of a.s.now.kinds a.s.now.numbers a.s.now.texts c.holdings_of-holdings.result a.values.now a.s.now.clock)) (row_precondition a.self.now.whole.terms.table.now a.self.now.n _
    c.args.self.now.read)) (c.in-Ok.is ∙ ap Ok (c.if-not-holds.true)))

pub returns : goal.returns
returns c =
    let a = c.args in
    c.perform.ensures ∙ (precondition_true (place_groups (contract_of a.self.now.whole.terms.table.now) a.self.now.n) a.s.now a.values.now a.assets.now a.self.now.n (function_at a.self.now.whole.terms.table.now a.self.now.n) (c.if-values-row.false ∙ row_values a.self.now.whole.terms.table.now a.self.now.n _ c.args.self.now.read) (c.if-assets-row.false
    ∙ row_parameters a.self.now.whole.terms.table.now a.self.now.n _ c.args.self.now.read) (sym c.none_negative.ensures ∙ c.if-not-none_negative.false) _ (begins a.s.now a.assets.now _ c.holdings_of-holdings.ensures) _
    (c.precondition-truth.ensures ∙ ap (precondition_holds (memory_of a.s.now.kinds a.s.now.numbers a.s.now.texts c.holdings_of-holdings.result a.values.now a.s.now.clock)) (row_precondition a.self.now.whole.terms.table.now a.self.now.n _
    c.args.self.now.read)) (c.in-Ok.is ∙ ap Ok (c.if-not-holds.false)))
