-- `tables::functions::parameters_ok` meets its contract. Assumes nothing.
use mathlib.Core.Path.{sym, ap, ◌∙◌}
use native.Mathlib.Omega.{arith}
use Rattle.contract.specs.declared.Function.{Function}
use Rattle.tables.proofs.Packed.{parameters_as, parameters_few}
use Rattle.tables.proofs.functions.parameters_ok.Goals as goal

pub packed_rows_ok-requires : goal.packed_rows_ok-requires
packed_rows_ok-requires c =
    let l = parameters_few c.args.table.now c.args.i c.requires.1 in
    (omega (arith, c.requires.0), omega (arith, l.0, ap (λ (f : Function). f.values) c.function_at-f.ensures))

pub packed_rows_ok-requires-then-packed_rows_ok : goal.packed_rows_ok-requires-then-packed_rows_ok
packed_rows_ok-requires-then-packed_rows_ok c =
    let l = parameters_few c.args.table.now c.args.i c.requires.1 in
    (omega (arith, c.requires.0), omega (arith, l.1, ap (λ (f : Function). f.parameters) c.function_at-f.ensures))

pub returns-then-packed_rows_ok : goal.returns-then-packed_rows_ok
returns-then-packed_rows_ok c =
    let a = c.args in
    let e = c.function_at-f.ensures in
    c.packed_rows_ok-then-packed_rows_ok.ensures
    ∙ simp (sym c.packed_rows_ok.ensures ∙ c.if-packed_rows_ok.true)
    at (parameters_as a.table.now a.i (ap (λ (f : Function). f.values) e) (ap (λ (f : Function). f.parameters) e))

pub returns-else-packed_rows_ok : goal.returns-else-packed_rows_ok
returns-else-packed_rows_ok c =
    let a = c.args in
    let e = c.function_at-f.ensures in
    c.if-packed_rows_ok.false
    ∙ simp (sym c.packed_rows_ok.ensures ∙ c.if-packed_rows_ok.false)
    at (parameters_as a.table.now a.i (ap (λ (f : Function). f.values) e) (ap (λ (f : Function). f.parameters) e))
