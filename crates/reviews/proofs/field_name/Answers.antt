-- `reviews::field_name` meets its contract. Assumes nothing.
use borrow.Author.Rules.{rules}
use mathlib.Core.Path.{sym, ap, ◌∙◌}
use Prim.Native.Nat.{◌<◌, ◌≤◌}
use native.Mathlib.Omega.{arith}
use Rattle.contract.specs.Table.{word_at}
use Rattle.contract.specs.declared.TableHead.{TableHead}
use Rattle.reviews.proofs.Naming.{field_few, named_as, no_field, no_contract}
use Rattle.reviews.proofs.field_name.Goals.{then-not-table_passes-via-then-not-table_passes, then-not-table_passes-via-else-not-table_passes+then-head-x}
use Rattle.reviews.proofs.field_name.Goals as goal

pub overflow_mul-x : goal.overflow_mul-x
overflow_mul-x c =
    let a = c.args in
    let counted = ap (λ (h : TableHead). h.fields) c.head.ensures in
    let within : a.x < word_at a.table.now 2 = omega (arith, counted, c.if-head-x.false) in
    record { fits = omega (arith, field_few a.table.now (sym c.table_passes.ensures ∙ c.if-not-table_passes.false) a.x within) }

pub overflow_add-x : goal.overflow_add-x
overflow_add-x c =
    let a = c.args in
    let counted = ap (λ (h : TableHead). h.fields) c.head.ensures in
    let within : a.x < word_at a.table.now 2 = omega (arith, counted, c.if-head-x.false) in
    record { fits = omega (arith, field_few a.table.now (sym c.table_passes.ensures ∙ c.if-not-table_passes.false) a.x within) }

pub returns-then-not-table_passes : goal.returns-then-not-table_passes
returns-then-not-table_passes c =
    let a = c.args in
    elim c.then-not-table_passes.branch [
      | then-not-table_passes-via-then-not-table_passes w ↦ no_contract a.table.now a.x a.buffer.now (sym c.table_passes.ensures ∙ w.if-not-table_passes.true)
      | then-not-table_passes-via-else-not-table_passes+then-head-x w ↦
          let counted = ap (λ (h : TableHead). h.fields) w.head.ensures in
          let past : word_at a.table.now 2 ≤ a.x = omega (arith, counted, w.if-head-x.true) in
          no_field a.table.now (sym c.table_passes.ensures ∙ w.if-not-table_passes.false) a.x a.buffer.now past
    ]

pub returns : goal.returns
returns c =
    let a = c.args in
    let counted = ap (λ (h : TableHead). h.fields) c.head.ensures in
    let within : a.x < word_at a.table.now 2 = omega (arith, counted, c.if-head-x.false) in
    named_as a.table.now (sym c.table_passes.ensures ∙ c.if-not-table_passes.false) a.x within (omega arith) c.new-out.ensures.place c.new-out.ensures.bytes
    c.put_name.ensures (search rules)
