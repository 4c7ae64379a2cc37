-- `machine::Whole::answers_to` meets its contract. Assumes nothing.
use mathlib.Core.Path.{sym, ap, ◌∙◌}
use Prim.Native.Nat.{◌+◌, ◌*◌}
use Rattle.laws.specs.Bytes.{same_bytes}
use Rattle.contract.specs.Decode.{word_of}
use native.Mathlib.Omega.{arith}
use Rattle.contract.specs.declared.Function.{Function}
use Rattle.machine.proofs.Functions.{placed, other_state, other_party, same_party}
use borrow.Author.Tests.{ne_eqb}
use Rattle.laws.proofs.Choice.{true_false}
use Rattle.machine.proofs.Whole.answers_to.Goals as goal
use Rattle.machine.proofs.Whole.answers_to.Goals.{then-row-state, else-row-state}

pub overflow_mul-row : goal.overflow_mul-row
overflow_mul-row c =
    let p = placed c.args.self.now.terms.table.now c.args.self.now.terms.whole c.args.i c.requires in
    omega (arith, p.party, p.parties, ap (λ (r : Function). r.party) c.function_at-row.ensures)

pub overflow_add-row : goal.overflow_add-row
overflow_add-row c =
    let p = placed c.args.self.now.terms.table.now c.args.self.now.terms.whole c.args.i c.requires in
    omega (arith, p.party, p.parties, ap (λ (r : Function). r.party) c.function_at-row.ensures)

pub overflow_mul-i : goal.overflow_mul-i
overflow_mul-i c =
    let p = placed c.args.self.now.terms.table.now c.args.self.now.terms.whole c.args.i c.requires in
    omega (arith, p.number)

pub overflow_add-i : goal.overflow_add-i
overflow_add-i c =
    let p = placed c.args.self.now.terms.table.now c.args.self.now.terms.whole c.args.i c.requires in
    omega (arith, p.number)

pub overflow_add-i-then-same_name : goal.overflow_add-i-then-same_name
overflow_add-i-then-same_name c =
    let p = placed c.args.self.now.terms.table.now c.args.self.now.terms.whole c.args.i c.requires in
    omega (arith, p.number)

pub returns-then-same_name : goal.returns-then-same_name
returns-then-same_name c =
    let a = c.args in
    let caller = a.caller.now in
    let w = a.self.now.terms.table.now in
    let p = placed w a.self.now.terms.whole a.i c.requires in
    elim c.if-row-state.branch [
      | then-row-state t ↦
          c.same_name-then-same_name.ensures
          ∙ same_party w a.i a.state caller a.function.now p.party (sym (ap (λ (r : Function). r.state) c.function_at-row.ensures) ∙ t.if-row-state.true) (ap (λ (r : Function). same_bytes caller (word_of w (43 + r.party * 33))) (sym c.function_at-row.ensures) ∙ sym t.same_name.ensures ∙ sym t.value-is ∙ c.if-same_name.true)
      | else-row-state t ↦ true_false (sym c.if-same_name.true ∙ t.value-is ∙ ne_eqb _ _ t.if-row-state.false)
    ]

pub returns-else-same_name : goal.returns-else-same_name
returns-else-same_name c =
    let a = c.args in
    let caller = a.caller.now in
    let w = a.self.now.terms.table.now in
    let p = placed w a.self.now.terms.whole a.i c.requires in
    c.if-same_name.false
    ∙ (elim c.if-row-state.branch [
      | then-row-state t ↦
          other_party w a.i a.state caller a.function.now p.party (sym (ap (λ (r : Function). r.state) c.function_at-row.ensures) ∙ t.if-row-state.true) (ap (λ (r : Function). same_bytes caller (word_of w (43 + r.party * 33))) (sym c.function_at-row.ensures) ∙ sym t.same_name.ensures ∙ sym t.value-is ∙ c.if-same_name.false)
      | else-row-state t ↦
          other_state w a.i a.state caller a.function.now (λ e. t.if-row-state.false (ap (λ (r : Function). r.state) c.function_at-row.ensures ∙ e))
    ])
