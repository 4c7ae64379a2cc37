-- `machine::call` meets its contract. Assumes nothing.
use mathlib.Core.Path.{sym, ap, ◌∙◌}
use mathlib.Core.List.{List}
use Prim.Native.Nat.{ℕ}
use Rattle.contract.specs.Decode.{contract_of}
use Rattle.questions.specs.declared.Question.{Question}
use Rattle.outcomes.specs.declared.Stepped.{Stepped}
use Rattle.contract.specs.Tree.{Contract}
use Rattle.laws.specs.Lists.{repeated}
use Rattle.state.specs.States.{due_in}
use Rattle.machine.specs.Steps.{Invocation, called}
use Rattle.machine.proofs.Gates.{refused_first, same_table, stepped}
use Rattle.outcomes.proofs.Labels.{no_labels_lem}
use Rattle.machine.proofs.Replies.{in_reply}
use Rattle.machine.proofs.call.Goals as goal

pub returns-in-Err : goal.returns-in-Err
returns-in-Err c =
    let a = c.args in
    c.refuse.ensures ∙ refused_first a.table.now a.room a.s _ c.admit.ensures (λ (x : Contract). called x a.s (record { caller = a.caller.now; function = a.function.now; values = a.values.now; assets = a.assets.now })) c.in-Err.q c.in-Err.is

pub call_on-r-requires : goal.call_on-r-requires
unfolding repeated
call_on-r-requires c =
    record {
      due = c.first_due-due.ensures ∙ ap (λ (w : List ℕ). due_in (contract_of w) c.args.s) (sym (same_table c.args.table.now c.args.room c.args.s _ c.admit.ensures _ c.in-Ok.is));
      no_labels = no_labels_lem;
    }

pub returns : goal.returns
returns c =
    let a = c.args in
    let n = c.admit.ensures in
    let i : Invocation = record { caller = a.caller.now; function = a.function.now; values = a.values.now; assets = a.assets.now } in
    let does : Contract → Stepped Question = λ x. called x a.s i in
    c.with_labels.ensures
    ∙ in_reply _ c.call_reply.ensures c.call_on-r.ensures
    ∙ ap (λ (w : List ℕ). called (contract_of w) a.s i) (same_table a.table.now a.room a.s _ n _ c.in-Ok.is)
    ∙ stepped a.table.now a.room a.s _ n _ c.in-Ok.is does
