-- `machine::fire` meets its contract. Assumes nothing.
use mathlib.Core.Path.{sym, ap, ◌∙◌}
use mathlib.Core.List.{List}
use Prim.Native.Nat.{ℕ}
use Rattle.contract.specs.Tree.{Contract}
use Rattle.contract.specs.Decode.{contract_of}
use Rattle.laws.specs.Lists.{repeated}
use Rattle.outcomes.proofs.Labels.{no_labels_lem}
use Rattle.state.specs.States.{due_in}
use Rattle.machine.specs.Steps.{fired}
use Rattle.machine.proofs.Gates.{refused_first, same_table, stepped}
use Rattle.machine.proofs.fire.Goals as goal

pub returns-in-Err : goal.returns-in-Err
returns-in-Err c =
    c.refuse.ensures ∙ refused_first c.args.table.now c.args.room c.args.s _ c.admit.ensures (λ (x : Contract). fired x c.args.s) c.in-Err.q c.in-Err.is

pub fire_on-r-requires : goal.fire_on-r-requires
unfolding repeated
fire_on-r-requires c =
    record {
      due = c.first_due-due.ensures ∙ ap (λ (w : List ℕ). due_in (contract_of w) c.args.s) (sym (same_table c.args.table.now c.args.room c.args.s _ c.admit.ensures _ c.in-Ok.is));
      no_labels = no_labels_lem;
    }

pub returns : goal.returns
returns c =
    c.with_labels.ensures ∙ c.fire_on-r.ensures
    ∙ ap (λ (w : List ℕ). fired (contract_of w) c.args.s) (same_table c.args.table.now c.args.room c.args.s _ c.admit.ensures _ c.in-Ok.is)
    ∙ stepped c.args.table.now c.args.room c.args.s _ c.admit.ensures _ c.in-Ok.is (λ (x : Contract). fired x c.args.s)
