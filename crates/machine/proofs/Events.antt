-- Where the parts of an event stand. Assumes nothing.
use mathlib.Core.Path.{◌≡◌, sym, ap, ◌∙◌}
use mathlib.Core.List.{List}
use Prim.Native.Nat.{ℕ, ◌+◌, ◌-◌}
use Rattle.laws.specs.Choice.{pick}
use Rattle.contract.specs.Table.{function_word, event_word, argument_at}
use Rattle.contract.specs.Tree as tree
use Rattle.contract.specs.Decode.{expression_at, block_within, block_between, event_at, contract_of}
use Rattle.contract.specs.Rows.{event_row_of, node_of}
use Rattle.contract.specs.declared.Event.{Event}
use Rattle.contract.specs.declared.Node.{Node}
use Rattle.evaluation.specs.Memory.{Memory}
use Rattle.evaluation.specs.Meaning.{value_of}
use Rattle.state.specs.declared.Pending.{Pending}
use Rattle.state.specs.States.{no_event, event_of, row_of}
use Rattle.std.specs.Prelude.{Option, Some, None}
use Rattle.state.proofs.Decoded.{event_of_lem}
use Rattle.state.proofs.Rows.{found, unknown}
use Rattle.groups.specs.Groups.{first_parameter}
use Rattle.machine.specs.Private.{HandlerOf}

no_handler : (w : List ℕ) (e : tree.Event) (n first : ℕ) → first ≡ first_parameter n → e ≡ no_event → HandlerOf w e n (record { from = 0; end = 0; last = 0; first_parameter = first })
unfolding block_within pick
no_handler w e n first f q = record { first = f; block = sym (ap (λ (x : tree.Event). x.handler) q); last = sym (ap (λ (x : tree.Event). x.last) q) }

module _ (w : List ℕ) (p : Pending) (r : Option Event) (q : r ≡ row_of w p) where
  pub no_event_lem : r ≡ None → (first : ℕ) → first ≡ first_parameter p.function → HandlerOf w (event_of (contract_of w) p) p.function (record { from = 0; end = 0; last = 0; first_parameter = first })
  no_event_lem f first ef = no_handler w _ p.function first ef (unknown w p r q f).nothing

  pub handler_found : (e : Event) → r ≡ Some e → (node : Node) → node ≡ node_of w e.node → (from : ℕ) → from ≡ e.node - node.argument → (first : ℕ) → first ≡ first_parameter p.function
      → HandlerOf w (event_of (contract_of w) p) p.function (record { from = from; end = e.node; last = e.last; first_parameter = first })
  unfolding event_at
  handler_found e h node n from f first ef =
      let x = found w p r q e h in
      let i : ℕ = function_word w p.function 8 + p.event in
      let k : e.node ≡ event_word w i 2 = ap (λ (y : Event). y.node) x.is in
      let g : node.argument ≡ argument_at w (event_word w i 2) = ap (λ (y : Node). y.argument) n ∙ ap (argument_at w) k in
      let b : from ≡ event_word w i 2 - argument_at w (event_word w i 2) = f ∙ (λ j. k j - g j) in
      let o = event_of_lem w p x.known x.has in
      record {
        first = ef;
        block = (λ j. block_between w (b j) (k j)) ∙ sym (ap (λ (y : tree.Event). y.handler) o);
        last = ap (λ (y : Event). y.last) x.is ∙ sym (ap (λ (y : tree.Event). y.last) o);
      }

-- where the guard of event i stands
pub guard_at : (w : List ℕ) (m : Memory) (i : ℕ) (e : Event) → e ≡ event_row_of w i → (node : Node) → node ≡ node_of w e.node → (a k : ℕ) → a ≡ e.node - node.argument → k ≡ a - 1 → value_of m (expression_at w k) ≡ value_of m (event_at w i).guard
unfolding event_at
guard_at w m i e q node n a k f g =
    let x : e.node ≡ event_word w i 2 = ap (λ (y : Event). y.node) q in
    let d : node.argument ≡ argument_at w (event_word w i 2) = ap (λ (y : Node). y.argument) n ∙ ap (argument_at w) x in
    let b : k ≡ event_word w i 2 - argument_at w (event_word w i 2) - 1 = g ∙ ap (λ (y : ℕ). y - 1) (f ∙ (λ j. x j - d j)) in
    ap (λ (y : ℕ). value_of m (expression_at w y)) b
