-- `state::event_state` meets its contract. Assumes nothing.
use Rattle.std.proofs.Common.{◌≡◌, refl, ◌∙◌, rules, Option, Some, None, MatchOption, ℕ}
use Rattle.contract.specs.declared.Event.{Event as Row}
use Rattle.state.proofs.Rows.{state_found, state_unknown}
use Rattle.state.proofs.Pending.state.Goals as goal

-- the state of a row, if there is one
by_row : (r : Option Row) (n z : ℕ) (Q : Row → Type 0) → (r ≡ None → 0 ≡ z) → ((e : Row) → r ≡ Some e → e.state ≡ z) → ((e : Row) → Q e → n ≡ e.state)
    → MatchOption r (n ≡ 0) Q → n ≡ z
by_row None n z Q u f g h = h ∙ u refl
by_row (Some e) n z Q u f g h = g e h ∙ f e refl

pub returns : goal.returns
returns c =
    by_row c.row.result _ _ _ (state_unknown _ c.args.self _ c.row.ensures) (state_found _ c.args.self _ c.row.ensures) (λ e k. search rules)
    c.map_or.ensures
