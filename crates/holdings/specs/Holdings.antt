-- Amounts of the assets and of the asset parameters, and the state that statements reach.
use Rattle.std.specs.Prelude.{ℕ, List, [], ◌∷◌, ◌++◌, take, ℤ, nat_abs}
use Rattle.laws.specs.Lists.{repeated}
use Rattle.contract.specs.Limits.{max_assets, max_parameters}
use Rattle.state.specs.declared.State.{State}
use Rattle.state.specs.States.{with_memory, with_state}
use Rattle.statements.specs.Running.{Work}

-- asset arguments as amounts
unfoldable pub amounts : List ℤ → List ℕ
amounts [] = []
amounts (z ∷ zs) = nat_abs z ∷ amounts zs

-- what holdings begin with: the amounts of the assets, then those of the asset parameters
unfoldable pub holdings_of : List ℕ → List ℤ → List ℕ
holdings_of assets zs = take max_assets assets ++ take max_parameters (amounts zs ++ repeated max_parameters 0)

-- the state in state q, with the memory that statements have reached
abbrev pub reached : State → Work → ℕ → State
reached s w q = with_state (with_memory s w.kinds w.numbers w.texts (take max_assets w.holdings)) s.agreed q
