-- How `--review` names an asset or an asset parameter, by its number (groups/specs/Groups.antt; document 02, F-7), and the groups' numbers.
use Rattle.std.specs.Prelude.{ℕ, ◌-◌, List, [], ◌∷◌, ◌++◌, get_or, ltb}
use Rattle.laws.specs.Choice.{pick}
use Rattle.laws.specs.Lists.{repeated}
use Rattle.words.specs.Words.{spelled, at_sign, space, colon, open_bracket, close_bracket}
use Rattle.contract.specs.Limits.{max_assets, max_parameters}
use Rattle.contract.specs.Tree.{Function, Contract}
use Rattle.contract.specs.Decode.{contract_of}
use Rattle.contract.specs.Check.{passes}
use Rattle.groups.specs.Groups.{max_names, numbers_name, groups}

-- @STATE PARTY : FUNCTION, with the function's state, formal party and name
unfoldable pub function_text : Contract → Function → List ℕ
function_text c f =
    spelled at_sign ++ (get_or c.states f.state [] ++ (spelled space ++ (get_or c.parties f.party []
    ++ (spelled space ++ (spelled colon ++ (spelled space ++ f.name))))))

-- @STATE PARTY : FUNCTION [NAME]
unfoldable pub parameter_text : Contract → Function → ℕ → List ℕ
parameter_text c f j =
    function_text c f ++ (spelled space ++ (spelled open_bracket ++ (get_or f.parameters j [] ++ spelled close_bracket)))

-- the parameter that has the k-th of these functions' numbers
unfoldable pub parameter_among : Contract → List Function → ℕ → List ℕ
parameter_among c [] k = []
parameter_among c (f ∷ fs) k = pick (ltb k max_parameters) (parameter_text c f k) (parameter_among c fs (k - max_parameters))

-- an asset by its name, an asset parameter with its function
unfoldable pub holder_text : Contract → ℕ → List ℕ
holder_text c k = pick (ltb k max_assets) (get_or c.assets k []) (parameter_among c c.functions (k - max_assets))

-- the same of a table; none where it does not pass, or k is no name's number
unfoldable pub holder_name : List ℕ → ℕ → List ℕ
holder_name w k = pick (passes w) (pick (numbers_name (contract_of w) k) (holder_text (contract_of w) k) []) []

-- the groups of the contract in a table; zeros where it does not pass
unfoldable pub group_numbers : List ℕ → List ℕ
group_numbers w = pick (passes w) (groups (contract_of w)) (repeated max_names 0)
