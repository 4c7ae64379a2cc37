-- Groups of the assets and the asset parameters of a contract (document 02, F-7): which names the moves of the text join, and the groups'
-- numbers.
use Rattle.std.specs.Prelude.{ℕ, zero, suc, ◌+◌, ◌*◌, ◌-◌, min, max, Bool, false, ◌&&◌, List, [], ◌∷◌, ◌++◌, length, map, get_or, eqb, ltb}
use Rattle.laws.specs.Choice.{pick}
use Rattle.contract.specs.Limits.{max_assets, max_functions, max_parameters}
use Rattle.contract.specs.Tree.{Holder, asset, asset_parameter, Action, assign, send, move, pay, move_all, pay_all, Block, none, perform, conditional, broken_block, Event, Function, Contract}
use Rattle.contract.specs.Decode.{each_from}

-- ---- names

-- Names go by number: the assets as declared, then the asset parameters in text order, function by function. There are numbers for 16 assets,
-- and for 4 parameters of each of 64 functions; those that the contract does not need are no name's.
abbrev pub max_names : ℕ
max_names = max_assets + max_functions * max_parameters

-- the number of the first asset parameter of function n
abbrev pub first_parameter : ℕ → ℕ
first_parameter n = max_assets + n * max_parameters

-- the number of an asset's name, or of an asset parameter's in a function whose first has this number
abbrev pub name_of : ℕ → Holder → ℕ
name_of start (asset i) = i
name_of start (asset_parameter j) = start + j

-- whether the k-th of the numbers for parameters is a name's
unfoldable pub numbers_parameter : List Function → ℕ → Bool
numbers_parameter [] k = false
numbers_parameter (f ∷ fs) k = pick (ltb k max_parameters) (ltb k (length f.parameters)) (numbers_parameter fs (k - max_parameters))

-- whether a number is a name's
unfoldable pub numbers_name : Contract → ℕ → Bool
numbers_name c k = pick (ltb k max_assets) (ltb k (length c.assets)) (numbers_parameter c.functions (k - max_assets))

-- ---- moves

-- h -o t, or E -o h, t, with the numbers of h and t, each an asset or an asset parameter
pub record Move : Type 0 where
  pub source : ℕ
  pub target : ℕ

abbrev pub one_move : ℕ → Holder → Holder → List Move
one_move start h t = record { source = name_of start h; target = name_of start t } ∷ []

-- what E names joins nothing, and a payment to a party joins nothing
unfoldable pub action_moves : ℕ → Action → List Move
action_moves start (assign e x) = []
action_moves start (send e a) = []
action_moves start (move e h t) = one_move start h t
action_moves start (pay e h a) = []
action_moves start (move_all h t) = one_move start h t
action_moves start (pay_all h a) = []

-- those of a conditional too, whether it is taken or not
unfoldable pub block_moves : ℕ → Block → List Move
block_moves start none = []
block_moves start (perform b a) = block_moves start b ++ action_moves start a
block_moves start (conditional b t s) = block_moves start b ++ block_moves start s
block_moves start broken_block = []

unfoldable pub handler_moves : ℕ → List Event → List Move
handler_moves start [] = []
handler_moves start (e ∷ es) = block_moves start e.handler ++ handler_moves start es

-- of function n: body and handlers
abbrev pub moves_in : ℕ → Function → List Move
moves_in n f = block_moves (first_parameter n) f.body ++ handler_moves (first_parameter n) f.events

-- of the functions from function n on
unfoldable pub function_moves : ℕ → List Function → List Move
function_moves n [] = []
function_moves n (f ∷ fs) = moves_in n f ++ function_moves (suc n) fs

-- every move of the text
abbrev pub moves : Contract → List Move
moves c = function_moves 0 c.functions

-- ---- groups

-- For each number the first name of its group so far; before any move each is a group of its own.
abbrev pub apart : List ℕ
apart = each_from 0 max_names (λ k. k)

-- names with the greater of these two first names get the lesser
unfoldable pub merged : List ℕ → ℕ → ℕ → List ℕ
merged firsts a b = map (λ x. pick (eqb x (max a b)) (min a b) x) firsts

-- a move makes the groups of its source and its target one
abbrev pub with_move : List ℕ → Move → List ℕ
with_move firsts m = merged firsts (get_or firsts m.source 0) (get_or firsts m.target 0)

unfoldable pub with_moves : List ℕ → List Move → List ℕ
with_moves firsts [] = firsts
with_moves firsts (m ∷ ms) = with_moves (with_move firsts m) ms

-- the first name of the group of name k
abbrev pub first_of : Contract → ℕ → ℕ
first_of c k = get_or (with_moves apart (moves c)) k 0

-- whether n is a name, and the first of its group
abbrev pub begins : (ℕ → Bool) → (ℕ → ℕ) → ℕ → Bool
begins is first n = is n && eqb (first n) n

-- how many groups have their first name below n
unfoldable pub firsts_below : (ℕ → Bool) → (ℕ → ℕ) → ℕ → ℕ
firsts_below is first zero = 0
firsts_below is first (suc n) = pick (begins is first n) (suc (firsts_below is first n)) (firsts_below is first n)

-- the number of a name's group, from 1 by first names; 0 for a number that is no name's
unfoldable pub group_of : Contract → ℕ → ℕ
group_of c k = pick (numbers_name c k) (firsts_below (numbers_name c) (first_of c) (suc (first_of c k))) 0

-- of each number below `max_names`
abbrev pub groups : Contract → List ℕ
groups c = each_from 0 max_names (group_of c)
