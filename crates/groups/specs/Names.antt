-- What the numbers of names are.
use Rattle.std.specs.Prelude.{ℕ, ◌≡◌, ◌<◌, ◌+◌, length, get_or, ltb}
use Rattle.contract.specs.Limits.{max_assets, max_parameters}
use Rattle.contract.specs.Tree.{Contract}
use Rattle.state.specs.States.{no_function}
use Rattle.groups.specs.Groups.{first_parameter, numbers_name}

-- proved (`names_in_order`) of every contract; in one that fits, each asset and each asset parameter so has a number of its own, in the order of
-- the text, and parameters of different functions are different names
pub record NamesInOrder (c : Contract) : Type 0 where
  -- asset i has number i, and asset parameter j of function n the j-th from the function's first; no other number is a name's
  pub assets : (i : ℕ) → i < max_assets → numbers_name c i ≡ ltb i (length c.assets)
  pub parameters : (n j : ℕ) → j < max_parameters → numbers_name c (first_parameter n + j) ≡ ltb j (length (get_or c.functions n no_function).parameters)
  -- of the numbers alone: assets stand before parameters, those of a function before those of the functions after it, and in their own order
  pub assets_first : (i n j : ℕ) → i < max_assets → i < first_parameter n + j
  pub functions_in_order : (m n i j : ℕ) → m < n → i < max_parameters → first_parameter m + i < first_parameter n + j
  pub parameters_in_order : (n i j : ℕ) → i < j → first_parameter n + i < first_parameter n + j
