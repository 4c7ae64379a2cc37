-- What expressions, conditions and statements are worked out in.
use Rattle.std.specs.Prelude.{ℕ, ◌+◌, List, ℤ}
use Rattle.contract.specs.Limits.{max_assets}
use Rattle.contract.specs.Tree.{Holder, asset, asset_parameter}
use Rattle.evaluation.specs.declared.Memory as declared

pub record Memory : Type 0 where
  -- of each field: 0 nothing, 1 an integer, 2 a string
  pub kinds : List ℕ
  -- of each field its integer, and its string's number
  pub numbers : List ℤ
  pub texts : List ℕ
  -- the amounts of the 16 assets, then of the 4 asset parameters
  pub holdings : List ℕ
  -- the value parameters
  pub values : List ℤ
  pub clock : ℕ

abbrev pub memory_of : List ℕ → List ℤ → List ℕ → List ℕ → List ℤ → ℕ → Memory
memory_of kinds numbers texts holdings values clock =
    record { kinds = kinds; numbers = numbers; texts = texts; holdings = holdings; values = values; clock = clock }

-- the memory that code lends
abbrev pub lent : declared.Memory → Memory
lent m = memory_of m.kinds.now m.numbers.now m.texts.now m.holdings.now m.values.now m.clock

-- the place of a holder's amount among the holdings
abbrev pub place_of : Holder → ℕ
place_of (asset i) = i
place_of (asset_parameter i) = max_assets + i
