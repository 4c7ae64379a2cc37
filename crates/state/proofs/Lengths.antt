-- The lengths of a state's arrays, from what a function is told of a State by value. Assumes nothing.
use mathlib.Core.Path.{◌≡◌}
use mathlib.Core.List.{List}
use lib.ListN.{length}
use mir.Val.{Val}
use denote.Laws.{Is}
use Rattle.state.specs.declared.State.{State}
use Rattle.state.specs.contracts.State as state

module _ (s : State) (vs : List Val) (g : Is state.the_row s vs) where
  pub kinds_length : length s.kinds ≡ 32
  kinds_length = g.1.1.1.1.0.1.0.1

  pub numbers_length : length s.numbers ≡ 32
  numbers_length = g.1.1.1.1.1.0.1.0.1

  pub texts_length : length s.texts ≡ 32
  texts_length = g.1.1.1.1.1.1.0.1.0.1

  pub assets_length : length s.assets ≡ 16
  assets_length = g.1.1.1.1.1.1.1.0.1.0.1

  pub events_length : length s.events ≡ 64
  events_length = g.1.1.1.1.1.1.1.1.1.1.0.1.0.1
