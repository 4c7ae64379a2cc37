-- Every State that code holds has arrays of full length and 64-bit integers. Assumes nothing.
use mathlib.Core.Path.{◌≡◌, refl}
use mathlib.Core.Bool.{true}
use mathlib.Core.List.{List, [], ◌∷◌}
use Prim.Native.Nat.{ℕ, zero, suc, ◌^◌}
use lib.ListN.{get_or}
use lib.IntN.{ℤ, pos}
use lib.Signed.{mag}
use borrow.Author.Tests.{lt-ltb}
use mir.Val.{Val}
use denote.Laws.{Is}
use denote.Shadow.{shadow}
use denote.Array.{each}
use denote.Struct.Field.{i64-field}
use Rattle.numbers.specs.Numbers.{within}
use Rattle.state.specs.declared.State.{State}
use Rattle.state.specs.contracts.State as state
use Rattle.state.proofs.Lengths.{kinds_length, numbers_length, texts_length, assets_length, events_length}
use Rattle.history.specs.Sessions.{Stored}

integers : (zs : List ℤ) (us : List Val) → shadow (each i64-field.row.Denot i64-field.row.own_val zs us) → (i : ℕ) → within (get_or zs i (pos 0)) ≡ true
integers [] us h i = refl
integers (z ∷ zs) [] h i = absurd h
integers (z ∷ zs) (u ∷ us) h zero = lt-ltb (mag z) (2 ^ 63) h.0.1
integers (z ∷ zs) (u ∷ us) h (suc i) = integers zs us h.1 i

pub coded_stored : (s : State) (vs : List Val) → Is state.the_row s vs → Stored s
coded_stored s vs g =
    record {
      kinds = kinds_length s vs g;
      numbers = numbers_length s vs g;
      texts = texts_length s vs g;
      assets = assets_length s vs g;
      events = events_length s vs g;
      integers = λ i _. integers s.numbers g.1.1.1.1.1.0.0 g.1.1.1.1.1.0.1.1 i;
    }
