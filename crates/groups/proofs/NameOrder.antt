-- Each name has a number of its own, in the order of the text. Assumes nothing.
use mathlib.Core.Path.{◌≡◌, sym, ap, ◌∙◌}
use mathlib.Core.List.{List, [], ◌∷◌}
use Prim.Native.Nat.{ℕ, zero, suc, ◌+◌, ◌-◌, ◌*◌, ◌<◌}
use native.Mathlib.Omega.{arith}
use lib.ListN.{length, get_or}
use lib.Dec.{ltb}
use borrow.Author.Tests.{lt-ltb, le-ltb}
use Rattle.laws.proofs.Choice.{pick_true, pick_false}
use Rattle.contract.specs.Tree.{Function, Contract}
use Rattle.state.specs.States.{no_function}
use Rattle.groups.specs.Groups.{first_parameter, numbers_parameter, numbers_name}
use Rattle.groups.specs.Names.{NamesInOrder}

-- parameter j of the n-th of these functions
parameter_at : (fs : List Function) (n j k : ℕ) → k ≡ n * 4 + j → j < 4 → numbers_parameter fs k ≡ ltb j (length (get_or fs n no_function).parameters)
unfolding numbers_parameter
parameter_at [] n j k e h = sym (le-ltb j 0 (omega arith))
parameter_at (f ∷ fs) zero j k e h =
    let a : k ≡ j = omega arith in
    pick_true (ltb k 4) _ _ (lt-ltb k 4 (omega arith)) ∙ ap (λ (i : ℕ). ltb i (length f.parameters)) a
parameter_at (f ∷ fs) (suc n) j k e h =
    let a : k - 4 ≡ n * 4 + j = omega arith in
    pick_false (ltb k 4) _ _ (le-ltb k 4 (omega arith)) ∙ parameter_at fs n j (k - 4) a h

pub names_in_order : (c : Contract) → NamesInOrder c
unfolding numbers_name
names_in_order c =
    record {
      assets = λ i h. pick_true _ _ _ (lt-ltb i 16 h);
      parameters = λ n j h.
          let a : first_parameter n + j - 16 ≡ n * 4 + j = omega arith in
          pick_false _ _ _ (le-ltb (first_parameter n + j) 16 (omega arith)) ∙ parameter_at c.functions n j (first_parameter n + j - 16) a h;
      assets_first = λ i n j h. omega arith;
      functions_in_order = λ m n i j h k. omega arith;
      parameters_in_order = λ n i j h. omega arith;
    }
