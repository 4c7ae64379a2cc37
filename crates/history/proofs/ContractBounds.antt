-- What a contract that a table can hold keeps to, by the numbers that its steps use: past the end of a list too. Assumes nothing.
use mathlib.Core.Path.{◌≡◌, refl, sym, subst}
use mathlib.Core.Bool.{Bool, true, false}
use mathlib.Core.List.{List}
use Prim.Native.Nat.{ℕ, ◌<◌, ◌≤◌}
use native.Mathlib.Omega.{arith}
use lib.ListN.{length, get_or, get_or-eq_default}
use lib.Dec.{ltb}
use borrow.Author.Tests.{ltb-true, ltb-false}
use Rattle.contract.specs.Limits.{max_parties, max_assets, max_parameters, max_statements}
use Rattle.contract.specs.Tree.{Event, Function, Contract}
use Rattle.contract.specs.Sizes.{statements}
use Rattle.contract.specs.Fits.{block_in, scope_of, event_in, function_in, fits}
use Rattle.laws.proofs.Members.{every_at}
use Rattle.contract.proofs.Fitting.{fits_event, fits_function, fits_contract}
use Rattle.state.specs.States.{no_function, no_event}

-- a handler names no parameter
pub record BoundedEvent (c : Contract) (e : Event) : Type 0 where
  pub handler_few : statements e.handler ≤ max_statements
  pub handler_in : block_in (scope_of c 0 0) e.handler ≡ true

pub record BoundedFunction (c : Contract) (f : Function) : Type 0 where
  pub parameters_few : length f.parameters ≤ max_parameters
  pub body_few : statements f.body ≤ max_statements
  pub events : (j : ℕ) → BoundedEvent c (get_or f.events j no_event)

pub record Bounded (c : Contract) : Type 0 where
  pub parties_few : length c.parties ≤ max_parties
  pub assets_few : length c.assets ≤ max_assets
  pub functions : (i : ℕ) → BoundedFunction c (get_or c.functions i no_function)

-- what holds of each member and of what stands past the end
pub anywhere : {A : Type 0} (P : A → Type 0) (d : A) (l : List A) → P d → ((i : ℕ) → i < length l → P (get_or l i d)) → (i : ℕ) → P (get_or l i d)
anywhere P d l z f i = go (ltb i (length l)) refl
  where
    go : (b : Bool) → ltb i (length l) ≡ b → P (get_or l i d)
    go true e = f i (ltb-true i (length l) e)
    go false e = subst P (sym (get_or-eq_default l d (ltb-false i (length l) e))) z

no_event_lem : (c : Contract) → BoundedEvent c no_event
unfolding statements block_in
no_event_lem c = record { handler_few = omega arith; handler_in = refl }

no_function_lem : (c : Contract) → BoundedFunction c no_function
unfolding statements
no_function_lem c = record { parameters_few = omega arith; body_few = omega arith; events = λ j. no_event_lem c }

bounded_event : (c : Contract) (f : Function) (e : Event) → event_in c f e ≡ true → BoundedEvent c e
bounded_event c f e h = let t = fits_event c f e h in record { handler_few = t.handler_few; handler_in = t.handler }

bounded_function : (c : Contract) (f : Function) → function_in c f ≡ true → BoundedFunction c f
bounded_function c f h =
    let t = fits_function c f h in
    record {
      parameters_few = t.parameters_few;
      body_few = t.body_few;
      events =
          anywhere (BoundedEvent c) no_event f.events (no_event_lem c)
          (λ j l. bounded_event c f (get_or f.events j no_event) (every_at (event_in c f) f.events t.events j l no_event));
    }

pub bounded : (c : Contract) → fits c ≡ true → Bounded c
bounded c h =
    let t = fits_contract c h in
    record {
      parties_few = t.parties_few;
      assets_few = t.assets_few;
      functions =
          anywhere (BoundedFunction c) no_function c.functions (no_function_lem c)
          (λ i l. bounded_function c (get_or c.functions i no_function) (every_at (function_in c) c.functions t.functions i l no_function));
    }
