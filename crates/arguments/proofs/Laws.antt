-- The first thing that is wrong with arguments decides. Assumes nothing.
use mathlib.Core.Path.{◌≡◌, refl, ap, ◌∙◌}
use mathlib.Core.List.{List, [], ◌∷◌, ◌++◌}
use Prim.Native.Nat.{ℕ, suc}
use Rattle.std.specs.Prelude.{Option, Some, None, Result, Ok, Err, IsErr, IfOk}
use Rattle.arguments.specs.Asking.{heard, ended, ended_by, go_on, asks_from, asks, nothing_asked}
use Rattle.arguments.specs.declared.Asked.{Asked}
use Rattle.arguments.specs.declared.Fault.{Fault}

-- once something is wrong, no argument after it changes that
pub fault_stays : (a : Asked) (n : ℕ) (some more : List (List ℕ)) → IsErr (asks_from a n some) → asks_from a n (some ++ more) ≡ asks_from a n some
unfolding asks_from
fault_stays a n [] more e = cc
fault_stays a n (x ∷ some) more e = go (heard a n x) (λ b. fault_stays b (suc n) some more) e
  where
    go : (r : Result Asked Fault) → ((b : Asked) → IsErr (asks_from b (suc n) some) → asks_from b (suc n) (some ++ more) ≡ asks_from b (suc n) some)
        → IsErr (go_on r (λ b. asks_from b (suc n) some)) → go_on r (λ b. asks_from b (suc n) (some ++ more)) ≡ go_on r (λ b. asks_from b (suc n) some)
    go (Ok b) stays e = stays b e
    go (Err f) stays e = refl

ended_wrong : (r : Result Asked Fault) → IsErr r → go_on r ended ≡ r
ended_wrong (Ok a) e = cc
ended_wrong (Err f) e = refl

-- the first argument that is wrong decides: those after it, and the end, change nothing
pub first_fault : (some more : List (List ℕ)) → IsErr (asks_from nothing_asked 1 some) → asks (some ++ more) ≡ asks_from nothing_asked 1 some
unfolding asks
first_fault some more e = ap (λ r. go_on r ended) (fault_stays nothing_asked 1 some more e) ∙ ended_wrong _ e

-- nothing is wrong at the end: every option has its argument
pub ended_none_waits : (a : Asked) → IfOk (ended a) (λ b. b.option ≡ None)
ended_none_waits a = go a.option refl
  where
    go : (o : Option ℕ) → a.option ≡ o → IfOk (ended_by o a) (λ b. b.option ≡ None)
    go None e = e
    go (Some place) e = tt

-- what is asked without a fault leaves no option without its argument
pub asks_whole : (arguments : List (List ℕ)) → IfOk (asks arguments) (λ a. a.option ≡ None)
unfolding asks
asks_whole arguments = go (asks_from nothing_asked 1 arguments)
  where
    go : (r : Result Asked Fault) → IfOk (go_on r ended) (λ a. a.option ≡ None)
    go (Ok a) = ended_none_waits a
    go (Err f) = tt
