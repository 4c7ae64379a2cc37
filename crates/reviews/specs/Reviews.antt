-- What the terms say before any session: the fields that a clause sets and no clause agrees on. Question 24 refuses every agreement on
-- such terms.
use Rattle.std.specs.Prelude.{ℕ, Bool, false, not, ◌&&◌, ◌||◌, List, [], ◌∷◌, get_or, eqb}
use Rattle.laws.specs.Choice.{pick}
use Rattle.contract.specs.Tree.{Verb, set, ok, Clause, Contract}
use Rattle.contract.specs.Decode.{contract_of}
use Rattle.contract.specs.Check.{passes}
use Rattle.agreements.specs.Agreement.{same_verb}

-- whether a number is in a list
unfoldable pub is_in : ℕ → List ℕ → Bool
is_in x [] = false
is_in x (y ∷ ys) = eqb x y || is_in x ys

-- whether a clause of this verb names field x
unfoldable pub names : Verb → ℕ → List Clause → Bool
names v x [] = false
names v x (k ∷ ks) = (same_verb v k.verb && is_in x k.fields) || names v x ks

-- a clause sets field x, and no clause agrees on it
unfoldable pub unagreed : Contract → ℕ → Bool
unagreed c x = names set x c.clauses && not (names ok x c.clauses)

-- the same of a table; no field where it does not pass
unfoldable pub never_agreed : List ℕ → ℕ → Bool
never_agreed w x = pick (passes w) (unagreed (contract_of w) x) false

-- the name of field x of the contract in a table; none where the table does not pass, or past the last field
unfoldable pub field_name : List ℕ → ℕ → List ℕ
field_name w x = pick (passes w) (get_or (contract_of w).fields x []) []
