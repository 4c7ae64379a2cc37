-- What the parts of the code work out.
use Rattle.std.specs.Prelude.{ℕ, Bool, ◌&&◌}
use Rattle.contract.specs.Tree.{Verb, Clause}
use Rattle.agreements.specs.Agreement.{same_verb}
use Rattle.reviews.specs.Reviews.{is_in}

-- a clause has this verb and names field x
abbrev pub says : Verb → ℕ → Clause → Bool
says v x k = same_verb v k.verb && is_in x k.fields
