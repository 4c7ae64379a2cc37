-- What the parts of the code work out.
use Rattle.std.specs.Prelude.{ℕ, ◌+◌, ◌*◌, Bool, true, ◌&&◌, List, [], ◌∷◌, length, get_or, take, drop, eqb, ℤ}
use Rattle.tokens.specs.Tokens.{between}
use Rattle.contract.specs.Tree.{Verb, set, ok, Clause}
use Rattle.contract.specs.Decode.{verb_of}
use Rattle.state.specs.declared.State.{State}
use Rattle.agreements.specs.Agreement.{Part, words_in, set_fields, agreed_fields, fields_of}

-- part i of a line, its fields and values being those from `at` on
abbrev pub part_at : List ℕ → List ℕ → List ℕ → List ℤ → ℕ → ℕ → Part
part_at line parts spans values i at =
    record {
      party = between line (get_or parts (i * 4) 0) (get_or parts (i * 4 + 1) 0);
      verb = verb_of (get_or parts (i * 4 + 2) 0);
      fields = words_in line (get_or parts (i * 4 + 3) 0) (drop (at * 2) spans);
      values = take (get_or parts (i * 4 + 3) 0) (drop at values);
    }

-- fields with their values, by a clause's verb
abbrev pub set_part : State → List ℕ → List ℤ → Verb → State
set_part s xs zs set = set_fields s xs zs
set_part s xs zs ok = s

abbrev pub agreed_part : State → List ℕ → List ℤ → Verb → Bool
agreed_part s xs zs set = true
agreed_part s xs zs ok = agreed_fields s xs zs

-- clauses with all their values in a row
unfoldable pub set_by : State → List Clause → List ℤ → State
set_by s [] zs = s
set_by s (k ∷ ks) zs = set_by (set_part s k.fields zs k.verb) ks (drop (length k.fields) zs)

unfoldable pub agreed_by : State → List Clause → List ℤ → Bool
agreed_by s [] zs = true
agreed_by s (k ∷ ks) zs = agreed_part s k.fields zs k.verb && agreed_by s ks (drop (length k.fields) zs)

-- question 24, of the state that the values set give
abbrev pub same_by : State → List Clause → List ℤ → Bool
same_by s ks zs = eqb (fields_of set ks) (fields_of ok ks) && agreed_by s ks zs
