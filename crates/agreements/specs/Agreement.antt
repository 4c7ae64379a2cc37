-- The agreement: the parties' clauses in the contract's order, with the fields' values.
use Rattle.std.specs.Prelude.{ℕ, zero, suc, ◌*◌, ◌^◌, Bool, true, false, ◌&&◌, List, [], ◌∷◌, length, get_or, take, drop, eqb, ℤ, pos}
use Rattle.std.specs.Int.Bits.{bit_or}
use Rattle.laws.specs.Choice.{pick}
use Rattle.laws.specs.Bytes.{same_bytes}
use Rattle.questions.specs.declared.Question.TheVariants as ask
use Rattle.numbers.specs.Numbers.{eq_z}
use Rattle.tokens.specs.Tokens.{between}
use Rattle.contract.specs.Tree.{Word, Verb, ok, Clause, Contract}
use Rattle.contract.specs.Tree as tree
use Rattle.contract.specs.Decode.{verb_of, contract_of}
use Rattle.contract.specs.Check.{passes}
use Rattle.state.specs.declared.State.{State}
use Rattle.state.specs.States.{with_integer, opened}
use Rattle.outcomes.specs.declared.Rule.TheVariants.{Agree}
use Rattle.outcomes.specs.declared.Outcome.TheVariants.{Accepted}
use Rattle.questions.specs.declared.Question.{Question}
use Rattle.outcomes.specs.declared.Stepped.{Stepped}
use Rattle.outcomes.specs.Outcomes.{answered, refused}

-- one party's part: its name, its verb, and its fields with their values
pub record Part : Type 0 where
  pub party : Word
  pub verb : Verb
  pub fields : List Word
  pub values : List ℤ

-- The parts of a session line. A part is four numbers: where its party's name starts and ends in the line, 0 for SET, else OK,
-- and how many fields it has. A field is two numbers, where its name starts and ends; its value stands in a list of its own.
unfoldable pub words_in : List ℕ → ℕ → List ℕ → List Word
words_in line zero spans = []
words_in line (suc n) spans = between line (get_or spans 0 0) (get_or spans 1 0) ∷ words_in line n (drop 2 spans)

-- numbers that are left over are one part more, a value without a field, which no clause has
abbrev pub surplus : Part
surplus = record { party = []; verb = ok; fields = []; values = pos 0 ∷ [] }

unfoldable pub parts_in : List ℕ → ℕ → List ℕ → List ℕ → List ℤ → List Part
parts_in line zero parts spans values =
    pick (eqb (length parts) 0 && (eqb (length spans) 0 && eqb (length values) 0)) [] (surplus ∷ [])
parts_in line (suc n) parts spans values =
    let k = get_or parts 3 0 in
    record {
      party = between line (get_or parts 0 0) (get_or parts 1 0);
      verb = verb_of (get_or parts 2 0);
      fields = words_in line k spans;
      values = take k values;
    }
    ∷ parts_in line n (drop 4 parts) (drop (k * 2) spans) (drop k values)

-- ---- question 23

unfoldable pub same_verb : Verb → Verb → Bool
same_verb tree.set tree.set = true
same_verb tree.set tree.ok = false
same_verb tree.ok tree.set = false
same_verb tree.ok tree.ok = true

unfoldable pub same_fields : Contract → List ℕ → List Word → Bool
same_fields c [] [] = true
same_fields c [] (n ∷ ns) = false
same_fields c (x ∷ xs) [] = false
same_fields c (x ∷ xs) (n ∷ ns) = same_bytes n (get_or c.fields x []) && same_fields c xs ns

-- a value for each field
unfoldable pub same_clause : Contract → Clause → Part → Bool
same_clause c k p =
    same_bytes p.party (get_or c.parties k.party [])
    && (same_verb k.verb p.verb
    && (same_fields c k.fields p.fields
    && eqb (length p.values) (length p.fields)))

unfoldable pub same_clauses : Contract → List Clause → List Part → Bool
same_clauses c [] [] = true
same_clauses c [] (p ∷ ps) = false
same_clauses c (k ∷ ks) [] = false
same_clauses c (k ∷ ks) (p ∷ ps) = same_clause c k p && same_clauses c ks ps

-- ---- the values set, and question 24

unfoldable pub set_fields : State → List ℕ → List ℤ → State
set_fields s [] zs = s
set_fields s (x ∷ xs) [] = s
set_fields s (x ∷ xs) (z ∷ zs) = set_fields (with_integer s x z) xs zs

abbrev pub set_clause : State → Clause → Part → Verb → State
set_clause s k p tree.set = set_fields s k.fields p.values
set_clause s k p tree.ok = s

unfoldable pub set_clauses : State → List Clause → List Part → State
set_clauses s [] ps = s
set_clauses s (k ∷ ks) [] = s
set_clauses s (k ∷ ks) (p ∷ ps) = set_clauses (set_clause s k p k.verb) ks ps

unfoldable pub agreed_fields : State → List ℕ → List ℤ → Bool
agreed_fields s [] zs = true
agreed_fields s (x ∷ xs) [] = true
agreed_fields s (x ∷ xs) (z ∷ zs) =
    eqb (get_or s.kinds x 0) 1 && (eq_z (get_or s.numbers x (pos 0)) z && agreed_fields s xs zs)

abbrev pub agreed_clause : State → Clause → Part → Verb → Bool
agreed_clause s k p tree.set = true
agreed_clause s k p tree.ok = agreed_fields s k.fields p.values

unfoldable pub agreed_clauses : State → List Clause → List Part → Bool
agreed_clauses s [] ps = true
agreed_clauses s (k ∷ ks) [] = true
agreed_clauses s (k ∷ ks) (p ∷ ps) = agreed_clause s k p k.verb && agreed_clauses s ks ps

-- one bit for each field of a list
unfoldable pub fields_in : List ℕ → ℕ
fields_in [] = 0
fields_in (x ∷ xs) = bit_or (fields_in xs) (2 ^ x)

-- one bit for each field that clauses of this verb name
unfoldable pub fields_of : Verb → List Clause → ℕ
fields_of v [] = 0
fields_of v (k ∷ ks) = pick (same_verb v k.verb) (bit_or (fields_of v ks) (fields_in k.fields)) (fields_of v ks)

-- question 24: the values set and the values agreed on are the same map
unfoldable pub same_map : State → List Clause → List Part → Bool
same_map s ks ps = eqb (fields_of tree.set ks) (fields_of ok ks) && agreed_clauses (set_clauses s ks ps) ks ps

-- ---- the step

-- 21, 23, 24
unfoldable pub agreed_on : Contract → State → List Part → Stepped Question
agreed_on c s ps =
    pick s.agreed (refused s ask.NotAgreed)
    (pick (same_clauses c c.clauses ps)
    (pick (same_map s c.clauses ps)
    (answered (Accepted Agree) (opened (set_clauses s c.clauses ps) c.initial))
    (refused s ask.SameValues))
    (refused s ask.SameClauses))

-- 3, then the agreement on the table's contract
unfoldable pub agreed_in : List ℕ → State → List Part → Stepped Question
agreed_in w s ps = pick (passes w) (agreed_on (contract_of w) s ps) (refused s ask.TableCheck)
