-- Questions 11 to 15. Each item is judged by the items before it, which stand with the latest first.
use Rattle.std.specs.Prelude.{ℕ, suc, Bool, true, false, ◌&&◌, ◌||◌, not, List, [], ◌∷◌, ◌++◌, length, get_or, eqb, leb, ltb}
use Rattle.laws.specs.Choice.{pick}
use Rattle.laws.specs.Bytes.{same_bytes}
use Rattle.tokens.specs.Tokens.{between}
use Rattle.contract.specs.Limits.{max_parties, max_assets, max_fields, max_states, max_strings, max_clauses, max_functions, max_events, max_nodes, max_values, max_parameters, max_statements}
use Rattle.contract.specs.Tree.{Word, Verb, set, ok, Clause}
use Rattle.laws.specs.Lists.{every, all_below}
use Rattle.reading.specs.Syntax.{Span}
use Rattle.reading.specs.Syntax as syntax
use Rattle.reading.specs.Grammar.{is_one_of}
use Rattle.reading.specs.Items.{party, asset, field, value, parameter, state, statement, Item, declares, mentions, uses, counts, opens, heads, closes}

-- the limit of each kind, by its number
abbrev pub most : ℕ → ℕ
most k =
    get_or (max_parties ∷ max_assets ∷ max_fields ∷ max_values ∷ max_parameters ∷ max_states ∷ max_strings ∷ max_events ∷ max_statements ∷ max_nodes ∷ []) k 0

-- the place of a word among words, from 0; how many they are where it is not among them
unfoldable pub number_of : Word → List Word → ℕ
number_of w [] = 0
number_of w (v ∷ vs) = pick (same_bytes w v) 0 (suc (number_of w vs))

abbrev pub is_among : Word → List Word → Bool
is_among w ws = ltb (number_of w ws) (length ws)

-- words of kind k with one more, within the limit
unfoldable pub listed : ℕ → Word → List Word → List Word
listed k w ws = pick (ltb (length ws) (most k)) (ws ++ (w ∷ [])) ws

-- a function's state and party by their numbers, and its name
pub record Header : Type 0 where
  pub state : ℕ
  pub party : ℕ
  pub name : Word

abbrev pub same_header : Header → Header → Bool
same_header h g = eqb h.state g.state && (eqb h.party g.party && same_bytes h.name g.name)

unfoldable pub is_header_among : Header → List Header → Bool
is_header_among h [] = false
is_header_among h (g ∷ gs) = same_header h g || is_header_among h gs

-- ---- question 14: the agreement's three rules, over parties and fields by their numbers

unfoldable pub distinct : List ℕ → Bool
distinct [] = true
distinct (x ∷ xs) = not (is_one_of xs x) && distinct xs

abbrev pub is_set : Verb → Bool
is_set set = true
is_set ok = false

-- the parties of the clauses with SET, or of those with OK
unfoldable pub parties_of : Bool → List Clause → List ℕ
parties_of v [] = []
parties_of true (k ∷ ks) = pick (is_set k.verb) (k.party ∷ parties_of true ks) (parties_of true ks)
parties_of false (k ∷ ks) = pick (is_set k.verb) (parties_of false ks) (k.party ∷ parties_of false ks)

-- the fields that these parties set
unfoldable pub fields_set : (ℕ → Bool) → List Clause → List ℕ
fields_set who [] = []
fields_set who (k ∷ ks) = pick (is_set k.verb && who k.party) (k.fields ++ fields_set who ks) (fields_set who ks)

-- an agreed field is set by another party, and agreed once
unfoldable pub agrees_well : List Clause → Clause → Bool
agrees_well ks k =
    is_set k.verb
    || (distinct k.fields && every (is_one_of (fields_set (λ a. not (eqb a k.party)) ks)) k.fields)

-- a field is set at most once; a party agrees only on fields set by another, each once; each of the n parties has a clause, at most one
-- SET and one OK
abbrev pub three_rules : ℕ → List Clause → Bool
three_rules n ks =
    distinct (fields_set (λ a. true) ks)
    && (every (agrees_well ks) ks
    && (all_below n (λ a. is_one_of (parties_of true ks) a || is_one_of (parties_of false ks) a)
    && (distinct (parties_of true ks) && distinct (parties_of false ks))))

-- the clauses that a table has room for
abbrev pub has_room : List Clause → Bool
has_room ks = leb (length ks) max_clauses && every (λ k. leb (length k.fields) max_fields) ks

-- The room decides nothing: every text is answered the same by the three rules alone (`room_decides_nothing`,
-- accepted/proofs/ReadByRules.antt).
unfoldable pub keeps_rules : ℕ → List Clause → Bool
keeps_rules n ks = has_room ks && three_rules n ks

-- ---- refusals

pub data Finding : Type 0 where
  fine : Finding
  -- a question's number and a place
  breaks : ℕ → ℕ → Finding

-- earliest place, then lowest number
abbrev pub lesser : Finding → Finding → Finding
lesser fine g = g
lesser (breaks q p) fine = breaks q p
lesser (breaks q p) (breaks r o) = pick (ltb p o || (eqb p o && leb q r)) (breaks q p) (breaks r o)

-- fine where the test holds
abbrev pub or_breaks : Bool → ℕ → ℕ → Finding
or_breaks b q p = pick b fine (breaks q p)

-- how many of a kind there are; statements are those of the body or handler at hand
unfoldable pub count : ℕ → List Item → ℕ
count k [] = 0
count k (declares j x ∷ b) = count k b
count k (mentions j x p ∷ b) = count k b
count k (uses ks x ∷ b) = count k b
count k (counts j p ∷ b) = pick (eqb j k) (suc (count k b)) (count k b)
count k (opens ∷ b) = pick (eqb k statement) 0 (count k b)
count k (heads p q a f ∷ b) = count k b
count k (closes p cs ∷ b) = count k b

module _ (s : List ℕ) where
  -- the bytes of a name, or of a string without its quotes
  abbrev pub word : Span → Word
  word x = between s x.start x.end

  -- the words of a kind that the items bring, in the order of the text, states and strings once each; parameters are those of the
  -- function at hand
  unfoldable pub known : ℕ → List Item → List Word
  known k [] = []
  known k (declares j x ∷ b) = pick (eqb j k) (listed k (word x) (known k b)) (known k b)
  known k (mentions j x p ∷ b) =
      pick (eqb j k) (pick (is_among (word x) (known k b)) (known k b) (listed k (word x) (known k b))) (known k b)
  known k (uses ks x ∷ b) = known k b
  known k (counts j p ∷ b) = known k b
  known k (opens ∷ b) = known k b
  known k (heads p q a f ∷ b) = pick (is_one_of (value ∷ parameter ∷ []) k) [] (known k b)
  known k (closes p cs ∷ b) = known k b

  abbrev pub header : List Item → Span → Span → Span → Header
  header b q a f = record { state = number_of (word q) (known state b); party = number_of (word a) (known party b); name = word f }

  -- the functions, within the limit
  unfoldable pub headers : List Item → List Header
  headers [] = []
  headers (declares j x ∷ b) = headers b
  headers (mentions j x p ∷ b) = headers b
  headers (uses ks x ∷ b) = headers b
  headers (counts j p ∷ b) = headers b
  headers (opens ∷ b) = headers b
  headers (heads p q a f ∷ b) = pick (ltb (length (headers b)) max_functions) (headers b ++ (header b q a f ∷ [])) (headers b)
  headers (closes p cs ∷ b) = headers b

  -- whether a word is known as one of these kinds
  unfoldable pub is_known : List ℕ → List Item → Word → Bool
  is_known [] b w = false
  is_known (k ∷ ks) b w = is_among w (known k b) || is_known ks b w

  -- names of a kind by their numbers
  unfoldable pub numbers_in : List Word → List Span → List ℕ
  numbers_in ws [] = []
  numbers_in ws (x ∷ xs) = number_of (word x) ws ∷ numbers_in ws xs

  -- clauses with these parties and fields
  unfoldable pub clauses_in : List Word → List Word → List syntax.Clause → List Clause
  clauses_in ps xs [] = []
  clauses_in ps xs (k ∷ ks) =
      record { party = number_of (word k.party) ps; verb = k.verb; fields = numbers_in xs k.fields } ∷ clauses_in ps xs ks

  -- whether the next item keeps the questions
  unfoldable pub judge : List Item → Item → Finding
  -- a declared name: within the limit, 11, and new, 12
  judge b (declares k x) =
      lesser (or_breaks (ltb (length (known k b)) (most k)) 11 x.start)
      (or_breaks (not (is_known (party ∷ asset ∷ field ∷ value ∷ parameter ∷ []) b (word x))) 12 x.start)
  -- a state or a string: named before, or within the limit, 11
  judge b (mentions k x p) = or_breaks (is_among (word x) (known k b) || ltb (length (known k b)) (most k)) 11 p
  -- a used name: of a kind wanted, 13
  judge b (uses ks x) = or_breaks (is_known ks b (word x)) 13 x.start
  -- an event, a statement or a node: within the limit, 11
  judge b (counts k p) = or_breaks (ltb (count k b) (most k)) 11 p
  judge b opens = fine
  -- a function: within the limit, 11, and new by state, party and name, 15
  judge b (heads p q a f) =
      lesser (or_breaks (ltb (length (headers b)) max_functions) 11 p)
      (or_breaks (not (is_header_among (header b q a f) (headers b))) 15 f.start)
  -- the agreement: 14
  judge b (closes p cs) = or_breaks (keeps_rules (length (known party b)) (clauses_in (known party b) (known field b) cs)) 14 p

  -- the least finding of items after others, and of those before them
  unfoldable pub judged : List Item → Finding → List Item → Finding
  judged b f [] = f
  judged b f (i ∷ is) = judged (i ∷ b) (lesser f (judge b i)) is
