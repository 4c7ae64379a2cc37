-- The items of a contract's text that questions 11 to 15 ask about, in the order in which a reader of the text learns of them.
use Rattle.std.specs.Prelude.{ℕ, List, [], ◌∷◌, ◌++◌}
use Rattle.reading.specs.Syntax.{Span, Term, named, numeral, quoted, fixed, negated, operated, Action, sends, moves, moves_all, Block, none, perform, conditional, Event, Precondition, omitted, given, Function, Clause, Syntax}

-- kinds of names: the first three share one set, and a parameter is new in it and in its function
abbrev pub party : ℕ
party = 0

abbrev pub asset : ℕ
asset = 1

abbrev pub field : ℕ
field = 2

abbrev pub value : ℕ
value = 3

abbrev pub parameter : ℕ
parameter = 4

-- states and strings need no declaration
abbrev pub state : ℕ
state = 5

abbrev pub string : ℕ
string = 6

-- what else is counted
abbrev pub event : ℕ
event = 7

abbrev pub statement : ℕ
statement = 8

abbrev pub node : ℕ
node = 9

pub data Item : Type 0 where
  -- a declared name of a kind
  declares : ℕ → Span → Item
  -- a state or a string, and its place
  mentions : ℕ → Span → ℕ → Item
  -- a used name, and the kinds that are wanted
  uses : List ℕ → Span → Item
  -- an event, a statement or a node at its first byte
  counts : ℕ → ℕ → Item
  -- a body or a handler starts
  opens : Item
  -- a function at its `@`, with its state, party and name
  heads : ℕ → Span → Span → Span → Item
  -- the agreement's closing brace, with the clauses before it
  closes : ℕ → List Clause → Item

-- the items that the members of a list give, one after the other
unfoldable pub of_each : {A : Type 0} → (A → List Item) → List A → List Item
of_each f [] = []
of_each f (x ∷ xs) = f x ++ of_each f xs

abbrev pub declared : ℕ → List Span → List Item
declared k = of_each (λ x. declares k x ∷ [])

abbrev pub state_item : Span → Item
state_item q = mentions state q q.start

-- where code stands: a handler names no parameter
pub data Site : Type 0 where
  in_function : Site
  in_handler : Site

-- what an expression names
abbrev pub value_kinds : Site → List ℕ
value_kinds in_function = asset ∷ field ∷ value ∷ parameter ∷ []
value_kinds in_handler = asset ∷ field ∷ []

-- an asset; an asset parameter counts as one
abbrev pub asset_kinds : Site → List ℕ
asset_kinds in_function = asset ∷ parameter ∷ []
asset_kinds in_handler = asset ∷ []

-- a name in a precondition or a body is a node
abbrev pub name_items : List ℕ → Span → List Item
name_items ks x = counts node x.start ∷ uses ks x ∷ []

unfoldable pub term_items : Site → Term → List Item
term_items c (named x) = name_items (value_kinds c) x
term_items c (numeral v p) = counts node p ∷ []
term_items c (quoted x p) = counts node p ∷ mentions string x p ∷ []
term_items c (fixed k p) = counts node p ∷ []
term_items c (negated p t) = counts node p ∷ term_items c t
term_items c (operated k p t u) = term_items c t ++ (counts node p ∷ term_items c u)

-- A statement is a node at its first token, and known for a statement at its arrow. E -> t goes to a field or a party, E -o h, t from an
-- asset to an asset or a party; in h -o t the name h, read as an expression, is then wanted as an asset.
unfoldable pub action_items : Site → ℕ → Action → List Item
action_items c p (sends e t) = counts node p ∷ (term_items c e ++ (counts statement p ∷ name_items (party ∷ field ∷ []) t))
action_items c p (moves e h t) =
    counts node p ∷ (term_items c e ++ (counts statement p ∷ (name_items (asset_kinds c) h ++ name_items (party ∷ asset_kinds c) t)))
action_items c p (moves_all h t) =
    counts node p
    ∷ (term_items c (named h)
    ++ (counts statement p ∷ counts node t.start ∷ uses (asset_kinds c) h ∷ uses (party ∷ asset_kinds c) t ∷ []))

unfoldable pub block_items : Site → Block → List Item
block_items c none = []
block_items c (perform b p a) = block_items c b ++ action_items c p a
block_items c (conditional b p t i) =
    block_items c b ++ (counts node p ∷ counts statement p ∷ (term_items c t ++ block_items c i))

unfoldable pub event_items : Event → List Item
event_items w =
    counts node w.place
    ∷ (term_items in_function w.guard
    ++ (counts event w.place ∷ state_item w.state ∷ opens ∷ (block_items in_handler w.handler ++ (state_item w.last ∷ []))))

unfoldable pub precondition_items : Precondition → List Item
precondition_items omitted = []
precondition_items (given t) = term_items in_function t

unfoldable pub function_items : Function → List Item
function_items f =
    state_item f.state ∷ uses (party ∷ []) f.party ∷ heads f.place f.state f.party f.name
    ∷ (declared value f.values
    ++ (declared parameter f.parameters
    ++ (precondition_items f.precondition
    ++ (opens
    ∷ (block_items in_function f.body.statements
    ++ (of_each event_items f.body.events ++ (state_item f.last ∷ [])))))))

unfoldable pub clause_items : Clause → List Item
clause_items k = uses (party ∷ []) k.party ∷ of_each (λ x. uses (field ∷ []) x ∷ []) k.fields

unfoldable pub items : Syntax → List Item
items c =
    declared asset c.assets
    ++ (declared field c.fields
    ++ (declared party c.parties
    ++ (of_each clause_items c.clauses
    ++ (closes c.closing c.clauses ∷ state_item c.initial ∷ of_each function_items c.functions))))
