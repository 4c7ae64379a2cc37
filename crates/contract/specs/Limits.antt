-- The limits of document 01 on a contract.
use Rattle.std.specs.Prelude.{ℕ}
use Rattle.tokens.specs.Tokens as tokens

-- document 01's Top: the greatest constant, amount and clock
abbrev pub top : ℕ
top = tokens.top

abbrev pub max_parties : ℕ
max_parties = 8

abbrev pub max_assets : ℕ
max_assets = 16

abbrev pub max_fields : ℕ
max_fields = 32

abbrev pub max_states : ℕ
max_states = 32

-- distinct strings
abbrev pub max_strings : ℕ
max_strings = 32

-- each party has at most one SET and one OK
abbrev pub max_clauses : ℕ
max_clauses = 16

abbrev pub max_functions : ℕ
max_functions = 64

abbrev pub max_events : ℕ
max_events = 64

abbrev pub max_nodes : ℕ
max_nodes = 4096

-- of a function
abbrev pub max_values : ℕ
max_values = 8

abbrev pub max_parameters : ℕ
max_parameters = 4

-- in a body or a handler, nested ones counted
abbrev pub max_statements : ℕ
max_statements = 64

-- bytes of a name, and of a string without its quotes
abbrev pub max_name : ℕ
max_name = 32

abbrev pub max_string : ℕ
max_string = 64
