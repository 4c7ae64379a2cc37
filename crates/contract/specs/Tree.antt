-- A contract as reading gives it. Names stand for their bytes where they are declared; where they are used they are resolved to
-- the number of what they name. Parties, assets, fields, functions and events are numbered from 0 in text order, value parameters and asset
-- parameters each by themselves in their function, states and strings as the text first names them. Not kept: comments, spacing,
-- parentheses that change nothing, leading zeros, and whether an empty list of parameters was written.
use Rattle.std.specs.Prelude.{ℕ, Bool, List}
use Rattle.numbers.specs.declared.Operator.{Operator}
use Rattle.numbers.specs.declared.Comparison.{Comparison}

-- the bytes of a name, or of a string without its quotes
abbrev pub Word : Type 0
Word = List ℕ

-- what holds an amount: an asset, or an asset parameter of the function
pub data Holder : Type 0 where
  asset : ℕ → Holder
  asset_parameter : ℕ → Holder

pub data Expression : Type 0 where
  constant : ℕ → Expression
  string : ℕ → Expression
  clock : Expression
  field : ℕ → Expression
  value_parameter : ℕ → Expression
  -- the amount that an asset or an asset parameter holds
  held : Holder → Expression
  apply : Operator → Expression → Expression → Expression
  -- no part of a contract that was read: what a malformed table gives
  broken_expression : Expression

pub data Condition : Type 0 where
  truth : Bool → Condition
  compare : Comparison → Expression → Expression → Condition
  negation : Condition → Condition
  both : Condition → Condition → Condition
  either : Condition → Condition → Condition
  -- as above
  broken_condition : Condition

-- a statement without statements in it
pub data Action : Type 0 where
  -- E -> x, a field
  assign : Expression → ℕ → Action
  -- E -> A, a party
  send : Expression → ℕ → Action
  -- E -o h, h'
  move : Expression → Holder → Holder → Action
  -- E -o h, A
  pay : Expression → Holder → ℕ → Action
  -- h -o h'
  move_all : Holder → Holder → Action
  -- h -o A
  pay_all : Holder → ℕ → Action

-- statements in a row, each after the block before it
pub data Block : Type 0 where
  none : Block
  perform : Block → Action → Block
  -- (B) { S }
  conditional : Block → Condition → Block → Block
  -- as above
  broken_block : Block

pub data Precondition : Type 0 where
  -- true
  omitted : Precondition
  given : Condition → Precondition

-- E >> @Q { S } => @Q'
pub record Event : Type 0 where
  pub guard : Expression
  pub state : ℕ
  pub handler : Block
  pub last : ℕ

-- @Q A : f (..) [..] (B) { S W } => @Q'
pub record Function : Type 0 where
  pub state : ℕ
  pub party : ℕ
  pub name : Word
  -- the names of its value parameters, and of its asset parameters
  pub values : List Word
  pub parameters : List Word
  pub precondition : Precondition
  pub body : Block
  pub events : List Event
  pub last : ℕ

pub data Verb : Type 0 where
  set : Verb
  ok : Verb

pub record Clause : Type 0 where
  pub party : ℕ
  pub verb : Verb
  pub fields : List ℕ

pub record Contract : Type 0 where
  pub name : Word
  pub parties : List Word
  pub assets : List Word
  pub fields : List Word
  pub states : List Word
  pub strings : List Word
  pub clauses : List Clause
  pub initial : ℕ
  pub functions : List Function
