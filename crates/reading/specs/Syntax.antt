-- A contract's text as a tree, with the places that refusals speak of. Names are parts of the text, not looked up yet.
use Rattle.std.specs.Prelude.{ℕ, List}
use Rattle.contract.specs.Tree.{Verb}

-- the bytes of the text from start up to, not including, end
pub record Span : Type 0 where
  pub start : ℕ
  pub end : ℕ

-- an expression or a condition
pub data Term : Type 0 where
  named : Span → Term
  -- a number's value, and its place
  numeral : ℕ → ℕ → Term
  -- what stands between a string's quotes, and the place of the first quote
  quoted : Span → ℕ → Term
  -- now, true or false: the token's kind and place
  fixed : ℕ → ℕ → Term
  -- `~` at a place
  negated : ℕ → Term → Term
  -- an operator or a comparison: the token's kind and place, its left and its right side
  operated : ℕ → ℕ → Term → Term → Term

-- a statement without statements in it
pub data Action : Type 0 where
  -- E -> t
  sends : Term → Span → Action
  -- E -o h, t
  moves : Term → Span → Span → Action
  -- h -o t
  moves_all : Span → Span → Action

-- statements in a row, each after the block before it, with the place of its first token
pub data Block : Type 0 where
  none : Block
  perform : Block → ℕ → Action → Block
  -- (B) { S }
  conditional : Block → ℕ → Term → Block → Block

-- E >> @Q { S } => @Q', with the place of its first token
pub record Event : Type 0 where
  pub place : ℕ
  pub guard : Term
  pub state : Span
  pub handler : Block
  pub last : Span

-- what a function's body holds: all statements, then all events
pub record Body : Type 0 where
  pub statements : Block
  pub events : List Event

-- a precondition may be omitted
pub data Precondition : Type 0 where
  omitted : Precondition
  given : Term → Precondition

-- @Q A : f (..) [..] (B) { S W } => @Q', with the place of its first `@`
pub record Function : Type 0 where
  pub place : ℕ
  pub state : Span
  pub party : Span
  pub name : Span
  pub values : List Span
  pub parameters : List Span
  pub precondition : Precondition
  pub body : Body
  pub last : Span

-- A =SET=> x, .. or A =OK=> x, ..
pub record Clause : Type 0 where
  pub party : Span
  pub verb : Verb
  pub fields : List Span

-- legal_contract N { assets .. fields .. agreement (..) { .. } => @Q F .. }, with the place of the agreement's closing brace
pub record Syntax : Type 0 where
  pub name : Span
  pub assets : List Span
  pub fields : List Span
  pub parties : List Span
  pub clauses : List Clause
  pub closing : ℕ
  pub initial : Span
  pub functions : List Function
