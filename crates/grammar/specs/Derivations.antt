-- Table 1 with document 01's choices, as relations: which tokens, one after the other, make which tree. A list of tokens that makes no
-- tree is not grammatical. Levels are those of parentheses and conditionals that are left.
use Rattle.std.specs.Prelude.{ℕ, zero, suc, ◌+◌, ◌-◌, ◌≡◌, true, false, List, [], ◌∷◌, ◌++◌}
use Rattle.words.specs.Words.{legal_contract, assets as assetsWord, fields as fieldsWord, agreement as agreementWord, now_word, true_word, false_word, set_arrow, ok_arrow, value_arrow, asset_arrow, state_arrow, event_mark, equal, unequal, at_most, at_least, and_mark, or_mark, open_paren, close_paren, open_brace}
use Rattle.words.specs.Words.{close_brace, open_bracket, close_bracket, comma, colon, at_sign, underscore, plus_mark, minus_mark, times_mark, over_mark, less, greater, not_mark}
use Rattle.tokens.specs.Tokens.{token_at, name as nameKind, number as numberKind, string as string_kind}
use Rattle.tokens.specs.declared.Token.{Token}
use Rattle.tokens.specs.declared.Lexed.TheVariants.{Found, End}
use Rattle.contract.specs.Tree.{Verb, set, ok}
use Rattle.reading.specs.Syntax.{Span, Term, named, numeral, quoted, fixed, negated, operated, Action, sends, moves, moves_all, Block, none, perform, conditional, Event, Body, Precondition, omitted, given, Function, Clause, Syntax}
use Rattle.reading.specs.Grammar.{is_one_of, max_levels}

-- ---- tokens

-- the tokens stand in the text one after the other, from the place `at` up to the place `end`
abbrev pub Tokens : List ℕ → ℕ → List Token → ℕ → Type 0
Tokens s at [] end = at ≡ end
Tokens s at (o ∷ ts) end = (token_at s at ≡ Found o) × Tokens s o.end ts end

-- the token is of one of these kinds
abbrev pub In : List ℕ → Token → Type 0
In ks o = is_one_of ks o.kind ≡ true

abbrev pub Is : ℕ → Token → Type 0
Is k = In (k ∷ [])

-- the first token is of one of these kinds
abbrev pub Starts : List ℕ → List Token → Type 0
Starts ks [] = ⊥
Starts ks (o ∷ ts) = In ks o

-- the first token, where there is one, is of another kind
abbrev pub StartsNot : ℕ → List Token → Type 0
StartsNot k [] = Unit {0}
StartsNot k (o ∷ ts) = is_one_of (k ∷ []) o.kind ≡ false

-- the place of the first token
abbrev pub start_of : List Token → ℕ
start_of [] = 0
start_of (o ∷ ts) = o.start

abbrev pub span_of : Token → Span
span_of o = record { start = o.start; end = o.end }

-- ---- names

-- x, ..
pub data Names : List Span → List Token → Type 0 where
  one : (o : Token) → Is nameKind o → Names (span_of o ∷ []) (o ∷ [])
  more : {xs : List Span} {ts : List Token} → Names xs ts → (c o : Token) → Is comma c → Is nameKind o → Names (xs ++ (span_of o ∷ [])) (ts ++ (c ∷ o ∷ []))

-- @Q
pub data State : Span → List Token → Type 0 where
  state : (a o : Token) → Is at_sign a → Is nameKind o → State (span_of o) (a ∷ o ∷ [])

-- ---- expressions: E ::= now | X | v | E op E

-- a name, a number, a string or now
abbrev pub leaves : List ℕ
leaves = nameKind ∷ numberKind ∷ string_kind ∷ now_word ∷ []

-- operands with operators of one rank between them, grouped to the left
pub data Chain (os : List ℕ) (Operand : Term → List Token → Type 0) : Term → List Token → Type 0 where
  operand : {t : Term} {ts : List Token} → Operand t ts → Chain os Operand t ts
  apply : {t u : Term} {ts us : List Token} → Chain os Operand t ts → (o : Token) → In os o → Operand u us → Chain os Operand (operated o.kind o.start t u) (ts ++ (o ∷ us))

-- now, a name, a value (a number or a string), or an expression in parentheses
pub data Factor (Inside : Term → List Token → Type 0) : Term → List Token → Type 0 where
  now : (o : Token) → Is now_word o → Factor Inside (fixed o.kind o.start) (o ∷ [])
  variable : (o : Token) → Is nameKind o → Factor Inside (named (span_of o)) (o ∷ [])
  number : (o : Token) → Is numberKind o → Factor Inside (numeral o.value o.start) (o ∷ [])
  string : (o : Token) → Is string_kind o → Factor Inside (quoted (record { start = o.start + 1; end = o.end - 1 }) o.start) (o ∷ [])
  enclosed : {t : Term} {ts : List Token} → (o c : Token) → Is open_paren o → Inside t ts → Is close_paren c → Factor Inside t (o ∷ (ts ++ (c ∷ [])))

abbrev pub Product : (Term → List Token → Type 0) → Term → List Token → Type 0
Product Inside = Chain (times_mark ∷ over_mark ∷ []) (Factor Inside)

abbrev pub Sum : (Term → List Token → Type 0) → Term → List Token → Type 0
Sum Inside = Chain (plus_mark ∷ minus_mark ∷ []) (Product Inside)

-- an expression in parentheses that take one of so many levels
unfoldable pub InsideExpression : ℕ → Term → List Token → Type 0
InsideExpression zero t ts = ⊥
InsideExpression (suc n) t ts = Sum (InsideExpression n) t ts

-- E, with so many levels left inside it
abbrev pub Expression : ℕ → Term → List Token → Type 0
Expression n = Sum (InsideExpression n)

-- ---- conditions: B ::= true | false | E rop E | B && B | B || B | ~B

abbrev pub comparisons : List ℕ
comparisons = equal ∷ unequal ∷ less ∷ at_most ∷ greater ∷ at_least ∷ []

-- a condition in parentheses, true, false, or a comparison, which starts with no parenthesis
pub data Simple (n : ℕ) (Inside : Term → List Token → Type 0) : Term → List Token → Type 0 where
  enclosed : {t : Term} {ts : List Token} → (o c : Token) → Is open_paren o → Inside t ts → Is close_paren c → Simple n Inside t (o ∷ (ts ++ (c ∷ [])))
  truth : (o : Token) → In (true_word ∷ false_word ∷ []) o → Simple n Inside (fixed o.kind o.start) (o ∷ [])
  compare :
      {t u : Term} {ts us : List Token} → Expression n t ts → Starts leaves ts → (o : Token) → In comparisons o → Expression n u us
      → Simple n Inside (operated o.kind o.start t u) (ts ++ (o ∷ us))

-- `~` binds before &&
pub data Primary (n : ℕ) (Inside : Term → List Token → Type 0) : Term → List Token → Type 0 where
  simple : {t : Term} {ts : List Token} → Simple n Inside t ts → Primary n Inside t ts
  negate : {t : Term} {ts : List Token} → (o : Token) → Is not_mark o → Primary n Inside t ts → Primary n Inside (negated o.start t) (o ∷ ts)

abbrev pub Conjunction : ℕ → (Term → List Token → Type 0) → Term → List Token → Type 0
Conjunction n Inside = Chain (and_mark ∷ []) (Primary n Inside)

abbrev pub Disjunction : ℕ → (Term → List Token → Type 0) → Term → List Token → Type 0
Disjunction n Inside = Chain (or_mark ∷ []) (Conjunction n Inside)

-- a condition in parentheses that take one of so many levels
unfoldable pub InsideCondition : ℕ → Term → List Token → Type 0
InsideCondition zero t ts = ⊥
InsideCondition (suc n) t ts = Disjunction n (InsideCondition n) t ts

-- B, with so many levels left inside it
abbrev pub Condition : ℕ → Term → List Token → Type 0
Condition n = Disjunction n (InsideCondition n)

-- ---- statements: S ::= _ | E -> x S | E -o h, h' S | E -> A S | E -o h, A S | (B){ S } S

-- what follows the expression e of a statement; h -o t is all of h
pub data ActionOf (e : Term) : Action → List Token → Type 0 where
  sending : (o t : Token) → Is value_arrow o → Is nameKind t → ActionOf e (sends e (span_of t)) (o ∷ t ∷ [])
  moving : (o h c t : Token) → Is asset_arrow o → Is nameKind h → Is comma c → Is nameKind t → ActionOf e (moves e (span_of h) (span_of t)) (o ∷ h ∷ c ∷ t ∷ [])
  moving_all : (h : Span) → e ≡ named h → (o t : Token) → Is asset_arrow o → Is nameKind t → ActionOf e (moves_all h (span_of t)) (o ∷ t ∷ [])

-- what stands in braces
pub data Braced {A : Type 0} (R : A → List Token → Type 0) : A → List Token → Type 0 where
  braced : {a : A} {ts : List Token} → (o c : Token) → Is open_brace o → R a ts → Is close_brace c → Braced R a (o ∷ (ts ++ (c ∷ [])))

-- (B) { S }, given what B and S are, with the place of its first token
pub data Guarded (B : Term → List Token → Type 0) (S : Block → List Token → Type 0) : ℕ → Term → Block → List Token → Type 0 where
  guarded :
      {t : Term} {b : Block} {ts us : List Token} → (o c : Token) → Is open_paren o → B t ts → Is close_paren c → Braced S b us
      → Guarded B S o.start t b (o ∷ (ts ++ (c ∷ us)))

-- statements in a row, given what their conditionals are; only a conditional starts with a parenthesis
pub data Row (n : ℕ) (Conditional : ℕ → Term → Block → List Token → Type 0) : Block → List Token → Type 0 where
  nothing : Row n Conditional none []
  act :
      {b : Block} {e : Term} {a : Action} {ts us vs : List Token} → Row n Conditional b ts → Expression n e us → Starts leaves us → ActionOf e a vs
      → Row n Conditional (perform b (start_of us) a) (ts ++ (us ++ vs))
  test : {b i : Block} {p : ℕ} {t : Term} {ts us : List Token} → Row n Conditional b ts → Conditional p t i us → Row n Conditional (conditional b p t i) (ts ++ us)

-- a conditional that takes one of so many levels
unfoldable pub Conditional : ℕ → ℕ → Term → Block → List Token → Type 0
Conditional zero p t b ts = ⊥
Conditional (suc n) p t b ts = Guarded (Condition n) (Row n (Conditional n)) p t b ts

-- S, with so many levels left inside it
abbrev pub Statements : ℕ → Block → List Token → Type 0
Statements n = Row n (Conditional n)

-- ---- functions: W ::= _ | E >> @Q { S } => @Q' W

pub data EventOf : Event → List Token → Type 0 where
  event :
      {e : Term} {q l : Span} {b : Block} {ts us vs ws : List Token} → Expression max_levels e ts → Starts leaves ts → (o a : Token) → Is event_mark o → State q us
      → Braced (Statements max_levels) b vs → Is state_arrow a → State l ws
      → EventOf (record { place = start_of ts; guard = e; state = q; handler = b; last = l }) (ts ++ (o ∷ (us ++ (vs ++ (a ∷ ws)))))

-- S W: all statements, then all events
pub data BodyOf : Body → List Token → Type 0 where
  statements : {b : Block} {ts : List Token} → Statements max_levels b ts → BodyOf (record { statements = b; events = [] }) ts
  also : {i : Body} {w : Event} {ts us : List Token} → BodyOf i ts → EventOf w us → BodyOf (record { statements = i.statements; events = i.events ++ (w ∷ []) }) (ts ++ us)

-- z, .. between an opening and a closing token; empty or absent lists mean the same
pub data Parameters (opening closing : ℕ) : List Span → List Token → Type 0 where
  absent : Parameters opening closing [] []
  empty : (o c : Token) → Is opening o → Is closing c → Parameters opening closing [] (o ∷ c ∷ [])
  listed : {xs : List Span} {ts : List Token} → (o c : Token) → Is opening o → Names xs ts → Is closing c → Parameters opening closing xs (o ∷ (ts ++ (c ∷ [])))

-- (B), which may be omitted
pub data PreconditionOf : Precondition → List Token → Type 0 where
  always : PreconditionOf omitted []
  only : {t : Term} {ts : List Token} → (o c : Token) → Is open_paren o → Condition max_levels t ts → Is close_paren c → PreconditionOf (given t) (o ∷ (ts ++ (c ∷ [])))

-- a parenthesis straight after a function's name opens its value parameters: where these have no tokens, the next is none
abbrev pub Straight : List Token → List Token → Type 0
Straight [] us = StartsNot open_paren us
Straight (o ∷ ts) us = Unit {0}

-- F ::= @Q A : f (z, ..) [y, ..] (B) { S W } => @Q'
pub data FunctionOf : Function → List Token → Type 0 where
  function :
      {q l : Span} {zs ys : List Span} {t : Precondition} {i : Body} {ts us vs ws xs rs : List Token} → State q ts → (a c f w : Token)
      → Is nameKind a → Is colon c → Is nameKind f → Parameters open_paren close_paren zs us → Parameters open_bracket close_bracket ys vs → PreconditionOf t ws
      → Straight us (vs ++ ws) → Braced BodyOf i xs → Is state_arrow w → State l rs
      → FunctionOf
      (record { place = start_of ts; state = q; party = span_of a; name = span_of f; values = zs; parameters = ys; precondition = t; body = i; last = l })
      (ts ++ (a ∷ c ∷ f ∷ (us ++ (vs ++ (ws ++ (xs ++ (w ∷ rs)))))))

-- ---- the contract

-- parts in a row
pub data Each {A : Type 0} (Part : A → List Token → Type 0) : List A → List Token → Type 0 where
  nothing : Each Part [] []
  also : {xs : List A} {x : A} {ts us : List Token} → Each Part xs ts → Part x us → Each Part (xs ++ (x ∷ [])) (ts ++ us)

pub data VerbOf : Verb → Token → Type 0 where
  sets : (o : Token) → Is set_arrow o → VerbOf set o
  agrees : (o : Token) → Is ok_arrow o → VerbOf ok o

-- `_` is the empty list of fields
pub data Fields : List Span → List Token → Type 0 where
  empty : (o : Token) → Is underscore o → Fields [] (o ∷ [])
  listed : {xs : List Span} {ts : List Token} → Names xs ts → Fields xs ts

-- A =SET=> x, .. or A =OK=> x, ..
pub data ClauseOf : Clause → List Token → Type 0 where
  clause :
      {v : Verb} {xs : List Span} {ts : List Token} → (a o : Token) → Is nameKind a → VerbOf v o → Fields xs ts
      → ClauseOf (record { party = span_of a; verb = v; fields = xs }) (a ∷ o ∷ ts)

-- a line that a word begins; omitted if empty
pub data Line (k : ℕ) : List Span → List Token → Type 0 where
  omit : Line k [] []
  line : {xs : List Span} {ts : List Token} → (o : Token) → Is k o → Names xs ts → Line k xs (o ∷ ts)

-- legal_contract N { assets .. fields .. agreement (A, ..) { .. } => @Q F .. }
pub data Derives : Syntax → List Token → Type 0 where
  contract :
      {hs xs ps : List Span} {cs : List Clause} {q : Span} {fs : List Function} {ts us vs ws rs zs : List Token} → (k n d g o c b e a z : Token)
      → Is legal_contract k → Is nameKind n → Is open_brace d → Line assetsWord hs ts → Line fieldsWord xs us → Is agreementWord g → Is open_paren o → Names ps vs
      → Is close_paren c → Is open_brace b → Each ClauseOf cs ws → Is close_brace e → Is state_arrow a → State q rs → Each FunctionOf fs zs → Is close_brace z
      → Derives (record { name = span_of n; assets = hs; fields = xs; parties = ps; clauses = cs; closing = e.start; initial = q; functions = fs })
      (k ∷ n ∷ d ∷ (ts ++ (us ++ (g ∷ o ∷ (vs ++ (c ∷ b ∷ (ws ++ (e ∷ a ∷ (rs ++ (zs ++ (z ∷ [])))))))))))

-- these are the tokens of the whole text: the first one is the text's first, and after the last one the text ends
pub record TokensOf (s : List ℕ) (ts : List Token) : Type 0 where
  pub end : ℕ
  pub all : Tokens s 0 ts end
  pub over : token_at s end ≡ End
