-- The grammar: the tree of a text, or the first of questions 5 to 10 that refuses it, with the byte's place. A parser is given the
-- place from which it reads; it is done with what it read and the place after it, or says no.
use Rattle.std.specs.Prelude.{ℕ, zero, suc, ◌+◌, ◌-◌, Bool, true, false, List, [], ◌∷◌, ◌++◌, length, get_or, eqb}
use Rattle.laws.specs.Choice.{pick}
use Rattle.words.specs.Words.{legal_contract, assets as assetsWord, fields as fieldsWord, agreement as agreementWord, now_word, true_word, false_word, set_arrow, ok_arrow, value_arrow, asset_arrow, state_arrow, event_mark, equal, unequal, at_most, at_least, and_mark, or_mark, open_paren, close_paren, open_brace}
use Rattle.words.specs.Words.{close_brace, open_bracket, close_bracket, comma, colon, at_sign, underscore, plus_mark, minus_mark, times_mark, over_mark, less, greater, not_mark}
use Rattle.tokens.specs.Tokens.{token_at, name as nameKind, number as numberKind, string as string_kind}
use Rattle.tokens.specs.declared.Token.{Token}
use Rattle.tokens.specs.declared.Lexed.{Lexed}
use Rattle.tokens.specs.declared.Lexed.TheVariants.{Found, Refused, End}
use Rattle.contract.specs.Tree.{Verb, set, ok}
use Rattle.reading.specs.Syntax.{Span, Term, named, numeral, quoted, fixed, negated, operated, Action, sends, moves, moves_all, Block, none, perform, conditional, Event, Body, Precondition, omitted, given, Function, Clause, Syntax}

-- document 01's levels of parentheses
abbrev pub max_levels : ℕ
max_levels = 16

pub data Parsed (A : Type 0) : Type 0 where
  done : A → ℕ → Parsed A
  no : ℕ → ℕ → Parsed A

abbrev pub Parser : Type 0 → Type 0
Parser A = ℕ → Parsed A

abbrev pub and_then : {A B : Type 0} → Parsed A → (A → Parser B) → Parsed B
and_then (done a n) f = f a n
and_then (no q p) f = no q p

-- one after the other, as the lines of a `do` block
abbrev pub ◌>>=◌ : {A B : Type 0} → Parser A → (A → Parser B) → Parser B
◌>>=◌ m f at = and_then (m at) f

abbrev pub ◌>>◌ : {A B : Type 0} → Parser A → Parser B → Parser B
◌>>◌ m k at = and_then (m at) (λ a. k)

-- nothing more to read
abbrev pub give : {A : Type 0} → A → Parser A
give a at = done a at

abbrev pub refuse : {A : Type 0} → ℕ → ℕ → Parser A
refuse q p at = no q p

abbrev pub on_found : {A : Type 0} → Lexed → (Token → A) → A → A
on_found (Found t) f a = f t
on_found (Refused q p) f a = a
on_found End f a = a

unfoldable pub is_one_of : List ℕ → ℕ → Bool
is_one_of [] k = false
is_one_of (j ∷ js) k = pick (eqb k j) true (is_one_of js k)

-- ---- kinds of tokens, and what tokens make

-- the operators of a rank: || binds last, then &&, then + and -, then * and /
abbrev pub operators : ℕ → List ℕ
operators r = get_or ((or_mark ∷ []) ∷ (and_mark ∷ []) ∷ (plus_mark ∷ minus_mark ∷ []) ∷ (times_mark ∷ over_mark ∷ []) ∷ []) r []

abbrev pub comparisons : List ℕ
comparisons = equal ∷ unequal ∷ less ∷ at_most ∷ greater ∷ at_least ∷ []

-- a name, a number, a string or now
abbrev pub leaves : List ℕ
leaves = nameKind ∷ numberKind ∷ string_kind ∷ now_word ∷ []

unfoldable pub leaf_of : Token → Term
leaf_of t =
    pick (eqb t.kind nameKind) (named (record { start = t.start; end = t.end }))
    (pick (eqb t.kind numberKind) (numeral t.value t.start)
    (pick (eqb t.kind string_kind) (quoted (record { start = t.start + 1; end = t.end - 1 }) t.start)
    (fixed t.kind t.start)))

-- what may start a statement or an event; one that starts with `(` is a conditional
abbrev pub item_starts : List ℕ
item_starts = open_paren ∷ leaves

-- `~` at these places before a condition, the last of them first
unfoldable pub negated_at : List ℕ → Term → Term
negated_at [] t = t
negated_at (p ∷ ps) t = negated_at ps (negated p t)

abbrev pub with_statements : Body → Block → Body
with_statements i b = record { statements = b; events = i.events }

abbrev pub with_event : Body → Event → Body
with_event i w = record { statements = i.statements; events = i.events ++ (w ∷ []) }

-- ---- tokens

module _ (s : List ℕ) where
  -- 9 at a token that does not fit, or at the text's end where one is missing; 5 to 8 where no token is
  unfoldable pub unfit : {A : Type 0} → Lexed → Parsed A
  unfit (Found t) = no 9 t.start
  unfit (Refused q p) = no q p
  unfit End = no 9 (length s)

  -- the next token does not fit
  abbrev pub misfit : {A : Type 0} → Parser A
  misfit at = unfit (token_at s at)

  -- whether the next token is of one of these kinds
  unfoldable pub next_in : List ℕ → ℕ → Bool
  next_in ks at = on_found (token_at s at) (λ t. is_one_of ks t.kind) false

  abbrev pub if_next : {A : Type 0} → List ℕ → Parser A → Parser A → Parser A
  if_next ks m k at = pick (next_in ks at) (m at) (k at)

  -- a token of one of these kinds
  unfoldable pub token_in : List ℕ → Parser Token
  token_in ks at = on_found (token_at s at) (λ t. pick (is_one_of ks t.kind) (done t t.end) (misfit at)) (misfit at)

  abbrev pub token : ℕ → Parser Token
  token k = token_in (k ∷ [])

  -- the place of the next token, where there is one
  unfoldable pub place : Parser ℕ
  place at = done (on_found (token_at s at) (λ t. t.start) (length s)) at

  -- parts in a row, as long as the next token is of a kind that starts one; each takes some of the text, so as many turns as there are
  -- bytes are enough
  unfoldable pub repeated : {A : Type 0} → List ℕ → (A → Parser A) → ℕ → A → Parser A
  repeated starts part zero a at = done a at
  repeated starts part (suc f) a at = pick (next_in starts at) (and_then (part a at) (repeated starts part f)) (done a at)

  abbrev pub row : {A : Type 0} → List ℕ → (A → Parser A) → A → Parser A
  row starts part a = repeated starts part (length s) a

  -- ---- names

  unfoldable pub name : Parser Span
  name = do
    t ← token nameKind
    give (record { start = t.start; end = t.end })

  unfoldable pub names : Parser (List Span)
  names = do
    x ← name
    row (comma ∷ []) (λ xs. do token comma; y ← name; give (xs ++ (y ∷ []))) (x ∷ [])

  -- @Q
  unfoldable pub state : Parser Span
  state = do
    token at_sign
    name

  -- ---- expressions

  -- operands with operators of a rank between them, left to right
  unfoldable pub chain : ℕ → Parser Term → Parser Term
  chain r operand = do
    t ← operand
    row (operators r) (λ l. do o ← token_in (operators r); u ← operand; give (operated o.kind o.start l u)) t

  -- what is inside parentheses: `inside` is given the place of the opening one
  unfoldable pub enclosed : (ℕ → Parser Term) → Parser Term
  enclosed inside = do
    o ← token open_paren
    t ← inside o.start
    token close_paren
    give t

  unfoldable pub factor : (ℕ → Parser Term) → Parser Term
  factor inside = if_next (open_paren ∷ []) (enclosed inside) (do t ← token_in leaves; give (leaf_of t))

  -- an expression whose parentheses hold what `inside` reads
  abbrev pub sum : (ℕ → Parser Term) → Parser Term
  sum inside = chain 2 (chain 3 (factor inside))

  -- an expression inside a parenthesis that opened at p, with so many levels left for it
  unfoldable pub inside_expression : ℕ → ℕ → Parser Term
  inside_expression zero p = refuse 10 p
  inside_expression (suc n) p = sum (inside_expression n)

  -- an expression, with so many levels left inside it
  abbrev pub expression : ℕ → Parser Term
  expression n = sum (inside_expression n)

  -- ---- conditions

  unfoldable pub comparison : ℕ → Parser Term
  comparison n = do
    t ← expression n
    o ← token_in comparisons
    u ← expression n
    give (operated o.kind o.start t u)

  -- a condition in parentheses, true, false or a comparison
  unfoldable pub simple : ℕ → (ℕ → Parser Term) → Parser Term
  simple n inside =
      if_next (open_paren ∷ []) (enclosed inside)
      (if_next (true_word ∷ false_word ∷ []) (do t ← token_in (true_word ∷ false_word ∷ []); give (fixed t.kind t.start))
      (comparison n))

  unfoldable pub primary : ℕ → (ℕ → Parser Term) → Parser Term
  primary n inside = do
    ps ← row (not_mark ∷ []) (λ ps. do o ← token not_mark; give (o.start ∷ ps)) []
    t ← simple n inside
    give (negated_at ps t)

  -- a condition whose parentheses hold what `inside` reads, and its expressions' n levels
  abbrev pub choice : ℕ → (ℕ → Parser Term) → Parser Term
  choice n inside = chain 0 (chain 1 (primary n inside))

  -- a condition inside a parenthesis that opened at p, with so many levels left for it
  unfoldable pub inside_condition : ℕ → ℕ → Parser Term
  inside_condition zero p = refuse 10 p
  inside_condition (suc n) p = choice n (inside_condition n)

  -- a condition, with so many levels left inside it
  abbrev pub condition : ℕ → Parser Term
  condition n = choice n (inside_condition n)

  -- ---- statements

  -- without a comma after `E -o t`, E is one name alone
  unfoldable pub whole_move : Term → Span → Parser Action
  whole_move (named h) t = give (moves_all h t)
  whole_move (numeral v p) t = misfit
  whole_move (quoted x p) t = misfit
  whole_move (fixed k p) t = misfit
  whole_move (negated p e) t = misfit
  whole_move (operated k p e f) t = misfit

  unfoldable pub asset_move : Term → Parser Action
  asset_move e = do
    token asset_arrow
    h ← name
    if_next (comma ∷ []) (do token comma; t ← name; give (moves e h t)) (whole_move e h)

  -- the rest of a statement after its expression
  unfoldable pub action : Term → Parser Action
  action e = if_next (value_arrow ∷ []) (do token value_arrow; t ← name; give (sends e t)) (asset_move e)

  -- a statement after the block b; `test` reads a conditional
  unfoldable pub statement : ℕ → (Block → Parser Block) → Block → Parser Block
  statement n test b =
      if_next (open_paren ∷ []) (test b)
      (do
        p ← place
        e ← expression n
        a ← action e
        give (perform b p a))

  -- { S }
  unfoldable pub braces : ℕ → (Block → Parser Block) → Parser Block
  braces n test = do
    token open_brace
    b ← row item_starts (statement n test) none
    token close_brace
    give b

  -- (B) { S } after the block b, with so many levels left for it
  unfoldable pub conditional_after : ℕ → Block → Parser Block
  conditional_after zero b = do
    p ← place
    refuse 10 p
  conditional_after (suc n) b = do
    o ← token open_paren
    t ← condition n
    token close_paren
    i ← braces n (conditional_after n)
    give (conditional b o.start t i)

  -- ---- functions

  -- >> @Q { S } => @Q' after a guard that starts at p
  unfoldable pub event : ℕ → Term → Parser Event
  event p e = do
    token event_mark
    q ← state
    h ← braces max_levels (conditional_after max_levels)
    token state_arrow
    l ← state
    give (record { place = p; guard = e; state = q; handler = h; last = l })

  -- no statement after an event
  unfoldable pub before_events : {A : Type 0} → List Event → Parser A → Parser A
  before_events [] m = m
  before_events (w ∷ ws) m = misfit

  -- the next statement or event of a body
  unfoldable pub body_item : Body → Parser Body
  body_item i =
      if_next (open_paren ∷ [])
      (before_events i.events (do b ← conditional_after max_levels i.statements; give (with_statements i b)))
      (do
        p ← place
        e ← expression max_levels
        if_next (event_mark ∷ [])
            (do w ← event p e; give (with_event i w))
            (before_events i.events (do a ← action e; give (with_statements i (perform i.statements p a)))))

  -- { S W }
  unfoldable pub body : Parser Body
  body = do
    token open_brace
    i ← row item_starts body_item (record { statements = none; events = [] })
    token close_brace
    give i

  -- a list of parameters, which may be empty or absent
  unfoldable pub parameters_in : ℕ → ℕ → Parser (List Span)
  parameters_in opening closing =
      if_next (opening ∷ [])
      (do
        token opening
        xs ← if_next (closing ∷ []) (give []) names
        token closing
        give xs)
      (give [])

  unfoldable pub precondition : Parser Precondition
  precondition =
      if_next (open_paren ∷ [])
      (do
        token open_paren
        t ← condition max_levels
        token close_paren
        give (given t))
      (give omitted)

  unfoldable pub function : Parser Function
  function = do
    p ← place
    q ← state
    a ← name
    token colon
    f ← name
    zs ← parameters_in open_paren close_paren
    ys ← parameters_in open_bracket close_bracket
    t ← precondition
    i ← body
    token state_arrow
    l ← state
    give (record { place = p; state = q; party = a; name = f; values = zs; parameters = ys; precondition = t; body = i; last = l })

  -- ---- the contract

  unfoldable pub verb : Parser Verb
  verb = if_next (set_arrow ∷ []) (do token set_arrow; give set) (do token ok_arrow; give ok)

  unfoldable pub clause : Parser Clause
  clause = do
    a ← name
    v ← verb
    xs ← if_next (underscore ∷ []) (do token underscore; give []) names
    give (record { party = a; verb = v; fields = xs })

  -- the line that this word begins; omitted if empty
  unfoldable pub line : ℕ → Parser (List Span)
  line k = if_next (k ∷ []) (do token k; names) (give [])

  -- nothing but the text's end
  abbrev pub ends_on : {A : Type 0} → A → ℕ → Lexed → Parsed A
  ends_on a at (Found t) = unfit (Found t)
  ends_on a at (Refused q p) = unfit (Refused q p)
  ends_on a at End = done a at

  unfoldable pub ending : {A : Type 0} → A → Parser A
  ending a at = ends_on a at (token_at s at)

  unfoldable pub contract : Parser Syntax
  contract = do
    token legal_contract
    n ← name
    token open_brace
    hs ← line assetsWord
    xs ← line fieldsWord
    token agreementWord
    token open_paren
    ps ← names
    token close_paren
    token open_brace
    cs ← row (nameKind ∷ []) (λ cs. do c ← clause; give (cs ++ (c ∷ []))) []
    p ← place
    token close_brace
    token state_arrow
    q ← state
    fs ← row (at_sign ∷ []) (λ fs. do f ← function; give (fs ++ (f ∷ []))) []
    token close_brace
    ending (record { name = n; assets = hs; fields = xs; parties = ps; clauses = cs; closing = p; initial = q; functions = fs })

  -- the whole text
  abbrev pub parse : Parsed Syntax
  parse = contract 0
