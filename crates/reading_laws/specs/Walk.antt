-- The pass over a text that the code makes: a cursor at the token that is read next, and what the pass has noted and written so far. Each
-- parser stands beside the grammar's of the same name; these definitions serve the code alone.
use Rattle.std.specs.Prelude.{ℕ, zero, suc, ◌+◌, ◌-◌, ◌%◌, ◌≡◌, Bool, true, false, List, length, set, eqb, ltb, Ok, Err}
use Rattle.laws.specs.Choice.{pick}
use Rattle.words.specs.Words.{legal_contract, assets as assetsWord, fields as fieldsWord, agreement as agreementWord, now_word, true_word, false_word, set_arrow, ok_arrow, value_arrow, asset_arrow, state_arrow, event_mark, equal, unequal, at_most, less, greater, and_mark, or_mark, open_paren, close_paren}
use Rattle.words.specs.Words.{open_brace, close_brace, open_bracket, close_bracket, comma, colon, at_sign, underscore, plus_mark, minus_mark, times_mark, over_mark, not_mark}
use Rattle.tokens.specs.Tokens.{token_at, between, name as nameKind, number as numberKind, string as string_kind}
use Rattle.tokens.specs.declared.Lexed.{Lexed}
use Rattle.tokens.specs.declared.Lexed.TheVariants as lexed
use Rattle.contract.specs.Table.{word_at, constant_kind, string_kind as stringNode, now_kind, true_kind, false_kind, plus_kind, minus_kind, times_kind, over_kind, equal_kind, unequal_kind, less_kind, at_most_kind, greater_kind, at_least_kind, not_kind, and_kind, or_kind, value_move_kind, asset_move_kind, whole_move_kind, conditional_kind, event_kind}
use Rattle.entries.specs.declared.Known.{Known}
use Rattle.entries.specs.Draft.{Draft, note, with_notes, with_table, counted, found, declare, mention, number_in, party_used, name_in, holder_in, value_target, asset_target, wanted, put, put_name, put_leaf, clause_party, clause_verb, clause_field, clause_end, clause_count, excess, written, function_count, body_nodes, events_here, head, function_rest, event_row, title, question, place, counts}
use Rattle.reading.specs.Grammar.{is_one_of, operators, comparisons, item_starts, max_levels}
use Rattle.reading_laws.specs.Masks.{rows_of, kept_by_masks}
use Rattle.reading.specs.Reading.{Answered, refusal}

-- kinds of a cursor where no token is: a refusal of 5 to 8, the text's end
abbrev pub no_token : ℕ
no_token = 203

abbrev pub text_end : ℕ
text_end = 204

-- The token that is read next: its kind, the question that refuses it where it does not fit, its place, a number's value, and the place from
-- which it was looked for.
pub record Cursor : Type 0 where
  pub at : ℕ
  pub kind : ℕ
  pub question : ℕ
  pub start : ℕ
  pub end : ℕ
  pub value : ℕ

-- what a parser answers: the cursor after what it read, or a refusal's question and place
pub data Step : Type 0 where
  On : Cursor → Step
  Stop : ℕ → ℕ → Step

pub data Walk : Type 0 where
  on : Cursor → Draft → Walk
  stop : ℕ → ℕ → Walk

abbrev pub after : Step → (Cursor → Walk) → Walk
after (On c) f = f c
after (Stop q o) f = stop q o

abbrev pub follow : Walk → (Cursor → Draft → Walk) → Walk
follow (on c p) f = f c p
follow (stop q o) f = stop q o

-- what code leaves: its answer, the table and the notes; where it stops, the two are free
unfoldable pub AgreesWith : Walk → Step → List ℕ → List ℕ → Type 0
AgreesWith (on c p) r t n = (r ≡ On c) × ((t ≡ p.table) × (n ≡ p.notes))
AgreesWith (stop q o) r t n = r ≡ Stop q o

abbrev pub draft : List ℕ → List ℕ → Draft
draft t n = record { table = t; notes = n }

abbrev pub nodes : Draft → ℕ
nodes p = note p.notes written

abbrev pub counting : ℕ → ℕ → Draft → Draft
counting k o p = with_notes p (counted k o p.notes)

abbrev pub noting : ℕ → ℕ → Draft → Draft
noting i v p = with_notes p (set p.notes i v)

-- the node of an operator or a comparison
unfoldable pub operator_node : ℕ → ℕ
operator_node k =
    pick (eqb k plus_mark) plus_kind
    (pick (eqb k minus_mark) minus_kind
    (pick (eqb k times_mark) times_kind
    (pick (eqb k over_mark) over_kind
    (pick (eqb k equal) equal_kind
    (pick (eqb k unequal) unequal_kind
    (pick (eqb k less) less_kind
    (pick (eqb k at_most) at_most_kind
    (pick (eqb k greater) greater_kind
    (pick (eqb k and_mark) and_kind
    (pick (eqb k or_mark) or_kind at_least_kind))))))))))

-- the nodes of `~` around what was written from `before` on
unfoldable pub negations : ℕ → ℕ → Draft → Draft
negations zero before p = p
negations (suc m) before p = negations m before (put not_kind 0 before p)

-- the agreement's end at place o: 14
unfoldable pub closed : ℕ → Draft → Draft
closed o p =
    pick (eqb (note p.notes excess) 0)
    (pick (kept_by_masks (note p.notes 0) (rows_of p.table (note p.notes clause_count))) p (with_notes p (found 14 o p.notes)))
    (with_notes p (found 14 o p.notes))

module _ (s : List ℕ) where
  -- ---- tokens

  unfoldable pub cursor_of : ℕ → Lexed → Cursor
  cursor_of at (lexed.Found t) = record { at = at; kind = t.kind; question = 9; start = t.start; end = t.end; value = t.value }
  cursor_of at (lexed.Refused q p) = record { at = at; kind = no_token; question = q; start = p; end = p; value = 0 }
  cursor_of at lexed.End = record { at = at; kind = text_end; question = 9; start = length s; end = length s; value = 0 }

  -- the cursor at the next token from a place on
  abbrev pub cursor_at : ℕ → Cursor
  cursor_at at = cursor_of at (token_at s at)

  abbrev pub next_of : Cursor → Cursor
  next_of c = cursor_at c.end

  abbrev pub unfit_at : Cursor → Step
  unfit_at c = Stop c.question c.start

  abbrev pub misfit : Cursor → Walk
  misfit c = stop c.question c.start

  -- past a token of kind k
  unfoldable pub token : ℕ → Cursor → Step
  token k c = pick (eqb c.kind k) (On (next_of c)) (unfit_at c)

  -- at a name
  unfoldable pub name_here : Cursor → Step
  name_here c = pick (eqb c.kind nameKind) (On c) (unfit_at c)

  -- at the name of a state, after its `@`
  unfoldable pub state_at : Cursor → Step
  state_at c = pick (eqb c.kind at_sign) (name_here (next_of c)) (unfit_at c)

  abbrev pub stated : Cursor → Draft → Draft
  stated c p = mention s 5 c.start c.end c.start p

  abbrev pub state_number : Cursor → Draft → ℕ
  state_number c p = number_in s p.notes 5 (between s c.start c.end)

  -- ---- names

  abbrev pub one_name : ℕ → (Cursor → Draft → Walk) → Cursor → Draft → Walk
  one_name k go c p = pick (eqb c.kind nameKind) (go (next_of c) (declare s k c.start c.end p)) (misfit c)

  unfoldable pub more_names : ℕ → ℕ → Cursor → Draft → Walk
  more_names k zero c p = on c p
  more_names k (suc f) c p = pick (eqb c.kind comma) (one_name k (more_names k f) (next_of c) p) (on c p)

  -- declared names of kind k
  unfoldable pub names : ℕ → Cursor → Draft → Walk
  names k c p = one_name k (more_names k (length s)) c p

  -- a line of names that a word begins; omitted if empty
  unfoldable pub line : ℕ → ℕ → Cursor → Draft → Walk
  line word k c p = pick (eqb c.kind word) (names k (next_of c) p) (on c p)

  -- ---- the agreement's clauses

  abbrev pub one_field : (Cursor → Draft → Walk) → Cursor → Draft → Walk
  one_field go c p = pick (eqb c.kind nameKind) (go (next_of c) (clause_field s c.start c.end p)) (misfit c)

  unfoldable pub more_fields : ℕ → Cursor → Draft → Walk
  more_fields zero c p = on c p
  more_fields (suc f) c p = pick (eqb c.kind comma) (one_field (more_fields f) (next_of c) p) (on c p)

  unfoldable pub clause_fields : Cursor → Draft → Walk
  clause_fields c p = one_field (more_fields (length s)) c p

  abbrev pub clause_done : Cursor → Draft → Walk
  clause_done c p = on c (with_notes p (clause_end p.notes))

  unfoldable pub clause_rest : Cursor → Draft → Walk
  clause_rest c p = pick (eqb c.kind underscore) (clause_done (next_of c) p) (follow (clause_fields c p) clause_done)

  unfoldable pub clause_from : Cursor → Draft → Walk
  clause_from c p =
      pick (eqb c.kind set_arrow) (clause_rest (next_of c) (clause_verb 0 p))
      (pick (eqb c.kind ok_arrow) (clause_rest (next_of c) (clause_verb 1 p)) (misfit c))

  unfoldable pub clause : Cursor → Draft → Walk
  clause c p = pick (eqb c.kind nameKind) (clause_from (next_of c) (clause_party s c.start c.end p)) (misfit c)

  unfoldable pub clauses : ℕ → Cursor → Draft → Walk
  clauses zero c p = on c p
  clauses (suc f) c p = pick (eqb c.kind nameKind) (follow (clause c p) (clauses f)) (on c p)

  -- ---- expressions and conditions; a handler names no parameter

  -- inside a string's quotes
  abbrev pub inner_start : Cursor → ℕ
  inner_start c = pick (ltb c.start c.end) (c.start + 1) c.start

  abbrev pub inner_end : Cursor → ℕ
  inner_end c = pick (ltb c.start c.end) (c.end - 1) c.end

  unfoldable pub string_leaf : Cursor → Draft → Draft
  string_leaf c p =
      put stringNode
      (number_in s (counted 9 c.start p.notes) 6 (between s (inner_start c) (inner_end c)))
      (nodes (mention s 6 (inner_start c) (inner_end c) c.start (counting 9 c.start p)))
      (mention s 6 (inner_start c) (inner_end c) c.start (counting 9 c.start p))

  unfoldable pub leaf : Bool → Cursor → Draft → Walk
  leaf h c p =
      pick (eqb c.kind nameKind)
      (on (next_of c) (put_name (name_in s p.notes h (between s c.start c.end)) c.start p))
      (pick (eqb c.kind numberKind) (on (next_of c) (put_leaf constant_kind c.value c.start p))
      (pick (eqb c.kind string_kind) (on (next_of c) (string_leaf c p))
      (pick (eqb c.kind now_word) (on (next_of c) (put_leaf now_kind 0 c.start p))
      (misfit c))))

  -- past the closing parenthesis
  unfoldable pub closed_by : Step → Step
  closed_by (On d) = token close_paren d
  closed_by (Stop q o) = Stop q o

  abbrev pub enclosed : Walk → Walk
  enclosed w = follow w (λ d q. after (token close_paren d) (λ e. on e q))

  unfoldable pub factor : Bool → (ℕ → Cursor → Draft → Walk) → Cursor → Draft → Walk
  factor h inside c p = pick (eqb c.kind open_paren) (enclosed (inside c.start (next_of c) p)) (leaf h c p)

  -- operators of a rank with an operand after each
  unfoldable pub row_from : ℕ → (Cursor → Draft → Walk) → ℕ → ℕ → Cursor → Draft → Walk
  row_from r operand before zero c p = on c p
  row_from r operand before (suc f) c p =
      pick (is_one_of (operators r) c.kind)
      (follow (operand (next_of c) (counting 9 c.start p)) (λ d q. row_from r operand before f d (put (operator_node c.kind) 0 before q)))
      (on c p)

  unfoldable pub chain : ℕ → (Cursor → Draft → Walk) → Cursor → Draft → Walk
  chain r operand c p = follow (operand c p) (row_from r operand (nodes p) (length s))

  unfoldable pub inside_expression : Bool → ℕ → ℕ → Cursor → Draft → Walk
  inside_expression h zero o c p = stop 10 o
  inside_expression h (suc n) o c p = chain 2 (chain 3 (factor h (inside_expression h n))) c p

  abbrev pub expression : Bool → ℕ → Cursor → Draft → Walk
  expression h n = chain 2 (chain 3 (factor h (inside_expression h n)))

  unfoldable pub comparison : Bool → ℕ → Cursor → Draft → Walk
  comparison h n c p =
      follow (expression h n c p)
      (λ d q.
      pick (is_one_of comparisons d.kind)
      (follow (expression h n (next_of d) (counting 9 d.start q)) (λ e t. on e (put (operator_node d.kind) 0 (nodes p) t)))
      (misfit d))

  unfoldable pub simple : Bool → ℕ → (ℕ → Cursor → Draft → Walk) → Cursor → Draft → Walk
  simple h n inside c p =
      pick (eqb c.kind open_paren) (enclosed (inside c.start (next_of c) p))
      (pick (eqb c.kind true_word) (on (next_of c) (put_leaf true_kind 0 c.start p))
      (pick (eqb c.kind false_word) (on (next_of c) (put_leaf false_kind 0 c.start p))
      (comparison h n c p)))

  -- `~` in a row, m of them before: how many, the cursor after them, and the notes
  unfoldable pub nots : ℕ → ℕ → Cursor → Draft → (ℕ → Cursor → Draft → Walk) → Walk
  nots zero m c p go = go m c p
  nots (suc f) m c p go = pick (eqb c.kind not_mark) (nots f (m + 1) (next_of c) (counting 9 c.start p) go) (go m c p)

  unfoldable pub primary : Bool → ℕ → (ℕ → Cursor → Draft → Walk) → Cursor → Draft → Walk
  primary h n inside c p =
      nots (length s) 0 c p (λ m d q. follow (simple h n inside d q) (λ e t. on e (negations m (nodes p) t)))

  unfoldable pub inside_condition : Bool → ℕ → ℕ → Cursor → Draft → Walk
  inside_condition h zero o c p = stop 10 o
  inside_condition h (suc n) o c p = chain 0 (chain 1 (primary h n (inside_condition h n))) c p

  abbrev pub condition : Bool → ℕ → Cursor → Draft → Walk
  condition h n = chain 0 (chain 1 (primary h n (inside_condition h n)))

  -- the operands of each rank: || && + *
  unfoldable pub operand_at : Bool → ℕ → ℕ → Cursor → Draft → Walk
  operand_at h n zero = chain 1 (primary h n (inside_condition h n))
  operand_at h n (suc zero) = primary h n (inside_condition h n)
  operand_at h n (suc (suc zero)) = chain 3 (factor h (inside_expression h n))
  operand_at h n (suc (suc (suc r))) = factor h (inside_expression h n)

  -- ---- statements: `first` is the cursor at the statement's first token, `from` the number of its block's first node

  -- E -> t
  unfoldable pub sends : Cursor → ℕ → Cursor → Draft → Walk
  sends first from c p =
      pick (eqb c.kind nameKind)
      (on (next_of c)
      (put value_move_kind 0 from
      (put_name (value_target s (counted 8 first.start p.notes) (between s c.start c.end)) c.start
      (counting 8 first.start p))))
      (misfit c)

  -- E -o h, t: the source, then the target
  abbrev pub sourced : Bool → Cursor → Cursor → Draft → Draft
  sourced h first source p =
      put_name (holder_in s (counted 8 first.start p.notes) h (between s source.start source.end)) source.start
      (counting 8 first.start p)

  abbrev pub targeted : Bool → Cursor → Draft → Draft
  targeted h c p = put_name (asset_target s p.notes h (between s c.start c.end)) c.start p

  unfoldable pub moves : Bool → Cursor → ℕ → Cursor → Cursor → Draft → Walk
  moves h first from source c p =
      pick (eqb c.kind nameKind)
      (on (next_of c) (put asset_move_kind 0 from (targeted h c (sourced h first source p))))
      (misfit c)

  -- h -o t
  abbrev pub whole_notes : Cursor → Cursor → List ℕ → List ℕ
  whole_notes first c n = counted 9 c.start (counted 8 first.start n)

  abbrev pub whole_by : Known → Known → Cursor → ℕ → Cursor → Draft → Draft
  whole_by x t first from c p =
      put whole_move_kind 0 from
      (put t.kind t.number (nodes p)
      (with_notes p (wanted t c.start (wanted x first.start (whole_notes first c p.notes)))))

  unfoldable pub moves_all : Bool → Cursor → ℕ → Cursor → Draft → Draft
  moves_all h first from c p =
      whole_by
      (holder_in s (whole_notes first c p.notes) h (between s first.start first.end))
      (asset_target s (whole_notes first c p.notes) h (between s c.start c.end))
      first from c p

  -- after `-o`, at h or t; `alone` says whether the expression is one name alone
  unfoldable pub asset_move : Bool → Cursor → ℕ → Bool → Cursor → Draft → Walk
  asset_move h first from alone c p =
      pick (eqb c.kind nameKind)
      (pick (eqb (next_of c).kind comma)
      (moves h first from c (next_of (next_of c)) p)
      (pick alone (on (next_of c) (moves_all h first from c p)) (misfit (next_of c))))
      (misfit c)

  -- whether an expression from `first` up to c is one name alone
  abbrev pub is_alone : Cursor → Cursor → Bool
  is_alone first c = pick (eqb first.kind nameKind) (eqb c.at first.end) false

  -- the rest of a statement after its expression
  unfoldable pub action : Bool → Cursor → ℕ → Cursor → Draft → Walk
  action h first from c p =
      pick (eqb c.kind value_arrow) (sends first from (next_of c) p)
      (pick (eqb c.kind asset_arrow) (asset_move h first from (is_alone first c) (next_of c) p) (misfit c))

  -- a statement; `test` reads a conditional
  unfoldable pub statement : Bool → ℕ → (ℕ → Cursor → Draft → Walk) → ℕ → Cursor → Draft → Walk
  statement h n test from c p =
      pick (eqb c.kind open_paren) (test from c p) (follow (expression h n c (counting 9 c.start p)) (action h c from))

  unfoldable pub statements : Bool → ℕ → (ℕ → Cursor → Draft → Walk) → ℕ → ℕ → Cursor → Draft → Walk
  statements h n test from zero c p = on c p
  statements h n test from (suc f) c p =
      pick (is_one_of item_starts c.kind) (follow (statement h n test from c p) (statements h n test from f)) (on c p)

  -- { S }
  unfoldable pub braces : Bool → ℕ → (ℕ → Cursor → Draft → Walk) → Cursor → Draft → Walk
  braces h n test c p =
      after (token open_brace c)
      (λ d. follow (statements h n test (nodes p) (length s) d p) (λ e q. after (token close_brace e) (λ f. on f q)))

  -- (B) { S }, with so many levels left for it
  unfoldable pub conditional : Bool → ℕ → ℕ → Cursor → Draft → Walk
  conditional h zero from c p = stop 10 c.start
  conditional h (suc n) from c p =
      after (token open_paren c)
      (λ d. follow (condition h n d (counting 8 c.start (counting 9 c.start p)))
      (λ e q. after (token close_paren e)
      (λ f. follow (braces h n (conditional h n) f q)
      (λ g t. on g (put conditional_kind (nodes t - nodes q) from t)))))

  -- ---- functions

  -- an event's node and row
  abbrev pub event_written : ℕ → ℕ → ℕ → ℕ → ℕ → Draft → Draft
  event_written i state last handler before p =
      with_table (put event_kind handler before p) (event_row i state last (nodes p) (put event_kind handler before p).table)

  -- => @Q' after a handler whose first node is `from`
  unfoldable pub event_end : ℕ → ℕ → ℕ → ℕ → Cursor → Draft → Walk
  event_end i state before from c p =
      after (token state_arrow c)
      (λ d. after (state_at d)
      (λ l. on (next_of l) (event_written i state (state_number l p) (nodes p - from) before (stated l p))))

  -- >> @Q { S } => @Q' after a guard at `place` whose first node is `before`
  unfoldable pub event : ℕ → ℕ → Cursor → Draft → Walk
  event place before c p =
      after (token event_mark c)
      (λ d. after (state_at d)
      (λ q. follow
      (braces true max_levels (conditional true max_levels) (next_of q) (noting 8 0 (stated q (counting 7 place p))))
      (event_end (note p.notes 7) (state_number q (counting 7 place p)) before (nodes p))))

  -- the nodes of the body from `from` on
  abbrev pub body_grows : ℕ → Cursor → Draft → Walk
  body_grows from c p = on c (noting body_nodes (nodes p - from) p)

  unfoldable pub one_more_event : List ℕ → List ℕ
  one_more_event n = pick (ltb (note n events_here) 4096) (set n events_here (note n events_here + 1)) n

  -- a statement or an event, after its expression
  unfoldable pub body_rest : ℕ → Cursor → ℕ → Cursor → Draft → Walk
  body_rest from first before c p =
      pick (eqb c.kind event_mark) (follow (event first.start before c p) (λ d q. on d (with_notes q (one_more_event q.notes))))
      (pick (eqb (note p.notes events_here) 0) (follow (action false first from c p) (body_grows from)) (misfit c))

  -- a conditional of a body; none after an event
  unfoldable pub body_conditional : ℕ → Cursor → Draft → Walk
  body_conditional from c p =
      pick (eqb (note p.notes events_here) 0) (follow (conditional false max_levels from c p) (body_grows from)) (misfit c)

  unfoldable pub body_item : ℕ → Cursor → Draft → Walk
  body_item from c p =
      pick (eqb c.kind open_paren) (body_conditional from c p)
      (follow (expression false max_levels c (counting 9 c.start p)) (body_rest from c (nodes p)))

  unfoldable pub body_items : ℕ → ℕ → Cursor → Draft → Walk
  body_items from zero c p = on c p
  body_items from (suc f) c p = pick (is_one_of item_starts c.kind) (follow (body_item from c p) (body_items from f)) (on c p)

  -- no statement, no node and no event yet
  abbrev pub begun : Draft → Draft
  begun p = noting events_here 0 (noting body_nodes 0 (noting 8 0 p))

  unfoldable pub body : Cursor → Draft → Walk
  body c p =
      after (token open_brace c)
      (λ d. follow (body_items (nodes p) (length s) d (begun p)) (λ e q. after (token close_brace e) (λ f. on f q)))

  unfoldable pub parameter_names : ℕ → ℕ → Cursor → Draft → Walk
  parameter_names closing k c p =
      pick (eqb c.kind closing) (on (next_of c) p) (follow (names k c p) (λ d q. after (token closing d) (λ e. on e q)))

  -- parameters of kind k
  unfoldable pub parameters_in : ℕ → ℕ → ℕ → Cursor → Draft → Walk
  parameters_in opening closing k c p = pick (eqb c.kind opening) (parameter_names closing k (next_of c) p) (on c p)

  unfoldable pub precondition : Cursor → Draft → Walk
  precondition c p = pick (eqb c.kind open_paren) (enclosed (condition false max_levels (next_of c) p)) (on c p)

  -- a function's head: its first `@` at c, its state at q, its party at a, its name at f
  abbrev pub partied : Cursor → Draft → Draft
  partied a p = with_notes p (party_used s a.start a.end p.notes)

  abbrev pub head_of : Cursor → Cursor → Cursor → Cursor → Draft → Draft
  head_of c q a f p =
      head s c.start (state_number q p) (number_in s (stated q p).notes 0 (between s a.start a.end)) f.start f.end
      (partied a (stated q p))

  unfoldable pub function_head : Cursor → Draft → Walk
  function_head c p =
      after (state_at c)
      (λ q. after (name_here (next_of q))
      (λ a. after (token colon (next_of a))
      (λ d. after (name_here d)
      (λ f. on (next_of f) (head_of c q a f p)))))

  -- parameters and precondition
  unfoldable pub function_parts : Cursor → Draft → Walk
  function_parts c p =
      follow (parameters_in open_paren close_paren 3 c p)
      (λ d q. follow (parameters_in open_bracket close_bracket 4 d q) precondition)

  -- the rest of function i, whose first node and first event have these numbers
  abbrev pub function_last : ℕ → ℕ → ℕ → ℕ → Cursor → Draft → Draft
  function_last i first condition event l p =
      function_rest i (state_number l p) first condition (note p.notes body_nodes) event (note p.notes events_here) (stated l p)

  unfoldable pub function_end : ℕ → ℕ → ℕ → Cursor → Draft → Walk
  function_end i first event c p =
      follow (body c p)
      (λ d q. after (token state_arrow d)
      (λ e. after (state_at e)
      (λ l. on (next_of l) (function_last i first (nodes p - first) event l q))))

  unfoldable pub function : Cursor → Draft → Walk
  function c p =
      follow (function_head c p)
      (λ d q. follow (function_parts d q) (function_end (note p.notes function_count) (nodes p) (note p.notes 7)))

  unfoldable pub functions : ℕ → Cursor → Draft → Walk
  functions zero c p = on c p
  functions (suc f) c p = pick (eqb c.kind at_sign) (follow (function c p) (functions f)) (on c p)

  -- ---- the contract

  -- legal_contract N {
  unfoldable pub opening : Cursor → Draft → Walk
  opening c p =
      after (token legal_contract c)
      (λ d. after (name_here d)
      (λ n. after (token open_brace (next_of n))
      (λ e. on e (with_table p (title s n.start n.end p.table)))))

  unfoldable pub declarations : Cursor → Draft → Walk
  declarations c p = follow (line assetsWord 1 c p) (line fieldsWord 2)

  -- => @Q after the agreement's closing brace
  unfoldable pub initial_state : Cursor → Draft → Walk
  initial_state c p =
      after (token state_arrow c)
      (λ f. after (state_at f)
      (λ l. on (next_of l) (with_table (stated l p) (set (stated l p).table 9 (state_number l p)))))

  -- the clauses, and what is after them
  unfoldable pub agreement_rest : Cursor → Draft → Walk
  agreement_rest c p =
      follow (clauses (length s) c p) (λ d q. after (token close_brace d) (λ e. initial_state e (closed d.start q)))

  unfoldable pub agreement : Cursor → Draft → Walk
  agreement c p =
      after (token agreementWord c)
      (λ d. after (token open_paren d)
      (λ e. follow (names 0 e p)
      (λ f q. after (token close_paren f)
      (λ g. after (token open_brace g)
      (λ i. agreement_rest i q)))))

  abbrev pub at_end : Step → Step
  at_end (On d) = pick (eqb d.kind text_end) (On d) (unfit_at d)
  at_end (Stop q o) = Stop q o

  unfoldable pub ending_at : Cursor → Step
  ending_at c = at_end (token close_brace c)

  abbrev pub ending : Cursor → Draft → Walk
  ending c p = after (ending_at c) (λ d. on d p)

  unfoldable pub contract : Cursor → Draft → Walk
  contract c p =
      follow (opening c p)
      (λ d q. follow (declarations d q)
      (λ e t. follow (agreement e t)
      (λ f u. follow (functions (length s) f u) ending)))

  -- the whole text
  abbrev pub walk : Draft → Walk
  walk p = contract (cursor_at 0) p

-- ---- what the whole pass leaves

-- the least finding, or accepted
unfoldable pub settled_answer : List ℕ → Answered
settled_answer n = pick (eqb (note n question) 0) (Ok tt) (Err (refusal (note n question % 256) (note n place)))

-- the table with its head where there is no finding
unfoldable pub settled_table : List ℕ → List ℕ → List ℕ
settled_table n t = pick (eqb (note n question) 0) (counts (word_at t 9) n t) t

-- the answer of a pass, and the table where it is accepted
unfoldable pub Ends : Walk → Answered → List ℕ → Type 0
Ends (on c p) r t = (r ≡ settled_answer p.notes) × (t ≡ settled_table p.notes p.table)
Ends (stop q o) r t = r ≡ Err (refusal q o)
