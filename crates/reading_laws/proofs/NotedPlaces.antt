-- In what the grammar reads, `h -o t` starts with its name; so the pass over a text finds what the rules say. Assumes nothing.
use mathlib.Core.Path.{◌≡◌, refl, sym, subst}
use mathlib.Core.Bool.{false}
use mathlib.Core.List.{List, [], ◌∷◌}
use Prim.Native.Nat.{ℕ, zero, suc, ◌≤◌}
use lib.ListN.{length}
use lib.Dec.{eqb}
use Rattle.laws.specs.Choice.{pick}
use Rattle.laws.proofs.Choice.{by_cases, pick_false}
use Rattle.words.specs.Words.{legal_contract, assets as assetsWord, fields as fieldsWord, agreement as agreementWord, value_arrow, asset_arrow, state_arrow, event_mark, open_paren, close_paren, open_brace, close_brace, open_bracket, close_bracket, comma, colon, at_sign}
use Rattle.tokens.specs.Tokens.{token_at, name as nameKind, number as numberKind, string as string_kind}
use Rattle.tokens.specs.declared.Token.{Token}
use Rattle.tokens.specs.declared.Lexed.{Lexed}
use Rattle.tokens.specs.declared.Lexed.TheVariants.{Found, Refused, End}
use Rattle.entries.specs.Draft.{note}
use Rattle.reading.specs.Syntax.{Span, Term, named, numeral, quoted, fixed, negated, operated, Block, none, Body, Syntax}
use Rattle.reading.specs.Grammar.{Parsed, done, Parser, and_then, give, on_found, is_one_of, operators, leaves, leaf_of, item_starts, max_levels, unfit, misfit, next_in, token_in, token, place, row, name, names, state, chain, factor, inside_expression, expression, condition, whole_move, asset_move, action}
use Rattle.reading.specs.Grammar.{statement, braces, conditional_after, event, body_item, body, parameters_in, precondition, function, line, contract, parse}
use Rattle.reading.specs.Items.{items}
use Rattle.reading.specs.Rules.{fine, judged}
use Rattle.reading_laws.proofs.Run.{fresh, finding_of, run_contract}
use Rattle.reading.proofs.TokenKinds.{Each}
use Rattle.accepted.proofs.Sorted.{Good, good_then, good_after, each_append, unfit_good, repeated_good, before_good, ending_good, parse_sorted}
use Rattle.reading_laws.proofs.NotedTrees.{ActionPlaced, BlockPlaced, EventPlaced, FunctionPlaced}
use Rattle.reading_laws.proofs.NotedContract.{placed_found, placed_question}

-- a term that is a name has this place
abbrev Starts : ℕ → Term → Type 0
Starts o (named x) = x.start ≡ o
Starts o (numeral v p) = Unit {0}
Starts o (quoted x p) = Unit {0}
Starts o (fixed k p) = Unit {0}
Starts o (negated p t) = Unit {0}
Starts o (operated k p t u) = Unit {0}

leaf_starts : (t : Token) → Starts t.start (leaf_of t)
unfolding leaf_of
leaf_starts t =
    by_cases (Starts t.start) (eqb t.kind nameKind) _ _ (λ _. refl)
    (λ _. by_cases (Starts t.start) (eqb t.kind numberKind) _ _ (λ _. tt)
    (λ _. by_cases (Starts t.start) (eqb t.kind string_kind) _ _ (λ _. tt) (λ _. tt)))

module _ (s : List ℕ) where
  unfit_then : {A B : Type 0} (P : B → Type 0) (l : Lexed) (f : A → Parser B) → Good P (and_then (unfit s l) f)
  unfolding unfit
  unfit_then P (Found t) f = tt
  unfit_then P (Refused q p) f = tt
  unfit_then P End f = tt

  -- ---- expressions

  -- the place of the next token
  abbrev place_of : ℕ → ℕ
  place_of at = on_found (token_at s at) (λ t. t.start) (length s)

  chain_starts : (o r : ℕ) (operand : Parser Term) (at : ℕ) → Good (Starts o) (operand at) → Good (Starts o) (chain s r operand at)
  unfolding chain
  chain_starts o r operand at g =
      good_then (Starts o) (Starts o) (operand at) _ g λ t n h.
      repeated_good s (Starts o) (operators r) _
      (λ l m k. good_after (Starts o) (token_in s (operators r) m) _ λ c i. good_after (Starts o) (operand i) _ λ u e. tt)
      (length s) t n h

  leaf_place : (at : ℕ) → Good (Starts (place_of at)) (and_then (token_in s leaves at) (λ t. give (leaf_of t)))
  unfolding token_in
  leaf_place at = go (token_at s at)
    where
      go : (l : Lexed) → Good (Starts (on_found l (λ t. t.start) (length s)))
          (and_then (on_found l (λ t. pick (is_one_of leaves t.kind) (done t t.end) (misfit s at)) (misfit s at)) (λ t. give (leaf_of t)))
      go (Found t) =
          by_cases (λ (r : Parsed Token). Good (Starts t.start) (and_then r (λ t. give (leaf_of t)))) (is_one_of leaves t.kind) (done t t.end) (misfit s at)
          (λ _. leaf_starts t)
          (λ _. unfit_then (Starts t.start) (token_at s at) (λ t. give (leaf_of t)))
      go (Refused q p) = unfit_then (Starts (length s)) (token_at s at) (λ t. give (leaf_of t))
      go End = unfit_then (Starts (length s)) (token_at s at) (λ t. give (leaf_of t))

  factor_starts : (inside : ℕ → Parser Term) (at : ℕ) → next_in s (open_paren ∷ []) at ≡ false → Good (Starts (place_of at)) (factor s inside at)
  unfolding factor
  factor_starts inside at e = subst (Good (Starts (place_of at))) (sym (pick_false (next_in s (open_paren ∷ []) at) _ _ e)) (leaf_place at)

  -- an expression that does not start with `(`: if it is a name, that name is the next token
  expression_starts : (n at : ℕ) → next_in s (open_paren ∷ []) at ≡ false → Good (Starts (place_of at)) (expression s n at)
  expression_starts n at e = chain_starts (place_of at) 2 _ at (chain_starts (place_of at) 3 _ at (factor_starts (inside_expression s n) at e))

  -- ---- statements

  whole_placed : (o : ℕ) (e : Term) (t : Span) (at : ℕ) → Starts o e → Good (ActionPlaced o) (whole_move s e t at)
  unfolding whole_move
  whole_placed o (named h) t at g = sym g
  whole_placed o (numeral v p) t at g = unfit_good s (ActionPlaced o) (token_at s at)
  whole_placed o (quoted x p) t at g = unfit_good s (ActionPlaced o) (token_at s at)
  whole_placed o (fixed k p) t at g = unfit_good s (ActionPlaced o) (token_at s at)
  whole_placed o (negated p e) t at g = unfit_good s (ActionPlaced o) (token_at s at)
  whole_placed o (operated k p e f) t at g = unfit_good s (ActionPlaced o) (token_at s at)

  action_placed : (o : ℕ) (e : Term) → Starts o e → (at : ℕ) → Good (ActionPlaced o) (action s e at)
  unfolding action asset_move
  action_placed o e h at =
      by_cases (Good (ActionPlaced o)) (next_in s (value_arrow ∷ []) at) _ _
      (λ _. good_after (ActionPlaced o) (token s value_arrow at) _ λ c n. good_after (ActionPlaced o) (name s n) _ λ t m. tt)
      (λ _. good_after (ActionPlaced o) (token s asset_arrow at) _ λ c n. good_after (ActionPlaced o) (name s n) _ λ x m.
      by_cases (Good (ActionPlaced o)) (next_in s (comma ∷ []) m) _ _
      (λ _. good_after (ActionPlaced o) (token s comma m) _ λ c i. good_after (ActionPlaced o) (name s i) _ λ t j. tt)
      (λ _. whole_placed o e x m h))

  statement_placed : (n : ℕ) (test : Block → Parser Block) → ((b : Block) (at : ℕ) → BlockPlaced b → Good BlockPlaced (test b at)) → (b : Block) (at : ℕ) → BlockPlaced b → Good BlockPlaced (statement s n test b at)
  unfolding statement place
  statement_placed n test g b at h =
      by_cases (Good BlockPlaced) (next_in s (open_paren ∷ []) at) _ _ (λ _. g b at h)
      (λ q.
      good_then (Starts (place_of at)) BlockPlaced (expression s n at) _ (expression_starts n at q) λ e i f.
      good_then (ActionPlaced (place_of at)) BlockPlaced (action s e i) _ (action_placed (place_of at) e f i) λ a j k. (h, k))

  braces_placed : (n : ℕ) (test : Block → Parser Block) → ((b : Block) (at : ℕ) → BlockPlaced b → Good BlockPlaced (test b at)) → (at : ℕ) → Good BlockPlaced (braces s n test at)
  unfolding braces
  braces_placed n test g at =
      good_after BlockPlaced (token s open_brace at) _ λ o m.
      good_then BlockPlaced BlockPlaced (row s item_starts (statement s n test) none m) _
      (repeated_good s BlockPlaced item_starts (statement s n test) (statement_placed n test g) (length s) none m tt) λ b i h.
      good_after BlockPlaced (token s close_brace i) _ λ c j. h

  conditional_placed : (n : ℕ) (b : Block) (at : ℕ) → BlockPlaced b → Good BlockPlaced (conditional_after s n b at)
  unfolding conditional_after
  conditional_placed zero b at h = good_after BlockPlaced (place s at) _ λ p m. tt
  conditional_placed (suc n) b at h =
      good_after BlockPlaced (token s open_paren at) _ λ o m.
      good_after BlockPlaced (condition s n m) _ λ t i.
      good_after BlockPlaced (token s close_paren i) _ λ c j.
      good_then BlockPlaced BlockPlaced (braces s n (conditional_after s n) j) _ (braces_placed n (conditional_after s n) (conditional_placed n) j) λ x k g. (h, g)

  -- ---- functions

  event_placed : (p : ℕ) (e : Term) (at : ℕ) → Good EventPlaced (event s p e at)
  unfolding event
  event_placed p e at =
      good_after EventPlaced (token s event_mark at) _ λ o n.
      good_after EventPlaced (state s n) _ λ q m.
      good_then BlockPlaced EventPlaced (braces s max_levels (conditional_after s max_levels) m) _ (braces_placed max_levels (conditional_after s max_levels) (conditional_placed max_levels) m) λ b i c.
      good_after EventPlaced (token s state_arrow i) _ λ d j.
      good_after EventPlaced (state s j) _ λ l k. c

  abbrev BodyPlaced : Body → Type 0
  BodyPlaced i = BlockPlaced i.statements × Each EventPlaced i.events

  item_placed : (i : Body) (at : ℕ) → BodyPlaced i → Good BodyPlaced (body_item s i at)
  unfolding body_item place
  item_placed i at h =
      by_cases (Good BodyPlaced) (next_in s (open_paren ∷ []) at) _ _
      (λ _. before_good s BodyPlaced i.events _ at
      (good_then BlockPlaced BodyPlaced (conditional_after s max_levels i.statements at) _ (conditional_placed max_levels i.statements at h.0) λ c n f. (f, h.1)))
      (λ q.
      good_then (Starts (place_of at)) BodyPlaced (expression s max_levels at) _ (expression_starts max_levels at q) λ e m f.
      by_cases (Good BodyPlaced) (next_in s (event_mark ∷ []) m) _ _
      (λ _. good_then EventPlaced BodyPlaced (event s (place_of at) e m) _ (event_placed (place_of at) e m) λ v j g. (h.0, each_append EventPlaced i.events v h.1 g))
      (λ _. before_good s BodyPlaced i.events _ m
      (good_then (ActionPlaced (place_of at)) BodyPlaced (action s e m) _ (action_placed (place_of at) e f m) λ a j g. ((h.0, g), h.1))))

  body_placed : (at : ℕ) → Good BodyPlaced (body s at)
  unfolding body
  body_placed at =
      good_after BodyPlaced (token s open_brace at) _ λ o n.
      good_then BodyPlaced BodyPlaced (row s item_starts (body_item s) (record { statements = none; events = [] }) n) _
      (repeated_good s BodyPlaced item_starts (body_item s) item_placed (length s) (record { statements = none; events = [] }) n (tt, tt)) λ i m h.
      good_after BodyPlaced (token s close_brace m) _ λ c j. h

  function_placed : (at : ℕ) → Good FunctionPlaced (function s at)
  unfolding function
  function_placed at =
      good_after FunctionPlaced (place s at) _ λ p n.
      good_after FunctionPlaced (state s n) _ λ q n1.
      good_after FunctionPlaced (name s n1) _ λ a n2.
      good_after FunctionPlaced (token s colon n2) _ λ o n3.
      good_after FunctionPlaced (name s n3) _ λ f n4.
      good_after FunctionPlaced (parameters_in s open_paren close_paren n4) _ λ zs n5.
      good_after FunctionPlaced (parameters_in s open_bracket close_bracket n5) _ λ ys n6.
      good_after FunctionPlaced (precondition s n6) _ λ t n7.
      good_then BodyPlaced FunctionPlaced (body s n7) _ (body_placed n7) λ i n8 hi.
      good_after FunctionPlaced (token s state_arrow n8) _ λ d n9.
      good_after FunctionPlaced (state s n9) _ λ l m. hi

  abbrev pub SyntaxPlaced : Syntax → Type 0
  SyntaxPlaced c = Each FunctionPlaced c.functions

  contract_placed : (at : ℕ) → Good SyntaxPlaced (contract s at)
  unfolding contract
  contract_placed at =
      good_after SyntaxPlaced (token s legal_contract at) _ λ _ a1.
      good_after SyntaxPlaced (name s a1) _ λ n a2.
      good_after SyntaxPlaced (token s open_brace a2) _ λ _ a3.
      good_after SyntaxPlaced (line s assetsWord a3) _ λ hs a4.
      good_after SyntaxPlaced (line s fieldsWord a4) _ λ xs a5.
      good_after SyntaxPlaced (token s agreementWord a5) _ λ _ a6.
      good_after SyntaxPlaced (token s open_paren a6) _ λ _ a7.
      good_after SyntaxPlaced (names s a7) _ λ ps a8.
      good_after SyntaxPlaced (token s close_paren a8) _ λ _ a9.
      good_after SyntaxPlaced (token s open_brace a9) _ λ _ a10.
      good_after SyntaxPlaced (row s (nameKind ∷ []) _ [] a10) _ λ cs a11.
      good_after SyntaxPlaced (place s a11) _ λ p a12.
      good_after SyntaxPlaced (token s close_brace a12) _ λ _ a13.
      good_after SyntaxPlaced (token s state_arrow a13) _ λ _ a14.
      good_after SyntaxPlaced (state s a14) _ λ q a15.
      good_then (Each FunctionPlaced) SyntaxPlaced (row s (at_sign ∷ []) _ [] a15) _
      (repeated_good s (Each FunctionPlaced) (at_sign ∷ []) _
      (λ fs m h. good_then FunctionPlaced (Each FunctionPlaced) (function s m) _ (function_placed m) λ f i g. each_append FunctionPlaced fs f h g)
      (length s) [] a15 tt) λ fs a16 hf.
      good_after SyntaxPlaced (token s close_brace a16) _ λ _ a17.
      ending_good s SyntaxPlaced _ a17 hf

  pub parse_placed : (c : Syntax) (n : ℕ) → parse s ≡ done c n → SyntaxPlaced c
  parse_placed c n e = subst (Good SyntaxPlaced) e (contract_placed 0)

  -- ---- the pass over a text that parses finds what the rules say

  pub run_found : (c : Syntax) (n : ℕ) → parse s ≡ done c n → finding_of (run_contract s c fresh).notes ≡ judged s [] fine (items c)
  run_found c n e = placed_found s c (parse_sorted s c n e) (parse_placed c n e)

  -- its question is one of 11 to 15, or 0 for none
  pub run_question : (c : Syntax) (n : ℕ) → parse s ≡ done c n → note (run_contract s c fresh).notes 12 ≤ 15
  run_question c n e = placed_question s c (parse_sorted s c n e) (parse_placed c n e)
