-- What the grammar reads, its tokens derive. Assumes nothing.
use mathlib.Core.Path.{◌≡◌, refl, sym, ap, subst, ◌∙◌}
use mathlib.Core.Bool.{false}
use mathlib.Core.List.{List, [], ◌∷◌, ◌++◌, append_assoc, append-nil}
use Prim.Native.Nat.{ℕ, zero, suc}
use lib.ListN.{length}
use lib.Dec.{eqb}
use Rattle.laws.specs.Choice.{pick}
use Rattle.laws.proofs.Choice.{by_cases}
use Rattle.words.specs.Words.{legal_contract, assets as assetsWord, fields as fieldsWord, agreement as agreementWord, now_word, true_word, false_word, set_arrow, ok_arrow, value_arrow, asset_arrow, state_arrow, event_mark, open_paren, close_paren, open_brace, close_brace, open_bracket, close_bracket, comma, colon, at_sign, underscore, not_mark}
use Rattle.tokens.specs.Tokens.{token_at, name as nameKind, number as numberKind, string as string_kind}
use Rattle.tokens.specs.declared.Token.{Token}
use Rattle.tokens.specs.declared.Lexed.{Lexed}
use Rattle.tokens.specs.declared.Lexed.TheVariants.{Found, Refused, End}
use Rattle.laws.specs.Lists.{every}
use Rattle.reading.specs.Syntax.{Span, Term, named, numeral, quoted, fixed, negated, operated, Block, none, perform, Event, Body, Syntax}
use Rattle.reading.specs.Grammar.{Parsed, done, no, Parser, and_then, give, on_found, is_one_of, operators, item_starts, leaf_of, negated_at, with_statements, max_levels, unfit, misfit, next_in, if_next, token_in, token, place, repeated, row, name, names, state, chain, factor, sum, inside_expression, expression}
use Rattle.reading.specs.Grammar.{comparison, simple, primary, choice, inside_condition, condition, whole_move, asset_move, action, statement, braces, conditional_after, event, before_events, body_item, body, parameters_in, precondition, function, verb, clause, line, ends_on, ending, contract, parse}
use Rattle.reading.specs.Grammar as reader
use Rattle.grammar.specs.Derivations.{Tokens, TokensOf, In, Is, Starts, start_of, span_of, Names, State, leaves, Chain, Factor, Product, Sum, InsideExpression, Expression, comparisons, Simple, Primary, Conjunction, Disjunction, InsideCondition, Condition, ActionOf, Braced, Guarded, Row}
use Rattle.grammar.specs.Derivations.{Conditional, Statements, EventOf, BodyOf, Parameters, PreconditionOf, Straight, FunctionOf, Each, VerbOf, Fields, ClauseOf, Line, Derives}
use Rattle.reading.proofs.TokenKinds.{wider, is_kind, one_fewer}
use Rattle.grammar.proofs.Laws.{snoc_some, starts_append, drop_first}

module _ (s : List ℕ) where
  -- ---- what a parser's result derives

  Yields : {A : Type 0} → (A → List Token → Type 0) → ℕ → Parsed A → Type 0
  Yields R at (done a n) = (ts : List Token) × Tokens s at ts n × R a ts
  Yields R at (no q p) = Unit {0}

  tokens_append : (at : ℕ) (ts : List Token) (n : ℕ) (us : List Token) (m : ℕ) → Tokens s at ts n → Tokens s n us m → Tokens s at (ts ++ us) m
  tokens_append at [] n us m h k = subst (λ (x : ℕ). Tokens s x us m) (sym h) k
  tokens_append at (o ∷ ts) n us m h k = (h.0, tokens_append o.end ts n us m h.1 k)

  yields_map : {A : Type 0} (R Q : A → List Token → Type 0) (at : ℕ) (r : Parsed A) → Yields R at r → ((a : A) (ts : List Token) → R a ts → Q a ts) → Yields Q at r
  unfolding Yields
  yields_map R Q at (done a n) y h = (y.0, y.1, h a y.0 y.2)
  yields_map R Q at (no q p) y h = tt

  join : {A : Type 0} (Q : A → List Token → Type 0) (at : ℕ) (ts : List Token) (n : ℕ) (r : Parsed A) → Tokens s at ts n → Yields (λ a us. Q a (ts ++ us)) n r → Yields Q at r
  unfolding Yields
  join Q at ts n (done a m) h y = (ts ++ y.0, tokens_append at ts n y.0 m h y.1, y.2)
  join Q at ts n (no q p) h y = tt

  yields_then :
      {A B : Type 0} (R : A → List Token → Type 0) (Q : B → List Token → Type 0) (at : ℕ) (r : Parsed A) (f : A → Parser B) → Yields R at r
      → ((a : A) (n : ℕ) (ts : List Token) → Tokens s at ts n → R a ts → Yields (λ b us. Q b (ts ++ us)) n (f a n)) → Yields Q at (and_then r f)
  unfolding Yields
  yields_then R Q at (done a n) f y h = join Q at y.0 n (f a n) y.1 (h a n y.0 y.1 y.2)
  yields_then R Q at (no q p) f y h = tt

  -- the last part
  yields_last :
      {A B : Type 0} (R : A → List Token → Type 0) (Q : B → List Token → Type 0) (at : ℕ) (r : Parsed A) (g : A → B) → Yields R at r
      → ((a : A) (n : ℕ) (ts : List Token) → Tokens s at ts n → R a ts → Q (g a) ts) → Yields Q at (and_then r (λ a. give (g a)))
  unfolding Yields
  yields_last R Q at (done a n) g y h = (y.0, y.1, h a n y.0 y.1 y.2)
  yields_last R Q at (no q p) g y h = tt

  yields_give : {A : Type 0} (Q : A → List Token → Type 0) (at : ℕ) (a : A) → Q a [] → Yields Q at (done a at)
  unfolding Yields
  yields_give Q at a h = ([], refl, h)

  yields_no : {A : Type 0} (Q : A → List Token → Type 0) (at q p : ℕ) → Yields Q at (no q p)
  unfolding Yields
  yields_no Q at q p = tt

  unfit_yields : {A B : Type 0} (Q : B → List Token → Type 0) (at : ℕ) (l : Lexed) (f : A → Parser B) → Yields Q at (and_then (unfit s l) f)
  unfolding unfit Yields
  unfit_yields Q at (Found t) f = tt
  unfit_yields Q at (Refused q p) f = tt
  unfit_yields Q at End f = tt

  misfit_yields : {A : Type 0} (Q : A → List Token → Type 0) (at : ℕ) (l : Lexed) → Yields Q at (unfit s l)
  unfolding unfit Yields
  misfit_yields Q at (Found t) = tt
  misfit_yields Q at (Refused q p) = tt
  misfit_yields Q at End = tt

  yields_token :
      {B : Type 0} (Q : B → List Token → Type 0) (ks : List ℕ) (at : ℕ) (f : Token → Parser B)
      → ((o : Token) → token_at s at ≡ Found o → In ks o → Yields (λ b us. Q b (o ∷ us)) o.end (f o o.end)) → Yields Q at (and_then (token_in s ks at) f)
  unfolding token_in
  yields_token Q ks at f h = go (token_at s at) refl
    where
      go : (l : Lexed) → token_at s at ≡ l → Yields Q at (and_then (on_found l (λ t. pick (is_one_of ks t.kind) (done t t.end) (misfit s at)) (misfit s at)) f)
      go (Found o) e =
          by_cases (λ r. Yields Q at (and_then r f)) (is_one_of ks o.kind) (done o o.end) (misfit s at)
          (λ q. join Q at (o ∷ []) o.end (f o o.end) (e, refl) (h o e q))
          (λ _. unfit_yields Q at (token_at s at) f)
      go (Refused q p) e = unfit_yields Q at (token_at s at) f
      go End e = unfit_yields Q at (token_at s at) f

  pub next_found : (ks : List ℕ) (at : ℕ) (o : Token) → token_at s at ≡ Found o → next_in s ks at ≡ is_one_of ks o.kind
  unfolding next_in
  next_found ks at o e = ap (λ (l : Lexed). on_found l (λ t. is_one_of ks t.kind) false) e

  -- the place of what follows
  unfoldable pub place_at : ℕ → ℕ
  place_at at = on_found (token_at s at) (λ t. t.start) (length s)

  yields_place : {B : Type 0} (Q : B → List Token → Type 0) (at : ℕ) (f : ℕ → Parser B) → Yields Q at (f (place_at at) at) → Yields Q at (and_then (place s at) f)
  unfolding place place_at
  yields_place Q at f y = y

  pub place_first : (ks : List ℕ) (at : ℕ) (ts : List Token) (n : ℕ) → Tokens s at ts n → Starts ks ts → start_of ts ≡ place_at at
  unfolding place_at
  place_first ks at [] n h k = absurd k
  place_first ks at (o ∷ ts) n h k = sym (ap (λ (l : Lexed). on_found l (λ t. t.start) (length s)) h.0)

  repeated_yields :
      {A : Type 0} (P : A → List Token → Type 0) (starts : List ℕ) (part : A → Parser A)
      → ((a : A) (ts : List Token) (at : ℕ) → P a ts → Yields (λ b us. P b (ts ++ us)) at (part a at)) → (f : ℕ) (a : A) (ts : List Token) (at : ℕ) → P a ts
      → Yields (λ b us. P b (ts ++ us)) at (repeated s starts part f a at)
  unfolding repeated
  repeated_yields P starts part h zero a ts at p = yields_give _ at a (subst (P a) (sym (append-nil ts)) p)
  repeated_yields P starts part h (suc f) a ts at p =
      by_cases (Yields (λ b us. P b (ts ++ us)) at) (next_in s starts at) _ _
      (λ _. yields_then _ _ at (part a at) (repeated s starts part f) (h a ts at p) λ b n us _ q.
      yields_map _ _ n _ (repeated_yields P starts part h f b (ts ++ us) n q) λ c vs r. subst (P c) (append_assoc ts us vs) r)
      (λ _. yields_give _ at a (subst (P a) (sym (append-nil ts)) p))

  -- ---- names

  no_name : {B : Type 0} (Q : B → List Token → Type 0) (at : ℕ) (f : Span → Parser B) (l : Lexed) → Yields Q at (and_then (and_then (unfit s l) (λ (t : Token). give (span_of t))) f)
  unfolding unfit Yields
  no_name Q at f (Found t) = tt
  no_name Q at f (Refused q p) = tt
  no_name Q at f End = tt

  yields_name :
      {B : Type 0} (Q : B → List Token → Type 0) (at : ℕ) (f : Span → Parser B)
      → ((o : Token) → Is nameKind o → Yields (λ b us. Q b (o ∷ us)) o.end (f (span_of o) o.end)) → Yields Q at (and_then (name s at) f)
  unfolding name token_in
  yields_name Q at f h = go (token_at s at) refl
    where
      go :
          (l : Lexed) → token_at s at ≡ l
          → Yields Q at (and_then (and_then (on_found l (λ t. pick (is_one_of (nameKind ∷ []) t.kind) (done t t.end) (misfit s at)) (misfit s at)) (λ t. give (span_of t))) f)
      go (Found o) e =
          by_cases (λ r. Yields Q at (and_then (and_then r (λ t. give (span_of t))) f)) (is_one_of (nameKind ∷ []) o.kind) (done o o.end) (misfit s at)
          (λ q. join Q at (o ∷ []) o.end (f (span_of o) o.end) (e, refl) (h o q))
          (λ _. no_name Q at f (token_at s at))
      go (Refused q p) e = no_name Q at f (token_at s at)
      go End e = no_name Q at f (token_at s at)

  names_sound : (at : ℕ) → Yields Names at (names s at)
  unfolding names
  names_sound at =
      yields_name Names at _ λ o q.
      repeated_yields Names (comma ∷ []) _
      (λ xs ts m g. yields_token _ (comma ∷ []) m _ λ c _ k. yields_name _ c.end _ λ y j. yields_give _ y.end _ (Names.more g c y k j))
      (length s) (span_of o ∷ []) (o ∷ []) o.end (Names.one o q)

  state_sound : (at : ℕ) → Yields State at (state s at)
  unfolding state name
  state_sound at = yields_token State (at_sign ∷ []) at _ λ a _ k. yields_token _ (nameKind ∷ []) a.end _ λ o _ j. yields_give _ o.end _ (State.state a o k j)

  -- ---- expressions

  chain_sound : (r : ℕ) (operand : Parser Term) (R : Term → List Token → Type 0) → ((at : ℕ) → Yields R at (operand at)) → (at : ℕ) → Yields (Chain (operators r) R) at (chain s r operand at)
  unfolding chain
  chain_sound r operand R g at =
      yields_then R _ at (operand at) _ (g at) λ t n ts _ h.
      repeated_yields (Chain (operators r) R) (operators r) _
      (λ l us m k. yields_token _ (operators r) m _ λ o _ f.
      yields_last R _ o.end (operand o.end) (λ u. operated o.kind o.start l u) (g o.end) λ u _ vs _ q. Chain.apply k o f q)
      (length s) t ts n (Chain.operand h)

  enclosed_sound :
      (R Q : Term → List Token → Type 0) (inside : ℕ → Parser Term) → ((p at : ℕ) → Yields R at (inside p at))
      → ((t : Term) (ts : List Token) (o c : Token) → Is open_paren o → R t ts → Is close_paren c → Q t (o ∷ (ts ++ (c ∷ [])))) → (at : ℕ)
      → Yields Q at (reader.enclosed s inside at)
  unfolding reader.enclosed
  enclosed_sound R Q inside g j at =
      yields_token Q (open_paren ∷ []) at _ λ o _ k.
      yields_then R _ o.end (inside o.start o.end) _ (g o.start o.end) λ t n ts _ h.
      yields_token _ (close_paren ∷ []) n _ λ c _ f. yields_give _ c.end t (j t ts o c k h f)

  leaf_sound : (R : Term → List Token → Type 0) (o : Token) → In leaves o → Factor R (leaf_of o) (o ∷ [])
  unfolding leaf_of
  leaf_sound R o k =
      by_cases (λ t. Factor R t (o ∷ [])) (eqb o.kind nameKind) _ _ (λ q. Factor.variable o (is_kind nameKind o.kind q))
      (λ a. by_cases (λ t. Factor R t (o ∷ [])) (eqb o.kind numberKind) _ _ (λ q. Factor.number o (is_kind numberKind o.kind q))
      (λ b. by_cases (λ t. Factor R t (o ∷ [])) (eqb o.kind string_kind) _ _ (λ q. Factor.string o (is_kind string_kind o.kind q))
      (λ c. Factor.now o (one_fewer string_kind _ o.kind c (one_fewer numberKind _ o.kind b (one_fewer nameKind _ o.kind a k))))))

  factor_sound : (R : Term → List Token → Type 0) (inside : ℕ → Parser Term) → ((p at : ℕ) → Yields R at (inside p at)) → (at : ℕ) → Yields (Factor R) at (factor s inside at)
  unfolding factor
  factor_sound R inside g at =
      by_cases (Yields (Factor R) at) (next_in s (open_paren ∷ []) at) _ _
      (λ _. enclosed_sound R (Factor R) inside g (λ t ts o c k h f. Factor.enclosed o c k h f) at)
      (λ _. yields_token _ leaves at _ λ o _ k. yields_give _ o.end _ (leaf_sound R o k))

  sum_sound : (R : Term → List Token → Type 0) (inside : ℕ → Parser Term) → ((p at : ℕ) → Yields R at (inside p at)) → (at : ℕ) → Yields (Sum R) at (sum s inside at)
  sum_sound R inside g = chain_sound 2 _ (Product R) (chain_sound 3 _ (Factor R) (factor_sound R inside g))

  inside_sound : (n p at : ℕ) → Yields (InsideExpression n) at (inside_expression s n p at)
  unfolding inside_expression InsideExpression
  inside_sound zero p at = yields_no _ at 10 p
  inside_sound (suc n) p at = yields_map (Sum (InsideExpression n)) (InsideExpression (suc n)) at _ (sum_sound (InsideExpression n) (inside_expression s n) (inside_sound n) at) λ t ts h. h

  expression_sound : (n at : ℕ) → Yields (Expression n) at (expression s n at)
  expression_sound n = sum_sound (InsideExpression n) (inside_expression s n) (inside_sound n)

  -- ---- what starts an expression

  chain_starts : (ks os : List ℕ) (R : Term → List Token → Type 0) → ((t : Term) (ts : List Token) → R t ts → Starts ks ts) → (t : Term) (ts : List Token) → Chain os R t ts → Starts ks ts
  chain_starts ks os R g t ts (Chain.operand h) = g t ts h
  chain_starts ks os R g t ts (Chain.apply {t = u} {ts = us} d o f h) = starts_append ks us _ (chain_starts ks os R g u us d)

  factor_starts : (R : Term → List Token → Type 0) (t : Term) (ts : List Token) → Factor R t ts → Starts (open_paren ∷ leaves) ts
  unfolding is_one_of every pick
  factor_starts R t ts (Factor.now o k) = wider (open_paren ∷ leaves) (now_word ∷ []) o.kind refl k
  factor_starts R t ts (Factor.variable o k) = wider (open_paren ∷ leaves) (nameKind ∷ []) o.kind refl k
  factor_starts R t ts (Factor.number o k) = wider (open_paren ∷ leaves) (numberKind ∷ []) o.kind refl k
  factor_starts R t ts (Factor.string o k) = wider (open_paren ∷ leaves) (string_kind ∷ []) o.kind refl k
  factor_starts R t ts (Factor.enclosed o c k h f) = wider (open_paren ∷ leaves) (open_paren ∷ []) o.kind refl k

  pub expression_starts : (n : ℕ) (t : Term) (ts : List Token) → Expression n t ts → Starts (open_paren ∷ leaves) ts
  expression_starts n = chain_starts _ _ (Product (InsideExpression n)) (chain_starts _ _ (Factor (InsideExpression n)) (factor_starts (InsideExpression n)))

  -- where no parenthesis is next, a leaf starts it
  leaf_starts : (n : ℕ) (t : Term) (ts : List Token) (at m : ℕ) → Expression n t ts → Tokens s at ts m → next_in s (open_paren ∷ []) at ≡ false → Starts leaves ts
  leaf_starts n t ts at m d h e = go ts (expression_starts n t ts d) h
    where
      go : (us : List Token) → Starts (open_paren ∷ leaves) us → Tokens s at us m → Starts leaves us
      go [] k f = absurd k
      go (o ∷ us) k f = drop_first open_paren leaves o.kind (sym (next_found (open_paren ∷ []) at o f.0) ∙ e) k

  -- ---- conditions

  comparison_sound : (n : ℕ) (R : Term → List Token → Type 0) (at : ℕ) → next_in s (open_paren ∷ []) at ≡ false → Yields (Simple n R) at (comparison s n at)
  unfolding comparison
  comparison_sound n R at e =
      yields_then (Expression n) _ at (expression s n at) _ (expression_sound n at) λ t m ts k h.
      yields_token _ comparisons m _ λ o _ f.
      yields_last (Expression n) _ o.end (expression s n o.end) (λ u. operated o.kind o.start t u) (expression_sound n o.end) λ u _ us _ g.
      Simple.compare h (leaf_starts n t ts at m h k e) o f g

  simple_sound : (n : ℕ) (R : Term → List Token → Type 0) (inside : ℕ → Parser Term) → ((p at : ℕ) → Yields R at (inside p at)) → (at : ℕ) → Yields (Simple n R) at (simple s n inside at)
  unfolding simple
  simple_sound n R inside g at =
      by_cases (Yields (Simple n R) at) (next_in s (open_paren ∷ []) at) _ _
      (λ _. enclosed_sound R (Simple n R) inside g (λ t ts o c k h f. Simple.enclosed o c k h f) at)
      (λ e. by_cases (Yields (Simple n R) at) (next_in s (true_word ∷ false_word ∷ []) at) _ _
      (λ _. yields_token _ (true_word ∷ false_word ∷ []) at _ λ o _ k. yields_give _ o.end _ (Simple.truth o k))
      (λ _. comparison_sound n R at e))

  -- what these `~` before a condition make of it
  abbrev Before : ℕ → (Term → List Token → Type 0) → List ℕ → List Token → Type 0
  Before n R ps ts = (t : Term) (us : List Token) → Primary n R t us → Primary n R (negated_at ps t) (ts ++ us)

  primary_sound : (n : ℕ) (R : Term → List Token → Type 0) (inside : ℕ → Parser Term) → ((p at : ℕ) → Yields R at (inside p at)) → (at : ℕ) → Yields (Primary n R) at (primary s n inside at)
  unfolding primary negated_at
  primary_sound n R inside g at =
      yields_then (Before n R) _ at (row s (not_mark ∷ []) _ [] at) _
      (repeated_yields (Before n R) (not_mark ∷ []) _
      (λ ps ts m h. yields_token _ (not_mark ∷ []) m _ λ o _ k. yields_give _ o.end _
      (λ t us d. subst (Primary n R (negated_at ps (negated o.start t))) (sym (append_assoc ts (o ∷ []) us)) (h (negated o.start t) (o ∷ us) (Primary.negate o k d))))
      (length s) [] [] at (λ t us d. d)) λ ps m ts _ h.
      yields_last (Simple n R) _ m (simple s n inside m) (negated_at ps) (simple_sound n R inside g m) λ t _ us _ d. h t us (Primary.simple d)

  choice_sound :
      (n : ℕ) (R : Term → List Token → Type 0) (inside : ℕ → Parser Term) → ((p at : ℕ) → Yields R at (inside p at)) → (at : ℕ)
      → Yields (Disjunction n R) at (choice s n inside at)
  choice_sound n R inside g = chain_sound 0 _ (Conjunction n R) (chain_sound 1 _ (Primary n R) (primary_sound n R inside g))

  insides_sound : (n p at : ℕ) → Yields (InsideCondition n) at (inside_condition s n p at)
  unfolding inside_condition InsideCondition
  insides_sound zero p at = yields_no _ at 10 p
  insides_sound (suc n) p at = yields_map (Disjunction n (InsideCondition n)) (InsideCondition (suc n)) at _ (choice_sound n (InsideCondition n) (inside_condition s n) (insides_sound n) at) λ t ts h. h

  condition_sound : (n at : ℕ) → Yields (Condition n) at (condition s n at)
  condition_sound n = choice_sound n (InsideCondition n) (inside_condition s n) (insides_sound n)

  -- ---- statements

  whole_sound : (e : Term) (o t : Token) → Is asset_arrow o → Is nameKind t → (at : ℕ) → Yields (λ a us. ActionOf e a (o ∷ t ∷ us)) at (whole_move s e (span_of t) at)
  unfolding whole_move
  whole_sound (named h) o t k j at = yields_give _ at _ (ActionOf.moving_all h refl o t k j)
  whole_sound (numeral v p) o t k j at = misfit_yields _ at (token_at s at)
  whole_sound (quoted x p) o t k j at = misfit_yields _ at (token_at s at)
  whole_sound (fixed i p) o t k j at = misfit_yields _ at (token_at s at)
  whole_sound (negated p e) o t k j at = misfit_yields _ at (token_at s at)
  whole_sound (operated i p e f) o t k j at = misfit_yields _ at (token_at s at)

  action_sound : (e : Term) (at : ℕ) → Yields (ActionOf e) at (action s e at)
  unfolding action asset_move
  action_sound e at =
      by_cases (Yields (ActionOf e) at) (next_in s (value_arrow ∷ []) at) _ _
      (λ _. yields_token _ (value_arrow ∷ []) at _ λ o _ k. yields_name _ o.end _ λ t j. yields_give _ t.end _ (ActionOf.sending o t k j))
      (λ _. yields_token _ (asset_arrow ∷ []) at _ λ o _ k. yields_name _ o.end _ λ h j.
      by_cases (Yields (λ a us. ActionOf e a (o ∷ h ∷ us)) h.end) (next_in s (comma ∷ []) h.end) _ _
      (λ _. yields_token _ (comma ∷ []) h.end _ λ c _ i. yields_name _ c.end _ λ t f. yields_give _ t.end _ (ActionOf.moving o h c t k j i f))
      (λ _. whole_sound e o h k j h.end))

  -- a conditional after a block
  abbrev TestAfter : ℕ → Block → Block → List Token → Type 0
  TestAfter n b c us = (p : ℕ) × (t : Term) × (i : Block) × (c ≡ Block.conditional b p t i) × Conditional n p t i us

  statement_sound :
      (n : ℕ) (test : Block → Parser Block) → ((b : Block) (at : ℕ) → Yields (TestAfter n b) at (test b at)) → (b : Block) (ts : List Token) (at : ℕ) → Statements n b ts
      → Yields (λ c us. Statements n c (ts ++ us)) at (statement s n test b at)
  unfolding statement
  statement_sound n test g b ts at d =
      by_cases (Yields (λ c us. Statements n c (ts ++ us)) at) (next_in s (open_paren ∷ []) at) _ _
      (λ _. yields_map (TestAfter n b) _ at _ (g b at) λ c us y. subst (λ (x : Block). Statements n x (ts ++ us)) (sym y.3) (Row.test d y.4))
      (λ e. yields_place _ at _
      (yields_then (Expression n) _ at (expression s n at) _ (expression_sound n at) λ t m us k h.
      let f = leaf_starts n t us at m h k e in
      yields_last (ActionOf t) _ m (action s t m) (λ a. perform b (place_at at) a) (action_sound t m) λ a _ vs _ j.
      subst (λ (p : ℕ). Statements n (perform b p a) (ts ++ (us ++ vs))) (place_first leaves at us m k f) (Row.act d h f j)))

  rows_sound :
      (n : ℕ) → ((b : Block) (at : ℕ) → Yields (TestAfter n b) at (conditional_after s n b at)) → (at : ℕ)
      → Yields (Statements n) at (row s item_starts (statement s n (conditional_after s n)) none at)
  rows_sound n g at =
      repeated_yields (Statements n) item_starts (statement s n (conditional_after s n)) (statement_sound n (conditional_after s n) g) (length s) none [] at Row.nothing

  braces_sound :
      (n : ℕ) → ((b : Block) (at : ℕ) → Yields (TestAfter n b) at (conditional_after s n b at)) → (at : ℕ)
      → Yields (Braced (Statements n)) at (braces s n (conditional_after s n) at)
  unfolding braces
  braces_sound n g at =
      yields_token _ (open_brace ∷ []) at _ λ o _ k.
      yields_then (Statements n) _ o.end _ _ (rows_sound n g o.end) λ b m ts _ d.
      yields_token _ (close_brace ∷ []) m _ λ c _ j. yields_give _ c.end b (Braced.braced o c k d j)

  conditional_sound : (n : ℕ) (b : Block) (at : ℕ) → Yields (TestAfter n b) at (conditional_after s n b at)
  unfolding conditional_after Conditional
  conditional_sound zero b at = yields_place _ at _ (yields_no _ at 10 (place_at at))
  conditional_sound (suc n) b at =
      yields_token _ (open_paren ∷ []) at _ λ o _ k.
      yields_then (Condition n) _ o.end (condition s n o.end) _ (condition_sound n o.end) λ t m ts _ h.
      yields_token _ (close_paren ∷ []) m _ λ c _ f.
      yields_last (Braced (Statements n)) _ c.end _ (λ i. Block.conditional b o.start t i) (braces_sound n (conditional_sound n) c.end) λ i _ us _ g.
      (o.start, t, i, refl, Guarded.guarded o c k h f g)

  -- ---- functions

  event_sound :
      (at : ℕ) (e : Term) (ts : List Token) (m : ℕ) → Tokens s at ts m → Expression max_levels e ts → Starts leaves ts
      → Yields (λ w us. EventOf w (ts ++ us)) m (event s (place_at at) e m)
  unfolding event
  event_sound at e ts m k d f =
      yields_token _ (event_mark ∷ []) m _ λ o _ j.
      yields_then State _ o.end (state s o.end) _ (state_sound o.end) λ q n us _ hq.
      yields_then (Braced (Statements max_levels)) _ n _ _ (braces_sound max_levels (conditional_sound max_levels) n) λ b i vs _ hb.
      yields_token _ (state_arrow ∷ []) i _ λ a _ h.
      yields_last State _ a.end (state s a.end) (λ l. record { place = place_at at; guard = e; state = q; handler = b; last = l }) (state_sound a.end) λ l _ ws _ hl.
      subst (λ (p : ℕ). EventOf (record { place = p; guard = e; state = q; handler = b; last = l }) (ts ++ (o ∷ (us ++ (vs ++ (a ∷ ws)))))) (place_first leaves at ts m k f)
      (EventOf.event d f o a j hq hb h hl)

  no_events : (i : Body) (ts : List Token) → BodyOf i ts → i.events ≡ [] → Statements max_levels i.statements ts
  no_events i ts (BodyOf.statements d) e = d
  no_events i ts (BodyOf.also {i = j} {w = w} d f) e = snoc_some j.events w e

  -- a statement, where no event is yet
  before_sound :
      (Q : Body → List Token → Type 0) (i : Body) (ts : List Token) (at : ℕ) (m : Parser Body) → BodyOf i ts
      → (Statements max_levels i.statements ts → i.events ≡ [] → Yields Q at (m at)) → Yields Q at (before_events s i.events m at)
  unfolding before_events
  before_sound Q i ts at m d h = go i.events refl
    where
      go : (ws : List Event) → i.events ≡ ws → Yields Q at (before_events s ws m at)
      go [] e = h (no_events i ts d e) e
      go (w ∷ ws) e = misfit_yields _ at (token_at s at)

  one_more_statement : (i : Body) (b : Block) (ts : List Token) → i.events ≡ [] → Statements max_levels b ts → BodyOf (with_statements i b) ts
  one_more_statement i b ts e d = subst (λ (ws : List Event). BodyOf (record { statements = b; events = ws }) ts) (sym e) (BodyOf.statements d)

  item_sound : (i : Body) (ts : List Token) (at : ℕ) → BodyOf i ts → Yields (λ j us. BodyOf j (ts ++ us)) at (body_item s i at)
  unfolding body_item
  item_sound i ts at d =
      by_cases (Yields (λ j us. BodyOf j (ts ++ us)) at) (next_in s (open_paren ∷ []) at) _ _
      (λ _. before_sound _ i ts at _ d λ h e.
      yields_last (TestAfter max_levels i.statements) _ at (conditional_after s max_levels i.statements at) (with_statements i) (conditional_sound max_levels i.statements at) λ b _ us _ y.
      one_more_statement i b (ts ++ us) e (subst (λ (x : Block). Statements max_levels x (ts ++ us)) (sym y.3) (Row.test h y.4)))
      (λ n. yields_place _ at _
      (yields_then (Expression max_levels) _ at (expression s max_levels at) _ (expression_sound max_levels at) λ e m us k h.
      let f = leaf_starts max_levels e us at m h k n in
      by_cases (Yields (λ j vs. BodyOf j (ts ++ (us ++ vs))) m) (next_in s (event_mark ∷ []) m) _ _
      (λ _. yields_last (λ w vs. EventOf w (us ++ vs)) _ m (event s (place_at at) e m) (reader.with_event i) (event_sound at e us m k h f) λ w _ vs _ g. BodyOf.also d g)
      (λ _. before_sound _ i ts m _ d λ b q.
      yields_last (ActionOf e) _ m (action s e m) (λ a. with_statements i (perform i.statements (place_at at) a)) (action_sound e m) λ a _ vs _ j.
      one_more_statement i _ _ q
      (subst (λ (p : ℕ). Statements max_levels (perform i.statements p a) (ts ++ (us ++ vs))) (place_first leaves at us m k f) (Row.act b h f j)))))

  body_sound : (at : ℕ) → Yields (Braced BodyOf) at (body s at)
  unfolding body
  body_sound at =
      yields_token _ (open_brace ∷ []) at _ λ o _ k.
      yields_then BodyOf _ o.end (row s item_starts (body_item s) (record { statements = none; events = [] }) o.end) _
      (repeated_yields BodyOf item_starts (body_item s) item_sound (length s) (record { statements = none; events = [] }) [] o.end (BodyOf.statements Row.nothing)) λ i m ts _ d.
      yields_token _ (close_brace ∷ []) m _ λ c _ j. yields_give _ c.end i (Braced.braced o c k d j)

  -- a list of parameters, and what comes next where it has no tokens
  abbrev Unless : ℕ → ℕ → List Token → Type 0
  Unless k at [] = next_in s (k ∷ []) at ≡ false
  Unless k at (o ∷ ts) = Unit {0}

  abbrev ParametersAt : ℕ → ℕ → ℕ → List Span → List Token → Type 0
  ParametersAt opening closing at xs ts = Parameters opening closing xs ts × Unless opening at ts

  parameters_sound : (opening closing at : ℕ) → Yields (ParametersAt opening closing at) at (parameters_in s opening closing at)
  unfolding parameters_in
  parameters_sound opening closing at =
      by_cases (Yields (ParametersAt opening closing at) at) (next_in s (opening ∷ []) at) _ _
      (λ _. yields_token _ (opening ∷ []) at _ λ o _ k.
      yields_then (λ xs ts. (c : Token) → Is closing c → Parameters opening closing xs (o ∷ (ts ++ (c ∷ [])))) _ o.end (if_next s (closing ∷ []) (give []) (names s) o.end) _
      (by_cases (Yields (λ xs ts. (c : Token) → Is closing c → Parameters opening closing xs (o ∷ (ts ++ (c ∷ [])))) o.end) (next_in s (closing ∷ []) o.end) (give [] o.end) (names s o.end)
      (λ _. yields_give _ o.end [] (λ c j. Parameters.empty o c k j))
      (λ _. yields_map Names _ o.end _ (names_sound o.end) λ xs ts h c j. Parameters.listed o c k h j)) λ xs m ts _ h.
      yields_token _ (closing ∷ []) m _ λ c _ j. yields_give _ c.end xs (h c j, tt))
      (λ e. yields_give _ at [] (Parameters.absent, e))

  straight_sound : (at : ℕ) (ts : List Token) (n : ℕ) (us : List Token) (m : ℕ) → Tokens s at ts n → Unless open_paren at ts → Tokens s n us m → Straight ts us
  straight_sound at [] n [] m h e k = tt
  straight_sound at [] n (o ∷ us) m h e k = sym (next_found (open_paren ∷ []) n o k.0) ∙ subst (λ (x : ℕ). next_in s (open_paren ∷ []) x ≡ false) h e
  straight_sound at (o ∷ ts) n us m h e k = tt

  precondition_sound : (at : ℕ) → Yields PreconditionOf at (precondition s at)
  unfolding precondition
  precondition_sound at =
      by_cases (Yields PreconditionOf at) (next_in s (open_paren ∷ []) at) _ _
      (λ _. yields_token _ (open_paren ∷ []) at _ λ o _ k.
      yields_then (Condition max_levels) _ o.end (condition s max_levels o.end) _ (condition_sound max_levels o.end) λ t m ts _ h.
      yields_token _ (close_paren ∷ []) m _ λ c _ j. yields_give _ c.end _ (PreconditionOf.only o c k h j))
      (λ _. yields_give _ at _ PreconditionOf.always)

  pub state_starts : (q : Span) (ts : List Token) → State q ts → Starts (at_sign ∷ []) ts
  state_starts q ts (State.state a o k j) = k

  function_sound : (at : ℕ) → Yields FunctionOf at (function s at)
  unfolding function
  function_sound at =
      yields_place _ at _
      (yields_then State _ at (state s at) _ (state_sound at) λ q n1 ts k1 hq.
      yields_name _ n1 _ λ a ha.
      yields_token _ (colon ∷ []) a.end _ λ c _ hc.
      yields_name _ c.end _ λ f hf.
      yields_then (ParametersAt open_paren close_paren f.end) _ f.end (parameters_in s open_paren close_paren f.end) _ (parameters_sound open_paren close_paren f.end) λ zs n5 us k5 hz.
      yields_then (ParametersAt open_bracket close_bracket n5) _ n5 (parameters_in s open_bracket close_bracket n5) _ (parameters_sound open_bracket close_bracket n5) λ ys n6 vs k6 hy.
      yields_then PreconditionOf _ n6 (precondition s n6) _ (precondition_sound n6) λ t n7 ws k7 ht.
      yields_then (Braced BodyOf) _ n7 (body s n7) _ (body_sound n7) λ i n8 xs _ hi.
      yields_token _ (state_arrow ∷ []) n8 _ λ w _ hw.
      yields_last State _ w.end (state s w.end) (λ l. record { place = place_at at; state = q; party = span_of a; name = span_of f; values = zs; parameters = ys; precondition = t; body = i; last = l }) (state_sound w.end) λ l _ rs _ hl.
      subst (λ (p : ℕ). FunctionOf (record { place = p; state = q; party = span_of a; name = span_of f; values = zs; parameters = ys; precondition = t; body = i; last = l }) (ts ++ (a ∷ c ∷ f ∷ (us ++ (vs ++ (ws ++ (xs ++ (w ∷ rs))))))))
      (place_first (at_sign ∷ []) at ts n1 k1 (state_starts q ts hq))
      (FunctionOf.function hq a c f w ha hc hf hz.0 hy.0 ht (straight_sound f.end us n5 (vs ++ ws) n7 k5 hz.1 (tokens_append n5 vs n6 ws n7 k6 k7)) hi hw hl))

  -- ---- the contract

  verb_sound : (at : ℕ) → Yields (λ v ts. (o : Token) × VerbOf v o × (ts ≡ o ∷ [])) at (verb s at)
  unfolding verb
  verb_sound at =
      by_cases (Yields (λ v ts. (o : Token) × VerbOf v o × (ts ≡ o ∷ [])) at) (next_in s (set_arrow ∷ []) at) _ _
      (λ _. yields_token _ (set_arrow ∷ []) at _ λ o _ k. yields_give _ o.end _ (o, VerbOf.sets o k, refl))
      (λ _. yields_token _ (ok_arrow ∷ []) at _ λ o _ k. yields_give _ o.end _ (o, VerbOf.agrees o k, refl))

  fields_sound : (at : ℕ) → Yields Fields at (if_next s (underscore ∷ []) (reader.◌>>◌ (token s underscore) (give [])) (names s) at)
  fields_sound at =
      by_cases (Yields Fields at) (next_in s (underscore ∷ []) at) _ _
      (λ _. yields_token _ (underscore ∷ []) at _ λ o _ k. yields_give _ o.end [] (Fields.empty o k))
      (λ _. yields_map Names Fields at _ (names_sound at) λ xs ts h. Fields.listed h)

  clause_sound : (at : ℕ) → Yields ClauseOf at (clause s at)
  unfolding clause
  clause_sound at =
      yields_name _ at _ λ a ha.
      yields_then (λ v ts. (o : Token) × VerbOf v o × (ts ≡ o ∷ [])) _ a.end (verb s a.end) _ (verb_sound a.end) λ v n us _ hv.
      yields_last Fields _ n _ (λ xs. record { party = span_of a; verb = v; fields = xs }) (fields_sound n) λ xs _ ts _ h.
      subst (λ (rs : List Token). ClauseOf (record { party = span_of a; verb = v; fields = xs }) (a ∷ (rs ++ ts))) (sym hv.2) (ClauseOf.clause a hv.0 ha hv.1 h)

  line_sound : (k at : ℕ) → Yields (Line k) at (line s k at)
  unfolding line
  line_sound k at =
      by_cases (Yields (Line k) at) (next_in s (k ∷ []) at) _ _
      (λ _. yields_token _ (k ∷ []) at _ λ o _ j. yields_map Names _ o.end _ (names_sound o.end) λ xs ts h. Line.line o j h)
      (λ _. yields_give _ at [] Line.omit)

  ending_sound : {A : Type 0} (Q : A → List Token → Type 0) (a : A) (at : ℕ) → Q a [] → Yields Q at (ending s a at)
  unfolding ending
  ending_sound Q a at h = go (token_at s at)
    where
      go : (l : Lexed) → Yields Q at (ends_on s a at l)
      go (Found t) = misfit_yields Q at (Found t)
      go (Refused q p) = misfit_yields Q at (Refused q p)
      go End = yields_give Q at a h

  pub place_token : (at : ℕ) (o : Token) → token_at s at ≡ Found o → o.start ≡ place_at at
  unfolding place_at
  place_token at o e = sym (ap (λ (l : Lexed). on_found l (λ t. t.start) (length s)) e)

  contract_sound : (at : ℕ) → Yields Derives at (contract s at)
  unfolding contract
  contract_sound at =
      yields_token _ (legal_contract ∷ []) at _ λ k _ hk.
      yields_name _ k.end _ λ n hn.
      yields_token _ (open_brace ∷ []) n.end _ λ d _ hd.
      yields_then (Line assetsWord) _ d.end (line s assetsWord d.end) _ (line_sound assetsWord d.end) λ hs a4 ts _ hh.
      yields_then (Line fieldsWord) _ a4 (line s fieldsWord a4) _ (line_sound fieldsWord a4) λ xs a5 us _ hx.
      yields_token _ (agreementWord ∷ []) a5 _ λ g _ hg.
      yields_token _ (open_paren ∷ []) g.end _ λ o _ ho.
      yields_then Names _ o.end (names s o.end) _ (names_sound o.end) λ ps a8 vs _ hp.
      yields_token _ (close_paren ∷ []) a8 _ λ c _ hc.
      yields_token _ (open_brace ∷ []) c.end _ λ b _ hb.
      yields_then (Each ClauseOf) _ b.end (row s (nameKind ∷ []) _ [] b.end) _
      (repeated_yields (Each ClauseOf) (nameKind ∷ []) _
      (λ cs rs m h. yields_last ClauseOf _ m (clause s m) (λ x. cs ++ (x ∷ [])) (clause_sound m) λ x _ zs _ f. Each.also h f)
      (length s) [] [] b.end Each.nothing) λ cs a11 ws _ hs'.
      yields_place _ a11 _
      (yields_token _ (close_brace ∷ []) a11 _ λ e he' he.
      yields_token _ (state_arrow ∷ []) e.end _ λ a _ ha.
      yields_then State _ a.end (state s a.end) _ (state_sound a.end) λ q a15 rs _ hq.
      yields_then (Each FunctionOf) _ a15 (row s (at_sign ∷ []) _ [] a15) _
      (repeated_yields (Each FunctionOf) (at_sign ∷ []) _
      (λ fs ms m h. yields_last FunctionOf _ m (function s m) (λ x. fs ++ (x ∷ [])) (function_sound m) λ x _ zs _ f. Each.also h f)
      (length s) [] [] a15 Each.nothing) λ fs a16 zs _ hf.
      yields_token _ (close_brace ∷ []) a16 _ λ z _ hz.
      ending_sound _ _ z.end
      (subst (λ (p : ℕ). Derives (record { name = span_of n; assets = hs; fields = xs; parties = ps; clauses = cs; closing = p; initial = q; functions = fs })
      (k ∷ n ∷ d ∷ (ts ++ (us ++ (g ∷ o ∷ (vs ++ (c ∷ b ∷ (ws ++ (e ∷ a ∷ (rs ++ (zs ++ (z ∷ []))))))))))))
      (place_token a11 e he')
      (Derives.contract k n d g o c b e a z hk hn hd hh hx hg ho hp hc hb hs' he ha hq hf hz)))

  -- ---- the text's end

  AtEnd : {A : Type 0} → Parsed A → Type 0
  AtEnd (done a n) = token_at s n ≡ End
  AtEnd (no q p) = Unit {0}

  end_after : {A B : Type 0} (r : Parsed A) (f : A → Parser B) → ((a : A) (n : ℕ) → AtEnd (f a n)) → AtEnd (and_then r f)
  unfolding AtEnd
  end_after (done a n) f h = h a n
  end_after (no q p) f h = tt

  ending_over : {A : Type 0} (a : A) (at : ℕ) → AtEnd (ending s a at)
  unfolding ending AtEnd unfit
  ending_over a at = go (token_at s at) refl
    where
      go : (l : Lexed) → token_at s at ≡ l → AtEnd (ends_on s a at l)
      go (Found t) e = tt
      go (Refused q p) e = tt
      go End e = e

  contract_over : (at : ℕ) → AtEnd (contract s at)
  unfolding contract
  contract_over at =
      end_after (token s legal_contract at) _ λ _ a1.
      end_after (name s a1) _ λ _ a2.
      end_after (token s open_brace a2) _ λ _ a3.
      end_after (line s assetsWord a3) _ λ _ a4.
      end_after (line s fieldsWord a4) _ λ _ a5.
      end_after (token s agreementWord a5) _ λ _ a6.
      end_after (token s open_paren a6) _ λ _ a7.
      end_after (names s a7) _ λ _ a8.
      end_after (token s close_paren a8) _ λ _ a9.
      end_after (token s open_brace a9) _ λ _ a10.
      end_after (row s (nameKind ∷ []) _ [] a10) _ λ _ a11.
      end_after (place s a11) _ λ _ a12.
      end_after (token s close_brace a12) _ λ _ a13.
      end_after (token s state_arrow a13) _ λ _ a14.
      end_after (state s a14) _ λ _ a15.
      end_after (row s (at_sign ∷ []) _ [] a15) _ λ _ a16.
      end_after (token s close_brace a16) _ λ _ a17.
      ending_over _ a17

  -- what is read is derived: the tokens of the whole text derive the tree
  pub parse_sound : (c : Syntax) (n : ℕ) → parse s ≡ done c n → (ts : List Token) × TokensOf s ts × Derives c ts
  unfolding Yields AtEnd
  parse_sound c n e =
      let y = subst (Yields Derives 0) e (contract_sound 0) in
      (y.0, record { end = n; all = y.1; over = subst AtEnd e (contract_over 0) }, y.2)
