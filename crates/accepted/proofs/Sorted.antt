-- What the grammar reads is well sorted, with the kinds of its operators and fixed words. Assumes nothing.
use mathlib.Core.Path.{◌≡◌, refl, sym, subst, ◌∙◌}
use mathlib.Core.Bool.{Bool, true, false, ◌&&◌}
use mathlib.Core.List.{List, [], ◌∷◌, ◌++◌}
use Prim.Native.Nat.{ℕ, zero, suc, ◌+◌, ◌-◌, ◌≤◌}
use lib.ListN.{length}
use lib.Dec.{eqb, leb}
use borrow.Author.Tests.{le-leb}
use Rattle.laws.specs.Choice.{pick}
use Rattle.laws.proofs.Choice.{by_cases, true_false, pick_true, pick_false}
use Rattle.words.specs.Words.{legal_contract, assets as assetsWord, fields as fieldsWord, agreement as agreementWord, now_word, true_word, false_word, value_arrow, asset_arrow, state_arrow, event_mark, and_mark, or_mark, open_paren, close_paren, open_brace, close_brace, open_bracket, close_bracket, comma, colon, at_sign, not_mark, plus_mark, minus_mark, times_mark, over_mark}
use Rattle.tokens.specs.Tokens.{top, token_at, between, name as nameKind, number as numberKind, string as string_kind}
use Rattle.tokens.specs.declared.Token.{Token}
use Rattle.tokens.specs.declared.Lexed.{Lexed}
use Rattle.tokens.specs.declared.Lexed.TheVariants.{Found, Refused, End}
use Rattle.tokens.proofs.Facts.{value_top}
use Rattle.contract.specs.Fits.{is_name, is_string}
use Rattle.laws.proofs.Members.{every_snoc}
use Rattle.laws.proofs.Truths.{both_left, both_right, both_true}
use Rattle.laws.specs.Lists.{every}
use Rattle.reading.specs.Syntax.{Span, Term, named, numeral, quoted, fixed, negated, operated, Action, sends, moves, moves_all, Block, none, perform, conditional, Event, Body, Precondition, omitted, given, Function, Syntax}
use Rattle.reading.specs.Grammar.{Parsed, done, no, Parser, and_then, give, on_found, is_one_of, operators, comparisons, leaves, leaf_of, item_starts, negated_at, max_levels, unfit, misfit, next_in, if_next, token_in, token, place, repeated, row, name, names, state, chain, enclosed, factor, sum}
use Rattle.reading.specs.Grammar.{inside_expression, expression, comparison, simple, primary, choice, inside_condition, condition, whole_move, asset_move, action, statement, braces, conditional_after, event, before_events, body_item, body, parameters_in, precondition, function, line, ends_on, ending}
use Rattle.reading.specs.Grammar.{contract, parse}
use Rattle.reading.specs.Rules.{word}
use Rattle.reading.proofs.TokenKinds.{Each, wider, kind_test, kind_not, one_fewer}
use Rattle.accepted.proofs.TokenBytes.{name_token, string_token}

-- ---- what a parser's result keeps

abbrev pub Good : {A : Type 0} → (A → Type 0) → Parsed A → Type 0
Good P (done a n) = P a
Good P (no q p) = Unit {0}

pub good_then : {A B : Type 0} (P : A → Type 0) (Q : B → Type 0) (r : Parsed A) (f : A → Parser B) → Good P r → ((a : A) (n : ℕ) → P a → Good Q (f a n)) → Good Q (and_then r f)
good_then P Q (done a n) f g h = h a n g
good_then P Q (no q p) f g h = tt

-- whatever the first gives
pub good_after : {A B : Type 0} (Q : B → Type 0) (r : Parsed A) (f : A → Parser B) → ((a : A) (n : ℕ) → Good Q (f a n)) → Good Q (and_then r f)
good_after Q (done a n) f h = h a n
good_after Q (no q p) f h = tt

pub each_append : {A : Type 0} (P : A → Type 0) (xs : List A) (x : A) → Each P xs → P x → Each P (xs ++ (x ∷ []))
each_append P [] x e p = (p, tt)
each_append P (y ∷ xs) x e p = (e.0, each_append P xs x e.1 p)

-- the operators of expressions
abbrev pub arithmetic : List ℕ
arithmetic = plus_mark ∷ minus_mark ∷ times_mark ∷ over_mark ∷ []

module _ (s : List ℕ) where
  -- ---- sorts

  unfoldable pub is_expression : Term → Bool
  is_expression (named x) = true
  is_expression (numeral v p) = leb v top
  is_expression (quoted x p) = is_string (word s x)
  is_expression (fixed k p) = eqb k now_word
  is_expression (negated p t) = false
  is_expression (operated k p t u) = is_one_of arithmetic k && (is_expression t && is_expression u)

  unfoldable pub is_condition : Term → Bool
  is_condition (named x) = false
  is_condition (numeral v p) = false
  is_condition (quoted x p) = false
  is_condition (fixed k p) = is_one_of (true_word ∷ false_word ∷ []) k
  is_condition (negated p t) = is_condition t
  is_condition (operated k p t u) =
      pick (eqb k or_mark) (is_condition t && is_condition u)
      (pick (eqb k and_mark) (is_condition t && is_condition u) (is_one_of comparisons k && (is_expression t && is_expression u)))

  unfoldable pub is_action : Action → Bool
  is_action (sends e t) = is_expression e
  is_action (moves e h t) = is_expression e
  is_action (moves_all h t) = true

  unfoldable pub is_block : Block → Bool
  is_block none = true
  is_block (perform b p a) = is_block b && is_action a
  is_block (conditional b p t i) = is_block b && (is_condition t && is_block i)

  abbrev pub is_named : Span → Bool
  is_named x = is_name (word s x)

  unfoldable pub is_event : Event → Bool
  is_event w = is_expression w.guard && (is_named w.state && (is_block w.handler && is_named w.last))

  unfoldable pub is_precondition : Precondition → Bool
  is_precondition omitted = true
  is_precondition (given t) = is_condition t

  abbrev pub is_body : Body → Bool
  is_body i = is_block i.statements && every is_event i.events

  pub record FunctionSorted (f : Function) : Type 0 where
    pub state : is_named f.state ≡ true
    pub name : is_named f.name ≡ true
    pub values : every is_named f.values ≡ true
    pub parameters : every is_named f.parameters ≡ true
    pub precondition : is_precondition f.precondition ≡ true
    pub body : is_body f.body ≡ true
    pub last : is_named f.last ≡ true

  pub record SyntaxSorted (c : Syntax) : Type 0 where
    pub name : is_named c.name ≡ true
    pub assets : every is_named c.assets ≡ true
    pub fields : every is_named c.fields ≡ true
    pub parties : every is_named c.parties ≡ true
    pub initial : is_named c.initial ≡ true
    pub functions : Each FunctionSorted c.functions

  -- ---- tokens

  record TokenOf (ks : List ℕ) (t : Token) : Type 0 where
    kinds : is_one_of ks t.kind ≡ true
    named : eqb t.kind nameKind ≡ true → is_name (between s t.start t.end) ≡ true
    quoted : eqb t.kind string_kind ≡ true → is_string (between s (t.start + 1) (t.end - 1)) ≡ true
    small : t.value ≤ top

  pub unfit_good : {A : Type 0} (P : A → Type 0) (l : Lexed) → Good P (unfit s l)
  unfolding unfit
  unfit_good P (Found t) = tt
  unfit_good P (Refused q p) = tt
  unfit_good P End = tt

  token_good : (ks : List ℕ) (at : ℕ) → Good (TokenOf ks) (token_in s ks at)
  unfolding token_in
  token_good ks at = go (token_at s at) refl
    where
      go : (l : Lexed) → token_at s at ≡ l → Good (TokenOf ks) (on_found l (λ t. pick (is_one_of ks t.kind) (done t t.end) (misfit s at)) (misfit s at))
      go (Found t) e =
          by_cases (Good (TokenOf ks)) (is_one_of ks t.kind) _ _
          (λ q. record { kinds = q; named = name_token s at t e; quoted = string_token s at t e; small = value_top s at t e })
          (λ _. unfit_good (TokenOf ks) (token_at s at))
      go (Refused q p) e = unfit_good (TokenOf ks) (token_at s at)
      go End e = unfit_good (TokenOf ks) (token_at s at)

  pub repeated_good : {A : Type 0} (P : A → Type 0) (starts : List ℕ) (part : A → Parser A) → ((a : A) (at : ℕ) → P a → Good P (part a at)) → (f : ℕ) (a : A) (at : ℕ) → P a → Good P (repeated s starts part f a at)
  unfolding repeated
  repeated_good P starts part h zero a at g = g
  repeated_good P starts part h (suc f) a at g =
      by_cases (Good P) (next_in s starts at) _ _
      (λ _. good_then P P (part a at) (repeated s starts part f) (h a at g) (λ b n p. repeated_good P starts part h f b n p))
      (λ _. g)

  Named : Span → Type 0
  Named x = is_named x ≡ true

  AllNamed : List Span → Type 0
  AllNamed xs = every is_named xs ≡ true

  name_good : (at : ℕ) → Good Named (name s at)
  unfolding name Named
  name_good at = good_then (TokenOf (nameKind ∷ [])) Named (token s nameKind at) _ (token_good (nameKind ∷ []) at) (λ t n o. o.named (kind_test nameKind t.kind o.kinds))

  names_good : (at : ℕ) → Good AllNamed (names s at)
  unfolding names Named AllNamed every
  names_good at =
      good_then Named AllNamed (name s at) _ (name_good at) λ x n h.
      repeated_good AllNamed (comma ∷ []) _
      (λ xs m g. good_after AllNamed (token s comma m) _ λ t i. good_then Named AllNamed (name s i) _ (name_good i) λ y j k. every_snoc is_named xs y g k)
      (length s) (x ∷ []) n (both_true _ _ h refl)

  state_good : (at : ℕ) → Good Named (state s at)
  unfolding state
  state_good at = good_after Named (token s at_sign at) _ λ t n. name_good n

  -- ---- expressions

  Expr : Term → Type 0
  Expr t = is_expression t ≡ true

  Cond : Term → Type 0
  Cond t = is_condition t ≡ true

  chain_good :
      (P : Term → Type 0) (r : ℕ) (operand : Parser Term) → ((at : ℕ) → Good P (operand at))
      → ((k p : ℕ) (t u : Term) → is_one_of (operators r) k ≡ true → P t → P u → P (operated k p t u)) → (at : ℕ) → Good P (chain s r operand at)
  unfolding chain
  chain_good P r operand g j at =
      good_then P P (operand at) _ (g at) λ t n h.
      repeated_good P (operators r) _
      (λ l m k. good_then (TokenOf (operators r)) P (token_in s (operators r) m) _ (token_good (operators r) m) λ o i f.
      good_then P P (operand i) _ (g i) λ u e q. j o.kind o.start l u f.kinds k q)
      (length s) t n h

  enclosed_good : (P : Term → Type 0) (inside : ℕ → Parser Term) → ((p at : ℕ) → Good P (inside p at)) → (at : ℕ) → Good P (enclosed s inside at)
  unfolding enclosed
  enclosed_good P inside g at =
      good_after P (token s open_paren at) _ λ o n.
      good_then P P (inside o.start n) _ (g o.start n) λ t m h.
      good_after P (token s close_paren m) _ λ c i. h

  leaf_good : (t : Token) → TokenOf leaves t → Expr (leaf_of t)
  unfolding leaf_of is_expression Expr
  leaf_good t o =
      by_cases Expr (eqb t.kind nameKind) _ _ (λ _. refl)
      (λ a. by_cases Expr (eqb t.kind numberKind) _ _ (λ _. le-leb t.value top o.small)
      (λ b. by_cases Expr (eqb t.kind string_kind) _ _ (λ q. o.quoted q)
      (λ c. kind_test now_word t.kind (one_fewer string_kind _ t.kind c (one_fewer numberKind _ t.kind b (one_fewer nameKind _ t.kind a o.kinds))))))

  factor_good : (inside : ℕ → Parser Term) → ((p at : ℕ) → Good Expr (inside p at)) → (at : ℕ) → Good Expr (factor s inside at)
  unfolding factor
  factor_good inside g at =
      by_cases (Good Expr) (next_in s (open_paren ∷ []) at) _ _ (λ _. enclosed_good Expr inside g at)
      (λ _. good_then (TokenOf leaves) Expr (token_in s leaves at) _ (token_good leaves at) λ t n o. leaf_good t o)

  applied : (k p : ℕ) (t u : Term) → is_one_of arithmetic k ≡ true → Expr t → Expr u → Expr (operated k p t u)
  unfolding is_expression Expr
  applied k p t u o a b = both_true _ _ o (both_true _ _ a b)

  sum_good : (inside : ℕ → Parser Term) → ((p at : ℕ) → Good Expr (inside p at)) → (at : ℕ) → Good Expr (sum s inside at)
  unfolding is_one_of every pick
  sum_good inside g = chain_good Expr 2 _ (chain_good Expr 3 _ (factor_good inside g) (λ k p t u o. applied k p t u (wider arithmetic (times_mark ∷ over_mark ∷ []) k refl o))) (λ k p t u o. applied k p t u (wider arithmetic (plus_mark ∷ minus_mark ∷ []) k refl o))

  inside_good : (n p at : ℕ) → Good Expr (inside_expression s n p at)
  unfolding inside_expression
  inside_good zero p at = tt
  inside_good (suc n) p at = sum_good (inside_expression s n) (inside_good n) at

  expression_good : (n at : ℕ) → Good Expr (expression s n at)
  expression_good n = sum_good (inside_expression s n) (inside_good n)

  -- ---- conditions

  comparison_good : (n at : ℕ) → Good Cond (comparison s n at)
  unfolding comparison is_condition Cond Expr every
  comparison_good n at =
      good_then Expr Cond (expression s n at) _ (expression_good n at) λ t m g.
      good_then (TokenOf comparisons) Cond (token_in s comparisons m) _ (token_good comparisons m) λ o i f.
      good_then Expr Cond (expression s n i) _ (expression_good n i) λ u j h.
      pick_false _ _ _ (kind_not or_mark comparisons o.kind refl f.kinds)
      ∙ pick_false _ _ _ (kind_not and_mark comparisons o.kind refl f.kinds)
      ∙ both_true _ _ f.kinds (both_true _ _ g h)

  simple_good : (n : ℕ) (inside : ℕ → Parser Term) → ((p at : ℕ) → Good Cond (inside p at)) → (at : ℕ) → Good Cond (simple s n inside at)
  unfolding simple is_condition Cond
  simple_good n inside g at =
      by_cases (Good Cond) (next_in s (open_paren ∷ []) at) _ _ (λ _. enclosed_good Cond inside g at)
      (λ _. by_cases (Good Cond) (next_in s (true_word ∷ false_word ∷ []) at) _ _
      (λ _. good_then (TokenOf (true_word ∷ false_word ∷ [])) Cond (token_in s (true_word ∷ false_word ∷ []) at) _ (token_good (true_word ∷ false_word ∷ []) at) λ t m o. o.kinds)
      (λ _. comparison_good n at))

  negated_good : (ps : List ℕ) (t : Term) → Cond t → Cond (negated_at ps t)
  unfolding negated_at is_condition Cond
  negated_good [] t h = h
  negated_good (p ∷ ps) t h = negated_good ps (negated p t) h

  primary_good : (n : ℕ) (inside : ℕ → Parser Term) → ((p at : ℕ) → Good Cond (inside p at)) → (at : ℕ) → Good Cond (primary s n inside at)
  unfolding primary
  primary_good n inside g at =
      good_after Cond (row s (not_mark ∷ []) _ [] at) _ λ ps m.
      good_then Cond Cond (simple s n inside m) _ (simple_good n inside g m) λ t i h. negated_good ps t h

  joined : (k p : ℕ) (t u : Term) → (eqb k or_mark ≡ false → eqb k and_mark ≡ true) → Cond t → Cond u → Cond (operated k p t u)
  unfolding is_condition Cond
  joined k p t u o a b =
      by_cases (λ (x : Bool). x ≡ true) (eqb k or_mark) _ _ (λ _. both_true _ _ a b)
      (λ q. pick_true _ _ _ (o q) ∙ both_true _ _ a b)

  choice_good : (n : ℕ) (inside : ℕ → Parser Term) → ((p at : ℕ) → Good Cond (inside p at)) → (at : ℕ) → Good Cond (choice s n inside at)
  choice_good n inside g =
      chain_good Cond 0 _ (chain_good Cond 1 _ (primary_good n inside g) (λ k p t u o. joined k p t u (λ _. kind_test and_mark k o)))
      (λ k p t u o. joined k p t u (λ q. true_false (sym (kind_test or_mark k o) ∙ q)))

  insides_good : (n p at : ℕ) → Good Cond (inside_condition s n p at)
  unfolding inside_condition
  insides_good zero p at = tt
  insides_good (suc n) p at = choice_good n (inside_condition s n) (insides_good n) at

  condition_good : (n at : ℕ) → Good Cond (condition s n at)
  condition_good n = choice_good n (inside_condition s n) (insides_good n)

  -- ---- statements

  Act : Action → Type 0
  Act a = is_action a ≡ true

  Statements : Block → Type 0
  Statements b = is_block b ≡ true

  whole_good : (e : Term) (t : Span) (at : ℕ) → Good Act (whole_move s e t at)
  unfolding whole_move is_action Act
  whole_good (named h) t at = refl
  whole_good (numeral v p) t at = unfit_good Act (token_at s at)
  whole_good (quoted x p) t at = unfit_good Act (token_at s at)
  whole_good (fixed k p) t at = unfit_good Act (token_at s at)
  whole_good (negated p e) t at = unfit_good Act (token_at s at)
  whole_good (operated k p e f) t at = unfit_good Act (token_at s at)

  action_good : (e : Term) → Expr e → (at : ℕ) → Good Act (action s e at)
  unfolding action asset_move is_action Act Expr
  action_good e h at =
      by_cases (Good Act) (next_in s (value_arrow ∷ []) at) _ _
      (λ _. good_after Act (token s value_arrow at) _ λ o n. good_after Act (name s n) _ λ t m. h)
      (λ _. good_after Act (token s asset_arrow at) _ λ o n. good_after Act (name s n) _ λ x m.
      by_cases (Good Act) (next_in s (comma ∷ []) m) _ _
      (λ _. good_after Act (token s comma m) _ λ c i. good_after Act (name s i) _ λ t j. h)
      (λ _. whole_good e x m))

  statement_good : (n : ℕ) (test : Block → Parser Block) → ((b : Block) (at : ℕ) → Statements b → Good Statements (test b at)) → (b : Block) (at : ℕ) → Statements b → Good Statements (statement s n test b at)
  unfolding statement is_block Statements Act
  statement_good n test g b at h =
      by_cases (Good Statements) (next_in s (open_paren ∷ []) at) _ _ (λ _. g b at h)
      (λ _. good_after Statements (place s at) _ λ p m.
      good_then Expr Statements (expression s n m) _ (expression_good n m) λ e i f.
      good_then Act Statements (action s e i) _ (action_good e f i) λ a j k. both_true _ _ h k)

  braces_good : (n : ℕ) (test : Block → Parser Block) → ((b : Block) (at : ℕ) → Statements b → Good Statements (test b at)) → (at : ℕ) → Good Statements (braces s n test at)
  unfolding braces is_block Statements
  braces_good n test g at =
      good_after Statements (token s open_brace at) _ λ o m.
      good_then Statements Statements (row s item_starts (statement s n test) none m) _
      (repeated_good Statements item_starts (statement s n test) (statement_good n test g) (length s) none m refl) λ b i h.
      good_after Statements (token s close_brace i) _ λ c j. h

  conditional_good : (n : ℕ) (b : Block) (at : ℕ) → Statements b → Good Statements (conditional_after s n b at)
  unfolding conditional_after is_block Statements Cond
  conditional_good zero b at h = good_after Statements (place s at) _ λ p m. tt
  conditional_good (suc n) b at h =
      good_after Statements (token s open_paren at) _ λ o m.
      good_then Cond Statements (condition s n m) _ (condition_good n m) λ t i f.
      good_after Statements (token s close_paren i) _ λ c j.
      good_then Statements Statements (braces s n (conditional_after s n) j) _ (braces_good n (conditional_after s n) (conditional_good n) j) λ x k g.
      both_true _ _ h (both_true _ _ f g)

  -- ---- functions

  Happens : Event → Type 0
  Happens w = is_event w ≡ true

  event_good : (p : ℕ) (e : Term) → Expr e → (at : ℕ) → Good Happens (event s p e at)
  unfolding event is_event Happens Expr Named Statements
  event_good p e h at =
      good_after Happens (token s event_mark at) _ λ o n.
      good_then Named Happens (state s n) _ (state_good n) λ q m a.
      good_then Statements Happens (braces s max_levels (conditional_after s max_levels) m) _ (braces_good max_levels (conditional_after s max_levels) (conditional_good max_levels) m) λ b i c.
      good_after Happens (token s state_arrow i) _ λ d j.
      good_then Named Happens (state s j) _ (state_good j) λ l k f.
      both_true _ _ h (both_true _ _ a (both_true _ _ c f))

  Whole : Body → Type 0
  Whole i = is_body i ≡ true

  pub before_good : {A : Type 0} (P : A → Type 0) (ws : List Event) (m : Parser A) (at : ℕ) → Good P (m at) → Good P (before_events s ws m at)
  unfolding before_events
  before_good P [] m at g = g
  before_good P (w ∷ ws) m at g = unfit_good P (token_at s at)

  item_good : (i : Body) (at : ℕ) → Whole i → Good Whole (body_item s i at)
  unfolding body_item Whole is_block Statements Act Happens
  item_good i at h =
      let b = both_left (is_block i.statements) (every is_event i.events) h in
      let w = both_right (is_block i.statements) (every is_event i.events) h in
      by_cases (Good Whole) (next_in s (open_paren ∷ []) at) _ _
      (λ _. before_good Whole i.events _ at
      (good_then Statements Whole (conditional_after s max_levels i.statements at) _ (conditional_good max_levels i.statements at b) λ c n f. both_true _ _ f w))
      (λ _. good_after Whole (place s at) _ λ p n.
      good_then Expr Whole (expression s max_levels n) _ (expression_good max_levels n) λ e m f.
      by_cases (Good Whole) (next_in s (event_mark ∷ []) m) _ _
      (λ _. good_then Happens Whole (event s p e m) _ (event_good p e f m) λ v j g. both_true _ _ b (every_snoc is_event i.events v w g))
      (λ _. before_good Whole i.events _ m
      (good_then Act Whole (action s e m) _ (action_good e f m) λ a j g. both_true _ _ (both_true _ _ b g) w)))

  body_good : (at : ℕ) → Good Whole (body s at)
  unfolding body Whole is_block every
  body_good at =
      good_after Whole (token s open_brace at) _ λ o n.
      good_then Whole Whole (row s item_starts (body_item s) (record { statements = none; events = [] }) n) _
      (repeated_good Whole item_starts (body_item s) item_good (length s) (record { statements = none; events = [] }) n refl) λ i m h.
      good_after Whole (token s close_brace m) _ λ c j. h

  parameters_good : (opening closing at : ℕ) → Good AllNamed (parameters_in s opening closing at)
  unfolding parameters_in AllNamed every
  parameters_good opening closing at =
      by_cases (Good AllNamed) (next_in s (opening ∷ []) at) _ _
      (λ _. good_after AllNamed (token s opening at) _ λ o n.
      good_then AllNamed AllNamed (if_next s (closing ∷ []) (give []) (names s) n) _
      (by_cases (Good AllNamed) (next_in s (closing ∷ []) n) (give [] n) (names s n) (λ _. refl) (λ _. names_good n)) λ xs m h.
      good_after AllNamed (token s closing m) _ λ c i. h)
      (λ _. refl)

  Before : Precondition → Type 0
  Before p = is_precondition p ≡ true

  precondition_good : (at : ℕ) → Good Before (precondition s at)
  unfolding precondition is_precondition Before Cond
  precondition_good at =
      by_cases (Good Before) (next_in s (open_paren ∷ []) at) _ _
      (λ _. good_after Before (token s open_paren at) _ λ o n.
      good_then Cond Before (condition s max_levels n) _ (condition_good max_levels n) λ t m h.
      good_after Before (token s close_paren m) _ λ c i. h)
      (λ _. refl)

  function_good : (at : ℕ) → Good FunctionSorted (function s at)
  unfolding function Named AllNamed Before Whole
  function_good at =
      good_after FunctionSorted (place s at) _ λ p n.
      good_then Named FunctionSorted (state s n) _ (state_good n) λ q n1 hq.
      good_after FunctionSorted (name s n1) _ λ a n2.
      good_after FunctionSorted (token s colon n2) _ λ o n3.
      good_then Named FunctionSorted (name s n3) _ (name_good n3) λ f n4 hf.
      good_then AllNamed FunctionSorted (parameters_in s open_paren close_paren n4) _ (parameters_good open_paren close_paren n4) λ zs n5 hz.
      good_then AllNamed FunctionSorted (parameters_in s open_bracket close_bracket n5) _ (parameters_good open_bracket close_bracket n5) λ ys n6 hy.
      good_then Before FunctionSorted (precondition s n6) _ (precondition_good n6) λ t n7 ht.
      good_then Whole FunctionSorted (body s n7) _ (body_good n7) λ i n8 hi.
      good_after FunctionSorted (token s state_arrow n8) _ λ d n9.
      good_then Named FunctionSorted (state s n9) _ (state_good n9) λ l m hl.
      record { state = hq; name = hf; values = hz; parameters = hy; precondition = ht; body = hi; last = hl }

  line_good : (k at : ℕ) → Good AllNamed (line s k at)
  unfolding line AllNamed every
  line_good k at =
      by_cases (Good AllNamed) (next_in s (k ∷ []) at) _ _
      (λ _. good_after AllNamed (token s k at) _ λ o n. names_good n)
      (λ _. refl)

  pub ending_good : {A : Type 0} (P : A → Type 0) (a : A) (at : ℕ) → P a → Good P (ending s a at)
  unfolding ending
  ending_good P a at h = go (token_at s at)
    where
      go : (l : Lexed) → Good P (ends_on s a at l)
      go (Found t) = unfit_good P (Found t)
      go (Refused q p) = unfit_good P (Refused q p)
      go End = h

  contract_good : (at : ℕ) → Good SyntaxSorted (contract s at)
  unfolding contract Named AllNamed
  contract_good at =
      good_after SyntaxSorted (token s legal_contract at) _ λ _ a1.
      good_then Named SyntaxSorted (name s a1) _ (name_good a1) λ n a2 hn.
      good_after SyntaxSorted (token s open_brace a2) _ λ _ a3.
      good_then AllNamed SyntaxSorted (line s assetsWord a3) _ (line_good assetsWord a3) λ hs a4 hh.
      good_then AllNamed SyntaxSorted (line s fieldsWord a4) _ (line_good fieldsWord a4) λ xs a5 hx.
      good_after SyntaxSorted (token s agreementWord a5) _ λ _ a6.
      good_after SyntaxSorted (token s open_paren a6) _ λ _ a7.
      good_then AllNamed SyntaxSorted (names s a7) _ (names_good a7) λ ps a8 hp.
      good_after SyntaxSorted (token s close_paren a8) _ λ _ a9.
      good_after SyntaxSorted (token s open_brace a9) _ λ _ a10.
      good_after SyntaxSorted (row s (nameKind ∷ []) _ [] a10) _ λ cs a11.
      good_after SyntaxSorted (place s a11) _ λ p a12.
      good_after SyntaxSorted (token s close_brace a12) _ λ _ a13.
      good_after SyntaxSorted (token s state_arrow a13) _ λ _ a14.
      good_then Named SyntaxSorted (state s a14) _ (state_good a14) λ q a15 hq.
      good_then (Each FunctionSorted) SyntaxSorted (row s (at_sign ∷ []) _ [] a15) _
      (repeated_good (Each FunctionSorted) (at_sign ∷ []) _
      (λ fs m h. good_then FunctionSorted (Each FunctionSorted) (function s m) _ (function_good m) λ f i g. each_append FunctionSorted fs f h g)
      (length s) [] a15 tt) λ fs a16 hf.
      good_after SyntaxSorted (token s close_brace a16) _ λ _ a17.
      ending_good SyntaxSorted _ a17 (record { name = hn; assets = hh; fields = hx; parties = hp; initial = hq; functions = hf })

  -- the tree of a text is well sorted
  pub parse_sorted : (c : Syntax) (n : ℕ) → parse s ≡ done c n → SyntaxSorted c
  parse_sorted c n e = subst (Good SyntaxSorted) e (contract_good 0)
