-- A text is refused by question 1, 2 or one of 5 to 15, at a place within it. Assumes nothing.
use mathlib.Core.Path.{◌≡◌, refl, subst}
use mathlib.Core.Bool.{Bool, true, ◌&&◌, ◌||◌, not}
use mathlib.Core.List.{List, [], ◌∷◌, ◌++◌}
use Prim.Native.Nat.{ℕ, zero, suc, ◌<◌, ◌≤◌}
use native.Mathlib.Omega.{arith}
use lib.ListN.{length}
use lib.Dec.{eqb, leb, ltb}
use borrow.Author.Tests.{le-leb, leb-true}
use Rattle.laws.specs.Choice.{pick}
use Rattle.laws.specs.Lists.{every}
use Rattle.laws.proofs.Choice.{by_cases}
use Rattle.laws.proofs.Members.{every_append}
use Rattle.laws.proofs.Truths.{both_left, both_right, both_true, second_true}
use Rattle.words.specs.Words.{legal_contract, assets as assetsWord, fields as fieldsWord, agreement as agreementWord, true_word, false_word, set_arrow, ok_arrow, value_arrow, asset_arrow, state_arrow, event_mark, open_paren, close_paren, open_brace, close_brace, open_bracket, close_bracket, comma, colon, at_sign, underscore, not_mark}
use Rattle.tokens.specs.Tokens.{token_at, name as nameKind, number as numberKind, string as string_kind}
use Rattle.tokens.specs.declared.Token.{Token}
use Rattle.tokens.specs.declared.Lexed.{Lexed}
use Rattle.tokens.specs.declared.Lexed.TheVariants.{Found, Refused, End}
use Rattle.tokens.proofs.Facts.{progress, refused_place}
use Rattle.contract.specs.Limits.{max_functions}
use Rattle.contract.specs.Table.{table_length}
use Rattle.contract.specs.Check.{ranges}
use Rattle.reading.specs.Syntax.{Span, Term, named, numeral, quoted, fixed, negated, operated, Action, sends, moves, Block, none, perform, conditional, Event, Body, Precondition, Function, Clause, Syntax}
use Rattle.reading.specs.Grammar.{Parsed, done, no, Parser, and_then, give, on_found, is_one_of, operators, comparisons, leaves, leaf_of, item_starts, negated_at, max_levels, unfit, misfit, next_in, if_next, token_in, token, place, repeated, row, name, names, state, chain, enclosed, factor, sum}
use Rattle.reading.specs.Grammar.{inside_expression, expression, comparison, simple, primary, choice, inside_condition, condition, whole_move, asset_move, action, statement, braces, conditional_after, event, before_events, body_item, body, parameters_in, precondition, function, verb, clause, line, ends_on, ending}
use Rattle.reading.specs.Grammar.{contract, parse}
use Rattle.reading.specs.Items.{Item, declares, mentions, uses, counts, opens, heads, closes, Site, in_function, in_handler, of_each, declared, name_items, term_items, action_items, block_items, event_items, precondition_items, function_items, clause_items, items}
use Rattle.reading.specs.Items as kind
use Rattle.reading.specs.Rules.{Finding, fine, breaks, lesser, or_breaks, most, word, known, headers, header, is_known, is_header_among, judge, judged}
use Rattle.reading.specs.Reading.{max_text, Reading, accepted, refused, ruled, parsed, read_text}
use Rattle.reading.proofs.TokenKinds.{Each}
use Rattle.accepted.proofs.TokenBytes.{refused_kind}
use Rattle.accepted.proofs.Sorted.{each_append}

module _ (s : List ℕ) where
  -- a place within the text
  abbrev in_text : ℕ → Bool
  in_text p = leb p (length s)

  -- the places at which an item's questions refuse
  unfoldable item_in : Item → Bool
  item_in (declares k x) = in_text x.start
  item_in (mentions k x p) = in_text p
  item_in (uses ks x) = in_text x.start
  item_in (counts k p) = in_text p
  item_in opens = true
  item_in (heads p q a f) = in_text p && in_text f.start
  item_in (closes p cs) = in_text p

  abbrev AllIn : List Item → Type 0
  AllIn is = every item_in is ≡ true

  -- ---- what a parser reads, or where it refuses

  abbrev Within : {A : Type 0} → (A → Type 0) → Parsed A → Type 0
  Within P (done a n) = P a
  Within P (no q p) = (5 ≤ q) × (q ≤ 10) × (p ≤ length s)

  abbrev Any : {A : Type 0} → A → Type 0
  Any a = Unit {0}

  within_then : {A B : Type 0} (P : A → Type 0) (Q : B → Type 0) (r : Parsed A) (f : A → Parser B) → Within P r → ((a : A) (n : ℕ) → P a → Within Q (f a n)) → Within Q (and_then r f)
  within_then P Q (done a n) f g h = h a n g
  within_then P Q (no q p) f g h = g

  abbrev PlaceIn : ℕ → Type 0
  PlaceIn p = in_text p ≡ true

  abbrev TokenIn : Token → Type 0
  TokenIn t = in_text t.start ≡ true

  abbrev SpanIn : Span → Type 0
  SpanIn x = in_text x.start ≡ true

  start_in : (at : ℕ) (t : Token) → token_at s at ≡ Found t → t.start ≤ length s
  start_in at t e = let p = progress s at t e in let a : t.start < t.end = p.1 in let b : t.end ≤ length s = p.2 in omega arith

  unfit_at : {A : Type 0} (P : A → Type 0) (at : ℕ) (l : Lexed) → token_at s at ≡ l → Within P (unfit s l)
  unfolding unfit
  unfit_at P at (Found t) e = let a : t.start ≤ length s = start_in at t e in (omega arith, omega arith, a)
  unfit_at P at (Refused q p) e =
      let k = refused_kind s at q p e in
      let a : 5 ≤ q = k.0 in
      let b : q ≤ 8 = k.1 in
      let c : p < length s = (refused_place s at q p e).1 in
      (a, omega arith, omega arith)
  unfit_at P at End e = (omega arith, omega arith, omega arith)

  misfit_within : {A : Type 0} (P : A → Type 0) (at : ℕ) → Within P (misfit s at)
  misfit_within P at = unfit_at P at (token_at s at) refl

  token_within : (ks : List ℕ) (at : ℕ) → Within TokenIn (token_in s ks at)
  unfolding token_in
  token_within ks at = go (token_at s at) refl
    where
      go : (l : Lexed) → token_at s at ≡ l → Within TokenIn (on_found l (λ t. pick (is_one_of ks t.kind) (done t t.end) (misfit s at)) (misfit s at))
      go (Found t) e = by_cases (Within TokenIn) (is_one_of ks t.kind) _ _ (λ _. le-leb _ _ (start_in at t e)) (λ _. misfit_within TokenIn at)
      go (Refused q p) e = misfit_within TokenIn at
      go End e = misfit_within TokenIn at

  -- a token, then the rest
  after_token : {B : Type 0} (Q : B → Type 0) (ks : List ℕ) (at : ℕ) (f : Token → Parser B) → ((t : Token) (n : ℕ) → TokenIn t → Within Q (f t n)) → Within Q (and_then (token_in s ks at) f)
  after_token Q ks at f h = within_then TokenIn Q (token_in s ks at) f (token_within ks at) h

  place_within : (at : ℕ) → Within PlaceIn (place s at)
  unfolding place
  place_within at = go (token_at s at) refl
    where
      go : (l : Lexed) → token_at s at ≡ l → PlaceIn (on_found l (λ t. t.start) (length s))
      go (Found t) e = le-leb _ _ (start_in at t e)
      go (Refused q p) e = le-leb (length s) (length s) (omega arith)
      go End e = le-leb (length s) (length s) (omega arith)

  repeated_within : {A : Type 0} (P : A → Type 0) (starts : List ℕ) (part : A → Parser A) → ((a : A) (at : ℕ) → P a → Within P (part a at)) → (f : ℕ) (a : A) (at : ℕ) → P a → Within P (repeated s starts part f a at)
  unfolding repeated
  repeated_within P starts part h zero a at g = g
  repeated_within P starts part h (suc f) a at g =
      by_cases (Within P) (next_in s starts at) _ _
      (λ _. within_then P P (part a at) (repeated s starts part f) (h a at g) (λ b n p. repeated_within P starts part h f b n p))
      (λ _. g)

  -- ---- names

  name_within : (at : ℕ) → Within SpanIn (name s at)
  unfolding name
  name_within at = after_token SpanIn (nameKind ∷ []) at _ λ t n o. o

  names_within : (at : ℕ) → Within (Each SpanIn) (names s at)
  unfolding names
  names_within at =
      within_then SpanIn (Each SpanIn) (name s at) _ (name_within at) λ x n h.
      repeated_within (Each SpanIn) (comma ∷ []) _
      (λ xs m g. after_token (Each SpanIn) (comma ∷ []) m _ λ t i _. within_then SpanIn (Each SpanIn) (name s i) _ (name_within i) λ y j k. each_append SpanIn xs y g k)
      (length s) (x ∷ []) n (h, tt)

  state_within : (at : ℕ) → Within SpanIn (state s at)
  unfolding state
  state_within at = after_token SpanIn (at_sign ∷ []) at _ λ t n _. name_within n

  -- ---- expressions

  abbrev TermIn : Term → Type 0
  TermIn t = (c : Site) → AllIn (term_items c t)

  chain_within : (r : ℕ) (operand : Parser Term) → ((at : ℕ) → Within TermIn (operand at)) → (at : ℕ) → Within TermIn (chain s r operand at)
  unfolding chain term_items every item_in
  chain_within r operand g at =
      within_then TermIn TermIn (operand at) _ (g at) λ t n h.
      repeated_within TermIn (operators r) _
      (λ l m k. after_token TermIn (operators r) m _ λ o i f.
      within_then TermIn TermIn (operand i) _ (g i) λ u e q c. every_append item_in (term_items c l) (counts kind.node o.start ∷ term_items c u) (k c) (both_true _ _ f (q c)))
      (length s) t n h

  -- inside a parenthesis that opened within the text
  abbrev Inside : (ℕ → Parser Term) → Type 0
  Inside inside = (p at : ℕ) → PlaceIn p → Within TermIn (inside p at)

  enclosed_within : (inside : ℕ → Parser Term) → Inside inside → (at : ℕ) → Within TermIn (enclosed s inside at)
  unfolding enclosed
  enclosed_within inside g at =
      after_token TermIn (open_paren ∷ []) at _ λ o n a.
      within_then TermIn TermIn (inside o.start n) _ (g o.start n a) λ t m h.
      after_token TermIn (close_paren ∷ []) m _ λ c i _. h

  leaf_in : (t : Token) → TokenIn t → TermIn (leaf_of t)
  unfolding leaf_of term_items every item_in
  leaf_in t o =
      by_cases TermIn (eqb t.kind nameKind) _ _ (λ _ c. both_true _ _ o (both_true _ _ o refl))
      (λ _. by_cases TermIn (eqb t.kind numberKind) _ _ (λ _ c. both_true _ _ o refl)
      (λ _. by_cases TermIn (eqb t.kind string_kind) _ _ (λ _ c. both_true _ _ o (both_true _ _ o refl)) (λ _ c. both_true _ _ o refl)))

  factor_within : (inside : ℕ → Parser Term) → Inside inside → (at : ℕ) → Within TermIn (factor s inside at)
  unfolding factor
  factor_within inside g at =
      by_cases (Within TermIn) (next_in s (open_paren ∷ []) at) _ _ (λ _. enclosed_within inside g at)
      (λ _. after_token TermIn leaves at _ λ t n o. leaf_in t o)

  sum_within : (inside : ℕ → Parser Term) → Inside inside → (at : ℕ) → Within TermIn (sum s inside at)
  sum_within inside g = chain_within 2 _ (chain_within 3 _ (factor_within inside g))

  -- question 10
  levels_within : {A : Type 0} (P : A → Type 0) (p : ℕ) → PlaceIn p → Within P (no 10 p)
  levels_within P p h = (omega arith, omega arith, leb-true p (length s) h)

  inside_within : (n : ℕ) → Inside (inside_expression s n)
  unfolding inside_expression
  inside_within zero p at h = levels_within TermIn p h
  inside_within (suc n) p at h = sum_within (inside_expression s n) (inside_within n) at

  expression_within_lem : (n at : ℕ) → Within TermIn (expression s n at)
  expression_within_lem n = sum_within (inside_expression s n) (inside_within n)

  -- ---- conditions

  comparison_within : (n at : ℕ) → Within TermIn (comparison s n at)
  unfolding comparison term_items every item_in
  comparison_within n at =
      within_then TermIn TermIn (expression s n at) _ (expression_within_lem n at) λ t m g.
      after_token TermIn comparisons m _ λ o i f.
      within_then TermIn TermIn (expression s n i) _ (expression_within_lem n i) λ u j h c.
      every_append item_in (term_items c t) (counts kind.node o.start ∷ term_items c u) (g c) (both_true _ _ f (h c))

  simple_within : (n : ℕ) (inside : ℕ → Parser Term) → Inside inside → (at : ℕ) → Within TermIn (simple s n inside at)
  unfolding simple term_items every item_in
  simple_within n inside g at =
      by_cases (Within TermIn) (next_in s (open_paren ∷ []) at) _ _ (λ _. enclosed_within inside g at)
      (λ _. by_cases (Within TermIn) (next_in s (true_word ∷ false_word ∷ []) at) _ _
      (λ _. after_token TermIn (true_word ∷ false_word ∷ []) at _ λ t m o c. both_true _ _ o refl)
      (λ _. comparison_within n at))

  negated_in : (ps : List ℕ) (t : Term) → Each PlaceIn ps → TermIn t → TermIn (negated_at ps t)
  unfolding negated_at term_items every item_in
  negated_in [] t g h = h
  negated_in (p ∷ ps) t g h = negated_in ps (negated p t) g.1 (λ c. both_true _ _ g.0 (h c))

  primary_within : (n : ℕ) (inside : ℕ → Parser Term) → Inside inside → (at : ℕ) → Within TermIn (primary s n inside at)
  unfolding primary
  primary_within n inside g at =
      within_then (Each PlaceIn) TermIn (row s (not_mark ∷ []) _ [] at) _
      (repeated_within (Each PlaceIn) (not_mark ∷ []) _ (λ ps m h. after_token (Each PlaceIn) (not_mark ∷ []) m _ λ o i f. (f, h)) (length s) [] at tt) λ ps m h.
      within_then TermIn TermIn (simple s n inside m) _ (simple_within n inside g m) λ t i f. negated_in ps t h f

  choice_within : (n : ℕ) (inside : ℕ → Parser Term) → Inside inside → (at : ℕ) → Within TermIn (choice s n inside at)
  choice_within n inside g = chain_within 0 _ (chain_within 1 _ (primary_within n inside g))

  insides_within : (n : ℕ) → Inside (inside_condition s n)
  unfolding inside_condition
  insides_within zero p at h = levels_within TermIn p h
  insides_within (suc n) p at h = choice_within n (inside_condition s n) (insides_within n) at

  condition_within_lem : (n at : ℕ) → Within TermIn (condition s n at)
  condition_within_lem n = choice_within n (inside_condition s n) (insides_within n)

  -- ---- statements

  -- after a first token within the text
  abbrev ActionIn : Action → Type 0
  ActionIn a = (c : Site) (p : ℕ) → PlaceIn p → AllIn (action_items c p a)

  abbrev BlockIn : Block → Type 0
  BlockIn b = (c : Site) → AllIn (block_items c b)

  whole_within : (e : Term) (t : Span) → TermIn e → SpanIn t → (at : ℕ) → Within ActionIn (whole_move s e t at)
  unfolding whole_move action_items term_items every item_in
  whole_within (named h) t g f at =
      let o = both_left (in_text h.start) (in_text h.start && true) (g in_function) in
      λ c p a. both_true _ _ a (both_true _ _ o (both_true _ _ o (both_true _ _ a (both_true _ _ f (both_true _ _ o (both_true _ _ f refl))))))
  whole_within (numeral v p) t g f at = misfit_within ActionIn at
  whole_within (quoted x p) t g f at = misfit_within ActionIn at
  whole_within (fixed k p) t g f at = misfit_within ActionIn at
  whole_within (negated p e) t g f at = misfit_within ActionIn at
  whole_within (operated k p e u) t g f at = misfit_within ActionIn at

  sends_in : (e : Term) (t : Span) → TermIn e → SpanIn t → ActionIn (sends e t)
  unfolding action_items every item_in
  sends_in e t g f c p a = both_true _ _ a (every_append item_in (term_items c e) (counts kind.statement p ∷ name_items (kind.party ∷ kind.field ∷ []) t) (g c) (both_true _ _ a (both_true _ _ f (both_true _ _ f refl))))

  moves_in : (e : Term) (h t : Span) → TermIn e → SpanIn h → SpanIn t → ActionIn (moves e h t)
  unfolding action_items every item_in
  moves_in e h t g o f c p a =
      both_true _ _ a (every_append item_in (term_items c e) (counts kind.statement p ∷ (name_items (kind.asset_kinds c) h ++ name_items (kind.party ∷ kind.asset_kinds c) t)) (g c)
      (both_true _ _ a (both_true _ _ o (both_true _ _ o (both_true _ _ f (both_true _ _ f refl))))))

  action_within : (e : Term) → TermIn e → (at : ℕ) → Within ActionIn (action s e at)
  unfolding action asset_move
  action_within e h at =
      by_cases (Within ActionIn) (next_in s (value_arrow ∷ []) at) _ _
      (λ _. after_token ActionIn (value_arrow ∷ []) at _ λ o n _. within_then SpanIn ActionIn (name s n) _ (name_within n) λ t m f. sends_in e t h f)
      (λ _. after_token ActionIn (asset_arrow ∷ []) at _ λ o n _. within_then SpanIn ActionIn (name s n) _ (name_within n) λ x m g.
      by_cases (Within ActionIn) (next_in s (comma ∷ []) m) _ _
      (λ _. after_token ActionIn (comma ∷ []) m _ λ c i _. within_then SpanIn ActionIn (name s i) _ (name_within i) λ t j f. moves_in e x t h g f)
      (λ _. whole_within e x h g m))

  performed_in : (b : Block) (p : ℕ) (a : Action) → BlockIn b → PlaceIn p → ActionIn a → BlockIn (perform b p a)
  unfolding block_items
  performed_in b p a h o g c = every_append item_in (block_items c b) (action_items c p a) (h c) (g c p o)

  statement_within : (n : ℕ) (test : Block → Parser Block) → ((b : Block) (at : ℕ) → BlockIn b → Within BlockIn (test b at)) → (b : Block) (at : ℕ) → BlockIn b → Within BlockIn (statement s n test b at)
  unfolding statement
  statement_within n test g b at h =
      by_cases (Within BlockIn) (next_in s (open_paren ∷ []) at) _ _ (λ _. g b at h)
      (λ _. within_then PlaceIn BlockIn (place s at) _ (place_within at) λ p m o.
      within_then TermIn BlockIn (expression s n m) _ (expression_within_lem n m) λ e i f.
      within_then ActionIn BlockIn (action s e i) _ (action_within e f i) λ a j k. performed_in b p a h o k)

  none_in : BlockIn none
  unfolding block_items every
  none_in c = refl

  braces_within : (n : ℕ) (test : Block → Parser Block) → ((b : Block) (at : ℕ) → BlockIn b → Within BlockIn (test b at)) → (at : ℕ) → Within BlockIn (braces s n test at)
  unfolding braces
  braces_within n test g at =
      after_token BlockIn (open_brace ∷ []) at _ λ o m _.
      within_then BlockIn BlockIn (row s item_starts (statement s n test) none m) _
      (repeated_within BlockIn item_starts (statement s n test) (statement_within n test g) (length s) none m none_in) λ b i h.
      after_token BlockIn (close_brace ∷ []) i _ λ c j _. h

  conditional_in : (b : Block) (p : ℕ) (t : Term) (i : Block) → BlockIn b → PlaceIn p → TermIn t → BlockIn i → BlockIn (conditional b p t i)
  unfolding block_items every item_in
  conditional_in b p t i h o f g c =
      every_append item_in (block_items c b) (counts kind.node p ∷ counts kind.statement p ∷ (term_items c t ++ block_items c i)) (h c)
      (both_true _ _ o (both_true _ _ o (every_append item_in (term_items c t) (block_items c i) (f c) (g c))))

  conditional_within : (n : ℕ) (b : Block) (at : ℕ) → BlockIn b → Within BlockIn (conditional_after s n b at)
  unfolding conditional_after
  conditional_within zero b at h = within_then PlaceIn BlockIn (place s at) _ (place_within at) λ p m o. levels_within BlockIn p o
  conditional_within (suc n) b at h =
      after_token BlockIn (open_paren ∷ []) at _ λ o m a.
      within_then TermIn BlockIn (condition s n m) _ (condition_within_lem n m) λ t i f.
      after_token BlockIn (close_paren ∷ []) i _ λ c j _.
      within_then BlockIn BlockIn (braces s n (conditional_after s n) j) _ (braces_within n (conditional_after s n) (conditional_within n) j) λ x k g.
      conditional_in b o.start t x h a f g

  -- ---- functions

  abbrev EventIn : Event → Type 0
  EventIn w = AllIn (event_items w)

  event_within : (p : ℕ) (e : Term) → PlaceIn p → TermIn e → (at : ℕ) → Within EventIn (event s p e at)
  unfolding event event_items every item_in
  event_within p e o h at =
      after_token EventIn (event_mark ∷ []) at _ λ _ n _.
      within_then SpanIn EventIn (state s n) _ (state_within n) λ q m a.
      within_then BlockIn EventIn (braces s max_levels (conditional_after s max_levels) m) _ (braces_within max_levels (conditional_after s max_levels) (conditional_within max_levels) m) λ b i c.
      after_token EventIn (state_arrow ∷ []) i _ λ _ j _.
      within_then SpanIn EventIn (state s j) _ (state_within j) λ l k f.
      both_true _ _ o (every_append item_in (term_items in_function e) _ (h in_function)
      (both_true _ _ o (both_true _ _ a (every_append item_in (block_items in_handler b) _ (c in_handler) (both_true _ _ f refl)))))

  abbrev BodyIn : Body → Type 0
  BodyIn i = BlockIn i.statements × Each EventIn i.events

  before_within : {A : Type 0} (P : A → Type 0) (ws : List Event) (m : Parser A) (at : ℕ) → Within P (m at) → Within P (before_events s ws m at)
  unfolding before_events
  before_within P [] m at g = g
  before_within P (w ∷ ws) m at g = misfit_within P at

  item_within : (i : Body) (at : ℕ) → BodyIn i → Within BodyIn (body_item s i at)
  unfolding body_item
  item_within i at h =
      by_cases (Within BodyIn) (next_in s (open_paren ∷ []) at) _ _
      (λ _. before_within BodyIn i.events _ at
      (within_then BlockIn BodyIn (conditional_after s max_levels i.statements at) _ (conditional_within max_levels i.statements at h.0) λ c n f. (f, h.1)))
      (λ _. within_then PlaceIn BodyIn (place s at) _ (place_within at) λ p n o.
      within_then TermIn BodyIn (expression s max_levels n) _ (expression_within_lem max_levels n) λ e m f.
      by_cases (Within BodyIn) (next_in s (event_mark ∷ []) m) _ _
      (λ _. within_then EventIn BodyIn (event s p e m) _ (event_within p e o f m) λ v j g. (h.0, each_append EventIn i.events v h.1 g))
      (λ _. before_within BodyIn i.events _ m
      (within_then ActionIn BodyIn (action s e m) _ (action_within e f m) λ a j g. (performed_in i.statements p a h.0 o g, h.1))))

  body_within : (at : ℕ) → Within BodyIn (body s at)
  unfolding body
  body_within at =
      after_token BodyIn (open_brace ∷ []) at _ λ o n _.
      within_then BodyIn BodyIn (row s item_starts (body_item s) (record { statements = none; events = [] }) n) _
      (repeated_within BodyIn item_starts (body_item s) item_within (length s) (record { statements = none; events = [] }) n (none_in, tt)) λ i m h.
      after_token BodyIn (close_brace ∷ []) m _ λ c j _. h

  parameters_within : (opening closing at : ℕ) → Within (Each SpanIn) (parameters_in s opening closing at)
  unfolding parameters_in
  parameters_within opening closing at =
      by_cases (Within (Each SpanIn)) (next_in s (opening ∷ []) at) _ _
      (λ _. after_token (Each SpanIn) (opening ∷ []) at _ λ o n _.
      within_then (Each SpanIn) (Each SpanIn) (if_next s (closing ∷ []) (give []) (names s) n) _
      (by_cases (Within (Each SpanIn)) (next_in s (closing ∷ []) n) (give [] n) (names s n) (λ _. tt) (λ _. names_within n)) λ xs m h.
      after_token (Each SpanIn) (closing ∷ []) m _ λ c i _. h)
      (λ _. tt)

  abbrev PreconditionIn : Precondition → Type 0
  PreconditionIn t = AllIn (precondition_items t)

  precondition_within : (at : ℕ) → Within PreconditionIn (precondition s at)
  unfolding precondition precondition_items every
  precondition_within at =
      by_cases (Within PreconditionIn) (next_in s (open_paren ∷ []) at) _ _
      (λ _. after_token PreconditionIn (open_paren ∷ []) at _ λ o n _.
      within_then TermIn PreconditionIn (condition s max_levels n) _ (condition_within_lem max_levels n) λ t m h.
      after_token PreconditionIn (close_paren ∷ []) m _ λ c i _. h in_function)
      (λ _. refl)

  -- the items of each of a list
  each_in : {A : Type 0} (P : A → Type 0) (f : A → List Item) → ((x : A) → P x → AllIn (f x)) → (xs : List A) → Each P xs → AllIn (of_each f xs)
  unfolding of_each every
  each_in P f h [] e = refl
  each_in P f h (x ∷ xs) e = every_append item_in (f x) (of_each f xs) (h x e.0) (each_in P f h xs e.1)

  declared_in : (k : ℕ) (xs : List Span) → Each SpanIn xs → AllIn (declared k xs)
  unfolding every item_in
  declared_in k = each_in SpanIn (λ x. declares k x ∷ []) (λ x o. both_true _ _ o refl)

  abbrev FunctionIn : Function → Type 0
  FunctionIn f = AllIn (function_items f)

  function_within : (at : ℕ) → Within FunctionIn (function s at)
  unfolding function function_items every item_in
  function_within at =
      within_then PlaceIn FunctionIn (place s at) _ (place_within at) λ p n hp.
      within_then SpanIn FunctionIn (state s n) _ (state_within n) λ q n1 hq.
      within_then SpanIn FunctionIn (name s n1) _ (name_within n1) λ a n2 ha.
      after_token FunctionIn (colon ∷ []) n2 _ λ o n3 _.
      within_then SpanIn FunctionIn (name s n3) _ (name_within n3) λ f n4 hf.
      within_then (Each SpanIn) FunctionIn (parameters_in s open_paren close_paren n4) _ (parameters_within open_paren close_paren n4) λ zs n5 hz.
      within_then (Each SpanIn) FunctionIn (parameters_in s open_bracket close_bracket n5) _ (parameters_within open_bracket close_bracket n5) λ ys n6 hy.
      within_then PreconditionIn FunctionIn (precondition s n6) _ (precondition_within n6) λ t n7 ht.
      within_then BodyIn FunctionIn (body s n7) _ (body_within n7) λ i n8 hi.
      after_token FunctionIn (state_arrow ∷ []) n8 _ λ d n9 _.
      within_then SpanIn FunctionIn (state s n9) _ (state_within n9) λ l m hl.
      both_true _ _ hq (both_true _ _ ha (both_true _ _ (both_true _ _ hp hf)
      (every_append item_in (declared kind.value zs) _ (declared_in kind.value zs hz)
      (every_append item_in (declared kind.parameter ys) _ (declared_in kind.parameter ys hy)
      (every_append item_in (precondition_items t) _ ht
      (every_append item_in (block_items in_function i.statements) _ (hi.0 in_function)
      (every_append item_in (of_each event_items i.events) _ (each_in EventIn event_items (λ w e. e) i.events hi.1) (both_true _ _ hl refl))))))))

  -- ---- the contract

  abbrev ClauseIn : Clause → Type 0
  ClauseIn k = AllIn (clause_items k)

  verb_within : (at : ℕ) → Within Any (verb s at)
  unfolding verb
  verb_within at =
      by_cases (Within Any) (next_in s (set_arrow ∷ []) at) _ _ (λ _. after_token Any (set_arrow ∷ []) at _ λ t n _. tt) (λ _. after_token Any (ok_arrow ∷ []) at _ λ t n _. tt)

  -- `_` in place of names
  abbrev unnamed : Parser (List Span)
  unnamed at = and_then (token s underscore at) (λ t. give [])

  clause_within : (at : ℕ) → Within ClauseIn (clause s at)
  unfolding clause clause_items every item_in
  clause_within at =
      within_then SpanIn ClauseIn (name s at) _ (name_within at) λ a n h.
      within_then Any ClauseIn (verb s n) _ (verb_within n) λ v m _.
      within_then (Each SpanIn) ClauseIn (if_next s (underscore ∷ []) unnamed (names s) m) _
      (by_cases (Within (Each SpanIn)) (next_in s (underscore ∷ []) m) (unnamed m) (names s m) (λ _. after_token (Each SpanIn) (underscore ∷ []) m _ λ t i _. tt) (λ _. names_within m)) λ xs i g.
      both_true _ _ h (each_in SpanIn (λ x. uses (kind.field ∷ []) x ∷ []) (λ x o. both_true _ _ o refl) xs g)

  line_within : (k at : ℕ) → Within (Each SpanIn) (line s k at)
  unfolding line
  line_within k at =
      by_cases (Within (Each SpanIn)) (next_in s (k ∷ []) at) _ _ (λ _. after_token (Each SpanIn) (k ∷ []) at _ λ o n _. names_within n) (λ _. tt)

  ending_within : {A : Type 0} (P : A → Type 0) (a : A) (at : ℕ) → P a → Within P (ending s a at)
  unfolding ending
  ending_within P a at h = go (token_at s at) refl
    where
      go : (l : Lexed) → token_at s at ≡ l → Within P (ends_on s a at l)
      go (Found t) e = unfit_at P at (Found t) e
      go (Refused q p) e = unfit_at P at (Refused q p) e
      go End e = h

  abbrev SyntaxIn : Syntax → Type 0
  SyntaxIn c = AllIn (items c)

  contract_within : (at : ℕ) → Within SyntaxIn (contract s at)
  unfolding contract items every item_in
  contract_within at =
      after_token SyntaxIn (legal_contract ∷ []) at _ λ _ a1 _.
      within_then SpanIn SyntaxIn (name s a1) _ (name_within a1) λ n a2 hn.
      after_token SyntaxIn (open_brace ∷ []) a2 _ λ _ a3 _.
      within_then (Each SpanIn) SyntaxIn (line s assetsWord a3) _ (line_within assetsWord a3) λ hs a4 hh.
      within_then (Each SpanIn) SyntaxIn (line s fieldsWord a4) _ (line_within fieldsWord a4) λ xs a5 hx.
      after_token SyntaxIn (agreementWord ∷ []) a5 _ λ _ a6 _.
      after_token SyntaxIn (open_paren ∷ []) a6 _ λ _ a7 _.
      within_then (Each SpanIn) SyntaxIn (names s a7) _ (names_within a7) λ ps a8 hp.
      after_token SyntaxIn (close_paren ∷ []) a8 _ λ _ a9 _.
      after_token SyntaxIn (open_brace ∷ []) a9 _ λ _ a10 _.
      within_then (Each ClauseIn) SyntaxIn (row s (nameKind ∷ []) _ [] a10) _
      (repeated_within (Each ClauseIn) (nameKind ∷ []) _
      (λ ks m h. within_then ClauseIn (Each ClauseIn) (clause s m) _ (clause_within m) λ k i g. each_append ClauseIn ks k h g)
      (length s) [] a10 tt) λ cs a11 hc.
      within_then PlaceIn SyntaxIn (place s a11) _ (place_within a11) λ p a12 o.
      after_token SyntaxIn (close_brace ∷ []) a12 _ λ _ a13 _.
      after_token SyntaxIn (state_arrow ∷ []) a13 _ λ _ a14 _.
      within_then SpanIn SyntaxIn (state s a14) _ (state_within a14) λ q a15 hq.
      within_then (Each FunctionIn) SyntaxIn (row s (at_sign ∷ []) _ [] a15) _
      (repeated_within (Each FunctionIn) (at_sign ∷ []) _
      (λ fs m h. within_then FunctionIn (Each FunctionIn) (function s m) _ (function_within m) λ f i g. each_append FunctionIn fs f h g)
      (length s) [] a15 tt) λ fs a16 hf.
      after_token SyntaxIn (close_brace ∷ []) a16 _ λ _ a17 _.
      ending_within SyntaxIn _ a17
      (every_append item_in (declared kind.asset hs) _ (declared_in kind.asset hs hh)
      (every_append item_in (declared kind.field xs) _ (declared_in kind.field xs hx)
      (every_append item_in (declared kind.party ps) _ (declared_in kind.party ps hp)
      (every_append item_in (of_each clause_items cs) _ (each_in ClauseIn clause_items (λ k e. e) cs hc)
      (both_true _ _ o (both_true _ _ hq (each_in FunctionIn function_items (λ f e. e) fs hf)))))))

  -- ---- findings

  abbrev FindingIn : Finding → Type 0
  FindingIn fine = Unit {0}
  FindingIn (breaks q p) = (11 ≤ q) × (q ≤ 15) × (p ≤ length s)

  breaks_in : (b : Bool) (q p : ℕ) → 11 ≤ q → q ≤ 15 → PlaceIn p → FindingIn (or_breaks b q p)
  breaks_in b q p l m h = by_cases FindingIn b _ _ (λ _. tt) (λ _. (l, m, leb-true p (length s) h))

  lesser_in : (f g : Finding) → FindingIn f → FindingIn g → FindingIn (lesser f g)
  lesser_in fine g h k = k
  lesser_in (breaks q p) fine h k = h
  lesser_in (breaks q p) (breaks r o) h k = by_cases FindingIn (ltb p o || (eqb p o && leb q r)) (breaks q p) (breaks r o) (λ _. h) (λ _. k)

  -- 11 at one place, or another question
  either_in : (a b : Bool) (q p o : ℕ) → 11 ≤ q → q ≤ 15 → PlaceIn p → PlaceIn o → FindingIn (lesser (or_breaks a 11 p) (or_breaks b q o))
  either_in a b q p o l m h k = lesser_in (or_breaks a 11 p) (or_breaks b q o) (breaks_in a 11 p (omega arith) (omega arith) h) (breaks_in b q o l m k)

  judge_in : (b : List Item) (i : Item) → item_in i ≡ true → FindingIn (judge s b i)
  unfolding judge item_in
  judge_in b (declares k x) h =
      either_in (ltb (length (known s k b)) (most k)) (not (is_known s (kind.party ∷ kind.asset ∷ kind.field ∷ kind.value ∷ kind.parameter ∷ []) b (word s x))) 12 x.start x.start (omega arith) (omega arith) h h
  judge_in b (mentions k x p) h = breaks_in _ 11 p (omega arith) (omega arith) h
  judge_in b (uses ks x) h = breaks_in _ 13 x.start (omega arith) (omega arith) h
  judge_in b (counts k p) h = breaks_in _ 11 p (omega arith) (omega arith) h
  judge_in b opens h = tt
  judge_in b (heads p q a f) h =
      either_in (ltb (length (headers s b)) max_functions) (not (is_header_among (header s b q a f) (headers s b))) 15 p f.start (omega arith) (omega arith)
      (both_left (in_text p) (in_text f.start) h) (both_right (in_text p) (in_text f.start) h)
  judge_in b (closes p cs) h = breaks_in _ 14 p (omega arith) (omega arith) h

  judged_in : (b : List Item) (f : Finding) (is : List Item) → FindingIn f → AllIn is → FindingIn (judged s b f is)
  unfolding judged every
  judged_in b f [] h e = h
  judged_in b f (i ∷ is) h e =
      judged_in (i ∷ b) (lesser f (judge s b i)) is (lesser_in f (judge s b i) h (judge_in b i (both_left (item_in i) (every item_in is) e))) (both_right (item_in i) (every item_in is) e)

  -- ---- readings

  -- the numbers that refuse a text, as `text_refusal` of results says them
  abbrev RefusedIn : Reading → Type 0
  RefusedIn (accepted c) = Unit {0}
  RefusedIn (refused q p) = ((eqb q 1 || (eqb q 2 || ranges 5 q 15)) ≡ true) × (p ≤ length s)

  asked_in : (q p : ℕ) → 5 ≤ q → q ≤ 15 → p ≤ length s → RefusedIn (refused q p)
  unfolding ranges
  asked_in q p l m h = (second_true (eqb q 1) (second_true (eqb q 2) (both_true _ _ (le-leb 5 q l) (le-leb q 15 m))), h)

  ruled_in : (c : Syntax) (f : Finding) → FindingIn f → RefusedIn (ruled s c f)
  ruled_in c fine h = tt
  ruled_in c (breaks q p) h = let l : 11 ≤ q = h.0 in asked_in q p (omega arith) h.1 h.2

  parsed_in : (r : Parsed Syntax) → Within SyntaxIn r → RefusedIn (parsed s r)
  parsed_in (done c n) h = ruled_in c (judged s [] fine (items c)) (judged_in [] fine (items c) tt h)
  parsed_in (no q p) h = let m : q ≤ 10 = h.1 in asked_in q p h.0 (omega arith) h.2

  reading_in : (words : ℕ) → RefusedIn (read_text s words)
  unfolding read_text
  reading_in words =
      by_cases RefusedIn (leb (length s) max_text) _ _
      (λ _. by_cases RefusedIn (eqb words table_length) _ _ (λ _. parsed_in (parse s) (contract_within 0)) (λ _. (refl, omega arith)))
      (λ _. (refl, omega arith))

-- a text is refused by 1, 2 or one of 5 to 15, at a place within it: so its refusal is always printed
pub refused_within : (s : List ℕ) (words q p : ℕ) → read_text s words ≡ refused q p → ((eqb q 1 || (eqb q 2 || ranges 5 q 15)) ≡ true) × (p ≤ length s)
refused_within s words q p e = subst (RefusedIn s) e (reading_in s words)
