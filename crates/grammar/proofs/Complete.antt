-- What tokens derive, the grammar reads: the next token chooses each production. Assumes nothing.
use mathlib.Core.Path.{◌≡◌, refl, sym, ap, subst, ◌∙◌}
use mathlib.Core.Bool.{true, false}
use mathlib.Core.List.{List, [], ◌∷◌, ◌++◌, append_assoc}
use Prim.Native.Nat.{ℕ, zero, suc, ◌+◌, ◌-◌, ◌<◌, ◌≤◌}
use native.Mathlib.Omega.{arith}
use lib.ListN.{length}
use lib.Dec.{eqb}
use Rattle.laws.specs.Choice.{pick}
use Rattle.laws.proofs.Choice.{pick_true, pick_false}
use Rattle.words.specs.Words.{legal_contract, assets as assetsWord, fields as fieldsWord, agreement as agreementWord, now_word, true_word, false_word, set_arrow, ok_arrow, value_arrow, asset_arrow, state_arrow, event_mark, and_mark, or_mark, open_paren, close_paren, open_brace, close_brace, open_bracket, close_bracket, comma, colon, at_sign, underscore, plus_mark, minus_mark, times_mark, over_mark, not_mark}
use Rattle.tokens.specs.Tokens.{token_at, name as nameKind, number as numberKind, string as string_kind}
use Rattle.tokens.specs.declared.Token.{Token}
use Rattle.tokens.specs.declared.Lexed.{Lexed}
use Rattle.tokens.specs.declared.Lexed.TheVariants.{Found, End}
use Rattle.tokens.proofs.Facts.{progress}
use Rattle.contract.specs.Tree.{Verb}
use Rattle.laws.specs.Lists.{every}
use Rattle.reading.specs.Syntax.{Span, Term, named, numeral, quoted, fixed, operated, Action, Block, none, perform, Event, Body, Precondition, Function, Clause, Syntax}
use Rattle.reading.specs.Grammar.{Parsed, done, no, Parser, and_then, give, on_found, is_one_of, operators, item_starts, negated_at, leaf_of, max_levels, misfit, next_in, if_next, token_in, token, place, repeated, row, name, names, state, chain, factor, sum, inside_expression, expression, comparison, simple}
use Rattle.reading.specs.Grammar.{primary, choice, inside_condition, condition, whole_move, asset_move, action, statement, braces, conditional_after, event, before_events, body_item, body, parameters_in, precondition, function, verb, clause, line, ends_on, ending, contract, parse}
use Rattle.reading.specs.Grammar as reader
use Rattle.grammar.specs.Derivations.{Tokens, TokensOf, In, Is, Starts, StartsNot, start_of, span_of, Names, State, leaves, Chain, Factor, Product, Sum, InsideExpression, Expression, comparisons, Simple, Primary, Conjunction, Disjunction, InsideCondition, Condition, ActionOf, Braced, Guarded}
use Rattle.grammar.specs.Derivations.{Row, Conditional, Statements, EventOf, BodyOf, Parameters, PreconditionOf, Straight, FunctionOf, Each, VerbOf, Fields, ClauseOf, Line, Derives}
use Rattle.reading.proofs.TokenKinds.{apart, other, wider, kind_is}
use Rattle.grammar.proofs.Laws.{starts_append, starts_wider}
use Rattle.grammar.proofs.Sound.{next_found, place_at, place_first, place_token, state_starts}

then_done : {A B : Type 0} {a : A} {n : ℕ} {x : Parsed B} (r : Parsed A) (f : A → Parser B) → r ≡ done a n → f a n ≡ x → and_then r f ≡ x
then_done r f e h = ap (λ y. and_then y f) e ∙ h

module _ (s : List ℕ) where
  pub tokens_split : (at : ℕ) (ts us : List Token) (m : ℕ) → Tokens s at (ts ++ us) m → (n : ℕ) × Tokens s at ts n × Tokens s n us m
  tokens_split at [] us m h = (at, refl, h)
  tokens_split at (o ∷ ts) us m h = let y = tokens_split o.end ts us m h.1 in (y.0, (h.0, y.1), y.2)

  pub tokens_within : (at : ℕ) (o : Token) (ts : List Token) (m : ℕ) → Tokens s at (o ∷ ts) m → (at < m) × (m ≤ length s)
  tokens_within at o [] m h =
      let p = progress s at o h.0 in
      let q : o.end ≡ m = h.1 in
      let a : at ≤ o.start = p.0 in
      let b : o.start < o.end = p.1 in
      let c : o.end ≤ length s = p.2 in
      (omega arith, omega arith)
  tokens_within at o (u ∷ ts) m h =
      let p = progress s at o h.0 in
      let q = tokens_within o.end u ts m h.1 in
      let a : at ≤ o.start = p.0 in
      let b : o.start < o.end = p.1 in
      let c : o.end < m = q.0 in
      (omega arith, q.1)

  starts_within : (ks : List ℕ) (at : ℕ) (ts : List Token) (m : ℕ) → Starts ks ts → Tokens s at ts m → (at < m) × (m ≤ length s) × (next_in s ks at ≡ true)
  starts_within ks at [] m k h = absurd k
  starts_within ks at (o ∷ ts) m k h = let w = tokens_within at o ts m h in (w.0, w.1, next_found s ks at o h.0 ∙ k)

  token_done : (ks : List ℕ) (at : ℕ) (o : Token) → token_at s at ≡ Found o → In ks o → token_in s ks at ≡ done o o.end
  unfolding token_in
  token_done ks at o e k =
      ap (λ (l : Lexed). on_found l (λ t. pick (is_one_of ks t.kind) (done t t.end) (misfit s at)) (misfit s at)) e ∙ pick_true _ _ _ k

  name_done : (at : ℕ) (o : Token) → token_at s at ≡ Found o → Is nameKind o → name s at ≡ done (span_of o) o.end
  unfolding name
  name_done at o e k = then_done _ _ (token_done (nameKind ∷ []) at o e k) refl

  past : (ks js : List ℕ) (at : ℕ) (o : Token) → apart ks js ≡ true → token_at s at ≡ Found o → In js o → next_in s ks at ≡ false
  past ks js at o a e k = next_found s ks at o e ∙ other ks js o.kind a k

  starts_past : (ks js : List ℕ) (at : ℕ) (ts : List Token) (m : ℕ) → apart ks js ≡ true → Starts js ts → Tokens s at ts m → next_in s ks at ≡ false
  starts_past ks js at [] m a k h = absurd k
  starts_past ks js at (o ∷ ts) m a k h = past ks js at o a h.0 k

  -- ---- rows

  abbrev Reached : {A : Type 0} → List ℕ → (A → Parser A) → A → ℕ → A → ℕ → Type 0
  Reached starts part a at b m = (k : ℕ) × (k ≤ m) × (k ≤ length s) × ((f : ℕ) → repeated s starts part (k + f) a at ≡ repeated s starts part f b m)

  reach_none : {A : Type 0} (starts : List ℕ) (part : A → Parser A) (a : A) (at : ℕ) → Reached starts part a at a at
  reach_none starts part a at = (0, omega arith, omega arith, λ f. ap (λ (j : ℕ). repeated s starts part j a at) (zero_plus f))
    where
      zero_plus : (f : ℕ) → 0 + f ≡ f
      zero_plus f = omega arith

  reach_step :
      {A : Type 0} (starts : List ℕ) (part : A → Parser A) (a : A) (at : ℕ) (b c : A) (m n : ℕ) (us : List Token) → Reached starts part a at b m → Starts starts us
      → Tokens s m us n → part b m ≡ done c n → Reached starts part a at c n
  unfolding repeated
  reach_step starts part a at b c m n us r st h e =
      let w = starts_within starts m us n st h in
      let k = r.0 in
      let p : k ≤ m = r.1 in
      let l : m < n = w.0 in
      let u : n ≤ length s = w.1 in (
        suc k,
        omega arith,
        omega arith,
        λ f.
            ap (λ (j : ℕ). repeated s starts part j a at) (move k f) ∙ r.3 (suc f) ∙ pick_true _ _ _ w.2 ∙ ap (λ y. and_then y (repeated s starts part f)) e,
      )
    where
      move : (k f : ℕ) → suc k + f ≡ k + suc f
      move k f = omega arith

  repeated_over : {A : Type 0} (starts : List ℕ) (part : A → Parser A) (f : ℕ) (a : A) (at : ℕ) → next_in s starts at ≡ false → repeated s starts part f a at ≡ done a at
  unfolding repeated
  repeated_over starts part zero a at e = refl
  repeated_over starts part (suc f) a at e = pick_false _ _ _ e

  reach_end :
      {A : Type 0} (starts : List ℕ) (part : A → Parser A) (a : A) (at : ℕ) (b : A) (m : ℕ) → Reached starts part a at b m → next_in s starts m ≡ false
      → row s starts part a at ≡ done b m
  reach_end starts part a at b m r e =
      ap (λ (j : ℕ). repeated s starts part j a at) (rest r.0 (length s) r.2) ∙ r.3 (length s - r.0) ∙ repeated_over starts part (length s - r.0) b m e
    where
      rest : (k n : ℕ) → k ≤ n → n ≡ k + (n - k)
      rest k n h = omega arith

  -- ---- names

  abbrev names_part : List Span → Parser (List Span)
  names_part xs = reader.◌>>◌ (token s comma) (reader.◌>>=◌ (name s) (λ y. give (xs ++ (y ∷ []))))

  names_reach :
      (xs : List Span) (ts : List Token) (at m : ℕ) → Names xs ts → Tokens s at ts m
      → (o : Token) × (name s at ≡ done (span_of o) o.end) × Reached (comma ∷ []) names_part (span_of o ∷ []) o.end xs m
  names_reach xs ts at m (Names.one o k) h =
      (o, name_done at o h.0 k, subst (Reached (comma ∷ []) names_part (span_of o ∷ []) o.end (span_of o ∷ [])) h.1 (reach_none (comma ∷ []) names_part (span_of o ∷ []) o.end))
  names_reach xs ts at m (Names.more {xs = ys} {ts = us} d c o k j) h =
      let y = tokens_split at us (c ∷ o ∷ []) m h in
      let r = names_reach ys us at y.0 d y.1 in
      let f = y.2 in (
        r.0,
        r.1,
        reach_step (comma ∷ []) names_part _ _ ys xs y.0 m (c ∷ o ∷ []) r.2 k f
            (then_done _ _ (token_done (comma ∷ []) y.0 c f.0 k) (then_done _ _ (name_done c.end o f.1.0 j) (ap (λ (n : ℕ). done xs n) f.1.1))),
      )

  names_complete : (xs : List Span) (ts : List Token) (at m : ℕ) → Names xs ts → Tokens s at ts m → next_in s (comma ∷ []) m ≡ false → names s at ≡ done xs m
  unfolding names
  names_complete xs ts at m d h e =
      let r = names_reach xs ts at m d h in
      then_done _ _ r.1 (reach_end (comma ∷ []) names_part _ _ xs m r.2 e)

  state_complete : (q : Span) (ts : List Token) (at m : ℕ) → State q ts → Tokens s at ts m → state s at ≡ done q m
  unfolding state
  state_complete q ts at m (State.state a o k j) h =
      then_done _ _ (token_done (at_sign ∷ []) at a h.0 k) (name_done a.end o h.1.0 j ∙ ap (λ (n : ℕ). done q n) h.1.1)

  -- ---- expressions

  -- a parser reads what is derived, up to a place where it stops
  abbrev Reads : {A : Type 0} → (ℕ → Type 0) → (A → List Token → Type 0) → Parser A → Type 0
  Reads {A = A} Stop R p = (a : A) (ts : List Token) (at m : ℕ) → R a ts → Tokens s at ts m → Stop m → p at ≡ done a m

  abbrev chain_part : ℕ → Parser Term → Term → Parser Term
  chain_part r operand l = reader.◌>>=◌ (token_in s (operators r)) (λ o. reader.◌>>=◌ operand (λ u. give (operated o.kind o.start l u)))

  chain_reach :
      (Stop : ℕ → Type 0) (r : ℕ) (R : Term → List Token → Type 0) (p : Parser Term) → Reads Stop R p → ((m : ℕ) (o : Token) → token_at s m ≡ Found o → In (operators r) o → Stop m)
      → (t : Term) (ts : List Token) (at m : ℕ) → Chain (operators r) R t ts → Tokens s at ts m → Stop m → (u : Term) × (n : ℕ) × (p at ≡ done u n) × Reached (operators r) (chain_part r p) u n t m
  chain_reach Stop r R p g j t ts at m (Chain.operand d) h e = (t, m, g t ts at m d h e, reach_none (operators r) (chain_part r p) t m)
  chain_reach Stop r R p g j t ts at m (Chain.apply {t = l} {u = u} {ts = us} {us = vs} d o k f) h e =
      let y = tokens_split at us (o ∷ vs) m h in
      let z = y.2 in
      let i = chain_reach Stop r R p g j l us at y.0 d y.1 (j y.0 o z.0 k) in (
        i.0,
        i.1,
        i.2,
        reach_step (operators r) (chain_part r p) _ _ l t y.0 m (o ∷ vs) i.3 k z
            (then_done _ _ (token_done (operators r) y.0 o z.0 k) (then_done _ _ (g u vs o.end m f z.1 e) refl)),
      )

  abbrev Stopped : (ℕ → Type 0) → List ℕ → ℕ → Type 0
  Stopped Stop os m = Stop m × (next_in s os m ≡ false)

  chain_complete :
      (Stop : ℕ → Type 0) (r : ℕ) (R : Term → List Token → Type 0) (p : Parser Term) → Reads Stop R p → ((m : ℕ) (o : Token) → token_at s m ≡ Found o → In (operators r) o → Stop m)
      → Reads (Stopped Stop (operators r)) (Chain (operators r) R) (chain s r p)
  unfolding chain
  chain_complete Stop r R p g j t ts at m d h e =
      let i = chain_reach Stop r R p g j t ts at m d h e.0 in
      then_done _ _ i.2 (reach_end (operators r) (chain_part r p) _ _ t m i.3 e.1)

  abbrev Never : ℕ → Type 0
  Never m = Unit {0}

  abbrev AfterProduct : ℕ → Type 0
  AfterProduct = Stopped Never (times_mark ∷ over_mark ∷ [])

  abbrev AfterSum : ℕ → Type 0
  AfterSum = Stopped AfterProduct (plus_mark ∷ minus_mark ∷ [])

  -- a token of these kinds, none an operator, comes after an expression
  after_sum : (js : List ℕ) (m : ℕ) (o : Token) → apart (times_mark ∷ over_mark ∷ []) js ≡ true → apart (plus_mark ∷ minus_mark ∷ []) js ≡ true → token_at s m ≡ Found o → In js o → AfterSum m
  after_sum js m o a b e k = ((tt, past _ js m o a e k), past _ js m o b e k)

  enclosed_complete :
      (Stop : ℕ → Type 0) (R : Term → List Token → Type 0) (inside : ℕ → Parser Term) → ((p : ℕ) → Reads Stop R (inside p))
      → ((m : ℕ) (o : Token) → token_at s m ≡ Found o → Is close_paren o → Stop m) → (t : Term) (ts : List Token) (o c : Token) (at m : ℕ) → Is open_paren o → R t ts
      → Is close_paren c → Tokens s at (o ∷ (ts ++ (c ∷ []))) m → reader.enclosed s inside at ≡ done t m
  unfolding reader.enclosed
  enclosed_complete Stop R inside g j t ts o c at m k d f h =
      let y = tokens_split o.end ts (c ∷ []) m h.1 in
      let z = y.2 in
      then_done _ _ (token_done (open_paren ∷ []) at o h.0 k)
      (then_done _ _ (g o.start t ts o.end y.0 d y.1 (j y.0 c z.0 f))
      (then_done _ _ (token_done (close_paren ∷ []) y.0 c z.0 f) (ap (λ (n : ℕ). done t n) z.1)))

  leaf_complete : (inside : ℕ → Parser Term) (t : Term) (o : Token) (at m : ℕ) → In leaves o → leaf_of o ≡ t → Tokens s at (o ∷ []) m → factor s inside at ≡ done t m
  unfolding factor is_one_of every pick
  leaf_complete inside t o at m k e h =
      pick_false _ _ _ (past (open_paren ∷ []) leaves at o refl h.0 k)
      ∙ then_done _ _ (token_done leaves at o h.0 k) (ap (λ (u : Term). done u o.end) e ∙ ap (λ (n : ℕ). done t n) h.1)

  -- the leaf of a token, were its kind j
  abbrev leaf_as : Token → ℕ → Term
  leaf_as o j =
      pick (eqb j nameKind) (named (span_of o))
      (pick (eqb j numberKind) (numeral o.value o.start)
      (pick (eqb j string_kind) (quoted (record { start = o.start + 1; end = o.end - 1 }) o.start) (fixed o.kind o.start)))

  leaf_as_lem : (o : Token) (j : ℕ) → Is j o → leaf_of o ≡ leaf_as o j
  unfolding leaf_of
  leaf_as_lem o j k = ap (leaf_as o) (kind_is j o.kind k)

  factor_complete : (R : Term → List Token → Type 0) (inside : ℕ → Parser Term) → ((p : ℕ) → Reads AfterSum R (inside p)) → Reads Never (Factor R) (factor s inside)
  unfolding factor is_one_of every pick
  factor_complete R inside g t ts at m (Factor.now o k) h e = leaf_complete inside t o at m (wider leaves (now_word ∷ []) o.kind refl k) (leaf_as_lem o now_word k) h
  factor_complete R inside g t ts at m (Factor.variable o k) h e = leaf_complete inside t o at m (wider leaves (nameKind ∷ []) o.kind refl k) (leaf_as_lem o nameKind k) h
  factor_complete R inside g t ts at m (Factor.number o k) h e = leaf_complete inside t o at m (wider leaves (numberKind ∷ []) o.kind refl k) (leaf_as_lem o numberKind k) h
  factor_complete R inside g t ts at m (Factor.string o k) h e = leaf_complete inside t o at m (wider leaves (string_kind ∷ []) o.kind refl k) (leaf_as_lem o string_kind k) h
  factor_complete R inside g t ts at m (Factor.enclosed {ts = us} o c k d f) h e =
      pick_true _ _ _ (next_found s (open_paren ∷ []) at o h.0 ∙ k)
      ∙ enclosed_complete AfterSum R inside g (λ n i p q. after_sum (close_paren ∷ []) n i refl refl p q) t us o c at m k d f h

  sum_complete : (R : Term → List Token → Type 0) (inside : ℕ → Parser Term) → ((p : ℕ) → Reads AfterSum R (inside p)) → Reads AfterSum (Sum R) (sum s inside)
  unfolding is_one_of every pick
  sum_complete R inside g =
      chain_complete AfterProduct 2 (Product R) _ (chain_complete Never 3 (Factor R) (factor s inside) (factor_complete R inside g) (λ m o e k. tt))
      (λ m o e k. (tt, past (times_mark ∷ over_mark ∷ []) (plus_mark ∷ minus_mark ∷ []) m o refl e k))

  inside_complete : (n p : ℕ) → Reads AfterSum (InsideExpression n) (inside_expression s n p)
  unfolding inside_expression InsideExpression
  inside_complete zero p t ts at m d h e = absurd d
  inside_complete (suc n) p t ts at m d h e = sum_complete (InsideExpression n) (inside_expression s n) (inside_complete n) t ts at m d h e

  expression_complete : (n : ℕ) → Reads AfterSum (Expression n) (expression s n)
  expression_complete n = sum_complete (InsideExpression n) (inside_expression s n) (inside_complete n)

  -- ---- conditions

  comparison_complete :
      (n : ℕ) (t u : Term) (ts us : List Token) (o : Token) (at m : ℕ) → Expression n t ts → In comparisons o → Expression n u us → Tokens s at (ts ++ (o ∷ us)) m
      → AfterSum m → comparison s n at ≡ done (operated o.kind o.start t u) m
  unfolding comparison is_one_of every pick
  comparison_complete n t u ts us o at m d k f h e =
      let y = tokens_split at ts (o ∷ us) m h in
      let z = y.2 in
      then_done _ _ (expression_complete n t ts at y.0 d y.1 (after_sum comparisons y.0 o refl refl z.0 k))
      (then_done _ _ (token_done comparisons y.0 o z.0 k) (then_done _ _ (expression_complete n u us o.end m f z.1 e) refl))

  abbrev AfterConjunction : ℕ → Type 0
  AfterConjunction = Stopped AfterSum (and_mark ∷ [])

  abbrev AfterCondition : ℕ → Type 0
  AfterCondition = Stopped AfterConjunction (or_mark ∷ [])

  after_condition : (m : ℕ) (o : Token) → token_at s m ≡ Found o → Is close_paren o → AfterCondition m
  unfolding is_one_of every pick
  after_condition m o e k = ((after_sum (close_paren ∷ []) m o refl refl e k, past (and_mark ∷ []) (close_paren ∷ []) m o refl e k), past (or_mark ∷ []) (close_paren ∷ []) m o refl e k)

  simple_complete : (n : ℕ) (R : Term → List Token → Type 0) (inside : ℕ → Parser Term) → ((p : ℕ) → Reads AfterCondition R (inside p)) → Reads AfterSum (Simple n R) (simple s n inside)
  unfolding simple is_one_of every pick
  simple_complete n R inside g t ts at m (Simple.enclosed {ts = us} o c k d f) h e =
      pick_true _ _ _ (next_found s (open_paren ∷ []) at o h.0 ∙ k) ∙ enclosed_complete AfterCondition R inside g after_condition t us o c at m k d f h
  simple_complete n R inside g t ts at m (Simple.truth o k) h e =
      pick_false _ _ _ (past (open_paren ∷ []) (true_word ∷ false_word ∷ []) at o refl h.0 k)
      ∙ pick_true _ _ _ (next_found s (true_word ∷ false_word ∷ []) at o h.0 ∙ k)
      ∙ then_done _ _ (token_done (true_word ∷ false_word ∷ []) at o h.0 k) (ap (λ (i : ℕ). done (fixed o.kind o.start) i) h.1)
  simple_complete n R inside g t ts at m (Simple.compare {t = l} {u = u} {ts = us} {us = vs} d st o k f) h e =
      let w = starts_append leaves us (o ∷ vs) st in
      pick_false _ _ _ (starts_past (open_paren ∷ []) leaves at (us ++ (o ∷ vs)) m refl w h)
      ∙ pick_false _ _ _ (starts_past (true_word ∷ false_word ∷ []) leaves at (us ++ (o ∷ vs)) m refl w h)
      ∙ comparison_complete n l u us vs o at m d k f h e

  abbrev simple_starts : List ℕ
  simple_starts = open_paren ∷ true_word ∷ false_word ∷ leaves

  simple_starts_lem : (n : ℕ) (R : Term → List Token → Type 0) (t : Term) (ts : List Token) → Simple n R t ts → Starts simple_starts ts
  unfolding is_one_of every pick
  simple_starts_lem n R t ts (Simple.enclosed o c k d f) = wider simple_starts (open_paren ∷ []) o.kind refl k
  simple_starts_lem n R t ts (Simple.truth o k) = wider simple_starts (true_word ∷ false_word ∷ []) o.kind refl k
  simple_starts_lem n R t ts (Simple.compare {ts = us} {us = vs} d st o k f) = starts_append simple_starts us (o ∷ vs) (starts_wider simple_starts leaves us refl st)

  abbrev not_part : List ℕ → Parser (List ℕ)
  not_part ps = reader.◌>>=◌ (token s not_mark) (λ o. give (o.start ∷ ps))

  primary_goes :
      (n : ℕ) (R : Term → List Token → Type 0) (inside : ℕ → Parser Term) → ((p : ℕ) → Reads AfterCondition R (inside p))
      → (t : Term) (ts : List Token) (at m : ℕ) → Primary n R t ts → Tokens s at ts m → AfterSum m → (f : ℕ) (ps : List ℕ) → length s ≤ f + at
      → and_then (repeated s (not_mark ∷ []) not_part f ps at) (λ qs. reader.◌>>=◌ (simple s n inside) (λ u. give (negated_at qs u))) ≡ done (negated_at ps t) m
  unfolding repeated negated_at is_one_of every pick
  primary_goes n R inside g t ts at m (Primary.simple d) h e f ps l =
      then_done _ _ (repeated_over (not_mark ∷ []) not_part f ps at (starts_past (not_mark ∷ []) simple_starts at ts m refl (simple_starts_lem n R t ts d) h))
      (then_done _ _ (simple_complete n R inside g t ts at m d h e) refl)
  primary_goes n R inside g t ts at m (Primary.negate {ts = us} o k d) h e zero ps l =
      let w = tokens_within at o us m h in
      let a : at < m = w.0 in
      let b : m ≤ length s = w.1 in
      absurd (omega arith)
  primary_goes n R inside g t ts at m (Primary.negate {t = u} {ts = us} o k d) h e (suc f) ps l =
      let w = progress s at o h.0 in
      let a : at ≤ o.start = w.0 in
      let b : o.start < o.end = w.1 in
      let c : length s ≤ f + o.end = omega arith in
      ap (λ r. and_then r (λ qs. reader.◌>>=◌ (simple s n inside) (λ u. give (negated_at qs u))))
      (pick_true _ _ _ (next_found s (not_mark ∷ []) at o h.0 ∙ k)
      ∙ ap (λ r. and_then (and_then r (λ o. give (o.start ∷ ps))) (repeated s (not_mark ∷ []) not_part f)) (token_done (not_mark ∷ []) at o h.0 k))
      ∙ primary_goes n R inside g u us o.end m d h.1 e f (o.start ∷ ps) c

  primary_complete : (n : ℕ) (R : Term → List Token → Type 0) (inside : ℕ → Parser Term) → ((p : ℕ) → Reads AfterCondition R (inside p)) → Reads AfterSum (Primary n R) (primary s n inside)
  unfolding primary negated_at
  primary_complete n R inside g t ts at m d h e = primary_goes n R inside g t ts at m d h e (length s) [] (omega arith)

  choice_complete :
      (n : ℕ) (R : Term → List Token → Type 0) (inside : ℕ → Parser Term) → ((p : ℕ) → Reads AfterCondition R (inside p))
      → Reads AfterCondition (Disjunction n R) (choice s n inside)
  unfolding is_one_of every pick
  choice_complete n R inside g =
      chain_complete AfterConjunction 0 (Conjunction n R) _
      (chain_complete AfterSum 1 (Primary n R) (primary s n inside) (primary_complete n R inside g) (λ m o e k. after_sum (and_mark ∷ []) m o refl refl e k))
      (λ m o e k. (after_sum (or_mark ∷ []) m o refl refl e k, past (and_mark ∷ []) (or_mark ∷ []) m o refl e k))

  insides_complete : (n p : ℕ) → Reads AfterCondition (InsideCondition n) (inside_condition s n p)
  unfolding inside_condition InsideCondition
  insides_complete zero p t ts at m d h e = absurd d
  insides_complete (suc n) p t ts at m d h e = choice_complete n (InsideCondition n) (inside_condition s n) (insides_complete n) t ts at m d h e

  condition_complete : (n : ℕ) → Reads AfterCondition (Condition n) (condition s n)
  condition_complete n = choice_complete n (InsideCondition n) (inside_condition s n) (insides_complete n)

  -- ---- statements

  abbrev NoComma : ℕ → Type 0
  NoComma m = next_in s (comma ∷ []) m ≡ false

  action_complete : (e : Term) → Reads NoComma (ActionOf e) (action s e)
  unfolding action asset_move whole_move is_one_of every pick
  action_complete e a ts at m (ActionOf.sending o t k j) h x =
      pick_true _ _ _ (next_found s (value_arrow ∷ []) at o h.0 ∙ k)
      ∙ then_done _ _ (token_done (value_arrow ∷ []) at o h.0 k) (then_done _ _ (name_done o.end t h.1.0 j) (ap (λ (n : ℕ). done a n) h.1.1))
  action_complete e a ts at m (ActionOf.moving o f c t k j i l) h x =
      pick_false _ _ _ (past (value_arrow ∷ []) (asset_arrow ∷ []) at o refl h.0 k)
      ∙ then_done _ _ (token_done (asset_arrow ∷ []) at o h.0 k) (then_done _ _ (name_done o.end f h.1.0 j)
      (pick_true _ _ _ (next_found s (comma ∷ []) f.end c h.1.1.0 ∙ i)
      ∙ then_done _ _ (token_done (comma ∷ []) f.end c h.1.1.0 i) (then_done _ _ (name_done c.end t h.1.1.1.0 l) (ap (λ (n : ℕ). done a n) h.1.1.1.1))))
  action_complete e a ts at m (ActionOf.moving_all f q o t k j) h x =
      pick_false _ _ _ (past (value_arrow ∷ []) (asset_arrow ∷ []) at o refl h.0 k)
      ∙ then_done _ _ (token_done (asset_arrow ∷ []) at o h.0 k) (then_done _ _ (name_done o.end t h.1.0 j)
      (pick_false _ _ _ (subst NoComma (sym h.1.1) x)
      ∙ ap (λ (i : Term). whole_move s i (span_of t) t.end) q ∙ ap (λ (n : ℕ). done a n) h.1.1))

  action_starts : (e : Term) (a : Action) (ts : List Token) → ActionOf e a ts → Starts (value_arrow ∷ asset_arrow ∷ []) ts
  unfolding is_one_of every pick
  action_starts e a ts (ActionOf.sending o t k j) = wider (value_arrow ∷ asset_arrow ∷ []) (value_arrow ∷ []) o.kind refl k
  action_starts e a ts (ActionOf.moving o f c t k j i l) = wider (value_arrow ∷ asset_arrow ∷ []) (asset_arrow ∷ []) o.kind refl k
  action_starts e a ts (ActionOf.moving_all f q o t k j) = wider (value_arrow ∷ asset_arrow ∷ []) (asset_arrow ∷ []) o.kind refl k

  -- an expression ends where tokens of these kinds start
  starts_after :
      (js : List ℕ) (at : ℕ) (ts : List Token) (m : ℕ) → apart (times_mark ∷ over_mark ∷ []) js ≡ true → apart (plus_mark ∷ minus_mark ∷ []) js ≡ true → Starts js ts
      → Tokens s at ts m → AfterSum at
  starts_after js at [] m a b k h = absurd k
  starts_after js at (o ∷ ts) m a b k h = after_sum js at o a b h.0 k

  place_done : (at : ℕ) → place s at ≡ done (place_at s at) at
  unfolding place place_at
  place_done at = refl

  conditional_starts : (n p : ℕ) (t : Term) (b : Block) (ts : List Token) → Conditional n p t b ts → Starts (open_paren ∷ []) ts
  unfolding Conditional
  conditional_starts zero p t b ts d = absurd d
  conditional_starts (suc n) p t b ts (Guarded.guarded o c k d f g) = k

  -- a conditional is read, whatever comes after it
  abbrev Tested : ℕ → (Block → Parser Block) → Type 0
  Tested n test = (b : Block) (p : ℕ) (t : Term) (i : Block) (ts : List Token) (at m : ℕ) → Conditional n p t i ts → Tokens s at ts m → test b at ≡ done (Block.conditional b p t i) m

  act_complete :
      (n : ℕ) (test : Block → Parser Block) (b : Block) (e : Term) (a : Action) (us vs : List Token) (at m : ℕ) → Expression n e us → Starts leaves us → ActionOf e a vs
      → Tokens s at (us ++ vs) m → NoComma m → statement s n test b at ≡ done (perform b (start_of us) a) m
  unfolding statement is_one_of every pick
  act_complete n test b e a us vs at m d st f h x =
      let y = tokens_split at us vs m h in
      pick_false _ _ _ (starts_past (open_paren ∷ []) leaves at us y.0 refl st y.1)
      ∙ then_done _ _ (place_done at)
      (then_done _ _ (expression_complete n e us at y.0 d y.1 (starts_after (value_arrow ∷ asset_arrow ∷ []) y.0 vs m refl refl (action_starts e a vs f) y.2))
      (then_done _ _ (action_complete e a vs y.0 m f y.2 x) (ap (λ (p : ℕ). done (perform b p a) m) (sym (place_first s leaves at us y.0 y.1 st)))))

  test_complete :
      (n : ℕ) (test : Block → Parser Block) → Tested n test → (b : Block) (p : ℕ) (t : Term) (i : Block) (ts : List Token) (at m : ℕ) → Conditional n p t i ts
      → Tokens s at ts m → statement s n test b at ≡ done (Block.conditional b p t i) m
  unfolding statement
  test_complete n test g b p t i ts at m d h =
      pick_true _ _ _ (starts_within (open_paren ∷ []) at ts m (conditional_starts n p t i ts d) h).2 ∙ g b p t i ts at m d h

  row_reach :
      (n : ℕ) (test : Block → Parser Block) → Tested n test → (b : Block) (ts : List Token) (at m : ℕ) → Statements n b ts → Tokens s at ts m → NoComma m
      → Reached item_starts (statement s n test) none at b m
  unfolding is_one_of every pick
  row_reach n test g b ts at m Row.nothing h x = subst (Reached item_starts (statement s n test) none at none) h (reach_none item_starts (statement s n test) none at)
  row_reach n test g b ts at m (Row.act {b = c} {e = e} {a = a} {ts = us} {us = vs} {vs = ws} d k st f) h x =
      let y = tokens_split at us (vs ++ ws) m h in
      let w = starts_append leaves vs ws st in
      let r = row_reach n test g c us at y.0 d y.1 (starts_past (comma ∷ []) leaves y.0 (vs ++ ws) m refl w y.2) in
      reach_step item_starts (statement s n test) none at c b y.0 m (vs ++ ws) r (starts_wider item_starts leaves (vs ++ ws) refl w) y.2 (act_complete n test c e a vs ws y.0 m k st f y.2 x)
  row_reach n test g b ts at m (Row.test {b = c} {i = i} {p = p} {t = t} {ts = us} {us = vs} d k) h x =
      let y = tokens_split at us vs m h in
      let w = conditional_starts n p t i vs k in
      let r = row_reach n test g c us at y.0 d y.1 (starts_past (comma ∷ []) (open_paren ∷ []) y.0 vs m refl w y.2) in
      reach_step item_starts (statement s n test) none at c b y.0 m vs r (starts_wider item_starts (open_paren ∷ []) vs refl w) y.2 (test_complete n test g c p t i vs y.0 m k y.2)

  braces_complete :
      (n : ℕ) (test : Block → Parser Block) → Tested n test → (b : Block) (ts : List Token) (at m : ℕ) → Braced (Statements n) b ts → Tokens s at ts m
      → braces s n test at ≡ done b m
  unfolding braces is_one_of every pick
  braces_complete n test g b ts at m (Braced.braced {ts = us} o c k d f) h =
      let y = tokens_split o.end us (c ∷ []) m h.1 in
      let z = y.2 in
      then_done _ _ (token_done (open_brace ∷ []) at o h.0 k)
      (then_done _ _ (reach_end item_starts (statement s n test) none o.end b y.0
      (row_reach n test g b us o.end y.0 d y.1 (past (comma ∷ []) (close_brace ∷ []) y.0 c refl z.0 f)) (past item_starts (close_brace ∷ []) y.0 c refl z.0 f))
      (then_done _ _ (token_done (close_brace ∷ []) y.0 c z.0 f) (ap (λ (n : ℕ). done b n) z.1)))

  conditional_complete : (n : ℕ) → Tested n (conditional_after s n)
  unfolding conditional_after Conditional
  conditional_complete zero b p t i ts at m d h = absurd d
  conditional_complete (suc n) b p t i ts at m (Guarded.guarded {ts = us} {us = vs} o c k d f g) h =
      let y = tokens_split o.end us (c ∷ vs) m h.1 in
      let z = y.2 in
      then_done _ _ (token_done (open_paren ∷ []) at o h.0 k)
      (then_done _ _ (condition_complete n t us o.end y.0 d y.1 (after_condition y.0 c z.0 f))
      (then_done _ _ (token_done (close_paren ∷ []) y.0 c z.0 f)
      (then_done _ _ (braces_complete n (conditional_after s n) (conditional_complete n) i vs c.end m g z.1) refl)))

  -- ---- functions

  event_complete :
      (e : Term) (q l : Span) (b : Block) (us vs ws : List Token) (o a : Token) (p at m : ℕ) → Is event_mark o → State q us → Braced (Statements max_levels) b vs
      → Is state_arrow a → State l ws → Tokens s at (o ∷ (us ++ (vs ++ (a ∷ ws)))) m
      → event s p e at ≡ done (record { place = p; guard = e; state = q; handler = b; last = l }) m
  unfolding event
  event_complete e q l b us vs ws o a p at m k hq hb j hl h =
      let y = tokens_split o.end us (vs ++ (a ∷ ws)) m h.1 in
      let z = tokens_split y.0 vs (a ∷ ws) m y.2 in
      let f = z.2 in
      then_done _ _ (token_done (event_mark ∷ []) at o h.0 k)
      (then_done _ _ (state_complete q us o.end y.0 hq y.1)
      (then_done _ _ (braces_complete max_levels (conditional_after s max_levels) (conditional_complete max_levels) b vs y.0 z.0 hb z.1)
      (then_done _ _ (token_done (state_arrow ∷ []) z.0 a f.0 j)
      (then_done _ _ (state_complete l ws a.end m hl f.1) refl))))

  event_starts : (w : Event) (ts : List Token) → EventOf w ts → Starts leaves ts
  event_starts w ts (EventOf.event {ts = us} d st o a k hq hb j hl) = starts_append leaves us _ st

  event_item : (i : Body) (w : Event) (ts : List Token) (at m : ℕ) → EventOf w ts → Tokens s at ts m → body_item s i at ≡ done (reader.with_event i w) m
  unfolding body_item is_one_of every pick
  event_item i w ts at m (EventOf.event {e = e} {q = q} {l = l} {b = b} {ts = us} {us = vs} {vs = ws} {ws = rs} d st o a k hq hb j hl) h =
      let y = tokens_split at us (o ∷ (vs ++ (ws ++ (a ∷ rs)))) m h in
      let z = y.2 in
      pick_false _ _ _ (starts_past (open_paren ∷ []) leaves at us y.0 refl st y.1)
      ∙ then_done _ _ (place_done at)
      (then_done _ _ (expression_complete max_levels e us at y.0 d y.1 (after_sum (event_mark ∷ []) y.0 o refl refl z.0 k))
      (pick_true _ _ _ (next_found s (event_mark ∷ []) y.0 o z.0 ∙ k)
      ∙ then_done _ _ (event_complete e q l b vs ws rs o a (place_at s at) y.0 m k hq hb j hl z)
      (ap (λ (p : ℕ). done (reader.with_event i (record { place = p; guard = e; state = q; handler = b; last = l })) m) (sym (place_first s leaves at us y.0 y.1 st)))))

  abbrev only : Block → Body
  only b = record { statements = b; events = [] }

  act_item :
      (b : Block) (e : Term) (a : Action) (us vs : List Token) (at m : ℕ) → Expression max_levels e us → Starts leaves us → ActionOf e a vs → Tokens s at (us ++ vs) m
      → NoComma m → body_item s (only b) at ≡ done (only (perform b (start_of us) a)) m
  unfolding body_item before_events is_one_of every pick
  act_item b e a us vs at m d st f h x =
      let y = tokens_split at us vs m h in
      let g = action_starts e a vs f in
      pick_false _ _ _ (starts_past (open_paren ∷ []) leaves at us y.0 refl st y.1)
      ∙ then_done _ _ (place_done at)
      (then_done _ _ (expression_complete max_levels e us at y.0 d y.1 (starts_after (value_arrow ∷ asset_arrow ∷ []) y.0 vs m refl refl g y.2))
      (pick_false _ _ _ (starts_past (event_mark ∷ []) (value_arrow ∷ asset_arrow ∷ []) y.0 vs m refl g y.2)
      ∙ then_done _ _ (action_complete e a vs y.0 m f y.2 x) (ap (λ (p : ℕ). done (only (perform b p a)) m) (sym (place_first s leaves at us y.0 y.1 st)))))

  test_item :
      (b : Block) (p : ℕ) (t : Term) (i : Block) (ts : List Token) (at m : ℕ) → Conditional max_levels p t i ts → Tokens s at ts m
      → body_item s (only b) at ≡ done (only (Block.conditional b p t i)) m
  unfolding body_item before_events
  test_item b p t i ts at m d h =
      pick_true _ _ _ (starts_within (open_paren ∷ []) at ts m (conditional_starts max_levels p t i ts d) h).2
      ∙ then_done _ _ (conditional_complete max_levels b p t i ts at m d h) refl

  statements_reach : (b : Block) (ts : List Token) (at m : ℕ) → Statements max_levels b ts → Tokens s at ts m → NoComma m → Reached item_starts (body_item s) (only none) at (only b) m
  unfolding is_one_of every pick
  statements_reach b ts at m Row.nothing h x = subst (Reached item_starts (body_item s) (only none) at (only none)) h (reach_none item_starts (body_item s) (only none) at)
  statements_reach b ts at m (Row.act {b = c} {e = e} {a = a} {ts = us} {us = vs} {vs = ws} d k st f) h x =
      let y = tokens_split at us (vs ++ ws) m h in
      let w = starts_append leaves vs ws st in
      let r = statements_reach c us at y.0 d y.1 (starts_past (comma ∷ []) leaves y.0 (vs ++ ws) m refl w y.2) in
      reach_step item_starts (body_item s) (only none) at (only c) (only b) y.0 m (vs ++ ws) r (starts_wider item_starts leaves (vs ++ ws) refl w) y.2 (act_item c e a vs ws y.0 m k st f y.2 x)
  statements_reach b ts at m (Row.test {b = c} {i = i} {p = p} {t = t} {ts = us} {us = vs} d k) h x =
      let y = tokens_split at us vs m h in
      let w = conditional_starts max_levels p t i vs k in
      let r = statements_reach c us at y.0 d y.1 (starts_past (comma ∷ []) (open_paren ∷ []) y.0 vs m refl w y.2) in
      reach_step item_starts (body_item s) (only none) at (only c) (only b) y.0 m vs r (starts_wider item_starts (open_paren ∷ []) vs refl w) y.2 (test_item c p t i vs y.0 m k y.2)

  body_reach : (i : Body) (ts : List Token) (at m : ℕ) → BodyOf i ts → Tokens s at ts m → NoComma m → Reached item_starts (body_item s) (only none) at i m
  unfolding is_one_of every pick
  body_reach i ts at m (BodyOf.statements {b = b} d) h x = statements_reach b ts at m d h x
  body_reach i ts at m (BodyOf.also {i = j} {w = w} {ts = us} {us = vs} d f) h x =
      let y = tokens_split at us vs m h in
      let g = event_starts w vs f in
      let r = body_reach j us at y.0 d y.1 (starts_past (comma ∷ []) leaves y.0 vs m refl g y.2) in
      reach_step item_starts (body_item s) (only none) at j i y.0 m vs r (starts_wider item_starts leaves vs refl g) y.2 (event_item j w vs y.0 m f y.2)

  body_complete : (i : Body) (ts : List Token) (at m : ℕ) → Braced BodyOf i ts → Tokens s at ts m → body s at ≡ done i m
  unfolding body is_one_of every pick
  body_complete i ts at m (Braced.braced {ts = us} o c k d f) h =
      let y = tokens_split o.end us (c ∷ []) m h.1 in
      let z = y.2 in
      then_done _ _ (token_done (open_brace ∷ []) at o h.0 k)
      (then_done _ _ (reach_end item_starts (body_item s) (only none) o.end i y.0
      (body_reach i us o.end y.0 d y.1 (past (comma ∷ []) (close_brace ∷ []) y.0 c refl z.0 f)) (past item_starts (close_brace ∷ []) y.0 c refl z.0 f))
      (then_done _ _ (token_done (close_brace ∷ []) y.0 c z.0 f) (ap (λ (n : ℕ). done i n) z.1)))

  names_starts : (xs : List Span) (ts : List Token) → Names xs ts → Starts (nameKind ∷ []) ts
  names_starts xs ts (Names.one o k) = k
  names_starts xs ts (Names.more {xs = ys} {ts = us} d c o k j) = starts_append (nameKind ∷ []) us (c ∷ o ∷ []) (names_starts ys us d)

  -- where there are no tokens, the next one does not open
  abbrev Unless : ℕ → ℕ → List Token → Type 0
  Unless k at [] = next_in s (k ∷ []) at ≡ false
  Unless k at (o ∷ ts) = Unit {0}

  parameters_complete :
      (opening closing : ℕ) → apart (closing ∷ []) (nameKind ∷ []) ≡ true → apart (comma ∷ []) (closing ∷ []) ≡ true
      → (xs : List Span) (ts : List Token) (at m : ℕ) → Parameters opening closing xs ts → Tokens s at ts m → Unless opening at ts → parameters_in s opening closing at ≡ done xs m
  unfolding parameters_in
  parameters_complete opening closing p q xs ts at m Parameters.absent h u = pick_false _ _ _ u ∙ ap (λ (n : ℕ). done [] n) h
  parameters_complete opening closing p q xs ts at m (Parameters.empty o c k j) h u =
      pick_true _ _ _ (next_found s (opening ∷ []) at o h.0 ∙ k)
      ∙ then_done _ _ (token_done (opening ∷ []) at o h.0 k)
      (then_done _ _ (pick_true _ (give [] o.end) (names s o.end) (next_found s (closing ∷ []) o.end c h.1.0 ∙ j))
      (then_done _ _ (token_done (closing ∷ []) o.end c h.1.0 j) (ap (λ (n : ℕ). done [] n) h.1.1)))
  parameters_complete opening closing p q xs ts at m (Parameters.listed {ts = us} o c k d j) h u =
      let y = tokens_split o.end us (c ∷ []) m h.1 in
      let z = y.2 in
      pick_true _ _ _ (next_found s (opening ∷ []) at o h.0 ∙ k)
      ∙ then_done _ _ (token_done (opening ∷ []) at o h.0 k)
      (then_done _ _ (pick_false _ (give [] o.end) (names s o.end) (starts_past (closing ∷ []) (nameKind ∷ []) o.end us y.0 p (names_starts xs us d) y.1)
      ∙ names_complete xs us o.end y.0 d y.1 (past (comma ∷ []) (closing ∷ []) y.0 c q z.0 j))
      (then_done _ _ (token_done (closing ∷ []) y.0 c z.0 j) (ap (λ (n : ℕ). done xs n) z.1)))

  precondition_complete : Reads (λ m. next_in s (open_paren ∷ []) m ≡ false) PreconditionOf (precondition s)
  unfolding precondition
  precondition_complete p ts at m PreconditionOf.always h e = pick_false _ _ _ (subst (λ (x : ℕ). next_in s (open_paren ∷ []) x ≡ false) (sym h) e) ∙ ap (λ (n : ℕ). done Precondition.omitted n) h
  precondition_complete p ts at m (PreconditionOf.only {t = t} {ts = us} o c k d f) h e =
      let y = tokens_split o.end us (c ∷ []) m h.1 in
      let z = y.2 in
      pick_true _ _ _ (next_found s (open_paren ∷ []) at o h.0 ∙ k)
      ∙ then_done _ _ (token_done (open_paren ∷ []) at o h.0 k)
      (then_done _ _ (condition_complete max_levels t us o.end y.0 d y.1 (after_condition y.0 c z.0 f))
      (then_done _ _ (token_done (close_paren ∷ []) y.0 c z.0 f) (ap (λ (n : ℕ). done (Precondition.given t) n) z.1)))

  next_not : (k : ℕ) (js : List ℕ) (at : ℕ) (ts us : List Token) (m : ℕ) → apart (k ∷ []) js ≡ true → StartsNot k ts → Starts js us → Tokens s at (ts ++ us) m → next_in s (k ∷ []) at ≡ false
  next_not k js at [] us m a n st h = starts_past (k ∷ []) js at us m a st h
  next_not k js at (o ∷ ts) us m a n st h = next_found s (k ∷ []) at o h.0 ∙ n

  unless_straight : (at : ℕ) (ts us ws : List Token) (m : ℕ) → Straight ts us → Starts (open_brace ∷ []) ws → Tokens s at (ts ++ (us ++ ws)) m → Unless open_paren at ts
  unfolding is_one_of every pick
  unless_straight at [] us ws m st b h = next_not open_paren (open_brace ∷ []) at us ws m refl st b h
  unless_straight at (o ∷ ts) us ws m st b h = tt

  unless_next : (k at : ℕ) (ts : List Token) (m : ℕ) → Tokens s at ts m → next_in s (k ∷ []) m ≡ false → Unless k at ts
  unless_next k at [] m h e = subst (λ (x : ℕ). next_in s (k ∷ []) x ≡ false) (sym h) e
  unless_next k at (o ∷ ts) m h e = tt

  precondition_not : (t : Precondition) (ts : List Token) → PreconditionOf t ts → StartsNot open_bracket ts
  unfolding is_one_of every pick
  precondition_not t ts PreconditionOf.always = tt
  precondition_not t ts (PreconditionOf.only o c k d f) = other (open_bracket ∷ []) (open_paren ∷ []) o.kind refl k

  braced_starts : {A : Type 0} (R : A → List Token → Type 0) (a : A) (ts us : List Token) → Braced R a ts → Starts (open_brace ∷ []) (ts ++ us)
  braced_starts R a ts us (Braced.braced o c k d f) = k

  function_complete : Reads Never FunctionOf (function s)
  unfolding function is_one_of every pick
  function_complete x all at m (FunctionOf.function {q = q} {l = l} {zs = zs} {ys = ys} {t = t} {i = i} {ts = ts} {us = us} {vs = vs} {ws = ws} {xs = xs} {rs = rs} hq a c f w ha hc hf hz hy ht st hi hw hl) h e =
      let y1 = tokens_split at ts (a ∷ c ∷ f ∷ (us ++ (vs ++ (ws ++ (xs ++ (w ∷ rs)))))) m h in
      let z1 = y1.2 in
      let r5 = z1.1.1.1 in
      let y5 = tokens_split f.end us (vs ++ (ws ++ (xs ++ (w ∷ rs)))) m r5 in
      let y6 = tokens_split y5.0 vs (ws ++ (xs ++ (w ∷ rs))) m y5.2 in
      let y7 = tokens_split y6.0 ws (xs ++ (w ∷ rs)) m y6.2 in
      let y8 = tokens_split y7.0 xs (w ∷ rs) m y7.2 in
      let z8 = y8.2 in
      let b = braced_starts BodyOf i xs (w ∷ rs) hi in
      let u5 = unless_straight f.end us (vs ++ ws) (xs ++ (w ∷ rs)) m st b (subst (λ (os : List Token). Tokens s f.end (us ++ os) m) (sym (append_assoc vs ws (xs ++ (w ∷ rs)))) r5) in
      let u6 = unless_next open_bracket y5.0 vs y6.0 y6.1 (next_not open_bracket (open_brace ∷ []) y6.0 ws (xs ++ (w ∷ rs)) m refl (precondition_not t ws ht) b y6.2) in
      then_done _ _ (place_done at)
      (then_done _ _ (state_complete q ts at y1.0 hq y1.1)
      (then_done _ _ (name_done y1.0 a z1.0 ha)
      (then_done _ _ (token_done (colon ∷ []) a.end c z1.1.0 hc)
      (then_done _ _ (name_done c.end f z1.1.1.0 hf)
      (then_done _ _ (parameters_complete open_paren close_paren refl refl zs us f.end y5.0 hz y5.1 u5)
      (then_done _ _ (parameters_complete open_bracket close_bracket refl refl ys vs y5.0 y6.0 hy y6.1 u6)
      (then_done _ _ (precondition_complete t ws y6.0 y7.0 ht y7.1 (starts_past (open_paren ∷ []) (open_brace ∷ []) y7.0 (xs ++ (w ∷ rs)) m refl b y7.2))
      (then_done _ _ (body_complete i xs y7.0 y8.0 hi y8.1)
      (then_done _ _ (token_done (state_arrow ∷ []) y8.0 w z8.0 hw)
      (then_done _ _ (state_complete l rs w.end m hl z8.1)
      (ap (λ (p : ℕ). done (record { place = p; state = q; party = span_of a; name = span_of f; values = zs; parameters = ys; precondition = t; body = i; last = l }) m)
      (sym (place_first s (at_sign ∷ []) at ts y1.0 y1.1 (state_starts s q ts hq))))))))))))))

  -- ---- the contract

  verb_done : (v : Verb) (o : Token) (at : ℕ) → VerbOf v o → token_at s at ≡ Found o → verb s at ≡ done v o.end
  unfolding verb is_one_of every pick
  verb_done v o at (VerbOf.sets p k) h = pick_true _ _ _ (next_found s (set_arrow ∷ []) at o h ∙ k) ∙ then_done _ _ (token_done (set_arrow ∷ []) at o h k) refl
  verb_done v o at (VerbOf.agrees p k) h =
      pick_false _ _ _ (past (set_arrow ∷ []) (ok_arrow ∷ []) at o refl h k) ∙ then_done _ _ (token_done (ok_arrow ∷ []) at o h k) refl

  fields_complete : Reads NoComma Fields (if_next s (underscore ∷ []) (reader.◌>>◌ (token s underscore) (give [])) (names s))
  unfolding is_one_of every pick
  fields_complete xs ts at m (Fields.empty o k) h e =
      pick_true _ _ _ (next_found s (underscore ∷ []) at o h.0 ∙ k) ∙ then_done _ _ (token_done (underscore ∷ []) at o h.0 k) (ap (λ (n : ℕ). done [] n) h.1)
  fields_complete xs ts at m (Fields.listed d) h e =
      pick_false _ _ _ (starts_past (underscore ∷ []) (nameKind ∷ []) at ts m refl (names_starts xs ts d) h) ∙ names_complete xs ts at m d h e

  clause_complete : Reads NoComma ClauseOf (clause s)
  unfolding clause
  clause_complete x all at m (ClauseOf.clause {v = v} {xs = xs} {ts = ts} a o k d f) h e =
      then_done _ _ (name_done at a h.0 k)
      (then_done _ _ (verb_done v o a.end d h.1.0)
      (then_done _ _ (fields_complete xs ts o.end m f h.1.1 e) refl))

  clause_starts : (x : Clause) (ts : List Token) → ClauseOf x ts → Starts (nameKind ∷ []) ts
  clause_starts x ts (ClauseOf.clause a o k d f) = k

  function_starts : (x : Function) (ts : List Token) → FunctionOf x ts → Starts (at_sign ∷ []) ts
  function_starts x all (FunctionOf.function {q = q} {ts = ts} hq a c f w ha hc hf hz hy ht st hi hw hl) = starts_append (at_sign ∷ []) ts _ (state_starts s q ts hq)

  abbrev each_part : {A : Type 0} → Parser A → List A → Parser (List A)
  each_part p xs = reader.◌>>=◌ p (λ x. give (xs ++ (x ∷ [])))

  each_reach :
      {A : Type 0} (Stop : ℕ → Type 0) (ks : List ℕ) (R : A → List Token → Type 0) (p : Parser A) → Reads Stop R p → ((x : A) (ts : List Token) → R x ts → Starts ks ts)
      → ((m : ℕ) (o : Token) → token_at s m ≡ Found o → In ks o → Stop m)
      → (xs : List A) (ts : List Token) (at m : ℕ) → Each R xs ts → Tokens s at ts m → Stop m → Reached ks (each_part p) [] at xs m
  each_reach Stop ks R p g st j xs ts at m Each.nothing h e = subst (Reached ks (each_part p) [] at []) h (reach_none ks (each_part p) [] at)
  each_reach Stop ks R p g st j xs ts at m (Each.also {xs = ys} {x = x} {ts = us} {us = vs} d f) h e =
      let y = tokens_split at us vs m h in
      let w = st x vs f in
      let r = each_reach Stop ks R p g st j ys us at y.0 d y.1 (stop_at Stop ks y.0 vs m j w y.2) in
      reach_step ks (each_part p) [] at ys xs y.0 m vs r w y.2 (then_done _ _ (g x vs y.0 m f y.2 e) refl)
    where
      stop_at :
          (Stop : ℕ → Type 0) (ks : List ℕ) (at : ℕ) (ts : List Token) (m : ℕ) → ((m : ℕ) (o : Token) → token_at s m ≡ Found o → In ks o → Stop m) → Starts ks ts
          → Tokens s at ts m → Stop at
      stop_at Stop ks at [] m j k h = absurd k
      stop_at Stop ks at (o ∷ ts) m j k h = j at o h.0 k

  line_complete : (k : ℕ) (xs : List Span) (ts : List Token) (at m : ℕ) → Line k xs ts → Tokens s at ts m → next_in s (k ∷ []) m ≡ false → NoComma m → line s k at ≡ done xs m
  unfolding line
  line_complete k xs ts at m Line.omit h e x = pick_false _ _ _ (subst (λ (i : ℕ). next_in s (k ∷ []) i ≡ false) (sym h) e) ∙ ap (λ (n : ℕ). done [] n) h
  line_complete k xs ts at m (Line.line {ts = us} o j d) h e x =
      pick_true _ _ _ (next_found s (k ∷ []) at o h.0 ∙ j)
      ∙ then_done _ _ (token_done (k ∷ []) at o h.0 j) (names_complete xs us o.end m d h.1 x)

  line_starts : (xs : List Span) (us : List Token) (g : Token) (rs : List Token) → Line fieldsWord xs us → Is agreementWord g → Starts (fieldsWord ∷ agreementWord ∷ []) (us ++ (g ∷ rs))
  unfolding is_one_of every pick
  line_starts xs us g rs Line.omit k = wider (fieldsWord ∷ agreementWord ∷ []) (agreementWord ∷ []) g.kind refl k
  line_starts xs us g rs (Line.line o j d) k = wider (fieldsWord ∷ agreementWord ∷ []) (fieldsWord ∷ []) o.kind refl j

  ending_done : {A : Type 0} (a : A) (at : ℕ) → token_at s at ≡ End → ending s a at ≡ done a at
  unfolding ending
  ending_done a at e = ap (λ (l : Lexed). ends_on s a at l) e

  contract_complete : (x : Syntax) (all : List Token) (at m : ℕ) → Derives x all → Tokens s at all m → token_at s m ≡ End → contract s at ≡ done x m
  unfolding contract is_one_of every pick
  contract_complete x all at m (Derives.contract {hs = hs} {xs = xs} {ps = ps} {cs = cs} {q = q} {fs = fs} {ts = ts} {us = us} {vs = vs} {ws = ws} {rs = rs} {zs = zs} k n d g o c b e a z hk hn hd hh hx hg ho hp hc hb hcs he ha hq hf hz) h over =
      let t8 = c ∷ b ∷ (ws ++ (e ∷ a ∷ (rs ++ (zs ++ (z ∷ []))))) in
      let r3 = h.1.1.1 in
      let y4 = tokens_split d.end ts (us ++ (g ∷ o ∷ (vs ++ t8))) m r3 in
      let y5 = tokens_split y4.0 us (g ∷ o ∷ (vs ++ t8)) m y4.2 in
      let z5 = y5.2 in
      let y8 = tokens_split o.end vs t8 m z5.1.1 in
      let z8 = y8.2 in
      let y11 = tokens_split b.end ws (e ∷ a ∷ (rs ++ (zs ++ (z ∷ [])))) m z8.1.1 in
      let z11 = y11.2 in
      let y15 = tokens_split a.end rs (zs ++ (z ∷ [])) m z11.1.1 in
      let y16 = tokens_split y15.0 zs (z ∷ []) m y15.2 in
      let z16 = y16.2 in
      let w4 = line_starts xs us g (o ∷ (vs ++ t8)) hx hg in
      then_done _ _ (token_done (legal_contract ∷ []) at k h.0 hk)
      (then_done _ _ (name_done k.end n h.1.0 hn)
      (then_done _ _ (token_done (open_brace ∷ []) n.end d h.1.1.0 hd)
      (then_done _ _ (line_complete assetsWord hs ts d.end y4.0 hh y4.1
      (starts_past (assetsWord ∷ []) (fieldsWord ∷ agreementWord ∷ []) y4.0 (us ++ (g ∷ o ∷ (vs ++ t8))) m refl w4 y4.2)
      (starts_past (comma ∷ []) (fieldsWord ∷ agreementWord ∷ []) y4.0 (us ++ (g ∷ o ∷ (vs ++ t8))) m refl w4 y4.2))
      (then_done _ _ (line_complete fieldsWord xs us y4.0 y5.0 hx y5.1
      (past (fieldsWord ∷ []) (agreementWord ∷ []) y5.0 g refl z5.0 hg) (past (comma ∷ []) (agreementWord ∷ []) y5.0 g refl z5.0 hg))
      (then_done _ _ (token_done (agreementWord ∷ []) y5.0 g z5.0 hg)
      (then_done _ _ (token_done (open_paren ∷ []) g.end o z5.1.0 ho)
      (then_done _ _ (names_complete ps vs o.end y8.0 hp y8.1 (past (comma ∷ []) (close_paren ∷ []) y8.0 c refl z8.0 hc))
      (then_done _ _ (token_done (close_paren ∷ []) y8.0 c z8.0 hc)
      (then_done _ _ (token_done (open_brace ∷ []) c.end b z8.1.0 hb)
      (then_done _ _ (reach_end (nameKind ∷ []) (each_part (clause s)) [] b.end cs y11.0
      (each_reach NoComma (nameKind ∷ []) ClauseOf (clause s) clause_complete clause_starts (λ i p u v. past (comma ∷ []) (nameKind ∷ []) i p refl u v) cs ws b.end y11.0 hcs y11.1
      (past (comma ∷ []) (close_brace ∷ []) y11.0 e refl z11.0 he)) (past (nameKind ∷ []) (close_brace ∷ []) y11.0 e refl z11.0 he))
      (then_done _ _ (place_done y11.0)
      (then_done _ _ (token_done (close_brace ∷ []) y11.0 e z11.0 he)
      (then_done _ _ (token_done (state_arrow ∷ []) e.end a z11.1.0 ha)
      (then_done _ _ (state_complete q rs a.end y15.0 hq y15.1)
      (then_done _ _ (reach_end (at_sign ∷ []) (each_part (function s)) [] y15.0 fs y16.0
      (each_reach Never (at_sign ∷ []) FunctionOf (function s) function_complete function_starts (λ i p u v. tt) fs zs y15.0 y16.0 hf y16.1 tt) (past (at_sign ∷ []) (close_brace ∷ []) y16.0 z refl z16.0 hz))
      (then_done _ _ (token_done (close_brace ∷ []) y16.0 z z16.0 hz)
      (ending_done _ z.end (subst (λ (i : ℕ). token_at s i ≡ End) (sym z16.1) over)
      ∙ ap (λ (i : ℕ). done (record { name = span_of n; assets = hs; fields = xs; parties = ps; clauses = cs; closing = place_at s y11.0; initial = q; functions = fs }) i) z16.1
      ∙ ap (λ (p : ℕ). done (record { name = span_of n; assets = hs; fields = xs; parties = ps; clauses = cs; closing = p; initial = q; functions = fs }) m) (sym (place_token s y11.0 e z11.0)))))))))))))))))))

  -- what the text's tokens derive is read
  pub parse_complete : (c : Syntax) (ts : List Token) (t : TokensOf s ts) → Derives c ts → parse s ≡ done c t.end
  parse_complete c ts t d = contract_complete c ts 0 t.end d t.all t.over

  abbrev tree_in : Syntax → Parsed Syntax → Syntax
  tree_in c (done d n) = d
  tree_in c (no q p) = c

  -- no text derives two trees
  pub one_tree : (c d : Syntax) (ts us : List Token) → TokensOf s ts → Derives c ts → TokensOf s us → Derives d us → c ≡ d
  one_tree c d ts us t k u j = ap (tree_in c) (sym (parse_complete c ts t k) ∙ parse_complete d us u j)
