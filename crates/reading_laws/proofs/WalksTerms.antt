-- Expressions and conditions: the pass is the grammar, then the run of the term. Assumes nothing.
use mathlib.Core.Path.{◌≡◌, refl, sym, ap, ◌∙◌}
use mathlib.Core.Bool.{Bool, true, false}
use mathlib.Core.List.{List, [], ◌∷◌}
use Prim.Native.Nat.{ℕ, zero, suc, ◌+◌, ◌-◌}
use native.Mathlib.Numerals.{add-one}
use native.Mathlib.Omega.{arith}
use lib.ListN.{length}
use lib.Dec.{eqb, ltb}
use borrow.Author.Tests.{eqb-true, lt-ltb}
use Rattle.laws.specs.Choice.{pick}
use Rattle.laws.proofs.Choice.{by_cases, pick_true, pick_false}
use Rattle.words.specs.Words.{now_word, true_word, false_word, open_paren, close_paren, not_mark}
use Rattle.tokens.specs.Tokens.{between, name as nameKind, number as numberKind, string as string_kind}
use Rattle.contract.specs.Table.{string_kind as stringNode, true_kind, false_kind, not_kind}
use Rattle.tokens.specs.declared.Token.{Token}
use Rattle.entries.specs.Draft.{Draft, counted, number_in, mention, put, put_leaf, written}
use Rattle.reading_laws.specs.Walk.{Cursor}
use Rattle.reading.specs.Syntax.{Term, named, numeral, quoted, fixed, negated, operated}
use Rattle.reading.specs.Grammar.{done, Parser, and_then, give, is_one_of, operators, comparisons, leaves, leaf_of, negated_at, next_in, token_in, repeated}
use Rattle.reading.specs.Grammar as grammar
use Rattle.reading_laws.specs.Walk.{Walk, on, stop, follow, cursor_at, nodes, counting, operator_node, negations, leaf, string_leaf, inner_end, row_from, nots}
use Rattle.reading_laws.specs.Walk as walk
use Rattle.reading_laws.proofs.TablesKinds.{now_node}
use Rattle.reading_laws.proofs.Run.{walked, run_term, fixed_node}
use Rattle.reading_laws.proofs.NotesKept.{written_spared, counted_keeps}
use Rattle.reading_laws.proofs.WalksTokens.{Plain, one_kind, plain_one, token_of, span_of, pick_then, token_in_lem, forward, in_run, out_run, one_in_run, pick_in_run, one_next_run, next_in_run, next_out_run, after_token, follow_run, done_run, loop_run}

pub leaves_plain : Plain leaves
unfolding is_one_of pick
leaves_plain = record { refused = refl; ended = refl }

pub comparisons_plain : Plain comparisons
unfolding is_one_of pick
comparisons_plain = record { refused = refl; ended = refl }

fixed_plain : Plain (true_word ∷ false_word ∷ [])
unfolding is_one_of pick
fixed_plain = record { refused = refl; ended = refl }

pub operators_plain : (r : ℕ) → Plain (operators r)
unfolding is_one_of pick
operators_plain zero = record { refused = refl; ended = refl }
operators_plain (suc zero) = record { refused = refl; ended = refl }
operators_plain (suc (suc zero)) = record { refused = refl; ended = refl }
operators_plain (suc (suc (suc zero))) = record { refused = refl; ended = refl }
operators_plain (suc (suc (suc (suc r)))) = record { refused = refl; ended = refl }

is_first : (k j : ℕ) (js : List ℕ) → eqb k j ≡ true → is_one_of (j ∷ js) k ≡ true
unfolding is_one_of
is_first k j js e = pick_true _ _ _ e

is_later : (k j : ℕ) (js : List ℕ) (b : Bool) → eqb k j ≡ false → is_one_of js k ≡ b → is_one_of (j ∷ js) k ≡ b
unfolding is_one_of
is_later k j js b e f = pick_false _ _ _ e ∙ f

no_kind : (k : ℕ) → is_one_of [] k ≡ false
unfolding is_one_of
no_kind k = refl

follow_on : (w : Walk) (h : Draft → Draft) (f : Cursor → Draft → Walk) → follow w (λ d q. f d (h q)) ≡ follow (follow w (λ d q. on d (h q))) f
follow_on (on c p) h f = refl
follow_on (stop q o) h f = refl

pub nodes_counting : (k o : ℕ) (p : Draft) → eqb k 9 ≡ true → nodes (counting k o p) ≡ nodes p
nodes_counting k o p e = (counted_keeps written written_spared k o p.notes (let q : k ≡ 9 = eqb-true k 9 e in omega (arith, q))).same

module _ (s : List ℕ) where
  -- ---- leaves

  pub leaf_name : (t : Token) → eqb t.kind nameKind ≡ true → leaf_of t ≡ named (record { start = t.start; end = t.end })
  unfolding leaf_of
  leaf_name t e = pick_true _ _ _ e

  pub leaf_number : (t : Token) → eqb t.kind nameKind ≡ false → eqb t.kind numberKind ≡ true → leaf_of t ≡ numeral t.value t.start
  unfolding leaf_of
  leaf_number t e f = pick_false _ _ _ e ∙ pick_true _ _ _ f

  pub leaf_string : (t : Token) → eqb t.kind nameKind ≡ false → eqb t.kind numberKind ≡ false → eqb t.kind string_kind ≡ true
      → leaf_of t ≡ quoted (record { start = t.start + 1; end = t.end - 1 }) t.start
  unfolding leaf_of
  leaf_string t e f g = pick_false _ _ _ e ∙ pick_false _ _ _ f ∙ pick_true _ _ _ g

  pub leaf_now : (t : Token) → eqb t.kind nameKind ≡ false → eqb t.kind numberKind ≡ false → eqb t.kind string_kind ≡ false → leaf_of t ≡ fixed t.kind t.start
  unfolding leaf_of
  leaf_now t e f g = pick_false _ _ _ e ∙ pick_false _ _ _ f ∙ pick_false _ _ _ g

  fixed_true : (k : ℕ) → eqb k true_word ≡ true → fixed_node k ≡ true_kind
  unfolding pick
  fixed_true k e = ap fixed_node (eqb-true k true_word e)

  fixed_false : (k : ℕ) → eqb k false_word ≡ true → fixed_node k ≡ false_kind
  unfolding pick
  fixed_false k e = ap fixed_node (eqb-true k false_word e)

  module _ (h : Bool) where
    abbrev run : Term → Draft → Draft
    run = run_term s h

    fixed_leaf : (k o j : ℕ) (p : Draft) → fixed_node k ≡ j → put_leaf j 0 o p ≡ run (fixed k o) p
    unfolding run_term
    fixed_leaf k o j p e = ap (λ n. put_leaf n 0 o p) (sym e)

    string_run : (c : Cursor) (p : Draft) → ltb c.start c.end ≡ true → string_leaf s c p ≡ run (quoted (record { start = c.start + 1; end = c.end - 1 }) c.start) p
    unfolding string_leaf run_term
    string_run c p e = ap (λ a. said a (inner_end s c)) (pick_true _ _ _ e) ∙ ap (said (c.start + 1)) (pick_true _ _ _ e)
      where
        said : ℕ → ℕ → Draft
        said a e =
            put stringNode (number_in s (counted 9 c.start p.notes) 6 (between s a e))
            (nodes (mention s 6 a e c.start (counting 9 c.start p)))
            (mention s 6 a e c.start (counting 9 c.start p))

    -- a leaf of this token
    one_leaf : (at : ℕ) (p q : Draft) (t : Term) → is_one_of leaves (cursor_at s at).kind ≡ true → leaf_of (token_of (cursor_at s at)) ≡ t → q ≡ run t p
        → on (cursor_at s (cursor_at s at).end) q ≡ walked s run (and_then (token_in s leaves at) (λ t. give (leaf_of t))) p
    one_leaf at p q t e f g =
        in_run s run p leaves at _ _ leaves_plain e
        (done_run s run p (leaf_of (token_of (cursor_at s at))) (cursor_at s at).end q (g ∙ ap (λ t. run t p) (sym f)))

    leaf_run : (at : ℕ) (p : Draft) → leaf s h (cursor_at s at) p ≡ walked s run (and_then (token_in s leaves at) (λ t. give (leaf_of t))) p
    unfolding leaf run_term
    leaf_run at p =
        by_cases P (eqb k nameKind) _ _
        (λ a. one_leaf at p _ (named (span_of c)) (is_first k nameKind _ a) (leaf_name (token_of c) a) refl)
        (λ a. by_cases P (eqb k numberKind) _ _
        (λ b. one_leaf at p _ (numeral c.value c.start) (is_later k nameKind _ true a (is_first k numberKind _ b)) (leaf_number (token_of c) a b) refl)
        (λ b. by_cases P (eqb k string_kind) _ _
        (λ d.
        let i : is_one_of leaves k ≡ true = is_later k nameKind _ true a (is_later k numberKind _ true b (is_first k string_kind _ d)) in
        one_leaf at p _ (quoted (record { start = c.start + 1; end = c.end - 1 }) c.start) i (leaf_string (token_of c) a b d)
        (string_run c p (lt-ltb _ _ (forward s leaves at leaves_plain i).1)))
        (λ d. by_cases P (eqb k now_word) _ _
        (λ e. one_leaf at p _ (fixed k c.start)
        (is_later k nameKind _ true a (is_later k numberKind _ true b (is_later k string_kind _ true d (is_first k now_word _ e))))
        (leaf_now (token_of c) a b d) (ap (λ n. put_leaf n 0 c.start p) (sym (now_node k e))))
        (λ e. out_run s run p leaves at _
        (is_later k nameKind _ false a (is_later k numberKind _ false b (is_later k string_kind _ false d (is_later k now_word [] false e none))))))))
      where
        c : Cursor
        c = cursor_at s at

        k : ℕ
        k = (cursor_at s at).kind

        P : Walk → Type 0
        P w = w ≡ walked s run (and_then (token_in s leaves at) (λ t. give (leaf_of t))) p

        none : is_one_of [] k ≡ false
        none = no_kind k

    -- ---- expressions

    -- what is inside parentheses
    pub record Inside (here : ℕ → Cursor → Draft → Walk) (there : ℕ → Parser Term) : Type 0 where
      pub agrees : (o at : ℕ) (p : Draft) → here o (cursor_at s at) p ≡ walked s run (there o at) p

    pub record Operand (here : Cursor → Draft → Walk) (there : Parser Term) : Type 0 where
      pub agrees : (at : ℕ) (p : Draft) → here (cursor_at s at) p ≡ walked s run (there at) p

    pub enclosed_run : (here : ℕ → Cursor → Draft → Walk) (there : ℕ → Parser Term) → Inside here there → (at : ℕ) (p : Draft)
        → eqb (cursor_at s at).kind open_paren ≡ true
        → walk.enclosed s (here (cursor_at s at).start (cursor_at s (cursor_at s at).end) p) ≡ walked s run (grammar.enclosed s there at) p
    unfolding grammar.enclosed
    enclosed_run here there i at p e =
        one_in_run s run p open_paren at _ _ (plain_one open_paren refl refl) e
        (follow_run s run p run (there (cursor_at s at).start (cursor_at s at).end) _ p _ _ (i.agrees (cursor_at s at).start (cursor_at s at).end p)
        (λ t n _. after_token s run p close_paren n _ _ (plain_one close_paren refl refl) (λ _. done_run s run p t (cursor_at s n).end _ refl)))

    pub factor_run : (here : ℕ → Cursor → Draft → Walk) (there : ℕ → Parser Term) → Inside here there → Operand (walk.factor s h here) (grammar.factor s there)
    unfolding walk.factor grammar.factor
    factor_run here there i = record {
      agrees = λ at p.
          one_next_run s run p open_paren at _ _ _ _ (plain_one open_paren refl refl)
          (enclosed_run here there i at p)
          (λ _. leaf_run at p);
    }

    -- one more operator and operand
    abbrev one_more_operand : ℕ → Parser Term → Term → Parser Term
    one_more_operand r there l at = and_then (token_in s (operators r) at) (λ o n. and_then (there n) (λ u. give (operated o.kind o.start l u)))

    abbrev operated_here : (Cursor → Draft → Walk) → ℕ → Cursor → Draft → Walk
    operated_here here before c q =
        follow (here (cursor_at s c.end) (counting 9 c.start q)) (λ d t. on d (put (operator_node c.kind) 0 before t))

    row_run : (r : ℕ) (here : Cursor → Draft → Walk) (there : Parser Term) → Operand here there → (p : Draft) (f : ℕ) (l : Term) (at : ℕ)
        → row_from s r here (nodes p) f (cursor_at s at) (run l p) ≡ walked s run (repeated s (operators r) (one_more_operand r there) f l at) p
    unfolding row_from run_term
    row_run r here there i p =
        loop_run s run p (row_from s r here (nodes p)) (operated_here here (nodes p)) (operators r) (one_more_operand r there) (operators_plain r)
        (λ c q. refl)
        (λ f c q.
        ap (λ w. pick (is_one_of (operators r) c.kind) w (on c q))
        (follow_on (here (cursor_at s c.end) (counting 9 c.start q)) (put (operator_node c.kind) 0 (nodes p)) (row_from s r here (nodes p) f)))
        (λ l at e.
        in_run s run p (operators r) at _ _ (operators_plain r) e
        (follow_run s run p run (there (cursor_at s at).end) _ (counting 9 (cursor_at s at).start (run l p)) _ _ (i.agrees (cursor_at s at).end _)
        (λ u n _. done_run s run p (operated (cursor_at s at).kind (cursor_at s at).start l u) n _ refl)))

    pub chain_run : (r : ℕ) (here : Cursor → Draft → Walk) (there : Parser Term) → Operand here there → Operand (walk.chain s r here) (grammar.chain s r there)
    unfolding walk.chain grammar.chain
    chain_run r here there i = record {
      agrees = λ at p.
          follow_run s run p run (there at) _ p _ _ (i.agrees at p) (λ t n _. row_run r here there i p (length s) t n);
    }

    pub sum_run : (here : ℕ → Cursor → Draft → Walk) (there : ℕ → Parser Term) → Inside here there
        → Operand (walk.chain s 2 (walk.chain s 3 (walk.factor s h here))) (grammar.sum s there)
    sum_run here there i = chain_run 2 _ _ (chain_run 3 _ _ (factor_run here there i))

    pub inside_expression_run : (n : ℕ) → Inside (walk.inside_expression s h n) (grammar.inside_expression s n)
    unfolding walk.inside_expression grammar.inside_expression walked
    inside_expression_run zero = record { agrees = λ o at p. refl }
    inside_expression_run (suc n) = record { agrees = λ o at p. (sum_run _ _ (inside_expression_run n)).agrees at p }

    pub expression_run : (n : ℕ) → Operand (walk.expression s h n) (grammar.expression s n)
    expression_run n = sum_run _ _ (inside_expression_run n)

    -- ---- conditions

    comparison_run : (n : ℕ) → Operand (walk.comparison s h n) (grammar.comparison s n)
    unfolding walk.comparison grammar.comparison run_term
    comparison_run n = record {
      agrees = λ at p.
          follow_run s run p run (grammar.expression s n at) _ p _ _ ((expression_run n).agrees at p)
          (λ t m _. pick_in_run s run p comparisons m _ _ comparisons_plain
          (λ _. follow_run s run p run (grammar.expression s n (cursor_at s m).end) _ (counting 9 (cursor_at s m).start (run t p)) _ _ ((expression_run n).agrees (cursor_at s m).end _)
          (λ u o _. done_run s run p (operated (cursor_at s m).kind (cursor_at s m).start t u) o _ refl)));
    }

    simple_run : (n : ℕ) (here : ℕ → Cursor → Draft → Walk) (there : ℕ → Parser Term) → Inside here there → Operand (walk.simple s h n here) (grammar.simple s n there)
    unfolding walk.simple grammar.simple
    simple_run n here there i = record {
      agrees = λ at p.
          one_next_run s run p open_paren at _ _ _ _ (plain_one open_paren refl refl)
          (enclosed_run here there i at p)
          (λ _. fixed_or at p);
    }
      where
        fixed_at : (at : ℕ) (p : Draft) (j : ℕ) → fixed_node (cursor_at s at).kind ≡ j → is_one_of (true_word ∷ false_word ∷ []) (cursor_at s at).kind ≡ true
            → on (cursor_at s (cursor_at s at).end) (put_leaf j 0 (cursor_at s at).start p)
            ≡ walked s run (pick (next_in s (true_word ∷ false_word ∷ []) at) (and_then (token_in s (true_word ∷ false_word ∷ []) at) (λ t. give (fixed t.kind t.start))) (grammar.comparison s n at)) p
        fixed_at at p j g e =
            next_in_run s run p (true_word ∷ false_word ∷ []) at _ _ _ fixed_plain e
            (in_run s run p (true_word ∷ false_word ∷ []) at _ _ fixed_plain e
            (done_run s run p (fixed (cursor_at s at).kind (cursor_at s at).start) (cursor_at s at).end _ (fixed_leaf (cursor_at s at).kind (cursor_at s at).start j p g)))

        fixed_or : (at : ℕ) (p : Draft)
            → pick (eqb (cursor_at s at).kind true_word) (on (cursor_at s (cursor_at s at).end) (put_leaf true_kind 0 (cursor_at s at).start p))
            (pick (eqb (cursor_at s at).kind false_word) (on (cursor_at s (cursor_at s at).end) (put_leaf false_kind 0 (cursor_at s at).start p)) (walk.comparison s h n (cursor_at s at) p))
            ≡ walked s run (pick (next_in s (true_word ∷ false_word ∷ []) at) (and_then (token_in s (true_word ∷ false_word ∷ []) at) (λ t. give (fixed t.kind t.start))) (grammar.comparison s n at)) p
        fixed_or at p =
            by_cases P (eqb k true_word) _ _
            (λ a. fixed_at at p true_kind (fixed_true k a) (is_first k true_word _ a))
            (λ a. by_cases P (eqb k false_word) _ _
            (λ b. fixed_at at p false_kind (fixed_false k b) (is_later k true_word _ true a (is_first k false_word _ b)))
            (λ b. next_out_run s run p (true_word ∷ false_word ∷ []) at _ _ _ fixed_plain (is_later k true_word _ false a (is_later k false_word [] false b (no_kind k))) ((comparison_run n).agrees at p)))
          where
            k : ℕ
            k = (cursor_at s at).kind

            P : Walk → Type 0
            P w = w ≡ walked s run (pick (next_in s (true_word ∷ false_word ∷ []) at) (and_then (token_in s (true_word ∷ false_word ∷ []) at) (λ t. give (fixed t.kind t.start))) (grammar.comparison s n at)) p

    -- `~` in a row, the last of them first
    unfoldable run_nots : List ℕ → Draft → Draft
    run_nots [] p = p
    run_nots (o ∷ ps) p = counting 9 o (run_nots ps p)

    nodes_nots : (ps : List ℕ) (p : Draft) → nodes (run_nots ps p) ≡ nodes p
    unfolding run_nots
    nodes_nots [] p = refl
    nodes_nots (o ∷ ps) p = nodes_counting 9 o (run_nots ps p) refl ∙ nodes_nots ps p

    negations_run : (ps : List ℕ) (t : Term) (p : Draft) → negations (length ps) (nodes p) (run t (run_nots ps p)) ≡ run (negated_at ps t) p
    unfolding run_nots negations negated_at run_term
    negations_run [] t p = refl
    negations_run (o ∷ ps) t p =
        ap (λ b. negations (length ps) (nodes p) (put not_kind 0 b (run t (counting 9 o (run_nots ps p))))) (sym (nodes_nots ps p))
        ∙ negations_run ps (negated o t) p

    abbrev one_more_not : List ℕ → Parser (List ℕ)
    one_more_not ps at = and_then (token_in s (not_mark ∷ []) at) (λ o. give (o.start ∷ ps))

    nots_run : (go : ℕ → Cursor → Draft → Walk) (g : List ℕ → Parser Term) (p : Draft)
        → ((ps : List ℕ) (n : ℕ) → go (length ps) (cursor_at s n) (run_nots ps p) ≡ walked s run (g ps n) p)
        → (f : ℕ) (ps : List ℕ) (at : ℕ)
        → nots s f (length ps) (cursor_at s at) (run_nots ps p) go ≡ walked s run (and_then (repeated s (not_mark ∷ []) one_more_not f ps at) g) p
    unfolding nots repeated run_nots
    nots_run go g p i zero ps at = i ps at
    nots_run go g p i (suc f) ps at =
        one_next_run s run p not_mark at _ _ _ _ (plain_one not_mark refl refl)
        (λ e.
        ap (λ m. nots s f m (cursor_at s c.end) (counting 9 c.start (run_nots ps p)) go) (add-one (length ps))
        ∙ nots_run go g p i f (c.start ∷ ps) c.end
        ∙ sym (ap (λ r. walked s run (and_then (and_then r (repeated s (not_mark ∷ []) one_more_not f)) g) p) (not_in at ps e)))
        (λ e. i ps at)
        ∙ ap (λ r. walked s run r p) (sym (pick_then (next_in s (not_mark ∷ []) at) _ _ g))
      where
        c : Cursor
        c = cursor_at s at

        not_in : (at : ℕ) (ps : List ℕ) → eqb (cursor_at s at).kind not_mark ≡ true → one_more_not ps at ≡ done ((cursor_at s at).start ∷ ps) (cursor_at s at).end
        not_in at ps e = ap (λ r. and_then r (λ o. give (o.start ∷ ps))) (token_in_lem s (not_mark ∷ []) at (plain_one not_mark refl refl) (one_kind not_mark (cursor_at s at).kind ∙ e))

    primary_run : (n : ℕ) (here : ℕ → Cursor → Draft → Walk) (there : ℕ → Parser Term) → Inside here there → Operand (walk.primary s h n here) (grammar.primary s n there)
    unfolding walk.primary grammar.primary run_nots
    primary_run n here there i = record {
      agrees = λ at p.
          nots_run (λ m d q. follow (walk.simple s h n here d q) (λ e t. on e (negations m (nodes p) t))) _ p
          (λ ps m. follow_run s run p run (grammar.simple s n there m) _ (run_nots ps p) _ _ ((simple_run n here there i).agrees m (run_nots ps p))
          (λ t o _. done_run s run p (negated_at ps t) o _ (negations_run ps t p)))
          (length s) [] at;
    }

    pub choice_run : (n : ℕ) (here : ℕ → Cursor → Draft → Walk) (there : ℕ → Parser Term) → Inside here there
        → Operand (walk.chain s 0 (walk.chain s 1 (walk.primary s h n here))) (grammar.choice s n there)
    choice_run n here there i = chain_run 0 _ _ (chain_run 1 _ _ (primary_run n here there i))

    pub inside_condition_run : (n : ℕ) → Inside (walk.inside_condition s h n) (grammar.inside_condition s n)
    unfolding walk.inside_condition grammar.inside_condition walked
    inside_condition_run zero = record { agrees = λ o at p. refl }
    inside_condition_run (suc n) = record { agrees = λ o at p. (choice_run n _ _ (inside_condition_run n)).agrees at p }

    pub condition_run : (n : ℕ) → Operand (walk.condition s h n) (grammar.condition s n)
    condition_run n = choice_run n _ _ (inside_condition_run n)
