-- An expression that starts with a name is that name alone exactly if it ends where the name does. Assumes nothing.
use mathlib.Core.Path.{◌≡◌, refl, sym, ap, subst, ◌∙◌}
use mathlib.Core.Bool.{Bool, true, false}
use mathlib.Core.List.{List, [], ◌∷◌}
use Prim.Native.Nat.{ℕ, zero, suc, ◌≤◌, ◌<◌}
use native.Mathlib.Omega.{arith}
use lib.ListN.{length}
use lib.Dec.{eqb}
use borrow.Author.Tests.{ne_eqb, eq-eqb}
use Rattle.laws.proofs.Choice.{by_cases, pick_true, pick_false}
use Rattle.words.specs.Words.{open_paren, close_paren}
use Rattle.tokens.specs.Tokens.{token_at, name as nameKind, number as numberKind, string as string_kind}
use Rattle.tokens.specs.declared.Token.{Token}
use Rattle.tokens.specs.declared.Lexed.{Lexed}
use Rattle.tokens.specs.declared.Lexed.TheVariants.{Found, Refused, End}
use Rattle.reading_laws.specs.Walk.{Cursor}
use Rattle.reading.specs.Syntax.{Span, Term, named, operated}
use Rattle.reading.specs.Grammar.{Parsed, done, no, Parser, and_then, give, is_one_of, operators, leaves, leaf_of, unfit, next_in, token_in, repeated, enclosed, factor, chain, sum, inside_expression, expression, misfit, whole_move}
use Rattle.reading_laws.specs.Walk.{cursor_at, is_alone}
use Rattle.reading_laws.proofs.WalksTokens.{Plain, one_kind, plain_one, token_of, span_of, forward, at_is, next_is, token_in_lem, token_out}
use Rattle.reading_laws.proofs.WalksTerms.{leaves_plain, operators_plain, leaf_name, leaf_number, leaf_string, leaf_now}

-- what holds of what a parser gives and of where it ends
abbrev pub Ends : {A : Type 0} → (A → ℕ → Type 0) → Parsed A → Type 0
Ends P (done a n) = P a n
Ends P (no q o) = Unit {0}

pub ends_then : {A B : Type 0} (P : A → ℕ → Type 0) (Q : B → ℕ → Type 0) (r : Parsed A) (f : A → Parser B) → Ends P r → ((a : A) (n : ℕ) → P a n → Ends Q (f a n)) → Ends Q (and_then r f)
ends_then P Q (done a n) f e h = h a n e
ends_then P Q (no q o) f e h = tt

pub data First (c : Cursor) (e : Term) (m : ℕ) : Type 0 where
  leafed : e ≡ leaf_of (token_of c) → m ≡ c.end → First c e m
  joined : (k o : ℕ) (t u : Term) → e ≡ operated k o t u → c.end < m → First c e m

module _ (s : List ℕ) where
  unfit_ends : {A : Type 0} (P : A → ℕ → Type 0) (l : Lexed) → Ends P (unfit s l)
  unfolding unfit
  unfit_ends P (Found t) = tt
  unfit_ends P (Refused q o) = tt
  unfit_ends P End = tt

  -- a token ends after the place where it was looked for
  token_ends : (P : Token → ℕ → Type 0) (ks : List ℕ) (at : ℕ) → Plain ks
      → (is_one_of ks (cursor_at s at).kind ≡ true → at < (cursor_at s at).end → P (token_of (cursor_at s at)) (cursor_at s at).end) → Ends P (token_in s ks at)
  token_ends P ks at h f = go (is_one_of ks (cursor_at s at).kind) refl
    where
      go : (b : Bool) → is_one_of ks (cursor_at s at).kind ≡ b → Ends P (token_in s ks at)
      go true e =
          let a = forward s ks at h e in
          let l : at < (cursor_at s at).end = omega (arith, a.0, a.1) in
          subst (Ends P) (sym (token_in_lem s ks at h e)) (f e l)
      go false e = subst (Ends P) (sym (token_out s ks at e)) (unfit_ends P (token_at s at))

  pub record Onward (there : Parser Term) : Type 0 where
    pub past : (at : ℕ) → Ends (λ t n. at < n) (there at)

  pub record InsideOnward (there : ℕ → Parser Term) : Type 0 where
    pub past : (o at : ℕ) → Ends (λ t n. at < n) (there o at)

  factor_onward : (there : ℕ → Parser Term) → InsideOnward there → Onward (factor s there)
  unfolding factor enclosed
  factor_onward there i = record {
    past = λ at.
        by_cases (Ends (λ t n. at < n)) (next_in s (open_paren ∷ []) at) _ _
        (λ _. ends_then (λ t n. at < n) _ (token_in s (open_paren ∷ []) at) _ (token_ends (λ t n. at < n) (open_paren ∷ []) at (plain_one open_paren refl refl) (λ _ l. l))
        (λ o n a. ends_then (λ t m. n < m) _ (there o.start n) _ (i.past o.start n)
        (λ t m b. ends_then (λ t k. m < k) _ (token_in s (close_paren ∷ []) m) _ (token_ends (λ t k. m < k) (close_paren ∷ []) m (plain_one close_paren refl refl) (λ _ l. l))
        (λ _ k d. omega (arith, a, b, d)))))
        (λ _. ends_then (λ t n. at < n) _ (token_in s leaves at) _ (token_ends (λ t n. at < n) leaves at leaves_plain (λ _ l. l)) (λ t n l. l));
  }

  rows_onward : (r : ℕ) (there : Parser Term) → Onward there → (at : ℕ) (f : ℕ) (l : Term) (m : ℕ) → at < m
      → Ends (λ t n. at < n) (repeated s (operators r) (λ l k. and_then (token_in s (operators r) k) (λ o n. and_then (there n) (λ u. give (operated o.kind o.start l u)))) f l m)
  unfolding repeated
  rows_onward r there i at zero l m a = a
  rows_onward r there i at (suc f) l m a =
      by_cases (Ends (λ t n. at < n)) (next_in s (operators r) m) _ _
      (λ _. ends_then (λ t n. at < n) _ (and_then (token_in s (operators r) m) _) _
      (ends_then (λ t n. m < n) _ (token_in s (operators r) m) _ (token_ends (λ t n. m < n) (operators r) m (operators_plain r) (λ _ l. l))
      (λ o n b. ends_then (λ t k. n < k) _ (there n) _ (i.past n) (λ u k d. omega (arith, a, b, d))))
      (λ t n b. rows_onward r there i at f t n b))
      (λ _. a)

  chain_onward : (r : ℕ) (there : Parser Term) → Onward there → Onward (chain s r there)
  unfolding chain
  chain_onward r there i = record {
    past = λ at. ends_then (λ t n. at < n) _ (there at) _ (i.past at) (λ t n a. rows_onward r there i at (length s) t n a);
  }

  sum_onward : (there : ℕ → Parser Term) → InsideOnward there → Onward (sum s there)
  sum_onward there i = chain_onward 2 _ (chain_onward 3 _ (factor_onward there i))

  inside_onward : (n : ℕ) → InsideOnward (inside_expression s n)
  unfolding inside_expression
  inside_onward zero = record { past = λ o at. tt }
  inside_onward (suc n) = record { past = λ o at. (sum_onward _ (inside_onward n)).past at }

  -- ---- an expression whose first token is no parenthesis

  module _ (at : ℕ) (outside : eqb (cursor_at s at).kind open_paren ≡ false) where
    abbrev c : Cursor
    c = cursor_at s at

    factor_first : (there : ℕ → Parser Term) → Ends (First c) (factor s there at)
    unfolding factor
    factor_first there =
        subst (Ends (First c)) (sym (pick_false _ _ _ (next_is s (open_paren ∷ []) at (plain_one open_paren refl refl) ∙ one_kind open_paren (cursor_at s at).kind ∙ outside)))
        (ends_then (λ t n. First c (leaf_of t) n) _ (token_in s leaves at) _ (token_ends (λ t n. First c (leaf_of t) n) leaves at leaves_plain (λ _ l. leafed refl refl)) (λ t n f. f))

    first_past : (e : Term) (m : ℕ) → First c e m → c.end ≤ m
    first_past e m (leafed f g) = omega (arith, g)
    first_past e m (joined k o t u f g) = omega (arith, g)

    rows_first : (r : ℕ) (there : Parser Term) → Onward there → (f : ℕ) (l : Term) (m : ℕ) → First c l m
        → Ends (First c) (repeated s (operators r) (λ l k. and_then (token_in s (operators r) k) (λ o n. and_then (there n) (λ u. give (operated o.kind o.start l u)))) f l m)
    unfolding repeated
    rows_first r there i zero l m a = a
    rows_first r there i (suc f) l m a =
        by_cases (Ends (First c)) (next_in s (operators r) m) _ _
        (λ _. ends_then (First c) _ (and_then (token_in s (operators r) m) _) _
        (ends_then (λ t n. m < n) _ (token_in s (operators r) m) _ (token_ends (λ t n. m < n) (operators r) m (operators_plain r) (λ _ l. l))
        (λ o n b. ends_then (λ t k. n < k) _ (there n) _ (i.past n)
        (λ u k d. joined o.kind o.start l u refl (omega (arith, first_past l m a, b, d)))))
        (λ t n b. rows_first r there i f t n b))
        (λ _. a)

    chain_first : (r : ℕ) (there : Parser Term) → Onward there → Ends (First c) (there at) → Ends (First c) (chain s r there at)
    unfolding chain
    chain_first r there i a = ends_then (First c) _ (there at) _ a (λ t n f. rows_first r there i (length s) t n f)

    expression_first : (n : ℕ) → Ends (First c) (expression s n at)
    expression_first n =
        chain_first 2 _ (chain_onward 3 _ (factor_onward _ (inside_onward n)))
        (chain_first 3 _ (factor_onward _ (inside_onward n)) (factor_first (inside_expression s n)))

    -- ---- one name alone

    pub data Alone (e : Term) (m : ℕ) : Type 0 where
      alone : is_alone s c (cursor_at s m) ≡ true → e ≡ named (span_of c) → Alone e m
      among : is_alone s c (cursor_at s m) ≡ false → ((x : Span) (n : ℕ) → whole_move s e x n ≡ misfit s n) → Alone e m

    leaf_whole : (t : Token) → eqb t.kind nameKind ≡ false → (x : Span) (n : ℕ) → whole_move s (leaf_of t) x n ≡ misfit s n
    unfolding whole_move
    leaf_whole t e x n = go (eqb t.kind numberKind) (eqb t.kind string_kind) refl refl
      where
        go : (a b : Bool) → eqb t.kind numberKind ≡ a → eqb t.kind string_kind ≡ b → whole_move s (leaf_of t) x n ≡ misfit s n
        go true b f g = ap (λ (l : Term). whole_move s l x n) (leaf_number s t e f)
        go false true f g = ap (λ (l : Term). whole_move s l x n) (leaf_string s t e f g)
        go false false f g = ap (λ (l : Term). whole_move s l x n) (leaf_now s t e f g)

    alone_or : (e : Term) (m : ℕ) → First c e m → Alone e m
    unfolding whole_move
    alone_or e m (leafed f g) = go (eqb c.kind nameKind) refl
      where
        go : (b : Bool) → eqb c.kind nameKind ≡ b → Alone e m
        go true q = alone (pick_true _ _ _ q ∙ eq-eqb _ _ (at_is s m ∙ g)) (f ∙ leaf_name s (token_of c) q)
        go false q = among (pick_false _ _ _ q) (λ x n. ap (λ (l : Term). whole_move s l x n) f ∙ leaf_whole (token_of c) q x n)
    alone_or e m (joined k o t u f g) =
        among (by_cases (λ b. b ≡ false) (eqb c.kind nameKind) _ _ (λ _. ne_eqb _ _ (λ q. let w : m ≡ c.end = sym (at_is s m) ∙ q in omega (arith, w, g))) (λ _. refl))
        (λ x n. ap (λ (l : Term). whole_move s l x n) f)

    pub expression_alone : (n : ℕ) (e : Term) (m : ℕ) → expression s n at ≡ done e m → Alone e m
    expression_alone n e m f = alone_or e m (subst (Ends (First c)) f (expression_first n))
