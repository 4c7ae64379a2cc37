-- The cursor of the pass beside the grammar's tokens. Assumes nothing.
use mathlib.Core.Path.{◌≡◌, refl, sym, ap, ◌∙◌}
use mathlib.Core.Bool.{Bool, true, false}
use mathlib.Core.List.{List, [], ◌∷◌}
use Prim.Native.Nat.{ℕ, zero, suc, ◌≤◌, ◌<◌}
use lib.ListN.{length}
use lib.Dec.{eqb}
use Rattle.laws.specs.Choice.{pick}
use Rattle.laws.proofs.Choice.{by_cases, pick_true, pick_false, true_false}
use Rattle.tokens.specs.Tokens.{token_at, name as nameKind}
use Rattle.tokens.specs.declared.Token.{Token}
use Rattle.tokens.specs.declared.Lexed.{Lexed}
use Rattle.tokens.specs.declared.Lexed.TheVariants.{Found, Refused, End}
use Rattle.tokens.proofs.Facts.{progress}
use Rattle.words.specs.Words.{at_sign}
use Rattle.entries.specs.Draft.{Draft}
use Rattle.reading_laws.specs.Walk.{Cursor}
use Rattle.reading_laws.specs.Walk.{Step}
use Rattle.reading_laws.specs.Walk.{On, Stop}
use Rattle.reading.specs.Syntax.{Span}
use Rattle.reading.specs.Grammar.{Parsed, done, no, Parser, and_then, give, on_found, is_one_of, unfit, misfit, next_in, token_in, place, repeated, name, state}
use Rattle.reading_laws.specs.Walk.{Walk, on, stop, after, follow, no_token, text_end, cursor_of, cursor_at, token, name_here, state_at}
use Rattle.reading_laws.specs.Walk as walk
use Rattle.reading_laws.proofs.Run.{walked}

-- kinds of tokens: none of a cursor where no token is
pub record Plain (ks : List ℕ) : Type 0 where
  pub refused : is_one_of ks no_token ≡ false
  pub ended : is_one_of ks text_end ≡ false

pub one_kind : (k j : ℕ) → is_one_of (k ∷ []) j ≡ eqb j k
unfolding is_one_of pick
one_kind k j = go (eqb j k)
  where
    go : (b : Bool) → pick b true false ≡ b
    go true = refl
    go false = refl

pub plain_one : (k : ℕ) → eqb no_token k ≡ false → eqb text_end k ≡ false → Plain (k ∷ [])
plain_one k e f = record { refused = one_kind k no_token ∙ e; ended = one_kind k text_end ∙ f }

abbrev pub token_of : Cursor → Token
token_of c = record { kind = c.kind; start = c.start; end = c.end; value = c.value }

abbrev pub span_of : Cursor → Span
span_of c = record { start = c.start; end = c.end }

pub assoc : {A B C : Type 0} (r : Parsed A) (f : A → Parser B) (g : B → Parser C) → and_then (and_then r f) g ≡ and_then r (λ a n. and_then (f a n) g)
assoc (done a n) f g = refl
assoc (no q p) f g = refl

pub pick_then : {A B : Type 0} (b : Bool) (m k : Parsed A) (g : A → Parser B) → and_then (pick b m k) g ≡ pick b (and_then m g) (and_then k g)
unfolding pick
pick_then true m k g = refl
pick_then false m k g = refl

pub follow_after : (w : Step) (f : Cursor → Walk) (g : Cursor → Draft → Walk) → follow (after w f) g ≡ after w (λ c. follow (f c) g)
follow_after (On c) f g = refl
follow_after (Stop q o) f g = refl

pub follow_follow : (w : Walk) (f g : Cursor → Draft → Walk) → follow (follow w f) g ≡ follow w (λ c p. follow (f c p) g)
follow_follow (on c p) f g = refl
follow_follow (stop q o) f g = refl

module _ (s : List ℕ) where
  pub next_is : (ks : List ℕ) (at : ℕ) → Plain ks → next_in s ks at ≡ is_one_of ks (cursor_at s at).kind
  unfolding next_in cursor_of
  next_is ks at h = go (token_at s at)
    where
      go : (l : Lexed) → on_found l (λ t. is_one_of ks t.kind) false ≡ is_one_of ks (cursor_of s at l).kind
      go (Found t) = refl
      go (Refused q p) = sym h.refused
      go End = sym h.ended

  pub token_in_lem : (ks : List ℕ) (at : ℕ) → Plain ks → is_one_of ks (cursor_at s at).kind ≡ true → token_in s ks at ≡ done (token_of (cursor_at s at)) (cursor_at s at).end
  unfolding token_in cursor_of
  token_in_lem ks at h = go (token_at s at)
    where
      go : (l : Lexed) → is_one_of ks (cursor_of s at l).kind ≡ true
          → on_found l (λ t. pick (is_one_of ks t.kind) (done t t.end) (misfit s at)) (misfit s at) ≡ done (token_of (cursor_of s at l)) (cursor_of s at l).end
      go (Found t) e = pick_true _ _ _ e
      go (Refused q p) e = true_false (sym e ∙ h.refused)
      go End e = true_false (sym e ∙ h.ended)

  pub token_out : (ks : List ℕ) (at : ℕ) → is_one_of ks (cursor_at s at).kind ≡ false → token_in s ks at ≡ unfit s (token_at s at)
  unfolding token_in cursor_of
  token_out ks at = go (token_at s at)
    where
      go : (l : Lexed) → is_one_of ks (cursor_of s at l).kind ≡ false
          → on_found l (λ t. pick (is_one_of ks t.kind) (done t t.end) (misfit s at)) (misfit s at) ≡ unfit s (token_at s at)
      go (Found t) e = pick_false _ _ _ e
      go (Refused q p) e = refl
      go End e = refl

  pub place_in : (ks : List ℕ) (at : ℕ) → Plain ks → is_one_of ks (cursor_at s at).kind ≡ true → place s at ≡ done (cursor_at s at).start at
  unfolding place cursor_of
  place_in ks at h = go (token_at s at)
    where
      go : (l : Lexed) → is_one_of ks (cursor_of s at l).kind ≡ true → done (on_found l (λ t. t.start) (length s)) at ≡ done (cursor_of s at l).start at
      go (Found t) e = refl
      go (Refused q p) e = true_false (sym e ∙ h.refused)
      go End e = true_false (sym e ∙ h.ended)

  -- a token is not empty, and lies in the text
  pub forward : (ks : List ℕ) (at : ℕ) → Plain ks → is_one_of ks (cursor_at s at).kind ≡ true → (at ≤ (cursor_at s at).start) × ((cursor_at s at).start < (cursor_at s at).end)
  unfolding cursor_of
  forward ks at h = go (token_at s at) refl
    where
      go : (l : Lexed) → token_at s at ≡ l → is_one_of ks (cursor_of s at l).kind ≡ true → (at ≤ (cursor_of s at l).start) × ((cursor_of s at l).start < (cursor_of s at l).end)
      go (Found t) q e = ((progress s at t q).0, (progress s at t q).1)
      go (Refused q p) _ e = true_false (sym e ∙ h.refused)
      go End _ e = true_false (sym e ∙ h.ended)

  pub at_is : (at : ℕ) → (cursor_at s at).at ≡ at
  unfolding cursor_of
  at_is at = go (token_at s at)
    where
      go : (l : Lexed) → (cursor_of s at l).at ≡ at
      go (Found t) = refl
      go (Refused q p) = refl
      go End = refl

  module _ {B : Type 0} (run : B → Draft → Draft) (p : Draft) where
    pub unfit_run : (at : ℕ) → walk.misfit s (cursor_at s at) ≡ walked s run (misfit s at) p
    unfolding walked unfit cursor_of
    unfit_run at = go (token_at s at)
      where
        go : (l : Lexed) → walk.misfit s (cursor_of s at l) ≡ walked s run (unfit s l) p
        go (Found t) = refl
        go (Refused q o) = refl
        go End = refl

    pub misfit_run : (at : ℕ) {A : Type 0} (g : A → Parser B) → walk.misfit s (cursor_at s at) ≡ walked s run (and_then (misfit s at) g) p
    unfolding walked unfit cursor_of
    misfit_run at {A} g = go (token_at s at)
      where
        go : (l : Lexed) → walk.misfit s (cursor_of s at l) ≡ walked s run (and_then {A = A} (unfit s l) g) p
        go (Found t) = refl
        go (Refused q o) = refl
        go End = refl

    -- no token of these kinds
    pub out_run : (ks : List ℕ) (at : ℕ) (g : Token → Parser B) → is_one_of ks (cursor_at s at).kind ≡ false
        → walk.misfit s (cursor_at s at) ≡ walked s run (and_then (token_in s ks at) g) p
    out_run ks at g e = misfit_run at g ∙ sym (ap (λ r. walked s run (and_then r g) p) (token_out ks at e))

    -- a token of these kinds
    pub in_run : (ks : List ℕ) (at : ℕ) (g : Token → Parser B) (x : Walk) → Plain ks → is_one_of ks (cursor_at s at).kind ≡ true
        → x ≡ walked s run (g (token_of (cursor_at s at)) (cursor_at s at).end) p → x ≡ walked s run (and_then (token_in s ks at) g) p
    in_run ks at g x h e i = i ∙ sym (ap (λ r. walked s run (and_then r g) p) (token_in_lem ks at h e))

    pub one_in_run : (k at : ℕ) (g : Token → Parser B) (x : Walk) → Plain (k ∷ []) → eqb (cursor_at s at).kind k ≡ true
        → x ≡ walked s run (g (token_of (cursor_at s at)) (cursor_at s at).end) p → x ≡ walked s run (and_then (token_in s (k ∷ []) at) g) p
    one_in_run k at g x h e i = in_run (k ∷ []) at g x h (one_kind k _ ∙ e) i

    -- a token of kind k or a refusal
    pub pick_run : (k at : ℕ) (g : Token → Parser B) (x : Walk) → Plain (k ∷ [])
        → (eqb (cursor_at s at).kind k ≡ true → x ≡ walked s run (g (token_of (cursor_at s at)) (cursor_at s at).end) p)
        → pick (eqb (cursor_at s at).kind k) x (walk.misfit s (cursor_at s at)) ≡ walked s run (and_then (token_in s (k ∷ []) at) g) p
    pick_run k at g x h f =
        by_cases (λ w. w ≡ walked s run (and_then (token_in s (k ∷ []) at) g) p) (eqb (cursor_at s at).kind k) x _
        (λ e. one_in_run k at g x h e (f e))
        (λ e. out_run (k ∷ []) at g (one_kind k _ ∙ e))

    pub pick_in_run : (ks : List ℕ) (at : ℕ) (g : Token → Parser B) (x : Walk) → Plain ks
        → (is_one_of ks (cursor_at s at).kind ≡ true → x ≡ walked s run (g (token_of (cursor_at s at)) (cursor_at s at).end) p)
        → pick (is_one_of ks (cursor_at s at).kind) x (walk.misfit s (cursor_at s at)) ≡ walked s run (and_then (token_in s ks at) g) p
    pick_in_run ks at g x h f =
        by_cases (λ w. w ≡ walked s run (and_then (token_in s ks at) g) p) (is_one_of ks (cursor_at s at).kind) x _
        (λ e. in_run ks at g x h e (f e))
        (λ e. out_run ks at g e)

    -- whether the next token is of these kinds
    pub next_run : (ks : List ℕ) (at : ℕ) (x y : Walk) (m k : Parsed B) → Plain ks
        → (is_one_of ks (cursor_at s at).kind ≡ true → x ≡ walked s run m p) → (is_one_of ks (cursor_at s at).kind ≡ false → y ≡ walked s run k p)
        → pick (is_one_of ks (cursor_at s at).kind) x y ≡ walked s run (pick (next_in s ks at) m k) p
    next_run ks at x y m k h f g =
        by_cases (λ w. w ≡ walked s run (pick (next_in s ks at) m k) p) (is_one_of ks (cursor_at s at).kind) x y
        (λ e. f e ∙ sym (ap (λ r. walked s run r p) (pick_true _ m k (next_is ks at h ∙ e))))
        (λ e. g e ∙ sym (ap (λ r. walked s run r p) (pick_false _ m k (next_is ks at h ∙ e))))

    pub one_next_run : (j at : ℕ) (x y : Walk) (m k : Parsed B) → Plain (j ∷ [])
        → (eqb (cursor_at s at).kind j ≡ true → x ≡ walked s run m p) → (eqb (cursor_at s at).kind j ≡ false → y ≡ walked s run k p)
        → pick (eqb (cursor_at s at).kind j) x y ≡ walked s run (pick (next_in s (j ∷ []) at) m k) p
    one_next_run j at x y m k h f g =
        by_cases (λ w. w ≡ walked s run (pick (next_in s (j ∷ []) at) m k) p) (eqb (cursor_at s at).kind j) x y
        (λ e. f e ∙ sym (ap (λ r. walked s run r p) (pick_true _ m k (next_is (j ∷ []) at h ∙ one_kind j _ ∙ e))))
        (λ e. g e ∙ sym (ap (λ r. walked s run r p) (pick_false _ m k (next_is (j ∷ []) at h ∙ one_kind j _ ∙ e))))

    -- the next token is, or is not, of these kinds
    pub next_in_run : (ks : List ℕ) (at : ℕ) (x : Walk) (m k : Parsed B) → Plain ks → is_one_of ks (cursor_at s at).kind ≡ true
        → x ≡ walked s run m p → x ≡ walked s run (pick (next_in s ks at) m k) p
    next_in_run ks at x m k h e f = f ∙ sym (ap (λ r. walked s run r p) (pick_true _ m k (next_is ks at h ∙ e)))

    pub next_out_run : (ks : List ℕ) (at : ℕ) (x : Walk) (m k : Parsed B) → Plain ks → is_one_of ks (cursor_at s at).kind ≡ false
        → x ≡ walked s run k p → x ≡ walked s run (pick (next_in s ks at) m k) p
    next_out_run ks at x m k h e f = f ∙ sym (ap (λ r. walked s run r p) (pick_false _ m k (next_is ks at h ∙ e)))

    place_any : (at : ℕ) (x : Walk) (g : ℕ → Parser B) → ((o : ℕ) → x ≡ walked s run (g o at) p) → x ≡ walked s run (and_then (place s at) g) p
    unfolding place
    place_any at x g h = h (on_found (token_at s at) (λ t. t.start) (length s))

    -- past a token
    pub after_token : (k at : ℕ) (f : Cursor → Walk) (g : Token → Parser B) → Plain (k ∷ [])
        → (eqb (cursor_at s at).kind k ≡ true → f (cursor_at s (cursor_at s at).end) ≡ walked s run (g (token_of (cursor_at s at)) (cursor_at s at).end) p)
        → after (token s k (cursor_at s at)) f ≡ walked s run (and_then (token_in s (k ∷ []) at) g) p
    unfolding token
    after_token k at f g h i =
        by_cases (λ w. after w f ≡ walked s run (and_then (token_in s (k ∷ []) at) g) p) (eqb (cursor_at s at).kind k) _ _
        (λ e. one_in_run k at g _ h e (i e))
        (λ e. out_run (k ∷ []) at g (one_kind k _ ∙ e))

    -- the place of a token, and past it
    pub place_token : (k at : ℕ) (f : Cursor → Walk) (g : ℕ → Token → Parser B) → Plain (k ∷ [])
        → (eqb (cursor_at s at).kind k ≡ true → f (cursor_at s (cursor_at s at).end) ≡ walked s run (g (cursor_at s at).start (token_of (cursor_at s at)) (cursor_at s at).end) p)
        → after (token s k (cursor_at s at)) f ≡ walked s run (and_then (place s at) (λ o n. and_then (token_in s (k ∷ []) n) (g o))) p
    unfolding token
    place_token k at f g h i =
        by_cases (λ w. after w f ≡ walked s run (and_then (place s at) (λ o n. and_then (token_in s (k ∷ []) n) (g o))) p) (eqb (cursor_at s at).kind k) _ _
        (λ e. one_in_run k at (g (cursor_at s at).start) _ h e (i e)
        ∙ sym (ap (λ r. walked s run (and_then r (λ o n. and_then (token_in s (k ∷ []) n) (g o))) p) (place_in (k ∷ []) at h (one_kind k (cursor_at s at).kind ∙ e))))
        (λ e. place_out k at g (one_kind k (cursor_at s at).kind ∙ e))
      where
        place_out : (k at : ℕ) (g : ℕ → Token → Parser B) → is_one_of (k ∷ []) (cursor_at s at).kind ≡ false
            → walk.misfit s (cursor_at s at) ≡ walked s run (and_then (place s at) (λ o n. and_then (token_in s (k ∷ []) n) (g o))) p
        place_out k at g e = place_any at _ _ (λ o. out_run (k ∷ []) at (g o) e)

    -- a name
    pub name_in_run : (at : ℕ) (g : Span → Parser B) (x : Walk) → eqb (cursor_at s at).kind nameKind ≡ true
        → x ≡ walked s run (g (span_of (cursor_at s at)) (cursor_at s at).end) p → x ≡ walked s run (and_then (name s at) g) p
    unfolding name
    name_in_run at g x e i =
        one_in_run nameKind at _ x (plain_one nameKind refl refl) e i ∙ ap (λ r. walked s run r p) (sym (assoc (token_in s (nameKind ∷ []) at) _ g))

    pub name_out_run : (at : ℕ) (g : Span → Parser B) → eqb (cursor_at s at).kind nameKind ≡ false
        → walk.misfit s (cursor_at s at) ≡ walked s run (and_then (name s at) g) p
    unfolding name
    name_out_run at g e =
        out_run (nameKind ∷ []) at _ (one_kind nameKind (cursor_at s at).kind ∙ e) ∙ ap (λ r. walked s run r p) (sym (assoc (token_in s (nameKind ∷ []) at) _ g))

    pub pick_name_run : (at : ℕ) (g : Span → Parser B) (x : Walk)
        → (eqb (cursor_at s at).kind nameKind ≡ true → x ≡ walked s run (g (span_of (cursor_at s at)) (cursor_at s at).end) p)
        → pick (eqb (cursor_at s at).kind nameKind) x (walk.misfit s (cursor_at s at)) ≡ walked s run (and_then (name s at) g) p
    pick_name_run at g x i =
        by_cases (λ w. w ≡ walked s run (and_then (name s at) g) p) (eqb (cursor_at s at).kind nameKind) x _
        (λ e. name_in_run at g x e (i e))
        (name_out_run at g)

    pub after_name : (at : ℕ) (f : Cursor → Walk) (g : Span → Parser B)
        → f (cursor_at s at) ≡ walked s run (g (span_of (cursor_at s at)) (cursor_at s at).end) p
        → after (name_here s (cursor_at s at)) f ≡ walked s run (and_then (name s at) g) p
    unfolding name_here
    after_name at f g i =
        by_cases (λ w. after w f ≡ walked s run (and_then (name s at) g) p) (eqb (cursor_at s at).kind nameKind) _ _
        (λ e. name_in_run at g _ e i)
        (name_out_run at g)

    -- a state
    pub after_state : (at : ℕ) (f : Cursor → Walk) (g : Span → Parser B)
        → (eqb (cursor_at s at).kind at_sign ≡ true
        → f (cursor_at s (cursor_at s at).end) ≡ walked s run (g (span_of (cursor_at s (cursor_at s at).end)) (cursor_at s (cursor_at s at).end).end) p)
        → after (state_at s (cursor_at s at)) f ≡ walked s run (and_then (state s at) g) p
    unfolding state_at state
    after_state at f g i =
        by_cases (λ w. after w f ≡ walked s run (and_then (token_in s (at_sign ∷ []) at) (λ t n. and_then (name s n) g)) p) (eqb (cursor_at s at).kind at_sign) _ _
        (λ e. one_in_run at_sign at _ _ (plain_one at_sign refl refl) e (after_name (cursor_at s at).end f g (i e)))
        (λ e. out_run (at_sign ∷ []) at _ (one_kind at_sign (cursor_at s at).kind ∙ e))
        ∙ ap (λ r. walked s run r p) (sym (assoc (token_in s (at_sign ∷ []) at) _ g))

    -- a part, then the rest
    pub follow_run : {A : Type 0} (first : A → Draft → Draft) (r : Parsed A) (w : Walk) (o : Draft) (f : Cursor → Draft → Walk) (g : A → Parser B)
        → w ≡ walked s first r o → ((a : A) (n : ℕ) → r ≡ done a n → f (cursor_at s n) (first a o) ≡ walked s run (g a n) p)
        → follow w f ≡ walked s run (and_then r g) p
    unfolding walked
    follow_run {A} first r w o f g e h = ap (λ x. follow x f) e ∙ go r h
      where
        go : (r : Parsed A) → ((a : A) (n : ℕ) → r ≡ done a n → f (cursor_at s n) (first a o) ≡ walked s run (g a n) p)
            → follow (walked s first r o) f ≡ walked s run (and_then r g) p
        go (done a n) h = h a n refl
        go (no q o) h = refl

    -- a part that is all
    pub give_run : {A : Type 0} (first : A → Draft → Draft) (r : Parsed A) (w : Walk) (o : Draft) (g : A → B)
        → w ≡ walked s first r o → ((a : A) (n : ℕ) → r ≡ done a n → first a o ≡ run (g a) p)
        → w ≡ walked s run (and_then r (λ a. give (g a))) p
    unfolding walked
    give_run {A} first r w o g e h = e ∙ go r h
      where
        go : (r : Parsed A) → ((a : A) (n : ℕ) → r ≡ done a n → first a o ≡ run (g a) p) → walked s first r o ≡ walked s run (and_then r (λ a. give (g a))) p
        go (done a n) h = ap (on (cursor_at s n)) (h a n refl)
        go (no q o) h = refl

    pub done_run : (b : B) (at : ℕ) (o : Draft) → o ≡ run b p → on (cursor_at s at) o ≡ walked s run (done b at) p
    unfolding walked
    done_run b at o e = ap (on (cursor_at s at)) e

    pub assoc_run : {A C : Type 0} (x : Walk) (r : Parsed A) (f : A → Parser C) (g : C → Parser B)
        → x ≡ walked s run (and_then r (λ a n. and_then (f a n) g)) p → x ≡ walked s run (and_then (and_then r f) g) p
    assoc_run x r f g e = e ∙ ap (λ r. walked s run r p) (sym (assoc r f g))

  -- a part, then more of the pass
  pub map_run : {A : Type 0} (run : A → Draft → Draft) (r : Parsed A) (w : Walk) (p : Draft) (then : Draft → Draft)
      → w ≡ walked s run r p → follow w (λ c q. on c (then q)) ≡ walked s (λ a q. then (run a q)) r p
  unfolding walked
  map_run {A} run r w p then e = ap (λ x. follow x (λ c q. on c (then q))) e ∙ go r
    where
      go : (r : Parsed A) → follow (walked s run r p) (λ c q. on c (then q)) ≡ walked s (λ a q. then (run a q)) r p
      go (done a n) = refl
      go (no q o) = refl

  -- parts in a row
  pub loop_run : {A : Type 0} (run : A → Draft → Draft) (p : Draft) (loop : ℕ → Cursor → Draft → Walk) (item : Cursor → Draft → Walk) (ks : List ℕ) (part : A → Parser A)
      → Plain ks → ((c : Cursor) (q : Draft) → loop zero c q ≡ on c q)
      → ((f : ℕ) (c : Cursor) (q : Draft) → loop (suc f) c q ≡ pick (is_one_of ks c.kind) (follow (item c q) (loop f)) (on c q))
      → ((a : A) (at : ℕ) → is_one_of ks (cursor_at s at).kind ≡ true → item (cursor_at s at) (run a p) ≡ walked s run (part a at) p)
      → (f : ℕ) (a : A) (at : ℕ) → loop f (cursor_at s at) (run a p) ≡ walked s run (repeated s ks part f a at) p
  unfolding repeated
  loop_run run p loop item ks part h z n i zero a at = z (cursor_at s at) (run a p) ∙ done_run run p a at (run a p) refl
  loop_run run p loop item ks part h z n i (suc f) a at =
      n f (cursor_at s at) (run a p)
      ∙ next_run run p ks at _ _ _ _ h
      (λ e. follow_run run p run (part a at) _ p (loop f) (repeated s ks part f) (i a at e) (λ b m _. loop_run run p loop item ks part h z n i f b m))
      (λ e. done_run run p a at (run a p) refl)
