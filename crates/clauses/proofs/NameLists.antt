-- Laws of lists of names and of clauses where a cursor is a number. Assumes nothing.
use mathlib.Core.Path.{◌≡◌, refl, sym, ap, ◌∙◌}
use mathlib.Core.Bool.{Bool, true, false}
use mathlib.Core.List.{List}
use Prim.Native.Nat.{ℕ, zero, suc, ◌+◌, ◌-◌, ◌<◌, ◌≤◌}
use native.Mathlib.Omega.{arith}
use lib.ListN.{length}
use lib.Dec.{eqb}
use borrow.Author.Tests.{eq-eqb, ne_eqb, eqb-true}
use Rattle.laws.specs.Choice.{pick}
use Rattle.laws.proofs.Choice.{pick_true, pick_false, true_false}
use Rattle.words.specs.Words.{comma}
use Rattle.tokens.specs.Tokens.{token_at, name as nameKind}
use Rattle.tokens.specs.declared.Lexed.{Lexed}
use Rattle.tokens.specs.declared.Lexed.TheVariants.{Found, Refused, End}
use Rattle.tokens.proofs.Facts.{progress}
use Rattle.entries.specs.Draft.{Draft, declare, clause_field, clause_party}
use Rattle.reading_laws.specs.Walk.{Cursor, Walk, on, stop, draft, follow, cursor_of, cursor_at, next_of, one_name, names, more_names, one_field, clause_fields, more_fields, clause_from, clause}
use Rattle.reading_laws.proofs.AgreesWith.{follow_on, follow_stop}
use Rattle.cursors.specs.Packed.{kind_in, start_in, end_in, at_in, cursor_in}
use Rattle.cursors.proofs.Tested as packed
use Rattle.reading_laws.proofs.Listed as listed
use Rattle.clauses.specs.declared.lists.Listed.{Listed}
use Rattle.clauses.specs.declared.lists.Listed.TheVariants.{Declared, Fields}
use Rattle.clauses.specs.Private.{entered, one_listed, more_listed, list_of}

follow_pick : (b : Bool) (c : Cursor) (p : Draft) (q o : ℕ) (f : Cursor → Draft → Walk) → follow (pick b (on c p) (stop q o)) f ≡ pick b (f c p) (stop q o)
unfolding pick
follow_pick true c p q o f = refl
follow_pick false c p q o f = refl

pick_both : (b : Bool) (x y z : Walk) → (b ≡ true → x ≡ y) → pick b x z ≡ pick b y z
unfolding pick
pick_both true x y z g = g refl
pick_both false x y z g = refl

taken : Walk → Cursor → Cursor
taken (on d q) c = d
taken (stop q o) c = c

goes : Walk → Bool
goes (on d q) = true
goes (stop q o) = false

module _ (s : List ℕ) where
  -- what is done with the token at a cursor
  done : (f : List ℕ → ℕ → ℕ → Draft) (c : ℕ) (x : List ℕ) (a e : ℕ) (p : Draft) → x ≡ s → a ≡ start_in c → e ≡ end_in c → p ≡ f x a e
      → p ≡ f s (cursor_in s c).start (cursor_in s c).end
  unfolding cursor_in
  done f c x a e p t h g i = i ∙ (λ j. f (t j) (h j) (g j))

  -- ---- lists of names

  pub one_misfit : (l : Listed) (c : Cursor) (p : Draft) → (c.kind ≡ nameKind → ⊥) → one_listed s l c p ≡ stop c.question c.start
  unfolding one_listed
  one_misfit l c p g = pick_false _ _ _ (ne_eqb _ _ g)

  one_done : (l : Listed) (c d : Cursor) (t n t₁ n₁ : List ℕ) → c.kind ≡ nameKind → d ≡ next_of s c → draft t₁ n₁ ≡ entered s l c.start c.end (draft t n)
      → one_listed s l c (draft t n) ≡ on d (draft t₁ n₁)
  unfolding one_listed
  one_done l c d t n t₁ n₁ e h a = pick_true _ _ _ (eq-eqb _ _ e) ∙ (λ i. on (sym h i) (sym a i))

  pub one_read : (l : Listed) (c next y : ℕ) (x : List ℕ) (a e : ℕ) (t n t₁ n₁ : List ℕ) → y ≡ kind_in c → y ≡ nameKind → x ≡ s → a ≡ start_in c → e ≡ end_in c
      → cursor_in s next ≡ next_of s (cursor_in s c) → draft t₁ n₁ ≡ entered x l a e (draft t n)
      → one_listed s l (cursor_in s c) (draft t n) ≡ on (cursor_in s next) (draft t₁ n₁)
  one_read l c next y x a e t n t₁ n₁ hy hk hx ha he hl g =
      let f : List ℕ → ℕ → ℕ → Draft = λ z u v. entered z l u v (draft t n) in
      one_done l (cursor_in s c) (cursor_in s next) t n t₁ n₁ (packed.kind_is s c y nameKind hy hk) hl (done f c x a e (draft t₁ n₁) hx ha he g)

  -- a token ends past the place from which it was looked for, in the text
  found : (a k : ℕ) → k < 203 → (cursor_at s a).kind ≡ k → (a < (cursor_at s a).end) × ((cursor_at s a).end ≤ length s)
  unfolding cursor_of
  found a k b h = go (token_at s a) refl h
    where
      go : (l : Lexed) → token_at s a ≡ l → (cursor_of s a l).kind ≡ k → (a < (cursor_of s a l).end) × ((cursor_of s a l).end ≤ length s)
      go (Found t) e h = let p = progress s a t e in (omega (arith, p.0, p.1), p.2)
      go (Refused q o) e h = absurd (omega (arith, h, b))
      go End e h = absurd (omega (arith, h, b))

  at_comma : (a : ℕ) → (cursor_at s a).kind ≡ comma → (a < (cursor_at s a).end) × ((cursor_at s a).end ≤ length s)
  at_comma a k =
      let small : comma < 203 = omega arith in
      found a comma small k

  at_name : (a : ℕ) → (cursor_at s a).kind ≡ nameKind → (a < (cursor_at s a).end) × ((cursor_at s a).end ≤ length s)
  at_name a k =
      let small : nameKind < 203 = omega arith in
      found a nameKind small k

  at_is : (a : ℕ) (l : Lexed) → (cursor_of s a l).at ≡ a
  unfolding cursor_of
  at_is a (Found t) = refl
  at_is a (Refused q o) = refl
  at_is a End = refl

  -- the cursor in a number, as the one that was looked for from its place
  pub looked : (r e : ℕ) → cursor_in s r ≡ cursor_at s e → cursor_in s r ≡ cursor_at s (at_in r)
  unfolding cursor_in
  looked r e h = h ∙ ap (cursor_at s) (sym (ap (λ (c : Cursor). c.at) h ∙ at_is e (token_at s e)))

  -- after a name
  one_next : (l : Listed) (c d : Cursor) (p q : Draft) → one_listed s l c p ≡ on d q → (d ≡ next_of s c) × (c.kind ≡ nameKind)
  unfolding one_listed pick goes taken
  one_next l c d p q e = go (eqb c.kind nameKind) refl e
    where
      go : (b : Bool) → eqb c.kind nameKind ≡ b → pick b (on (next_of s c) (entered s l c.start c.end p)) (stop c.question c.start) ≡ on d q
          → (d ≡ next_of s c) × (c.kind ≡ nameKind)
      go true b e = (sym (ap (λ (w : Walk). taken w c) e), eqb-true c.kind nameKind b)
      go false b e = true_false (sym (ap goes e))

  pub listed_on : (l : Listed) (r : ℕ) (c : Cursor) (p q : Draft) → one_listed s l c p ≡ on (cursor_in s r) q → cursor_in s r ≡ cursor_at s (at_in r)
  listed_on l r c p q e = looked r c.end (one_next l c (cursor_in s r) p q e).0

  -- more fuel than the text is long changes nothing
  one_more : (l : Listed) (f b : ℕ) (p : Draft)
      → ((e : ℕ) (q : Draft) → b < e → more_listed s l (suc f) (cursor_at s e) q ≡ more_listed s l f (cursor_at s e) q)
      → follow (one_listed s l (cursor_at s b) p) (more_listed s l (suc f)) ≡ follow (one_listed s l (cursor_at s b) p) (more_listed s l f)
  unfolding one_listed
  one_more l f b p g =
      let c = cursor_at s b in
      let q = entered s l c.start c.end p in
      follow_pick (eqb c.kind nameKind) (next_of s c) q c.question c.start (more_listed s l (suc f))
      ∙ pick_both (eqb c.kind nameKind) _ _ _ (λ t. g c.end q (at_name b (eqb-true c.kind nameKind t)).0)
      ∙ sym (follow_pick (eqb c.kind nameKind) (next_of s c) q c.question c.start (more_listed s l f))

  enough : (l : Listed) (f a : ℕ) (p : Draft) → length s ≤ a + f → more_listed s l (suc f) (cursor_at s a) p ≡ more_listed s l f (cursor_at s a) p
  unfolding more_listed
  enough l zero a p h =
      pick_false _ _ _ (ne_eqb (cursor_at s a).kind comma (λ k. let q = at_comma a k in omega (arith, h, q.0, q.1)))
  enough l (suc f) a p h =
      pick_both (eqb (cursor_at s a).kind comma) _ _ _
      (λ t. one_more l f (cursor_at s a).end p (λ e q i. enough l f e q (let x = at_comma a (eqb-true (cursor_at s a).kind comma t) in omega (arith, h, x.0, i))))

  turn : (l : Listed) (n a : ℕ) (p : Draft) → n ≡ length s → (cursor_at s a).kind ≡ comma
      → follow (one_listed s l (next_of s (cursor_at s a)) p) (more_listed s l n) ≡ more_listed s l n (cursor_at s a) p
  unfolding more_listed
  turn l zero a p h k = let x = at_comma a k in absurd (omega (arith, h, x.0, x.1))
  turn l (suc f) a p h k =
      one_more l f (cursor_at s a).end p (λ e q i. enough l f e q (omega (arith, h, i))) ∙ sym (pick_true _ _ _ (eq-eqb _ _ k))

  -- a turn, with the text's length as the fuel before it and after it
  turned : (l : Listed) (a : ℕ) (c e : Cursor) (p : Draft) → c ≡ cursor_at s a → c.kind ≡ comma → e ≡ next_of s c
      → follow (one_listed s l e p) (more_listed s l (length s)) ≡ more_listed s l (length s) c p
  turned l a c e p h k x =
      ap (λ (y : Cursor). follow (one_listed s l y p) (more_listed s l (length s))) (x ∙ ap (next_of s) h)
      ∙ turn l (length s) a p refl (ap (λ (y : Cursor). y.kind) (sym h) ∙ k)
      ∙ ap (λ (y : Cursor). more_listed s l (length s) y p) (sym h)

  pub list_turn : (l : Listed) (a : ℕ) (c d e : Cursor) (p q : Draft) → c ≡ cursor_at s a → c.kind ≡ comma → e ≡ next_of s c → one_listed s l e p ≡ on d q
      → more_listed s l (length s) d q ≡ more_listed s l (length s) c p
  list_turn l a c d e p q h k x g = sym (follow_on _ _ _ _ g) ∙ turned l a c e p h k x

  pub list_refused : (l : Listed) (a : ℕ) (c e : Cursor) (p : Draft) (q o : ℕ) → c ≡ cursor_at s a → c.kind ≡ comma → e ≡ next_of s c
      → one_listed s l e p ≡ stop q o → more_listed s l (length s) c p ≡ stop q o
  list_refused l a c e p q o h k x g = sym (turned l a c e p h k x) ∙ follow_stop _ _ _ _ g

  pub list_stop : (l : Listed) (left : ℕ) (c : Cursor) (p : Draft) → (c.kind ≡ comma → ⊥) → more_listed s l left c p ≡ on c p
  unfolding more_listed
  list_stop l zero c p g = refl
  list_stop l (suc f) c p g = pick_false _ _ _ (ne_eqb _ _ g)

  -- a turn ends further in the text
  pub further : (l : Listed) (h m r : ℕ) (p q : Draft) → cursor_in s h ≡ cursor_at s (at_in h) → (cursor_in s h).kind ≡ comma
      → cursor_in s m ≡ next_of s (cursor_in s h) → one_listed s l (cursor_in s m) p ≡ on (cursor_in s r) q → length s - at_in r < length s - at_in h
  unfolding cursor_in
  further l h m r p q here k next e =
      let x = one_next l (cursor_in s m) (cursor_in s r) p q e in
      let b = at_comma (at_in h) (ap (λ (y : Cursor). y.kind) (sym here) ∙ k) in
      let b-end : (cursor_at s (at_in h)).end ≡ end_in h = ap (λ (y : Cursor). y.end) (sym here) in
      let d = at_name (end_in h) (ap (λ (y : Cursor). y.kind) (sym next) ∙ x.1) in
      let d-end : (cursor_at s (end_in h)).end ≡ end_in m = ap (λ (y : Cursor). y.end) (sym next) in
      let at : at_in r ≡ end_in m = ap (λ (y : Cursor). y.at) x.0 ∙ at_is (end_in m) (token_at s (end_in m)) in
      omega (arith, b.0, b.1, b-end, d.0, d.1, d-end, at)

  -- declared names
  one_is_name : (k : ℕ) (c : Cursor) (p : Draft) (f : Cursor → Draft → Walk) → follow (one_listed s (Declared k) c p) f ≡ one_name s k f c p
  unfolding one_listed entered
  one_is_name k c p f = follow_pick (eqb c.kind nameKind) (next_of s c) (declare s k c.start c.end p) c.question c.start f

  more_are_names : (k f : ℕ) → more_listed s (Declared k) f ≡ more_names s k f
  unfolding more_listed more_names
  more_are_names k zero = refl
  more_are_names k (suc f) = λ i c p. pick (eqb c.kind comma) ((one_is_name k (next_of s c) p (more_listed s (Declared k) f) ∙ ap (λ (g : Cursor → Draft → Walk). one_name s k g (next_of s c) p) (more_are_names k f)) i) (on c p)

  pub list_is_names : (k : ℕ) (c : Cursor) (p : Draft) → list_of s (Declared k) c p ≡ names s k c p
  unfolding list_of names
  list_is_names k c p =
      one_is_name k c p (more_listed s (Declared k) (length s))
      ∙ ap (λ (g : Cursor → Draft → Walk). one_name s k g c p) (more_are_names k (length s))

  -- the fields of a clause
  one_is_field : (c : Cursor) (p : Draft) (f : Cursor → Draft → Walk) → follow (one_listed s Fields c p) f ≡ one_field s f c p
  unfolding one_listed entered
  one_is_field c p f = follow_pick (eqb c.kind nameKind) (next_of s c) (clause_field s c.start c.end p) c.question c.start f

  more_are_fields : (f : ℕ) → more_listed s Fields f ≡ more_fields s f
  unfolding more_listed more_fields
  more_are_fields zero = refl
  more_are_fields (suc f) = λ i c p. pick (eqb c.kind comma) ((one_is_field (next_of s c) p (more_listed s Fields f) ∙ ap (λ (g : Cursor → Draft → Walk). one_field s g (next_of s c) p) (more_are_fields f)) i) (on c p)

  pub list_is_fields : (c : Cursor) (p : Draft) → list_of s Fields c p ≡ clause_fields s c p
  unfolding list_of clause_fields
  list_is_fields c p =
      one_is_field c p (more_listed s Fields (length s))
      ∙ ap (λ (g : Cursor → Draft → Walk). one_field s g c p) (more_are_fields (length s))

  -- ---- the clauses

  pub clause_begin : (c next y : ℕ) (x : List ℕ) (a e : ℕ) (t n t₁ n₁ : List ℕ) → y ≡ kind_in c → y ≡ nameKind → x ≡ s → a ≡ start_in c → e ≡ end_in c
      → cursor_in s next ≡ next_of s (cursor_in s c) → draft t₁ n₁ ≡ clause_party x a e (draft t n)
      → clause_from s (cursor_in s next) (draft t₁ n₁) ≡ clause s (cursor_in s c) (draft t n)
  clause_begin c next y x a e t n t₁ n₁ hy hk hx ha he hl g =
      let f : List ℕ → ℕ → ℕ → Draft = λ z u v. clause_party z u v (draft t n) in
      listed.clause_begin s (cursor_in s c) (cursor_in s next) t n t₁ n₁ (packed.kind_is s c y nameKind hy hk) hl (done f c x a e (draft t₁ n₁) hx ha he g)
