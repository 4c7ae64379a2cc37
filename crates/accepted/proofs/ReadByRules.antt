-- Question 14's test of room decides nothing: every text is answered the same without it. Assumes nothing.
use mathlib.Core.Path.{◌≡◌, refl, sym, ap, subst, ◌∙◌}
use mathlib.Core.Bool.{Bool, true, false, ◌&&◌, ◌||◌}
use mathlib.Core.List.{List, [], ◌∷◌, ◌++◌}
use mathlib.Core.Logic.{◌⊎◌, inl, inr}
use Prim.Native.Nat.{ℕ, zero, suc, ◌<◌, ◌≤◌}
use native.Mathlib.Omega.{arith}
use lib.ListN.{length}
use lib.Dec.{eqb, leb, ltb}
use borrow.Author.Tests.{lt-ltb, ltb-true, ltb-false, eqb-true}
use Rattle.laws.specs.Choice.{pick}
use Rattle.laws.specs.Lists.{every}
use Rattle.laws.proofs.Choice.{by_cases, true_false, pick_true}
use Rattle.laws.proofs.Truths.{both_left, both_right, first_true, either_true}
use Rattle.words.specs.Words.{legal_contract, assets as assetsWord, fields as fieldsWord, agreement as agreementWord, set_arrow, ok_arrow, state_arrow, open_paren, close_paren, open_brace, close_brace, comma, at_sign, underscore}
use Rattle.tokens.specs.Tokens.{token_at, name as nameKind}
use Rattle.tokens.specs.declared.Token.{Token}
use Rattle.tokens.specs.declared.Lexed.{Lexed}
use Rattle.tokens.specs.declared.Lexed.TheVariants.{Found, Refused, End}
use Rattle.tokens.proofs.Facts.{progress}
use Rattle.contract.specs.Tree.{Verb, Clause}
use Rattle.contract.specs.Table.{table_length}
use Rattle.reading.specs.Syntax.{Span, Function, Syntax}
use Rattle.reading.specs.Syntax as syntax
use Rattle.reading.specs.Grammar.{Parsed, done, no, Parser, and_then, give, on_found, is_one_of, unfit, misfit, next_in, if_next, token_in, token, place, repeated, row, name, names, state, verb, clause, line, contract, parse}
use Rattle.reading.specs.Items.{Item, declares, mentions, uses, counts, opens, heads, closes, of_each, declared, function_items, clause_items, items}
use Rattle.reading.specs.Items as kind
use Rattle.reading.specs.Rules.{three_rules, keeps_rules, Finding, fine, breaks, lesser, or_breaks, known, clauses_in, judge, judged}
use Rattle.reading.specs.Resolve.{latest_first, names_in}
use Rattle.reading.specs.Reading.{max_text, Reading, refused, ruled, parsed, read_text}
use Rattle.reading.proofs.TokenKinds.{Each}
use Rattle.accepted.proofs.Judged.{Clean}
use Rattle.accepted.proofs.Known.{plain, plain_known}
use Rattle.accepted.proofs.Sorted.{Good, good_after, each_append, ending_good, FunctionSorted, SyntaxSorted, parse_sorted}
use Rattle.accepted.proofs.CodeItems.{code_items, code_of}
use Rattle.accepted.proofs.FunctionsFit.{clauses_plain}
use Rattle.accepted.proofs.ClauseRoom.{rules_alone}

-- ---- reading with other rules for the agreement

module _ (rules : ℕ → List Clause → Bool) (s : List ℕ) where
  -- as `judge`, with these rules in place of `keeps_rules`
  unfoldable pub judge_by : List Item → Item → Finding
  judge_by b (declares k x) = judge s b (declares k x)
  judge_by b (mentions k x p) = judge s b (mentions k x p)
  judge_by b (uses ks x) = judge s b (uses ks x)
  judge_by b (counts k p) = judge s b (counts k p)
  judge_by b opens = judge s b opens
  judge_by b (heads p q a f) = judge s b (heads p q a f)
  judge_by b (closes p cs) = or_breaks (rules (length (known s kind.party b)) (clauses_in s (known s kind.party b) (known s kind.field b) cs)) 14 p

  -- as `judged`, `parsed` and `read_text`, with `judge_by` in place of `judge`
  unfoldable pub judged_by : List Item → Finding → List Item → Finding
  judged_by b f [] = f
  judged_by b f (i ∷ is) = judged_by (i ∷ b) (lesser f (judge_by b i)) is

  abbrev pub parsed_by : Parsed Syntax → Reading
  parsed_by (done c n) = ruled s c (judged_by [] fine (items c))
  parsed_by (no q p) = refused q p

  unfoldable pub read_by : ℕ → Reading
  read_by words =
      pick (leb (length s) max_text)
      (pick (eqb words table_length) (parsed_by (parse s)) (refused 2 0))
      (refused 1 0)

-- ---- each of a list

each_so : {A : Type 0} (P Q : A → Type 0) → ((x : A) → P x → Q x) → (xs : List A) → Each P xs → Each Q xs
each_so P Q f [] h = tt
each_so P Q f (x ∷ xs) h = (f x h.0, each_so P Q f xs h.1)

each_join : {A : Type 0} (P : A → Type 0) (xs ys : List A) → Each P xs → Each P ys → Each P (xs ++ ys)
each_join P [] ys g h = h
each_join P (x ∷ xs) ys g h = (g.0, each_join P xs ys g.1 h)

each_items : {A : Type 0} (P : A → Type 0) (Q : Item → Type 0) (f : A → List Item) → ((x : A) → P x → Each Q (f x)) → (xs : List A) → Each P xs → Each Q (of_each f xs)
unfolding of_each
each_items P Q f h [] g = tt
each_items P Q f h (x ∷ xs) g = each_join Q (f x) (of_each f xs) (h x g.0) (each_items P Q f h xs g.1)

-- ---- the places of the clauses' names

abbrev StartsBefore : ℕ → Span → Type 0
StartsBefore p x = x.start < p

abbrev ClauseBefore : ℕ → syntax.Clause → Type 0
ClauseBefore p k = StartsBefore p k.party × Each (StartsBefore p) k.fields

-- the names of the clauses start before the agreement's closing brace
abbrev ClausesBefore : Syntax → Type 0
ClausesBefore c = Each (ClauseBefore c.closing) c.clauses

-- what holds of a parser's result and the place after it
abbrev Ends : {A : Type 0} → (A → ℕ → Type 0) → Parsed A → Type 0
Ends P (done a n) = P a n
Ends P (no q p) = Unit {0}

ends_then : {A B : Type 0} (P : A → ℕ → Type 0) (Q : B → ℕ → Type 0) (r : Parsed A) (f : A → Parser B) → Ends P r → ((a : A) (n : ℕ) → P a n → Ends Q (f a n)) → Ends Q (and_then r f)
ends_then P Q (done a n) f g h = h a n g
ends_then P Q (no q p) f g h = tt

ends_good : {A B : Type 0} (P : A → ℕ → Type 0) (Q : B → Type 0) (r : Parsed A) (f : A → Parser B) → Ends P r → ((a : A) (n : ℕ) → P a n → Good Q (f a n)) → Good Q (and_then r f)
ends_good P Q (done a n) f g h = h a n g
ends_good P Q (no q p) f g h = tt

module _ (s : List ℕ) where
  unfit_ends : {A : Type 0} (P : A → ℕ → Type 0) (l : Lexed) → Ends P (unfit s l)
  unfolding unfit
  unfit_ends P (Found t) = tt
  unfit_ends P (Refused q p) = tt
  unfit_ends P End = tt

  abbrev TokenPast : ℕ → Token → ℕ → Type 0
  TokenPast at t n = (at ≤ t.start) × (t.start < n) × (n ≤ length s)

  token_ends : (ks : List ℕ) (at : ℕ) → Ends (TokenPast at) (token_in s ks at)
  unfolding token_in
  token_ends ks at = go (token_at s at) refl
    where
      go : (l : Lexed) → token_at s at ≡ l → Ends (TokenPast at) (on_found l (λ t. pick (is_one_of ks t.kind) (done t t.end) (misfit s at)) (misfit s at))
      go (Found t) e = by_cases (Ends (TokenPast at)) (is_one_of ks t.kind) _ _ (λ _. progress s at t e) (λ _. unfit_ends (TokenPast at) (token_at s at))
      go (Refused q p) e = unfit_ends (TokenPast at) (token_at s at)
      go End e = unfit_ends (TokenPast at) (token_at s at)

  -- a token, then the rest from a later place
  after_token : {B : Type 0} (Q : B → ℕ → Type 0) (ks : List ℕ) (at : ℕ) (f : Token → Parser B) → ((t : Token) (n : ℕ) → at ≤ n → Ends Q (f t n)) → Ends Q (and_then (token_in s ks at) f)
  after_token Q ks at f h =
      ends_then (TokenPast at) Q (token_in s ks at) f (token_ends ks at) λ t n o.
      let a : at ≤ t.start = o.0 in let b : t.start < n = o.1 in h t n (omega arith)

  repeated_ends : {A : Type 0} (P : A → ℕ → Type 0) (starts : List ℕ) (part : A → Parser A) → ((a : A) (at : ℕ) → P a at → Ends P (part a at)) → (f : ℕ) (a : A) (at : ℕ) → P a at → Ends P (repeated s starts part f a at)
  unfolding repeated
  repeated_ends P starts part h zero a at g = g
  repeated_ends P starts part h (suc f) a at g =
      by_cases (Ends P) (next_in s starts at) _ _
      (λ _. ends_then P P (part a at) (repeated s starts part f) (h a at g) (λ b n p. repeated_ends P starts part h f b n p))
      (λ _. g)

  -- a name that starts before a place, and in the text
  abbrev Past : ℕ → Span → Type 0
  Past n x = (x.start < n) × (x.start < length s)

  past_on : (m n : ℕ) → m ≤ n → (x : Span) → Past m x → Past n x
  past_on m n h x p = let a : x.start < m = p.0 in (omega arith, p.1)

  abbrev NamePast : ℕ → Span → ℕ → Type 0
  NamePast at x n = (at ≤ n) × Past n x

  abbrev NamesPast : ℕ → List Span → ℕ → Type 0
  NamesPast at xs n = (at ≤ n) × Each (Past n) xs

  name_ends : (at : ℕ) → Ends (NamePast at) (name s at)
  unfolding name
  name_ends at =
      ends_then (TokenPast at) (NamePast at) (token s nameKind at) _ (token_ends (nameKind ∷ []) at) λ t n h.
      let a : at ≤ t.start = h.0 in let b : t.start < n = h.1 in let c : n ≤ length s = h.2 in
      (omega arith, (b, omega arith))

  names_ends : (at : ℕ) → Ends (NamesPast at) (names s at)
  unfolding names
  names_ends at =
      ends_then (NamePast at) (NamesPast at) (name s at) _ (name_ends at) λ x n h.
      repeated_ends (NamesPast at) (comma ∷ []) _
      (λ xs m g. after_token (NamesPast at) (comma ∷ []) m _ λ t i b.
      ends_then (NamePast i) (NamesPast at) (name s i) _ (name_ends i) λ y j k.
      let a : at ≤ m = g.0 in let c : i ≤ j = k.0 in
      (omega arith, each_append (Past j) xs y (each_so (Past m) (Past j) (past_on m j (omega arith)) xs g.1) k.1))
      (length s) (x ∷ []) n (h.0, (h.1, tt))

  abbrev VerbPast : ℕ → Verb → ℕ → Type 0
  VerbPast at v n = at ≤ n

  verb_ends : (at : ℕ) → Ends (VerbPast at) (verb s at)
  unfolding verb
  verb_ends at =
      by_cases (Ends (VerbPast at)) (next_in s (set_arrow ∷ []) at) _ _
      (λ _. after_token (VerbPast at) (set_arrow ∷ []) at _ λ t n h. h) (λ _. after_token (VerbPast at) (ok_arrow ∷ []) at _ λ t n h. h)

  -- `_` in place of names
  abbrev unnamed : Parser (List Span)
  unnamed at = and_then (token s underscore at) (λ t. give [])

  fields_end : (at : ℕ) → Ends (NamesPast at) (if_next s (underscore ∷ []) unnamed (names s) at)
  fields_end at =
      by_cases (Ends (NamesPast at)) (next_in s (underscore ∷ []) at) (unnamed at) (names s at)
      (λ _. after_token (NamesPast at) (underscore ∷ []) at _ λ t n h. (h, tt)) (λ _. names_ends at)

  abbrev ClausePast : ℕ → syntax.Clause → Type 0
  ClausePast n k = Past n k.party × Each (Past n) k.fields

  clause_on : (m n : ℕ) → m ≤ n → (k : syntax.Clause) → ClausePast m k → ClausePast n k
  clause_on m n h k p = (past_on m n h k.party p.0, each_so (Past m) (Past n) (past_on m n h) k.fields p.1)

  abbrev ClauseFrom : ℕ → syntax.Clause → ℕ → Type 0
  ClauseFrom at k n = (at ≤ n) × ClausePast n k

  clause_ends : (at : ℕ) → Ends (ClauseFrom at) (clause s at)
  unfolding clause
  clause_ends at =
      ends_then (NamePast at) (ClauseFrom at) (name s at) _ (name_ends at) λ a n g.
      ends_then (VerbPast n) (ClauseFrom at) (verb s n) _ (verb_ends n) λ v m h.
      ends_then (NamesPast m) (ClauseFrom at) (if_next s (underscore ∷ []) unnamed (names s) m) _ (fields_end m) λ xs i k.
      let b : at ≤ n = g.0 in let c : m ≤ i = k.0 in
      (omega arith, (past_on n i (omega arith) a g.1, k.1))

  abbrev ClausesPast : List syntax.Clause → ℕ → Type 0
  ClausesPast ks n = Each (ClausePast n) ks

  -- the next token, or the text's end, comes after what was read
  abbrev PlacePast : ℕ → ℕ → ℕ → Type 0
  PlacePast at p n = (x : Span) → Past at x → StartsBefore p x

  place_ends : (at : ℕ) → Ends (PlacePast at) (place s at)
  unfolding place
  place_ends at = go (token_at s at) refl
    where
      go : (l : Lexed) → token_at s at ≡ l → PlacePast at (on_found l (λ t. t.start) (length s)) at
      go (Found t) e x h = let a : at ≤ t.start = (progress s at t e).0 in let b : x.start < at = h.0 in omega arith
      go (Refused q p) e x h = h.1
      go End e x h = h.1

  contract_before : (at : ℕ) → Good ClausesBefore (contract s at)
  unfolding contract
  contract_before at =
      good_after ClausesBefore (token s legal_contract at) _ λ _ a1.
      good_after ClausesBefore (name s a1) _ λ n a2.
      good_after ClausesBefore (token s open_brace a2) _ λ _ a3.
      good_after ClausesBefore (line s assetsWord a3) _ λ hs a4.
      good_after ClausesBefore (line s fieldsWord a4) _ λ xs a5.
      good_after ClausesBefore (token s agreementWord a5) _ λ _ a6.
      good_after ClausesBefore (token s open_paren a6) _ λ _ a7.
      good_after ClausesBefore (names s a7) _ λ ps a8.
      good_after ClausesBefore (token s close_paren a8) _ λ _ a9.
      good_after ClausesBefore (token s open_brace a9) _ λ _ a10.
      ends_good ClausesPast ClausesBefore (row s (nameKind ∷ []) _ [] a10) _
      (repeated_ends ClausesPast (nameKind ∷ []) _
      (λ ks m h. ends_then (ClauseFrom m) ClausesPast (clause s m) _ (clause_ends m) λ k i g.
      each_append (ClausePast i) ks k (each_so (ClausePast m) (ClausePast i) (clause_on m i g.0) ks h) g.1)
      (length s) [] a10 tt) λ cs a11 hc.
      ends_good (PlacePast a11) ClausesBefore (place s a11) _ (place_ends a11) λ p a12 hp.
      good_after ClausesBefore (token s close_brace a12) _ λ _ a13.
      good_after ClausesBefore (token s state_arrow a13) _ λ _ a14.
      good_after ClausesBefore (state s a14) _ λ q a15.
      good_after ClausesBefore (row s (at_sign ∷ []) _ [] a15) _ λ fs a16.
      good_after ClausesBefore (token s close_brace a16) _ λ _ a17.
      ending_good s ClausesBefore _ a17
      (each_so (ClausePast a11) (ClauseBefore p) (λ k h. (hp k.party h.0, each_so (Past a11) (StartsBefore p) hp k.fields h.1)) cs hc)

  parse_before : (c : Syntax) (n : ℕ) → parse s ≡ done c n → ClausesBefore c
  parse_before c n e = subst (Good ClausesBefore) e (contract_before 0)

-- ---- findings before a place

-- none, or one before the place
abbrev Soon : ℕ → Finding → Type 0
Soon p fine = Unit {0}
Soon p (breaks q o) = o < p

-- one before the place
abbrev Early : ℕ → Finding → Type 0
Early p fine = ⊥
Early p (breaks q o) = o < p

neither : (a b : Bool) → (a || b) ≡ false → a ≡ false
neither true b e = e
neither false b e = refl

early_first : (p : ℕ) (f g : Finding) → Early p f → Early p (lesser f g)
early_first p fine g h = absurd h
early_first p (breaks q o) fine h = h
early_first p (breaks q o) (breaks r u) h =
    by_cases (Early p) (ltb o u || (eqb o u && leb q r)) (breaks q o) (breaks r u) (λ _. h)
    (λ e. let a : u ≤ o = ltb-false o u (neither (ltb o u) _ e) in omega arith)

early_second : (p : ℕ) (f g : Finding) → Early p g → Early p (lesser f g)
early_second p fine g h = h
early_second p (breaks q o) fine h = absurd h
early_second p (breaks q o) (breaks r u) h =
    by_cases (Early p) (ltb o u || (eqb o u && leb q r)) (breaks q o) (breaks r u)
    (λ e. either_true (ltb o u) (eqb o u && leb q r) e
    (λ a. let b : o < u = ltb-true o u a in omega arith)
    (λ a. let b : o ≡ u = eqb-true o u (both_left (eqb o u) (leb q r) a) in omega arith))
    (λ _. h)

-- no finding at the place changes an earlier one
early_stays : (p : ℕ) (f : Finding) (t : Bool) → Early p f → lesser f (or_breaks t 14 p) ≡ f
early_stays p fine t h = absurd h
early_stays p (breaks q o) t h =
    by_cases (λ g. lesser (breaks q o) g ≡ breaks q o) t fine (breaks 14 p) (λ _. refl) (λ _. pick_true _ _ _ (first_true _ (lt-ltb o p h)))

module _ (s : List ℕ) where
  early_judged : (p : ℕ) (b : List Item) (f : Finding) (is : List Item) → Early p f → Early p (judged s b f is)
  unfolding judged
  early_judged p b f [] h = h
  early_judged p b f (i ∷ is) h = early_judged p (i ∷ b) (lesser f (judge s b i)) is (early_first p f (judge s b i) h)

  -- an item that is refused before a place only
  abbrev RefusedBefore : ℕ → Item → Type 0
  RefusedBefore p i = (b : List Item) → Soon p (judge s b i)

  -- such items are clean, or there is an early finding after them
  clean_or_early : (p : ℕ) (b : List Item) (f : Finding) (is : List Item) → Each (RefusedBefore p) is → Clean s b is ⊎ Early p (judged s b f is)
  unfolding judged
  clean_or_early p b f [] h = inl tt
  clean_or_early p b f (i ∷ is) h = go (judge s b i) refl (h.0 b) (clean_or_early p (i ∷ b) (lesser f (judge s b i)) is h.1)
    where
      go : (g : Finding) → judge s b i ≡ g → Soon p g → Clean s (i ∷ b) is ⊎ Early p (judged s (i ∷ b) (lesser f (judge s b i)) is)
          → Clean s b (i ∷ is) ⊎ Early p (judged s (i ∷ b) (lesser f (judge s b i)) is)
      go fine e w (inl c) = inl (e, c)
      go fine e w (inr h) = inr h
      go (breaks q o) e w r = inr (early_judged p (i ∷ b) (lesser f (judge s b i)) is (early_second p f (judge s b i) (subst (Early p) (sym e) w)))

  use_before : (p : ℕ) (ks : List ℕ) (x : Span) → StartsBefore p x → RefusedBefore p (uses ks x)
  unfolding judge
  use_before p ks x h b = by_cases (Soon p) _ fine (breaks 13 x.start) (λ _. tt) (λ _. h)

  clause_items_lem : (p : ℕ) (k : syntax.Clause) → ClauseBefore p k → Each (RefusedBefore p) (clause_items k)
  unfolding clause_items
  clause_items_lem p k h = (
    use_before p (kind.party ∷ []) k.party h.0,
    each_items (StartsBefore p) (RefusedBefore p) (λ x. uses (kind.field ∷ []) x ∷ []) (λ x g. (use_before p (kind.field ∷ []) x g, tt)) k.fields h.1,
  )

-- ---- the same answer

-- where the clauses' names are known, the agreement is judged the same
abbrev SameAgreement : (ℕ → List Clause → Bool) → List ℕ → Type 0
SameAgreement rules s =
    (b : List Item) (p : ℕ) (ks : List syntax.Clause) → Clean s b (of_each clause_items ks)
    → judge_by rules s (latest_first b (of_each clause_items ks)) (closes p ks) ≡ judge s (latest_first b (of_each clause_items ks)) (closes p ks)

module _ (rules : ℕ → List Clause → Bool) (s : List ℕ) where
  -- an item that is judged the same
  abbrev Same : Item → Type 0
  Same i = (b : List Item) → judge_by rules s b i ≡ judge s b i

  plain_same : (i : Item) → plain i ≡ true → Same i
  unfolding judge_by
  plain_same (declares k x) e b = refl
  plain_same (mentions k x p) e b = refl
  plain_same (uses ks x) e b = refl
  plain_same (counts k p) e b = refl
  plain_same opens e b = refl
  plain_same (heads p q a f) e b = refl
  plain_same (closes p cs) e b = true_false (sym e)

  plains_same : (is : List Item) → every plain is ≡ true → Each Same is
  unfolding every
  plains_same [] e = tt
  plains_same (i ∷ is) e = (plain_same i (both_left (plain i) (every plain is) e), plains_same is (both_right (plain i) (every plain is) e))

  declared_same : (k : ℕ) (xs : List Span) → Each Same (declared k xs)
  unfolding of_each judge_by
  declared_same k [] = tt
  declared_same k (x ∷ xs) = ((λ b. refl), declared_same k xs)

  function_same : (f : Function) → FunctionSorted s f → Each Same (function_items f)
  unfolding function_items judge_by
  function_same f h = (
    (λ b. refl),
    (
      (λ b. refl),
      (
        (λ b. refl),
        each_join Same (declared kind.value f.values) _ (declared_same kind.value f.values)
            (each_join Same (declared kind.parameter f.parameters) (code_items f) (declared_same kind.parameter f.parameters)
            (plains_same (code_items f) (code_of s (names_in s []) f h).plains)),
      ),
    ),
  )

  judged_same : (b : List Item) (f : Finding) (is : List Item) → Each Same is → judged_by rules s b f is ≡ judged s b f is
  unfolding judged judged_by
  judged_same b f [] h = refl
  judged_same b f (i ∷ is) h = ap (λ g. judged_by rules s (i ∷ b) (lesser f g) is) (h.0 b) ∙ judged_same (i ∷ b) (lesser f (judge s b i)) is h.1

  -- items that are judged the same, then others
  same_then : (b : List Item) (f : Finding) (xs ys : List Item) → Each Same xs
      → judged_by rules s (latest_first b xs) (judged s b f xs) ys ≡ judged s (latest_first b xs) (judged s b f xs) ys → judged_by rules s b f (xs ++ ys) ≡ judged s b f (xs ++ ys)
  unfolding judged judged_by latest_first
  same_then b f [] ys h e = e
  same_then b f (i ∷ xs) ys h e = ap (λ g. judged_by rules s (i ∷ b) (lesser f g) (xs ++ ys)) (h.0 b) ∙ same_then (i ∷ b) (lesser f (judge s b i)) xs ys h.1 e

  -- the agreement after its clauses
  closes_same : SameAgreement rules s → (b : List Item) (f : Finding) (p : ℕ) (ks : List syntax.Clause) → Each (ClauseBefore p) ks
      → lesser (judged s b f (of_each clause_items ks)) (judge_by rules s (latest_first b (of_each clause_items ks)) (closes p ks))
      ≡ lesser (judged s b f (of_each clause_items ks)) (judge s (latest_first b (of_each clause_items ks)) (closes p ks))
  unfolding judge_by judge
  closes_same a b f p ks h = go (clean_or_early s p b f q (each_items (ClauseBefore p) (RefusedBefore s p) clause_items (clause_items_lem s p) ks h))
    where
      q : List Item
      q = of_each clause_items ks

      go : Clean s b q ⊎ Early p (judged s b f q) → lesser (judged s b f q) (judge_by rules s (latest_first b q) (closes p ks)) ≡ lesser (judged s b f q) (judge s (latest_first b q) (closes p ks))
      go (inl c) = ap (lesser (judged s b f q)) (a b p ks c)
      go (inr e) = early_stays p (judged s b f q) _ e ∙ sym (early_stays p (judged s b f q) _ e)

  -- the clauses, the agreement and what comes after it
  clauses_same : SameAgreement rules s → (b : List Item) (f : Finding) (p : ℕ) (ks : List syntax.Clause) (is : List Item) → Each (ClauseBefore p) ks → Each Same is
      → judged_by rules s b f (of_each clause_items ks ++ (closes p ks ∷ is)) ≡ judged s b f (of_each clause_items ks ++ (closes p ks ∷ is))
  unfolding judged judged_by
  clauses_same a b f p ks is h g =
      let q = of_each clause_items ks in
      let B = latest_first b q in
      same_then b f q (closes p ks ∷ is) (plains_same q (clauses_plain s ks))
      (ap (λ e. judged_by rules s (closes p ks ∷ B) e is) (closes_same a b f p ks h)
      ∙ judged_same (closes p ks ∷ B) (lesser (judged s b f q) (judge s B (closes p ks))) is g)

  items_same : SameAgreement rules s → (c : Syntax) → SyntaxSorted s c → ClausesBefore c → judged_by rules s [] fine (items c) ≡ judged s [] fine (items c)
  unfolding items judge_by
  items_same a c h k =
      same_then [] fine (declared kind.asset c.assets) _ (declared_same kind.asset c.assets)
      (same_then _ _ (declared kind.field c.fields) _ (declared_same kind.field c.fields)
      (same_then _ _ (declared kind.party c.parties) _ (declared_same kind.party c.parties)
      (clauses_same a _ _ c.closing c.clauses _ k ((λ b. refl), each_items (FunctionSorted s) Same function_items function_same c.functions h.functions))))

  parsed_same : SameAgreement rules s → (r : Parsed Syntax) → parse s ≡ r → parsed_by rules s r ≡ parsed s r
  parsed_same a (done c n) e = ap (ruled s c) (items_same a c (parse_sorted s c n e) (parse_before s c n e))
  parsed_same a (no q p) e = refl

  read_same : SameAgreement rules s → (words : ℕ) → read_by rules s words ≡ read_text s words
  unfolding read_by read_text
  read_same a words = ap (λ (r : Reading). pick (leb (length s) max_text) (pick (eqb words table_length) r (refused 2 0)) (refused 1 0)) (parsed_same a (parse s) refl)

-- with `keeps_rules`, as the definition has it, `read_by` is `read_text`
pub read_as_defined : (s : List ℕ) (words : ℕ) → read_by keeps_rules s words ≡ read_text s words
unfolding judge_by judge
read_as_defined s = read_same keeps_rules s (λ b p ks c. refl)

-- and with the three rules alone too: 14's test of room changes the answer to no text
pub room_decides_nothing : (s : List ℕ) (words : ℕ) → read_by three_rules s words ≡ read_text s words
unfolding judge_by
room_decides_nothing s =
    read_same three_rules s λ b p ks c.
    let q = of_each clause_items ks in
    let ps : known s kind.party (latest_first b q) ≡ known s kind.party b = plain_known s kind.party q b (omega arith) (clauses_plain s ks) in
    let fs : known s kind.field (latest_first b q) ≡ known s kind.field b = plain_known s kind.field q b (omega arith) (clauses_plain s ks) in
    (λ i. or_breaks (three_rules (length (ps i)) (clauses_in s (ps i) (fs i) ks)) 14 p) ∙ sym (rules_alone s b p ks c)
