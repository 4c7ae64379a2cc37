-- Names, lines of them, parameters and the agreement's clauses: the pass is the grammar, then the run of what it read. Assumes nothing.
use mathlib.Core.Path.{◌≡◌, refl, sym, ap, ◌∙◌}
use mathlib.Core.List.{List, [], ◌∷◌, ◌++◌}
use Prim.Native.Nat.{ℕ, zero, suc}
use lib.ListN.{length}
use Rattle.laws.specs.Choice.{pick}
use Rattle.words.specs.Words.{set_arrow, ok_arrow, comma, underscore}
use Rattle.tokens.specs.Tokens.{name as nameKind}
use Rattle.contract.specs.Tree.{Verb, set, ok}
use Rattle.entries.specs.Draft.{Draft, declare, clause_party, clause_verb, clause_field}
use Rattle.reading.specs.Syntax.{Span, Clause}
use Rattle.reading.specs.Grammar.{done, Parser, and_then, give, next_in, token_in, repeated}
use Rattle.reading.specs.Grammar as grammar
use Rattle.reading_laws.specs.Walk.{on, follow, cursor_at, more_names, more_fields, clause_fields, clause_rest, clause_from, clauses, parameter_names}
use Rattle.reading_laws.specs.Walk as walk
use Rattle.reading_laws.proofs.Run.{walked, run_names, run_fields, run_clause, run_clauses, end_clause, verb_number}
use Rattle.reading_laws.proofs.WalksTokens.{Plain, one_kind, plain_one, span_of, pick_then, one_in_run, pick_run, one_next_run, after_token, pick_name_run, follow_run, give_run, done_run, assoc_run, map_run, loop_run}

module _ (s : List ℕ) where
  -- ---- names

  pub run_names_more : (k : ℕ) (xs : List Span) (x : Span) (p : Draft) → run_names s k (xs ++ (x ∷ [])) p ≡ declare s k x.start x.end (run_names s k xs p)
  unfolding run_names
  run_names_more k [] x p = refl
  run_names_more k (y ∷ xs) x p = run_names_more k xs x (declare s k y.start y.end p)

  -- one more name after a comma
  abbrev pub one_more_name : List Span → Parser (List Span)
  one_more_name xs at = and_then (token_in s (comma ∷ []) at) (λ t n. and_then (grammar.name s n) (λ y. give (xs ++ (y ∷ []))))

  more_names_run : (k : ℕ) (p : Draft) (f : ℕ) (xs : List Span) (at : ℕ)
      → more_names s k f (cursor_at s at) (run_names s k xs p) ≡ walked s (run_names s k) (repeated s (comma ∷ []) one_more_name f xs at) p
  unfolding more_names repeated
  more_names_run k p zero xs at = done_run s (run_names s k) p xs at _ refl
  more_names_run k p (suc f) xs at =
      one_next_run s (run_names s k) p comma at _ _ _ _ (plain_one comma refl refl)
      (λ e. assoc_run s (run_names s k) p _ (token_in s (comma ∷ []) at) _ _
      (one_in_run s (run_names s k) p comma at _ _ (plain_one comma refl refl) e
      (assoc_run s (run_names s k) p _ (grammar.name s (cursor_at s at).end) _ _
      (pick_name_run s (run_names s k) p (cursor_at s at).end _ _
      (λ g. let d = cursor_at s (cursor_at s at).end in
      ap (more_names s k f (cursor_at s d.end)) (sym (run_names_more k xs (span_of d) p))
      ∙ more_names_run k p f (xs ++ (span_of d ∷ [])) d.end)))))
      (λ e. done_run s (run_names s k) p xs at _ refl)

  pub names_run : (k : ℕ) (at : ℕ) (p : Draft) → walk.names s k (cursor_at s at) p ≡ walked s (run_names s k) (grammar.names s at) p
  unfolding walk.names grammar.names run_names
  names_run k at p =
      pick_name_run s (run_names s k) p at _ _ (λ e. more_names_run k p (length s) (span_of (cursor_at s at) ∷ []) (cursor_at s at).end)

  pub line_run : (word k at : ℕ) (p : Draft) → Plain (word ∷ []) → walk.line s word k (cursor_at s at) p ≡ walked s (run_names s k) (grammar.line s word at) p
  unfolding walk.line grammar.line run_names
  line_run word k at p h =
      one_next_run s (run_names s k) p word at _ _ _ _ h
      (λ e. one_in_run s (run_names s k) p word at _ _ h e (names_run k (cursor_at s at).end p))
      (λ e. done_run s (run_names s k) p [] at _ refl)

  -- ---- parameters

  parameter_names_run : (closing k at : ℕ) (p : Draft) → Plain (closing ∷ [])
      → parameter_names s closing k (cursor_at s at) p
      ≡ walked s (run_names s k) (and_then (pick (next_in s (closing ∷ []) at) (done [] at) (grammar.names s at)) (λ xs n. and_then (token_in s (closing ∷ []) n) (λ t. give xs))) p
  unfolding parameter_names run_names
  parameter_names_run closing k at p h =
      one_next_run s (run_names s k) p closing at _ _ _ _ h
      (λ e. one_in_run s (run_names s k) p closing at _ _ h e (done_run s (run_names s k) p [] (cursor_at s at).end _ refl))
      (λ e. follow_run s (run_names s k) p (run_names s k) (grammar.names s at) _ p _ _ (names_run k at p)
      (λ xs n _. after_token s (run_names s k) p closing n _ _ h (λ _. done_run s (run_names s k) p xs (cursor_at s n).end _ refl)))
      ∙ ap (λ r. walked s (run_names s k) r p) (sym (pick_then (next_in s (closing ∷ []) at) (done [] at) (grammar.names s at) _))

  pub parameters_run : (opening closing k at : ℕ) (p : Draft) → Plain (opening ∷ []) → Plain (closing ∷ [])
      → walk.parameters_in s opening closing k (cursor_at s at) p ≡ walked s (run_names s k) (grammar.parameters_in s opening closing at) p
  unfolding walk.parameters_in grammar.parameters_in run_names
  parameters_run opening closing k at p g h =
      one_next_run s (run_names s k) p opening at _ _ _ _ g
      (λ e. one_in_run s (run_names s k) p opening at _ _ g e (parameter_names_run closing k (cursor_at s at).end p h))
      (λ e. done_run s (run_names s k) p [] at _ refl)

  -- ---- clauses

  pub run_fields_more : (xs : List Span) (x : Span) (p : Draft) → run_fields s (xs ++ (x ∷ [])) p ≡ clause_field s x.start x.end (run_fields s xs p)
  unfolding run_fields
  run_fields_more [] x p = refl
  run_fields_more (y ∷ xs) x p = run_fields_more xs x (clause_field s y.start y.end p)

  more_fields_run : (p : Draft) (f : ℕ) (xs : List Span) (at : ℕ)
      → more_fields s f (cursor_at s at) (run_fields s xs p) ≡ walked s (run_fields s) (repeated s (comma ∷ []) one_more_name f xs at) p
  unfolding more_fields repeated
  more_fields_run p zero xs at = done_run s (run_fields s) p xs at _ refl
  more_fields_run p (suc f) xs at =
      one_next_run s (run_fields s) p comma at _ _ _ _ (plain_one comma refl refl)
      (λ e. assoc_run s (run_fields s) p _ (token_in s (comma ∷ []) at) _ _
      (one_in_run s (run_fields s) p comma at _ _ (plain_one comma refl refl) e
      (assoc_run s (run_fields s) p _ (grammar.name s (cursor_at s at).end) _ _
      (pick_name_run s (run_fields s) p (cursor_at s at).end _ _
      (λ g. let d = cursor_at s (cursor_at s at).end in
      ap (more_fields s f (cursor_at s d.end)) (sym (run_fields_more xs (span_of d) p))
      ∙ more_fields_run p f (xs ++ (span_of d ∷ [])) d.end)))))
      (λ e. done_run s (run_fields s) p xs at _ refl)

  fields_run : (at : ℕ) (p : Draft) → clause_fields s (cursor_at s at) p ≡ walked s (run_fields s) (grammar.names s at) p
  unfolding clause_fields grammar.names run_fields
  fields_run at p =
      pick_name_run s (run_fields s) p at _ _ (λ e. more_fields_run p (length s) (span_of (cursor_at s at) ∷ []) (cursor_at s at).end)

  abbrev run_rest : List Span → Draft → Draft
  run_rest xs p = end_clause s (run_fields s xs p)

  abbrev fields_after : Parser (List Span)
  fields_after at = pick (next_in s (underscore ∷ []) at) (and_then (token_in s (underscore ∷ []) at) (λ t. give [])) (grammar.names s at)

  clause_rest_run : (at : ℕ) (p : Draft) → clause_rest s (cursor_at s at) p ≡ walked s run_rest (fields_after at) p
  unfolding clause_rest run_fields
  clause_rest_run at p =
      one_next_run s run_rest p underscore at _ _ _ _ (plain_one underscore refl refl)
      (λ e. one_in_run s run_rest p underscore at _ _ (plain_one underscore refl refl) e (done_run s run_rest p [] (cursor_at s at).end _ refl))
      (λ e. map_run s (run_fields s) (grammar.names s at) _ p (end_clause s) (fields_run at p))

  verb_run : (a : Span) (v : Verb) (at : ℕ) (p : Draft)
      → clause_rest s (cursor_at s at) (clause_verb (verb_number s v) (clause_party s a.start a.end p))
      ≡ walked s (run_clause s) (and_then (fields_after at) (λ xs. give (record { party = a; verb = v; fields = xs }))) p
  unfolding run_clause
  verb_run a v at p =
      give_run s (run_clause s) p run_rest (fields_after at) _ (clause_verb (verb_number s v) (clause_party s a.start a.end p)) _ (clause_rest_run at _) (λ xs n _. refl)

  clause_run_lem : (at : ℕ) (p : Draft) → walk.clause s (cursor_at s at) p ≡ walked s (run_clause s) (grammar.clause s at) p
  unfolding walk.clause grammar.clause clause_from grammar.verb
  clause_run_lem at p =
      pick_name_run s (run_clause s) p at _ _ (λ _.
      let n = (cursor_at s at).end in
      one_next_run s (run_clause s) p set_arrow n _ _ _ _ (plain_one set_arrow refl refl)
      (λ e. assoc_run s (run_clause s) p _ (token_in s (set_arrow ∷ []) n) _ _
      (one_in_run s (run_clause s) p set_arrow n _ _ (plain_one set_arrow refl refl) e (verb_run (span_of (cursor_at s at)) set (cursor_at s n).end p)))
      (λ e. assoc_run s (run_clause s) p _ (token_in s (ok_arrow ∷ []) n) _ _
      (pick_run s (run_clause s) p ok_arrow n _ _ (plain_one ok_arrow refl refl) (λ e. verb_run (span_of (cursor_at s at)) ok (cursor_at s n).end p)))
      ∙ ap (λ r. walked s (run_clause s) r p) (sym (pick_then (next_in s (set_arrow ∷ []) n) _ _ _)))

  pub run_clauses_more : (ks : List Clause) (k : Clause) (p : Draft) → run_clauses s (ks ++ (k ∷ [])) p ≡ run_clause s k (run_clauses s ks p)
  unfolding run_clauses
  run_clauses_more [] k p = refl
  run_clauses_more (j ∷ ks) k p = run_clauses_more ks k (run_clause s j p)

  pub clauses_run : (p : Draft) (f : ℕ) (ks : List Clause) (at : ℕ)
      → walk.clauses s f (cursor_at s at) (run_clauses s ks p)
      ≡ walked s (run_clauses s) (repeated s (nameKind ∷ []) (λ cs n. and_then (grammar.clause s n) (λ c. give (cs ++ (c ∷ [])))) f ks at) p
  unfolding clauses
  clauses_run p =
      loop_run s (run_clauses s) p (walk.clauses s) (walk.clause s) (nameKind ∷ []) _ (plain_one nameKind refl refl)
      (λ c q. refl)
      (λ f c q. ap (λ b. pick b (follow (walk.clause s c q) (walk.clauses s f)) (on c q)) (sym (one_kind nameKind c.kind)))
      (λ ks at e. give_run s (run_clauses s) p (run_clause s) (grammar.clause s at) _ (run_clauses s ks p) _ (clause_run_lem at (run_clauses s ks p)) (λ k n _. sym (run_clauses_more ks k p)))
