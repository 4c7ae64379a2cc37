-- The pass over a text is the grammar, then the run of its tree. Assumes nothing.
use mathlib.Core.Path.{◌≡◌, refl, sym, ap, subst, ◌∙◌}
use mathlib.Core.Bool.{true, false}
use mathlib.Core.List.{List, [], ◌∷◌, ◌++◌}
use Prim.Native.Nat.{ℕ, ◌<◌}
use native.Mathlib.Omega.{arith}
use lib.ListN.{length}
use Rattle.laws.specs.Choice.{pick}
use Rattle.words.specs.Words.{legal_contract, assets as assetsWord, fields as fieldsWord, agreement as agreementWord, state_arrow, open_paren, close_paren, open_brace, close_brace, open_bracket, close_bracket, colon, at_sign}
use Rattle.tokens.specs.Tokens.{name as nameKind}
use Rattle.contract.proofs.Zeros.{length_zeros}
use Rattle.contract.specs.Encode.{zeros}
use Rattle.entries.specs.Draft.{Draft, note, with_table, function_count, events_here, title, notes_length}
use Rattle.reading.specs.Syntax.{Span, none, Precondition, omitted, given, Function}
use Rattle.reading.specs.Grammar.{and_then, give, is_one_of, max_levels, token_in, place, repeated, parse}
use Rattle.reading.specs.Grammar as grammar
use Rattle.reading_laws.specs.Walk.{on, follow, cursor_at, nodes, token, state_at, name_here, head_of, function_head, function_parts, function_end, closed, walk}
use Rattle.reading_laws.specs.Walk as draft
use Rattle.reading_laws.proofs.Run.{walked, fresh, run_names, run_term, run_clauses, run_body, run_precondition, run_head, run_parts, run_function, run_functions, run_initial, run_contract}
use Rattle.reading_laws.proofs.WalksTokens.{plain_one, one_kind, span_of, place_in, one_in_run, one_next_run, after_token, after_name, after_state, place_token, follow_run, give_run, done_run, follow_after, follow_follow, loop_run}
use Rattle.reading_laws.proofs.WalksNames.{names_run, line_run, parameters_run, clauses_run}
use Rattle.reading_laws.proofs.WalksTerms.{condition_run}
use Rattle.reading_laws.proofs.NotesKept.{Keeps, keeps_then, none_spared, names_keep, clauses_keep, closed_keeps, state_keeps, header_keeps, parts_keep, functions_keep}
use Rattle.reading_laws.proofs.WalksBodies.{body_run}
use Rattle.reading_laws.proofs.WalksEnd.{ending_run}

long_enough : {n m : List ℕ} → Keeps notes_length n m → events_here < length n → events_here < length m
long_enough h l = subst (λ (k : ℕ). events_here < k) (sym h.long) l

module _ (s : List ℕ) where
  -- ---- functions

  precondition_run : (at : ℕ) (p : Draft) → draft.precondition s (cursor_at s at) p ≡ walked s (run_precondition s) (grammar.precondition s at) p
  unfolding draft.precondition grammar.precondition run_precondition
  precondition_run at p =
      one_next_run s (run_precondition s) p open_paren at _ _ _ _ (plain_one open_paren refl refl)
      (λ e. one_in_run s (run_precondition s) p open_paren at _ _ (plain_one open_paren refl refl) e
      (follow_run s (run_precondition s) p (run_term s false) (grammar.condition s max_levels (cursor_at s at).end) _ p _ _ ((condition_run s false max_levels).agrees (cursor_at s at).end p)
      (λ t m _. after_token s (run_precondition s) p close_paren m _ _ (plain_one close_paren refl refl) (λ _. done_run s (run_precondition s) p (given t) (cursor_at s m).end _ refl))))
      (λ e. done_run s (run_precondition s) p omitted at _ refl)

  -- a function without what its body holds
  abbrev begun_with : ℕ → Span → Span → Span → List Span → List Span → Precondition → Function
  begun_with o q a f zs ys t =
      record { place = o; state = q; party = a; name = f; values = zs; parameters = ys; precondition = t; body = record { statements = none; events = [] }; last = f }

  function_end_run : (p : Draft) (o : ℕ) (q a f : Span) (zs ys : List Span) (t : Precondition) (at : ℕ) → events_here < length p.notes
      → function_end s (note p.notes function_count) (nodes p) (note p.notes 7) (cursor_at s at) (run_parts s (begun_with o q a f zs ys t) (run_head s (begun_with o q a f zs ys t) p))
      ≡ walked s (run_function s)
      (and_then (grammar.body s at) (λ i m.
      and_then (token_in s (state_arrow ∷ []) m) (λ _ n.
      and_then (grammar.state s n) (λ l.
      give (record { place = o; state = q; party = a; name = f; values = zs; parameters = ys; precondition = t; body = i; last = l }))))) p
  unfolding function_end run_function
  function_end_run p o q a f zs ys t at long =
      let g = begun_with o q a f zs ys t in
      let r = run_parts s g (run_head s g p) in
      follow_run s (run_function s) p (run_body s) (grammar.body s at) _ r _ _
      (body_run s at r (long_enough (keeps_then (header_keeps notes_length none_spared refl s refl refl refl g p) (parts_keep notes_length none_spared refl s refl refl refl g (run_head s g p))) long))
      (λ i m _. after_token s (run_function s) p state_arrow m _ _ (plain_one state_arrow refl refl)
      (λ _. after_state s (run_function s) p (cursor_at s m).end _ _
      (λ _.
      let l = cursor_at s (cursor_at s (cursor_at s m).end).end in
      done_run s (run_function s) p
      (record { place = o; state = q; party = a; name = f; values = zs; parameters = ys; precondition = t; body = i; last = span_of l })
      l.end _ refl)))

  function_run : (at : ℕ) (p : Draft) → events_here < length p.notes → is_one_of (at_sign ∷ []) (cursor_at s at).kind ≡ true
      → draft.function s (cursor_at s at) p ≡ walked s (run_function s) (grammar.function s at) p
  unfolding draft.function grammar.function function_head function_parts
  function_run at p long start =
      let c = cursor_at s at in
      let q = cursor_at s c.end in
      let a = cursor_at s q.end in
      let d = cursor_at s a.end in
      let f = cursor_at s d.end in
      follow_after (state_at s c) _ _
      ∙ after_state s (run_function s) p at _ _ (λ _.
      follow_after (name_here s a) _ _
      ∙ after_name s (run_function s) p q.end _ _
      (follow_after (token s colon d) _ _
      ∙ after_token s (run_function s) p colon a.end _ _ (plain_one colon refl refl) (λ _.
      follow_after (name_here s f) _ _
      ∙ after_name s (run_function s) p d.end _ _
      (follow_follow (draft.parameters_in s open_paren close_paren 3 (cursor_at s f.end) (head_of s c q a f p)) _ _
      ∙ follow_run s (run_function s) p (run_names s 3) (grammar.parameters_in s open_paren close_paren f.end) _ (head_of s c q a f p) _ _
      (parameters_run s open_paren close_paren 3 f.end (head_of s c q a f p) (plain_one open_paren refl refl) (plain_one close_paren refl refl))
      (λ zs k _.
      follow_follow (draft.parameters_in s open_bracket close_bracket 4 (cursor_at s k) (run_names s 3 zs (head_of s c q a f p))) _ _
      ∙ follow_run s (run_function s) p (run_names s 4) (grammar.parameters_in s open_bracket close_bracket k) _ (run_names s 3 zs (head_of s c q a f p)) _ _
      (parameters_run s open_bracket close_bracket 4 k (run_names s 3 zs (head_of s c q a f p)) (plain_one open_bracket refl refl) (plain_one close_bracket refl refl))
      (λ ys l _.
      follow_run s (run_function s) p (run_precondition s) (grammar.precondition s l) _ (run_names s 4 ys (run_names s 3 zs (head_of s c q a f p))) _ _
      (precondition_run l (run_names s 4 ys (run_names s 3 zs (head_of s c q a f p))))
      (λ t m _. function_end_run p c.start (span_of q) (span_of a) (span_of f) zs ys t m long)))))))
      ∙ sym (ap
      (λ r. walked s (run_function s)
      (and_then r (λ o n. and_then (grammar.state s n) (λ q n. and_then (grammar.name s n) (λ a n. and_then (token_in s (colon ∷ []) n) (λ _ n. and_then (grammar.name s n) (λ f n.
      and_then (grammar.parameters_in s open_paren close_paren n) (λ zs n. and_then (grammar.parameters_in s open_bracket close_bracket n) (λ ys n. and_then (grammar.precondition s n) (λ t n.
      and_then (grammar.body s n) (λ i n. and_then (token_in s (state_arrow ∷ []) n) (λ _ n. and_then (grammar.state s n) (λ l.
      give (record { place = o; state = q; party = a; name = f; values = zs; parameters = ys; precondition = t; body = i; last = l }))))))))))))) p)
      (place_in s (at_sign ∷ []) at (plain_one at_sign refl refl) start))

  pub run_functions_more : (fs : List Function) (f : Function) (p : Draft) → run_functions s (fs ++ (f ∷ [])) p ≡ run_function s f (run_functions s fs p)
  unfolding run_functions
  run_functions_more [] f p = refl
  run_functions_more (g ∷ fs) f p = run_functions_more fs f (run_function s g p)

  functions_run : (p : Draft) → events_here < length p.notes → (f : ℕ) (fs : List Function) (at : ℕ)
      → draft.functions s f (cursor_at s at) (run_functions s fs p)
      ≡ walked s (run_functions s) (repeated s (at_sign ∷ []) (λ fs n. and_then (grammar.function s n) (λ f. give (fs ++ (f ∷ [])))) f fs at) p
  unfolding draft.functions
  functions_run p long =
      loop_run s (run_functions s) p (draft.functions s) (draft.function s) (at_sign ∷ []) _ (plain_one at_sign refl refl)
      (λ c q. refl)
      (λ f c q. ap (λ b. pick b (follow (draft.function s c q) (draft.functions s f)) (on c q)) (sym (one_kind at_sign c.kind)))
      (λ fs at e. give_run s (run_functions s) p (run_function s) (grammar.function s at) _ (run_functions s fs p) _
      (function_run at (run_functions s fs p) (long_enough (functions_keep notes_length none_spared refl s refl refl refl fs p) long) e) (λ f n _. sym (run_functions_more fs f p)))

  -- ---- the contract

  pub contract_run : (at : ℕ) (p : Draft) → events_here < length p.notes → draft.contract s (cursor_at s at) p ≡ walked s (run_contract s) (grammar.contract s at) p
  unfolding draft.contract grammar.contract draft.opening draft.declarations draft.agreement draft.agreement_rest draft.initial_state run_contract run_clauses run_functions
  contract_run at p long =
      let R = run_contract s in
      let a = cursor_at s at in
      let n = cursor_at s a.end in
      let o = cursor_at s n.end in
      let p1 = with_table p (title s n.start n.end p.table) in
      follow_after (token s legal_contract a) _ _
      ∙ after_token s R p legal_contract at _ _ (plain_one legal_contract refl refl) (λ _.
      follow_after (name_here s n) _ _
      ∙ after_name s R p a.end _ _
      (follow_after (token s open_brace o) _ _
      ∙ after_token s R p open_brace n.end _ _ (plain_one open_brace refl refl) (λ _.
      follow_follow (draft.line s assetsWord 1 (cursor_at s o.end) p1) _ _
      ∙ follow_run s R p (run_names s 1) (grammar.line s assetsWord o.end) _ p1 _ _ (line_run s assetsWord 1 o.end p1 (plain_one assetsWord refl refl))
      (λ hs b _.
      let p2 = run_names s 1 hs p1 in
      follow_run s R p (run_names s 2) (grammar.line s fieldsWord b) _ p2 _ _ (line_run s fieldsWord 2 b p2 (plain_one fieldsWord refl refl))
      (λ xs c _.
      let p3 = run_names s 2 xs p2 in
      follow_after (token s agreementWord (cursor_at s c)) _ _
      ∙ after_token s R p agreementWord c _ _ (plain_one agreementWord refl refl) (λ _.
      let d = (cursor_at s c).end in
      follow_after (token s open_paren (cursor_at s d)) _ _
      ∙ after_token s R p open_paren d _ _ (plain_one open_paren refl refl) (λ _.
      let e = (cursor_at s d).end in
      follow_follow (draft.names s 0 (cursor_at s e) p3) _ _
      ∙ follow_run s R p (run_names s 0) (grammar.names s e) _ p3 _ _ (names_run s 0 e p3)
      (λ ps f _.
      let p4 = run_names s 0 ps p3 in
      follow_after (token s close_paren (cursor_at s f)) _ _
      ∙ after_token s R p close_paren f _ _ (plain_one close_paren refl refl) (λ _.
      let g = (cursor_at s f).end in
      follow_after (token s open_brace (cursor_at s g)) _ _
      ∙ after_token s R p open_brace g _ _ (plain_one open_brace refl refl) (λ _.
      let h = (cursor_at s g).end in
      follow_follow (draft.clauses s (length s) (cursor_at s h) p4) _ _
      ∙ follow_run s R p (run_clauses s) (repeated s (nameKind ∷ []) (λ cs n. and_then (grammar.clause s n) (λ c. give (cs ++ (c ∷ [])))) (length s) [] h) _ p4 _ _
      (clauses_run s p4 (length s) [] h)
      (λ cs i _.
      let p5 = run_clauses s cs p4 in
      follow_after (token s close_brace (cursor_at s i)) _ _
      ∙ place_token s R p close_brace i _ _ (plain_one close_brace refl refl) (λ _.
      let p6 = closed (cursor_at s i).start p5 in
      let j = (cursor_at s i).end in
      follow_after (token s state_arrow (cursor_at s j)) _ _
      ∙ after_token s R p state_arrow j _ _ (plain_one state_arrow refl refl) (λ _.
      let k = (cursor_at s j).end in
      follow_after (state_at s (cursor_at s k)) _ _
      ∙ after_state s R p k _ _ (λ _.
      let q = cursor_at s (cursor_at s k).end in
      let p7 = run_initial s (span_of q) p6 in
      let long7 : events_here < length p7.notes =
      long_enough
      (keeps_then (names_keep notes_length none_spared s 1 (omega arith) hs p1)
      (keeps_then (names_keep notes_length none_spared s 2 (omega arith) xs p2)
      (keeps_then (names_keep notes_length none_spared s 0 (omega arith) ps p3)
      (keeps_then (clauses_keep notes_length none_spared s refl refl cs p4)
      (keeps_then (closed_keeps notes_length none_spared (cursor_at s i).start p5) (state_keeps notes_length none_spared s (span_of q) p6)))))) long in
      follow_run s R p (run_functions s) (repeated s (at_sign ∷ []) (λ fs n. and_then (grammar.function s n) (λ f. give (fs ++ (f ∷ [])))) (length s) [] q.end) _ p7 _ _
      (functions_run p7 long7 (length s) [] q.end)
      (λ fs m _. ending_run s R p
      (record { name = span_of n; assets = hs; fields = xs; parties = ps; clauses = cs; closing = (cursor_at s i).start; initial = span_of q; functions = fs })
      m _ refl)))))))))))))))

-- the pass over a text, where its notes have a word for the events of the function at hand
pub walk_run : (s : List ℕ) (p : Draft) → events_here < length p.notes → walk s p ≡ walked s (run_contract s) (parse s) p
walk_run s p long = contract_run s 0 p long

pub walk_fresh : (s : List ℕ) → walk s fresh ≡ walked s (run_contract s) (parse s) fresh
walk_fresh s = walk_run s fresh (let e : length (zeros notes_length) ≡ notes_length = length_zeros notes_length in omega (arith, e))
